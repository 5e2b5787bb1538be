use Rattle.std.proofs.Common.{◌∙◌, ap, sym, map}
use Rattle.std.specs.Prelude.{◌∷◌, codes}
use Rattle.std.specs.Fmt.{decimal, signed_decimal}
use Rattle.mi_base.specs.declared.records.LogEvent.TheVariants as event
use Rattle.mi_outside.proofs.SendingLemmas.{sends_as}
use Rattle.mi_print.specs.Render.{line, event_line}
use Rattle.mi_print.proofs.transcript.send_update.Goals as goal

pub returns-in-Insert : goal.returns-in-Insert
returns-in-Insert g c =
    sends_as _ _
    (ap (λ n. line (codes "insert") (decimal c.args.session ∷ decimal c.args.op ∷ decimal n ∷ map signed_decimal c.in-Insert.vector)) c.get.ensures.same
    ∙ ap (λ u. event_line (event.Update c.args.session c.args.op u)) (sym c.in-Insert.is))
    c.send_insert.ensures

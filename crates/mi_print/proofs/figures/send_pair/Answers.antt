use Rattle.std.proofs.Common.{refl}
use Rattle.std.specs.Prelude.{[], ◌∷◌, codes}
use Rattle.mi_outside.proofs.SendingLemmas.{sends_ended, sends_then_is}
use Rattle.mi_print.specs.Render.{number_line}
use Rattle.mi_print.proofs.figures.send_pair.Goals as goal

pub returns-in_err-send_numbers : goal.returns-in_err-send_numbers
returns-in_err-send_numbers g c =
    sends_ended _ c.from_residual.result
    (number_line c.args.word.now (c.args.number ∷ []))
    (number_line c.args.next_word.now (c.args.next ∷ []))
    _ c.from_residual.ensures.1
    (refl)
    c.in_err-send_numbers.ensures

pub returns : goal.returns
returns g c =
    sends_then_is
    (number_line c.args.word.now (c.args.number ∷ []))
    (number_line c.args.next_word.now (c.args.next ∷ []))
    _
    (refl)
    c.in_ok-send_numbers.ensures c.send_numbers-2.ensures

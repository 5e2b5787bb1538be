use Rattle.std.proofs.Common.{◌∙◌, ap, is_some, sym}
use Rattle.mi_entries.specs.Actors.{Actor}
use Rattle.mi_solo.proofs.CoreLemmas.{row_is}
use Rattle.mi_solo.proofs.cores.Core.fresh.Goals as goal

pub returns : goal.returns
returns c = c.has_fresh.ensures ∙ ap (λ (r : Actor). is_some r.fresh) (sym (row_is c.args.self.now c.args.actor c.requires c.index.result.now c.index.ensures))

use Rattle.std.proofs.Common.{ap, sym}
use Rattle.mi_entries.specs.Actors.{Actor}
use Rattle.mi_solo.proofs.CoreLemmas.{row_is}
use Rattle.mi_solo.proofs.cores.Core.lacked.Goals as goal

pub returns : goal.returns
returns c = ap (λ (r : Actor). r.lacked) (sym (row_is c.args.self.now c.args.actor c.requires c.index.result.now c.index.ensures))

use Rattle.mi_blink.proofs.WalkLemmas.{none_at_root}
use Rattle.mi_blink.proofs.laws.walks_begin.Goals as goal

pub returns : goal.returns
returns c = none_at_root

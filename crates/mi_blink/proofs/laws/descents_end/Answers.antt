use Rattle.mi_blink.proofs.DescentLemmas.{descent_longest}
use Rattle.mi_blink.proofs.laws.descents_end.Goals as goal

pub returns : goal.returns
returns c = descent_longest

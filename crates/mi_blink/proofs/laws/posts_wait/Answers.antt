use Rattle.mi_blink.proofs.OthersLemmas.{ready_stays}
use Rattle.mi_blink.proofs.laws.posts_wait.Goals as goal

pub returns : goal.returns
returns c = ready_stays

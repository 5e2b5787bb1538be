use Rattle.mi_blink.proofs.OthersLemmas.{begun_posted}
use Rattle.mi_blink.proofs.laws.posts_begin_with_their_child.Goals as goal

pub returns : goal.returns
returns c = begun_posted

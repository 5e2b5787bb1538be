use Rattle.mi_blink.proofs.OthersLemmas.{begun_ready}
use Rattle.mi_blink.proofs.laws.posts_begin.Goals as goal

pub returns : goal.returns
returns c = begun_ready

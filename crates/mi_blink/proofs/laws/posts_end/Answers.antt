use Rattle.mi_blink.proofs.TurnLemmas.{left_most}
use Rattle.mi_blink.proofs.laws.posts_end.Goals as goal

pub returns : goal.returns
returns c = left_most

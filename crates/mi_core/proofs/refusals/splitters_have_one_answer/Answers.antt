use Rattle.mi_core.proofs.RefusalLemmas.{one_work}
use Rattle.mi_core.proofs.refusals.splitters_have_one_answer.Goals as goal

pub returns : goal.returns
returns c = λ s k. one_work s k.sound

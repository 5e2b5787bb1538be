use Rattle.mi_call.proofs.MeaningLemmas.{one_history}
use Rattle.mi_call.proofs.laws.one_text_has_one_history.Goals as goal

pub returns : goal.returns
returns c = one_history

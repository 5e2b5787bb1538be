use Rattle.mi_print.proofs.MeaningLemmas.{one_meaning}
use Rattle.mi_print.proofs.laws.one_text_has_one_meaning.Goals as goal

pub returns : goal.returns
returns c = one_meaning

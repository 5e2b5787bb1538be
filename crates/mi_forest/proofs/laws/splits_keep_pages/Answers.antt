use Rattle.mi_forest.proofs.SplitLemmas.{halves_keep, halves_flat, halves_new}
use Rattle.mi_forest.proofs.laws.splits_keep_pages.Goals as goal

pub returns : goal.returns
returns c = λ f g h n q w. (halves_keep f g h n q w, halves_flat f g h n q w, halves_new f g h n q w)

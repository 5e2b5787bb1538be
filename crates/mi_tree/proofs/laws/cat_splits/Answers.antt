use Rattle.mi_tree.proofs.CatLemmas.{cat-split}
use Rattle.mi_tree.proofs.laws.cat_splits.Goals as goal

pub returns : goal.returns
returns c = cat-split

use Rattle.mi_tree.proofs.CatLemmas.{cat-insert}
use Rattle.mi_tree.proofs.laws.cat_inserts.Goals as goal

pub returns : goal.returns
returns c = cat-insert

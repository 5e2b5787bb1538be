use Rattle.mi_tree.proofs.CatLemmas.{cat-delete}
use Rattle.mi_tree.proofs.laws.cat_deletes.Goals as goal

pub returns : goal.returns
returns c = cat-delete

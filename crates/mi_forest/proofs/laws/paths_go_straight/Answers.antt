use Rattle.mi_forest.proofs.PathLemmas.{root_on_way, child_on_way, on_path}
use Rattle.mi_forest.proofs.laws.paths_go_straight.Goals as goal

pub returns-clause-root : goal.returns-clause-root
returns-clause-root c = root_on_way

pub returns-clause-child : goal.returns-clause-child
returns-clause-child c = child_on_way

pub returns-clause-path : goal.returns-clause-path
returns-clause-path c = on_path

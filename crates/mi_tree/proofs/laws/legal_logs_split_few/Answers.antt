use Rattle.mi_base.specs.Configuration.{space_of}
use Rattle.mi_tree.proofs.GridLemmas.{space_is_grid}
use Rattle.mi_tree.proofs.SplitsLemmas.{few_splits}
use Rattle.mi_tree.proofs.laws.legal_logs_split_few.Goals as goal

pub returns : goal.returns
returns c = λ settings log limits legal. few_splits settings log (space_is_grid (space_of settings) settings.levels limits.few_pivots limits.levels) legal

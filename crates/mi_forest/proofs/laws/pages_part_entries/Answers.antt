use Rattle.mi_forest.proofs.FlatLemmas.{flat_ascends, leaf_entries}
use Rattle.mi_forest.proofs.laws.pages_part_entries.Goals as goal

pub returns-clause-order : goal.returns-clause-order
returns-clause-order c = flat_ascends

pub returns-clause-own : goal.returns-clause-own
returns-clause-own c = leaf_entries

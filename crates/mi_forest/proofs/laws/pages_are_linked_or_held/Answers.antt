use Rattle.mi_forest.proofs.HandLemmas.{linked_or_held, allotted_below}
use Rattle.mi_forest.proofs.laws.pages_are_linked_or_held.Goals as goal

pub returns-clause-each : goal.returns-clause-each
returns-clause-each c = linked_or_held

pub returns-clause-linked : goal.returns-clause-linked
returns-clause-linked c = allotted_below

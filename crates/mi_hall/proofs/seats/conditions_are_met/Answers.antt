use Rattle.mi_hall.proofs.SeatConditions.{visit_seated, in_leaf_seated, seek_seated, insert_seated, delete_seated, child_seated, post_seated, gather_seated, gathered_seated}
use Rattle.mi_hall.proofs.seats.conditions_are_met.Goals as goal

pub returns-clause-visit : goal.returns-clause-visit
returns-clause-visit c = visit_seated

pub returns-clause-inside : goal.returns-clause-inside
returns-clause-inside c = in_leaf_seated

pub returns-clause-seek : goal.returns-clause-seek
returns-clause-seek c = seek_seated

pub returns-clause-insert : goal.returns-clause-insert
returns-clause-insert c = insert_seated

pub returns-clause-delete : goal.returns-clause-delete
returns-clause-delete c = delete_seated

pub returns-clause-child : goal.returns-clause-child
returns-clause-child c = child_seated

pub returns-clause-post : goal.returns-clause-post
returns-clause-post c = post_seated

pub returns-clause-gather : goal.returns-clause-gather
returns-clause-gather c = gather_seated

pub returns-clause-gathered : goal.returns-clause-gathered
returns-clause-gathered c = gathered_seated

use Rattle.mi_solo.proofs.HandLemmas.{bare_shown, cells_shown, free_shown, none_shown, pin_shown, split_shown, whole_shown}
use Rattle.mi_solo.proofs.views.hands_are_shown.Goals as goal

pub returns-clause-free : goal.returns-clause-free
returns-clause-free c = free_shown

pub returns-clause-whole : goal.returns-clause-whole
returns-clause-whole c = whole_shown

pub returns-clause-bare : goal.returns-clause-bare
returns-clause-bare c = bare_shown

pub returns-clause-pin : goal.returns-clause-pin
returns-clause-pin c = pin_shown

pub returns-clause-cells : goal.returns-clause-cells
returns-clause-cells c = cells_shown

pub returns-clause-split : goal.returns-clause-split
returns-clause-split c = split_shown

pub returns-clause-none : goal.returns-clause-none
returns-clause-none c = none_shown

use Rattle.mi_solo.proofs.RouteLaws.{full_kept, parts, parts_after_trim, parts_none}
use Rattle.mi_solo.proofs.pages.halves_follow.Goals as goal

pub returns-clause-parted : goal.returns-clause-parted
returns-clause-parted c = λ page child node. parts page node child

pub returns-clause-roomy : goal.returns-clause-roomy
returns-clause-roomy c = parts_none

pub returns-clause-trimmed : goal.returns-clause-trimmed
returns-clause-trimmed c = parts_after_trim

pub returns-clause-full : goal.returns-clause-full
returns-clause-full c = full_kept

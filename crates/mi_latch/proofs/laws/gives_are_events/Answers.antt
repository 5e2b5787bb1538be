use Rattle.mi_latch.proofs.BoardGives.{board_does, both_does, commit_does}
use Rattle.mi_latch.proofs.PageDoings.{page_does}
use Rattle.mi_latch.proofs.laws.gives_are_events.Goals as goal

pub returns-clause-board : goal.returns-clause-board
returns-clause-board c = board_does

pub returns-clause-beside : goal.returns-clause-beside
returns-clause-beside c = both_does

pub returns-clause-commit : goal.returns-clause-commit
returns-clause-commit c = commit_does

pub returns-clause-page : goal.returns-clause-page
returns-clause-page c = page_does

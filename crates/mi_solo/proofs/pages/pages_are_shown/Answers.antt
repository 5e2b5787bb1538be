use Rattle.mi_solo.proofs.DescentLemmas.{has_sibling, shows_page}
use Rattle.mi_solo.proofs.LaterLemmas.{linked_at}
use Rattle.mi_core.specs.State.{node_at}
use Rattle.mi_solo.proofs.pages.pages_are_shown.Goals as goal

pub returns-clause-linked : goal.returns-clause-linked
returns-clause-linked c = λ s a r page. linked_at (node_at s.pages page)

pub returns-clause-shown : goal.returns-clause-shown
returns-clause-shown c = shows_page

pub returns-clause-sibling : goal.returns-clause-sibling
returns-clause-sibling c = has_sibling

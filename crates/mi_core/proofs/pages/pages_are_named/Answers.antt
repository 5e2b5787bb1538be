use Rattle.mi_core.proofs.NamedLemmas.{child_named, few_levels, first_page, right_named, root_named}
use Rattle.mi_core.proofs.pages.pages_are_named.Goals as goal

pub returns-clause-root : goal.returns-clause-root
returns-clause-root c = λ s k. root_named s k.sound

pub returns-clause-right : goal.returns-clause-right
returns-clause-right c = λ s k. right_named s k.sound

pub returns-clause-child : goal.returns-clause-child
returns-clause-child c = λ s k. child_named s k.sound

pub returns-clause-first : goal.returns-clause-first
returns-clause-first c = λ s k. first_page s k.sound

pub returns-clause-height : goal.returns-clause-height
returns-clause-height c = λ s k. few_levels s k.sound

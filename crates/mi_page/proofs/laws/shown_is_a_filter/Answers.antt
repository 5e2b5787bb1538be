use Rattle.mi_page.proofs.LawLemmas.{shown_filter, shown_order}
use Rattle.mi_page.proofs.laws.shown_is_a_filter.Goals as goal

pub returns-clause-filter : goal.returns-clause-filter
returns-clause-filter c = shown_filter

pub returns-clause-order : goal.returns-clause-order
returns-clause-order c = shown_order

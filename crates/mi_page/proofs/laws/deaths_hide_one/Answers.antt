use Rattle.mi_page.proofs.LawLemmas.{death_before, death_after}
use Rattle.mi_page.proofs.laws.deaths_hide_one.Goals as goal

pub returns-clause-before : goal.returns-clause-before
returns-clause-before c = death_before

pub returns-clause-after : goal.returns-clause-after
returns-clause-after c = death_after

use Rattle.mi_forest.proofs.AllotLemmas.{first_is}
use Rattle.mi_forest.proofs.WalkLemmas.{page_of}
use Rattle.mi_forest.proofs.LawLemmas.{one_page}
use Rattle.mi_forest.proofs.laws.keys_have_pages.Goals as goal

pub returns-clause-first : goal.returns-clause-first
returns-clause-first c = first_is

pub returns-clause-page : goal.returns-clause-page
returns-clause-page c = page_of

pub returns-clause-alone : goal.returns-clause-alone
returns-clause-alone c = one_page

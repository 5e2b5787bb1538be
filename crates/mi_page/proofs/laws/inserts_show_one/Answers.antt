use Rattle.mi_page.proofs.LawLemmas.{insert_shows, insert_hides}
use Rattle.mi_page.proofs.laws.inserts_show_one.Goals as goal

pub returns-clause-shown : goal.returns-clause-shown
returns-clause-shown c = insert_shows

pub returns-clause-hidden : goal.returns-clause-hidden
returns-clause-hidden c = insert_hides

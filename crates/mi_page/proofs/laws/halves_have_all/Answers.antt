use Rattle.std.proofs.lemmas.List.{take-append-drop}
use Rattle.mi_page.proofs.laws.halves_have_all.Goals as goal

pub returns-clause-entries : goal.returns-clause-entries
returns-clause-entries c = λ p number. take-append-drop 16 p.entries

pub returns-clause-routes : goal.returns-clause-routes
returns-clause-routes c = λ p number. take-append-drop 16 p.routes

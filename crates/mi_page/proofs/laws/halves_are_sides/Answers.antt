use Rattle.mi_page.proofs.HalfLemmas.{entry_sides, route_sides}
use Rattle.mi_page.proofs.laws.halves_are_sides.Goals as goal

pub returns-clause-entries : goal.returns-clause-entries
returns-clause-entries c = entry_sides

pub returns-clause-routes : goal.returns-clause-routes
returns-clause-routes c = route_sides

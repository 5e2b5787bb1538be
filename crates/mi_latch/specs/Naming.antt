-- Which pages a page in hand names.
use Rattle.std.specs.Prelude.{ℕ, ◌-◌, List, [], ◌∷◌, ◌++◌, map, Option, Some, None}
use Rattle.mi_page.specs.declared.routes.Route.{Route}
use Rattle.mi_page.specs.Nodes.{Node}
use Rattle.mi_core.specs.Named.{Named}

-- its right sibling, of its level, which begins at its high key
abbrev pub sibling_of : ℕ → Option ℕ → Option ℕ → List Named
sibling_of level None high = []
sibling_of level (Some right) None = []
sibling_of level (Some right) (Some high) = record { page = right; level = level; low = high } ∷ []

-- the child of a route, one level below, which begins at the route's key
abbrev pub child_by : ℕ → Route → Named
child_by level x = record { page = x.child; level = level - 1; low = x.key }

-- its right sibling and its children
abbrev pub names_of : Node → List Named
names_of n = sibling_of n.level n.right n.high ++ map (child_by n.level) n.routes

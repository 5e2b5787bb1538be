-- Lists of routes in key order.
use Rattle.std.specs.Prelude.{◌≡◌, ◌≤◌, ℕ, List, map, Bool, Some, slice_get}
use Rattle.std.specs.declared.cmp.Ordering.{Ordering}
use Rattle.std.specs.Ordering.{nat_cmp, on}
use Rattle.std.specs.List.{AllByRecursion}
use Rattle.mi_base.specs.Prefixes.{has}
use Rattle.mi_page.specs.declared.routes.Route.{Route}

abbrev pub route_keys : List Route → List ℕ
route_keys routes = map (λ r. r.key) routes

-- by key
abbrev pub route_cmp : Route → Route → Ordering
route_cmp = on (λ r. r.key) nat_cmp

-- a route has this key
abbrev pub has_route : ℕ → List Route → Bool
has_route key routes = has key (route_keys routes)

-- the child is that of the route with the greatest key not above this one
pub record IsChild (key : ℕ) (routes : List Route) (child : ℕ) : Type 0 where
  pub place : ℕ
  pub route : Route
  pub there : slice_get routes place ≡ Some route
  pub not_above : route.key ≤ key
  pub greatest : AllByRecursion (λ r. r.key ≤ key → r.key ≤ route.key) routes
  pub is : child ≡ route.child

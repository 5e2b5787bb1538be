-- Routes that are there, and the way to a key by them.
use Rattle.std.specs.Prelude.{◌≡◌, ◌<◌, ◌+◌, ℕ, List, map, true, None}
use Rattle.mi_base.specs.Prefixes.{has}
use Rattle.mi_page.specs.declared.routes.Route.{Route}
use Rattle.mi_page.specs.Routes.{IsChild}
use Rattle.mi_page.specs.Keys.{IsInside}
use Rattle.mi_forest.specs.Forests.{Forest, IsLinked}

-- the pages that routes lead to
abbrev pub children_of : List Route → List ℕ
children_of routes = map (λ r. r.child) routes

-- a linked page one level up has a route to this page
pub record IsRouted (f : Forest) (n : ℕ) : Type 0 where
  pub parent : ℕ
  pub linked : IsLinked f parent
  pub height : (f.node parent).level ≡ (f.node n).level + 1
  pub child : has n (children_of (f.node parent).routes) ≡ true

-- all routes are there, and the root has all keys
pub record IsComplete (f : Forest) : Type 0 where
  pub routed : (n : ℕ) → IsLinked f n → (f.node n).level < (f.node f.root).level → 0 < (f.node n).low → IsRouted f n
  pub alone : (f.node f.root).right ≡ None

-- a page on the way to a key: the key is in its range
pub record IsOnWay (f : Forest) (key n : ℕ) : Type 0 where
  pub linked : IsLinked f n
  pub inside : IsInside (f.node n).low (f.node n).high key

-- the way from the root to a page, by the child that each page gives
pub data IsPath (f : Forest) (key : ℕ) : ℕ → Type 0 where
  Root : IsPath f key f.root
  Child : (n child : ℕ) → IsPath f key n → 0 < (f.node n).level → IsChild key (f.node n).routes child → IsPath f key child

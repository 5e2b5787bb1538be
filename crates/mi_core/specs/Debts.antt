-- Routes that are there, and routes that are owed.
use Rattle.std.specs.Prelude.{◌≡◌, ◌<◌, ◌⊎◌, ℕ, ◌+◌, List, [], map, true, Option, Some, None, slice_get}
use Rattle.std.specs.List.{AllByRecursion}
use Rattle.mi_base.specs.Prefixes.{has}
use Rattle.mi_page.specs.Nodes.{Node}
use Rattle.mi_forest.specs.Paths.{children_of}
use Rattle.mi_core.specs.Events.{Can, Event, after}
use Rattle.mi_core.specs.Events.Event.{absorb}
use Rattle.mi_core.specs.Kept.{Kept}
use Rattle.mi_entries.specs.Actors.{Actor, Owed}
use Rattle.mi_core.specs.State.{State, node_at}

-- a page one level up has a route to this page
pub record IsRouted (pages : List (Option Node)) (n level : ℕ) : Type 0 where
  pub parent : ℕ
  pub node : Node
  pub there : node_at pages parent ≡ Some node
  pub height : node.level ≡ level + 1
  pub child : has n (children_of node.routes) ≡ true

-- an actor owes this page its route
pub record IsOwed (actors : List Actor) (n : ℕ) : Type 0 where
  pub by : ℕ
  pub actor : Actor
  pub there : slice_get actors by ≡ Some actor
  pub owes : has n (map (λ o. o.child) actor.owed) ≡ true

-- a route that is owed: its child is linked, one level lower, and begins at its key, above the lowest one
pub record IsDebt (pages : List (Option Node)) (o : Owed) : Type 0 where
  pub below : Node
  pub there : node_at pages o.child ≡ Some below
  pub level : below.level + 1 ≡ o.level
  pub low : below.low ≡ o.key
  pub above : 0 < o.key

-- each page but the leftmost of its level has its route, or is owed one
pub record Debts (pages : List (Option Node)) (actors : List Actor) : Type 0 where
  pub stand : (a : ℕ) (r : Actor) → slice_get actors a ≡ Some r → AllByRecursion (IsDebt pages) r.owed
  pub owed : (n : ℕ) (p : Node) → node_at pages n ≡ Some p → 0 < p.low → IsRouted pages n p.level ⊎ IsOwed actors n

-- no debt is forgotten
abbrev pub Remembers : Event → Type 0
Remembers (absorb b t) = t.owed ≡ []
Remembers _ = Unit {0}

-- the event keeps the debts, unless it ends an actor that has some
abbrev pub KeepsDebts : Event → Type 0
KeepsDebts e = (s : State) → Kept s → Debts s.pages s.actors → (a : ℕ) (r : Actor) → slice_get s.actors a ≡ Some r → Can s a r e → Remembers e → Debts (after s a r e).pages (after s a r e).actors

-- on each level below the root's each page but the leftmost has its route, and the root has no right sibling
pub record Linked (s : State) : Type 0 where
  pub routed : (n : ℕ) (p : Node) → node_at s.pages n ≡ Some p → p.level < s.board.height → 0 < p.low → IsRouted s.pages n p.level
  pub alone : (p : Node) → node_at s.pages s.board.root ≡ Some p → p.right ≡ None

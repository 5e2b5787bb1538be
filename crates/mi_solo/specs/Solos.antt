-- A core in the turn of one of its actors.
use Rattle.std.specs.Prelude.{◌≡◌, ◌<◌, ◌⊎◌, ℕ, length, false, Option, Some, None}
use Rattle.std.proofs.Common.{inl, refl}
use Rattle.mi_core.specs.Events.{Event, Leads}
use Rattle.mi_core.specs.Events.Event.{absorb, depart, fork}
use Rattle.mi_core.specs.State.{State}
use Rattle.mi_page.specs.Nodes.{Node}
use Rattle.mi_solo.specs.States.{actor_in, view_in}
use Rattle.mi_world.specs.View.{View}

-- a state, and the actor whose turn it is
pub record SoloState : Type 0 where
  pub state : State
  pub turn : ℕ

-- the view of the actor whose turn it is
abbrev pub view_of : SoloState → View
view_of t = view_in t.state t.turn

-- the actor was made, and hasn't ended
pub record MayTurn (s : State) (a : ℕ) : Type 0 where
  pub made : a < length s.actors
  pub going : (actor_in s a).ended ≡ false

-- no actor is made by the event, ended or left
abbrev pub IsCall : Event → Type 0
IsCall fork = ⊥
IsCall (absorb other r) = ⊥
IsCall depart = ⊥
IsCall e = Unit {0}

-- a call is an event of one actor, and makes no other and ends none
pub record Calls (s : State) (a : ℕ) (t : State) : Type 0 where
  pub leads : Leads s a t
  pub call : IsCall leads.event

-- at most one event of the actor whose turn it is leads from the one to the other, and the turn stays
abbrev pub Section : SoloState → SoloState → Type 0
Section old new = (new ≡ old) ⊎ ((new.turn ≡ old.turn) × Calls old.state old.turn new.state)

-- no event is at most one
pub section_none : (t : SoloState) → Section t t
section_none t = inl refl

-- how many entries a page has, where it is linked
abbrev pub entries_on : Option Node → ℕ
entries_on None = 0
entries_on (Some n) = length n.entries

-- What the sections of actors make of a core.
use Rattle.std.specs.Prelude.{◌≡◌, ◌⊎◌, ℕ, List, Option, Some, None}
use Rattle.std.proofs.Common.{inl, inr}
use Rattle.std.specs.List.{AllByRecursion}
use Rattle.mi_core.specs.Events.{Event}
use Rattle.mi_core.specs.State.{State}
use Rattle.mi_solo.specs.Solos.{Calls, IsCall}
use Rattle.mi_settle.specs.Turns.{Turn}

-- at most one call of the actor leads from one state to the other
abbrev pub Moves : State → ℕ → State → Type 0
Moves s a t = (t ≡ s) ⊎ Calls s a t

-- the event of that call
abbrev pub event_of : (s : State) (a : ℕ) (t : State) → Moves s a t → Option Event
event_of s a t (inl same) = None
event_of s a t (inr calls) = Some calls.leads.event

-- no turn makes an actor or ends one
abbrev pub MakesCall : Option Event → Type 0
MakesCall None = Unit {0}
MakesCall (Some e) = IsCall e

abbrev pub MakeCalls : List Turn → Type 0
MakeCalls turns = AllByRecursion (λ u. MakesCall u.event) turns

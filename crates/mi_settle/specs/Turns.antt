-- A run of the core as a list of turns, and operations in it.
use Rattle.std.specs.Prelude.{◌≡◌, ◌⊎◌, ◌==◌, ◌&&◌, ◌||◌, [], ◌∷◌, ℕ, Bool, true, false, cond, not, List, Option, Some, None, length}
use Rattle.std.specs.List.{filter, fold}
use Rattle.mi_base.specs.declared.records.LogEvent.TheVariants as event
use Rattle.mi_core.specs.Events.{Event, Leads}
use Rattle.mi_core.specs.Events.Event.{see}
use Rattle.mi_core.specs.State.{State}

-- a turn: whose it is, the event that it makes, if any, whether it is the first and whether it is the last of an operation, and the states
-- before and after it
pub record Turn : Type 0 where
  pub actor : ℕ
  pub event : Option Event
  pub begins : Bool
  pub ends : Bool
  pub before : State
  pub after : State

-- the actor's event leads from one state to the other
abbrev pub LeadsBy : Event → State → ℕ → State → Type 0
LeadsBy e s a t = (leads : Leads s a t) × (leads.event ≡ e)

-- An actor that comes to its turn may see the whole log, which changes its own record alone. Then its event leads on, or nothing more changes.
abbrev pub ComesTo : State → ℕ → State → Type 0
ComesTo s a m = (m ≡ s) ⊎ LeadsBy see s a m

abbrev pub Goes : Option Event → State → ℕ → State → Type 0
Goes None m a t = t ≡ m
Goes (Some e) m a t = LeadsBy e m a t

pub record Makes (event : Option Event) (s : State) (a : ℕ) (t : State) : Type 0 where
  pub between : State
  pub comes : ComesTo s a between
  pub goes : Goes event between a t

-- each turn begins in the state that the turn before it left, and makes at most one event, which is its actor's
abbrev pub Chained : State → List Turn → State → Type 0
Chained s [] t = s ≡ t
Chained s (u ∷ us) t = (u.before ≡ s) × Makes u.event u.before u.actor u.after × Chained u.after us t

-- an operation of the actor is under way after one more turn
abbrev pub busy_after : ℕ → Bool → Turn → Bool
busy_after a busy u = cond (u.actor == a) (not u.ends && (u.begins || busy)) busy

-- an operation of the actor is under way after these turns
abbrev pub busy : ℕ → List Turn → Bool
busy a turns = fold (busy_after a) false turns

-- how many operations of the actor have ended
abbrev pub ended : ℕ → List Turn → ℕ
ended a turns = length (filter (λ u. (u.actor == a) && u.ends) turns)

-- an operation begins only where none is under way, and only one that is under way, or that begins, ends
abbrev pub InTurn : ℕ → Bool → List Turn → Type 0
InTurn a busy [] = Unit {0}
InTurn a busy (u ∷ us) = ((u.actor == a) ≡ true → ((u.begins ≡ true → busy ≡ false) × (u.ends ≡ true → (u.begins || busy) ≡ true))) × InTurn a (busy_after a busy u) us

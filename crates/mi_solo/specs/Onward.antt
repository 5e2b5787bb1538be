-- What views never lose, and what others' events make of them.
use Rattle.std.specs.Prelude.{◌≡◌, ◌≢◌, ◌≤◌, ℕ, false, Some, slice_get}
use Rattle.mi_entries.specs.Actors.{Actor}
use Rattle.mi_core.specs.Events.{Can, Event, after}
use Rattle.mi_core.specs.Kept.{Kept}
use Rattle.mi_core.specs.Later.{IsLater, Spares}
use Rattle.mi_core.specs.State.{State}
use Rattle.mi_solo.specs.Viewing.{given_in, shown_to}
use Rattle.mi_world.specs.View.{Others, View}

-- a later state, in which as many leaves at least were given to be swept
pub record Onward (old new : State) : Type 0 where
  pub later : IsLater old new
  pub given : given_in old.board ≤ given_in new.board

-- what an actor's own event makes of its view, where it hasn't ended
abbrev pub Makes : Event → (State → View → View → Type 0) → Type 0
Makes e relation = (s : State) → Kept s → (a : ℕ) (r q : Actor) → slice_get s.actors a ≡ Some r → r.ended ≡ false → Can s a r e → slice_get (after s a r e).actors a ≡ Some q
    → relation s (shown_to s a r) (shown_to (after s a r e) a q)

-- to every other actor that it doesn't end, the event is one of others
abbrev pub IsOthers : Event → Type 0
IsOthers e = (s : State) → Kept s → (a : ℕ) (r : Actor) → slice_get s.actors a ≡ Some r → r.ended ≡ false → Can s a r e → (b : ℕ) (t : Actor) → slice_get s.actors b ≡ Some t → b ≢ a → Spares e b
    → Others (shown_to s b t) (shown_to (after s a r e) b t)

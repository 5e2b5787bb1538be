-- The law of the core, and what many events lead to.
use Rattle.std.specs.Prelude.{◌≡◌, ℕ, [], false, Some, slice_get}
use Rattle.mi_base.specs.declared.settings.MetricKind.TheVariants.{L1}
use Rattle.mi_base.specs.Configuration.{Configuration}
use Rattle.mi_core.specs.Events.{Can, Event, Leads, after}
use Rattle.mi_core.specs.Kept.{Kept}
use Rattle.mi_entries.specs.Actors.{Actor}
use Rattle.mi_core.specs.State.{State}

-- an event of an actor that hasn't ended leads from a state that is kept to one that is
abbrev pub Keeps : Event → Type 0
Keeps e = (s : State) → Kept s → (a : ℕ) (r : Actor) → slice_get s.actors a ≡ Some r → r.ended ≡ false → Can s a r e → Kept (after s a r e)

-- events of any actors, one after another, lead from one state to another
pub data Reaches (s : State) : State → Type 0 where
  Here : Reaches s s
  Step : (t u : State) (a : ℕ) → Reaches s t → Leads t a u → Reaches s u

-- the settings of a small index
abbrev pub small_settings : Configuration
small_settings = record { metric = L1; dims = 2; rows = []; pivots = []; levels = 0; cell = 4; updates = 8; pages = 4 }

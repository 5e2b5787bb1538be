-- A leaf that is to be split.
use Rattle.std.specs.Prelude.{◌≡◌, ◌≢◌, ◌<◌, ℕ, List, true, length, Some, slice_get}
use Rattle.std.specs.List.{filter}
use Rattle.mi_base.specs.declared.records.LogEvent.{LogEvent}
use Rattle.mi_base.specs.Configuration.{Configuration}
use Rattle.mi_base.specs.History.{live, updates_of}
use Rattle.mi_tree.specs.Cells.{is_leaf}
use Rattle.mi_tree.specs.Counting.{belongs}
use Rattle.mi_core.specs.Events.{Can, Event, after}
use Rattle.mi_core.specs.Kept.{Kept}
use Rattle.mi_entries.specs.Actors.{Actor}
use Rattle.mi_core.specs.State.{State}
use Rattle.mi_entries.specs.Entries.{grid}

-- it is a leaf after the log, above the greatest depth, and has more live objects than the cell size
pub record IsWanted (c : Configuration) (log : List LogEvent) (p : List ℕ) : Type 0 where
  pub leaf : is_leaf (grid c) log p ≡ true
  pub above : length p < c.levels
  pub many : c.cell < length (filter (belongs (grid c) p) (live (updates_of log)))

-- no event of another actor ends it while an actor claims the leaf
abbrev pub StaysWanted : Event → Type 0
StaysWanted e = (s : State) → Kept s → (a : ℕ) (r : Actor) → slice_get s.actors a ≡ Some r → Can s a r e → (b : ℕ) (t : Actor) (p : List ℕ) → slice_get s.actors b ≡ Some t → b ≢ a → t.claim ≡ Some p
    → IsWanted s.board.settings s.board.log p → IsWanted (after s a r e).board.settings (after s a r e).board.log p

-- What never changes again.
use Rattle.std.specs.Prelude.{◌≡◌, ◌≢◌, ◌≤◌, ℕ, List, ◌++◌, length, Option, Some, slice_get}
use Rattle.mi_base.specs.declared.records.LogEvent.{LogEvent}
use Rattle.mi_page.specs.Nodes.{Node}
use Rattle.mi_core.specs.Events.{Can, Event, after}
use Rattle.mi_core.specs.Events.Event.{absorb}
use Rattle.mi_core.specs.Kept.{Kept}
use Rattle.mi_entries.specs.Actors.{Actor}
use Rattle.mi_core.specs.State.{State, node_at}

-- a page is linked still, with its level and its low key
pub record IsStill (pages : List (Option Node)) (n : ℕ) (p : Node) : Type 0 where
  pub now : Node
  pub there : node_at pages n ≡ Some now
  pub level : now.level ≡ p.level
  pub low : now.low ≡ p.low

-- the settings stay, the log grows at its end, and no page, no level and no actor goes
pub record IsLater (s t : State) : Type 0 where
  pub settings : t.board.settings ≡ s.board.settings
  pub more : List LogEvent
  pub log : t.board.log ≡ s.board.log ++ more
  pub allotted : s.board.allotted ≤ t.board.allotted
  pub height : s.board.height ≤ t.board.height
  pub actors : length s.actors ≤ length t.actors
  pub pages : (n : ℕ) (p : Node) → node_at s.pages n ≡ Some p → IsStill t.pages n p

-- the event leads to such a later state
abbrev pub LeadsOn : Event → Type 0
LeadsOn e = (s : State) → Kept s → (a : ℕ) (r : Actor) → slice_get s.actors a ≡ Some r → Can s a r e → IsLater s (after s a r e)

-- the event is not the end of this actor
abbrev pub Spares : Event → ℕ → Type 0
Spares (absorb b t) c = c ≢ b
Spares _ c = Unit {0}

-- the records of others stay
abbrev pub SparesOthers : Event → Type 0
SparesOthers e = (s : State) (a : ℕ) (r : Actor) → Can s a r e → (c : ℕ) (t : Actor) → slice_get s.actors c ≡ Some t → c ≢ a → Spares e c → slice_get (after s a r e).actors c ≡ Some t

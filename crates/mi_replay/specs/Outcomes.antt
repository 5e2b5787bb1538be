-- What a replay of scripts leaves.
use Rattle.std.specs.Prelude.{◌≡◌, ◌||◌, ◌++◌, ℕ, Bool, false, List, length, map, Result}
use Rattle.std.specs.List.{list_any}
use Rattle.mi_base.specs.declared.refusals.NoMemory.{NoMemory}
use Rattle.mi_base.specs.declared.records.Op.{Op}
use Rattle.mi_base.specs.declared.records.ScheduleItem.{ScheduleItem}
use Rattle.mi_base.specs.Configuration.{Configuration}
use Rattle.mi_core.specs.State.{State}
use Rattle.mi_legal.specs.Want.{has_memory}
use Rattle.mi_replay.specs.declared.seats.Seat.{Seat}
use Rattle.mi_settle.specs.declared.splitters.SplitterSeat.{SplitterSeat}
use Rattle.mi_replay.specs.declared.tables.Table.{Table}
use Rattle.mi_settle.specs.Headlines.{Headline}
use Rattle.mi_replay.specs.InOrder.{InOrder}
use Rattle.mi_settle.specs.Settling.{Settles, is_refused}
use Rattle.mi_settle.specs.Splitters.{gave_up}
use Rattle.mi_settle.specs.Turns.{ComesTo}
use Rattle.mi_solo.specs.States.{actor_in}
use Rattle.mi_tree.specs.declared.outcomes.Outcome.{Outcome}
use Rattle.mi_settle.specs.Outcomes.{IsOutcomeIn}

-- memory was wanted for a page of some actor
abbrev pub lacks_page : State → Bool
lacks_page s = list_any (λ r. r.lacked) s.actors

-- An outcome is short exactly where memory was wanted: by an operation, for a page, or by a split of the splitter that was given up for it.
abbrev pub is_short_of : (c : Configuration) (scripts : List (List Op)) (schedule : List ScheduleItem) (o : Outcome) → InOrder c scripts schedule o → Bool
is_short_of c scripts schedule o run = has_memory o.replies || (lacks_page run.last || list_any (gave_up (length scripts) false) (run.turns ++ run.settling))

-- The outcome of scripts after a schedule: what each outcome of scripts tells, of a run in the order of the schedule, and short only where memory was
-- wanted.
pub record Played (c : Configuration) (scripts : List (List Op)) (schedule : List ScheduleItem) (o : Outcome) : Type 0 where
  pub headline : Headline c scripts o
  pub order : InOrder c scripts schedule o
  pub short_is : o.short ≡ is_short_of c scripts schedule o order

-- where actors only come to turns, what they share and what they lack stays
pub record SameButSeen (s t : State) : Type 0 where
  pub board : t.board ≡ s.board
  pub pages : t.pages ≡ s.pages
  pub actors : length t.actors ≡ length s.actors
  pub ended : (a : ℕ) → (actor_in t a).ended ≡ (actor_in s a).ended
  pub lacked : (a : ℕ) → (actor_in t a).lacked ≡ (actor_in s a).lacked

-- the splitter, which is actor n, comes to its turn and settles; the outcome tells of the state after that, of the seats' replies, and of what
-- was wanted
pub record IsLeft (n pages : ℕ) (s : State) (seats : List Seat) (x : SplitterSeat) (o : Outcome) : Type 0 where
  pub before : State
  pub comes : ComesTo s n before
  pub result : Result (Unit {0}) NoMemory
  pub last : State
  pub settles : Settles n before result last
  pub core : IsOutcomeIn last.board.settings o last
  pub limit_is : o.limit ≡ pages
  pub replies_are : o.replies ≡ map (λ a. a.replies.items) seats
  pub short_is : o.short ≡ (has_memory o.replies || (lacks_page last || (x.wanted || is_refused result)))

-- the same of a table
abbrev pub IsLeftBy : ℕ → ℕ → Table → Outcome → Type 0
IsLeftBy n pages t o = IsLeft n pages t.solo.state t.seats.items t.splitter o

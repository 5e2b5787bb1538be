-- All sessions and the splitter at one core.
use Rattle.std.specs.Prelude.{◌≡◌, ◌<◌, ◌≤◌, ◌+◌, ◌-◌, ◌⊎◌, ℕ, true, false, List, [], ◌∷◌, ◌++◌, Some, None, is_some, length, slice_get}
use Rattle.mi_base.specs.declared.records.Actor.{Actor}
use Rattle.mi_base.specs.declared.records.Actor.TheVariants.{Session, Splitter}
use Rattle.mi_base.specs.declared.records.Op.{Op}
use Rattle.mi_base.specs.declared.records.ScheduleItem.{ScheduleItem}
use Rattle.mi_base.specs.declared.records.Take.{Take}
use Rattle.mi_base.specs.declared.records.Take.TheVariants as take
use Rattle.mi_base.specs.Configuration.{Configuration}
use Rattle.mi_core.specs.Events.{opened}
use Rattle.mi_core.specs.Kept.{Kept}
use Rattle.mi_core.specs.State.{State}
use Rattle.mi_replay.specs.declared.seats.Seat.{Seat}
use Rattle.mi_settle.specs.declared.splitters.SplitterSeat.{SplitterSeat}
use Rattle.mi_replay.specs.declared.tables.Table.{Table}
use Rattle.mi_replay.specs.InOrder.{Blocks, rounds}
use Rattle.mi_replay.specs.Seats.{SeatAt, SeatWaits, is_over}
use Rattle.mi_settle.specs.Splitters.{SplitterAt, SplitterWaits}
use Rattle.mi_settle.specs.Turns.{Turn}

-- each may make its next turn
pub record TableWaits (scripts : List (List Op)) (s : State) (seats : List Seat) (x : SplitterSeat) : Type 0 where
  pub kept : Kept s
  pub count : length seats ≡ length scripts
  pub actors : length s.actors ≡ length scripts + 1
  pub each : (j : ℕ) (os : List Op) (a : Seat) → slice_get scripts j ≡ Some os → slice_get seats j ≡ Some a → SeatWaits s j os a
  pub splitter : SplitterWaits s (length scripts) x

-- where all stand after these turns
pub record TableAt (c : Configuration) (scripts : List (List Op)) (turns : List Turn) (s : State) (seats : List Seat) (x : SplitterSeat) : Type 0 where
  pub settings : s.board.settings ≡ c
  pub each : (j : ℕ) (os : List Op) (a : Seat) → slice_get scripts j ≡ Some os → slice_get seats j ≡ Some a → SeatAt c turns s j os a
  pub splitter : SplitterAt turns s (length scripts) x

-- the core that scripts begin with: an actor for each, and the splitter
abbrev pub beginning : Configuration → List (List Op) → State
beginning c scripts = opened c (length scripts + 1) (c.pages - 1)

-- the blocks of some items were made, from the beginning on
pub record Ran (c : Configuration) (scripts : List (List Op)) (items : List ScheduleItem) (s : State) (seats : List Seat) (x : SplitterSeat) : Type 0 where
  pub turns : List Turn
  pub blocks : Blocks scripts [] (beginning c scripts) items turns s
  pub at : TableAt c scripts turns s seats x
  pub waits : TableWaits scripts s seats x

-- more items: whatever was made before, their blocks are made
pub record ItemsMade (scripts : List (List Op)) (items : List ScheduleItem) (s : State) (seats : List Seat) (x : SplitterSeat) (t : State) (others : List Seat) (y : SplitterSeat) : Type 0 where
  pub on : (c : Configuration) (earlier : List ScheduleItem) → Ran c scripts earlier s seats x → Ran c scripts (earlier ++ items) t others y
  pub settings : t.board.settings ≡ s.board.settings
  pub waits : TableWaits scripts t others y

abbrev pub ItemMade : List (List Op) → Actor → Take → State → List Seat → SplitterSeat → State → List Seat → SplitterSeat → Type 0
ItemMade scripts actor taken s seats x t others y = ItemsMade scripts (record { actor = actor; take = taken } ∷ []) s seats x t others y

-- the session is there, and there is a turn
abbrev pub ActorIsOver : ℕ → Actor → Type 0
ActorIsOver n (Session k) = k < n
ActorIsOver n Splitter = Unit {0}

abbrev pub TakeIsOver : Take → Type 0
TakeIsOver (take.Turns n) = 1 ≤ n
TakeIsOver take.Operation = Unit {0}

abbrev pub IsItemOver : ℕ → ScheduleItem → Type 0
IsItemOver n i = ActorIsOver n i.actor × TakeIsOver i.take

-- each script has ended
abbrev pub AllOver : List (List Op) → List Seat → Type 0
AllOver scripts seats = (j : ℕ) (os : List Op) (a : Seat) → slice_get scripts j ≡ Some os → slice_get seats j ≡ Some a → is_over os a ≡ true

-- a script has not ended, or an operation of the splitter is under way
abbrev pub NotOver : List (List Op) → List Seat → SplitterSeat → Type 0
NotOver scripts seats x =
    (is_some x.care.task ≡ true) ⊎ ((j : ℕ) × (os : List Op) × (a : Seat) × (slice_get scripts j ≡ Some os) × (slice_get seats j ≡ Some a) × (is_over os a ≡ false))

-- the schedule was run, and so many rounds after it, until nothing was left
pub record Finished (c : Configuration) (scripts : List (List Op)) (schedule : List ScheduleItem) (s : State) (seats : List Seat) (x : SplitterSeat) : Type 0 where
  pub many : ℕ
  pub ran : Ran c scripts (schedule ++ rounds (length scripts) many) s seats x
  pub over : AllOver scripts seats
  pub rests : x.care.task ≡ None

-- the same of a table
abbrev pub settings_of : Table → Configuration
settings_of t = t.solo.state.board.settings

abbrev pub Waits : List (List Op) → Table → Type 0
Waits scripts t = TableWaits scripts t.solo.state t.seats.items t.splitter

abbrev pub HasRun : Configuration → List (List Op) → List ScheduleItem → Table → Type 0
HasRun c scripts items t = Ran c scripts items t.solo.state t.seats.items t.splitter

abbrev pub Makes : List (List Op) → List ScheduleItem → Table → Table → Type 0
Makes scripts items t u = ItemsMade scripts items t.solo.state t.seats.items t.splitter u.solo.state u.seats.items u.splitter

abbrev pub MakesOne : List (List Op) → Actor → Take → Table → Table → Type 0
MakesOne scripts actor taken t u = Makes scripts (record { actor = actor; take = taken } ∷ []) t u

abbrev pub IsOver : List (List Op) → Table → Type 0
IsOver scripts t = AllOver scripts t.seats.items × (t.splitter.care.task ≡ None)

abbrev pub IsNotOver : List (List Op) → Table → Type 0
IsNotOver scripts t = NotOver scripts t.seats.items t.splitter

abbrev pub HasFinished : Configuration → List (List Op) → List ScheduleItem → Table → Type 0
HasFinished c scripts schedule t = Finished c scripts schedule t.solo.state t.seats.items t.splitter

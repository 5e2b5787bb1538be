-- The splitter while scripts are run: where it stands after some turns, and what its own turns make of that.
use Rattle.std.specs.Prelude.{◌≡◌, ◌<◌, ◌≤◌, ◌+◌, ◌-◌, ◌*◌, ◌==◌, ◌&&◌, ◌||◌, ◌⊎◌, ℕ, Bool, true, false, List, [], ◌∷◌, ◌++◌, Option, Some, None, is_some, length, not}
use Rattle.std.specs.List.{AllByRecursion, filter, list_any}
use Rattle.mi_base.specs.History.{splits_of}
use Rattle.mi_board.specs.Boards.{BoardState, floor_of, is_passed}
use Rattle.mi_core.specs.Events.{Event}
use Rattle.mi_core.specs.Events.Event.{give_up}
use Rattle.mi_core.specs.Kept.{Kept}
use Rattle.mi_core.specs.State.{State}
use Rattle.mi_job.specs.declared.care.CareTurn.{CareTurn}
use Rattle.mi_job.specs.declared.care.CareTurn.TheVariants.{More, Idle, Done, Memory}
use Rattle.mi_job.specs.declared.care.Task.{Task}
use Rattle.mi_job.specs.declared.care.Task.TheVariants.{Sweep, Split}
use Rattle.mi_job.specs.Caring as caring
use Rattle.mi_job.specs.Claims.{ClaimsNone}
use Rattle.mi_tree.specs.Growing.{GrowsBySplits}
use Rattle.mi_tree.specs.Legal.{cells_of}
use Rattle.mi_solo.specs.Solos.{MayTurn}
use Rattle.mi_solo.specs.States.{actor_in, view_in}
use Rattle.mi_settle.specs.declared.splitters.SplitterSeat.{SplitterSeat}
use Rattle.mi_settle.specs.Working.{AllBy, BeginsAtOnce, BeginsWork, IsIdle, LastEndsWork}
use Rattle.mi_settle.specs.Moving.{MakeCalls, Moves}
use Rattle.mi_settle.specs.Turns.{Turn, Chained, ComesTo, InTurn, busy}

-- the event gives a split up, for want of pages or else of memory
abbrev pub is_given_up : Bool → Option Event → Bool
is_given_up true (Some (give_up pages)) = pages
is_given_up false (Some (give_up true)) = false
is_given_up false (Some (give_up false)) = true
is_given_up pages event = false

-- in this turn the actor gave a split up
abbrev pub gave_up : ℕ → Bool → Turn → Bool
gave_up a pages u = (u.actor == a) && is_given_up pages u.event

-- where the splitter, which is actor a, stands after these turns
pub record SplitterAt (turns : List Turn) (s : State) (a : ℕ) (x : SplitterSeat) : Type 0 where
  pub busy_is : busy a turns ≡ is_some x.care.task
  pub in_turn : InTurn a false turns
  pub begins : AllByRecursion (BeginsWork a) turns
  -- it has made no update
  pub own : (view_in s a).own ≡ []
  -- a split was given up for want of memory, or of pages
  pub wanted_is : x.wanted ≡ list_any (gave_up a false) turns
  pub full : list_any (gave_up a true) turns ≡ true → s.board.allotted ≡ s.board.settings.pages

-- its next section may be made; a leaf that it claims, for a split, isn't passed over
pub record SplitterWaits (s : State) (a : ℕ) (x : SplitterSeat) : Type 0 where
  pub may : MayTurn s a
  pub ready : caring.Ready x.care (view_in s a)
  pub unpassed : (p : List ℕ) → (actor_in s a).claim ≡ Some p → is_passed p s.board ≡ false

abbrev pub lacks_memory : CareTurn → Bool
lacks_memory More = false
lacks_memory Idle = false
lacks_memory Done = false
lacks_memory Memory = true

-- one section of the splitter
pub record SplitterTurned (a : ℕ) (s : State) (x : SplitterSeat) (r : CareTurn) (y : SplitterSeat) (t : State) : Type 0 where
  pub turned : caring.Turned x.care (view_in s a) r y.care (view_in t a)
  pub moves : Moves s a t
  pub wanted : y.wanted ≡ (x.wanted || lacks_memory r)

-- What the splitter made of a block: its turns, and where it stands after them, whatever came before.
pub record SplitterMade (a : ℕ) (s : State) (x : SplitterSeat) (t : State) (y : SplitterSeat) (made : List Turn) : Type 0 where
  pub chained : Chained s made t
  pub by : AllBy a made
  pub calls : MakeCalls made
  pub gave : y.wanted ≡ (x.wanted || list_any (gave_up a false) made)
  pub at : (turns : List Turn) → SplitterAt turns s a x → SplitterAt (turns ++ made) t a y
  pub waits : SplitterWaits t a y

-- a block of one operation: none is under way then, and one has ended or there is nothing to do
pub record SplitterGoing (a : ℕ) (s : State) (x : SplitterSeat) (t : State) (y : SplitterSeat) : Type 0 where
  pub made : List Turn
  pub is : SplitterMade a s x t y made
  pub over : y.care.task ≡ None
  pub claims : ClaimsNone (view_in t a)
  pub stops : LastEndsWork made ⊎ IsIdle t.board

-- why a block of one operation stops
abbrev pub StopsAt : CareTurn → List Turn → State → Type 0
StopsAt More made t = ⊥
StopsAt Idle made t = IsIdle t.board
StopsAt Done made t = LastEndsWork made
StopsAt Memory made t = LastEndsWork made

-- How much the splitter can still do alone: the splits that a legal log may still have, the retired leaves that are to be swept, and the
-- leaves that aren't passed over.
abbrev pub splits_left : BoardState → ℕ
splits_left b = b.settings.updates * b.settings.levels - splits_of b.log

abbrev pub leaves_left : BoardState → ℕ
leaves_left b = length b.retired + length (filter (λ leaf. not (is_passed leaf.prefix b)) (cells_of b.settings b.log))

-- a sweep under way counts as one of a retired leaf
abbrev pub sweeping : Option Task → ℕ
sweeping None = 0
sweeping (Some (Sweep sweep)) = 1
sweeping (Some (Split split)) = 0

-- an operation that ended was one of these
abbrev pub HasLess : ℕ → State → ℕ → State → Type 0
HasLess n s m t = (splits_left t.board < splits_left s.board) ⊎ ((splits_left t.board ≤ splits_left s.board) × (leaves_left t.board + m < leaves_left s.board + n))

-- a block of one operation, with its last answer
pub record SplitterFinished (a : ℕ) (s : State) (x : SplitterSeat) (r : CareTurn) (t : State) (y : SplitterSeat) : Type 0 where
  pub made : List Turn
  pub is : SplitterMade a s x t y made
  -- the same where a split was given up before, or none was
  pub anew : (wanted : Bool) → SplitterMade a s (record { care = x.care; wanted = wanted }) t (record { care = y.care; wanted = wanted || lacks_memory r }) made
  pub kept : Kept t
  pub over : y.care.task ≡ None
  pub claims : ClaimsNone (view_in t a)
  pub stops : StopsAt r made t
  pub floor : r ≡ Idle → (actor_in t a).floor ≡ floor_of t.board
  pub wanted : y.wanted ≡ (x.wanted || lacks_memory r)
  pub grows : GrowsBySplits s.board.log t.board.log
  pub less : r ≡ Done → HasLess (sweeping x.care.task) s 0 t

-- a turn is a section of the splitter
pub record IsSection (a : ℕ) (x : SplitterSeat) (u : Turn) (y : SplitterSeat) : Type 0 where
  pub between : State
  pub comes : ComesTo u.before a between
  pub answer : CareTurn
  pub turned : SplitterTurned a between x answer y u.after

-- and so is each turn, where the next one finds what it leaves
abbrev pub AreSections : ℕ → SplitterSeat → List Turn → SplitterSeat → Type 0
AreSections a x [] y = x ≡ y
AreSections a x (u ∷ us) y = (z : SplitterSeat) × IsSection a x u z × AreSections a z us y

-- a block of so many turns, each of them a section
pub record SplitterTurnsMade (a : ℕ) (s : State) (x : SplitterSeat) (n : ℕ) (t : State) (y : SplitterSeat) : Type 0 where
  pub made : List Turn
  pub is : SplitterMade a s x t y made
  pub sections : AreSections a x made y
  pub head : x.care.task ≡ None → (IsIdle s.board → ⊥) → BeginsAtOnce made
  pub count : length made ≡ n

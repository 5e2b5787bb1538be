-- The schedule decides the order: a run of the core, cut into one block for each item of the schedule and of the finishing rounds.
use Rattle.std.specs.Prelude.{◌≡◌, ◌<◌, ◌+◌, ◌-◌, ◌⊎◌, ◌++◌, [], ◌∷◌, ℕ, ℤ, zero, suc, true, false, List, Option, Some, length, slice_get}
use Rattle.std.specs.List.{AllByRecursion}
use Rattle.mi_base.specs.declared.records.Actor.{Actor}
use Rattle.mi_base.specs.declared.records.Actor.TheVariants.{Session, Splitter}
use Rattle.mi_base.specs.declared.records.Op.{Op}
use Rattle.mi_base.specs.declared.records.Op.TheVariants.{Insert, Delete}
use Rattle.mi_base.specs.declared.records.Reply.{Reply}
use Rattle.mi_base.specs.declared.records.ScheduleItem.{ScheduleItem}
use Rattle.mi_base.specs.declared.records.Take.{Take}
use Rattle.mi_base.specs.declared.records.Take.TheVariants as take
use Rattle.mi_base.specs.Configuration.{Configuration}
use Rattle.mi_base.specs.Permutations.{begins}
use Rattle.mi_core.specs.Events.{Event, opened}
use Rattle.mi_core.specs.Events.Event.{give_up}
use Rattle.mi_core.specs.State.{State}
use Rattle.mi_entries.specs.Records.{home, shard_at}
use Rattle.mi_solo.specs.Viewing.{holder_from}
use Rattle.mi_tree.specs.declared.outcomes.Outcome.{Outcome}
use Rattle.mi_tree.specs.Births.{Born, living}
use Rattle.mi_tree.specs.Placing.{grid_under}
use Rattle.mi_world.specs.View.{IsOther}
use Rattle.mi_settle.specs.Turns.{Turn, Chained, InTurn, busy, ended}
use Rattle.mi_replay.specs.Operations.{Operations}
use Rattle.mi_settle.specs.Outcomes.{IsOutcomeIn}
use Rattle.mi_settle.specs.Working.{AllBy, BeginsAtOnce, IsIdle, LastEndsWork, BeginsWork}

-- another actor holds the shard of the update's identifier
abbrev pub ShardIsHeld : State → ℕ → Op → Type 0
ShardIsHeld s a (Insert id vector) = IsOther (shard_at s.shards (home id)).holder a
ShardIsHeld s a (Delete id) = IsOther (shard_at s.shards (home id)).holder a
ShardIsHeld s a o = ⊥

-- another actor claims a leaf to which the vector belongs
pub record LeafIsClaimed (s : State) (a : ℕ) (vector : List ℤ) : Type 0 where
  pub prefix : List ℕ
  pub belongs : begins prefix ((grid_under s.board.settings).perm vector) ≡ true
  pub other : IsOther (holder_from 0 s.board.actors prefix) a

-- another actor claims a leaf to which a vector of the update belongs: the new one of an insert, the old one of a delete
abbrev pub LeafIsHeld : State → ℕ → Op → Type 0
LeafIsHeld s a (Insert id vector) = LeafIsClaimed s a vector
LeafIsHeld s a (Delete id) = (old : Born) × (living id s.board.log ≡ Some old) × LeafIsClaimed s a old.vector
LeafIsHeld s a o = ⊥

-- the operation of a script that is under way after these turns is held up by another actor in this state
pub record IsHeldUp (script : List Op) (k : ℕ) (turns : List Turn) (t : State) : Type 0 where
  pub op : Op
  pub under_way : slice_get script (ended k turns) ≡ Some op
  pub begun : busy k turns ≡ true
  pub held : ShardIsHeld t k op ⊎ LeafIsHeld t k op

-- `K,COUNT`: so many turns; the first begins an operation where none is under way and some are left
pub record SessionTurns (k count : ℕ) (script : List Op) (earlier block : List Turn) : Type 0 where
  pub count_is : length block ≡ count
  pub begins : busy k earlier ≡ false → ended k earlier < length script → BeginsAtOnce block

-- `K,op`: one operation ends, or nothing is left, or another actor holds the operation up
abbrev pub SessionOperation : ℕ → List Op → List Turn → List Turn → State → Type 0
SessionOperation k script earlier block t =
    (ended k block ≡ 1) ⊎ ((busy k earlier ≡ false) × (ended k earlier ≡ length script)) ⊎ IsHeldUp script k (earlier ++ block) t

-- `splitter,COUNT`: so many turns; the first begins an operation where none is under way and there is something to do
pub record SplitterTurns (a count : ℕ) (earlier block : List Turn) (s : State) : Type 0 where
  pub count_is : length block ≡ count
  pub begins : busy a earlier ≡ false → (IsIdle s.board → ⊥) → BeginsAtOnce block

-- `splitter,op`: no operation is under way then, and one has ended, or there is nothing to do
pub record SplitterOperation (a : ℕ) (earlier block : List Turn) (t : State) : Type 0 where
  pub none : busy a (earlier ++ block) ≡ false
  pub stops : LastEndsWork block ⊎ IsIdle t.board

-- a block is its actor's, and as its item says; s is the state before it and t the one after it
abbrev pub IsBlock : List (List Op) → List Turn → State → Actor → Take → List Turn → State → Type 0
IsBlock scripts earlier s (Session k) (take.Turns n) block t = (script : List Op) × (slice_get scripts k ≡ Some script) × AllBy k block × SessionTurns k n script earlier block
IsBlock scripts earlier s (Session k) take.Operation block t = (script : List Op) × (slice_get scripts k ≡ Some script) × AllBy k block × SessionOperation k script earlier block t
IsBlock scripts earlier s Splitter (take.Turns n) block t = AllBy (length scripts) block × SplitterTurns (length scripts) n earlier block s
IsBlock scripts earlier s Splitter take.Operation block t = AllBy (length scripts) block × SplitterOperation (length scripts) earlier block t

-- the blocks of these items one after another, from one state to another, after earlier turns
abbrev pub Blocks : List (List Op) → List Turn → State → List ScheduleItem → List Turn → State → Type 0
Blocks scripts earlier s [] turns t = (turns ≡ []) × (s ≡ t)
Blocks scripts earlier s (i ∷ is) turns t =
    (block : List Turn) × (later : List Turn) × (m : State) × (turns ≡ block ++ later) × Chained s block m × IsBlock scripts earlier s i.actor i.take block m
    × Blocks scripts (earlier ++ block) m is later t

-- `op` for each of so many sessions in ascending number
abbrev pub operations_of : ℕ → List ScheduleItem
operations_of zero = []
operations_of (suc k) = operations_of k ++ record { actor = Session k; take = take.Operation } ∷ []

-- one finishing round: `op` for each session, and then for the splitter
abbrev pub round : ℕ → List ScheduleItem
round sessions = operations_of sessions ++ record { actor = Splitter; take = take.Operation } ∷ []

abbrev pub rounds : ℕ → ℕ → List ScheduleItem
rounds sessions zero = []
rounds sessions (suc n) = rounds sessions n ++ round sessions

-- a session's operations, each from its first turn to its last, one after the other, and all have ended
pub record SessionInOrder (c : Configuration) (turns : List Turn) (k : ℕ) (script : List Op) (replies : List Reply) : Type 0 where
  pub to : ℕ
  pub operations : Operations c turns k 1 0 to script replies
  pub all : length replies ≡ length script
  pub in_turn : InTurn k false turns
  pub over : busy k turns ≡ false
  pub ended_are : ended k turns ≡ length replies

-- a splitter's operations begin and end one at a time, each with work to do
pub record SplitterInOrder (a : ℕ) (turns : List Turn) : Type 0 where
  pub in_turn : InTurn a false turns
  pub begins : AllByRecursion (BeginsWork a) turns

-- a split of the splitter is given up for pages only where all are allotted at the end, and else for memory, of which the outcome tells
abbrev pub GivesUpRightly : Configuration → Outcome → Option Event → Type 0
GivesUpRightly c o (Some (give_up true)) = o.allotted ≡ c.pages
GivesUpRightly c o (Some (give_up false)) = o.short ≡ true
GivesUpRightly c o event = Unit {0}

-- a run from the opening to the outcome
pub record InOrder (c : Configuration) (scripts : List (List Op)) (schedule : List ScheduleItem) (o : Outcome) : Type 0 where
  -- the blocks of the schedule and of so many rounds lead from the opened core to a state in which the splitter has nothing under way
  pub many : ℕ
  pub turns : List Turn
  pub finished : State
  pub blocks : Blocks scripts [] (opened c (length scripts + 1) (c.pages - 1)) (schedule ++ rounds (length scripts) many) turns finished
  pub rests : busy (length scripts) turns ≡ false
  -- settling follows, by the splitter alone
  pub settling : List Turn
  pub last : State
  pub settles : Chained finished settling last
  pub by_splitter : AllBy (length scripts) settling
  pub outcome : IsOutcomeIn c o last
  pub splitter : SplitterInOrder (length scripts) (turns ++ settling)
  pub given_up : AllByRecursion (λ u. u.actor ≡ length scripts → GivesUpRightly c o u.event) (turns ++ settling)
  pub count : length o.replies ≡ length scripts
  pub sessions : (k : ℕ) (script : List Op) (ys : List Reply) → slice_get scripts k ≡ Some script → slice_get o.replies k ≡ Some ys → SessionInOrder c (turns ++ settling) k script ys

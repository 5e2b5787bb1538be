-- A session while its script is run: where it stands after some turns, and what its own turns make of that.
use Rattle.std.specs.Prelude.{◌≡◌, ◌≤◌, ◌+◌, ◌==◌, ◌&&◌, ◌⊎◌, ℕ, Bool, true, false, List, [], ◌∷◌, ◌++◌, Option, Some, None, MatchOption, is_none, is_some, length, slice_get, vec_capacity}
use Rattle.mi_base.specs.declared.records.Op.{Op}
use Rattle.mi_base.specs.Configuration.{Configuration, metric_space, space_of}
use Rattle.mi_base.specs.History.{Entered}
use Rattle.mi_base.specs.Scripts.{IsScriptOver}
use Rattle.mi_base.specs.Space.{Space}
use Rattle.mi_core.specs.State.{State}
use Rattle.mi_job.specs.declared.job.Job.{Job}
use Rattle.mi_job.specs.declared.job.Operation.{Operation}
use Rattle.mi_job.specs.declared.job.Operation.TheVariants.{Nearest}
use Rattle.mi_job.specs.declared.turns.JobTurn.{JobTurn}
use Rattle.mi_job.specs.declared.turns.JobTurn.TheVariants as job
use Rattle.mi_job.specs.Claims.{ClaimsNone, IsHeld}
use Rattle.mi_job.specs.Jobs.{Begun, Ready, Since, Turned, asked, is_query, number_in, op_number, since_in}
use Rattle.mi_legal.specs.Legal.{accepted_in}
use Rattle.mi_nearest.specs.declared.nearest.NearestState.{NearestState}
use Rattle.mi_nearest.specs.declared.nearest.NearestState.TheVariants as near
use Rattle.mi_solo.specs.Solos.{MayTurn}
use Rattle.mi_solo.specs.States.{view_in}
use Rattle.mi_world.specs.View.{View}
use Rattle.mi_replay.specs.declared.seats.Seat.{Seat}
use Rattle.mi_replay.specs.declared.seats.Taken.{Taken}
use Rattle.mi_replay.specs.declared.seats.Taken.TheVariants.{More, Held, Ended}
use Rattle.mi_settle.specs.Working.{AllBy, BeginsAtOnce}
use Rattle.mi_replay.specs.InOrder.{LeafIsHeld, ShardIsHeld}
use Rattle.mi_settle.specs.Moving.{MakeCalls, Moves}
use Rattle.mi_settle.specs.Turns.{Turn, Chained, ComesTo, InTurn, busy, ended}
use Rattle.mi_replay.specs.Operations.{EntersAt, IsTurnOf, Operations}

-- nothing is under way and nothing is left
abbrev pub is_over : List Op → Seat → Bool
is_over script a = is_none a.job && (length a.replies.items == length script)

-- nothing is under way, nothing was replied, and there is room for so many replies
pub record IsEmpty (room : ℕ) (a : Seat) : Type 0 where
  pub none : a.job ≡ None
  pub empty : a.replies.items ≡ []
  pub room_is : vec_capacity a.replies ≡ room

-- the operation whose section is next: the one under way, or the next one of the script
abbrev pub IsNext : Space → List Op → Seat → Option Job → Job → Type 0
IsNext space script a (Some j) old = old ≡ j
IsNext space script a None old = (o : Op) × (slice_get script (length a.replies.items) ≡ Some o) × Begun old o (length a.replies.items + 1) space

-- it is under way
abbrev pub TakesUp : Space → List Op → Seat → Option Job → Type 0
TakesUp space script a under = (j : Job) × (under ≡ Some j) × IsNext space script a a.job j

-- a session waits for its next turn
abbrev pub WaitsAt : Option Job → View → Type 0
WaitsAt None v = ClaimsNone v
WaitsAt (Some j) v = Ready j v

-- an operation under way is this one of the script
abbrev pub AsksAt : List Op → ℕ → Option Job → Type 0
AsksAt script n None = Unit {0}
AsksAt script n (Some j) = slice_get script n ≡ Some (asked j)

pub record SeatWaits (s : State) (k : ℕ) (script : List Op) (a : Seat) : Type 0 where
  pub may : MayTurn s k
  pub fits : IsScriptOver (metric_space s.board.settings) script
  pub at : WaitsAt a.job (view_in s k)
  pub few : length a.replies.items ≤ length script
  pub asks : AsksAt script (length a.replies.items) a.job
  pub room : length script ≤ vec_capacity a.replies

-- a section may be made
pub record SeatReady (s : State) (k : ℕ) (script : List Op) (a : Seat) : Type 0 where
  pub waits : SeatWaits s k script a
  pub left : is_over script a ≡ false

-- what a section leaves of the seat
abbrev pub Leaves : Seat → JobTurn → Taken → Option Job → Seat → Type 0
Leaves a job.More r under b = (r ≡ More) × (b.job ≡ under) × (b.replies.items ≡ a.replies.items)
Leaves a job.Held r under b = (r ≡ Held) × (b.job ≡ under) × (b.replies.items ≡ a.replies.items)
Leaves a (job.Done y) r under b = (r ≡ Ended) × (b.job ≡ None) × (b.replies.items ≡ a.replies.items ++ y ∷ [])

abbrev pub is_more : Taken → Bool
is_more More = true
is_more Held = false
is_more Ended = false

-- one section of a session that isn't over
pub record SeatTurned (k : ℕ) (script : List Op) (s : State) (a : Seat) (r : Taken) (b : Seat) (t : State) : Type 0 where
  pub old : Job
  pub new : Job
  pub answer : JobTurn
  pub next : IsNext (space_of s.board.settings) script a a.job old
  pub turned : Turned old (view_in s k) answer new (view_in t k)
  pub moves : Moves s k t
  pub leaves : Leaves a answer r (Some new) b
  pub room : vec_capacity a.replies ≤ vec_capacity b.replies

-- one turn: the session comes to it and makes one section
pub record TurnMade (k : ℕ) (script : List Op) (s : State) (a : Seat) (r : Taken) (b : Seat) (t : State) : Type 0 where
  pub between : State
  pub comes : ComesTo s k between
  pub section : SeatTurned k script between a r b t

-- an update was entered in a turn since this place
pub record EntersSince (turns : List Turn) (k j : ℕ) (o : Op) (first n : ℕ) : Type 0 where
  pub place : ℕ
  pub from : first ≤ place
  pub at : EntersAt turns k j o n place

-- a query for the nearest found no memory, and is to be refused
abbrev pub refuses_at : NearestState → Bool
refuses_at near.Refusing = true
refuses_at state = false

abbrev pub is_refusing : Operation → Bool
is_refusing (Nearest nearest number) = refuses_at nearest.state
is_refusing operation = false

-- An operation is under way since its first turn, after so many others have ended; `own` are the session's updates before it.
pub record IsUnder (turns : List Turn) (s : State) (k : ℕ) (script : List Op) (own : List Entered) (n from : ℕ) (j : Job) : Type 0 where
  pub op : slice_get script n ≡ Some (asked j)
  pub number : op_number j ≡ n + 1
  pub first : ℕ
  pub later : from ≤ first
  pub begin : IsTurnOf turns k first
  pub begins : begin.turn.begins ≡ true
  pub has_begun : j.begun ≡ true
  pub owed : ℕ → Bool
  pub early : Bool
  pub since : Since own (length begin.turn.before.board.log) owed early j (view_in s k)
  -- a query's position is that of its first turn, unless it is to be refused for want of memory
  pub pinned : is_query (asked j) ≡ true → is_refusing j.operation ≡ false → since_in j (view_in s k) ≡ length begin.turn.after.board.log
  pub enters : MatchOption (number_in j) (Unit {0}) (λ m. EntersSince turns k (op_number j) (asked j) first m)
  pub ready : Ready j (view_in s k)

abbrev pub UnderWay : List Turn → State → ℕ → List Op → List Entered → ℕ → ℕ → Option Job → Type 0
UnderWay turns s k script own n from None = ClaimsNone (view_in s k) × ((view_in s k).own ≡ own)
UnderWay turns s k script own n from (Some j) = IsUnder turns s k script own n from j

-- where session k stands after these turns
pub record SeatAt (c : Configuration) (turns : List Turn) (s : State) (k : ℕ) (script : List Op) (a : Seat) : Type 0 where
  pub to : ℕ
  pub done : Operations c turns k 1 0 to script a.replies.items
  pub within : to ≤ length turns
  pub under : UnderWay turns s k script (accepted_in k 1 script a.replies.items) (length a.replies.items) to a.job
  pub busy_is : busy k turns ≡ is_some a.job
  pub ended_is : ended k turns ≡ length a.replies.items
  pub in_turn : InTurn k false turns

-- What session k made of a block: its turns, and where it stands after them, whatever came before.
pub record Made (k : ℕ) (script : List Op) (s : State) (a : Seat) (t : State) (b : Seat) (made : List Turn) : Type 0 where
  pub chained : Chained s made t
  pub by : AllBy k made
  pub calls : MakeCalls made
  pub seat : (turns : List Turn) → SeatAt s.board.settings turns s k script a → SeatAt s.board.settings (turns ++ made) t k script b
  pub waits : SeatWaits t k script b

-- an operation is under way, and another actor holds what it wants
pub record StandsHeld (k : ℕ) (t : State) (b : Seat) : Type 0 where
  pub job : Job
  pub is : b.job ≡ Some job
  pub held : ShardIsHeld t k (asked job) ⊎ LeafIsHeld t k (asked job)
  -- by which claim it is held, as the session's own view tells it
  pub stands : IsHeld (asked job) (view_in t k)

-- why a block of one operation stops
abbrev pub StopsBy : Taken → ℕ → State → Seat → List Turn → Type 0
StopsBy More k t b made = ⊥
StopsBy Held k t b made = (ended k made ≡ 0) × StandsHeld k t b
StopsBy Ended k t b made = (ended k made ≡ 1) × (b.job ≡ None)

-- how many operations have ended in the block
abbrev pub ended_by : Taken → ℕ
ended_by More = 0
ended_by Held = 0
ended_by Ended = 1

-- a block of one operation, which has begun
pub record Going (k : ℕ) (script : List Op) (s : State) (a : Seat) (r : Taken) (t : State) (b : Seat) : Type 0 where
  pub made : List Turn
  pub is : Made k script s a t b made
  pub head : a.job ≡ None → BeginsAtOnce made
  pub stops : StopsBy r k t b made
  pub replies : length b.replies.items ≡ length a.replies.items + ended_by r

-- a block of one operation: nothing is left, or one has ended or is held up
abbrev pub OperationMade : ℕ → List Op → State → Seat → State → Seat → Type 0
OperationMade k script s a t b = ((is_over script a ≡ true) × (t ≡ s) × (b ≡ a)) ⊎ ((r : Taken) × Going k script s a r t b)

-- a block of so many turns
pub record TurnsMade (k : ℕ) (script : List Op) (s : State) (a : Seat) (n : ℕ) (t : State) (b : Seat) : Type 0 where
  pub made : List Turn
  pub is : Made k script s a t b made
  pub head : is_over script a ≡ false → a.job ≡ None → BeginsAtOnce made
  pub count : length made ≡ n

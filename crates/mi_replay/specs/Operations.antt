-- Operations of sessions in a run.
use Rattle.std.specs.Prelude.{◌≡◌, ◌≤◌, ◌+◌, ◌++◌, [], ◌∷◌, ℕ, true, List, Some, MatchOption, length, slice_get}
use Rattle.mi_base.specs.declared.records.LogEvent.{LogEvent}
use Rattle.mi_base.specs.declared.records.LogEvent.TheVariants as event
use Rattle.mi_base.specs.declared.records.Op.{Op}
use Rattle.mi_base.specs.declared.records.Op.TheVariants.{Insert, Delete}
use Rattle.mi_base.specs.declared.records.Reply.{Reply}
use Rattle.mi_base.specs.declared.records.Update.TheVariants as update
use Rattle.mi_base.specs.Configuration.{Configuration}
use Rattle.mi_base.specs.History.{updates_of}
use Rattle.mi_job.specs.Jobs.{is_query}
use Rattle.mi_legal.specs.Legal.{reach}
use Rattle.mi_legal.specs.Right.{Right}
use Rattle.mi_update.specs.Stepping.{number_told}
use Rattle.mi_settle.specs.Turns.{Turn}

-- a turn of this actor stands at this place
pub record IsTurnOf (turns : List Turn) (a place : ℕ) : Type 0 where
  pub turn : Turn
  pub at : slice_get turns place ≡ Some turn
  pub by : turn.actor ≡ a

-- the event by which an operation enters the log
abbrev pub entry : ℕ → ℕ → Op → List LogEvent
entry session op (Insert id vector) = event.Update session op (update.Insert id vector) ∷ []
entry session op (Delete id) = event.Update session op (update.Delete id) ∷ []
entry session op o = []

-- the update of operation j of session k is entered as number n in the turn at this place
pub record EntersAt (turns : List Turn) (k j : ℕ) (o : Op) (n place : ℕ) : Type 0 where
  pub of : IsTurnOf turns k place
  pub number : n ≡ length (updates_of of.turn.before.board.log) + 1
  pub is : of.turn.after.board.log ≡ of.turn.before.board.log ++ entry k j o

-- it is entered in a turn between two places
pub record EntersBetween (turns : List Turn) (k j : ℕ) (o : Op) (first last n : ℕ) : Type 0 where
  pub place : ℕ
  pub from : first ≤ place
  pub to : place ≤ last
  pub at : EntersAt turns k j o n place

-- operation j of session k, from its first turn to its last
pub record Operation (c : Configuration) (turns : List Turn) (k j : ℕ) (o : Op) (y : Reply) : Type 0 where
  pub first : ℕ
  pub last : ℕ
  pub order : first ≤ last
  pub begin : IsTurnOf turns k first
  pub begins : begin.turn.begins ≡ true
  pub end : IsTurnOf turns k last
  pub ends : end.turn.ends ≡ true
  -- the reply is right in the state that its last turn leaves
  pub right : Right c end.turn.after.board.log end.turn.after.board.allotted k j o y
  -- its position has all that the log had before the first turn, and no more than it has after the last
  pub tells : MatchOption (reach end.turn.after.board.log y) (Unit {0}) (λ n. (length begin.turn.before.board.log ≤ n) × (n ≤ length end.turn.after.board.log))
  -- a query's position is that of the log which its first turn leaves
  pub pinned : is_query o ≡ true → MatchOption (reach end.turn.after.board.log y) (Unit {0}) (λ n. n ≡ length begin.turn.after.board.log)
  -- its update enters the log in one of its turns
  pub enters : MatchOption (number_told y) (Unit {0}) (λ n. EntersBetween turns k j o first last n)

-- the operations of session k that were answered, from operation j on: one after the other between two places
abbrev pub Operations : Configuration → List Turn → ℕ → ℕ → ℕ → ℕ → List Op → List Reply → Type 0
Operations c turns k j from to os [] = from ≤ to
Operations c turns k j from to (o ∷ os) (y ∷ ys) = (x : Operation c turns k j o y) × (from ≤ x.first) × Operations c turns k (j + 1) (x.last + 1) to os ys
Operations c turns k j from to [] (y ∷ ys) = ⊥

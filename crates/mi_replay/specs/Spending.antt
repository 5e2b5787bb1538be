-- How many steps the sessions of a run have taken.
use Rattle.std.specs.Prelude.{◌≡◌, ◌≤◌, ◌+◌, ℕ, ℤ, suc, false, List, ◌∷◌, Option, Some, None, map}
use Rattle.mi_base.specs.declared.records.LogEvent.{LogEvent}
use Rattle.mi_base.specs.declared.records.Op.{Op}
use Rattle.mi_base.specs.declared.records.Reply.{Reply}
use Rattle.mi_base.specs.Configuration.{Configuration}
use Rattle.mi_core.specs.State.{State}
use Rattle.mi_job.specs.declared.job.Job.{Job}
use Rattle.mi_job.specs.Jobs.{asked, least_spent, measured_for, most_spent}
use Rattle.mi_legal.specs.Work.{lacks_any, lacks_some, least_sum, most_sum}
use Rattle.mi_solo.specs.States.{view_in}
use Rattle.mi_tree.specs.Growing.{Grows}
use Rattle.mi_world.specs.View.{View}
use Rattle.mi_replay.specs.declared.seats.Seat.{Seat}
use Rattle.mi_replay.specs.declared.tables.Table.{Table}

-- the steps of making the operation under way, where none was
abbrev pub measured_from : Option Job → Option Job → List (List ℤ) → ℕ
measured_from None (Some j) pivots = measured_for (asked j) pivots
measured_from before now pivots = 0

-- the steps of the operation under way, at least and at most
abbrev pub least_under : Configuration → Option Job → View → ℕ
least_under c None v = 0
least_under c (Some j) v = measured_for (asked j) c.pivots + least_spent j.operation v

abbrev pub most_under : Configuration → Option Job → View → ℕ
most_under c None v = 0
most_under c (Some j) v = measured_for (asked j) c.pivots + most_spent j.operation v

-- the steps of session k: those that its replies tell, in a run with this log, and those of the operation under way
abbrev pub least_by : State → ℕ → List Op → Seat → ℕ
least_by s k script a = least_sum s.board.settings script a.replies.items + least_under s.board.settings a.job (view_in s k)

abbrev pub most_by : List LogEvent → State → ℕ → List Op → Seat → ℕ
most_by log s k script a = most_sum s.board.settings log script a.replies.items + most_under s.board.settings a.job (view_in s k)

-- A session's turns: the counter, which stood at i, stands at n after them. It has risen as the session's steps have, however the log goes on,
-- unless an answer is missing then.
pub record SeatSpends (k : ℕ) (script : List Op) (s : State) (a : Seat) (i : ℕ) (t : State) (b : Seat) (n : ℕ) : Type 0 where
  pub grows : Grows s.board.log t.board.log
  pub lacks : lacks_some script b.replies.items ≡ false → lacks_some script a.replies.items ≡ false
  pub least : lacks_some script b.replies.items ≡ false → i + least_by t k script b ≤ n + least_by s k script a
  pub most : lacks_some script b.replies.items ≡ false → (log : List LogEvent) → Grows t.board.log log → n + most_by log s k script a ≤ i + most_by log t k script b

-- the sum over all sessions, by their numbers
abbrev pub sum_of : (ℕ → List Op → Seat → ℕ) → List (List Op) → List Seat → ℕ
sum_of f (script ∷ scripts) (a ∷ seats) = f 0 script a + sum_of (λ k. f (suc k)) scripts seats
sum_of f scripts seats = 0

abbrev pub replies_of : List Seat → List (List Reply)
replies_of seats = map (λ a. a.replies.items) seats

-- The counter stood at `first` when nothing was done, and stands at n: the sessions have taken so many steps, unless an answer is missing.
pub record IsSpent (scripts : List (List Op)) (first n : ℕ) (s : State) (seats : List Seat) : Type 0 where
  pub least : lacks_any scripts (replies_of seats) ≡ false → first + sum_of (least_by s) scripts seats ≤ n
  pub most : lacks_any scripts (replies_of seats) ≡ false → (log : List LogEvent) → Grows s.board.log log → n ≤ first + sum_of (most_by log s) scripts seats

-- the same of a table
abbrev pub HasSpent : List (List Op) → ℕ → ℕ → Table → Type 0
HasSpent scripts first n t = IsSpent scripts first n t.solo.state t.seats.items

-- blocks that were made while the counter rose from i to n: what was so of it is so still
abbrev pub Spends : List (List Op) → Table → ℕ → Table → ℕ → Type 0
Spends scripts t i u n = (first : ℕ) → HasSpent scripts first i t → HasSpent scripts first n u

-- blocks that take no step
abbrev pub SpendsNone : List (List Op) → Table → Table → Type 0
SpendsNone scripts t u = (n : ℕ) → Spends scripts t n u n

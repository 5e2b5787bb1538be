-- The steps of all sessions.
use Rattle.std.proofs.Common.{◌≡◌, ◌≢◌, ℕ, zero, suc, ◌+◌, List, [], ◌∷◌, length, false, Some, None, refl, sym, ap, ◌∙◌, subst, arith, inl, inr}
use Rattle.std.specs.Prelude.{slice_get, slice_set}
use Rattle.std.proofs.lemmas.Bool.{or_parts}
use Rattle.std.proofs.lemmas.Option.{none-some, same_Some, slice_get_within}
use Rattle.mi_base.specs.declared.records.LogEvent.{LogEvent}
use Rattle.mi_base.specs.declared.records.Op.{Op}
use Rattle.mi_base.specs.declared.records.Reply.{Reply}
use Rattle.mi_base.specs.Configuration.{Configuration}
use Rattle.mi_core.specs.State.{State}
use Rattle.mi_core.proofs.ActorLemmas.{set_else, set_there}
use Rattle.mi_legal.specs.Work.{AllTakeSteps, lacks_any, lacks_some, least_of_all, least_sum, most_of_all, most_sum}
use Rattle.mi_solo.specs.States.{view_in}
use Rattle.mi_tree.specs.Growing.{Grows}
use Rattle.mi_tree.proofs.GrowingLemmas.{grows_on}
use Rattle.mi_world.specs.View.{Others}
use Rattle.mi_replay.specs.declared.seats.Seat.{Seat}
use Rattle.mi_settle.specs.declared.splitters.SplitterSeat.{SplitterSeat}
use Rattle.mi_settle.specs.Working.{AllBy}
use Rattle.mi_settle.specs.Moving.{MakeCalls}
use Rattle.mi_replay.specs.Spending.{IsSpent, SeatSpends, least_by, least_under, most_by, most_under, replies_of, sum_of}
use Rattle.mi_replay.specs.Seats.{OperationMade, SeatAt, TurnsMade}
use Rattle.mi_replay.specs.Tables.{AllOver, Ran, TableWaits}
use Rattle.mi_settle.specs.Turns.{Chained, Turn}
use Rattle.mi_settle.proofs.LaterLemmas.{later_all}
use Rattle.mi_replay.proofs.SpendingLemmas.{least_none, least_stays, most_stays, or_both}
use Rattle.mi_replay.proofs.TableBlocks.{by_number, one_of}
use Rattle.mi_replay.proofs.TableLemmas.{apart_by}
use Rattle.mi_replay.proofs.TableOpening.{none_under_way, over_parts}

-- sums of the same, and where one session's part has changed
sum_same : (f g : ℕ → List Op → Seat → ℕ) (scripts : List (List Op)) (seats : List Seat)
    → ((j : ℕ) (os : List Op) (a : Seat) → slice_get scripts j ≡ Some os → slice_get seats j ≡ Some a → f j os a ≡ g j os a) → sum_of f scripts seats ≡ sum_of g scripts seats
sum_same f g [] seats h = refl
sum_same f g (os ∷ scripts) [] h = refl
sum_same f g (os ∷ scripts) (a ∷ seats) h = omega (arith, h 0 os a refl refl, sum_same (λ k. f (suc k)) (λ k. g (suc k)) scripts seats (λ j. h (suc j)))

sum_one : (f g : ℕ → List Op → Seat → ℕ) (scripts : List (List Op)) (seats : List Seat) (n : ℕ) (script : List Op) (a b : Seat) → slice_get scripts n ≡ Some script → slice_get seats n ≡ Some a
    → ((j : ℕ) (os : List Op) (d : Seat) → j ≢ n → slice_get scripts j ≡ Some os → slice_get seats j ≡ Some d → f j os d ≡ g j os d)
    → sum_of f scripts seats + g n script b ≡ sum_of g scripts (slice_set seats n b) + f n script a
sum_one f g [] seats n script a b at_os at_a h = absurd (none-some script at_os)
sum_one f g (os ∷ scripts) [] n script a b at_os at_a h = absurd (none-some a at_a)
sum_one f g (os ∷ scripts) (d ∷ seats) zero script a b at_os at_a h =
    omega (
      arith,
      ap (λ x. f 0 os x) (same_Some d a at_a),
      ap (λ x. f 0 x a) (same_Some os script at_os),
      ap (λ x. g 0 x b) (same_Some os script at_os),
      sum_same (λ k. f (suc k)) (λ k. g (suc k)) scripts seats (λ j os d. h (suc j) os d (λ e. absurd (omega (arith, e)))),
    )
sum_one f g (os ∷ scripts) (d ∷ seats) (suc n) script a b at_os at_a h =
    omega (
      arith,
      h 0 os d (λ e. absurd (omega (arith, e))) refl refl,
      sum_one (λ k. f (suc k)) (λ k. g (suc k)) scripts seats n script a b at_os at_a (λ j os d apart. h (suc j) os d (λ e. apart (omega (arith, e)))),
    )

-- whose answers are missing
lacks_each : (scripts : List (List Op)) (seats : List Seat) → lacks_any scripts (replies_of seats) ≡ false
    → (j : ℕ) (os : List Op) (a : Seat) → slice_get scripts j ≡ Some os → slice_get seats j ≡ Some a → lacks_some os a.replies.items ≡ false
lacks_each [] seats none j os a at_os at_a = absurd (none-some os at_os)
lacks_each (p ∷ scripts) [] none j os a at_os at_a = absurd (none-some a at_a)
lacks_each (p ∷ scripts) (d ∷ seats) none zero os a at_os at_a =
    ap (λ x. lacks_some x a.replies.items) (sym (same_Some p os at_os)) ∙ ap (λ (x : Seat). lacks_some p x.replies.items) (sym (same_Some d a at_a))
    ∙ (or_parts (lacks_some p d.replies.items) (lacks_any scripts (replies_of seats)) none).0
lacks_each (p ∷ scripts) (d ∷ seats) none (suc j) os a at_os at_a = lacks_each scripts seats (or_parts (lacks_some p d.replies.items) (lacks_any scripts (replies_of seats)) none).1 j os a at_os at_a

lacks_all : (scripts : List (List Op)) (seats : List Seat)
    → ((j : ℕ) (os : List Op) (a : Seat) → slice_get scripts j ≡ Some os → slice_get seats j ≡ Some a → lacks_some os a.replies.items ≡ false) → lacks_any scripts (replies_of seats) ≡ false
lacks_all [] seats h = refl
lacks_all (p ∷ scripts) [] h = refl
lacks_all (p ∷ scripts) (d ∷ seats) h = or_both (lacks_some p d.replies.items) (lacks_any scripts (replies_of seats)) (h 0 p d refl refl) (lacks_all scripts seats (λ j. h (suc j)))

-- blocks
module _ (scripts : List (List Op)) (s : State) (seats : List Seat) (x : SplitterSeat) (t : State) (made : List Turn) (w : TableWaits scripts s seats x) (chained : Chained s made t) (calls : MakeCalls made) where
  grows : Grows s.board.log t.board.log
  grows = (later_all s made t w.kept chained).grows

  others_at : (n : ℕ) → AllBy n made → (j : ℕ) (os : List Op) → j ≢ n → slice_get scripts j ≡ Some os → Others (view_in s j) (view_in t j)
  others_at n by j os apart at = (apart_by j n s made t apart (omega (arith, slice_get_within scripts j os at, w.actors)) w.kept chained by calls).view

  module _ (n : ℕ) (by : AllBy n made) where
    least_at : (j : ℕ) (os : List Op) (d : Seat) → j ≢ n → slice_get scripts j ≡ Some os → slice_get seats j ≡ Some d → least_by s j os d ≡ least_by t j os d
    least_at j os d apart at_os at_d = sym (least_stays s t j os d (others_at n by j os apart at_os) (w.each j os d at_os at_d).at)

    most_at : (log : List LogEvent) (j : ℕ) (os : List Op) (d : Seat) → j ≢ n → slice_get scripts j ≡ Some os → slice_get seats j ≡ Some d → most_by log s j os d ≡ most_by log t j os d
    most_at log j os d apart at_os at_d = sym (most_stays s t j os d (others_at n by j os apart at_os) log (w.each j os d at_os at_d).at)

  -- of one session
  pub session_spends : (n : ℕ) (script : List Op) (a b : Seat) (i m first : ℕ) → AllBy n made → slice_get scripts n ≡ Some script → slice_get seats n ≡ Some a → SeatSpends n script s a i t b m
      → IsSpent scripts first i s seats → IsSpent scripts first m t (slice_set seats n b)
  session_spends n script a b i m first by at_script at_seat h was =
      let now : lacks_any scripts (replies_of (slice_set seats n b)) ≡ false → lacks_some script b.replies.items ≡ false =
      λ none. lacks_each scripts (slice_set seats n b) none n script b at_script (set_there seats n b a at_seat) in
      let before : lacks_any scripts (replies_of (slice_set seats n b)) ≡ false → lacks_any scripts (replies_of seats) ≡ false =
      λ none. lacks_all scripts seats (λ j os d at_os at_d. by_number (lacks_some os d.replies.items ≡ false) j n
      (λ e. here_same j os d e at_os at_d (h.lacks (now none)))
      (λ apart. lacks_each scripts (slice_set seats n b) none j os d at_os (set_else seats n j b apart ∙ at_d))) in
      record {
        least = λ none. omega (
          arith,
          was.least (before none),
          h.least (now none),
          sum_one (least_by s) (least_by t) scripts seats n script a b at_script at_seat (least_at n by),
        );
        most = λ none log g. omega (
          arith,
          was.most (before none) log (grows_on s.board.log t.board.log log grows g),
          h.most (now none) log g,
          sum_one (most_by log s) (most_by log t) scripts seats n script a b at_script at_seat (most_at n by log),
        );
      }
    where
      here_same : (j : ℕ) (os : List Op) (d : Seat) → j ≡ n → slice_get scripts j ≡ Some os → slice_get seats j ≡ Some d → lacks_some script a.replies.items ≡ false → lacks_some os d.replies.items ≡ false
      here_same j os d e at_os at_d none =
          ap (λ y. lacks_some y d.replies.items) (one_of scripts n j script os at_script e at_os) ∙ ap (λ (y : Seat). lacks_some script y.replies.items) (one_of seats n j a d at_seat e at_d) ∙ none

  -- of the splitter
  pub splitter_spends : AllBy (length scripts) made → (first n : ℕ) → IsSpent scripts first n s seats → IsSpent scripts first n t seats
  splitter_spends by first n was =
      let apart : (j : ℕ) (os : List Op) → slice_get scripts j ≡ Some os → j ≢ length scripts = λ j os at e. absurd (omega (arith, e, slice_get_within scripts j os at)) in
      record {
        least = λ none. omega (
          arith,
          was.least none,
          sum_same (least_by s) (least_by t) scripts seats (λ j os d at_os at_d. least_at (length scripts) by j os d (apart j os at_os) at_os at_d),
        );
        most = λ none log g. omega (
          arith,
          was.most none log (grows_on s.board.log t.board.log log grows g),
          sum_same (most_by log s) (most_by log t) scripts seats (λ j os d at_os at_d. most_at (length scripts) by log j os d (apart j os at_os) at_os at_d),
        );
      }

-- the blocks of items
module _ (scripts : List (List Op)) (s : State) (seats : List Seat) (x : SplitterSeat) (t : State) (w : TableWaits scripts s seats x) where
  pub turns_spend : (n : ℕ) (script : List Op) (a b : Seat) (count i m first : ℕ) → slice_get scripts n ≡ Some script → slice_get seats n ≡ Some a → TurnsMade n script s a count t b
      → SeatSpends n script s a i t b m → IsSpent scripts first i s seats → IsSpent scripts first m t (slice_set seats n b)
  turns_spend n script a b count i m first at_script at_seat h spends =
      session_spends scripts s seats x t h.made w h.is.chained h.is.calls n script a b i m first h.is.by at_script at_seat spends

  pub operation_spends : (n : ℕ) (script : List Op) (a b : Seat) (i m first : ℕ) → slice_get scripts n ≡ Some script → slice_get seats n ≡ Some a → OperationMade n script s a t b
      → SeatSpends n script s a i t b m → IsSpent scripts first i s seats → IsSpent scripts first m t (slice_set seats n b)
  operation_spends n script a b i m first at_script at_seat (inl h) spends = session_spends scripts s seats x t [] w (sym h.1) tt n script a b i m first tt at_script at_seat spends
  operation_spends n script a b i m first at_script at_seat (inr h) spends =
      session_spends scripts s seats x t h.1.made w h.1.is.chained h.1.is.calls n script a b i m first h.1.is.by at_script at_seat spends

-- before anything was done
empty_of : (ys : List Reply) → length ys ≡ 0 → ys ≡ []
empty_of [] h = refl
empty_of (y ∷ ys) h = absurd (omega (arith, h))

sum_zero : (f : ℕ → List Op → Seat → ℕ) (scripts : List (List Op)) (seats : List Seat)
    → ((j : ℕ) (os : List Op) (a : Seat) → slice_get scripts j ≡ Some os → slice_get seats j ≡ Some a → f j os a ≡ 0) → sum_of f scripts seats ≡ 0
sum_zero f [] seats h = refl
sum_zero f (os ∷ scripts) [] h = refl
sum_zero f (os ∷ scripts) (a ∷ seats) h = omega (arith, h 0 os a refl refl, sum_zero (λ k. f (suc k)) scripts seats (λ j. h (suc j)))

module _ (c : Configuration) (scripts : List (List Op)) (s : State) (seats : List Seat) (x : SplitterSeat) (ran : Ran c scripts [] s seats x) where
  first_seat : (j : ℕ) (os : List Op) (a : Seat) → slice_get scripts j ≡ Some os → slice_get seats j ≡ Some a → (a.replies.items ≡ []) × (a.job ≡ None)
  first_seat j os a at_os at_a =
      let at = subst (λ us. SeatAt c us s j os a) ran.blocks.0 (ran.at.each j os a at_os at_a) in
      (empty_of a.replies.items (sym at.ended_is), none_under_way a.job (sym at.busy_is))

  pub spent_none : (n : ℕ) → IsSpent scripts n n s seats
  spent_none n = record {
    least = λ none. omega (
      arith,
      sum_zero (least_by s) scripts seats (λ j os a at_os at_a.
          let is = first_seat j os a at_os at_a in
          omega (
            arith,
            ap (λ ys. least_sum s.board.settings os ys) is.0,
            least_none s.board.settings os,
            ap (λ o. least_under s.board.settings o (view_in s j)) is.1,
          )),
    );
    most = λ none log g. omega arith;
  }

-- when all have ended
sum_least : (f : ℕ → List Op → Seat → ℕ) (c : Configuration) (scripts : List (List Op)) (seats : List Seat)
    → ((j : ℕ) (os : List Op) (a : Seat) → slice_get scripts j ≡ Some os → slice_get seats j ≡ Some a → f j os a ≡ least_sum c os a.replies.items)
    → sum_of f scripts seats ≡ least_of_all c scripts (replies_of seats)
sum_least f c [] seats h = refl
sum_least f c (os ∷ scripts) [] h = refl
sum_least f c (os ∷ scripts) (a ∷ seats) h = omega (arith, h 0 os a refl refl, sum_least (λ k. f (suc k)) c scripts seats (λ j. h (suc j)))

sum_most : (f : ℕ → List Op → Seat → ℕ) (c : Configuration) (log : List LogEvent) (scripts : List (List Op)) (seats : List Seat)
    → ((j : ℕ) (os : List Op) (a : Seat) → slice_get scripts j ≡ Some os → slice_get seats j ≡ Some a → f j os a ≡ most_sum c log os a.replies.items)
    → sum_of f scripts seats ≡ most_of_all c log scripts (replies_of seats)
sum_most f c log [] seats h = refl
sum_most f c log (os ∷ scripts) [] h = refl
sum_most f c log (os ∷ scripts) (a ∷ seats) h = omega (arith, h 0 os a refl refl, sum_most (λ k. f (suc k)) c log scripts seats (λ j. h (suc j)))

pub all_spent : (c : Configuration) (scripts : List (List Op)) (s : State) (seats : List Seat) (first n : ℕ) (log : List LogEvent) → s.board.settings ≡ c → Grows s.board.log log → AllOver scripts seats
    → IsSpent scripts first n s seats → AllTakeSteps c log scripts (replies_of seats) first n
all_spent c scripts s seats first n log is g over h none = (
  omega (
    arith,
    h.least none,
    sum_least (least_by s) c scripts seats (λ j os a at_os at_a.
        omega (
          arith,
          ap (λ (z : Configuration). least_sum z os a.replies.items) is,
          ap (λ o. least_under s.board.settings o (view_in s j)) (over_parts a.job (length a.replies.items) (length os) (over j os a at_os at_a)).0,
        )),
  ),
  omega (
    arith,
    h.most none log g,
    sum_most (most_by log s) c log scripts seats (λ j os a at_os at_a.
        omega (
          arith,
          ap (λ (z : Configuration). most_sum z log os a.replies.items) is,
          ap (λ o. most_under s.board.settings o (view_in s j)) (over_parts a.job (length a.replies.items) (length os) (over j os a at_os at_a)).0,
        )),
  ),
)

-- Replies in logs that go on. What is right in a log is right in one that goes on, and a reply's position reaches as far there.
use Rattle.std.proofs.Common.{◌≡◌, ℕ, zero, suc, ◌+◌, ◌-◌, ◌<◌, ◌≤◌, List, [], ◌∷◌, ◌++◌, length, take, Some, refl, sym, ap, ◌∙◌, arith, length-append, append-nil}
use Rattle.std.specs.Prelude.{ℤ, slice_get}
use Rattle.std.proofs.lemmas.List.{nil_from_length, take-append-le}
use Rattle.std.proofs.lemmas.Option.{get_or_from_slice_get, slice_get_read, slice_get_within}
use Rattle.std.proofs.Math.ListN.{get_or-append}
use Rattle.mi_base.specs.declared.records.LogEvent.{LogEvent}
use Rattle.mi_base.specs.declared.records.LogEvent.TheVariants.{Update as Made, Split}
use Rattle.mi_base.specs.declared.records.Op.{Op}
use Rattle.mi_base.specs.declared.records.Op.TheVariants.{Insert, Delete, Range, Nearest}
use Rattle.mi_base.specs.declared.records.Reply.{Reply}
use Rattle.mi_base.specs.declared.records.Reply.TheVariants as reply
use Rattle.mi_base.specs.declared.records.Position.{Position}
use Rattle.mi_base.specs.declared.records.Row.{Row}
use Rattle.mi_base.specs.Configuration.{Configuration, metric_space, space_of}
use Rattle.mi_base.specs.History.{Entered, entered, updates_of, is_live, range_scan, nearest_scan}
use Rattle.mi_base.proofs.HistoryLemmas.{entered-append, updates_of-append}
use Rattle.mi_tree.proofs.GrowingLemmas.{at_grows, length-updates_of, position_grows}
use Rattle.mi_legal.specs.Legal.{events_to, reach}
use Rattle.mi_rules.specs.Passing.{opened_count, candidates, kth_distance, reached_count}
use Rattle.mi_legal.specs.Right.{Right, IsUpdateNumber, IsNearest, IsRange, updates_before}

pub slice_get-append : {X : Type 0} (xs ys : List X) (i : ℕ) (x : X) → slice_get xs i ≡ Some x → slice_get (xs ++ ys) i ≡ Some x
slice_get-append xs ys i x h =
    let within : i < length xs = slice_get_within xs i x h in
    let longer : i < length (xs ++ ys) = omega (arith, within, length-append xs ys) in
    slice_get_read (xs ++ ys) (length (xs ++ ys)) i x refl longer (sym (get_or-append xs ys x i within ∙ get_or_from_slice_get xs i x x h))

number_grows : (log more : List LogEvent) (n : ℕ) (e : Entered) → IsUpdateNumber log n e → IsUpdateNumber (log ++ more) n e
number_grows log more n e is = record {
  counted = is.counted;
  stands = ap (λ es. slice_get es (n - 1)) (entered-append log more) ∙ slice_get-append (entered log) (entered more) (n - 1) e is.stands;
}

pub number_within : (log : List LogEvent) (n : ℕ) (e : Entered) → IsUpdateNumber log n e → n ≤ length (updates_of log)
number_within log n e is = omega (arith, is.counted, slice_get_within (entered log) (n - 1) e is.stands, length-updates_of log)

before_grows : (log more : List LogEvent) (n : ℕ) (e : Entered) → IsUpdateNumber log n e → updates_before n (log ++ more) ≡ updates_before n log
before_grows log more n e is =
    let within : n - 1 ≤ length (updates_of log) = omega (arith, number_within log n e is) in
    ap (take (n - 1)) (updates_of-append log more) ∙ take-append-le (n - 1) (updates_of log) (updates_of more) within

-- where a log has all its updates, what follows adds none
abbrev pub StaysFull : Configuration → List LogEvent → List LogEvent → Type 0
StaysFull c log more = length (updates_of log) ≡ c.updates → updates_of (log ++ more) ≡ updates_of log

-- a full log gains none where there are few
pub full_stays : (c : Configuration) (log more : List LogEvent) → length (updates_of (log ++ more)) ≤ c.updates → StaysFull c log more
full_stays c log more few full =
    let none : updates_of more ≡ [] = nil_from_length (updates_of more) (omega (arith, full, few, ap length (updates_of-append log more), length-append (updates_of log) (updates_of more))) in
    updates_of-append log more ∙ ap (λ us. updates_of log ++ us) none ∙ append-nil (updates_of log)

range_grows : (c : Configuration) (log more : List LogEvent) (radius : ℕ) (query : List ℤ) (p : Position) (rows : List Row) (cells distances : ℕ)
    → IsRange c log radius query p rows cells distances → IsRange c (log ++ more) radius query p rows cells distances
range_grows c log more radius query p rows cells distances h =
    let same = sym (at_grows log more p h.position) in
    record {
      position = position_grows log more p h.position;
      rows_are = h.rows_are ∙ ap (λ l. range_scan (metric_space c) (updates_of l) query radius) same;
      cells_are = h.cells_are ∙ ap (λ l. opened_count (space_of c) c.levels l query radius) same;
      distances_are = h.distances_are ∙ ap (λ l. length c.pivots + length (candidates (space_of c) c.levels l query radius)) same;
    }

nearest_grows : (c : Configuration) (log more : List LogEvent) (count : ℕ) (query : List ℤ) (p : Position) (rows : List Row) (cells : ℕ)
    → IsNearest c log count query p rows cells → IsNearest c (log ++ more) count query p rows cells
nearest_grows c log more count query p rows cells h =
    let same = sym (at_grows log more p h.position) in
    record {
      position = position_grows log more p h.position;
      rows_are = h.rows_are ∙ ap (λ l. nearest_scan (metric_space c) (updates_of l) query count) same;
      cells_are = h.cells_are ∙ ap (λ l. reached_count (space_of c) c.levels l query (kth_distance count rows)) same;
    }

pub right_grows : (c : Configuration) (log more : List LogEvent) (allotted session op : ℕ) (o : Op) (y : Reply) → StaysFull c log more → Right c log allotted session op o y
    → Right c (log ++ more) allotted session op o y
right_grows c log more allotted session op (Insert id v) (reply.Stored n) stays h = (number_grows log more n _ h.0, ap (is_live id) (before_grows log more n _ h.0) ∙ h.1)
right_grows c log more allotted session op (Delete id) (reply.Removed n) stays h = (number_grows log more n _ h.0, ap (is_live id) (before_grows log more n _ h.0) ∙ h.1)
right_grows c log more allotted session op (Insert id v) (reply.Present p) stays h = (position_grows log more p h.0, ap (λ l. is_live id (updates_of l)) (at_grows log more p h.0) ∙ h.1)
right_grows c log more allotted session op (Delete id) (reply.Absent p) stays h = (position_grows log more p h.0, ap (λ l. is_live id (updates_of l)) (at_grows log more p h.0) ∙ h.1)
right_grows c log more allotted session op (Insert id v) (reply.Full limit) stays h =
    let same = stays (h.1 ∙ h.0) in (h.0, ap length same ∙ h.1, ap (is_live id) same ∙ h.2)
right_grows c log more allotted session op (Delete id) (reply.Full limit) stays h =
    let same = stays (h.1 ∙ h.0) in (h.0, ap length same ∙ h.1, ap (is_live id) same ∙ h.2)
right_grows c log more allotted session op (Range radius query) (reply.Range p rows cells distances) stays h = range_grows c log more radius query p rows cells distances h
right_grows c log more allotted session op (Nearest count query) (reply.Nearest p rows cells) stays h = nearest_grows c log more count query p rows cells h
right_grows c log more allotted session op o y stays h = h

events_to_grows : (log more : List LogEvent) (n : ℕ) → n ≤ length (updates_of log) → events_to n (log ++ more) ≡ events_to n log
events_to_grows [] more zero h = refl
events_to_grows (e ∷ log) more zero h = refl
events_to_grows [] more (suc n) h = absurd (omega arith)
events_to_grows (Made session op u ∷ log) more (suc n) h = ap (λ m. 1 + m) (events_to_grows log more n (omega (arith, h)))
events_to_grows (Split p ∷ log) more (suc n) h = ap (λ m. 1 + m) (events_to_grows log more (suc n) h)

-- a right reply reaches as far in a log that goes on
pub reach_grows : (c : Configuration) (log more : List LogEvent) (allotted session op : ℕ) (o : Op) (y : Reply) → Right c log allotted session op o y → reach (log ++ more) y ≡ reach log y
reach_grows c log more allotted session op (Insert id v) (reply.Stored n) h = ap Some (events_to_grows log more n (number_within log n _ h.0))
reach_grows c log more allotted session op (Delete id) (reply.Removed n) h = ap Some (events_to_grows log more n (number_within log n _ h.0))
reach_grows c log more allotted session op o (reply.Stored n) h = absurd h
reach_grows c log more allotted session op o (reply.Removed n) h = absurd h
reach_grows c log more allotted session op o y h = refl

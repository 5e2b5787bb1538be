-- The first rows of a list, as it grows.
use Rattle.std.proofs.Common.{◌≡◌, ℕ, suc, zero, ◌+◌, ◌<◌, ◌≤◌, List, [], ◌∷◌, ◌++◌, length, take, Bool, true, false, cond, IsTrue, nat_lt, refl, sym, ap, ◌∙◌, arith, Option, Some, None}
use Rattle.std.specs.Prelude.{ℤ}
use Rattle.std.specs.List.{AllByRecursion}
use Rattle.std.specs.declared.cmp.Ordering.{Ordering}
use Rattle.std.specs.declared.cmp.Ordering.TheVariants.{Less}
use Rattle.std.specs.Ordering.{nat_cmp, is_lt, ordering_then}
use Rattle.std.proofs.lemmas.Bool.{false≢true, leb-false}
use Rattle.std.proofs.lemmas.Bool.Decides.{nat_tests}
use Rattle.std.proofs.lemmas.Map.Keys.{ge_from_not_lt}
use Rattle.std.proofs.lemmas.List.{length-take}
use Rattle.std.proofs.lemmas.List.Sums.{sum_by-append, sum_by-cons}
use Rattle.mi_base.specs.declared.records.Row.{Row}
use Rattle.mi_base.specs.History.{row_cmp, row_of}
use Rattle.mi_base.specs.Sorting.{Ascends, SameElements, put, sorted}
use Rattle.mi_base.specs.Space.{IsMetric, MetricSpace}
use Rattle.mi_base.proofs.HistoryLemmas.{row_exact, row_total}
use Rattle.mi_base.proofs.SortingLemmas.{sorted_ascends, sorted_of_same}
use Rattle.mi_key.specs.Entries.{Offering}
use Rattle.mi_rules.specs.Answers.{AreMeasured}
use Rattle.mi_rules.proofs.RuleLemmas.{not_less, refused_far}
use Rattle.mi_rules.specs.Passing.{kth_distance, last_distance}
use Rattle.mi_nearest.specs.Nearing.{NearestWorkState, TakesNearest, first_rows, may_be_near, worst_of}

take_take : {X : Type 0} (k : ℕ) (xs : List X) → take k (take (suc k) xs) ≡ take k xs
take_take zero xs = refl
take_take (suc k) [] = refl
take_take (suc k) (x ∷ xs) = ap (λ ys. x ∷ ys) (take_take k xs)

-- what stands behind the first ones doesn't count
put_take : {X : Type 0} (cmp : X → X → Ordering) (x : X) (xs : List X) (k : ℕ) → take k (put cmp x (take k xs)) ≡ take k (put cmp x xs)
put_take cmp x xs zero = refl
put_take cmp x [] (suc k) = refl
put_take {X = X} cmp x (y ∷ ys) (suc k) =
    let P : Bool → Type 0 = λ b. take (suc k) (cond b (y ∷ put cmp x (take k ys)) (x ∷ y ∷ take k ys)) ≡ take (suc k) (cond b (y ∷ put cmp x ys) (x ∷ y ∷ ys)) in
    let front : (n : ℕ) → take n (y ∷ take n ys) ≡ take n (y ∷ ys) = elim [ zero ↦ refl | suc n ↦ ap (λ zs. y ∷ zs) (take_take n ys) ] in
    elim (is_lt (cmp y x)) as P [ true ↦ ap (λ zs. y ∷ zs) (put_take cmp x ys k) | false ↦ ap (λ zs. x ∷ zs) (front k) ]

-- what comes after the first ones changes none of them
put_past : {X : Type 0} (cmp : X → X → Ordering) (x : X) (xs : List X) (k : ℕ) → AllByRecursion (λ y. is_lt (cmp y x) ≡ true) (take k xs) → length (take k xs) ≡ k → take k (put cmp x xs) ≡ take k xs
put_past cmp x xs zero all e = refl
put_past cmp x [] (suc k) all e = absurd (omega arith)
put_past cmp x (y ∷ ys) (suc k) all e =
    ap (λ b. take (suc k) (cond b (y ∷ put cmp x ys) (x ∷ y ∷ ys))) all.0 ∙ ap (λ zs. y ∷ zs) (put_past cmp x ys k all.1 (omega arith))

all_take : {X : Type 0} (P : X → Type 0) (k : ℕ) (xs : List X) → AllByRecursion P xs → AllByRecursion P (take k xs)
all_take P zero xs h = tt
all_take P (suc k) [] h = tt
all_take P (suc k) (x ∷ xs) h = (h.0, all_take P k xs h.1)

ascends_take : {X : Type 0} (cmp : X → X → Ordering) (k : ℕ) (xs : List X) → Ascends cmp xs → Ascends cmp (take k xs)
ascends_take cmp zero xs a = tt
ascends_take cmp (suc k) [] a = tt
ascends_take cmp (suc k) (x ∷ xs) a = (all_take (λ y. is_lt (cmp y x) ≡ false) k xs a.0, ascends_take cmp k xs a.1)

-- a row more at the end is a row put in its place
sorted_more : (row : Row) (rows : List Row) → sorted row_cmp (rows ++ row ∷ []) ≡ put row_cmp row (sorted row_cmp rows)
sorted_more row rows =
    let same : SameElements (rows ++ row ∷ []) (row ∷ rows) = record { sums = λ f. omega (arith, sum_by-append f rows (row ∷ []), sum_by-cons f row [], sum_by-cons f row rows) } in
    sorted_of_same row_cmp row_total row_exact (rows ++ row ∷ []) (row ∷ rows) same

-- one row more among the first ones
pub first_more : (k : ℕ) (row : Row) (rows before : List Row) → rows ≡ first_rows k before → take k (put row_cmp row rows) ≡ first_rows k (before ++ row ∷ [])
first_more k row rows before e =
    ap (λ xs. take k (put row_cmp row xs)) e ∙ put_take row_cmp row (sorted row_cmp before) k ∙ ap (take k) (sym (sorted_more row before))

-- no row is farther than the last
near_last : (rows : List Row) (worst : ℕ) → Ascends row_cmp rows → last_distance rows ≡ Some worst → AllByRecursion (λ row. row.distance ≤ worst) rows
near_last [] worst a e = cc
near_last (row ∷ []) worst a e = (let same : row.distance ≡ worst = cc in omega arith, tt)
near_last (row ∷ next ∷ rows) worst a e =
    let rest = near_last (next ∷ rows) worst a.1 e in
    let le : row.distance ≤ next.distance = ge_from_not_lt next.distance row.distance (not_less (nat_cmp next.distance row.distance) (nat_cmp next.id row.id) a.0.0) in
    let last = rest.0 in
    (omega arith, rest)

before_far : (rows : List Row) (worst : ℕ) (row : Row) → worst < row.distance → AllByRecursion (λ r. r.distance ≤ worst) rows → AllByRecursion (λ r. is_lt (row_cmp r row) ≡ true) rows
before_far [] worst row lt h = tt
before_far (r ∷ rows) worst row lt h =
    let le = h.0 in
    let less : nat_cmp r.distance row.distance ≡ Less = grind (arith, nat_tests) in
    (ap (λ o. is_lt (ordering_then o (nat_cmp r.id row.id))) less, before_far rows worst row lt h.1)

-- a row that is farther than the last of as many as there may be is none of the first
pub first_without : (k : ℕ) (row : Row) (rows before : List Row) (worst : ℕ) → rows ≡ first_rows k before → k ≤ length rows → last_distance rows ≡ Some worst → worst < row.distance
    → rows ≡ first_rows k (before ++ row ∷ [])
first_without k row rows before worst e many last far =
    let all = sorted row_cmp before in
    let near : AllByRecursion (λ r. r.distance ≤ worst) (take k all) = near_last (take k all) worst (ascends_take row_cmp k all (sorted_ascends row_cmp row_total before)) (ap last_distance (sym e) ∙ last) in
    let size : length (take k all) ≡ k = omega (arith, length-take k all, ap length e) in
    e ∙ sym (put_past row_cmp row all k (before_far (take k all) worst row far near) size) ∙ ap (take k) (sym (sorted_more row before))

-- as many rows as there may be have a last one
pub kth_full : (k : ℕ) (rows : List Row) (worst : ℕ) → kth_distance k rows ≡ Some worst → (k ≤ length rows) × (last_distance rows ≡ Some worst)
kth_full k rows worst told =
    let P : Bool → Type 0 = λ b. nat_lt (length rows) k ≡ b → cond b None (last_distance rows) ≡ Some worst → (k ≤ length rows) × (last_distance rows ≡ Some worst) in
    let split : (b : Bool) → P b = elim [ true ↦ λ t e. cc | false ↦ λ t e. ((grind (arith, nat_tests)), e) ] in
    split (nat_lt (length rows) k) refl told

-- so it is, where the last of the rows is told
pub farther_kth : (k : ℕ) (row : Row) (rows before : List Row) (worst : ℕ) → rows ≡ first_rows k before → kth_distance k rows ≡ Some worst → worst < row.distance → rows ≡ first_rows k (before ++ row ∷ [])
farther_kth k row rows before worst e told far = let full = kth_full k rows worst told in first_without k row rows before worst e full.0 full.1 far

pub farther_out : (w : NearestWorkState) (before : List Row) (worst : ℕ) (row : Row) → w.rows ≡ first_rows w.count before → worst_of w ≡ Some worst → worst < row.distance → w.rows ≡ first_rows w.count (before ++ row ∷ [])
farther_out w before worst row e told far = farther_kth w.count row w.rows before worst e told far

-- the first rows don't hang on the order of the rows
pub first_of_same : (count : ℕ) (xs ys : List Row) → SameElements xs ys → first_rows count xs ≡ first_rows count ys
first_of_same count xs ys same = ap (take count) (sorted_of_same row_cmp row_total row_exact xs ys same)

-- an entry that the filter refuses is no row
pub take_refused : (m : MetricSpace) → IsMetric m → (query : List ℤ) → IsTrue (m.fits query) → (w : NearestWorkState) (steps : ℕ) (o : Offering) → IsTrue (m.fits o.object.vector)
    → AreMeasured m query w.dists o.object.vector o.dists → may_be_near (worst_of w) w.dists o.dists ≡ false → TakesNearest m query w steps (o ∷ []) w steps
take_refused m is query fq w steps o fo me f =
    let row = row_of m query o.object in
    let Q : Option ℕ → Type 0 = λ worst. may_be_near worst w.dists o.dists ≡ false → (v : ℕ) × (worst ≡ Some v) × (v < m.d query o.object.vector) in
    let go : (worst : Option ℕ) → Q worst = elim [
      | None ↦ λ h. absurd (false≢true (sym h))
      | Some v ↦ λ h. (v, refl, leb-false (m.d query o.object.vector) v (refused_far m is query o.object.vector w.dists o.dists v fq fo me h))
    ] in
    let found = go (worst_of w) f in
    record {
      same_dists = refl;
      same_count = refl;
      rows_are = λ before e. farther_out w before found.0 row e found.1 found.2;
      onward = omega arith;
      ticks = omega arith;
    }

-- an entry that is compared is a row
pub take_kept : (m : MetricSpace) (query : List ℤ) (w v : NearestWorkState) (steps new_steps : ℕ) (o : Offering) (row : Row) → row ≡ row_of m query o.object → v.dists ≡ w.dists → v.count ≡ w.count
    → v.rows ≡ take w.count (put row_cmp row w.rows) → new_steps ≡ steps + 1 → TakesNearest m query w steps (o ∷ []) v new_steps
take_kept m query w v steps new_steps o row is d c r t = record {
  same_dists = d;
  same_count = c;
  rows_are = λ before e. r ∙ first_more w.count row w.rows before e ∙ ap (λ x. first_rows w.count (before ++ x ∷ [])) is;
  onward = omega arith;
  ticks = omega arith;
}

-- The rows of a heap in their order.
use Rattle.std.proofs.Common.{◌≡◌, ℕ, ◌<◌, ◌≤◌, List, [], ◌∷◌, ◌++◌, length, take, get_or, Bool, true, false, not, ◌&&◌, IsTrue, refl, sym, ap, ◌∙◌, arith, Option, Some, None}
use Rattle.std.specs.Prelude.{IfSome, IfNone}
use Rattle.std.specs.List.{list_all, AllByRecursion}
use Rattle.std.specs.BinaryHeap.{IsHeap, IsUpperBound}
use Rattle.std.specs.Ordering.{is_lt}
use Rattle.std.specs.List.Sorted.{IsPermutation}
use Rattle.std.proofs.lemmas.Bool.{and_parts}
use Rattle.std.proofs.lemmas.List.{take_all}
use Rattle.std.proofs.lemmas.List.Sorted.{length_permutation}
use Rattle.std.proofs.Math.Seq.{take-append_seam}
use Rattle.std.proofs.lemmas.List.Sums.{sum_by-append, sum_by-cons}
use Rattle.mi_base.specs.declared.records.Row.{Row}
use Rattle.mi_base.specs.History.{row_cmp}
use Rattle.mi_base.specs.Sorting.{Ascends, SameElements, put, sorted}
use Rattle.mi_base.proofs.HistoryLemmas.{row_exact, row_total, same_all}
use Rattle.mi_base.proofs.SortingLemmas.{ascending_unique, same_length, same_permutation, same_sorted, sorted_ascends, sorted_of_same}
use Rattle.mi_rules.specs.Passing.{last_distance}

not_true : (b : Bool) → IsTrue (not b) → b ≡ false
not_true true h = cc
not_true false h = refl

-- no row of these comes after x, as a test
test_of : (x : Row) (rows : List Row) → IsUpperBound row_cmp x rows → list_all (λ y. not (is_lt (row_cmp x y))) rows ≡ true
test_of x [] h = refl
test_of x (y ∷ rows) h = ap (λ b. not b && list_all (λ z. not (is_lt (row_cmp x z))) rows) h.0 ∙ test_of x rows h.1

bound_of : (x : Row) (rows : List Row) → list_all (λ y. not (is_lt (row_cmp x y))) rows ≡ true → IsUpperBound row_cmp x rows
bound_of x [] h = tt
bound_of x (y ∷ rows) h = let parts = and_parts (not (is_lt (row_cmp x y))) (list_all (λ z. not (is_lt (row_cmp x z))) rows) h in (not_true (is_lt (row_cmp x y)) parts.0, bound_of x rows parts.1)

bound_sorted : (x : Row) (rows : List Row) → IsUpperBound row_cmp x rows → IsUpperBound row_cmp x (sorted row_cmp rows)
bound_sorted x rows h = bound_of x (sorted row_cmp rows) (same_all (λ y. not (is_lt (row_cmp x y))) (sorted row_cmp rows) rows (same_sorted row_cmp rows) ∙ test_of x rows h)

-- a row after all others, at the end
all_end : (P : Row → Type 0) (rows : List Row) (x : Row) → AllByRecursion P rows → P x → AllByRecursion P (rows ++ x ∷ [])
all_end P [] x h p = (p, tt)
all_end P (r ∷ rows) x h p = (h.0, all_end P rows x h.1 p)

ascends_end : (rows : List Row) (x : Row) → Ascends row_cmp rows → IsUpperBound row_cmp x rows → Ascends row_cmp (rows ++ x ∷ [])
ascends_end [] x a h = (tt, tt)
ascends_end (r ∷ rows) x a h = (all_end (λ y. is_lt (row_cmp y r) ≡ false) rows x a.0 h.0, ascends_end rows x a.1 h.1)

-- the greatest row is the last
sorted_top : (rows rest : List Row) (x : Row) → SameElements rows (x ∷ rest) → IsUpperBound row_cmp x rest → sorted row_cmp rows ≡ sorted row_cmp rest ++ x ∷ []
sorted_top rows rest x same h =
    let s = same_sorted row_cmp rest in
    let t = same_sorted row_cmp rows in
    let all : SameElements (sorted row_cmp rows) (sorted row_cmp rest ++ x ∷ []) = record {
      sums = λ f. omega (arith, t.sums f, same.sums f, s.sums f, sum_by-append f (sorted row_cmp rest) (x ∷ []), sum_by-cons f x [], sum_by-cons f x rest);
    } in
    ascending_unique row_cmp row_total row_exact (sorted row_cmp rows) (sorted row_cmp rest ++ x ∷ []) (sorted_ascends row_cmp row_total rows)
    (ascends_end (sorted row_cmp rest) x (sorted_ascends row_cmp row_total rest) (bound_sorted x rest h)) all

last_end : (rows : List Row) (x : Row) → last_distance (rows ++ x ∷ []) ≡ Some x.distance
last_end [] x = refl
last_end (r ∷ []) x = refl
last_end (r ∷ s ∷ rows) x = last_end (s ∷ rows) x

-- the top of a heap is the last of its rows
pub last_top : (items : List Row) (x : Row) → 0 < length items → x ≡ get_or items 0 x → IsUpperBound row_cmp x items → Some x.distance ≡ last_distance (sorted row_cmp items)
last_top [] x some e h = absurd (omega arith)
last_top (y ∷ items) x some e h =
    let same : SameElements (y ∷ items) (x ∷ items) = record { sums = λ f. omega (arith, sum_by-cons f y items, sum_by-cons f x items, ap f e) } in
    sym (ap last_distance (sorted_top (y ∷ items) items x same h.1) ∙ last_end (sorted row_cmp items) x)

sorted_pushed : (items pushed : List Row) (row : Row) → IsPermutation (row ∷ items) pushed → sorted row_cmp pushed ≡ put row_cmp row (sorted row_cmp items)
sorted_pushed items pushed row p = sym (sorted_of_same row_cmp row_total row_exact (row ∷ items) pushed (same_permutation (row ∷ items) pushed p))

-- one row more, where there is place for it
pub kept_all : (items pushed : List Row) (row : Row) (k : ℕ) → IsPermutation (row ∷ items) pushed → length pushed ≤ k → sorted row_cmp pushed ≡ take k (put row_cmp row (sorted row_cmp items))
kept_all items pushed row k p few =
    let size : length (sorted row_cmp pushed) ≤ k = omega (arith, same_length (sorted row_cmp pushed) pushed (same_sorted row_cmp pushed)) in
    sym (take_all k (sorted row_cmp pushed) size) ∙ ap (take k) (sorted_pushed items pushed row p)

-- one row more, and the last one less
pub kept_first : (items pushed rest : List Row) (row x : Row) (k : ℕ) → IsPermutation (row ∷ items) pushed → IsPermutation pushed (x ∷ rest) → IsUpperBound row_cmp x rest → length rest ≡ k
    → sorted row_cmp rest ≡ take k (put row_cmp row (sorted row_cmp items))
kept_first items pushed rest row x k p q h size =
    let all = sorted_top pushed rest x (same_permutation pushed (x ∷ rest) q) h in
    let long : length (sorted row_cmp rest) ≡ k = same_length (sorted row_cmp rest) rest (same_sorted row_cmp rest) ∙ size in
    sym (take-append_seam (sorted row_cmp rest) (x ∷ [])) ∙ ap (λ n. take n (sorted row_cmp rest ++ x ∷ [])) long ∙ ap (take k) (sym all) ∙ ap (take k) (sorted_pushed items pushed row p)

-- the same, where a heap gave its top
pub kept_popped : (items pushed rest : List Row) (row : Row) (k n : ℕ) (top : Option Row) → IsPermutation (row ∷ items) pushed → IsHeap row_cmp pushed → length items ≤ k → k < length pushed
    → IfNone top (n ≡ 0) → n ≡ length pushed → IfSome top (λ x. IsPermutation pushed (x ∷ rest)) → IfSome top (λ x. IsHeap row_cmp pushed → IsUpperBound row_cmp x rest)
    → sorted row_cmp rest ≡ take k (put row_cmp row (sorted row_cmp items))
kept_popped items pushed rest row k n None p h few many none is q b = absurd (omega (arith, none))
kept_popped items pushed rest row k n (Some x) p h few many none is q b =
    let size : length rest ≡ k = omega (arith, length_permutation (row ∷ items) pushed p, length_permutation pushed (x ∷ rest) q) in
    kept_first items pushed rest row x k p q (b h) size

-- as many rows as the heap has
pub length_sorted : (items : List Row) → length (sorted row_cmp items) ≡ length items
length_sorted items = same_length (sorted row_cmp items) items (same_sorted row_cmp items)

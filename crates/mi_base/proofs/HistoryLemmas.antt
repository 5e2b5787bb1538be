-- Rows in their order, and the same answers from the same objects in any order.
use Rattle.std.proofs.Common.{◌≤◌, ◌≡◌, ℕ, ◌+◌, List, [], ◌∷◌, ◌++◌, map, length, Bool, true, false, cond, not, ◌||◌, ◌&&◌, nat_lt, refl, sym, ap, ◌∙◌, arith, length-append}
use Rattle.std.specs.Prelude.{ℤ}
use Rattle.std.specs.List.{sum_by, fold, list_any, list_all}
use Rattle.std.specs.Ordering.{nat_cmp}
use Rattle.std.specs.Cmp.{IsTotalOrder, on_total, then_total, nat_cmp_total}
use Rattle.std.proofs.lemmas.Map.Lookups.{CmpEqualImpliesEq, exact_pairs, exact_unsigned}
use Rattle.std.proofs.lemmas.List.Sums.{sum_by-cons}
use Rattle.std.proofs.lemmas.Bool.Decides.{nat_tests}
use Rattle.std.proofs.lemmas.Grind.{fold-append}
use Rattle.std.proofs.lemmas.List.Elements.{filter_map-append}
use Rattle.std.proofs.lemmas.List.{map-append}
use Rattle.std.specs.List.Sorted.{IsPermutation, IsSorted}
use Rattle.mi_base.specs.declared.records.Update.{Update}
use Rattle.mi_base.specs.declared.records.LogEvent.{LogEvent}
use Rattle.mi_base.specs.declared.records.LogEvent.TheVariants.{Update as Made, Split}
use Rattle.mi_base.specs.declared.records.Row.{Row}
use Rattle.mi_base.specs.Space.{MetricSpace}
use Rattle.mi_base.specs.Sorting.{sorted, SameElements}
use Rattle.mi_base.specs.History.{Object, live, live_after, row_cmp, row_of, hits, range_scan, entered_in, entered, updates_of}
use Rattle.mi_base.proofs.SortingLemmas.{same_map, same_filter, same_permutation, sorted_of_same, sort_is}

pub row_total : IsTotalOrder row_cmp
row_total = then_total (on_total (λ r. r.distance) nat_cmp_total) (on_total (λ r. r.id) nat_cmp_total)

-- rows that compare alike are one
pub row_exact : CmpEqualImpliesEq row_cmp
row_exact a b h = ap (λ (p : ℕ × ℕ). record { distance = p.0; id = p.1 }) (exact_pairs nat_cmp nat_cmp exact_unsigned exact_unsigned (a.distance, a.id) (b.distance, b.id) h)

-- what a sort leaves of rows are the sorted rows
pub sorted_rows : (xs ys : List Row) → IsPermutation xs ys → IsSorted row_cmp ys → ys ≡ sorted row_cmp xs
sorted_rows xs ys p s = sort_is row_cmp row_total row_exact xs ys s (same_permutation xs ys p)

pub same_hits : (m : MetricSpace) (query : List ℤ) (radius : ℕ) (xs ys : List Object) → SameElements xs ys → SameElements (hits m query radius xs) (hits m query radius ys)
same_hits m query radius xs ys s = same_filter _ _ _ (same_map (row_of m query) xs ys s)

-- the sorted hits among the live objects, in whatever order, are the scan
pub sorted-hits : (m : MetricSpace) (history : List Update) (query : List ℤ) (radius : ℕ) (objects : List Object) → SameElements objects (live history)
    → sorted row_cmp (hits m query radius objects) ≡ range_scan m history query radius
sorted-hits m history query radius objects s =
    sorted_of_same row_cmp row_total row_exact (hits m query radius objects) (hits m query radius (live history)) (same_hits m query radius objects (live history) s)

any_sum : {X : Type 0} (p : X → Bool) (xs : List X) → list_any p xs ≡ nat_lt 0 (sum_by (λ x. cond (p x) 1 0) xs)
any_sum p [] = refl
any_sum p (x ∷ xs) =
    let P : Bool → Type 0 = λ b. (b || list_any p xs) ≡ nat_lt 0 (cond b 1 0 + sum_by (λ y. cond (p y) 1 0) xs) in
    let more : (n : ℕ) → true ≡ nat_lt 0 (1 + n) = λ n. grind (arith, nat_tests) in
    let same : (n : ℕ) → nat_lt 0 n ≡ nat_lt 0 (0 + n) = λ n. ap (nat_lt 0) (omega arith) in
    (elim (p x) as P [
      | true ↦ more (sum_by (λ y. cond (p y) 1 0) xs)
      | false ↦ any_sum p xs ∙ same (sum_by (λ y. cond (p y) 1 0) xs)
    ]) ∙ ap (nat_lt 0) (sym (sum_by-cons (λ y. cond (p y) 1 0) x xs))

-- the same elements pass a test, in whatever order
pub same_any : {X : Type 0} (p : X → Bool) (xs ys : List X) → SameElements xs ys → list_any p xs ≡ list_any p ys
same_any p xs ys s = any_sum p xs ∙ ap (nat_lt 0) (s.sums (λ x. cond (p x) 1 0)) ∙ sym (any_sum p ys)

not_any : {X : Type 0} (p : X → Bool) (xs : List X) → list_all p xs ≡ not (list_any (λ x. not (p x)) xs)
not_any p [] = refl
not_any p (x ∷ xs) =
    let P : Bool → Type 0 = λ b. (b && list_all p xs) ≡ not (not b || list_any (λ y. not (p y)) xs) in
    elim (p x) as P [ true ↦ not_any p xs | false ↦ refl ]

pub same_all : {X : Type 0} (p : X → Bool) (xs ys : List X) → SameElements xs ys → list_all p xs ≡ list_all p ys
same_all p xs ys s = not_any p xs ∙ ap not (same_any (λ x. not (p x)) xs ys s) ∙ sym (not_any p ys)

-- the updates of two logs, one after the other
pub entered-append : (a b : List LogEvent) → entered (a ++ b) ≡ entered a ++ entered b
entered-append a b = filter_map-append entered_in a b

pub updates_of-append : (a b : List LogEvent) → updates_of (a ++ b) ≡ updates_of a ++ updates_of b
updates_of-append a b = ap (map (λ e. e.update)) (entered-append a b) ∙ map-append (λ e. e.update) (entered a) (entered b)

-- a history that goes on
pub live-append : (history more : List Update) → live (history ++ more) ≡ fold live_after (live history) more
live-append history more = fold-append live_after [] history more

-- one more update in a log
pub length-entered : (log : List LogEvent) (session op : ℕ) (u : Update) → length (updates_of (log ++ Made session op u ∷ [])) ≡ length (updates_of log) + 1
length-entered log session op u = ap length (updates_of-append log (Made session op u ∷ [])) ∙ length-append (updates_of log) (u ∷ [])

-- no more updates than events
pub few_updates : (log : List LogEvent) → length (updates_of log) ≤ length log
few_updates [] = omega arith
few_updates (Made session op u ∷ log) = omega (arith, few_updates log)
few_updates (Split p ∷ log) = omega (arith, few_updates log)

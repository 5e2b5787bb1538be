-- The pivots in the order of a vector's distances.
use Rattle.std.proofs.Common.{◌≡◌, ℕ, zero, suc, ◌+◌, ◌<◌, ◌≤◌, List, [], ◌∷◌, length, Bool, true, false, cond, not, ◌&&◌, ◌||◌, IsTrue, nat_eq, nat_lt, nat_le, refl, ap, ◌∙◌, arith}
use Rattle.std.specs.Prelude.{slice_index}
use Rattle.std.specs.List.{range_with_len}
use Rattle.std.specs.declared.cmp.Ordering.{Ordering}
use Rattle.std.specs.Ordering.{is_lt}
use Rattle.std.specs.Cmp.{IsTotalOrder, on_total, then_total, nat_cmp_total}
use Rattle.std.proofs.lemmas.Bool.{and_from, and_parts, or_parts}
use Rattle.std.proofs.lemmas.List.FromFn.{length-range_with_len}
use Rattle.std.proofs.lemmas.Bool.Decides.{nat_tests}
use Rattle.mi_base.specs.Prefixes.{has, all_below, are_different}
use Rattle.mi_base.specs.Permutations.{is_permutation, pivot_cmp, permutation_of}
use Rattle.mi_base.specs.Sorting.{put, sorted, Ascends, SameElements}
use Rattle.mi_base.proofs.HistoryLemmas.{same_any, same_all}
use Rattle.mi_base.proofs.PrefixLemmas.{nat_eq-symmetric}
use Rattle.mi_base.proofs.SortingLemmas.{same_put, same_sorted, same_length, sorted_ascends}

pub pivot_total : (dists : List ℕ) → IsTotalOrder (pivot_cmp dists)
pivot_total dists = then_total (on_total (λ i. slice_index dists i) nat_cmp_total) nat_cmp_total

-- the permutation has each pivot's number once
pub same_permutation_of : (dists : List ℕ) → SameElements (permutation_of dists) (range_with_len 0 (length dists))
same_permutation_of dists = same_sorted (pivot_cmp dists) (range_with_len 0 (length dists))

-- no pivot of the permutation comes after a nearer one
pub permutation_of-ascends : (dists : List ℕ) → Ascends (pivot_cmp dists) (permutation_of dists)
permutation_of-ascends dists = sorted_ascends (pivot_cmp dists) (pivot_total dists) (range_with_len 0 (length dists))

pub length-permutation_of : (dists : List ℕ) → length (permutation_of dists) ≡ length dists
length-permutation_of dists = same_length (permutation_of dists) (range_with_len 0 (length dists)) (same_permutation_of dists) ∙ length-range_with_len 0 (length dists)

pub all_below-range : (a n m : ℕ) → a + n ≤ m → IsTrue (all_below m (range_with_len a n))
all_below-range a zero m le = refl
all_below-range a (suc n) m le =
    let low : nat_lt a m ≡ true = grind (arith, nat_tests) in
    and_from (nat_lt a m) (all_below m (range_with_len (a + 1) n)) low (all_below-range (a + 1) n m (omega arith))

-- a range has no number below its first
has-range : (b a n : ℕ) → b < a → has b (range_with_len a n) ≡ false
has-range b a zero lt = refl
has-range b a (suc n) lt =
    let other : nat_eq a b ≡ false = grind (arith, nat_tests) in
    ap (λ e. e || has b (range_with_len (a + 1) n)) other ∙ has-range b (a + 1) n (omega arith)

pub are_different-range : (a n : ℕ) → IsTrue (are_different (range_with_len a n))
are_different-range a zero = refl
are_different-range a (suc n) =
    ap (λ b. not b && are_different (range_with_len (a + 1) n)) (has-range a (a + 1) n (omega arith)) ∙ are_different-range (a + 1) n

not_true : (b : Bool) → IsTrue (not b) → b ≡ false
not_true true h = cc
not_true false h = refl

-- a number that is not there yet
are_different-put : (cmp : ℕ → ℕ → Ordering) (x : ℕ) (xs : List ℕ) → has x xs ≡ false → IsTrue (are_different xs) → IsTrue (are_different (put cmp x xs))
are_different-put cmp x [] new h = refl
are_different-put cmp x (y ∷ ys) new h =
    let apart = or_parts (nat_eq y x) (has x ys) new in
    let parts = and_parts (not (has y ys)) (are_different ys) h in
    let there : has y (put cmp x ys) ≡ false =
    same_any (λ z. nat_eq z y) (put cmp x ys) (x ∷ ys) (same_put cmp x ys) ∙ ap (λ b. b || has y ys) (nat_eq-symmetric x y ∙ apart.0) ∙ not_true (has y ys) parts.0 in
    let P : Bool → Type 0 = λ b. IsTrue (are_different (cond b (y ∷ put cmp x ys) (x ∷ y ∷ ys))) in
    elim (is_lt (cmp y x)) as P [
      | true ↦ ap (λ b. not b && are_different (put cmp x ys)) there ∙ are_different-put cmp x ys apart.1 parts.1
      | false ↦ ap (λ b. not b && are_different (y ∷ ys)) new ∙ h
    ]

pub are_different-sorted : (cmp : ℕ → ℕ → Ordering) (xs : List ℕ) → IsTrue (are_different xs) → IsTrue (are_different (sorted cmp xs))
are_different-sorted cmp [] h = refl
are_different-sorted cmp (x ∷ xs) h =
    let parts = and_parts (not (has x xs)) (are_different xs) h in
    are_different-put cmp x (sorted cmp xs) (same_any (λ z. nat_eq z x) (sorted cmp xs) xs (same_sorted cmp xs) ∙ not_true (has x xs) parts.0) (are_different-sorted cmp xs parts.1)

-- the permutation of at most 32 distances is one
pub is_permutation-permutation_of : (dists : List ℕ) → length dists ≤ 32 → IsTrue (is_permutation (permutation_of dists))
is_permutation-permutation_of dists few =
    let ps = permutation_of dists in
    let n = length dists in
    let size : length ps ≡ n = length-permutation_of dists in
    let short : nat_le n 32 ≡ true = grind (arith, nat_tests) in
    let below : IsTrue (all_below n ps) =
    same_all (λ x. nat_lt x n) ps (range_with_len 0 n) (same_permutation_of dists) ∙ all_below-range 0 n n (omega arith) in
    ap (λ m. nat_le m 32 && (all_below m ps && are_different ps)) size
    ∙ and_from _ _ short (and_from _ _ below (are_different-sorted (pivot_cmp dists) (range_with_len 0 n) (are_different-range 0 n)))

-- Sorted pairs, and the numbers in them.
use Rattle.std.proofs.Common.{◌≡◌, ℕ, List, [], ◌∷◌, ◌++◌, map, length, take, drop, Bool, true, false, cond, refl, sym, ap, ◌∙◌, subst, arith}
use Rattle.std.specs.List.{range_with_len, refill}
use Rattle.std.proofs.lemmas.List.{drop_all}
use Rattle.std.proofs.Math.Seq.{take-append_seam}
use Rattle.std.specs.List.Sorted.{IsPermutation, IsSorted}
use Rattle.std.specs.declared.cmp.Ordering.{Ordering}
use Rattle.std.specs.Ordering.{nat_cmp, is_lt, ordering_then}
use Rattle.std.specs.Cmp.{IsTotalOrder, on_total, then_total, nat_cmp_total}
use Rattle.std.proofs.lemmas.Map.Lookups.{CmpEqualImpliesEq, exact_pairs, exact_unsigned}
use Rattle.mi_base.specs.Sorting.{put, sorted}
use Rattle.mi_base.specs.Permutations.{pivot_cmp, permutation_of}
use Rattle.mi_base.proofs.SortingLemmas.{sort_is, same_permutation}
use Rattle.mi_perm.specs.Numbered.{number_pair}

-- by distance, then number
abbrev pub pair_cmp : ℕ × ℕ → ℕ × ℕ → Ordering
pair_cmp a b = ordering_then (nat_cmp a.0 b.0) (nat_cmp a.1 b.1)

pair_total : IsTotalOrder pair_cmp
pair_total = then_total (on_total (λ (p : ℕ × ℕ). p.0) nat_cmp_total) (on_total (λ (p : ℕ × ℕ). p.1) nat_cmp_total)

pair_exact : CmpEqualImpliesEq pair_cmp
pair_exact a b h = exact_pairs nat_cmp nat_cmp exact_unsigned exact_unsigned a b h

put_map : {X Y : Type 0} (f : X → Y) (cmp : X → X → Ordering) (by : Y → Y → Ordering) → ((a b : X) → by (f a) (f b) ≡ cmp a b) → (x : X) (xs : List X) → put by (f x) (map f xs) ≡ map f (put cmp x xs)
put_map f cmp by same x [] = refl
put_map f cmp by same x (y ∷ ys) =
    let P : Bool → Type 0 = λ b. cond b (f y ∷ put by (f x) (map f ys)) (f x ∷ f y ∷ map f ys) ≡ map f (cond b (y ∷ put cmp x ys) (x ∷ y ∷ ys)) in
    ap (λ o. cond (is_lt o) (f y ∷ put by (f x) (map f ys)) (f x ∷ f y ∷ map f ys)) (same y x)
    ∙ elim (is_lt (cmp y x)) as P [ true ↦ ap (λ zs. f y ∷ zs) (put_map f cmp by same x ys) | false ↦ refl ]

-- where the order of images is the order of what they are of, so are the sorted lists
pub sorted_map : {X Y : Type 0} (f : X → Y) (cmp : X → X → Ordering) (by : Y → Y → Ordering) → ((a b : X) → by (f a) (f b) ≡ cmp a b) → (xs : List X) → sorted by (map f xs) ≡ map f (sorted cmp xs)
sorted_map f cmp by same [] = refl
sorted_map f cmp by same (x ∷ xs) = ap (put by (f x)) (sorted_map f cmp by same xs) ∙ put_map f cmp by same x (sorted cmp xs)

numbers_of : (dists ns : List ℕ) → map (λ (p : ℕ × ℕ). p.1) (map (number_pair dists) ns) ≡ ns
numbers_of dists [] = refl
numbers_of dists (n ∷ ns) = ap (λ ms. n ∷ ms) (numbers_of dists ns)

-- the numbers of the sorted pairs are the permutation
pub numbers-sorted : (dists : List ℕ) (ys : List (ℕ × ℕ)) → IsPermutation (map (number_pair dists) (range_with_len 0 (length dists))) ys → IsSorted pair_cmp ys
    → map (λ (p : ℕ × ℕ). p.1) ys ≡ permutation_of dists
numbers-sorted dists ys p s =
    let all = range_with_len 0 (length dists) in
    let xs = map (number_pair dists) all in
    ap (map (λ (p : ℕ × ℕ). p.1)) (sort_is pair_cmp pair_total pair_exact xs ys s (same_permutation xs ys p) ∙ sorted_map (number_pair dists) (pivot_cmp dists) pair_cmp (λ a b. refl) all)
    ∙ numbers_of dists (permutation_of dists)

-- the same, where the pairs were sorted in their place
pub numbers-refilled : (dists : List ℕ) (xs ys : List (ℕ × ℕ)) → xs ≡ map (number_pair dists) (range_with_len 0 (length dists)) → length ys ≡ length xs → IsPermutation xs ys → IsSorted pair_cmp ys
    → map (λ (p : ℕ × ℕ). p.1) (refill (length xs) xs ys) ≡ permutation_of dists
numbers-refilled dists xs ys paired size p s =
    let spent : drop (length ys) xs ≡ [] = drop_all (length ys) xs (omega arith) in
    let whole : refill (length xs) xs ys ≡ ys = ap (λ zs. take (length xs) (ys ++ zs)) spent ∙ ap (λ n. take n (ys ++ [])) (sym size) ∙ take-append_seam ys [] in
    let Q : List (ℕ × ℕ) → Type 0 = λ zs. IsPermutation zs ys in
    ap (map (λ (p : ℕ × ℕ). p.1)) whole ∙ numbers-sorted dists ys (subst Q paired p) s

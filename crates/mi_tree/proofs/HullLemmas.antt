-- Hulls, and leaves of given objects, don't depend on an order.
use Rattle.std.proofs.Common.{◌≡◌, ℕ, ◌+◌, ◌<◌, List, [], ◌∷◌, ◌++◌, map, length, take, get_or, Bool, true, false, cond, refl, sym, ap, ◌∙◌, arith, Option, Some, None, length-append, append-nil}
use Rattle.std.specs.List.{filter}
use Rattle.std.specs.Ordering.{nat_cmp, is_lt}
use Rattle.std.specs.Cmp.{nat_cmp_total}
use Rattle.std.proofs.lemmas.Map.Lookups.{exact_unsigned}
use Rattle.std.proofs.lemmas.List.{map-append, take_more}
use Rattle.std.proofs.lemmas.List.Elements.{filter-append}
use Rattle.mi_base.specs.Permutations.{begins}
use Rattle.mi_base.specs.Sorting.{put, sorted, SameElements}
use Rattle.mi_base.proofs.SortingLemmas.{sorted_of_same, same_map, same_filter, same_length}
use Rattle.mi_tree.specs.declared.outcomes.Leaf.{Leaf}
use Rattle.mi_tree.specs.declared.counts.Placed.{Placed}
use Rattle.mi_tree.specs.Counting.{widen, hull_of, with_added, leaf_among}

abbrev hull_made : ℕ → ℕ → Option (ℕ × ℕ)
hull_made a b = Some (a, b)

-- equal ends make equal intervals
pair_is : {a b c d : ℕ} → a ≡ c → b ≡ d → hull_made a b ≡ hull_made c d
pair_is e f = cc

-- two numbers may widen in either order
widen_swap : (a b : ℕ) (h : Option (ℕ × ℕ)) → widen a (widen b h) ≡ widen b (widen a h)
widen_swap a b None = pair_is (omega arith) (omega arith)
widen_swap a b (Some h) = pair_is (omega arith) (omega arith)

-- one more number at the end
pub hull-append : (ds : List ℕ) (d : ℕ) → hull_of (ds ++ d ∷ []) ≡ widen d (hull_of ds)
hull-append [] d = refl
hull-append (x ∷ ds) d = ap (widen x) (hull-append ds d) ∙ widen_swap x d (hull_of ds)

-- a number put in its place widens alike
hull_put : (d : ℕ) (ds : List ℕ) → hull_of (put nat_cmp d ds) ≡ widen d (hull_of ds)
hull_put d [] = refl
hull_put d (x ∷ xs) =
    let P : Bool → Type 0 = λ b. hull_of (cond b (x ∷ put nat_cmp d xs) (d ∷ x ∷ xs)) ≡ widen d (hull_of (x ∷ xs)) in
    elim (is_lt (nat_cmp x d)) as P [ true ↦ ap (widen x) (hull_put d xs) ∙ widen_swap x d (hull_of xs) | false ↦ refl ]

-- sorted numbers have the same interval
hull_sorted : (ds : List ℕ) → hull_of (sorted nat_cmp ds) ≡ hull_of ds
hull_sorted [] = refl
hull_sorted (d ∷ ds) = hull_put d (sorted nat_cmp ds) ∙ ap (widen d) (hull_sorted ds)

-- numbers in any order have one hull
pub hull_same : (ds es : List ℕ) → SameElements ds es → hull_of ds ≡ hull_of es
hull_same ds es s = sym (hull_sorted ds) ∙ ap hull_of (sorted_of_same nat_cmp nat_cmp_total exact_unsigned ds es s) ∙ hull_sorted es

abbrev pub leaf_made : List ℕ → ℕ → Option (ℕ × ℕ) → Leaf
leaf_made p n h = record { prefix = p; count = n; hull = h }

-- equal counts and hulls make equal leaves
pub leaf_equal : (p : List ℕ) {m n : ℕ} {h k : Option (ℕ × ℕ)} → m ≡ n → h ≡ k → leaf_made p m h ≡ leaf_made p n k
leaf_equal p e f = cc

-- a leaf of given objects, in whatever order
pub among_same : (xs ys : List Placed) (p : List ℕ) → SameElements xs ys → leaf_among xs p ≡ leaf_among ys p
among_same xs ys p s =
    let kept = same_filter (λ (o : Placed). begins p o.perm) xs ys s in
    leaf_equal p (same_length _ _ kept) (hull_same _ _ (same_map (λ (o : Placed). o.distance) _ _ kept))

-- one more object at the end
pub among-append : (os : List Placed) (o : Placed) (p : List ℕ) → leaf_among (os ++ o ∷ []) p ≡ with_added o.perm o.distance (leaf_among os p)
among-append os o p =
    let kept = filter (λ (x : Placed). begins p x.perm) os in
    let split : filter (λ (x : Placed). begins p x.perm) (os ++ o ∷ []) ≡ kept ++ cond (begins p o.perm) (o ∷ []) [] = filter-append (λ (x : Placed). begins p x.perm) os (o ∷ []) in
    let P : Bool → Type 0 = λ b. leaf_made p (length (kept ++ cond b (o ∷ []) [])) (hull_of (map (λ (x : Placed). x.distance) (kept ++ cond b (o ∷ []) [])))
    ≡ cond b (leaf_made p (length kept + 1) (widen o.distance (hull_of (map (λ (x : Placed). x.distance) kept)))) (leaf_made p (length kept) (hull_of (map (λ (x : Placed). x.distance) kept))) in
    ap (λ (xs : List Placed). leaf_made p (length xs) (hull_of (map (λ (x : Placed). x.distance) xs))) split
    ∙ (elim (begins p o.perm) as P [
      | true ↦ leaf_equal p (length-append kept (o ∷ []))
          (ap hull_of (map-append (λ (x : Placed). x.distance) kept (o ∷ [])) ∙ hull-append (map (λ (x : Placed). x.distance) kept) o.distance)
      | false ↦ rw append-nil refl
    ])

-- the next object of a list
pub among_more : (objects : List Placed) (i : ℕ) (o : Placed) (p : List ℕ) → i < length objects → o ≡ get_or objects i o → leaf_among (take (i + 1) objects) p ≡ with_added o.perm o.distance (leaf_among (take i objects) p)
among_more objects i o p lt at =
    ap (λ (xs : List Placed). leaf_among xs p) (take_more objects i o lt ∙ ap (λ x. take i objects ++ x ∷ []) (sym at)) ∙ among-append (take i objects) o p

-- The leaves stand in dictionary order.
use Rattle.std.proofs.Common.{◌≡◌, ℕ, suc, zero, ◌+◌, ◌<◌, List, [], ◌∷◌, ◌++◌, map, Bool, true, false, cond, not, ◌&&◌, ◌||◌, nat_eq, nat_lt, refl, sym, ◌∙◌, subst, arith}
use Rattle.std.specs.List.{AllByRecursion, filter, fold, flat_map, range_with_len, list_all}
use Rattle.std.specs.declared.cmp.Ordering.TheVariants.{Less, Equal, Greater}
use Rattle.std.specs.Cmp.Lexicographic.{slice_cmp}
use Rattle.std.specs.List.Sorted.{IsStrictlySortedBy}
use Rattle.std.specs.Ordering.{nat_cmp, ordering_then}
use Rattle.std.proofs.lemmas.Bool.{lt-ltb, and_parts, eq-eqb, false≢true}
use Rattle.std.proofs.lemmas.List.{map-id}
use Rattle.mi_base.specs.declared.records.LogEvent.{LogEvent}
use Rattle.mi_base.specs.declared.records.LogEvent.TheVariants.{Update as Made, Split}
use Rattle.mi_base.specs.Prefixes.{has}
use Rattle.mi_base.proofs.SortingLemmas.{filter_keeps}
use Rattle.mi_tree.specs.Cells.{Grid, children, same_cell, split_cell, leaves_after, first_leaves, leaves}
use Rattle.mi_tree.specs.declared.outcomes.Leaf.{Leaf}
use Rattle.mi_tree.specs.Catalog.{prefixes_of}
use Rattle.mi_tree.specs.Counting.{catalog_after, population, leaf_with}
use Rattle.mi_tree.specs.Order.{before, in_order}
use Rattle.mi_tree.proofs.ListLemmas.{all_weaker, all_map, map_twice, all_joined, all_from_test, test_from_all}
use Rattle.mi_tree.proofs.LeafLemmas.{same_cell_is}

-- each comes before all later ones
abbrev pub StandInOrder : List (List ℕ) → Type 0
StandInOrder [] = Unit {0}
StandInOrder (x ∷ xs) = AllByRecursion (λ y. before x y ≡ true) xs × StandInOrder xs

-- a longer list still comes before
before_more : (p q : List ℕ) (i : ℕ) → before p q ≡ true → before (p ++ i ∷ []) q ≡ true
before_more [] q i h = absurd (false≢true h)
before_more (x ∷ p) [] i h = h
before_more (x ∷ p) (y ∷ q) i h =
    let P : Bool → Bool → Type 0 = λ a b. (a || (b && before p q)) ≡ true → (a || (b && before (p ++ i ∷ []) q)) ≡ true in
    let go : (a b : Bool) → P a b = elim [ true ↦ λ b k. refl | false ↦ elim [ true ↦ λ k. before_more p q i k | false ↦ λ k. k ] ] in
    go (nat_lt x y) (nat_eq x y) h

-- what comes before a list comes before a longer one
more_before : (q p : List ℕ) (i : ℕ) → before q p ≡ true → before q (p ++ i ∷ []) ≡ true
more_before [] p i h = absurd (false≢true h)
more_before (x ∷ q) [] i h = absurd (false≢true h)
more_before (x ∷ q) (y ∷ p) i h =
    let P : Bool → Bool → Type 0 = λ a b. (a || (b && before q p)) ≡ true → (a || (b && before q (p ++ i ∷ []))) ≡ true in
    let go : (a b : Bool) → P a b = elim [ true ↦ λ b k. refl | false ↦ elim [ true ↦ λ k. more_before q p i k | false ↦ λ k. k ] ] in
    go (nat_lt x y) (nat_eq x y) h

-- children come in the order of their pivots
siblings : (p : List ℕ) (i j : ℕ) → i < j → before (p ++ i ∷ []) (p ++ j ∷ []) ≡ true
siblings [] i j lt = rw (lt-ltb i j lt) refl
siblings (x ∷ p) i j lt =
    let P : Bool → Type 0 = λ a. (a || (true && before (p ++ i ∷ []) (p ++ j ∷ []))) ≡ true in
    rw (eq-eqb x x refl) (elim (nat_lt x x) as P [ true ↦ refl | false ↦ siblings p i j lt ])

-- numbers in ascending order
abbrev Ascending : List ℕ → Type 0
Ascending [] = Unit {0}
Ascending (i ∷ is) = AllByRecursion (λ j. i < j) is × Ascending is

-- a range is above what is below its first
range_above : (b a n : ℕ) → b < a → AllByRecursion (λ j. b < j) (range_with_len a n)
range_above b a zero lt = tt
range_above b a (suc n) lt = (lt, range_above b (a + 1) n (omega arith))

-- a range ascends
range_ascends : (a n : ℕ) → Ascending (range_with_len a n)
range_ascends a zero = tt
range_ascends a (suc n) = (range_above a (a + 1) n (omega arith), range_ascends (a + 1) n)

-- a test keeps the order
filter_ascends : (t : ℕ → Bool) (is : List ℕ) → Ascending is → Ascending (filter t is)
filter_ascends t [] a = tt
filter_ascends t (i ∷ is) a =
    let P : Bool → Type 0 = λ b. Ascending (cond b (i ∷ filter t is) (filter t is)) in
    elim (t i) as P [ true ↦ (filter_keeps _ t is a.0, filter_ascends t is a.1) | false ↦ filter_ascends t is a.1 ]

-- children stand in order
children_in_order : (p : List ℕ) (is : List ℕ) → Ascending is → StandInOrder (map (λ i. p ++ i ∷ []) is)
children_in_order p [] a = tt
children_in_order p (i ∷ is) a = (all_map (λ j. p ++ j ∷ []) _ is (all_weaker _ _ (λ j lt. siblings p i j lt) is a.0), children_in_order p is a.1)

-- two lists in order, one before the other
order_joined : (xs ys : List (List ℕ)) → StandInOrder xs → StandInOrder ys → AllByRecursion (λ x. AllByRecursion (λ y. before x y ≡ true) ys) xs → StandInOrder (xs ++ ys)
order_joined [] ys a b c = b
order_joined (x ∷ xs) ys a b c = (all_joined _ xs ys a.0 c.0, order_joined xs ys a.1 b c.1)

-- what comes before a prefix comes before its children
all_any_at : (p x : List ℕ) → before x p ≡ true → (is : List ℕ) → AllByRecursion (λ i. before x (p ++ i ∷ []) ≡ true) is
all_any_at p x h [] = tt
all_any_at p x h (i ∷ is) = (more_before x p i h, all_any_at p x h is)

-- the children come before what the prefix comes before
all_any_before : (p y : List ℕ) → before p y ≡ true → (is : List ℕ) → AllByRecursion (λ i. before (p ++ i ∷ []) y ≡ true) is
all_any_before p y h [] = tt
all_any_before p y h (i ∷ is) = (before_more p y i h, all_any_before p y h is)

-- what comes after a leaf comes after its parts, and what comes before it before them
parts_after : (n : ℕ) (p q x : List ℕ) → before x q ≡ true → AllByRecursion (λ y. before x y ≡ true) (split_cell n p q)
parts_after n p q x h =
    let P : Bool → Type 0 = λ b. same_cell p q ≡ b → AllByRecursion (λ y. before x y ≡ true) (cond b (children n p) (q ∷ [])) in
    (elim (same_cell p q) as P [
      | true ↦ λ t.
          let hp : before x p ≡ true = subst (λ (y : List ℕ). before x y ≡ true) (sym (same_cell_is p q t)) h in
          all_map (λ i. p ++ i ∷ []) _ (filter (λ i. not (has i p)) (range_with_len 0 n)) (all_any_at p x hp (filter (λ i. not (has i p)) (range_with_len 0 n)))
      | false ↦ λ f. (h, tt)
    ]) refl

-- and the other way about
parts_before : (n : ℕ) (p q y : List ℕ) → before q y ≡ true → AllByRecursion (λ x. before x y ≡ true) (split_cell n p q)
parts_before n p q y h =
    let P : Bool → Type 0 = λ b. same_cell p q ≡ b → AllByRecursion (λ x. before x y ≡ true) (cond b (children n p) (q ∷ [])) in
    (elim (same_cell p q) as P [
      | true ↦ λ t.
          let hp : before p y ≡ true = subst (λ (x : List ℕ). before x y ≡ true) (sym (same_cell_is p q t)) h in
          all_map (λ i. p ++ i ∷ []) _ (filter (λ i. not (has i p)) (range_with_len 0 n)) (all_any_before p y hp (filter (λ i. not (has i p)) (range_with_len 0 n)))
      | false ↦ λ f. (h, tt)
    ]) refl

-- what comes before all comes before all parts
parts_of_all : (n : ℕ) (p x : List ℕ) (ls : List (List ℕ)) → AllByRecursion (λ q. before x q ≡ true) ls → AllByRecursion (λ y. before x y ≡ true) (flat_map (split_cell n p) ls)
parts_of_all n p x [] h = tt
parts_of_all n p x (q ∷ ls) h = all_joined _ (split_cell n p q) (flat_map (split_cell n p) ls) (parts_after n p q x h.0) (parts_of_all n p x ls h.1)

-- the parts of one leaf stand in order
parts_in_order : (n : ℕ) (p q : List ℕ) → StandInOrder (split_cell n p q)
parts_in_order n p q =
    let P : Bool → Type 0 = λ b. StandInOrder (cond b (children n p) (q ∷ [])) in
    elim (same_cell p q) as P [
      | true ↦ children_in_order p (filter (λ i. not (has i p)) (range_with_len 0 n)) (filter_ascends _ (range_with_len 0 n) (range_ascends 0 n))
      | false ↦ (tt, tt)
    ]

-- what comes before all leaves comes before all their parts
over_each : (n : ℕ) (p : List ℕ) (ls xs : List (List ℕ)) → AllByRecursion (λ x. AllByRecursion (λ q. before x q ≡ true) ls) xs → AllByRecursion (λ x. AllByRecursion (λ y. before x y ≡ true) (flat_map (split_cell n p) ls)) xs
over_each n p ls [] h = tt
over_each n p ls (x ∷ xs) h = (parts_of_all n p x ls h.0, over_each n p ls xs h.1)

-- what relates to a list relates to its first
heads_of : {X Y : Type 0} (R : X → Y → Type 0) (x : X) (xs : List X) (ys : List Y) → AllByRecursion (λ y. AllByRecursion (λ z. R z y) (x ∷ xs)) ys → AllByRecursion (λ y. R x y) ys
heads_of R x xs [] h = tt
heads_of R x xs (y ∷ ys) h = (h.0.0, heads_of R x xs ys h.1)

-- what relates to a list relates to its rest
tails_of : {X Y : Type 0} (R : X → Y → Type 0) (x : X) (xs : List X) (ys : List Y) → AllByRecursion (λ y. AllByRecursion (λ z. R z y) (x ∷ xs)) ys → AllByRecursion (λ y. AllByRecursion (λ z. R z y) xs) ys
tails_of R x xs [] h = tt
tails_of R x xs (y ∷ ys) h = (h.0.1, tails_of R x xs ys h.1)

-- a relation of two lists read the other way
swap_all : {X Y : Type 0} (R : X → Y → Type 0) (xs : List X) (ys : List Y) → AllByRecursion (λ y. AllByRecursion (λ x. R x y) xs) ys → AllByRecursion (λ x. AllByRecursion (λ y. R x y) ys) xs
swap_all R [] ys h = tt
swap_all R (x ∷ xs) ys h = (heads_of R x xs ys h, swap_all R xs ys (tails_of R x xs ys h))

-- the parts of a leaf come before the later leaves
over_all : (n : ℕ) (p q : List ℕ) (ls : List (List ℕ)) → AllByRecursion (λ y. before q y ≡ true) ls → AllByRecursion (λ x. AllByRecursion (λ y. before x y ≡ true) ls) (split_cell n p q)
over_all n p q ls h = swap_all (λ x y. before x y ≡ true) (split_cell n p q) ls (all_weaker _ _ (λ y b. parts_before n p q y b) ls h)

-- a split keeps the order
split_in_order : (n : ℕ) (p : List ℕ) (ls : List (List ℕ)) → StandInOrder ls → StandInOrder (flat_map (split_cell n p) ls)
split_in_order n p [] h = tt
split_in_order n p (q ∷ ls) h =
    order_joined (split_cell n p q) (flat_map (split_cell n p) ls) (parts_in_order n p q) (split_in_order n p ls h.1)
    (over_each n p ls (split_cell n p q) (over_all n p q ls h.0))

-- a log keeps the order
from_in_order : (n : ℕ) (ls : List (List ℕ)) (log : List LogEvent) → StandInOrder ls → StandInOrder (fold (leaves_after n) ls log)
from_in_order n ls [] h = h
from_in_order n ls (Made session op u ∷ log) h = from_in_order n ls log h
from_in_order n ls (Split p ∷ log) h = from_in_order n (flat_map (split_cell n p) ls) log (split_in_order n p ls h)

-- the first leaves stand in order
first_in_order : (n : ℕ) → StandInOrder (first_leaves n)
first_in_order n =
    let P : Bool → Type 0 = λ b. StandInOrder (cond b ([] ∷ []) (children n [])) in
    elim (nat_eq n 0) as P [
      | true ↦ (tt, tt)
      | false ↦ children_in_order [] (filter (λ i. not (has i [])) (range_with_len 0 n)) (filter_ascends (λ i. not (has i [])) (range_with_len 0 n) (range_ascends 0 n))
    ]

-- `in_order` as a fact of each
pub order_from_test : (ls : List (List ℕ)) → in_order ls ≡ true → StandInOrder ls
order_from_test [] h = tt
order_from_test (x ∷ ls) h = let parts = and_parts (list_all (before x) ls) (in_order ls) h in (all_from_test (before x) ls parts.0, order_from_test ls parts.1)

-- the fact as the test
pub test_from_order : (ls : List (List ℕ)) → StandInOrder ls → in_order ls ≡ true
test_from_order [] h = refl
test_from_order (x ∷ ls) h = rw (test_from_all (before x) ls h.0, test_from_order ls h.1) refl

-- the leaves after a log stand in order
pub leaves_in_order : (g : Grid) (log : List LogEvent) → in_order (leaves g log) ≡ true
leaves_in_order g log = test_from_order (leaves g log) (from_in_order g.pivots (first_leaves g.pivots) log (first_in_order g.pivots))

-- a split keeps what the test says
pub split_keeps_order : (n : ℕ) (p : List ℕ) (ls : List (List ℕ)) → in_order ls ≡ true → in_order (flat_map (split_cell n p) ls) ≡ true
split_keeps_order n p ls h = test_from_order _ (split_in_order n p ls (order_from_test ls h))

-- the first leaves pass the test
pub first_leaves_in_order : (n : ℕ) → in_order (first_leaves n) ≡ true
first_leaves_in_order n = test_from_order _ (first_in_order n)

-- what comes before is less as slices are compared
before_less : (p q : List ℕ) → before p q ≡ true → slice_cmp nat_cmp p q ≡ Less
before_less [] q h = absurd (false≢true h)
before_less (x ∷ p) [] h = absurd (false≢true h)
before_less (x ∷ p) (y ∷ q) h =
    let P : Bool → Bool → Type 0 = λ a b. (a || (b && before p q)) ≡ true → ordering_then (cond a Less (cond b Equal Greater)) (slice_cmp nat_cmp p q) ≡ Less in
    let go : (a b : Bool) → P a b = elim [ true ↦ λ b k. refl | false ↦ elim [ true ↦ λ k. before_less p q k | false ↦ λ k. absurd (false≢true k) ] ] in
    go (nat_lt x y) (nat_eq x y) h

-- what stands in order ascends
ascends : (ls : List (List ℕ)) → StandInOrder ls → IsStrictlySortedBy (slice_cmp nat_cmp) ls
unfolding IsStrictlySortedBy
ascends [] h = tt
ascends (x ∷ ls) h = (all_weaker _ _ (λ y b. before_less x y b) ls h.0, ascends ls h.1)

-- the prefixes of the counted leaves ascend
pub cat_in_order : (g : Grid) (log : List LogEvent) → IsStrictlySortedBy (slice_cmp nat_cmp) (prefixes_of (catalog_after g log))
cat_in_order g log =
    subst (IsStrictlySortedBy (slice_cmp nat_cmp)) (sym (map_twice (λ (l : Leaf). l.prefix) (leaf_with g (population g log)) (leaves g log) ∙ map-id (leaves g log)))
    (ascends (leaves g log) (from_in_order g.pivots (first_leaves g.pivots) log (first_in_order g.pivots)))

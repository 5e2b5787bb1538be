-- What the calls of a catalog do to its leaves.
use Rattle.std.proofs.Common.{◌≡◌, ℕ, suc, zero, ◌+◌, ◌-◌, ◌<◌, ◌≤◌, List, [], ◌∷◌, ◌++◌, map, length, take, get_or, Bool, true, false, IsTrue, cond, not, ◌&&◌, nat_eq, nat_lt, nat_le, refl, sym, ap, ◌∙◌, subst, arith, append_assoc, append-nil, length-append, add-one}
use Rattle.std.specs.List.{filter, flat_map, range_with_len}
use Rattle.std.specs.Prelude.{slice_get, slice_set, IfSome}
use Rattle.std.proofs.lemmas.Bool.{and_from, and_parts, false≢true}
use Rattle.std.proofs.lemmas.Bool.Decides.{nat_tests}
use Rattle.std.proofs.lemmas.List.{map-append, map-id, length-map}
use Rattle.std.proofs.lemmas.List.Elements.{filter-append}
use Rattle.std.proofs.lemmas.List.Folds.{flat_map-map, list_all-append}
use Rattle.mi_base.specs.Prefixes.{has, is_prefix, all_below, are_different}
use Rattle.mi_base.specs.Permutations.{begins}
use Rattle.mi_base.specs.Configuration.{IsDepth}
use Rattle.mi_base.proofs.PrefixLemmas.{are_different-append}
use Rattle.mi_tree.specs.declared.outcomes.Leaf.{Leaf}
use Rattle.mi_tree.specs.declared.counts.Placed.{Placed}
use Rattle.mi_tree.specs.Cells.{children, same_cell, split_cell, first_leaves}
use Rattle.mi_tree.specs.Counting.{widen, with_added, with_removed, leaf_among, split_leaf, leaves_beginning}
use Rattle.mi_tree.specs.Catalog.{prefixes_of, Partition, IsCatalog}
use Rattle.mi_tree.proofs.ListLemmas.{filter_map, map_twice, all_any, map-flat, flat_same}
use Rattle.mi_tree.proofs.LeafLemmas.{perm_is, split_one, first_one, begins_is}
use Rattle.mi_tree.proofs.OrderLemmas.{split_keeps_order, first_leaves_in_order}
use Rattle.mi_tree.proofs.SearchLemmas.{Between, some_passes, only_one, map_one}

-- one more pivot keeps a prefix one
pub prefix_more : (p : List ℕ) (i : ℕ) → IsTrue (is_prefix p) → length p < 6 → i < 32 → has i p ≡ false → IsTrue (is_prefix (p ++ i ∷ []))
prefix_more p i h short low new =
    let parts = and_parts (nat_le (length p) 6) (all_below 32 p && are_different p) h in
    let rest = and_parts (all_below 32 p) (are_different p) parts.1 in
    let size : length (p ++ i ∷ []) ≤ 6 = omega (arith, length-append p (i ∷ [])) in
    let few : nat_le (length (p ++ i ∷ [])) 6 ≡ true = grind (arith, nat_tests) in
    let known : nat_lt i 32 ≡ true = grind (arith, nat_tests) in
    let below : all_below 32 (p ++ i ∷ []) ≡ true = list_all-append (λ x. nat_lt x 32) p (i ∷ []) ∙ (rw (rest.0, known) refl) in
    let apart : are_different (p ++ i ∷ []) ≡ true = are_different-append p i ∙ (rw (new, rest.1) refl) in
    and_from _ _ few (and_from _ _ below apart)

-- the number of leaves that begin a permutation is that of prefixes
pub beginning_counts : (perm : List ℕ) (ls : List Leaf) → length (leaves_beginning perm ls) ≡ length (filter (λ p. begins p perm) (prefixes_of ls))
beginning_counts perm ls = sym (length-map (leaves_beginning perm ls) (λ l. l.prefix)) ∙ ap length (filter_map (λ (l : Leaf). l.prefix) (λ p. begins p perm) ls)

-- the prefix at a place is that of the leaf there
pub prefix_at : (ls : List Leaf) (k : ℕ) (l : Leaf) → k < length ls → l ≡ get_or ls k l → get_or (prefixes_of ls) k [] ≡ l.prefix
prefix_at [] k l lt at = absurd (omega arith)
prefix_at (x ∷ ls) zero l lt at = ap (λ (y : Leaf). y.prefix) (sym at)
prefix_at (x ∷ ls) (suc k) l lt at = prefix_at ls k l (omega arith) at

-- a write that keeps the prefix keeps the prefixes
pub prefixes_kept : (ls : List Leaf) (k : ℕ) (old new : Leaf) → k < length ls → old ≡ get_or ls k old → new.prefix ≡ old.prefix → prefixes_of (slice_set ls k new) ≡ prefixes_of ls
prefixes_kept [] k old new lt at e = absurd (omega arith)
prefixes_kept (x ∷ ls) zero old new lt at e = ap (λ (q : List ℕ). q ∷ prefixes_of ls) (e ∙ ap (λ (y : Leaf). y.prefix) at)
prefixes_kept (x ∷ ls) (suc k) old new lt at e = ap (λ ps. x.prefix ∷ ps) (prefixes_kept ls k old new (omega arith) at e)

-- what is said of the element at a place holds of it
some_at : {X : Type 0} (P : X → Type 0) (xs : List X) (k : ℕ) (d : X) → k < length xs → IfSome (slice_get xs k) P → P (get_or xs k d)
some_at P [] k d lt h = absurd (omega arith)
some_at P (x ∷ xs) zero d lt h = h
some_at P (x ∷ xs) (suc k) d lt h = some_at P xs k d (omega arith) h

-- a prefix that begins a permutation is that of a leaf
some_prefix : (perm : List ℕ) (ls : List Leaf) (k : ℕ) → k < length ls → begins (get_or (prefixes_of ls) k []) perm ≡ true → IfSome (slice_get ls k) (λ l. begins l.prefix perm ≡ true)
some_prefix perm [] k lt h = absurd (omega arith)
some_prefix perm (x ∷ ls) zero lt h = h
some_prefix perm (x ∷ ls) (suc k) lt h = some_prefix perm ls k (omega arith) h

-- where a search ends the leaf stands
pub found_at : (perm : List ℕ) (ls : List Leaf) (low high : ℕ) → high ≤ low + 1 → Between (prefixes_of ls) perm low high → length (leaves_beginning perm ls) ≡ 1
    → IfSome (slice_get ls low) (λ l. begins l.prefix perm ≡ true)
found_at perm ls low high short within one =
    let some = some_passes (λ p. begins p perm) (prefixes_of ls) [] (sym (beginning_counts perm ls) ∙ one) in
    let b = within some.0 some.1 some.2 in
    let e : some.0 ≡ low = omega (arith, b.0, b.1, short) in
    let lt : low < length ls = omega (arith, some.1, length-map ls (λ (l : Leaf). l.prefix), e) in
    some_prefix perm ls low lt (subst (λ (i : ℕ). begins (get_or (prefixes_of ls) i []) perm ≡ true) e some.2)

-- what stands where the leaf stands is the leaf
pub located : (perm : List ℕ) (ls : List Leaf) (k : ℕ) (l : Leaf) → k < length ls → l ≡ get_or ls k l → IfSome (slice_get ls k) (λ x. begins x.prefix perm ≡ true) → length (leaves_beginning perm ls) ≡ 1
    → leaves_beginning perm ls ≡ l ∷ []
located perm ls k l lt at found one =
    only_one (λ (x : Leaf). begins x.prefix perm) ls k l lt (some_at (λ x. begins x.prefix perm ≡ true) ls k l lt found) one ∙ ap (λ (x : Leaf). x ∷ []) (sym at)

-- an object is added to the leaf that it belongs to
pub added_in : (perm : List ℕ) (d : ℕ) (l : Leaf) → begins l.prefix perm ≡ true → with_added perm d l ≡ record { prefix = l.prefix; count = l.count + 1; hull = widen d l.hull }
added_in perm d l h = rw h refl

-- an object changes no other leaf
pub added_out : (perm : List ℕ) (d : ℕ) (l : Leaf) → begins l.prefix perm ≡ false → with_added perm d l ≡ l
added_out perm d l h = rw h refl

-- an object is taken out of no other leaf
removed_out : (perm : List ℕ) (l : Leaf) → begins l.prefix perm ≡ false → with_removed perm l ≡ l
removed_out perm l h = rw h refl

module _ (perm : List ℕ) (ls : List Leaf) (k : ℕ) (old new : Leaf) (lt : k < length ls) (at : old ≡ get_or ls k old) (found : IfSome (slice_get ls k) (λ x. begins x.prefix perm ≡ true)) (one : length (leaves_beginning perm ls) ≡ 1) where
  -- the leaf that was found begins the permutation
  there : begins old.prefix perm ≡ true
  there = subst (λ (x : Leaf). begins x.prefix perm ≡ true) (sym at) (some_at (λ x. begins x.prefix perm ≡ true) ls k old lt found)

  -- a change of that leaf alone is a write at its place
  write_one : (f : Leaf → Leaf) → ((x : Leaf) → begins x.prefix perm ≡ false → f x ≡ x) → new ≡ f old → slice_set ls k new ≡ map f ls
  write_one f keep is =
      ap (λ (x : Leaf). slice_set ls k x) (is ∙ ap f at)
      ∙ map_one (λ (x : Leaf). begins x.prefix perm) f keep ls k old lt (subst (λ (x : Leaf). begins x.prefix perm ≡ true) at there) one

  -- one more object in the leaf that was found
  pub added_at : (d : ℕ) → new ≡ record { prefix = old.prefix; count = old.count + 1; hull = widen d old.hull } → slice_set ls k new ≡ map (with_added perm d) ls
  added_at d is = write_one (with_added perm d) (added_out perm d) (is ∙ sym (added_in perm d old there))

  -- one object less in it
  pub removed_at : new ≡ record { prefix = old.prefix; count = old.count - 1; hull = old.hull } → slice_set ls k new ≡ map (with_removed perm) ls
  removed_at is = write_one (with_removed perm) (removed_out perm) (is ∙ (rw there refl))

-- a range that is longer by one
range_more : (a n : ℕ) → range_with_len a (suc n) ≡ range_with_len a n ++ (a + n) ∷ []
range_more a zero = ap (λ x. x ∷ []) (omega arith)
range_more a (suc n) =
    let last : a + 1 + n ≡ a + suc n = omega arith in
    ap (λ xs. a ∷ xs) (range_more (a + 1) n ∙ ap (λ x. range_with_len (a + 1) n ++ x ∷ []) last)

-- the children by one pivot more
pub child_more : (i : ℕ) (p : List ℕ) → children (i + 1) p ≡ children i p ++ map (λ j. p ++ j ∷ []) (cond (not (has i p)) (i ∷ []) [])
child_more i p =
    let last : 0 + i ≡ i = omega arith in
    let tests : filter (λ x. not (has x p)) (range_with_len 0 (i + 1)) ≡ filter (λ x. not (has x p)) (range_with_len 0 i) ++ cond (not (has i p)) (i ∷ []) [] =
    rw add-one (ap (filter (λ x. not (has x p))) (range_more 0 i ∙ ap (λ x. range_with_len 0 i ++ x ∷ []) last) ∙ filter-append (λ x. not (has x p)) (range_with_len 0 i) (i ∷ [])) in
    ap (map (λ j. p ++ j ∷ [])) tests ∙ map-append (λ j. p ++ j ∷ []) (filter (λ x. not (has x p)) (range_with_len 0 i)) (cond (not (has i p)) (i ∷ []) [])

-- one more child at the end of a list, or none
pub child_put : (start items next : List Leaf) (p : List ℕ) (objects : List Placed) (i : ℕ) → items ≡ start ++ map (leaf_among objects) (children i p) → has i p ≡ false
    → next ≡ items ++ leaf_among objects (p ++ i ∷ []) ∷ [] → next ≡ start ++ map (leaf_among objects) (children (i + 1) p)
child_put start items next p objects i was new is =
    is ∙ ap (λ xs. xs ++ leaf_among objects (p ++ i ∷ []) ∷ []) was
    ∙ append_assoc start (map (leaf_among objects) (children i p)) (leaf_among objects (p ++ i ∷ []) ∷ [])
    ∙ ap (λ xs. start ++ xs) (sym (map-append (leaf_among objects) (children i p) ((p ++ i ∷ []) ∷ [])))
    ∙ ap (λ xs. start ++ map (leaf_among objects) xs) (sym (child_more i p ∙ (rw new refl)))

-- a pivot of the prefix gives no child
pub child_not : (start items : List Leaf) (p : List ℕ) (objects : List Placed) (i : ℕ) → items ≡ start ++ map (leaf_among objects) (children i p) → has i p ≡ true
    → items ≡ start ++ map (leaf_among objects) (children (i + 1) p)
child_not start items p objects i was new = was ∙ ap (λ xs. start ++ map (leaf_among objects) xs) (sym (child_more i p ∙ (rw new (append-nil (children i p)))))

-- leaves of given prefixes have them
pub prefixes_among : (objects : List Placed) (ps : List (List ℕ)) → prefixes_of (map (leaf_among objects) ps) ≡ ps
prefixes_among objects ps = map_twice (λ (l : Leaf). l.prefix) (leaf_among objects) ps ∙ map-id ps

-- the prefixes after a split
pub prefixes_parted : (n : ℕ) (p : List ℕ) (objects : List Placed) (ls : List Leaf) → prefixes_of (flat_map (split_leaf n p objects) ls) ≡ flat_map (split_cell n p) (prefixes_of ls)
prefixes_parted n p objects ls =
    let one : (l : Leaf) → prefixes_of (split_leaf n p objects l) ≡ split_cell n p l.prefix = λ l.
    let P : Bool → Type 0 = λ b. prefixes_of (cond b (map (leaf_among objects) (children n p)) (l ∷ [])) ≡ cond b (children n p) (l.prefix ∷ []) in
    elim (same_cell p l.prefix) as P [ true ↦ prefixes_among objects (children n p) | false ↦ refl ] in
    map-flat (λ (l : Leaf). l.prefix) (split_leaf n p objects) ls
    ∙ flat_same (λ (l : Leaf). prefixes_of (split_leaf n p objects l)) (λ l. split_cell n p l.prefix) ls (all_any _ one ls)
    ∙ sym (flat_map-map (split_cell n p) (λ (l : Leaf). l.prefix) ls)

-- what begins a list is not longer
begins_short : (p xs : List ℕ) → begins p xs ≡ true → length p ≤ length xs
begins_short [] xs h = omega arith
begins_short (x ∷ p) [] h = absurd (false≢true h)
begins_short (x ∷ p) (y ∷ xs) h = let r = begins_short p xs (and_parts (nat_eq x y) (begins p xs) h).1 in omega arith

-- the one that a test keeps passes it
one_passes : (t : List ℕ → Bool) (ps : List (List ℕ)) → length (filter t ps) ≡ 1 → (q : List ℕ) × (filter t ps ≡ q ∷ []) × (t q ≡ true)
one_passes t ps h = let some = some_passes t ps [] h in (get_or ps some.0 [], only_one t ps some.0 [] some.1 some.2 h, some.2)

-- a split of a prefix above the greatest depth keeps what holds of every catalog
pub split_keeps : (n levels : ℕ) (p : List ℕ) (ps : List (List ℕ)) → IsCatalog n levels ps → length p < levels → IsCatalog n levels (flat_map (split_cell n p) ps)
split_keeps n levels p ps h lt =
    let few = h.0 in let deep = h.1 in let le = h.2 in
    let parts : Partition n (flat_map (split_cell n p) ps) = λ perm is long.
    let one = one_passes (λ q. begins q perm) ps (h.4 perm is long) in
    let q = one.0 in
    let front : q ≡ take (length q) perm = begins_is q perm one.2 in
    let short : length q ≤ length perm = begins_short q perm one.2 in
    ap length (split_one n perm (perm_is n perm is long) (length q) ps p (omega arith) (omega (arith, short, long)) (one.1 ∙ ap (λ (x : List ℕ). x ∷ []) front)) in
    (few, deep, le, split_keeps_order n p ps h.3, parts)

-- the greatest depth is at most 6 and the number of pivots
pub depth_is : (n levels : ℕ) → IsDepth n levels → (levels ≤ 6) × (levels ≤ n)
depth_is zero levels h = (omega (arith, h), omega (arith, h))
depth_is (suc n) levels h = let m = h.1 in (omega arith, omega arith)

-- what holds of every catalog holds of the first
pub first_is : (n levels : ℕ) → n ≤ 32 → IsDepth n levels → IsCatalog n levels (first_leaves n)
first_is n levels few depth =
    let d = depth_is n levels depth in
    let parts : Partition n (first_leaves n) = λ perm is long. ap length (first_one n perm (perm_is n perm is long)) in
    (few, d.0, d.1, first_leaves_in_order n, parts)

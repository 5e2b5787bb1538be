-- What each event does to the leaves with their counts and hulls.
use Rattle.std.proofs.Common.{◌≡◌, ℕ, ℤ, ◌+◌, ◌-◌, List, [], ◌∷◌, ◌++◌, map, length, Bool, true, false, cond, not, ◌&&◌, nat_eq, refl, sym, ap, ◌∙◌, subst, arith, append-nil}
use Rattle.std.specs.List.{AllByRecursion, filter, fold, list_any, flat_map}
use Rattle.std.proofs.lemmas.Bool.{false≢true, or_right}
use Rattle.std.proofs.lemmas.Grind.{fold-append}
use Rattle.std.proofs.lemmas.List.{length-map}
use Rattle.std.proofs.lemmas.List.Elements.{filter-append}
use Rattle.std.proofs.lemmas.List.Folds.{flat_map-map}
use Rattle.mi_base.specs.declared.records.Update.TheVariants.{Insert, Delete}
use Rattle.mi_base.specs.declared.records.LogEvent.{LogEvent}
use Rattle.mi_base.specs.declared.records.LogEvent.TheVariants.{Update as Made, Split}
use Rattle.mi_base.specs.Prefixes.{has}
use Rattle.mi_base.specs.Permutations.{begins}
use Rattle.mi_base.specs.Sorting.{SameElements}
use Rattle.mi_base.specs.History.{Object, live, live_after, updates_of}
use Rattle.mi_base.proofs.SortingLemmas.{same_filter, same_length}
use Rattle.mi_tree.specs.declared.outcomes.Leaf.{Leaf}
use Rattle.mi_tree.specs.declared.counts.Placed.{Placed}
use Rattle.mi_tree.specs.Cells.{Grid, IsGrid, leaves, leaves_after, first_leaves, children, same_cell, split_cell, is_leaf, AllMaySplit}
use Rattle.mi_tree.specs.Counting.{widen, hull_of, Population, belongs, population_after, population, leaf_with, catalog_after, placed_object, with_added, with_removed, leaf_among, split_leaf}
use Rattle.mi_tree.proofs.ListLemmas.{filter_same, filter_twice, filter_none, filter_map, map_twice, all_weaker, all_any, all_map, map_same, map-flat, flat_same}
use Rattle.mi_tree.proofs.LeafLemmas.{same_self, leaf_apart}
use Rattle.mi_tree.proofs.HullLemmas.{leaf_made, leaf_equal, among_same}

-- what is held after one more event
held-append : (g : Grid) (log : List LogEvent) (e : LogEvent) → population g (log ++ e ∷ []) ≡ population_after g (population g log) e
held-append g log e = fold-append (population_after g) (record { live = []; put_in = [] }) log (e ∷ [])

-- the leaves after one more event
leaves-append : (g : Grid) (log : List LogEvent) (e : LogEvent) → leaves g (log ++ e ∷ []) ≡ leaves_after g.pivots (leaves g log) e
leaves-append g log e = fold-append (leaves_after g.pivots) (first_leaves g.pivots) log (e ∷ [])

-- the counted leaves after one more event
cat-append : (g : Grid) (log : List LogEvent) (e : LogEvent) → catalog_after g (log ++ e ∷ []) ≡ map (leaf_with g (population_after g (population g log) e)) (leaves_after g.pivots (leaves g log) e)
cat-append g log e = ap (λ h. map (leaf_with g h) (leaves g (log ++ e ∷ []))) (held-append g log e) ∙ ap (map (leaf_with g (population_after g (population g log) e))) (leaves-append g log e)

-- the live objects go on with the updates alone
live_from : (g : Grid) (h : Population) (log : List LogEvent) → (fold (population_after g) h log).live ≡ fold live_after h.live (updates_of log)
live_from g h [] = refl
live_from g h (Made session op (Insert id vector) ∷ log) = live_from g (population_after g h (Made session op (Insert id vector))) log
live_from g h (Made session op (Delete id) ∷ log) = live_from g (population_after g h (Made session op (Delete id))) log
live_from g h (Split p ∷ log) = live_from g (population_after g h (Split p)) log

-- the live objects are those of the log's updates
pub held_live : (g : Grid) (log : List LogEvent) → (population g log).live ≡ live (updates_of log)
held_live g log = live_from g (record { live = []; put_in = [] }) log

-- an insert is `added`
pub cat-insert : (g : Grid) (log : List LogEvent) (session op i : ℕ) (v : List ℤ) → catalog_after g (log ++ Made session op (Insert i v) ∷ []) ≡ map (with_added (g.perm v) (g.distance v)) (catalog_after g log)
cat-insert g log session op i v =
    let h = population g log in
    let one : (p : List ℕ) → leaf_with g (population_after g h (Made session op (Insert i v))) p ≡ with_added (g.perm v) (g.distance v) (leaf_with g h p) = λ p.
    let o : Object = record { id = i; vector = v } in
    let P : Bool → Type 0 = λ b. leaf_made p (length (cond b (o ∷ filter (belongs g p) h.live) (filter (belongs g p) h.live)))
    (hull_of (map (λ x. g.distance x.vector) (cond b (o ∷ filter (belongs g p) h.put_in) (filter (belongs g p) h.put_in))))
    ≡ cond b (leaf_made p ((leaf_with g h p).count + 1) (widen (g.distance v) (leaf_with g h p).hull)) (leaf_with g h p) in
    elim (begins p (g.perm v)) as P [
      | true ↦ leaf_equal p (omega arith) refl
      | false ↦ refl
    ] in
    cat-append g log (Made session op (Insert i v))
    ∙ map_same (leaf_with g (population_after g h (Made session op (Insert i v)))) (λ p. with_added (g.perm v) (g.distance v) (leaf_with g h p)) (leaves g log) (all_any _ one (leaves g log))
    ∙ sym (map_twice (with_added (g.perm v) (g.distance v)) (leaf_with g h) (leaves g log))

-- a delete is `removed`, with the one live object of that identifier
pub cat-delete : (g : Grid) (log : List LogEvent) (session op : ℕ) (o : Object) → SameElements (live (updates_of log)) (o ∷ filter (λ x. not (nat_eq x.id o.id)) (live (updates_of log)))
    → catalog_after g (log ++ Made session op (Delete o.id) ∷ []) ≡ map (with_removed (g.perm o.vector)) (catalog_after g log)
cat-delete g log session op o same =
    let h = population g log in
    let s : SameElements h.live (o ∷ filter (λ x. not (nat_eq x.id o.id)) h.live) =
    subst (λ (xs : List Object). SameElements xs (o ∷ filter (λ x. not (nat_eq x.id o.id)) xs)) (sym (held_live g log)) same in
    let rest = filter (λ x. not (nat_eq x.id o.id)) h.live in
    let one : (p : List ℕ) → leaf_with g (population_after g h (Made session op (Delete o.id))) p ≡ with_removed (g.perm o.vector) (leaf_with g h p) = λ p.
    let n : length (filter (belongs g p) h.live) ≡ length (filter (belongs g p) (o ∷ rest)) = same_length _ _ (same_filter (belongs g p) _ _ s) in
    let P : Bool → Type 0 = λ b. length (filter (belongs g p) h.live) ≡ length (cond b (o ∷ filter (belongs g p) rest) (filter (belongs g p) rest))
    → leaf_with g (population_after g h (Made session op (Delete o.id))) p ≡ cond b (leaf_made p ((leaf_with g h p).count - 1) (leaf_with g h p).hull) (leaf_with g h p) in
    (elim (begins p (g.perm o.vector)) as P [
      | true ↦ λ m. leaf_equal p (omega arith) refl
      | false ↦ λ m. leaf_equal p (sym m) refl
    ]) n in
    cat-append g log (Made session op (Delete o.id))
    ∙ map_same (leaf_with g (population_after g h (Made session op (Delete o.id)))) (λ p. with_removed (g.perm o.vector) (leaf_with g h p)) (leaves g log) (all_any _ one (leaves g log))
    ∙ sym (map_twice (with_removed (g.perm o.vector)) (leaf_with g h) (leaves g log))

-- what begins a list begins with what begins it
begins_front : (p : List ℕ) (i : ℕ) (xs : List ℕ) → begins p xs ≡ false → begins (p ++ i ∷ []) xs ≡ false
begins_front [] i xs h = absurd (false≢true (sym h))
begins_front (x ∷ p) i [] h = refl
begins_front (x ∷ p) i (y ∷ xs) h =
    let P : Bool → Type 0 = λ b. (b && begins p xs) ≡ false → (b && begins (p ++ i ∷ []) xs) ≡ false in
    (elim (nat_eq x y) as P [ true ↦ λ k. begins_front p i xs k | false ↦ λ k. refl ]) h

-- each leaf is one
every_leaf : (ls : List (List ℕ)) → AllByRecursion (λ p. list_any (same_cell p) ls ≡ true) ls
every_leaf [] = tt
every_leaf (p ∷ ls) = (rw (same_self p) refl, all_weaker _ _ (λ q h. rw h (or_right (same_cell q p) true refl)) ls (every_leaf ls))

-- a narrower test decides
narrow : (a b : Bool) → (a ≡ false → b ≡ false) → (a && b) ≡ b
narrow true b h = refl
narrow false b h = sym (h refl)

-- what fails a wider test fails
outside : (a b : Bool) → (a ≡ false → b ≡ false) → (not a && b) ≡ false
outside true b h = refl
outside false b h = h refl

-- tests that never both pass
beside : (a b : Bool) → (b ≡ true → a ≡ false) → (not a && b) ≡ b
beside true true h = absurd (false≢true (sym (h refl)))
beside true false h = refl
beside false b h = refl

-- of two such tests both never pass
neither : (a b : Bool) → (b ≡ true → a ≡ false) → (a && b) ≡ false
neither true true h = h refl
neither true false h = refl
neither false b h = refl

-- a split is `parted`, with the live objects of the leaf
module _ (g : Grid) (ok : IsGrid g) (log : List LogEvent) (legal : AllMaySplit g log) (p : List ℕ) (leaf : is_leaf g log p ≡ true) where
  abbrev objects : List Placed
  objects = map (placed_object g) (filter (belongs g p) (population g log).live)

  -- a child holds the live objects that belong to it
  child_is : (c : List ℕ) → ((o : Object) → belongs g p o ≡ false → belongs g c o ≡ false) → leaf_with g (population_after g (population g log) (Split p)) c ≡ leaf_among objects c
  child_is c within =
      let h = population g log in
      let inner : filter (belongs g c) (filter (belongs g p) h.live) ≡ filter (belongs g c) h.live =
      filter_twice (belongs g c) (belongs g p) h.live ∙ filter_same (λ o. belongs g p o && belongs g c o) (belongs g c) h.live (all_any _ (λ o. narrow (belongs g p o) (belongs g c o) (within o)) h.live) in
      let told : filter (λ x. begins c x.perm) objects ≡ map (placed_object g) (filter (belongs g c) h.live) =
      sym (filter_map (placed_object g) (λ x. begins c x.perm) (filter (belongs g p) h.live)) ∙ ap (map (placed_object g)) inner in
      let counted : length (filter (λ x. begins c x.perm) objects) ≡ length (filter (belongs g c) h.live) = ap length told ∙ length-map (filter (belongs g c) h.live) (placed_object g) in
      let spread : map (λ x. x.distance) (filter (λ x. begins c x.perm) objects) ≡ map (λ o. g.distance o.vector) (filter (belongs g c) h.live) =
      ap (map (λ x. x.distance)) told ∙ map_twice (λ x. x.distance) (placed_object g) (filter (belongs g c) h.live) in
      let older : filter (belongs g c) (filter (λ o. not (belongs g p o)) h.put_in) ≡ [] =
      filter_twice (belongs g c) (λ o. not (belongs g p o)) h.put_in ∙ filter_none (λ o. not (belongs g p o) && belongs g c o) h.put_in (all_any _ (λ o. outside (belongs g p o) (belongs g c o) (within o)) h.put_in) in
      let now : filter (belongs g c) (filter (λ o. not (belongs g p o)) h.put_in ++ filter (belongs g p) h.live) ≡ filter (belongs g c) h.live =
      filter-append (belongs g c) (filter (λ o. not (belongs g p o)) h.put_in) (filter (belongs g p) h.live) ∙ ap (λ xs. xs ++ filter (belongs g c) (filter (belongs g p) h.live)) older ∙ inner in
      leaf_equal c (sym counted) (ap hull_of (ap (map (λ o. g.distance o.vector)) now ∙ sym spread))

  -- a leaf that is not split stays as it is
  other_is : (q : List ℕ) → is_leaf g log q ≡ true → same_cell p q ≡ false → leaf_with g (population_after g (population g log) (Split p)) q ≡ leaf_with g (population g log) q
  other_is q l ne =
      let h = population g log in
      let apart : (o : Object) → belongs g q o ≡ true → belongs g p o ≡ false = λ o t. leaf_apart g ok log legal p q o.vector leaf l ne t in
      let older : filter (belongs g q) (filter (λ o. not (belongs g p o)) h.put_in) ≡ filter (belongs g q) h.put_in =
      filter_twice (belongs g q) (λ o. not (belongs g p o)) h.put_in ∙ filter_same (λ o. not (belongs g p o) && belongs g q o) (belongs g q) h.put_in (all_any _ (λ o. beside (belongs g p o) (belongs g q o) (apart o)) h.put_in) in
      let newer : filter (belongs g q) (filter (belongs g p) h.live) ≡ [] =
      filter_twice (belongs g q) (belongs g p) h.live ∙ filter_none (λ o. belongs g p o && belongs g q o) h.live (all_any _ (λ o. neither (belongs g p o) (belongs g q o) (apart o)) h.live) in
      leaf_equal q refl (ap (λ xs. hull_of (map (λ (o : Object). g.distance o.vector) xs))
      (filter-append (belongs g q) (filter (λ o. not (belongs g p o)) h.put_in) (filter (belongs g p) h.live) ∙ ap (λ xs. filter (belongs g q) (filter (λ o. not (belongs g p o)) h.put_in) ++ xs) newer ∙ append-nil _ ∙ older))

  -- what a split leaves of one leaf
  one_part : (q : List ℕ) → is_leaf g log q ≡ true → map (leaf_with g (population_after g (population g log) (Split p))) (split_cell g.pivots p q) ≡ split_leaf g.pivots p objects (leaf_with g (population g log) q)
  one_part q l =
      let P : Bool → Type 0 = λ b. same_cell p q ≡ b → map (leaf_with g (population_after g (population g log) (Split p))) (cond b (children g.pivots p) (q ∷ [])) ≡ cond b (map (leaf_among objects) (children g.pivots p)) (leaf_with g (population g log) q ∷ []) in
      (elim (same_cell p q) as P [
        | true ↦ λ t. map_same _ _ (children g.pivots p) (all_map (λ i. p ++ i ∷ []) _ (filter (λ i. not (has i p)) _)
            (all_any _ (λ i. child_is (p ++ i ∷ []) (λ o. begins_front p i (g.perm o.vector))) (filter (λ i. not (has i p)) _)))
        | false ↦ λ f. ap (λ x. x ∷ []) (other_is q l f)
      ]) refl

  -- the same, with the objects in the order of the live ones
  whole : catalog_after g (log ++ Split p ∷ []) ≡ flat_map (split_leaf g.pivots p objects) (catalog_after g log)
  whole = cat-append g log (Split p)
      ∙ map-flat (leaf_with g (population_after g (population g log) (Split p))) (split_cell g.pivots p) (leaves g log)
      ∙ flat_same _ (λ q. split_leaf g.pivots p objects (leaf_with g (population g log) q)) (leaves g log) (all_weaker _ _ one_part (leaves g log) (every_leaf (leaves g log)))
      ∙ sym (flat_map-map (split_leaf g.pivots p objects) (leaf_with g (population g log)) (leaves g log))

  -- the objects may be given in any order
  pub cat-split : (objects : List Placed) → SameElements objects (map (placed_object g) (filter (belongs g p) (live (updates_of log)))) → catalog_after g (log ++ Split p ∷ []) ≡ flat_map (split_leaf g.pivots p objects) (catalog_after g log)
  cat-split told same =
      let these : SameElements told objects = subst (λ (xs : List Object). SameElements told (map (placed_object g) (filter (belongs g p) xs))) (sym (held_live g log)) same in
      let part : (l : Leaf) → split_leaf g.pivots p objects l ≡ split_leaf g.pivots p told l = λ l.
      let P : Bool → Type 0 = λ b. cond b (map (leaf_among objects) (children g.pivots p)) (l ∷ []) ≡ cond b (map (leaf_among told) (children g.pivots p)) (l ∷ []) in
      elim (same_cell p l.prefix) as P [
        | true ↦ map_same (leaf_among objects) (leaf_among told) (children g.pivots p) (all_any _ (λ q. sym (among_same told objects q these)) (children g.pivots p))
        | false ↦ refl
      ] in
      whole ∙ flat_same (split_leaf g.pivots p objects) (split_leaf g.pivots p told) (catalog_after g log) (all_any _ part (catalog_after g log))

-- What holds of every board holds after each event.
use Rattle.std.proofs.Common.{◌^◌, ◌≡◌, ℕ, ℤ, ◌*◌, ◌<◌, ◌≤◌, List, [], ◌∷◌, ◌++◌, map, length, true, false, IsTrue, refl, sym, ap, ◌∙◌, subst, arith, Bool, cond, not, ◌&&◌, ◌||◌}
use Rattle.std.specs.Prelude.{◌==◌}
use Rattle.std.proofs.lemmas.Bool.{and_parts, eq-eqb}
use Rattle.std.proofs.lemmas.List.Elements.{All-from_recursion}
use Rattle.std.specs.Prelude.{All}
use Rattle.std.specs.List.{filter, flat_map, list_any}
use Rattle.std.proofs.lemmas.List.{length-map}
use Rattle.mi_base.specs.declared.records.LogEvent.{LogEvent}
use Rattle.mi_base.specs.declared.records.LogEvent.TheVariants.{Update as Made, Split}
use Rattle.mi_base.specs.declared.records.Update.TheVariants.{Insert, Delete}
use Rattle.mi_base.specs.Configuration.{Configuration, IsWithinLimits, metric_space}
use Rattle.mi_base.specs.History.{Object, TheOne, is_live, live, updates_of}
use Rattle.mi_base.specs.Permutations.{begins}
use Rattle.mi_base.specs.Sorting.{SameElements}
use Rattle.mi_base.proofs.HistoryLemmas.{length-entered, same_any}
use Rattle.mi_base.proofs.LiveLemmas.{few_live, length_filter}
use Rattle.mi_base.proofs.SortingLemmas.{same_length}
use Rattle.mi_tree.specs.declared.outcomes.Leaf.{Leaf}
use Rattle.mi_tree.specs.declared.counts.Placed.{Placed}
use Rattle.mi_tree.specs.Cells.{leaves, same_cell}
use Rattle.mi_tree.specs.Counting.{with_removed, split_leaf, belongs, placed_object, population, leaf_with, has_leaf, is_crowded, is_overfull}
use Rattle.mi_tree.specs.Legal.{MayFollow, IsUncrowded, LegalLog, cells_of}
use Rattle.mi_tree.proofs.CatLemmas.{cat-insert, cat-delete, cat-split, held_live}
use Rattle.mi_tree.proofs.CountLemmas.{counts_some, cat_has}
use Rattle.mi_tree.proofs.LimitLemmas.{is_grid}
use Rattle.mi_tree.proofs.ListLemmas.{all_any, all_map}
use Rattle.mi_tree.proofs.LegalLemmas.{grid, wanted, all_may, legal_more, uncrowded_from, updates_of_split}
use Rattle.mi_tree.proofs.LeafLemmas.{same_cell_is}
use Rattle.mi_board.proofs.CrowdLemmas.{or_nothing, added_fits, removed_fits, parted_fits, wanted_few, empty_fits}

module _ (c : Configuration) (limits : IsWithinLimits c) (log : List LogEvent) (legal : LegalLog c log) where
  -- no leaf of a legal log is too full
  pub uncrowded : IsUncrowded c log
  uncrowded = uncrowded_from c [] log legal.each (empty_fits (grid c) c.levels c.cell (leaves (grid c) []))

  -- no leaf counts so much that it can't count one more
  pub counts_room : (perm : List ℕ) → All (λ l. begins l.prefix perm ≡ true → l.count < 4294967295) (cells_of c log)
  counts_room perm =
      let g = grid c in
      let P : Leaf → Type 0 = λ l. begins l.prefix perm ≡ true → l.count < 4294967295 in
      let one : (p : List ℕ) → P (leaf_with g (population g log) p) = λ p _.
      omega (arith, length_filter (belongs g p) (population g log).live, ap length (held_live g log), few_live (updates_of log), legal.few, limits.updates.1) in
      All-from_recursion P (cells_of c log) (all_map (leaf_with g (population g log)) P (leaves g log) (all_any _ one (leaves g log)))

  module _ (session op id : ℕ) (v : List ℤ) where
    -- an insert into a leaf that isn't crowded
    pub insert_legal : IsTrue ((metric_space c).fits v) → is_live id (updates_of log) ≡ false → id < 2 ^ 40 → length (updates_of log) < c.updates
        → list_any (λ l. begins l.prefix ((grid c).perm v) && is_crowded c.levels c.cell l) (cells_of c log) ≡ false → LegalLog c (log ++ Made session op (Insert id v) ∷ [])
    insert_legal fits absent named room free =
        let few = ap (list_any (is_overfull c.levels c.cell)) (cat-insert (grid c) log session op id v)
        ∙ added_fits ((grid c).perm v) ((grid c).distance v) c.levels c.cell (cells_of c log) uncrowded free in
        legal_more c log (Made session op (Insert id v)) legal (fits, absent, named) few (omega (arith, room, length-entered log session op (Insert id v)))

  module _ (id : ℕ) (one : TheOne id (live (updates_of log))) where
    whole : SameElements (live (updates_of log)) (one.object ∷ filter (λ x. not (x.id == one.object.id)) (live (updates_of log)))
    whole = subst (λ (n : ℕ). SameElements (live (updates_of log)) (one.object ∷ filter (λ (x : Object). not (x.id == n)) (live (updates_of log)))) (sym one.named) one.whole

    -- the cells after the delete
    pub delete_cells : (session op : ℕ) → cells_of c (log ++ Made session op (Delete id) ∷ []) ≡ map (with_removed ((grid c).perm one.object.vector)) (cells_of c log)
    delete_cells session op =
        subst (λ (n : ℕ). cells_of c (log ++ Made session op (Delete n) ∷ []) ≡ map (with_removed ((grid c).perm one.object.vector)) (cells_of c log)) one.named (cat-delete (grid c) log session op one.object whole)

    -- the object's leaf counts it
    pub counted : All (λ l. begins l.prefix ((grid c).perm one.object.vector) ≡ true → 0 < l.count) (cells_of c log)
    counted = counts_some (grid c) log one.object (filter (λ x. not (x.id == one.object.id)) (live (updates_of log))) whole

    is_there : is_live id (updates_of log) ≡ true
    is_there =
        let here : (one.object.id == id) ≡ true = eq-eqb one.object.id id one.named in
        same_any (λ (o : Object). o.id == id) _ _ one.whole ∙ (rw here refl)

    pub delete_legal : (session op : ℕ) → length (updates_of log) < c.updates → LegalLog c (log ++ Made session op (Delete id) ∷ [])
    delete_legal session op room =
        let few = ap (list_any (is_overfull c.levels c.cell)) (delete_cells session op) ∙ removed_fits ((grid c).perm one.object.vector) c.levels c.cell (cells_of c log) uncrowded in
        legal_more c log (Made session op (Delete id)) legal is_there few (omega (arith, room, length-entered log session op (Delete id)))

  module _ (p : List ℕ) (may : MayFollow c log (Split p)) (objects : List Placed) (same : SameElements objects (map (placed_object (grid c)) (filter (belongs (grid c) p) (live (updates_of log))))) where
    -- the cells after the split
    pub split_cells : cells_of c (log ++ Split p ∷ []) ≡ flat_map (split_leaf (length c.pivots) p objects) (cells_of c log)
    split_cells = cat-split (grid c) (is_grid c limits log legal) log (all_may c log legal) p (wanted c log p may).0 objects same

    -- the split's objects are few
    pub split_few : length objects ≤ 4 * c.cell
    split_few =
        let n = wanted_few (grid c) (population (grid c) log) c.levels c.cell p (leaves (grid c) log) may uncrowded in
        omega (arith, n, same_length _ _ same, length-map (filter (belongs (grid c) p) (live (updates_of log))) (placed_object (grid c)), ap (λ (xs : List Object). length (filter (belongs (grid c) p) xs)) (held_live (grid c) log))

    pub split_legal : LegalLog c (log ++ Split p ∷ [])
    split_legal =
        let few = ap (list_any (is_overfull c.levels c.cell)) split_cells ∙ parted_fits (length c.pivots) c.levels c.cell p objects (cells_of c log) split_few uncrowded in
        legal_more c log (Split p) legal may few (omega (arith, legal.few, ap length (updates_of_split log p)))

    pub split_has : has_leaf p (cells_of c log) ≡ true
    split_has = cat_has (grid c) log p ∙ (wanted c log p may).0

-- some element passes a test that it passes beside another
pub any_first : {X : Type 0} (p q : X → Bool) (xs : List X) → list_any (λ x. p x && q x) xs ≡ true → list_any p xs ≡ true
any_first p q [] h = h
any_first {X = X} p q (x ∷ xs) h =
    let P : Bool → Type 0 = λ b. (b && q x || list_any (λ y. p y && q y) xs) ≡ true → (b || list_any p xs) ≡ true in
    (elim (p x) as P [ true ↦ λ _. refl | false ↦ λ k. any_first p q xs k ]) h

-- no object of an identifier is among the others
none_other : (id : ℕ) (q : Object → Bool) (os : List Object) → list_any (λ o. (o.id == id) && q o) (filter (λ o. not (o.id == id)) os) ≡ false
none_other id q [] = refl
none_other id q (o ∷ os) =
    let P : Bool → Type 0 = λ b. (o.id == id) ≡ b → list_any (λ (x : Object). (x.id == id) && q x) (cond (not b) (o ∷ filter (λ (x : Object). not (x.id == id)) os) (filter (λ (x : Object). not (x.id == id)) os)) ≡ false in
    (elim (o.id == id) as P [ true ↦ λ e. none_other id q os | false ↦ λ e. rw e (none_other id q os) ]) refl

-- the one object of an identifier has the permutation that one of them has
pub one_perm : (perm : List ℤ → List ℕ) (id : ℕ) (p : List ℕ) (os : List Object) (one : TheOne id os) → list_any (λ o. (o.id == id) && same_cell p (perm o.vector)) os ≡ true → p ≡ perm one.object.vector
one_perm perm id p os one h =
    let q : Object → Bool = λ x. same_cell p (perm x.vector) in
    let test : Object → Bool = λ x. (x.id == id) && q x in
    let whole : (test one.object || list_any test (filter (λ (x : Object). not (x.id == id)) os)) ≡ true = sym (same_any test os _ one.whole) ∙ h in
    let here : (test one.object || false) ≡ true = ap (λ b. test one.object || b) (sym (none_other id q os)) ∙ whole in
    same_cell_is p (perm one.object.vector) (and_parts (one.object.id == id) (q one.object) (sym (or_nothing (test one.object)) ∙ here)).1

-- Marked leaves: after a split, and with one mark more.
use Rattle.std.proofs.Common.{◌≡◌, ℕ, suc, zero, ◌+◌, List, [], ◌∷◌, ◌++◌, length, Bool, true, false, cond, not, ◌&&◌, ◌||◌, refl, sym, ap, ◌∙◌, subst, arith, append_assoc, append-nil, length-append, map, Some, take, add-one, get_or, ◌<◌, ◌≤◌}
use Rattle.std.specs.Prelude.{IfSome, nat_eq, nat_lt, option_map, replicate, slice_get, slice_set}
use Rattle.std.proofs.lemmas.Option.{slice_get-get_or, slice_get-map}
use Rattle.std.proofs.lemmas.Bool.Decides.{nat_tests}
use Rattle.std.specs.List.{filter, flat_map, list_all, list_any}
use Rattle.std.proofs.lemmas.Bool.{and_parts, eq-eqb, eqb-true, false≢true, ltb-true, or_left}
use Rattle.std.proofs.lemmas.List.{length-map, map-append, map-id}
use Rattle.std.proofs.lemmas.List.{get_or-set_other, get_or-set_same}
use Rattle.std.proofs.Math.ListN.{length-set}
use Rattle.mi_base.specs.Prefixes.{has}
use Rattle.mi_tree.proofs.CatalogLemmas.{child_more}
use Rattle.mi_board.specs.Marks.{marked, split_marks}
use Rattle.mi_base.specs.declared.records.LogEvent.{LogEvent}
use Rattle.mi_base.specs.Configuration.{Configuration}
use Rattle.mi_tree.specs.Cells.{children, leaves, same_cell, split_cell}
use Rattle.mi_tree.specs.Legal.{cells_of}
use Rattle.mi_tree.proofs.LegalLemmas.{grid}
use Rattle.mi_tree.proofs.ListLemmas.{map_twice}
use Rattle.mi_tree.specs.Order.{before, in_order}
use Rattle.mi_tree.proofs.LeafLemmas.{same_cell_is, same_self}
use Rattle.mi_base.specs.Permutations.{begins}
use Rattle.mi_tree.specs.declared.outcomes.Leaf.{Leaf}
use Rattle.mi_tree.specs.Catalog.{prefixes_of}
use Rattle.mi_tree.specs.Counting.{has_leaf, leaf_with, population}
use Rattle.mi_tree.proofs.OrderLemmas.{leaves_in_order, order_from_test}
use Rattle.mi_tree.proofs.SearchLemmas.{Between, before_begun, ordered_at}

marked-append : (ps qs : List (List ℕ)) (ms ns : List Bool) → length ms ≡ length ps → marked (ps ++ qs) (ms ++ ns) ≡ marked ps ms ++ marked qs ns
marked-append [] qs [] ns e = refl
marked-append [] qs (m ∷ ms) ns e = absurd (omega (arith, e))
marked-append (p ∷ ps) qs [] ns e = absurd (omega (arith, e))
marked-append (p ∷ ps) qs (m ∷ ms) ns e =
    let rest = marked-append ps qs ms ns (omega (arith, e)) in
    let P : Bool → Type 0 = λ b. cond b (p ∷ marked (ps ++ qs) (ms ++ ns)) (marked (ps ++ qs) (ms ++ ns)) ≡ cond b (p ∷ marked ps ms) (marked ps ms) ++ marked qs ns in
    elim m as P [ true ↦ ap (λ (xs : List (List ℕ)). p ∷ xs) rest | false ↦ rest ]

-- no leaf is marked
pub marked-none : (ps : List (List ℕ)) (n : ℕ) → marked ps (replicate n false) ≡ []
marked-none [] n = refl
marked-none (p ∷ ps) zero = refl
marked-none (p ∷ ps) (suc n) = marked-none ps n

marked-children : (ps : List (List ℕ)) → marked ps (map (λ _. false) ps) ≡ []
marked-children [] = refl
marked-children (p ∷ ps) = marked-children ps

-- the mark of one more child, or none
pub child_mark : (start items next : List Bool) (p : List ℕ) (i : ℕ) → items ≡ start ++ map (λ _. false) (children i p) → has i p ≡ false → next ≡ items ++ false ∷ [] → next ≡ start ++ map (λ _. false) (children (i + 1) p)
child_mark start items next p i was new is =
    let none : List ℕ → Bool = λ _. false in
    is ∙ ap (λ xs. xs ++ false ∷ []) was
    ∙ append_assoc start (map none (children i p)) (false ∷ [])
    ∙ ap (λ xs. start ++ xs) (sym (map-append none (children i p) ((p ++ i ∷ []) ∷ [])))
    ∙ ap (λ xs. start ++ map none xs) (sym (child_more i p ∙ (rw new refl)))

pub no_mark : (start items : List Bool) (p : List ℕ) (i : ℕ) → items ≡ start ++ map (λ _. false) (children i p) → has i p ≡ true → items ≡ start ++ map (λ _. false) (children (i + 1) p)
no_mark start items p i was new = was ∙ ap (λ (xs : List (List ℕ)). start ++ map (λ _. false) xs) (sym (child_more i p ∙ (rw new (append-nil (children i p)))))

module _ (pivots : ℕ) (p : List ℕ) where
  -- the marks are as many as the leaves after a split
  pub length-split_marks : (qs : List (List ℕ)) (ms : List Bool) → length ms ≡ length qs → length (split_marks pivots p qs ms) ≡ length (flat_map (split_cell pivots p) qs)
  length-split_marks [] ms e = refl
  length-split_marks (q ∷ qs) [] e = absurd (omega (arith, e))
  length-split_marks (q ∷ qs) (m ∷ ms) e =
      let P : Bool → Type 0 = λ b. length (cond b (map (λ _. false) (children pivots p)) (m ∷ [])) ≡ length (cond b (children pivots p) (q ∷ [])) in
      let first : length (cond (same_cell p q) (map (λ _. false) (children pivots p)) (m ∷ [])) ≡ length (split_cell pivots p q) =
      elim (same_cell p q) as P [ true ↦ length-map (children pivots p) (λ _. false) | false ↦ refl ] in
      omega (
        arith,
        first,
        length-split_marks qs ms (omega (arith, e)),
        length-append (cond (same_cell p q) (map (λ _. false) (children pivots p)) (m ∷ [])) (split_marks pivots p qs ms),
        length-append (split_cell pivots p q) (flat_map (split_cell pivots p) qs),
      )

  -- a split leaves the other marked leaves
  pub marked-split : (qs : List (List ℕ)) (ms : List Bool) → length ms ≡ length qs → marked (flat_map (split_cell pivots p) qs) (split_marks pivots p qs ms) ≡ filter (λ q. not (same_cell p q)) (marked qs ms)
  marked-split [] ms e = refl
  marked-split (q ∷ qs) [] e = absurd (omega (arith, e))
  marked-split (q ∷ qs) (m ∷ ms) e =
      let rest = marked-split qs ms (omega (arith, e)) in
      let kept : List (List ℕ) → List (List ℕ) = filter (λ x. not (same_cell p x)) in
      let P : Bool → Type 0 = λ b. same_cell p q ≡ b
      → marked (cond b (children pivots p) (q ∷ []) ++ flat_map (split_cell pivots p) qs) (cond b (map (λ _. false) (children pivots p)) (m ∷ []) ++ split_marks pivots p qs ms)
      ≡ kept (cond m (q ∷ marked qs ms) (marked qs ms)) in
      (elim (same_cell p q) as P [
        | true ↦ λ s.
            let Q : Bool → Type 0 = λ b. kept (marked qs ms) ≡ kept (cond b (q ∷ marked qs ms) (marked qs ms)) in
            let out : Q m = elim m as Q [ true ↦ rw s refl | false ↦ refl ] in
            marked-append (children pivots p) (flat_map (split_cell pivots p) qs) (map (λ _. false) (children pivots p)) (split_marks pivots p qs ms) (length-map (children pivots p) (λ _. false))
            ∙ ap (λ (xs : List (List ℕ)). xs ++ marked (flat_map (split_cell pivots p) qs) (split_marks pivots p qs ms)) (marked-children (children pivots p))
            ∙ rest ∙ out
        | false ↦ λ s.
            let Q : Bool → Type 0 = λ b. cond b (q ∷ marked (flat_map (split_cell pivots p) qs) (split_marks pivots p qs ms)) (marked (flat_map (split_cell pivots p) qs) (split_marks pivots p qs ms)) ≡ kept (cond b (q ∷ marked qs ms) (marked qs ms)) in
            elim m as Q [ true ↦ rw s (ap (λ (xs : List (List ℕ)). q ∷ xs) rest) | false ↦ rest ]
      ]) refl

  -- the marks of one leaf more
  pub split_more : (qs : List (List ℕ)) (ms : List Bool) (i : ℕ) → i < length qs → i < length ms
      → split_marks pivots p (take (i + 1) qs) (take (i + 1) ms) ≡ split_marks pivots p (take i qs) (take i ms) ++ cond (same_cell p (get_or qs i [])) (map (λ _. false) (children pivots p)) (get_or ms i false ∷ [])
  split_more [] ms i lt within = absurd (omega arith)
  split_more (x ∷ qs) [] i lt within = absurd (omega arith)
  split_more (x ∷ qs) (n ∷ ms) zero lt within = append-nil (cond (same_cell p x) (map (λ _. false) (children pivots p)) (n ∷ []))
  split_more (x ∷ qs) (n ∷ ms) (suc i) lt within =
      let first = cond (same_cell p x) (map (λ _. false) (children pivots p)) (n ∷ []) in
      let last = cond (same_cell p (get_or qs i [])) (map (λ _. false) (children pivots p)) (get_or ms i false ∷ []) in
      let rest = rw add-one at (split_more qs ms i (omega arith) (omega arith)) in
      rw add-one (ap (λ (xs : List Bool). first ++ xs) rest ∙ sym (append_assoc first (split_marks pivots p (take i qs) (take i ms)) last))

-- of two in order neither is the other
before_other : (p q : List ℕ) → before p q ≡ true → (same_cell p q ≡ false) × (same_cell q p ≡ false)
before_other p q h = (none p q (λ e. subst (λ (x : List ℕ). before p x ≡ true) (sym e) h), none q p (λ e. subst (λ (x : List ℕ). before x q ≡ true) (sym e) h))
  where
    none : (x y : List ℕ) → (x ≡ y → before x x ≡ true) → same_cell x y ≡ false
    none x y k =
        let P : Bool → Type 0 = λ b. same_cell x y ≡ b → same_cell x y ≡ false in
        (elim (same_cell x y) as P [
          | true ↦ λ e. absurd (false≢true (sym (before_begun x x (and_parts _ _ (same_self x)).1) ∙ k (same_cell_is x y e)))
          | false ↦ λ e. e
        ]) refl

-- what comes before all isn't among the marked
none_marked : (p : List ℕ) (qs : List (List ℕ)) (ms : List Bool) → list_all (before p) qs ≡ true → list_any (same_cell p) (marked qs ms) ≡ false
none_marked p [] ms h = refl
none_marked p (q ∷ qs) [] h = refl
none_marked p (q ∷ qs) (m ∷ ms) h =
    let parts = and_parts (before p q) (list_all (before p) qs) h in
    let rest = none_marked p qs ms parts.1 in
    let P : Bool → Type 0 = λ b. list_any (same_cell p) (cond b (q ∷ marked qs ms) (marked qs ms)) ≡ false in
    elim m as P [ true ↦ rw ((before_other p q parts.0).0, rest) refl | false ↦ rest ]

-- a later one comes after the first
all_at : (t : List ℕ → Bool) (qs : List (List ℕ)) (i : ℕ) (q : List ℕ) → list_all t qs ≡ true → slice_get qs i ≡ Some q → t q ≡ true
all_at t [] i q h at = cc
all_at t (x ∷ qs) zero q h at = let same : x ≡ q = cc in subst (λ (y : List ℕ). t y ≡ true) same (and_parts (t x) (list_all t qs) h).0
all_at t (x ∷ qs) (suc i) q h at = all_at t qs i q (and_parts (t x) (list_all t qs) h).1 at

-- a leaf is marked where its mark says so
pub marked_at : (qs : List (List ℕ)) (ms : List Bool) (i : ℕ) (q : List ℕ) (m : Bool) → in_order qs ≡ true → slice_get qs i ≡ Some q → slice_get ms i ≡ Some m → list_any (same_cell q) (marked qs ms) ≡ m
marked_at [] ms i q m o at is = cc
marked_at (x ∷ qs) [] i q m o at is = cc
marked_at (x ∷ qs) (n ∷ ms) zero q m o at is =
    let parts = and_parts (list_all (before x) qs) (in_order qs) o in
    let same : x ≡ q = cc in
    let mark : n ≡ m = cc in
    let rest = none_marked x qs ms parts.0 in
    let P : Bool → Type 0 = λ b. list_any (same_cell x) (cond b (x ∷ marked qs ms) (marked qs ms)) ≡ b in
    let here : P n = elim n as P [ true ↦ rw (same_self x) refl | false ↦ rest ] in
    subst (λ (y : List ℕ). list_any (same_cell y) (cond n (x ∷ marked qs ms) (marked qs ms)) ≡ m) same (here ∙ mark)
marked_at (x ∷ qs) (n ∷ ms) (suc i) q m o at is =
    let parts = and_parts (list_all (before x) qs) (in_order qs) o in
    let rest = marked_at qs ms i q m parts.1 at is in
    let other = (before_other x q (all_at (before x) qs i q parts.0 at)).1 in
    let P : Bool → Type 0 = λ b. list_any (same_cell q) (cond b (x ∷ marked qs ms) (marked qs ms)) ≡ m in
    elim n as P [ true ↦ rw other rest | false ↦ rest ]

-- a mark is set: the leaf is marked beside those that were
pub marked_more : (ps : List (List ℕ)) (ms : List Bool) (t : List ℕ → Bool) → length ms ≡ length ps → ((i : ℕ) → i < length ps → t (get_or ps i []) ≡ get_or ms i false) → marked ps ms ≡ filter t ps
marked_more [] ms t e h = refl
marked_more (p ∷ ps) [] t e h = absurd (omega (arith, e))
marked_more (p ∷ ps) (m ∷ ms) t e h =
    let rest = marked_more ps ms t (omega (arith, e)) (λ i lt. h (suc i) (omega arith)) in
    let P : Bool → Type 0 = λ b. cond m (p ∷ marked ps ms) (marked ps ms) ≡ cond b (p ∷ filter t ps) (filter t ps) in
    let Q : Bool → Type 0 = λ b. cond b (p ∷ marked ps ms) (marked ps ms) ≡ cond b (p ∷ filter t ps) (filter t ps) in
    let here : Q m = elim m as Q [ true ↦ ap (λ (xs : List (List ℕ)). p ∷ xs) rest | false ↦ rest ] in
    subst P (sym (h 0 (omega arith))) here

-- a leaf of this prefix stands at a place
leaf_place : (p : List ℕ) (ls : List Leaf) → has_leaf p ls ≡ true → (k : ℕ) × (k < length ls) × (get_or (prefixes_of ls) k [] ≡ p)
leaf_place p [] h = absurd (false≢true h)
leaf_place p (l ∷ ls) h =
    let P : Bool → Type 0 = λ b. same_cell p l.prefix ≡ b → (b || has_leaf p ls) ≡ true → (k : ℕ) × (k < length (l ∷ ls)) × (get_or (prefixes_of (l ∷ ls)) k [] ≡ p) in
    (elim (same_cell p l.prefix) as P [
      | true ↦ λ e _. (0, omega arith, sym (same_cell_is p l.prefix e))
      | false ↦ λ e r. let k = leaf_place p ls r in (suc k.0, (let lt = k.1 in omega arith), k.2)
    ]) refl h

-- so there are some
pub first_place : (p : List ℕ) (ls : List Leaf) → has_leaf p ls ≡ true → 0 < length ls
first_place p ls h = let k = leaf_place p ls h in (let lt = k.1 in omega arith)

-- the one that a search has found
pub leaf_at : (p : List ℕ) (ls : List Leaf) (low high : ℕ) → high ≤ low + 1 → Between (prefixes_of ls) p low high → has_leaf p ls ≡ true → IfSome (slice_get ls low) (λ l. l.prefix ≡ p)
leaf_at p ls low high short within h =
    let k = leaf_place p ls h in
    let lt : k.0 < length (prefixes_of ls) = (let n = k.1 in omega (arith, n, length-map ls (λ (l : Leaf). l.prefix))) in
    let self : begins p p ≡ true = (and_parts _ _ (same_self p)).1 in
    let b = within k.0 lt (subst (λ (x : List ℕ). begins x p ≡ true) (sym k.2) self) in
    let here : k.0 ≡ low = (let m = b.0 in let n = b.1 in omega arith) in
    at_place p ls low (subst (λ (i : ℕ). get_or (prefixes_of ls) i [] ≡ p) here k.2)
  where
    at_place : (p : List ℕ) (ls : List Leaf) (i : ℕ) → get_or (prefixes_of ls) i [] ≡ p → IfSome (slice_get ls i) (λ l. l.prefix ≡ p)
    at_place p [] i e = tt
    at_place p (l ∷ ls) zero e = e
    at_place p (l ∷ ls) (suc i) e = at_place p ls i e

-- a leaf at a place is marked where the mark at that place says so
pub passed_at : (ls : List Leaf) (ms : List Bool) (i : ℕ) (leaf : Leaf) → in_order (prefixes_of ls) ≡ true → slice_get ls i ≡ Some leaf → i < length ms → list_any (same_cell leaf.prefix) (marked (prefixes_of ls) ms) ≡ get_or ms i false
passed_at ls ms i leaf order at within =
    marked_at (prefixes_of ls) ms i leaf.prefix (get_or ms i false) order (slice_get-map (λ (l : Leaf). l.prefix) ls i ∙ ap (option_map (λ (l : Leaf). l.prefix)) at) (slice_get-get_or ms i false within)

-- the prefix of the leaf at a place
pub prefix_there : (ls : List Leaf) (i : ℕ) (p : List ℕ) → i < length ls → IfSome (slice_get ls i) (λ l. l.prefix ≡ p) → get_or (prefixes_of ls) i [] ≡ p
prefix_there [] i p lt h = absurd (omega arith)
prefix_there (l ∷ ls) zero p lt h = h
prefix_there (l ∷ ls) (suc i) p lt h = prefix_there ls i p (omega arith) h

-- one mark more: its leaf, and those that were marked
module _ (ps : List (List ℕ)) (ms : List Bool) (k : ℕ) (p : List ℕ) (order : in_order ps ≡ true) (each : length ms ≡ length ps) (within : k < length ps) (is : get_or ps k [] ≡ p) where
  abbrev tests : List ℕ → Bool
  tests q = same_cell p q || list_any (same_cell q) (marked ps ms)

  mark_is : (i : ℕ) → i < length ps → list_any (same_cell (get_or ps i [])) (marked ps ms) ≡ get_or ms i false
  mark_is i lt = marked_at ps ms i (get_or ps i []) (get_or ms i false) order (slice_get-get_or ps i [] lt) (slice_get-get_or ms i false (omega (arith, lt, each)))

  others : (i : ℕ) → i < length ps → (i ≡ k → ⊥) → same_cell p (get_or ps i []) ≡ false
  others i lt other =
      let stand = order_from_test ps order in
      let P : Bool → Type 0 = λ b. nat_lt i k ≡ b → same_cell (get_or ps k []) (get_or ps i []) ≡ false in
      let apart : same_cell (get_or ps k []) (get_or ps i []) ≡ false = (elim (nat_lt i k) as P [
        | true ↦ λ e. (before_other (get_or ps i []) (get_or ps k []) (ordered_at ps stand i k (ltb-true i k e) within)).1
        | false ↦ λ e. let n : k ≤ i = grind (arith, nat_tests) in (before_other (get_or ps k []) (get_or ps i []) (ordered_at ps stand k i (omega (arith, n, other)) lt)).0
      ]) refl in
      subst (λ (x : List ℕ). same_cell x (get_or ps i []) ≡ false) is apart

  each_test : (i : ℕ) → i < length ps → tests (get_or ps i []) ≡ get_or (slice_set ms k true) i false
  each_test i lt =
      let Q : Bool → Type 0 = λ b. nat_eq i k ≡ b → tests (get_or ps i []) ≡ get_or (slice_set ms k true) i false in
      (elim (nat_eq i k) as Q [
        | true ↦ λ e.
            let same : i ≡ k = eqb-true i k e in
            let here : same_cell p (get_or ps i []) ≡ true = ap (λ (j : ℕ). same_cell p (get_or ps j [])) same ∙ ap (same_cell p) is ∙ same_self p in
            or_left (same_cell p (get_or ps i [])) (list_any (same_cell (get_or ps i [])) (marked ps ms)) here ∙ sym (ap (λ (j : ℕ). get_or (slice_set ms k true) j false) same ∙ get_or-set_same ms k true false (omega (arith, within, each)))
        | false ↦ λ e.
            let other : i ≡ k → ⊥ = λ s. false≢true (sym e ∙ ap (λ (j : ℕ). nat_eq j k) s ∙ eq-eqb k k refl) in
            (rw (others i lt other) (mark_is i lt)) ∙ sym (get_or-set_other ms k i true false other)
      ]) refl

  pub marked-more : marked ps (slice_set ms k true) ≡ filter tests ps
  marked-more = marked_more ps (slice_set ms k true) tests (length-set ms k true ∙ each) each_test

-- the leaves after a log stand in order
pub cells_in_order : (c : Configuration) (log : List LogEvent) → in_order (prefixes_of (cells_of c log)) ≡ true
cells_in_order c log =
    let g = grid c in
    subst (λ (ps : List (List ℕ)). in_order ps ≡ true) (sym (map_twice (λ (l : Leaf). l.prefix) (leaf_with g (population g log)) (leaves g log) ∙ map-id (leaves g log))) (leaves_in_order g log)

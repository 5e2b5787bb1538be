-- How full leaves are after each event.
use Rattle.std.proofs.Common.{◌≡◌, ℕ, ◌+◌, ◌-◌, ◌*◌, ◌≤◌, List, [], ◌∷◌, map, length, Bool, true, false, cond, ◌&&◌, ◌||◌, nat_lt, nat_le, refl, sym, ap, ◌∙◌, subst, arith}
use Rattle.std.specs.List.{filter, flat_map, list_any}
use Rattle.std.proofs.lemmas.Bool.{and_parts, and_right, false≢true, or_parts, or_right}
use Rattle.std.proofs.lemmas.Bool.Decides.{nat_tests}
use Rattle.std.proofs.lemmas.List.Folds.{list_any-append}
use Rattle.mi_base.specs.Permutations.{begins}
use Rattle.mi_base.proofs.LiveLemmas.{length_filter}
use Rattle.mi_tree.specs.declared.outcomes.Leaf.{Leaf}
use Rattle.mi_tree.specs.declared.counts.Placed.{Placed}
use Rattle.mi_tree.specs.Cells.{Grid, children, same_cell}
use Rattle.mi_tree.specs.Counting.{Population, widen, with_added, with_removed, split_leaf, leaf_among, leaf_with, belongs, leaves_beginning, has_leaf, is_splittable, is_wanted, is_crowded, is_overfull}
use Rattle.mi_tree.proofs.LeafLemmas.{same_cell_is}

-- a test of what another test keeps
any_filter : (p q : Leaf → Bool) (ls : List Leaf) → list_any (λ l. p l && q l) ls ≡ list_any q (filter p ls)
any_filter p q [] = refl
any_filter p q (l ∷ ls) =
    let P : Bool → Type 0 = λ b. (b && q l || list_any (λ x. p x && q x) ls) ≡ list_any q (cond b (l ∷ filter p ls) (filter p ls)) in
    elim (p l) as P [ true ↦ ap (λ b. q l || b) (any_filter p q ls) | false ↦ any_filter p q ls ]

pub or_nothing : (b : Bool) → (b || false) ≡ b
or_nothing true = refl
or_nothing false = refl

-- the leaf of a permutation is crowded where the one that begins it is
pub crowded_one : (perm : List ℕ) (levels cell : ℕ) (ls : List Leaf) (l : Leaf) → leaves_beginning perm ls ≡ l ∷ [] → list_any (λ x. begins x.prefix perm && is_crowded levels cell x) ls ≡ is_crowded levels cell l
crowded_one perm levels cell ls l one =
    any_filter (λ x. begins x.prefix perm) (is_crowded levels cell) ls ∙ ap (list_any (is_crowded levels cell)) one ∙ or_nothing (is_crowded levels cell l)

-- one object more in a leaf that isn't crowded
added_one : (perm : List ℕ) (d levels cell : ℕ) (l : Leaf) → is_overfull levels cell l ≡ false → (begins l.prefix perm && is_crowded levels cell l) ≡ false → is_overfull levels cell (with_added perm d l) ≡ false
added_one perm d levels cell l h k =
    let S = nat_lt (length l.prefix) levels in
    let P : Bool → Type 0 = λ b. (b && (S && nat_le (4 * cell) l.count)) ≡ false → is_overfull levels cell (cond b (record { prefix = l.prefix; count = l.count + 1; hull = widen d l.hull }) l) ≡ false in
    let Q : Bool → Type 0 = λ s. (s && nat_le (4 * cell) l.count) ≡ false → (s && nat_lt (4 * cell) (l.count + 1)) ≡ false in
    let step : (s : Bool) → Q s = elim [ true ↦ λ f. grind (arith, nat_tests) | false ↦ λ f. refl ] in
    let R : Bool → Type 0 = λ b. begins l.prefix perm ≡ b → is_overfull levels cell (with_added perm d l) ≡ false in
    (elim (begins l.prefix perm) as R [
      | true ↦ λ e. let f : (S && nat_le (4 * cell) l.count) ≡ false = sym (rw e refl) ∙ k in rw e (step S f)
      | false ↦ λ e. rw e h
    ]) refl

-- an insert into a leaf that isn't crowded leaves none too full
pub added_fits : (perm : List ℕ) (d levels cell : ℕ) (ls : List Leaf) → list_any (is_overfull levels cell) ls ≡ false → list_any (λ l. begins l.prefix perm && is_crowded levels cell l) ls ≡ false
    → list_any (is_overfull levels cell) (map (with_added perm d) ls) ≡ false
added_fits perm d levels cell [] h k = refl
added_fits perm d levels cell (l ∷ ls) h k =
    let a = or_parts (is_overfull levels cell l) (list_any (is_overfull levels cell) ls) h in
    let b = or_parts (begins l.prefix perm && is_crowded levels cell l) (list_any (λ x. begins x.prefix perm && is_crowded levels cell x) ls) k in
    rw (added_one perm d levels cell l a.0 b.0, added_fits perm d levels cell ls a.1 b.1) refl

removed_one : (perm : List ℕ) (levels cell : ℕ) (l : Leaf) → is_overfull levels cell l ≡ false → is_overfull levels cell (with_removed perm l) ≡ false
removed_one perm levels cell l h =
    let Q : Bool → Type 0 = λ s. (s && nat_lt (4 * cell) l.count) ≡ false → (s && nat_lt (4 * cell) (l.count - 1)) ≡ false in
    let step : (s : Bool) → Q s = elim [ true ↦ λ f. grind (arith, nat_tests) | false ↦ λ f. refl ] in
    let R : Bool → Type 0 = λ b. begins l.prefix perm ≡ b → is_overfull levels cell (with_removed perm l) ≡ false in
    (elim (begins l.prefix perm) as R [
      | true ↦ λ e. rw e (step (nat_lt (length l.prefix) levels) h)
      | false ↦ λ e. rw e h
    ]) refl

-- a delete leaves none too full
pub removed_fits : (perm : List ℕ) (levels cell : ℕ) (ls : List Leaf) → list_any (is_overfull levels cell) ls ≡ false → list_any (is_overfull levels cell) (map (with_removed perm) ls) ≡ false
removed_fits perm levels cell [] h = refl
removed_fits perm levels cell (l ∷ ls) h =
    let a = or_parts (is_overfull levels cell l) (list_any (is_overfull levels cell) ls) h in
    rw (removed_one perm levels cell l a.0, removed_fits perm levels cell ls a.1) refl

-- a leaf of few objects isn't too full
few_one : (levels cell : ℕ) (l : Leaf) → l.count ≤ 4 * cell → is_overfull levels cell l ≡ false
few_one levels cell l few = and_right (is_splittable levels l) (nat_lt (4 * cell) l.count) (grind (arith, nat_tests))

among_fits : (levels cell : ℕ) (objects : List Placed) (ps : List (List ℕ)) → length objects ≤ 4 * cell → list_any (is_overfull levels cell) (map (leaf_among objects) ps) ≡ false
among_fits levels cell objects [] few = refl
among_fits levels cell objects (p ∷ ps) few =
    let less : length (filter (λ (o : Placed). begins p o.perm) objects) ≤ 4 * cell = omega (arith, few, length_filter (λ (o : Placed). begins p o.perm) objects) in
    rw (few_one levels cell (leaf_among objects p) less, among_fits levels cell objects ps few) refl

parted_one : (pivots levels cell : ℕ) (p : List ℕ) (objects : List Placed) (l : Leaf) → length objects ≤ 4 * cell → is_overfull levels cell l ≡ false → list_any (is_overfull levels cell) (split_leaf pivots p objects l) ≡ false
parted_one pivots levels cell p objects l few h =
    let P : Bool → Type 0 = λ b. list_any (is_overfull levels cell) (cond b (map (leaf_among objects) (children pivots p)) (l ∷ [])) ≡ false in
    elim (same_cell p l.prefix) as P [ true ↦ among_fits levels cell objects (children pivots p) few | false ↦ rw h refl ]

-- a split of few objects leaves no leaf too full
pub parted_fits : (pivots levels cell : ℕ) (p : List ℕ) (objects : List Placed) (ls : List Leaf) → length objects ≤ 4 * cell → list_any (is_overfull levels cell) ls ≡ false
    → list_any (is_overfull levels cell) (flat_map (split_leaf pivots p objects) ls) ≡ false
parted_fits pivots levels cell p objects [] few h = refl
parted_fits pivots levels cell p objects (l ∷ ls) few h =
    let a = or_parts (is_overfull levels cell l) (list_any (is_overfull levels cell) ls) h in
    list_any-append (is_overfull levels cell) (split_leaf pivots p objects l) (flat_map (split_leaf pivots p objects) ls)
    ∙ (rw (parted_one pivots levels cell p objects l few a.0, parted_fits pivots levels cell p objects ls few a.1) refl)

-- a leaf that is to be split and isn't too full has at most four times the cell size
pub wanted_few : (g : Grid) (h : Population) (levels cell : ℕ) (p : List ℕ) (ps : List (List ℕ)) → list_any (λ l. same_cell p l.prefix && is_wanted levels cell l) (map (leaf_with g h) ps) ≡ true
    → list_any (is_overfull levels cell) (map (leaf_with g h) ps) ≡ false → length (filter (belongs g p) h.live) ≤ 4 * cell
wanted_few g h levels cell p [] k m = absurd (false≢true k)
wanted_few g h levels cell p (q ∷ ps) k m =
    let l = leaf_with g h q in
    let rest = list_any (λ (x : Leaf). same_cell p x.prefix && is_wanted levels cell x) (map (leaf_with g h) ps) in
    let a = or_parts (is_overfull levels cell l) (list_any (is_overfull levels cell) (map (leaf_with g h) ps)) m in
    let P : Bool → Type 0 = λ b. (same_cell p q && is_wanted levels cell l) ≡ b → (b || rest) ≡ true → length (filter (belongs g p) h.live) ≤ 4 * cell in
    (elim (same_cell p q && is_wanted levels cell l) as P [
      | true ↦ λ e _.
          let both = and_parts (same_cell p q) (is_wanted levels cell l) e in
          let same : p ≡ q = same_cell_is p q both.0 in
          let deep : nat_lt (length q) levels ≡ true = (and_parts (nat_lt (length q) levels) (nat_lt cell l.count) both.1).0 in
          let few : nat_lt (4 * cell) l.count ≡ false = sym (ap (λ b. b && nat_lt (4 * cell) l.count) deep) ∙ a.0 in
          let size : l.count ≤ 4 * cell = grind (arith, nat_tests) in
          subst (λ (x : List ℕ). length (filter (belongs g x) h.live) ≤ 4 * cell) (sym same) size
      | false ↦ λ e r. wanted_few g h levels cell p ps r a.1
    ]) refl k

-- the leaves are there as before
pub has_leaf_map : (f : Leaf → Leaf) → ((l : Leaf) → (f l).prefix ≡ l.prefix) → (q : List ℕ) (ls : List Leaf) → has_leaf q ls ≡ true → has_leaf q (map f ls) ≡ true
has_leaf_map f keep q [] h = h
has_leaf_map f keep q (l ∷ ls) h =
    let P : Bool → Type 0 = λ b. same_cell q l.prefix ≡ b → (b || has_leaf q ls) ≡ true → (same_cell q (f l).prefix || has_leaf q (map f ls)) ≡ true in
    (elim (same_cell q l.prefix) as P [
      | true ↦ λ e _. rw (ap (same_cell q) (keep l) ∙ e) refl
      | false ↦ λ e k. or_right (same_cell q (f l).prefix) (has_leaf q (map f ls)) (has_leaf_map f keep q ls k)
    ]) refl h

pub added_prefix : (perm : List ℕ) (d : ℕ) (l : Leaf) → (with_added perm d l).prefix ≡ l.prefix
added_prefix perm d l =
    let P : Bool → Type 0 = λ b. (cond b (record { prefix = l.prefix; count = l.count + 1; hull = widen d l.hull }) l).prefix ≡ l.prefix in
    elim (begins l.prefix perm) as P [ true ↦ refl | false ↦ refl ]

pub removed_prefix : (perm : List ℕ) (l : Leaf) → (with_removed perm l).prefix ≡ l.prefix
removed_prefix perm l =
    let P : Bool → Type 0 = λ b. (cond b (record { prefix = l.prefix; count = l.count - 1; hull = l.hull }) l).prefix ≡ l.prefix in
    elim (begins l.prefix perm) as P [ true ↦ refl | false ↦ refl ]

parted_has : (pivots : ℕ) (p : List ℕ) (objects : List Placed) (q : List ℕ) (l : Leaf) → same_cell p q ≡ false → same_cell q l.prefix ≡ true → has_leaf q (split_leaf pivots p objects l) ≡ true
parted_has pivots p objects q l other here =
    let same : q ≡ l.prefix = same_cell_is q l.prefix here in
    let out : same_cell p l.prefix ≡ false = sym (ap (same_cell p) same) ∙ other in
    rw (out, here) refl

-- a split keeps the other leaves
pub has_leaf_parted : (pivots : ℕ) (p : List ℕ) (objects : List Placed) (q : List ℕ) (ls : List Leaf) → has_leaf q ls ≡ true → same_cell p q ≡ false → has_leaf q (flat_map (split_leaf pivots p objects) ls) ≡ true
has_leaf_parted pivots p objects q [] h other = h
has_leaf_parted pivots p objects q (l ∷ ls) h other =
    let T : Leaf → Bool = λ x. same_cell q x.prefix in
    let P : Bool → Type 0 = λ b. same_cell q l.prefix ≡ b → (b || has_leaf q ls) ≡ true → (list_any T (split_leaf pivots p objects l) || has_leaf q (flat_map (split_leaf pivots p objects) ls)) ≡ true in
    list_any-append T (split_leaf pivots p objects l) (flat_map (split_leaf pivots p objects) ls)
    ∙ (elim (same_cell q l.prefix) as P [
      | true ↦ λ e _. rw (parted_has pivots p objects q l other e) refl
      | false ↦ λ e k. or_right (list_any T (split_leaf pivots p objects l)) (has_leaf q (flat_map (split_leaf pivots p objects) ls)) (has_leaf_parted pivots p objects q ls k other)
    ]) refl h

-- no leaf is too full before any event
pub empty_fits : (g : Grid) (levels cell : ℕ) (ps : List (List ℕ)) → list_any (is_overfull levels cell) (map (leaf_with g (record { live = []; put_in = [] })) ps) ≡ false
empty_fits g levels cell [] = refl
empty_fits g levels cell (p ∷ ps) = rw (few_one levels cell (leaf_with g (record { live = []; put_in = [] }) p) (omega arith), empty_fits g levels cell ps) refl

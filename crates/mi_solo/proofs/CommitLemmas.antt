-- Leaves that are crowded, and records of a shard that gains or loses one.
use Rattle.std.proofs.Common.{◌≡◌, ◌≢◌, ℕ, ℤ, ◌*◌, ◌≤◌, ◌==◌, List, [], ◌∷◌, ◌++◌, map, Bool, true, false, cond, not, ◌&&◌, ◌||◌, nat_le, refl, sym, ap, ◌∙◌, arith, Option, Some, None}
use Rattle.std.specs.List.{filter, find, list_any}
use Rattle.std.specs.Option.{option_or}
use Rattle.std.proofs.lemmas.Bool.{and_parts, eq-eqb, eqb-true, leb-true, lt-ltb, ne_eqb}
use Rattle.std.proofs.lemmas.List.Folds.{find-append}
use Rattle.mi_base.specs.declared.records.LogEvent.{LogEvent}
use Rattle.mi_base.specs.Configuration.{Configuration, IsWithinLimits}
use Rattle.mi_base.specs.Permutations.{begins}
use Rattle.mi_tree.specs.declared.outcomes.Leaf.{Leaf}
use Rattle.mi_tree.specs.Cells.{is_leaf, leaves, same_cell}
use Rattle.mi_tree.specs.Counting.{is_crowded, is_splittable, is_wanted, leaf_with, population}
use Rattle.mi_tree.specs.Legal.{LegalLog, cells_of}
use Rattle.mi_tree.proofs.LeafLemmas.{leaf_is, same_cell_is, same_self}
use Rattle.mi_tree.proofs.LegalLemmas.{all_may}
use Rattle.mi_entries.specs.Entries.{grid}
use Rattle.mi_entries.specs.Records.{ShardRecord}
use Rattle.mi_entries.proofs.KeyedLemmas.{is_grid}
use Rattle.mi_world.specs.Pages.{is_crowded_leaf}

or_right : (a b : Bool) → b ≡ true → (a || b) ≡ true
or_right true b h = refl
or_right false b h = h

-- a crowded leaf is to be split
pub crowded_wanted : (levels cell : ℕ) (p : List ℕ) → 1 ≤ cell → (ls : List Leaf) → list_any (λ l. same_cell p l.prefix && is_crowded levels cell l) ls ≡ true → list_any (λ l. same_cell p l.prefix && is_wanted levels cell l) ls ≡ true
crowded_wanted levels cell p some [] h = h
crowded_wanted levels cell p some (l ∷ ls) h =
    let P : Bool → Type 0 = λ b. (same_cell p l.prefix && is_crowded levels cell l) ≡ b → (b || list_any (λ l. same_cell p l.prefix && is_crowded levels cell l) ls) ≡ true
    → ((same_cell p l.prefix && is_wanted levels cell l) || list_any (λ l. same_cell p l.prefix && is_wanted levels cell l) ls) ≡ true in
    (elim (same_cell p l.prefix && is_crowded levels cell l) as P [
      | true ↦ λ e _.
          let x = and_parts (same_cell p l.prefix) (is_crowded levels cell l) e in
          let y = and_parts (is_splittable levels l) (nat_le (4 * cell) l.count) x.1 in
          let n = leb-true (4 * cell) l.count y.1 in
          rw (x.0, y.0, lt-ltb cell l.count (omega arith)) refl
      | false ↦ λ _ r. or_right (same_cell p l.prefix && is_wanted levels cell l) _ (crowded_wanted levels cell p some ls r)
    ]) refl h

-- the leaf that begins a permutation is the one of its prefix
one_begins : (perm p : List ℕ) (X : Leaf → Bool) (F : List ℕ → Leaf) → ((q : List ℕ) → (F q).prefix ≡ q) → (ls : List (List ℕ)) → ((q : List ℕ) → list_any (same_cell q) ls ≡ true → begins q perm ≡ same_cell p q)
    → list_any (λ l. begins l.prefix perm && X l) (map F ls) ≡ list_any (λ l. same_cell p l.prefix && X l) (map F ls)
one_begins perm p X F f [] h = refl
one_begins perm p X F f (q ∷ ls) h =
    let first : begins (F q).prefix perm ≡ same_cell p (F q).prefix = ap (λ z. begins z perm) (f q) ∙ h q (ap (λ b. b || list_any (same_cell q) ls) (same_self q)) ∙ ap (same_cell p) (sym (f q)) in
    let rest = one_begins perm p X F f ls (λ x t. h x (or_right (same_cell x q) (list_any (same_cell x) ls) t)) in
    ap (λ b. (b && X (F q)) || list_any (λ l. begins l.prefix perm && X l) (map F ls)) first ∙ ap (λ b. (same_cell p (F q).prefix && X (F q)) || b) rest

module _ (c : Configuration) (limits : IsWithinLimits c) (log : List LogEvent) (legal : LegalLog c log) (p : List ℕ) (leaf : is_leaf (grid c) log p ≡ true) where
  -- a leaf is crowded where a permutation that it begins finds it so
  pub crowded_is : (v : List ℤ) → begins p ((grid c).perm v) ≡ true → list_any (λ l. begins l.prefix ((grid c).perm v) && is_crowded c.levels c.cell l) (cells_of c log) ≡ is_crowded_leaf c log (Some p)
  crowded_is v under = one_begins ((grid c).perm v) p (is_crowded c.levels c.cell) (leaf_with (grid c) (population (grid c) log)) (λ q. refl) (leaves (grid c) log) one
    where
      one : (q : List ℕ) → list_any (same_cell q) (leaves (grid c) log) ≡ true → begins q ((grid c).perm v) ≡ same_cell p q
      one q its =
          let P : Bool → Type 0 = λ b. begins q ((grid c).perm v) ≡ b → b ≡ same_cell p q in
          let Q : Bool → Type 0 = λ b. same_cell p q ≡ b → begins q ((grid c).perm v) ≡ false → false ≡ b in
          (elim (begins q ((grid c).perm v)) as P [
            | true ↦ λ e. sym (ap (same_cell p) (leaf_is (grid c) (is_grid c limits) log (all_may c log legal) q v its e ∙ sym (leaf_is (grid c) (is_grid c limits) log (all_may c log legal) p v leaf under)) ∙ same_self p)
            | false ↦ λ e. (elim (same_cell p q) as Q [
              | true ↦ λ s n. sym n ∙ ap (λ z. begins z ((grid c).perm v)) (sym (same_cell_is p q s)) ∙ under
              | false ↦ λ _ _. refl
            ]) refl e
          ]) refl

-- all records but one
pub find_else : (id i : ℕ) → i ≢ id → (xs : List ShardRecord) → find (λ x. x.id == i) (filter (λ x. not (x.id == id)) xs) ≡ find (λ x. x.id == i) xs
find_else id i n [] = refl
find_else id i n (x ∷ xs) =
    let P : Bool → Type 0 = λ b. (x.id == id) ≡ b → find (λ y. y.id == i) (cond (not b) (x ∷ filter (λ y. not (y.id == id)) xs) (filter (λ y. not (y.id == id)) xs)) ≡ cond (x.id == i) (Some x) (find (λ y. y.id == i) xs) in
    (elim (x.id == id) as P [
      | true ↦ λ e. find_else id i n xs ∙ sym (rw (ne_eqb x.id i (λ same. n (sym same ∙ eqb-true x.id id e))) refl)
      | false ↦ λ _. ap (λ z. cond (x.id == i) (Some x) z) (find_else id i n xs)
    ]) refl

pub find_gone : (id : ℕ) (xs : List ShardRecord) → find (λ x. x.id == id) (filter (λ x. not (x.id == id)) xs) ≡ None
find_gone id [] = refl
find_gone id (x ∷ xs) =
    let P : Bool → Type 0 = λ b. (x.id == id) ≡ b → find (λ y. y.id == id) (cond (not b) (x ∷ filter (λ y. not (y.id == id)) xs) (filter (λ y. not (y.id == id)) xs)) ≡ None in
    (elim (x.id == id) as P [ true ↦ λ _. find_gone id xs | false ↦ λ e. rw e (find_gone id xs) ]) refl

-- one record more
pub find_more : (y : ShardRecord) (i : ℕ) → i ≢ y.id → (xs : List ShardRecord) → find (λ x. x.id == i) (xs ++ y ∷ []) ≡ find (λ x. x.id == i) xs
find_more y i n xs = find-append (λ (x : ShardRecord). x.id == i) xs (y ∷ []) ∙ (rw (ne_eqb y.id i (λ same. n (sym same))) (or_none (find (λ x. x.id == i) xs)))
  where
    or_none : {X : Type 0} (o : Option X) → option_or o None ≡ o
    or_none None = refl
    or_none (Some z) = refl

pub find_new : (y : ShardRecord) (xs : List ShardRecord) → find (λ x. x.id == y.id) xs ≡ None → find (λ x. x.id == y.id) (xs ++ y ∷ []) ≡ Some y
find_new y xs none = find-append (λ (x : ShardRecord). x.id == y.id) xs (y ∷ []) ∙ (rw (none, eq-eqb y.id y.id refl) refl)

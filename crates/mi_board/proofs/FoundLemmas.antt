-- The leaf that was found.
use Rattle.std.proofs.Common.{◌≡◌, ℕ, suc, zero, ◌+◌, take, drop, length, arith, add-one, not, List, [], ◌∷◌, Bool, true, false, IsTrue, cond, ◌&&◌, ◌||◌, refl, sym, ap, ◌∙◌, subst, Option, Some, None}
use Rattle.std.specs.List.{find, slice_get}
use Rattle.std.proofs.lemmas.Bool.{and_parts, false≢true, or_right}
use Rattle.mi_base.specs.Permutations.{begins}
use Rattle.mi_board.specs.Actors.{is_claim, is_claimed, claims_leaf_of}
use Rattle.mi_board.specs.Boards.{BoardState, is_open, is_passed}
use Rattle.mi_board.specs.Floors.{earliest_in}
use Rattle.mi_tree.specs.Births.{was_split}
use Rattle.mi_base.specs.declared.records.LogEvent.{LogEvent}
use Rattle.mi_tree.specs.declared.outcomes.Leaf.{Leaf}
use Rattle.mi_tree.specs.Cells.{same_cell}
use Rattle.mi_tree.specs.Counting.{leaves_beginning, has_leaf, is_wanted}
use Rattle.mi_tree.proofs.LeafLemmas.{same_cell_is, same_self}

-- the leaf that begins a permutation begins it
pub kept_begins : (perm : List ℕ) (ls : List Leaf) (leaf : Leaf) → leaves_beginning perm ls ≡ leaf ∷ [] → begins leaf.prefix perm ≡ true
kept_begins perm [] leaf h = cc
kept_begins perm (l ∷ ls) leaf h =
    let P : Bool → Type 0 = λ b. begins l.prefix perm ≡ b → cond b (l ∷ leaves_beginning perm ls) (leaves_beginning perm ls) ≡ leaf ∷ [] → begins leaf.prefix perm ≡ true in
    (elim (begins l.prefix perm) as P [
      | true ↦ λ e k. let same : l ≡ leaf = cc in subst (λ (x : Leaf). begins x.prefix perm ≡ true) same e
      | false ↦ λ e k. kept_begins perm ls leaf k
    ]) refl h

-- and is one of the leaves
pub kept_there : (perm : List ℕ) (ls : List Leaf) (leaf : Leaf) → leaves_beginning perm ls ≡ leaf ∷ [] → has_leaf leaf.prefix ls ≡ true
kept_there perm [] leaf h = cc
kept_there perm (l ∷ ls) leaf h =
    let P : Bool → Type 0 = λ b. cond b (l ∷ leaves_beginning perm ls) (leaves_beginning perm ls) ≡ leaf ∷ [] → (same_cell leaf.prefix l.prefix || has_leaf leaf.prefix ls) ≡ true in
    (elim (begins l.prefix perm) as P [
      | true ↦ λ k. let same : l ≡ leaf = cc in rw (subst (λ (x : Leaf). same_cell leaf.prefix x.prefix ≡ true) (sym same) (same_self leaf.prefix)) refl
      | false ↦ λ k. or_right (same_cell leaf.prefix l.prefix) (has_leaf leaf.prefix ls) (kept_there perm ls leaf k)
    ]) h

-- a claim of a leaf that begins the permutation
pub claims_of : (p perm : List ℕ) (o : Option (List ℕ)) → begins p perm ≡ true → is_claim p o ≡ true → IsTrue (claims_leaf_of perm o)
claims_of p perm None b h = absurd (false≢true h)
claims_of p perm (Some q) b h = subst (λ (x : List ℕ). begins x perm ≡ true) (same_cell_is p q h) b

-- the first that passes a test is none of the first ones, so far
pub find_more : (p : Leaf → Bool) (ls : List Leaf) (i : ℕ) (x : Leaf) → find p (take i ls) ≡ None → slice_get ls i ≡ Some x → p x ≡ false → find p (take (i + 1) ls) ≡ None
find_more p [] i x h at f = cc
find_more p (l ∷ ls) zero x h at f = let same : l ≡ x = cc in rw (ap p same ∙ f) refl
find_more p (l ∷ ls) (suc i) x h at f =
    let P : Bool → Type 0 = λ b. cond b (Some l) (find p (take i ls)) ≡ None → cond b (Some l) (find p (take (i + 1) ls)) ≡ None in
    rw add-one (simp add-one at ((elim (p l) as P [ true ↦ λ k. cc | false ↦ λ k. find_more p ls i x k at f ]) h))

-- it is this one
pub find_here : (p : Leaf → Bool) (ls : List Leaf) (i : ℕ) (x : Leaf) → find p (take i ls) ≡ None → slice_get ls i ≡ Some x → p x ≡ true → find p ls ≡ Some x
find_here p [] i x h at t = cc
find_here p (l ∷ ls) zero x h at t = let same : l ≡ x = cc in rw (ap p same ∙ t) at
find_here p (l ∷ ls) (suc i) x h at t =
    let P : Bool → Type 0 = λ b. cond b (Some l) (find p (take i ls)) ≡ None → cond b (Some l) (find p ls) ≡ Some x in
    (elim (p l) as P [ true ↦ λ k. cc | false ↦ λ k. find_here p ls i x k at t ]) h

-- the first that passes a test is one of the leaves
pub find_there : (p : Leaf → Bool) (ls : List Leaf) (x : Leaf) → find p ls ≡ Some x → has_leaf x.prefix ls ≡ true
find_there p [] x h = cc
find_there p (l ∷ ls) x h =
    let P : Bool → Type 0 = λ b. cond b (Some l) (find p ls) ≡ Some x → (same_cell x.prefix l.prefix || has_leaf x.prefix ls) ≡ true in
    (elim (p l) as P [
      | true ↦ λ k. let same : l ≡ x = cc in rw (subst (λ (y : Leaf). same_cell x.prefix y.prefix ≡ true) (sym same) (same_self x.prefix)) refl
      | false ↦ λ k. or_right (same_cell x.prefix l.prefix) (has_leaf x.prefix ls) (find_there p ls x k)
    ]) h

find_passes : (p : Leaf → Bool) (ls : List Leaf) (x : Leaf) → find p ls ≡ Some x → p x ≡ true
find_passes p [] x h = cc
find_passes p (l ∷ ls) x h =
    let P : Bool → Type 0 = λ b. p l ≡ b → cond b (Some l) (find p ls) ≡ Some x → p x ≡ true in
    (elim (p l) as P [
      | true ↦ λ e k. let same : l ≡ x = cc in ap p (sym same) ∙ e
      | false ↦ λ e k. find_passes p ls x k
    ]) refl h

not_so : (b : Bool) → not b ≡ true → b ≡ false
not_so true h = absurd (false≢true h)
not_so false h = refl

-- a test of three parts, and its second
second_part : (a b d : Bool) → (a && (not b && d)) ≡ true → b ≡ false
second_part true true d h = absurd (false≢true h)
second_part true false d h = refl
second_part false b d h = absurd (false≢true h)

-- and nobody claims it
pub find_free : (s : BoardState) (ls : List Leaf) (x : Leaf) → find (is_open s) ls ≡ Some x → is_claimed x.prefix s.actors ≡ false
find_free s ls x h = second_part (is_wanted s.settings.levels s.settings.cell x) (is_claimed x.prefix s.actors) (not (is_passed x.prefix s)) (find_passes (is_open s) ls x h)

-- the leaf that is swept next is the first that was retired
pub next_swept : (log : List LogEvent) (ps : List (List ℕ)) (p : List ℕ) → earliest_in log ps ≡ Some p → ps ≡ p ∷ drop 1 ps
next_swept log [] p e = cc
next_swept log (q ∷ qs) p e =
    let P : Bool → Type 0 = λ b. cond b (Some q) None ≡ Some p → q ∷ qs ≡ p ∷ qs in
    (elim (was_split q log) as P [ true ↦ λ e. cc | false ↦ λ e. cc ]) e

-- a leaf that isn't free, or that is passed over, isn't open
pub not_free : (a b d : Bool) → (a && b) ≡ false → (a && (b && d)) ≡ false
not_free true true d h = absurd (false≢true (sym h))
not_free true false d h = refl
not_free false b d h = refl

pub not_open : (a b d : Bool) → d ≡ true → (a && (b && not d)) ≡ false
not_open true true d h = ap not h
not_open true false d h = refl
not_open false b d h = refl

pub is_free_open : (a b d : Bool) → (a && b) ≡ true → d ≡ false → (a && (b && not d)) ≡ true
is_free_open true true d h k = ap not k
is_free_open true false d h k = absurd (false≢true h)
is_free_open false b d h k = absurd (false≢true h)

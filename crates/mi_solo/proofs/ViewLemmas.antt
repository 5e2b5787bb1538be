-- The parts of a view: who holds a leaf, whether a leaf is wanted, pins.
use Rattle.std.proofs.Common.{◌≡◌, ◌≢◌, ℕ, suc, zero, ◌+◌, ◌<◌, List, [], ◌∷◌, ◌++◌, length, map, Bool, true, false, cond, ◌&&◌, ◌||◌, nat_lt, refl, sym, ap, ◌∙◌, arith, Option, Some, None}
use Rattle.std.specs.Prelude.{slice_index_or}
use Rattle.std.specs.List.{filter, list_any}
use Rattle.std.proofs.lemmas.Bool.{false≢true}
use Rattle.std.proofs.lemmas.Option.{none-some, same_Some}
use Rattle.mi_base.specs.declared.records.LogEvent.{LogEvent}
use Rattle.mi_base.specs.Configuration.{Configuration}
use Rattle.mi_base.specs.History.{IsPosition, live, updates_of}
use Rattle.mi_tree.specs.declared.outcomes.Leaf.{Leaf}
use Rattle.mi_tree.specs.Cells.{is_leaf, leaves, same_cell}
use Rattle.mi_tree.specs.Counting.{belongs, is_wanted, leaf_with, population}
use Rattle.mi_tree.proofs.CatLemmas.{held_live}
use Rattle.mi_tree.proofs.LeafLemmas.{same_cell_is, same_self}
use Rattle.mi_board.specs.Actors.{idle, is_claim}
use Rattle.mi_board.specs.declared.actors.ActorState.{ActorState}
use Rattle.mi_board.proofs.FloorLemmas.{at_more}
use Rattle.mi_entries.specs.Actors.{Pin}
use Rattle.mi_entries.specs.Entries.{grid}
use Rattle.mi_solo.specs.Viewing.{holder_from, leaf_wanted, pinned_log}

-- the first that claims a leaf claims it
pub holder_is : (n : ℕ) (l : List ActorState) (p : List ℕ) (m : ℕ) → holder_from n l p ≡ Some m → (i : ℕ) × (m ≡ n + i) × (is_claim p (slice_index_or l i idle).claim ≡ true)
holder_is n [] p m h = absurd (none-some m h)
holder_is n (x ∷ l) p m h =
    let Q : Type 0 = (i : ℕ) × (m ≡ n + i) × (is_claim p (slice_index_or (x ∷ l) i idle).claim ≡ true) in
    let P : Bool → Type 0 = λ b. is_claim p x.claim ≡ b → cond b (Some n) (holder_from (n + 1) l p) ≡ Some m → Q in
    (elim (is_claim p x.claim) as P [
      | true ↦ λ e i. (zero, omega (arith, same_Some n m i), e)
      | false ↦ λ _ i. let t = holder_is (n + 1) l p m i in (suc t.0, omega (arith, t.1), t.2)
    ]) refl h

pub claim_is : (p : List ℕ) (o : Option (List ℕ)) → is_claim p o ≡ true → o ≡ Some p
claim_is p None h = absurd (false≢true h)
claim_is p (Some q) h = ap Some (sym (same_cell_is p q h))

pub not_claim : (p : List ℕ) (o : Option (List ℕ)) → (o ≢ Some p) → is_claim p o ≡ false
not_claim p o n =
    let P : Bool → Type 0 = λ b. is_claim p o ≡ b → b ≡ false in
    (elim (is_claim p o) as P [ true ↦ λ e. absurd (n (claim_is p o e)) | false ↦ λ _. refl ]) refl

-- who alone claims a leaf is its holder
pub holder_alone : (n : ℕ) (l : List ActorState) (p : List ℕ) (i : ℕ) → i < length l → (slice_index_or l i idle).claim ≡ Some p → ((j : ℕ) → (slice_index_or l j idle).claim ≡ Some p → j ≡ i) → holder_from n l p ≡ Some (n + i)
holder_alone n [] p i lt its one = absurd (omega arith)
holder_alone n (x ∷ l) p zero lt its one = rw (its, same_self p) (ap Some (omega arith))
holder_alone n (x ∷ l) p (suc i) lt its one =
    rw (not_claim p x.claim (λ e. (let z = one 0 e in absurd (omega arith)))) (holder_alone (n + 1) l p i (omega arith) its (λ j e. (let z = one (suc j) e in omega arith)) ∙ ap Some (omega arith))

-- a leaf that nobody claims has no holder
pub holder_none : (n : ℕ) (l : List ActorState) (p : List ℕ) → ((j : ℕ) → (slice_index_or l j idle).claim ≢ Some p) → holder_from n l p ≡ None
holder_none n [] p free = refl
holder_none n (x ∷ l) p free = rw (not_claim p x.claim (free 0)) (holder_none (n + 1) l p (λ j. free (suc j)))

module _ (c : Configuration) (log : List LogEvent) (p : List ℕ) where
  -- a leaf of this prefix, as often as there is one, has its count
  pub wanted_is : is_leaf (grid c) log p ≡ true → leaf_wanted c log (Some p) ≡ is_wanted c.levels c.cell (leaf_with (grid c) (population (grid c) log) p)
  wanted_is h = go (leaves (grid c) log) h
    where
      go : (ls : List (List ℕ)) → list_any (same_cell p) ls ≡ true
          → list_any (λ (l : Leaf). same_cell p l.prefix && is_wanted c.levels c.cell l) (map (leaf_with (grid c) (population (grid c) log)) ls) ≡ is_wanted c.levels c.cell (leaf_with (grid c) (population (grid c) log) p)
      go [] t = absurd (false≢true t)
      go (q ∷ ls) t =
          let X : Bool = is_wanted c.levels c.cell (leaf_with (grid c) (population (grid c) log) p) in
          let Y : Bool = is_wanted c.levels c.cell (leaf_with (grid c) (population (grid c) log) q) in
          let rest : List Leaf = map (leaf_with (grid c) (population (grid c) log)) ls in
          let tail : Bool = list_any (λ (l : Leaf). same_cell p l.prefix && is_wanted c.levels c.cell l) rest in
          let P : Bool → Type 0 = λ b. same_cell p q ≡ b → (b || list_any (same_cell p) ls) ≡ true → ((b && Y) || tail) ≡ X in
          (elim (same_cell p q) as P [
            | true ↦ λ e _. ap (λ z. is_wanted c.levels c.cell (leaf_with (grid c) (population (grid c) log) z) || tail) (sym (same_cell_is p q e)) ∙ absorbed ls
            | false ↦ λ e u. go ls u
          ]) refl t
        where
          absorbed : (ms : List (List ℕ)) → (is_wanted c.levels c.cell (leaf_with (grid c) (population (grid c) log) p)
              || list_any (λ (l : Leaf). same_cell p l.prefix && is_wanted c.levels c.cell l) (map (leaf_with (grid c) (population (grid c) log)) ms)) ≡ is_wanted c.levels c.cell (leaf_with (grid c) (population (grid c) log) p)
          absorbed [] = or_none (is_wanted c.levels c.cell (leaf_with (grid c) (population (grid c) log) p))
            where
              or_none : (b : Bool) → (b || false) ≡ b
              or_none true = refl
              or_none false = refl
          absorbed (m ∷ ms) =
              let X : Bool = is_wanted c.levels c.cell (leaf_with (grid c) (population (grid c) log) p) in
              let Y : Bool = is_wanted c.levels c.cell (leaf_with (grid c) (population (grid c) log) m) in
              let tail : Bool = list_any (λ (l : Leaf). same_cell p l.prefix && is_wanted c.levels c.cell l) (map (leaf_with (grid c) (population (grid c) log)) ms) in
              let P : Bool → Type 0 = λ b. same_cell p m ≡ b → (X || ((b && Y) || tail)) ≡ X in
              (elim (same_cell p m) as P [
                | true ↦ λ e. ap (λ z. X || (is_wanted c.levels c.cell (leaf_with (grid c) (population (grid c) log) z) || tail)) (sym (same_cell_is p m e)) ∙ twice X tail (absorbed ms)
                | false ↦ λ e. absorbed ms
              ]) refl
            where
              twice : (x t : Bool) → (x || t) ≡ x → (x || (x || t)) ≡ x
              twice true t h = refl
              twice false t h = h

-- a leaf is wanted where it was, if it has as many objects
pub wanted_same : (c : Configuration) (old new : List LogEvent) (p : List ℕ) → is_leaf (grid c) old p ≡ true → is_leaf (grid c) new p ≡ true
    → length (filter (belongs (grid c) p) (live (updates_of new))) ≡ length (filter (belongs (grid c) p) (live (updates_of old))) → leaf_wanted c new (Some p) ≡ leaf_wanted c old (Some p)
wanted_same c old new p was is same =
    wanted_is c new p is
    ∙ ap (λ n. nat_lt (length p) c.levels && nat_lt c.cell n) (ap (λ os. length (filter (belongs (grid c) p) os)) (held_live (grid c) new) ∙ same ∙ ap (λ os. length (filter (belongs (grid c) p) os)) (sym (held_live (grid c) old)))
    ∙ sym (wanted_is c old p was)

-- a pin is of a part of the log that stays
pub pin_more : (log xs : List LogEvent) (o : Option Pin) → ((p : Pin) → o ≡ Some p → IsPosition log p.at) → pinned_log (log ++ xs) o ≡ pinned_log log o
pin_more log xs None h = refl
pin_more log xs (Some p) h = ap Some (at_more log xs p.at (h p refl))

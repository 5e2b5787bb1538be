-- The leaf that a splitter takes may be claimed, and is to be split.
use Rattle.std.proofs.Common.{◌≡◌, ◌≢◌, ℕ, suc, zero, ◌&&◌, ◌||◌, List, [], ◌∷◌, Bool, true, false, cond, not, ⊎_elim, refl, sym, ap, ◌∙◌, subst, Some, None}
use Rattle.std.specs.Prelude.{slice_index_or}
use Rattle.std.specs.List.{list_any}
use Rattle.std.proofs.lemmas.Bool.{and_parts, false≢true, or_left, or_right}
use Rattle.mi_base.specs.declared.records.LogEvent.{LogEvent}
use Rattle.mi_base.specs.declared.records.LogEvent.TheVariants.{Split}
use Rattle.mi_tree.specs.declared.outcomes.Leaf.{Leaf}
use Rattle.mi_tree.specs.Cells.{same_cell}
use Rattle.mi_tree.specs.Counting.{is_wanted}
use Rattle.mi_tree.specs.Legal.{MayFollow, cells_of}
use Rattle.mi_tree.proofs.LeafLemmas.{same_self}
use Rattle.mi_board.specs.Actors.{is_claim, idle}
use Rattle.mi_tree.specs.Births.{was_split}
use Rattle.mi_core.specs.Events.{IsFree, MayClaim}
use Rattle.mi_board.specs.Boards.{is_open, next_split}
use Rattle.mi_board.specs.Floors.{earliest_in}
use Rattle.mi_board.specs.declared.actors.ActorState.{ActorState}
use Rattle.mi_entries.specs.Actors.{Actor}
use Rattle.mi_core.specs.State.{State}
use Rattle.std.proofs.lemmas.Option.{none-some, same_Some}
use Rattle.mi_entries.proofs.MemberLemmas.{IsOne, find_in}

any_one : {X : Type 0} (t : X → Bool) (xs : List X) (x : X) → IsOne x xs → t x ≡ true → list_any t xs ≡ true
any_one t [] x h e = absurd h
any_one t (y ∷ xs) x h e = ⊎_elim (λ s. or_left (t y) (list_any t xs) (ap t s ∙ e)) (λ r. or_right (t y) (list_any t xs) (any_one t xs x r e)) h

not_false : (b : Bool) → not b ≡ true → b ≡ false
not_false true e = absurd (false≢true e)
not_false false e = refl

-- a leaf that nobody claims
pub unclaimed_by : (p : List ℕ) (actors : List ActorState) → list_any (λ x. is_claim p x.claim) actors ≡ false → (a : ℕ) → (slice_index_or actors a idle).claim ≢ Some p
unclaimed_by p [] h a e = none-some p e
unclaimed_by p (x ∷ actors) h zero e = false≢true (sym h ∙ or_left (is_claim p x.claim) (list_any (λ y. is_claim p y.claim) actors) (ap (is_claim p) e ∙ same_self p))
unclaimed_by p (x ∷ actors) h (suc a) e = unclaimed_by p actors (rest (is_claim p x.claim) (list_any (λ y. is_claim p y.claim) actors) h) a e
  where
    rest : (b d : Bool) → (b || d) ≡ false → d ≡ false
    rest true d h = absurd (false≢true (sym h))
    rest false d h = h

module _ (s : State) (leaf : Leaf) (next : next_split s.board ≡ Some leaf) where
  found : (is_open s.board leaf ≡ true) × IsOne leaf (cells_of s.board.settings s.board.log)
  found = find_in (is_open s.board) (cells_of s.board.settings s.board.log) leaf next

  parts : (is_wanted s.board.settings.levels s.board.settings.cell leaf ≡ true) × (list_any (λ x. is_claim leaf.prefix x.claim) s.board.actors ≡ false)
  parts =
      let w = and_parts (is_wanted s.board.settings.levels s.board.settings.cell leaf) _ found.0 in
      let o = and_parts (not (list_any (λ x. is_claim leaf.prefix x.claim) s.board.actors)) _ w.1 in
      (w.0, not_false _ o.0)

  pub next_may : (r : Actor) → IsFree r → MayClaim s r leaf.prefix
  next_may r free = record {
    free = free;
    leaf = any_one (λ l. same_cell leaf.prefix l.prefix) (cells_of s.board.settings s.board.log) leaf found.1 (same_self leaf.prefix);
    unclaimed = parts.1;
  }

  -- it is to be split
  pub next_wanted : MayFollow s.board.settings s.board.log (Split leaf.prefix)
  next_wanted = any_one (λ l. same_cell leaf.prefix l.prefix && is_wanted s.board.settings.levels s.board.settings.cell l) (cells_of s.board.settings s.board.log) leaf found.1
      (rw (same_self leaf.prefix, parts.0) refl)

-- the leaf that is swept next is the first of the list, and was split
pub next_swept : (log : List LogEvent) (ps : List (List ℕ)) (p : List ℕ) → earliest_in log ps ≡ Some p → (qs : List (List ℕ)) × (ps ≡ p ∷ qs) × (was_split p log ≡ true)
next_swept log [] p e = absurd (none-some p e)
next_swept log (q ∷ qs) p e =
    let P : Bool → Type 0 = λ b. was_split q log ≡ b → cond b (Some q) None ≡ Some p → (rs : List (List ℕ)) × (q ∷ qs ≡ p ∷ rs) × (was_split p log ≡ true) in
    (elim (was_split q log) as P [
      | true ↦ λ h e. let same : q ≡ p = same_Some q p e in (qs, ap (λ (x : List ℕ). x ∷ qs) same, subst (λ (x : List ℕ). was_split x log ≡ true) same h)
      | false ↦ λ h e. absurd (none-some p e)
    ]) refl e

-- A call is refused exactly where it can't be made.
use Rattle.std.proofs.Common.{ℕ, List, ◌∙◌, sym, arith, ◌≡◌, true, false, ap, Some, ◌<◌, ◌⊎◌, ◌||◌, suc, [], ◌∷◌, Bool, Option, None, inl, inr, length, refl, ℤ, ◌&&◌}
use Rattle.std.proofs.lemmas.Bool.{false≢true, cases_eq}
use Rattle.std.specs.Prelude.{IsTrue, slice_get, slice_index_or}
use Rattle.std.specs.List.{list_any}
use Rattle.mi_base.specs.History.{updates_of}
use Rattle.mi_tree.specs.declared.outcomes.Leaf.{Leaf}
use Rattle.mi_tree.specs.Cells.{same_cell}
use Rattle.mi_tree.specs.Legal.{cells_of}
use Rattle.mi_tree.proofs.LeafLemmas.{same_cell_is}
use Rattle.mi_board.specs.Actors.{is_claim, idle}
use Rattle.mi_board.specs.Boards.{next_split, next_sweep}
use Rattle.mi_board.specs.declared.actors.ActorState.{ActorState}
use Rattle.mi_core.specs.Sound.{Sound}
use Rattle.std.proofs.lemmas.Option.{none-some}
use Rattle.mi_core.proofs.NextLemmas.{unclaimed_by}
use Rattle.mi_base.specs.Permutations.{begins}
use Rattle.mi_tree.specs.Counting.{is_crowded}
use Rattle.mi_key.specs.declared.entries.Entry.{Entry}
use Rattle.mi_page.specs.Nodes.{Node}
use Rattle.mi_core.specs.Events.{Can, IsFree, MayClaim}
use Rattle.mi_core.specs.Events.Event.{allot, claim_leaf, delete, grow, insert, no_work, reserve, take_split, take_sweep}
use Rattle.mi_core.specs.Refusals.{Because}
use Rattle.mi_core.specs.Refusals.Refusal.{crowded, full, grown, held, pages_full}
use Rattle.mi_entries.specs.Actors.{Actor}
use Rattle.mi_core.specs.State.{State, board_actor}
use Rattle.mi_entries.specs.Records.{Rows}
use Rattle.mi_entries.specs.Entries.{grid}

module _ (s : State) (a : ℕ) (r : Actor) where
  pub full_reserve : Because s a r full → (n room : ℕ) (kept : Rows) → Can s a r (reserve n kept room) → ⊥
  full_reserve why n room kept can = let few = can.3 in omega (arith, why)

  pub full_insert : Because s a r full → (op id page : ℕ) (node : Node) (kept : Rows) (e : Entry) → Can s a r (insert op id page node kept e) → ⊥
  full_insert why op id page node kept e can = let few = can.may.few in omega (arith, why)

  pub full_delete : Because s a r full → (op id page : ℕ) (node : Node) (kept : Rows) (key : ℕ) → Can s a r (delete op id page node kept key) → ⊥
  full_delete why op id page node kept key can = let few = can.may.few in omega (arith, why)

  pub crowded_insert : (op id page : ℕ) (node : Node) (kept : Rows) (e : Entry) → Because s a r (crowded e.vector) → Can s a r (insert op id page node kept e) → ⊥
  crowded_insert op id page node kept e why can = false≢true (sym can.calm ∙ why)

  pub full_allot : Because s a r pages_full → Can s a r allot → ⊥
  full_allot why can = let few = can.1 in omega (arith, why)

  pub held_claim : (p : List ℕ) (by : ℕ) → Because s a r (held p by) → Can s a r (claim_leaf p) → ⊥
  held_claim p by why can = unclaimed_by p s.board.actors can.unclaimed by why.claim

  pub grown_grow : (level key child : ℕ) → Because s a r (grown level) → Can s a r (grow level key child) → ⊥
  grown_grow level key child why can = let next = can.2 in omega (arith, why)

claim_is : (p : List ℕ) (claim : Option (List ℕ)) → is_claim p claim ≡ true → claim ≡ Some p
claim_is p None e = absurd (false≢true e)
claim_is p (Some q) e = ap Some (sym (same_cell_is p q e))

-- a leaf that is claimed has an actor that claims it
claimed : (p : List ℕ) (actors : List ActorState) → list_any (λ x. is_claim p x.claim) actors ≡ true → (b : ℕ) × ((slice_index_or actors b idle).claim ≡ Some p)
claimed p [] h = absurd (false≢true h)
claimed p (x ∷ actors) h =
    let P : Bool → Type 0 = λ t. is_claim p x.claim ≡ t → (t || list_any (λ (y : ActorState). is_claim p y.claim) actors) ≡ true → (b : ℕ) × ((slice_index_or (x ∷ actors) b idle).claim ≡ Some p) in
    (elim (is_claim p x.claim) as P [ true ↦ λ e _. (0, claim_is p x.claim e) | false ↦ λ e g. let c = claimed p actors g in (suc c.0, c.1) ]) refl h

-- and each call that isn't refused can be made, as far as the board says
module _ (s : State) (k : Sound s) (a : ℕ) (r : Actor) (there : slice_get s.actors a ≡ Some r) where
  pub room_or_full : (length (updates_of s.board.log) < s.board.settings.updates) ⊎ Because s a r full
  room_or_full = elim (cases_eq (length (updates_of s.board.log)) s.board.settings.updates) [ inl e ↦ inr e | inr n ↦ inl (let f = k.legal.few in omega arith) ]

  pub calm_or_crowded : (vector : List ℤ) → (list_any (λ leaf. begins leaf.prefix ((grid s.board.settings).perm vector) && is_crowded s.board.settings.levels s.board.settings.cell leaf) (cells_of s.board.settings s.board.log) ≡ false) ⊎ Because s a r (crowded vector)
  calm_or_crowded vector =
      let t : Bool = list_any (λ leaf. begins leaf.prefix ((grid s.board.settings).perm vector) && is_crowded s.board.settings.levels s.board.settings.cell leaf) (cells_of s.board.settings s.board.log) in
      let P : Bool → Type 0 = λ b. t ≡ b → (t ≡ false) ⊎ Because s a r (crowded vector) in
      (elim t as P [ true ↦ λ e. inr e | false ↦ λ e. inl e ]) refl

  pub page_or_full : (s.board.allotted < s.board.settings.pages) ⊎ Because s a r pages_full
  page_or_full = elim (cases_eq s.board.allotted s.board.settings.pages) [ inl e ↦ inr e | inr n ↦ inl (let m = k.pages.most in omega arith) ]

  pub claim_or_held : (p : List ℕ) → IsFree r → IsTrue (list_any (λ leaf. same_cell p leaf.prefix) (cells_of s.board.settings s.board.log)) → MayClaim s r p ⊎ ((b : ℕ) × Because s a r (held p b))
  claim_or_held p free leaf =
      let P : Bool → Type 0 = λ t. list_any (λ (x : ActorState). is_claim p x.claim) s.board.actors ≡ t → MayClaim s r p ⊎ ((b : ℕ) × Because s a r (held p b)) in
      (elim (list_any (λ (x : ActorState). is_claim p x.claim) s.board.actors) as P [
        | true ↦ λ e. let c = claimed p s.board.actors e in inr (
          c.0,
          record {
            claim = c.1;
            other = λ same. none-some p (sym (ap (λ (b : ℕ). (board_actor s.board b).claim) same ∙ (k.each a r there).holds.claim ∙ free.claim) ∙ c.1);
          },
        )
        | false ↦ λ e. inl (record { free = free; leaf = leaf; unclaimed = e })
      ]) refl

  -- a splitter that is free has one answer
  pub one_work : IsFree r → ((p : List ℕ) × Can s a r (take_sweep p)) ⊎ (((p : List ℕ) × Can s a r (take_split p)) ⊎ Can s a r no_work)
  one_work free =
      let Q : Option (List ℕ) → Type 0 = λ o. next_sweep s.board ≡ o → ((p : List ℕ) × Can s a r (take_sweep p)) ⊎ (((p : List ℕ) × Can s a r (take_split p)) ⊎ Can s a r no_work) in
      let R : Option Leaf → Type 0 = λ o. next_sweep s.board ≡ None → next_split s.board ≡ o → ((p : List ℕ) × Can s a r (take_sweep p)) ⊎ (((p : List ℕ) × Can s a r (take_split p)) ⊎ Can s a r no_work) in
      (elim (next_sweep s.board) as Q [
        | Some p ↦ λ e. inl (p, (free, e))
        | None ↦ λ e. (elim (next_split s.board) as R [ Some l ↦ λ n f. inr (inl (l.prefix, (free, n, l, f, refl))) | None ↦ λ n f. inr (inr (free, n, f)) ]) e refl
      ]) refl

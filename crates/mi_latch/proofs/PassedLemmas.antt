-- Whether a leaf that an actor claims is passed over, no other actor changes.
use Rattle.std.proofs.Common.{◌≡◌, ◌≢◌, ℕ, List, [], ◌∷◌, Bool, true, false, cond, ◌||◌, ◌&&◌, not, refl, sym, ap, ◌∙◌, subst, Some}
use Rattle.std.specs.Prelude.{slice_get}
use Rattle.std.specs.List.{filter, list_any}
use Rattle.std.proofs.Math.Bool.{and-false}
use Rattle.mi_tree.specs.declared.outcomes.Leaf.{Leaf}
use Rattle.mi_tree.specs.Catalog.{prefixes_of}
use Rattle.mi_tree.specs.Cells.{same_cell}
use Rattle.mi_tree.specs.Counting.{has_leaf}
use Rattle.mi_tree.specs.Legal.{cells_of}
use Rattle.mi_tree.proofs.CountLemmas.{cat_has}
use Rattle.mi_tree.proofs.LeafLemmas.{same_cell_is}
use Rattle.mi_board.specs.Boards.{is_passed, passing, prefix_or}
use Rattle.mi_entries.specs.Actors.{Actor}
use Rattle.mi_entries.specs.Entries.{grid}
use Rattle.mi_entries.proofs.FilterLemmas.{not_true}
use Rattle.mi_core.specs.Events.{Can, Event, after, leaf_or}
use Rattle.mi_core.specs.Events.Event.{see, look, meet, refuse, refuse_at, visit, start, trim, miss_shard, claim_shard, release_shard, reserve, pin, unpin, claim_leaf, release_leaf, insert, delete, allot, lack, grow, split_page, post, gather, copy_in, uncopy, publish, give_up, take_sweep, take_split, no_work, sweep, fork, absorb, depart}
use Rattle.mi_core.specs.Sound.{Sound}
use Rattle.mi_core.specs.State.{State}

-- a leaf is on a list without another one where it was on the list
any_without : (p other : List ℕ) (ps : List (List ℕ)) → other ≢ p → list_any (same_cell p) (filter (λ q. not (same_cell other q)) ps) ≡ list_any (same_cell p) ps
any_without p other [] apart = refl
any_without p other (q ∷ ps) apart =
    let rest = any_without p other ps apart in
    let P : Bool → Type 0 = λ b. same_cell other q ≡ b → list_any (same_cell p) (cond (not b) (q ∷ filter (λ z. not (same_cell other z)) ps) (filter (λ z. not (same_cell other z)) ps)) ≡ (same_cell p q || list_any (same_cell p) ps) in
    (elim (same_cell other q) as P [
      | true ↦ λ e. rest ∙ ap (λ b. b || list_any (same_cell p) ps) (sym (not_true (same_cell p q) (λ h. apart (same_cell_is other q e ∙ sym (same_cell_is p q h)))))
      | false ↦ λ e. ap (λ b. same_cell p q || b) rest
    ]) refl

-- a leaf is on a list of those that pass a test where it was on the list and passes
any_where : (p : List ℕ) (test : List ℕ → Bool) (ps : List (List ℕ)) → list_any (same_cell p) (filter test ps) ≡ (list_any (same_cell p) ps && test p)
any_where p test [] = refl
any_where p test (q ∷ ps) =
    let rest = any_where p test ps in
    let all : Bool = list_any (same_cell p) ps in
    let kept : List (List ℕ) = filter test ps in
    let P : Bool → Bool → Type 0 = λ b t. list_any (same_cell p) (cond t (q ∷ kept) kept) ≡ ((b || all) && test p) in
    elim (same_cell p q) as (λ b. same_cell p q ≡ b → P b (test q)) [
      | true ↦ λ e. subst (λ z. P true (test z)) (same_cell_is p q e) (here (test p) refl e rest)
      | false ↦ λ e. there (test q) e ∙ rest
    ] refl
  where
    here : (b : Bool) → test p ≡ b → same_cell p q ≡ true → list_any (same_cell p) (filter test ps) ≡ (list_any (same_cell p) ps && test p) → list_any (same_cell p) (cond (test p) (q ∷ filter test ps) (filter test ps)) ≡ test p
    here true is e rest = rw (is, e) refl
    here false is e rest = ap (λ t. list_any (same_cell p) (cond t (q ∷ filter test ps) (filter test ps))) is ∙ rest ∙ ap (λ t. list_any (same_cell p) ps && t) is ∙ and-false (list_any (same_cell p) ps) ∙ sym is

    there : (b : Bool) → same_cell p q ≡ false → list_any (same_cell p) (cond b (q ∷ filter test ps) (filter test ps)) ≡ list_any (same_cell p) (filter test ps)
    there true e = ap (λ b. b || list_any (same_cell p) (filter test ps)) e
    there false e = refl

-- a leaf of the cells is one of their prefixes
has_prefix : (p : List ℕ) (ls : List Leaf) → list_any (same_cell p) (prefixes_of ls) ≡ has_leaf p ls
has_prefix p [] = refl
has_prefix p (l ∷ ls) = ap (λ b. same_cell p l.prefix || b) (has_prefix p ls)

module _ (s : State) (k : Sound s) (a : ℕ) (r : Actor) (there : slice_get s.actors a ≡ Some r) (b : ℕ) (t : Actor) (at : slice_get s.actors b ≡ Some t) (apart : b ≢ a) (p : List ℕ) (claim : t.claim ≡ Some p) where
  -- a leaf that one claims is no leaf that another does
  two : (q : List ℕ) → r.claim ≡ Some q → q ≢ p
  two q its same = apart (k.claims b a t r p at there claim (its ∙ ap Some same))

  passed_over : (q : List ℕ) → r.claim ≡ Some q → is_passed p (record s.board { passed_over = passing q s.board }) ≡ is_passed p s.board
  passed_over q its =
      let one : list_any (same_cell p) (prefixes_of (cells_of s.board.settings s.board.log)) ≡ true =
      has_prefix p (cells_of s.board.settings s.board.log) ∙ cat_has (grid s.board.settings) s.board.log p ∙ (k.each b t at).holds.leaf p claim in
      any_where p (λ z. same_cell q z || is_passed z s.board) (prefixes_of (cells_of s.board.settings s.board.log)) ∙ ap (λ z. z && (same_cell q p || is_passed p s.board)) one
      ∙ ap (λ z. z || is_passed p s.board) (not_true (same_cell q p) (λ h. two q its (same_cell_is q p h)))

  pub passed_same : (e : Event) → Can s a r e → is_passed p (after s a r e).board ≡ is_passed p s.board
  passed_same publish can =
      let split = (can.1).split in
      let its = (k.each a r there).holds.split can.0 split in
      any_without p (leaf_or r.claim) s.board.passed_over (λ same. two can.0.leaf its (ap leaf_or (sym its) ∙ same))
  passed_same (give_up true) can =
      let its = ap prefix_or ((k.each a r there).holds.claim ∙ can.1) in
      ap (λ q. is_passed p (record s.board { passed_over = passing q s.board })) its ∙ passed_over can.0 can.1
  passed_same (give_up false) can = refl
  passed_same see can = refl
  passed_same look can = refl
  passed_same (meet page) can = refl
  passed_same (refuse why) can = refl
  passed_same (refuse_at page why) can = refl
  passed_same (visit page) can = refl
  passed_same (start page) can = refl
  passed_same (trim page node) can = refl
  passed_same (miss_shard n) can = refl
  passed_same (claim_shard n kept) can = refl
  passed_same (release_shard n kept) can = refl
  passed_same (reserve n kept room) can = refl
  passed_same pin can = refl
  passed_same unpin can = refl
  passed_same (claim_leaf q) can = refl
  passed_same release_leaf can = refl
  passed_same (insert op id page node kept e) can = refl
  passed_same (delete op id page node kept key) can = refl
  passed_same allot can = refl
  passed_same lack can = refl
  passed_same (grow level key child) can = refl
  passed_same (split_page page node) can = refl
  passed_same (post page node key child) can = refl
  passed_same (gather page node) can = refl
  passed_same (copy_in page node e) can = refl
  passed_same (uncopy page node e told) can = refl
  passed_same (take_sweep q) can = refl
  passed_same (take_split q) can = refl
  passed_same no_work can = refl
  passed_same (sweep page node) can = refl
  passed_same fork can = refl
  passed_same (absorb c u) can = refl
  passed_same depart can = refl

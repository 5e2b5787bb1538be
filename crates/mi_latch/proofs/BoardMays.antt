-- Which events of the board can be in the state that its take found: what the own record, the board and the values in hand tell.
use Rattle.std.proofs.Common.{◌≡◌, ◌≤◌, ℕ, ℤ, ◌+◌, ◌<◌, List, Bool, length, true, Some, None, refl, sym, ap, ◌∙◌, subst}
use Rattle.mi_base.specs.Configuration.{Configuration}
use Rattle.mi_base.specs.History.{updates_of}
use Rattle.mi_page.specs.Nodes.{Node, item_count}
use Rattle.mi_tree.specs.declared.answers.LeafClaim.TheVariants.{Taken}
use Rattle.mi_tree.specs.declared.answers.Work.TheVariants as work
use Rattle.mi_tree.specs.declared.outcomes.Leaf.{Leaf}
use Rattle.mi_tree.specs.Legal.{cells_of}
use Rattle.mi_board.specs.Boards.{BoardState, ClaimsLeaf, GivesWork, HasRoom, crowded_at, next_split, next_sweep}
use Rattle.mi_board.proofs.FoundLemmas.{kept_there}
use Rattle.mi_core.specs.Effects.{trim_leaf}
use Rattle.mi_core.specs.Events.{Can, IsFree}
use Rattle.mi_core.specs.Events.Event.{allot, claim_leaf, give_up, grow, no_work, publish, reserve, take_split, take_sweep}
use Rattle.mi_core.specs.Refusals.{Because, IsHeld}
use Rattle.mi_core.specs.Refusals.Refusal.{crowded, full, grown, held, page_full, pages_full}
use Rattle.mi_core.specs.State.{State, node_at}
use Rattle.mi_entries.specs.Actors.{Actor, SplitWork}
use Rattle.mi_entries.specs.Entries.{grid}
use Rattle.mi_entries.specs.Marks.{cell_end}
use Rattle.mi_entries.specs.Records.{Rows, shard_at}
use Rattle.mi_latch.specs.declared.slots.Slot.{Slot}
use Rattle.mi_latch.specs.declared.slots.Slot.TheVariants.{OfPage, OfShard}
use Rattle.mi_latch.specs.Found.{FoundBoard}
use Rattle.mi_latch.specs.Shows.{Has}
use Rattle.mi_latch.specs.Views.{IsOne, Mine}
use Rattle.mi_latch.specs.Wanting.{leaf_wanted}
use Rattle.mi_latch.proofs.Ones.{of_page, of_rows, read_page, read_shard}

module _ (settings : Configuration) (a : ℕ) (m : Mine) (out : List (ℕ × Slot)) (was : BoardState) (found : FoundBoard settings a m out was) where
  abbrev s : State
  s = found.core

  abbrev r : Actor
  r = m.part

  -- what the board in hand has, the state's has
  on : (P : BoardState → Type 0) → P was → P s.board
  on P h = subst P (sym found.board) h

  -- a page and a shard that are out
  pub page_found : (page : ℕ) (n : Node) → Has out (page + 17) (OfPage n) → node_at s.pages page ≡ Some n
  page_found page n h = of_page (node_at s.pages page) n (sym (read_page s page found.held.kept.sound.sixteen) ∙ found.values (page + 17) (OfPage n) h)

  pub rows_found : (k : ℕ) (x : Rows) → k < 16 → Has out (k + 1) (OfShard x) → (shard_at s.shards k).rows ≡ x
  rows_found k x near h = of_rows (shard_at s.shards k) x (sym (read_shard s k found.held.kept.sound.sixteen near) ∙ found.values (k + 1) (OfShard x) h)

  -- the causes of refusals
  pub full_found : length (updates_of was.log) ≡ was.settings.updates → Because s a r full
  full_found = on (λ b. length (updates_of b.log) ≡ b.settings.updates)

  pub crowded_found : (vector : List ℤ) → crowded_at was ((grid was.settings).perm vector) ≡ true → Because s a r (crowded vector)
  crowded_found vector = on (λ b. crowded_at b ((grid b.settings).perm vector) ≡ true)

  pub pages_found : was.allotted ≡ was.settings.pages → Because s a r pages_full
  pages_found = on (λ b. b.allotted ≡ b.settings.pages)

  pub held_found : (leaf : List ℕ) (by : ℕ) → IsHeld was a leaf by → Because s a r (held leaf by)
  held_found leaf by = on (λ b. IsHeld b a leaf by)

  pub grown_found : (level : ℕ) → level ≤ was.height → Because s a r (grown level)
  grown_found level = on (λ b. level ≤ b.height)

  pub page_full_found : (page : ℕ) (n : Node) → Has out (page + 17) (OfPage n) → item_count (trim_leaf r.floor.updates n) ≡ 32 → Because s a r (page_full page)
  page_full_found page n h items = record { node = n; there = page_found page n h; items = items }

  -- events, from what the board's call answered
  pub may_claim : IsFree r → (perm : List ℕ) (leaf : Leaf) (new : BoardState) → ClaimsLeaf was a perm (Taken leaf) new → Can s a r (claim_leaf leaf.prefix)
  may_claim free perm leaf new told =
      let here = on (λ b. ClaimsLeaf b a perm (Taken leaf) new) told in
      record { free = free; leaf = kept_there perm (cells_of s.board.settings s.board.log) leaf here.0; unclaimed = here.1.0 }

  pub may_allot : r.fresh ≡ None → was.allotted < was.settings.pages → Can s a r allot
  may_allot none few = (none, on (λ b. b.allotted < b.settings.pages) few)

  pub may_reserve : (k room : ℕ) (rows : Rows) → r.shard ≡ Some k → Has out (k + 1) (OfShard rows) → length rows.records < room → HasRoom was → Can s a r (reserve k rows room)
  may_reserve k room rows has h space few =
      let near = ((found.held.kept.sound.each a r found.fits.part).holds.shard k has).0 in
      (has, rows_found k rows near h, space, on HasRoom few)

  pub may_grow : (p level key child : ℕ) → r.fresh ≡ Some p → was.height + 1 ≡ level → 0 < key → IsOne (record { page = child; level = was.height; low = key }) m.named → Can s a r (grow level key child)
  may_grow p level key child fresh next positive named =
      let x = found.fits.knows.named (record { page = child; level = was.height; low = key }) named in
      (p, fresh, on (λ b. b.height + 1 ≡ level) next, positive, x.node, x.there, x.level ∙ ap (λ (b : BoardState). b.height) (sym found.board), x.low)

  -- the leaf that the seat claims is known to be split
  pub may_publish : (w : SplitWork) → r.split ≡ Some w → cell_end (grid was.settings) w.leaf ≤ w.mark → w.copied ≡ length w.gathered → m.wanted ≡ true → Can s a r publish
  may_publish w split whole all wanted =
      let claim = (found.held.kept.sound.each a r found.fits.part).holds.split w split in (
        w,
        record { split = split; whole = on (λ b. cell_end (grid b.settings) w.leaf ≤ w.mark) whole },
        all,
        ap (leaf_wanted s.board.settings s.board.log) (sym claim) ∙ sym found.fits.knows.wanted ∙ wanted,
      )

  pub may_give_up : (pages : Bool) (p : List ℕ) → r.claim ≡ Some p → ((w : SplitWork) → r.split ≡ Some w → w.copied ≡ 0) → (pages ≡ true → m.told ≡ true) → Can s a r (give_up pages)
  may_give_up pages p claim none told = (p, claim, none, λ h. found.fits.knows.told (told h))

  pub may_sweep : IsFree r → (p : List ℕ) (new : BoardState) → GivesWork was a (work.Sweep p) new → Can s a r (take_sweep p)
  may_sweep free p new told = (free, ap next_sweep found.board ∙ told.0)

  pub may_split : IsFree r → (leaf : Leaf) (new : BoardState) → GivesWork was a (work.Split leaf) new → Can s a r (take_split leaf.prefix)
  may_split free leaf new told = (free, ap next_sweep found.board ∙ told.0, leaf, ap next_split found.board ∙ told.1.0, refl)

  pub may_idle : IsFree r → (new : BoardState) → GivesWork was a work.Idle new → Can s a r no_work
  may_idle free new told = (free, ap next_sweep found.board ∙ told.0, ap next_split found.board ∙ told.1.0)

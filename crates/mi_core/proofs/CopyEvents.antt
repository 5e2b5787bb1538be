-- A copy keeps what is kept.
use Rattle.std.proofs.Common.{◌≡◌, ◌≢◌, ℕ, suc, zero, ◌+◌, ◌<◌, ◌≤◌, List, [], ◌∷◌, ◌++◌, length, take, set, false, not, ◌&&◌, refl, sym, ap, ◌∙◌, subst, arith, Option, Some, None, inl, inr, length-set, get_or-set_other}
use Rattle.std.specs.Prelude.{slice_get}
use Rattle.std.specs.List.{AllByRecursion, filter}
use Rattle.std.proofs.lemmas.Option.{slice_get_within, none-some, same_Some}
use Rattle.mi_base.specs.declared.records.LogEvent.{LogEvent}
use Rattle.mi_base.specs.Configuration.{Configuration}
use Rattle.mi_base.specs.History.{entered, events_at, updates_of}
use Rattle.mi_key.specs.declared.entries.Entry.{Entry}
use Rattle.mi_page.specs.Entries.{outlives, without_dead}
use Rattle.mi_page.specs.Nodes.{Node, in_range}
use Rattle.mi_tree.specs.Cells.{Grid, AllMaySplit, same_cell}
use Rattle.mi_tree.proofs.LegalLemmas.{all_may}
use Rattle.mi_core.specs.Actors.{Suits}
use Rattle.mi_board.specs.Boards.{floor_of}
use Rattle.mi_core.specs.Effects.{put_entry}
use Rattle.mi_core.specs.Events.{IsLeafPage, IsWhole, after, copied_of, copied_to}
use Rattle.mi_core.specs.Events.Event.{copy_in}
use Rattle.mi_forest.specs.Forests.{all_entries}
use Rattle.mi_core.specs.Sound.{Sound}
use Rattle.mi_core.specs.Pages.{ArePages, forest_of, has_page}
use Rattle.mi_entries.specs.Splits.{AreEntries, copy_in_child}
use Rattle.mi_core.specs.State.{count_if, State, node_at, put_actor, put_page}
use Rattle.mi_entries.specs.Actors.{Actor, SplitWork}
use Rattle.mi_entries.specs.Entries.{grid}
use Rattle.mi_core.proofs.ActorLemmas.{«is», at_set, claims_by, each_set, held_by_all, holders_by, retired_by, set_else, set_there, sweeps_by}
use Rattle.mi_entries.proofs.ContentLemmas.{Copies, HasSplit, entries_copy, entries_trim}
use Rattle.mi_core.proofs.KeptLemmas.{floor_position, some_none}
use Rattle.mi_entries.proofs.KeyedLemmas.{is_keyed}
use Rattle.mi_core.proofs.PageLemmas.{flat_put, forest_put, linked_set, root_set, there_set}
use Rattle.mi_entries.proofs.ShowLemmas.{count_between}
use Rattle.mi_entries.proofs.FilterLemmas.{not_true}
use Rattle.mi_tree.proofs.ListLemmas.{all_weaker, all_get}
use Rattle.mi_tree.proofs.LeafLemmas.{same_cell_is}
use Rattle.mi_entries.proofs.DepthLemmas.{IsKeyed}
use Rattle.mi_page.specs.Keys.{IsInside}
use Rattle.mi_entries.proofs.ChildLemmas.{all_same, child_entry}

-- the copy of a gathered entry is told by the leaf of the split alone
pub copy_is : (s : State) → Sound s → (a : ℕ) (r : Actor) → slice_get s.actors a ≡ Some r → (w : SplitWork) → r.split ≡ Some w → (i : ℕ) (old : Entry) → slice_get w.gathered i ≡ Some old
    → copy_in_child (grid s.board.settings) w.leaf old ≡ child_entry (grid s.board.settings) s.board.log old
copy_is s k a r there w split i old next =
    all_get _ w.gathered i old
    (all_same (grid s.board.settings) (is_keyed s.board.settings k.limits) s.board.log (all_may s.board.settings s.board.log k.legal) (all_entries (forest_of s.board s.pages s.actors k.chain)) w (k.entries.works a r w there split))
    next

module _ (s : State) (k : Sound s) (a : ℕ) (r : Actor) (there : slice_get s.actors a ≡ Some r) (page : ℕ) (node : Node) (on : IsLeafPage s page node)
    (w : SplitWork) (may : IsWhole s r w) (old : Entry) (next : slice_get w.gathered w.copied ≡ Some old)
    (inside : IsInside node.low node.high (child_entry (grid s.board.settings) s.board.log old).key) (space : length (without_dead r.floor.updates node.entries) < 32)
    (absent : AllByRecursion (λ (z : Entry). z.key ≢ (child_entry (grid s.board.settings) s.board.log old).key) (all_entries (forest_of s.board s.pages s.actors k.chain))) where
  abbrev c : Configuration
  c = s.board.settings

  abbrev g : Grid
  g = grid s.board.settings

  abbrev log : List LogEvent
  log = s.board.log

  abbrev e : Entry
  e = child_entry g log old

  abbrev w' : SplitWork
  w' = record w { copied = w.copied + 1 }

  abbrev q : Actor
  q = record r { split = Some w'; page = page }

  abbrev actors' : List Actor
  actors' = set s.actors a q

  abbrev new_page : Node
  new_page = put_entry r.floor.updates e node

  abbrev pages' : List (Option Node)
  pages' = set s.pages page (Some new_page)

  abbrev F : List Entry
  F = all_entries (forest_of s.board s.pages s.actors k.chain)

  mine : Suits s.board s.shards s.pages a r
  mine = k.each a r there

  ok : IsKeyed g
  ok = is_keyed c k.limits

  may_split : AllMaySplit g log
  may_split = all_may c log k.legal

  floor_low : events_at (floor_of s.board) ≤ length log
  floor_low = (floor_position s k).within

  claim : r.claim ≡ Some w.leaf
  claim = mine.holds.split w may.split

  apart : (b : ℕ) (y : SplitWork) → b ≢ a → HasSplit s.actors b y → same_cell w.leaf y.leaf ≡ false
  apart b y n h = not_true (same_cell w.leaf y.leaf) (λ t. n (k.claims b a h.actor r w.leaf h.there there ((k.each b h.actor h.there).holds.split y h.split ∙ ap Some (sym (same_cell_is w.leaf y.leaf t))) claim))

  copies : Copies s.actors actors' a w w'
  copies = record {
    now = record { actor = q; there = set_there s.actors a q r there; split = refl };
    split = λ b x n h. record { actor = h.actor; there = set_else s.actors a b q n ∙ h.there; split = h.split };
    sweep = λ b x h. let n = «is» s.actors a r q there (λ t. t.sweep) refl b h.actor h.there in record { actor = n.0; there = n.1; sweep = n.2 ∙ h.sweep };
    back = λ b x h. elim (at_set s.actors a b q h.actor h.there) [
      | inl m ↦ inl (m.0, sym (same_Some w' x (ap (λ (t : Actor). t.split) m.1 ∙ h.split)))
      | inr m ↦ inr (m.0, record { actor = h.actor; there = m.1; split = h.split })
    ];
  }

  held : (p : ℕ) → count_if (has_page p) actors' ≡ count_if (has_page p) s.actors
  held = held_by_all s.actors a r q there refl

  entries' : AreEntries c log (events_at (floor_of s.board)) actors' s.board.retired (all_entries (forest_of s.board pages' actors' k.chain))
  entries' =
      let low : r.floor.updates ≤ length (updates_of (take (events_at (floor_of s.board)) log)) =
      (let u = mine.saw.floor.updates in let l = count_between (events_at r.floor) (events_at (floor_of s.board)) log mine.saw.low in omega arith) in
      let T : List Entry = filter (λ z. not (in_range node z.key && not (outlives z.death r.floor.updates))) F in
      let without_dead = entries_trim c ok log may_split (events_at (floor_of s.board)) s.actors s.board.retired F k.entries floor_low r.floor.updates low (in_range node) in
      let lt = slice_get_within w.gathered w.copied old next in
      let copied = entries_copy c ok log may_split (events_at (floor_of s.board)) s.actors actors' s.board.retired T without_dead a w (record { actor = r; there = there; split = may.split }) apart old
      (let n : w.copied + 1 ≡ suc w.copied = omega arith in ap (λ n. take n w.gathered) n ∙ one_more w.gathered w.copied old next) lt copies in
      subst (AreEntries c log (events_at (floor_of s.board)) actors' s.board.retired)
      (sym (flat_put s.board s.board s.pages s.actors actors' k.chain k.pages refl refl held page node on.there on.level r.floor.updates e inside space absent)) copied
    where
      one_more : {X : Type 0} (xs : List X) (n : ℕ) (x : X) → slice_get xs n ≡ Some x → take (suc n) xs ≡ take n xs ++ x ∷ []
      one_more [] n x h = absurd (none-some x h)
      one_more (y ∷ xs) zero x h = ap (λ z. z ∷ []) (same_Some y x h)
      one_more (y ∷ xs) (suc n) x h = ap (λ zs. y ∷ zs) (one_more xs n x h)

  fresh_more : (p : ℕ) → node_at s.pages p ≡ None → node_at pages' p ≡ None
  fresh_more p h =
      let apart : p ≢ page = λ same. some_none node (sym on.there ∙ ap (node_at s.pages) (sym same) ∙ h) in
      get_or-set_other s.pages page p (Some new_page) None apart ∙ h

  pages_are : ArePages s.board pages' actors' k.chain
  pages_are =
      let p = k.pages in
      record {
        forest = forest_put s.board s.board s.pages s.actors actors' k.chain p refl refl held page node on.there on.level r.floor.updates e inside space absent;
        linked = linked_set s.board s.board s.pages s.actors actors' k.chain p refl refl held page node new_page on.there refl;
        there = there_set s.board s.board s.pages s.actors actors' k.chain p refl refl held page node new_page on.there refl;
        height = root_set s.board s.board s.pages s.actors actors' k.chain p refl refl held page node new_page on.there refl;
        length_is = length-set s.pages page (Some new_page) ∙ p.length_is;
        most = p.most;
        passed_over = p.passed_over;
      }

  own' : Suits s.board s.shards pages' a q
  own' =
      let h = mine.holds in
      record {
        saw = (let v = mine.saw in record { seen = v.seen; floor = v.floor; low = v.low; pin = v.pin });
        own = mine.own;
        holds = record { claim = h.claim; reserved = h.reserved; pin = h.pin; shard = h.shard; leaf = h.leaf; split = λ y z. claim ∙ ap (λ (y : SplitWork). Some y.leaf) (same_Some w' y z); room = h.room };
        sweep = mine.sweep;
        fresh = λ p z. let m = mine.fresh p z in (m.0, fresh_more p m.1);
      }

  others' : (b : ℕ) (t : Actor) → b ≢ a → slice_get s.actors b ≡ Some t → Suits s.board s.shards pages' b t
  others' b t n z =
      let o = k.each b t z in
      record { saw = o.saw; own = o.own; holds = o.holds; sweep = o.sweep; fresh = λ p f. let m = o.fresh p f in (m.0, fresh_more p m.1) }

  pub copy_keeps : Sound (after s a r (copy_in page node e))
  copy_keeps = subst (λ (o : Option SplitWork). Sound (put_actor a (record r { split = copied_to (copied_of o + 1) o; page = page }) (put_page page new_page s))) (sym may.split) (record {
    limits = k.limits;
    metric = k.metric;
    chain = k.chain;
    pages = pages_are;
    entries = entries';
    each = each_set s.actors a r q there (λ b t. Suits s.board s.shards pages' b t) own' others';
    retired = retired_by s.actors a r q there refl log s.board.retired k.retired;
    order = k.order;
    sixteen = k.sixteen;
    holders = λ n b h. holders_by s.actors a r q there refl n b (k.holders n b h);
    claims = claims_by s.actors a r q there refl k.claims;
    sweeps = sweeps_by s.actors a r q there refl k.sweeps;
    records = k.records;
    counted = k.counted ∙ sym (length-set s.actors a q);
    made = all_weaker _ _ (λ m l. omega (arith, l, length-set s.actors a q)) (entered log) k.made;
    legal = k.legal;
  })

-- A copy that is taken back keeps what is kept.
use Rattle.std.proofs.Common.{◌≡◌, ◌≢◌, ℕ, suc, zero, ◌-◌, ◌<◌, ◌==◌, List, [], ◌∷◌, ◌++◌, map, take, set, nat_lt, Bool, true, false, cond, not, ◌&&◌, refl, sym, ap, ◌∙◌, subst, arith, Option, Some, None, inl, inr, append-nil, length-set, get_or-set_other, eq-eqb}
use Rattle.std.specs.Prelude.{slice_get}
use Rattle.std.specs.List.{filter}
use Rattle.std.proofs.lemmas.Bool.{and_parts, false≢true}
use Rattle.std.proofs.lemmas.List.Elements.{filter-append}
use Rattle.mi_base.specs.declared.records.LogEvent.{LogEvent}
use Rattle.mi_base.specs.Configuration.{Configuration}
use Rattle.mi_base.specs.History.{entered, events_at}
use Rattle.mi_base.proofs.SortingLemmas.{same_filter, same_trans, filter_keeps}
use Rattle.mi_key.specs.declared.entries.Entry.{Entry}
use Rattle.mi_page.specs.Entries.{without_key}
use Rattle.mi_page.specs.Keys.{IsInside}
use Rattle.mi_page.specs.Nodes.{Node}
use Rattle.mi_tree.specs.Cells.{Grid, AllMaySplit, MaySplit, same_cell}
use Rattle.mi_tree.proofs.LeafLemmas.{leaf_apart, same_cell_is}
use Rattle.mi_tree.proofs.LegalLemmas.{all_may}
use Rattle.mi_core.specs.Actors.{Suits}
use Rattle.mi_board.specs.Boards.{floor_of}
use Rattle.mi_core.specs.Effects.{drop_entry}
use Rattle.mi_entries.specs.Entries.{HasPlace, counts, depth_of, is_ahead, is_under, under, grid}
use Rattle.mi_core.specs.Events.{IsLeafPage, after, copied_of, copied_to, with_split_at}
use Rattle.mi_core.specs.Events.Event.{uncopy}
use Rattle.mi_forest.specs.Forests.{Forest, IsForest, all_entries}
use Rattle.mi_core.specs.Sound.{Sound}
use Rattle.mi_core.proofs.KeptLemmas.{keys_rise, some_none}
use Rattle.mi_core.specs.Pages.{forest_of, has_page, node_or_fresh}
use Rattle.mi_forest.specs.Changes.{SetsPage, with_entries}
use Rattle.mi_entries.specs.Splits.{AreEntries, IsWork}
use Rattle.mi_core.specs.State.{count_if, State, node_at, put_actor, put_page}
use Rattle.mi_entries.specs.Actors.{Actor, SplitWork}
use Rattle.mi_entries.proofs.AbsentLemmas.{is_copy, made_before}
use Rattle.mi_core.proofs.ActorLemmas.{claims_by, each_set, held_by_all, holders_by, retired_by, sweeps_by}
use Rattle.std.proofs.lemmas.Option.{none-some, same_Some}
use Rattle.mi_entries.proofs.ContentLemmas.{HasSplit, ahead_down, place_stays, work_kept}
use Rattle.mi_entries.proofs.DepthLemmas.{IsKeyed, depth_deep, depth_take, not_down}
use Rattle.mi_forest.proofs.EventLemmas.{remove_event}
use Rattle.mi_entries.proofs.KeyedLemmas.{is_keyed}
use Rattle.mi_core.proofs.PageLemmas.{linked_set, page_sets, root_set, there_set, within}
use Rattle.mi_entries.proofs.ShowLemmas.{drop_shows}
use Rattle.mi_entries.proofs.FilterLemmas.{and_no, filter_dropped, no_and, not_true, same_is}
use Rattle.std.proofs.lemmas.List.{map-append}
use Rattle.mi_tree.proofs.ListLemmas.{all_any, all_take, all_weaker, filter_all, filter_same, filter_twice}
use Rattle.mi_core.proofs.WorkEvents.{copies, unswept, worked}
use Rattle.mi_entries.proofs.ChildLemmas.{child_entry, copies_same}

turned : (a b : Bool) → (a && b) ≡ (b && a)
turned true true = refl
turned true false = refl
turned false true = refl
turned false false = refl

one_more : {X : Type 0} (xs : List X) (n : ℕ) (x : X) → slice_get xs n ≡ Some x → take (suc n) xs ≡ take n xs ++ x ∷ []
one_more [] n x h = absurd (none-some x h)
one_more (y ∷ xs) zero x h = ap (λ z. z ∷ []) (same_Some y x h)
one_more (y ∷ xs) (suc n) x h = ap (λ zs. y ∷ zs) (one_more xs n x h)

module _ (s : State) (k : Sound s) (a : ℕ) (r : Actor) (there : slice_get s.actors a ≡ Some r) (page : ℕ) (node : Node) (on : IsLeafPage s page node)
    (w : SplitWork) (split : r.split ≡ Some w) (some : 0 < w.copied) (old : Entry) (last : slice_get w.gathered (w.copied - 1) ≡ Some old)
    (inside : IsInside node.low node.high (child_entry (grid s.board.settings) s.board.log old).key) (undone early : Bool) where
  abbrev c : Configuration
  c = s.board.settings

  abbrev g : Grid
  g = grid s.board.settings

  abbrev log : List LogEvent
  log = s.board.log

  abbrev e : Entry
  e = child_entry g log old

  abbrev n : ℕ
  n = w.copied - 1

  abbrev w' : SplitWork
  w' = record w { copied = w.copied - 1 }

  abbrev q : Actor
  q = record r { split = Some w'; page = page; undone = undone; early = early }

  abbrev actors' : List Actor
  actors' = set s.actors a q

  abbrev new_page : Node
  new_page = drop_entry e.key node

  abbrev pages' : List (Option Node)
  pages' = set s.pages page (Some new_page)

  abbrev F : List Entry
  F = all_entries (forest_of s.board s.pages s.actors k.chain)

  abbrev out : Entry → Bool
  out y = y.key == e.key

  abbrev left : List Entry
  left = filter (λ y. not (out y)) F

  mine : Suits s.board s.shards s.pages a r
  mine = k.each a r there

  ok : IsKeyed g
  ok = is_keyed c k.limits

  may_split : AllMaySplit g log
  may_split = all_may c log k.legal

  claim : r.claim ≡ Some w.leaf
  claim = mine.holds.split w split

  work : IsWork g log F w
  work = k.entries.works a r w there split

  held : (p : ℕ) → count_if (has_page p) actors' ≡ count_if (has_page p) s.actors
  held = held_by_all s.actors a r q there refl

  -- what goes is a copy
  gone : (y : Entry) → HasPlace c log s.actors s.board.retired y → out y ≡ true → (is_under g w.leaf y ≡ true) × (is_ahead g log y ≡ true)
  gone y h t = and_parts (is_under g w.leaf y) (is_ahead g log y) (is_copy s.board.settings k.limits s.board.log k.legal (events_at (floor_of s.board)) s.actors s.board.retired (all_entries (forest_of s.board s.pages s.actors k.chain)) k.entries (keys_rise s k) a r there w split old n last y h t)

  no_count : (m : ℕ) → (y : Entry) → HasPlace c log s.actors s.board.retired y → out y ≡ true → counts g (take m log) y ≡ false
  no_count m y h t =
      let d = ahead_down c ok log may_split y h.is (gone y h t).1 in
      let less = depth_take g log m (g.perm y.vector) in
      and_no _ _ (not_down g ok y h.is.down (depth_of g (take m log) y) h.is.keyed h.is.deep (depth_deep g ok (take m log) (all_take (MaySplit g) m log may_split) (g.perm y.vector)) (λ same. omega arith))

  no_count_now : (y : Entry) → HasPlace c log s.actors s.board.retired y → out y ≡ true → counts g log y ≡ false
  no_count_now y h t =
      let d = ahead_down c ok log may_split y h.is (gone y h t).1 in
      and_no _ _ (not_down g ok y h.is.down (depth_of g log y) h.is.keyed h.is.deep (depth_deep g ok log may_split (g.perm y.vector)) (λ same. omega arith))

  gathered_left : w.gathered ≡ filter (λ y. counts g log y && nat_lt y.key w.mark) (under g w.leaf left)
  gathered_left =
      let T : Entry → Bool = λ y. counts g log y && nat_lt y.key w.mark in
      work.gathered ∙ filter_twice T (is_under g w.leaf) F
      ∙ sym (filter_twice T (is_under g w.leaf) left
      ∙ filter_dropped (λ y. is_under g w.leaf y && T y) out F (all_weaker _ _ (λ y h t. and_no (is_under g w.leaf y) (T y) (no_and (counts g log y) (nat_lt y.key w.mark) (no_count_now y h t))) F k.entries.places))

  ahead_left : filter (is_ahead g log) (under g w.leaf left) ≡ filter (λ y. not (out y)) (filter (is_ahead g log) (under g w.leaf F))
  ahead_left =
      let A : Entry → Bool = is_ahead g log in
      let U : Entry → Bool = is_under g w.leaf in
      let N : Entry → Bool = λ y. not (out y) in
      filter_twice A U left ∙ filter_twice (λ y. U y && A y) N F
      ∙ filter_same (λ y. N y && (U y && A y)) (λ y. (U y && A y) && N y) F (all_any _ (λ y. turned (N y) (U y && A y)) F)
      ∙ sym (ap (filter N) (filter_twice A U F) ∙ filter_twice N (λ y. U y && A y) F)

  made_left : filter (λ y. not (out y)) (map (child_entry g log) (take w.copied w.gathered)) ≡ map (child_entry g log) (take n w.gathered)
  made_left =
      let size : w.copied ≡ suc n = omega arith in
      let N : Entry → Bool = λ y. not (out y) in
      ap (λ m. filter N (map (child_entry g log) (take m w.gathered))) size
      ∙ ap (λ es. filter N (map (child_entry g log) es)) (one_more w.gathered n old last)
      ∙ ap (filter N) (map-append (child_entry g log) (take n w.gathered) (old ∷ []))
      ∙ filter-append N (map (child_entry g log) (take n w.gathered)) (e ∷ [])
      ∙ ap (λ es. es ++ filter N (e ∷ [])) (filter_all N (map (child_entry g log) (take n w.gathered)) (all_weaker _ _ (λ y h. ap not h) (map (child_entry g log) (take n w.gathered)) (made_before s.board.settings k.limits s.board.log k.legal (events_at (floor_of s.board)) s.actors s.board.retired (all_entries (forest_of s.board s.pages s.actors k.chain)) k.entries (keys_rise s k) a r there w split old n last)))
      ∙ ap (λ b. map (child_entry g log) (take n w.gathered) ++ cond (not b) (e ∷ []) []) (eq-eqb e.key e.key refl)
      ∙ append-nil (map (child_entry g log) (take n w.gathered))

  own_work : IsWork g log left w'
  own_work = record {
    leaf = work.leaf;
    above = work.above;
    gathered = gathered_left;
    few = (let f = work.few in omega arith);
    copies = same_trans (same_is _ _ ahead_left) (same_trans (same_filter (λ y. not (out y)) _ _ (same_trans work.copies (same_is _ _ (copies_same g (is_keyed c k.limits) log may_split F w work w.copied)))) (same_is _ _ (made_left ∙ sym (copies_same g (is_keyed c k.limits) log may_split F w work n))));
  }

  other_work : (b : ℕ) (x : SplitWork) → b ≢ a → HasSplit s.actors b x → IsWork g log left x
  other_work b x apart h =
      let i = k.entries.works b h.actor x h.there h.split in
      let others : same_cell w.leaf x.leaf ≡ false = not_true (same_cell w.leaf x.leaf) (λ t. apart (k.claims b a h.actor r w.leaf h.there there ((k.each b h.actor h.there).holds.split x h.split ∙ ap Some (sym (same_cell_is w.leaf x.leaf t))) claim)) in
      work_kept g log log F left x i i.leaf
      (filter_dropped (is_under g x.leaf) out F (all_weaker _ _ (λ y z t. not_true (is_under g x.leaf y) (λ u.
      false≢true (sym (leaf_apart g ok.grid log may_split w.leaf x.leaf y.vector work.leaf i.leaf others u) ∙ (gone y z t).0))) F k.entries.places))
      (λ v t. refl) (all_any _ (λ y t. refl) F)

  entries_left : AreEntries c log (events_at (floor_of s.board)) actors' s.board.retired left
  entries_left = record {
    places = filter_keeps (HasPlace c log actors' s.board.retired) (λ y. not (out y)) F
        (all_weaker _ _ (λ y h. place_stays c log s.actors actors' s.board.retired y (worked s k a r there q w' refl claim refl refl refl refl y.vector) (unswept s k a r there q w' refl claim refl refl refl refl y) h) F k.entries.places);
    shows = λ m l u. drop_shows g (take m log) F out (all_weaker _ _ (λ y h t. no_count m y h t) F k.entries.places) (k.entries.shows m l u);
    works = λ b t x z h. elim ((copies s k a r there q w' refl claim refl refl refl refl).back b x (record { actor = t; there = z; split = h })) [
      | inl m ↦ subst (IsWork g log left) (sym m.1) own_work
      | inr m ↦ other_work b x m.0 m.1
    ];
  }

  abbrev now : Forest
  now = forest_of s.board pages' actors' k.chain

  abbrev before : Forest
  before = forest_of s.board s.pages s.actors k.chain

  node_is : before.node page ≡ node
  node_is = ap node_or_fresh on.there

  removed : IsForest now × (all_entries now ≡ without_key e.key F)
  removed = remove_event before now k.pages.forest page (k.pages.linked page node on.there) (ap (λ (m : Node). m.level) node_is ∙ on.level) e.key
      (subst (λ (m : Node). IsInside m.low m.high e.key) (sym node_is) inside)
      (subst (λ (m : Node). SetsPage before now page (with_entries m (without_key e.key m.entries))) (sym node_is)
      (page_sets s.board s.board s.pages s.actors actors' k.chain refl refl held page new_page (within s.pages page node on.there)))

  fresh_more : (p : ℕ) → node_at s.pages p ≡ None → node_at pages' p ≡ None
  fresh_more p h =
      let apart : p ≢ page = λ same. some_none node (sym on.there ∙ ap (node_at s.pages) (sym same) ∙ h) in
      get_or-set_other s.pages page p (Some new_page) None apart ∙ h

  own' : Suits s.board s.shards pages' a q
  own' =
      let h = mine.holds in
      record {
        saw = (let v = mine.saw in record { seen = v.seen; floor = v.floor; low = v.low; pin = v.pin });
        own = mine.own;
        holds = record { claim = h.claim; reserved = h.reserved; pin = h.pin; shard = h.shard; leaf = h.leaf; split = λ y z. claim ∙ ap (λ (y : SplitWork). Some y.leaf) (same_Some w' y z); room = h.room };
        sweep = mine.sweep;
        fresh = λ p z. let m = mine.fresh p z in (m.0, fresh_more p m.1);
      }

  others' : (b : ℕ) (t : Actor) → b ≢ a → slice_get s.actors b ≡ Some t → Suits s.board s.shards pages' b t
  others' b t n z =
      let o = k.each b t z in
      record { saw = o.saw; own = o.own; holds = o.holds; sweep = o.sweep; fresh = λ p f. let m = o.fresh p f in (m.0, fresh_more p m.1) }

  pub uncopied : Sound (put_actor a q (put_page page new_page s))
  uncopied = record {
    limits = k.limits;
    metric = k.metric;
    chain = k.chain;
    pages = (let p = k.pages in record {
      forest = removed.0;
      linked = linked_set s.board s.board s.pages s.actors actors' k.chain p refl refl held page node new_page on.there refl;
      there = there_set s.board s.board s.pages s.actors actors' k.chain p refl refl held page node new_page on.there refl;
      height = root_set s.board s.board s.pages s.actors actors' k.chain p refl refl held page node new_page on.there refl;
      length_is = length-set s.pages page (Some new_page) ∙ p.length_is;
      most = p.most;
      passed_over = p.passed_over;
    });
    entries = subst (AreEntries c log (events_at (floor_of s.board)) actors' s.board.retired) (sym removed.1) entries_left;
    each = each_set s.actors a r q there (λ b t. Suits s.board s.shards pages' b t) own' others';
    retired = retired_by s.actors a r q there refl log s.board.retired k.retired;
    order = k.order;
    sixteen = k.sixteen;
    holders = λ n b h. holders_by s.actors a r q there refl n b (k.holders n b h);
    claims = claims_by s.actors a r q there refl k.claims;
    sweeps = sweeps_by s.actors a r q there refl k.sweeps;
    records = k.records;
    counted = k.counted ∙ sym (length-set s.actors a q);
    made = all_weaker _ _ (λ m l. omega (arith, l, length-set s.actors a q)) (entered log) k.made;
    legal = k.legal;
  }

pub uncopy_keeps : (s : State) (k : Sound s) (a : ℕ) (r : Actor) (there : slice_get s.actors a ≡ Some r) (page : ℕ) (node : Node) → IsLeafPage s page node
    → (w : SplitWork) → r.split ≡ Some w → 0 < w.copied → (old : Entry) → slice_get w.gathered (w.copied - 1) ≡ Some old → (e : Entry) → e ≡ child_entry (grid s.board.settings) s.board.log old
    → IsInside node.low node.high e.key → (told : Bool) → Sound (after s a r (uncopy page node e told))
uncopy_keeps s k a r there page node on w split some old last e is inside told =
    subst (λ (y : Entry). Sound (after s a r (uncopy page node y told))) (sym is)
    (subst (λ (o : Option SplitWork). Sound (put_actor a (record (with_split_at (copied_to (copied_of o - 1) o) page r) { undone = true; early = cond told r.early true })
    (put_page page (drop_entry (child_entry (grid s.board.settings) s.board.log old).key node) s))) (sym split)
    (uncopied s k a r there page node on w split some old last (subst (λ (y : Entry). IsInside node.low node.high y.key) is inside) true (cond told r.early true)))

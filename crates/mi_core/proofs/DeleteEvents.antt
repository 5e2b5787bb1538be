-- A delete keeps what is kept.
use Rattle.std.proofs.Common.{◌≡◌, ◌≢◌, ℕ, ◌+◌, ◌<◌, ◌≤◌, ◌==◌, List, [], ◌∷◌, ◌++◌, length, get_or, set, true, false, cond, refl, sym, ap, ◌∙◌, subst, arith, Option, Some, None, inl, inr, length-set, get_or-set_other, get_or-set_same, length-append, append-nil, eq-eqb, map, take_all}
use Rattle.std.specs.Prelude.{slice_get}
use Rattle.std.specs.List.{AllByRecursion, filter, list_any}
use Rattle.std.proofs.lemmas.Bool.{cases_eq, false≢true, ne_eqb}
use Rattle.std.proofs.lemmas.List.Elements.{filter-append}
use Rattle.std.proofs.lemmas.Option.{slice_get_within, same_Some}
use Rattle.mi_base.specs.declared.records.LogEvent.{LogEvent}
use Rattle.mi_base.specs.declared.records.LogEvent.TheVariants.{Update as Made}
use Rattle.mi_base.specs.declared.records.Position.{Position}
use Rattle.mi_base.specs.declared.records.Update.TheVariants.{Delete}
use Rattle.mi_base.specs.Configuration.{Configuration}
use Rattle.mi_base.specs.History.{Entered, IsPosition, at_position, end_of, entered, events_at, updates_of, is_among}
use Rattle.mi_base.specs.Permutations.{begins}
use Rattle.mi_base.proofs.HistoryLemmas.{entered-append}
use Rattle.mi_board.proofs.BoardLemmas.{delete_legal}
use Rattle.mi_key.specs.declared.entries.Entry.{Entry}
use Rattle.mi_page.specs.Nodes.{Node}
use Rattle.mi_tree.specs.Cells.{Grid, AllMaySplit, leaf_of}
use Rattle.mi_tree.proofs.LeafLemmas.{leaf_is}
use Rattle.mi_tree.proofs.LegalLemmas.{all_may, one_live}
use Rattle.mi_core.specs.Actors.{Suits, made_by}
use Rattle.mi_tree.specs.Births.{was_split, born, Born}
use Rattle.mi_board.specs.Boards.{floor_of, BoardState}
use Rattle.mi_board.specs.Actors.{idle, with_reserved}
use Rattle.mi_board.specs.declared.actors.ActorState.{ActorState}
use Rattle.mi_entries.specs.Records.{held_by, without_id, Rows, Shard, home, no_shard, shard_at}
use Rattle.mi_core.specs.Effects.{committed, mark_entry, with_update}
use Rattle.mi_entries.specs.Entries.{id_of, grid, HasPlace, Shows, counts}
use Rattle.mi_core.specs.Events.{CanDelete, after}
use Rattle.mi_core.specs.Events.Event.{delete}
use Rattle.mi_forest.specs.Forests.{all_entries, Forest, IsForest}
use Rattle.mi_core.proofs.OrderLemmas.{order_grows}
use Rattle.mi_core.specs.Sound.{Sound}
use Rattle.mi_core.specs.Named.{EntryOf}
use Rattle.mi_core.specs.Pages.{ArePages, forest_of, node_or_fresh, has_page}
use Rattle.mi_entries.specs.Splits.{AreEntries}
use Rattle.mi_core.specs.State.{count_if, State, board_actor, node_at}
use Rattle.mi_entries.specs.Actors.{Actor, SplitWork, SweepWork}
use Rattle.mi_core.proofs.ActorLemmas.{SameHands, claims_stay, each_set, held_stays, holders_stay, retired_stay, sweeps_stay, works_stay}
use Rattle.mi_entries.proofs.ContentLemmas.{HasSplit, entries_rise, entries_stay, leaf_more}
use Rattle.mi_core.proofs.FloorLemmas.{least_is, least_rises, least_same}
use Rattle.mi_board.proofs.FloorLemmas.{at_more, end_events}
use Rattle.mi_core.proofs.KeptLemmas.{all_snoc, pins_stand, retired_more, saw_more, some_none}
use Rattle.mi_entries.proofs.KeyedLemmas.{is_keyed}
use Rattle.mi_core.proofs.PageLemmas.{in_page, linked_set, page_sets, root_set, there_set, within}
use Rattle.mi_entries.proofs.RecordLemmas.{born_live, records_delete}
use Rattle.mi_entries.proofs.FilterLemmas.{not_true}
use Rattle.mi_tree.proofs.ListLemmas.{all_weaker, all_get}
use Rattle.mi_page.specs.Entries.{with_death}
use Rattle.mi_page.specs.Keys.{IsInside}
use Rattle.mi_forest.specs.Changes.{SetsPage, with_entries}
use Rattle.mi_entries.proofs.DeleteLemmas.{entries_delete, living_all}
use Rattle.mi_forest.proofs.EventLemmas.{death_event}
use Rattle.mi_entries.proofs.LivingLemmas.{any_among, born_at}
use Rattle.mi_core.proofs.RecordedLemmas.{entry_here, key_there, leaf_there, object_of}

module _ (s : State) (k : Sound s) (a : ℕ) (r : Actor) (there : slice_get s.actors a ≡ Some r)
    (op id page : ℕ) (node : Node) (kept : Rows) (key : ℕ) (can : CanDelete s r id page node kept key) where
  abbrev c : Configuration
  c = s.board.settings

  abbrev g : Grid
  g = grid s.board.settings

  abbrev log : List LogEvent
  log = s.board.log

  -- the entry of the object, on the page
  abbrev found : EntryOf s node (object_of s k a r there id page node kept key can).object
  found = entry_here s k a r there id page node kept key can

  abbrev e : Entry
  e = found.entry

  key_same : e.key ≡ key
  key_same = found.key ∙ sym (key_there s k a r there id page node kept key can)

  inside : IsInside node.low node.high e.key
  inside = subst (IsInside node.low node.high) (sym key_same) can.may.inside

  named : id_of e ≡ id
  named = ap (λ (o : Born). o.id) found.is ∙ (object_of s k a r there id page node kept key can).named

  claimed : r.claim ≡ Some (leaf_of g log (g.perm e.vector))
  claimed = can.may.claim ∙ ap Some (leaf_there s k a r there id page node kept key can ∙ ap (λ (o : Born). leaf_of g log (g.perm o.vector)) (sym found.is))

  abbrev x : LogEvent
  x = Made a op (Delete id)

  abbrev b' : BoardState
  b' = with_update a op (Delete id) s.board

  abbrev q : Actor
  q = committed b' a op (Delete id) page r

  abbrev actors' : List Actor
  actors' = set s.actors a q

  abbrev shards' : List Shard
  shards' = set s.shards (home id) (held_by (Some a) (without_id id kept))

  abbrev pages' : List (Option Node)
  pages' = set s.pages page (Some (mark_entry e.key (length (updates_of s.board.log) + 1) node))

  same : SameHands r q
  same = record { shard = refl; claim = refl; sweep = refl; split = refl; fresh = refl }

  mine : Suits s.board s.shards s.pages a r
  mine = k.each a r there

  low_actor : a < length s.board.actors
  low_actor = omega (arith, k.counted, slice_get_within s.actors a r there)

  may_split : AllMaySplit g log
  may_split = all_may c log k.legal

  low_shard : home id < 16
  low_shard = (mine.holds.shard (home id) can.may.shard).0

  -- the floor doesn't fall, and is not above the end
  floor_low : events_at (floor_of s.board) ≤ length log
  floor_low = least_is (λ p. events_at p ≤ length log) (end_of log) s.board.actors (omega (arith, end_events log)) pin_low
    where
      pin_low : (i : ℕ) (p : Position) → (get_or s.board.actors i idle).pin ≡ Some p → events_at p ≤ length log
      pin_low i p h = (pins_stand s k i p h).within

  floor_rises : events_at (floor_of s.board) ≤ events_at (floor_of b')
  floor_rises = subst (λ (n : Position). events_at (floor_of s.board) ≤ events_at n)
      (sym (least_same (with_reserved false) (λ z. refl) (end_of (log ++ x ∷ [])) s.board.actors a))
      (least_rises (end_of log) (end_of (log ++ x ∷ [])) s.board.actors (omega (arith, end_events log, end_events (log ++ x ∷ []), length-append log (x ∷ []))))

  -- nobody splits the leaf
  free : (b : ℕ) (w : SplitWork) → HasSplit s.actors b w → begins w.leaf (g.perm e.vector) ≡ false
  free b w h = not_true (begins w.leaf (g.perm e.vector)) (λ t.
      let theirs = (k.each b h.actor h.there).holds in
      let claim = theirs.split w h.split in
      let leaf : w.leaf ≡ leaf_of g log (g.perm e.vector) = leaf_is g (is_keyed c k.limits).grid log may_split w.leaf e.vector (theirs.leaf w.leaf claim) t in
      let one : b ≡ a = k.claims b a h.actor r w.leaf h.there there claim (claimed ∙ ap Some (sym leaf)) in
      let actor : Some h.actor ≡ Some r = sym h.there ∙ ap (slice_get s.actors) one ∙ there in
      let split : Some w ≡ None = sym h.split ∙ ap (λ (t : Actor). t.split) (same_Some h.actor r actor) ∙ can.may.whole in
      some_none w split)

  abbrev F : List Entry
  F = all_entries (forest_of s.board s.pages s.actors k.chain)

  abbrev marked : Node
  marked = mark_entry e.key (length (updates_of s.board.log) + 1) node

  abbrev old : Forest
  old = forest_of s.board s.pages s.actors k.chain

  node_is : old.node page ≡ node
  node_is = ap node_or_fresh can.may.page_is.there

  held : (p : ℕ) → count_if (has_page p) actors' ≡ count_if (has_page p) s.actors
  held = held_stays s.actors a r q there same

  marks : IsForest (forest_of b' pages' actors' k.chain) × (all_entries (forest_of b' pages' actors' k.chain) ≡ map (with_death e.key (length (updates_of s.board.log) + 1)) F)
  marks = death_event old (forest_of b' pages' actors' k.chain) k.pages.forest page (k.pages.linked page node can.may.page_is.there) (ap (λ (m : Node). m.level) node_is ∙ can.may.page_is.level)
      e.key (length (updates_of s.board.log) + 1) (subst (λ (m : Node). IsInside m.low m.high e.key) (sym node_is) inside)
      (subst (λ (m : Node). SetsPage old (forest_of b' pages' actors' k.chain) page (with_entries m (map (with_death e.key (length (updates_of s.board.log) + 1)) m.entries))) (sym node_is)
      (page_sets s.board b' s.pages s.actors actors' k.chain refl refl held page marked (within s.pages page node can.may.page_is.there)))

  -- the entry is one of all
  one_of : (P : Entry → Type 0) → AllByRecursion P F → P e
  one_of P h = all_get P node.entries found.place e (in_page s.board b' s.pages s.actors actors' k.chain k.pages refl refl held page node can.may.page_is.there can.may.page_is.level 0 P h) found.there

  lives : list_any (born_at id e.birth) (born (updates_of log)) ≡ true
  lives = subst (λ (n : ℕ). list_any (born_at n e.birth) (born (updates_of log)) ≡ true) named
      (one_of (λ y. counts g log y ≡ true → list_any (born_at (id_of y) y.birth) (born (updates_of log)) ≡ true)
      (living_all c log F (subst (λ (l : List LogEvent). Shows g l F) (take_all (length log) log (omega arith)) (k.entries.shows (length log) floor_low (omega arith)))) found.counted)

  entries' : AreEntries c (log ++ x ∷ []) (events_at (floor_of b')) actors' s.board.retired (all_entries (forest_of b' pages' actors' k.chain))
  entries' =
      let deleted = entries_delete c (is_keyed c k.limits) log k.legal (events_at (floor_of s.board)) s.actors s.board.retired F k.entries floor_low a op id e (one_of (HasPlace c log s.actors s.board.retired) k.entries.places) named found.counted lives free in
      let E : List Entry = map (with_death e.key (length (updates_of s.board.log) + 1)) F in
      let stayed = entries_stay s.actors actors' (works_stay s.actors a r q there same) c (log ++ x ∷ []) (events_at (floor_of s.board)) s.board.retired E deleted in
      subst (AreEntries c (log ++ x ∷ []) (events_at (floor_of b')) actors' s.board.retired) (sym marks.1)
      (entries_rise c (log ++ x ∷ []) (events_at (floor_of s.board)) (events_at (floor_of b')) actors' s.board.retired E floor_rises stayed)

  pages_are : ArePages b' pages' actors' k.chain
  pages_are =
      let p = k.pages in
      record {
        forest = marks.0;
        linked = linked_set s.board b' s.pages s.actors actors' k.chain p refl refl held page node marked can.may.page_is.there refl;
        there = there_set s.board b' s.pages s.actors actors' k.chain p refl refl held page node marked can.may.page_is.there refl;
        height = root_set s.board b' s.pages s.actors actors' k.chain p refl refl held page node marked can.may.page_is.there refl;
        length_is = length-set s.pages page (Some marked) ∙ p.length_is;
        most = p.most;
        passed_over = p.passed_over;
      }

  entered_is : entered (log ++ x ∷ []) ≡ entered log ++ record { session = a; op = op; update = Delete id } ∷ []
  entered_is = entered-append log (x ∷ [])

  made_is : (t : ℕ) → made_by t (log ++ x ∷ []) ≡ made_by t log ++ cond (a == t) (record { session = a; op = op; update = Delete id } ∷ []) []
  made_is t = ap (filter (λ (m : Entered). m.session == t)) entered_is ∙ filter-append (λ (m : Entered). m.session == t) (entered log) (record { session = a; op = op; update = Delete id } ∷ [])

  shard_same : (n : ℕ) → (shard_at shards' n).holder ≡ (shard_at s.shards n).holder
  shard_same n = elim (cases_eq n (home id)) [
    | inl h ↦
        ap (λ m. (shard_at shards' m).holder) h ∙ ap (λ (z : Shard). z.holder) (get_or-set_same s.shards (home id) (held_by (Some a) (without_id id kept)) no_shard (omega (arith, low_shard, k.sixteen)))
        ∙ sym (mine.holds.shard (home id) can.may.shard).1 ∙ ap (λ m. (shard_at s.shards m).holder) (sym h)
    | inr h ↦ ap (λ (z : Shard). z.holder) (get_or-set_other s.shards (home id) n (held_by (Some a) (without_id id kept)) no_shard h)
  ]

  swept_more : (t : Actor) → IsPosition log t.floor → (w : SweepWork) → was_split w.leaf (at_position log t.floor) ≡ true → was_split w.leaf (at_position (log ++ x ∷ []) t.floor) ≡ true
  swept_more t at w h = ap (was_split w.leaf) (at_more log (x ∷ []) t.floor at) ∙ h

  fresh_more : (p : ℕ) → node_at s.pages p ≡ None → node_at pages' p ≡ None
  fresh_more p h =
      let apart : p ≢ page = λ same. some_none node (sym can.may.page_is.there ∙ ap (node_at s.pages) (sym same) ∙ h) in
      get_or-set_other s.pages page p (Some (mark_entry e.key (length (updates_of s.board.log) + 1) node)) None apart ∙ h

  own' : Suits b' shards' pages' a q
  own' =
      let h = mine.holds in
      record {
        saw = (let o = saw_more s.board b' x refl refl floor_rises r mine.saw in record { seen = omega arith; floor = o.floor; low = o.low; pin = o.pin });
        own = made_is a ∙ ap (λ b. made_by a log ++ cond b (record { session = a; op = op; update = Delete id } ∷ []) []) (eq-eqb a a refl)
            ∙ ap (λ (ms : List Entered). ms ++ record { session = a; op = op; update = Delete id } ∷ []) mine.own;
        holds = record {
          claim = ap (λ (z : ActorState). z.claim) board_mine ∙ h.claim;
          reserved = ap (λ (z : ActorState). z.reserved) board_mine;
          pin = ap (λ (z : ActorState). z.pin) board_mine ∙ h.pin;
          shard = λ n is. let o = h.shard n is in (o.0, shard_same n ∙ o.1);
          leaf = λ p is. leaf_more g log a op (Delete id) p ∙ h.leaf p is;
          split = h.split;
          room = λ n is no. absurd (false≢true no);
        };
        sweep = λ w is. swept_more r mine.saw.floor w (mine.sweep w is);
        fresh = λ p is. let o = mine.fresh p is in (o.0, fresh_more p o.1);
      }
    where
      board_mine : board_actor b' a ≡ with_reserved false (board_actor s.board a)
      board_mine = get_or-set_same s.board.actors a (with_reserved false (board_actor s.board a)) idle low_actor

  others' : (b : ℕ) (t : Actor) → b ≢ a → slice_get s.actors b ≡ Some t → Suits b' shards' pages' b t
  others' b t apart is =
      let o = k.each b t is in
      let h = o.holds in
      let board : board_actor b' b ≡ board_actor s.board b = get_or-set_other s.board.actors a b (with_reserved false (board_actor s.board a)) idle apart in
      record {
        saw = saw_more s.board b' x refl refl floor_rises t o.saw;
        own = made_is b ∙ ap (λ z. made_by b log ++ cond z (record { session = a; op = op; update = Delete id } ∷ []) []) (ne_eqb a b (λ one. apart (sym one)))
            ∙ append-nil (made_by b log) ∙ o.own;
        holds = record {
          claim = ap (λ (z : ActorState). z.claim) board ∙ h.claim;
          reserved = ap (λ (z : ActorState). z.reserved) board ∙ h.reserved;
          pin = ap (λ (z : ActorState). z.pin) board ∙ h.pin;
          shard = λ n its. let m = h.shard n its in (m.0, shard_same n ∙ m.1);
          leaf = λ p its. leaf_more g log a op (Delete id) p ∙ h.leaf p its;
          split = h.split;
          room = λ n its here.
              let m = h.room n its here in
              let else : n ≢ home id = λ one.
              let ours = (mine.holds.shard (home id) can.may.shard).1 in
              let theirs = (h.shard n its).1 in
              apart (same_Some b a (sym theirs ∙ ap (λ z. (shard_at s.shards z).holder) one ∙ ours)) in
              (m.0, subst (λ (z : Shard). length z.rows.records < z.rows.room) (sym (get_or-set_other s.shards (home id) n (held_by (Some a) (without_id id kept)) no_shard else)) m.1);
        };
        sweep = λ w its. swept_more t o.saw.floor w (o.sweep w its);
        fresh = λ p its. let m = o.fresh p its in (m.0, fresh_more p m.1);
      }

  deleted : Sound (after s a r (delete op id page node kept e.key))
  deleted = record {
    limits = k.limits;
    metric = k.metric;
    chain = k.chain;
    pages = pages_are;
    entries = entries';
    each = each_set s.actors a r q there (λ b t. Suits b' shards' pages' b t) own' others';
    retired = retired_stay s.actors a r q there same (log ++ x ∷ []) s.board.retired (retired_more log x s.actors s.board.retired k.retired);
    order = order_grows s.board.retired log a op (Delete id) k.order;
    sixteen = length-set s.shards (home id) (held_by (Some a) (without_id id kept)) ∙ k.sixteen;
    holders = λ n b h. holders_stay s.actors a r q there same n b (k.holders n b (sym (shard_same n) ∙ h));
    claims = claims_stay s.actors a r q there same k.claims;
    sweeps = sweeps_stay s.actors a r q there same k.sweeps;
    records = records_delete c log s.shards a op id kept k.records low_shard k.sixteen can.may.kept_is;
    counted = length-set s.board.actors a (with_reserved false (board_actor s.board a)) ∙ k.counted ∙ sym (length-set s.actors a q);
    made = subst (AllByRecursion (λ (m : Entered). m.session < length actors')) (sym entered_is)
        (all_snoc (λ (m : Entered). m.session < length actors') (entered log) (record { session = a; op = op; update = Delete id })
        (all_weaker _ _ (λ m l. omega (arith, l, length-set s.actors a q)) (entered log) k.made)
        (omega (arith, length-set s.actors a q, slice_get_within s.actors a r there)));
    legal = delete_legal c k.limits log k.legal id (one_live c log k.legal id (ap (is_among id) (sym (born_live (updates_of log))) ∙ any_among id e.birth (born (updates_of log)) lives)) a op can.may.few;
  }

  pub delete_keeps : Sound (after s a r (delete op id page node kept key))
  delete_keeps = subst (λ (n : ℕ). Sound (after s a r (delete op id page node kept n))) key_same deleted

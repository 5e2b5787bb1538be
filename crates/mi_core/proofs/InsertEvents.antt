-- An insert keeps what is kept.
use Rattle.std.proofs.Common.{◌≡◌, ◌≢◌, ℕ, ◌<◌, ◌≤◌, ◌==◌, List, [], ◌∷◌, ◌++◌, length, take, get_or, set, true, false, cond, not, ◌&&◌, refl, sym, ap, ◌∙◌, subst, arith, Option, Some, None, inl, inr, length-set, get_or-set_other, get_or-set_same, length-append, append-nil, eq-eqb}
use Rattle.std.specs.Prelude.{slice_get}
use Rattle.std.specs.List.{AllByRecursion, filter}
use Rattle.std.proofs.lemmas.Bool.{cases_eq, false≢true, ne_eqb}
use Rattle.std.proofs.lemmas.List.Elements.{filter-append}
use Rattle.std.proofs.lemmas.Option.{slice_get_within, same_Some}
use Rattle.mi_base.specs.declared.records.LogEvent.{LogEvent}
use Rattle.mi_base.specs.declared.records.LogEvent.TheVariants.{Update as Made}
use Rattle.mi_base.specs.declared.records.Position.{Position}
use Rattle.mi_base.specs.declared.records.Update.TheVariants.{Insert}
use Rattle.mi_base.specs.Configuration.{Configuration}
use Rattle.mi_base.specs.History.{Entered, IsPosition, at_position, end_of, entered, events_at, updates_of}
use Rattle.mi_base.specs.Permutations.{begins}
use Rattle.mi_base.specs.Sorting.{put}
use Rattle.mi_base.proofs.HistoryLemmas.{entered-append}
use Rattle.mi_board.proofs.BoardLemmas.{insert_legal}
use Rattle.mi_key.specs.declared.entries.Entry.{Entry}
use Rattle.mi_key.specs.Keys.{parts_of}
use Rattle.mi_page.specs.Entries.{entry_cmp, outlives}
use Rattle.mi_page.specs.Nodes.{Node, in_range}
use Rattle.mi_tree.specs.Cells.{is_leaf, Grid, AllMaySplit, leaf_of}
use Rattle.mi_tree.proofs.LeafLemmas.{leaf_is}
use Rattle.mi_tree.proofs.LegalLemmas.{all_may}
use Rattle.mi_core.specs.Actors.{Suits, made_by}
use Rattle.mi_tree.specs.Births.{was_split}
use Rattle.mi_board.specs.Boards.{floor_of, BoardState}
use Rattle.mi_board.specs.Actors.{idle, with_reserved}
use Rattle.mi_board.specs.declared.actors.ActorState.{ActorState}
use Rattle.mi_entries.specs.Records.{held_by, with_record, Rows, Shard, ShardRecord, home, no_shard, shard_at}
use Rattle.mi_core.specs.Effects.{committed, put_entry, with_update}
use Rattle.mi_entries.specs.Entries.{FitsKey, born_in, depth_of, id_of, key_down, grid}
use Rattle.mi_core.specs.Events.{CanInsert, after}
use Rattle.mi_core.specs.Events.Event.{insert}
use Rattle.mi_forest.specs.Forests.{all_entries}
use Rattle.mi_core.proofs.OrderLemmas.{order_grows}
use Rattle.mi_core.specs.Sound.{Sound}
use Rattle.mi_core.specs.Pages.{ArePages, forest_of, node_or_fresh}
use Rattle.mi_entries.specs.Splits.{AreEntries}
use Rattle.mi_core.specs.State.{State, board_actor, node_at}
use Rattle.mi_entries.specs.Actors.{Actor, SplitWork, SweepWork}
use Rattle.mi_core.proofs.ActorLemmas.{SameHands, claims_stay, each_set, held_stays, holders_stay, retired_stay, sweeps_stay, works_stay}
use Rattle.mi_entries.proofs.ContentLemmas.{HasSplit, entries_insert, entries_rise, entries_stay, entries_trim, leaf_more}
use Rattle.mi_entries.proofs.EntryLemmas.{timely}
use Rattle.mi_core.proofs.FloorLemmas.{least_is, least_rises, least_same}
use Rattle.mi_board.proofs.FloorLemmas.{at_more, end_events}
use Rattle.mi_core.proofs.KeptLemmas.{all_snoc, pins_stand, retired_more, saw_more, some_none}
use Rattle.mi_entries.proofs.NewLemmas.{its_leaf, key_is, named, aged, key_here, fits_here}
use Rattle.mi_entries.proofs.KeyedLemmas.{is_keyed}
use Rattle.mi_core.proofs.PageLemmas.{flat_put, forest_put, linked_put, there_set, within}
use Rattle.mi_entries.proofs.RecordLemmas.{not_living, records_insert, was_absent}
use Rattle.mi_entries.proofs.ShowLemmas.{count_between}
use Rattle.mi_entries.proofs.FilterLemmas.{not_true}
use Rattle.mi_tree.proofs.ListLemmas.{all_weaker}

module _ (s : State) (k : Sound s) (a : ℕ) (r : Actor) (there : slice_get s.actors a ≡ Some r)
    (op id page : ℕ) (node : Node) (kept : Rows) (e : Entry) (can : CanInsert s r id page node kept e) where
  abbrev c : Configuration
  c = s.board.settings

  abbrev g : Grid
  g = grid s.board.settings

  abbrev log : List LogEvent
  log = s.board.log

  abbrev x : LogEvent
  x = Made a op (Insert id e.vector)

  abbrev b' : BoardState
  b' = with_update a op (Insert id e.vector) s.board

  abbrev q : Actor
  q = committed b' a op (Insert id e.vector) page r

  abbrev actors' : List Actor
  actors' = set s.actors a q

  abbrev y : ShardRecord
  y = record { id = id; birth = e.birth; dists = e.dists.items }

  abbrev shards' : List Shard
  shards' = set s.shards (home id) (held_by (Some a) (with_record y kept))

  abbrev pages' : List (Option Node)
  pages' = set s.pages page (Some (put_entry r.floor.updates e node))

  same : SameHands r q
  same = record { shard = refl; claim = refl; sweep = refl; split = refl; fresh = refl }

  mine : Suits s.board s.shards s.pages a r
  mine = k.each a r there

  low_actor : a < length s.board.actors
  low_actor = omega (arith, k.counted, slice_get_within s.actors a r there)

  may_split : AllMaySplit g log
  may_split = all_may c log k.legal

  leaf_present : is_leaf g log can.leaf ≡ true
  leaf_present = mine.holds.leaf can.leaf can.may.claim

  low_shard : home id < 16
  low_shard = (mine.holds.shard (home id) can.may.shard).0

  its_leaf' : can.leaf ≡ leaf_of g log (g.perm e.vector)
  its_leaf' = its_leaf c k.limits k.metric log k.legal can.may.few can.leaf id e leaf_present can.may.under can.new

  key_is' : e.key ≡ key_down g (depth_of g log e) (record { id = id; vector = e.vector; birth = e.birth })
  key_is' = key_is c k.limits k.metric log k.legal can.may.few can.leaf id e leaf_present can.may.under can.new

  named' : id_of e ≡ id
  named' = named c k.limits k.metric log k.legal can.may.few can.leaf id e leaf_present can.may.under can.new

  aged' : (parts_of e.key).birth ≡ e.birth
  aged' = aged c k.limits k.metric log k.legal can.may.few can.leaf id e leaf_present can.may.under can.new

  key_here' : e.key ≡ key_down g (depth_of g log e) (born_in e)
  key_here' = key_here c k.limits k.metric log k.legal can.may.few can.leaf id e leaf_present can.may.under can.new

  fits_here' : FitsKey g (born_in e)
  fits_here' = fits_here c k.limits k.metric log k.legal can.may.few can.leaf id e leaf_present can.may.under can.new

  -- no entry has its key
  fresh_key : AllByRecursion (λ (z : Entry). z.key ≢ e.key) (all_entries (forest_of s.board s.pages s.actors k.chain))
  fresh_key = all_weaker _ _ (λ z h one.
      let old = (timely c log z h.is).birth in
      let its : (parts_of z.key).birth ≡ z.birth = ap (λ n. (parts_of n).birth) h.is.keyed ∙ (is_keyed c k.limits).aged (born_in z) h.is.fits h.is.down h.is.deep in
      let both : (parts_of z.key).birth ≡ (parts_of e.key).birth = ap (λ n. (parts_of n).birth) one in
      let new = can.new.birth in
      omega (arith, its, aged', both)) (all_entries (forest_of s.board s.pages s.actors k.chain)) k.entries.places

  -- the floor doesn't fall, and is not above the end
  floor_low : events_at (floor_of s.board) ≤ length log
  floor_low = least_is (λ p. events_at p ≤ length log) (end_of log) s.board.actors (omega (arith, end_events log)) pin_low
    where
      pin_low : (i : ℕ) (p : Position) → (get_or s.board.actors i idle).pin ≡ Some p → events_at p ≤ length log
      pin_low i p h = (pins_stand s k i p h).within

  floor_rises : events_at (floor_of s.board) ≤ events_at (floor_of b')
  floor_rises = subst (λ (n : Position). events_at (floor_of s.board) ≤ events_at n)
      (sym (least_same (with_reserved false) (λ z. refl) (end_of (log ++ x ∷ [])) s.board.actors a))
      (least_rises (end_of log) (end_of (log ++ x ∷ [])) s.board.actors (omega (arith, end_events log, end_events (log ++ x ∷ []), length-append log (x ∷ []))))

  -- nobody splits the leaf
  free : (b : ℕ) (w : SplitWork) → HasSplit s.actors b w → begins w.leaf (g.perm e.vector) ≡ false
  free b w h = not_true (begins w.leaf (g.perm e.vector)) (λ t.
      let theirs = (k.each b h.actor h.there).holds in
      let claim = theirs.split w h.split in
      let leaf : w.leaf ≡ leaf_of g log (g.perm e.vector) = leaf_is g (is_keyed c k.limits).grid log may_split w.leaf e.vector (theirs.leaf w.leaf claim) t in
      let one : b ≡ a = k.claims b a h.actor r w.leaf h.there there claim (can.may.claim ∙ ap Some (its_leaf' ∙ sym leaf)) in
      let actor : Some h.actor ≡ Some r = sym h.there ∙ ap (slice_get s.actors) one ∙ there in
      let split : Some w ≡ None = sym h.split ∙ ap (λ (t : Actor). t.split) (same_Some h.actor r actor) ∙ can.may.whole in
      some_none w split)

  entries' : AreEntries c (log ++ x ∷ []) (events_at (floor_of b')) actors' s.board.retired (all_entries (forest_of b' pages' actors' k.chain))
  entries' =
      let ok = is_keyed c k.limits in
      let F : List Entry = all_entries (forest_of s.board s.pages s.actors k.chain) in
      let low : r.floor.updates ≤ length (updates_of (take (events_at (floor_of s.board)) log)) =
      (let u = mine.saw.floor.updates in let l = count_between (events_at r.floor) (events_at (floor_of s.board)) log mine.saw.low in omega arith) in
      let trimmed = entries_trim c ok log may_split (events_at (floor_of s.board)) s.actors s.board.retired F k.entries floor_low r.floor.updates low (in_range node) in
      let T : List Entry = filter (λ z. not (in_range node z.key && not (outlives z.death r.floor.updates))) F in
      let inserted = entries_insert c ok log may_split (events_at (floor_of s.board)) s.actors s.board.retired T trimmed floor_low a op id e can.new.birth can.new.death can.new.dists fits_here' named' key_here' free in
      let stayed = entries_stay s.actors actors' (works_stay s.actors a r q there same) c (log ++ x ∷ []) (events_at (floor_of s.board)) s.board.retired (put entry_cmp e T) inserted in
      subst (AreEntries c (log ++ x ∷ []) (events_at (floor_of b')) actors' s.board.retired)
      (sym (flat_put s.board b' s.pages s.actors actors' k.chain k.pages refl refl (held_stays s.actors a r q there same) page node can.may.page_is.there can.may.page_is.level r.floor.updates e can.may.inside can.space fresh_key))
      (entries_rise c (log ++ x ∷ []) (events_at (floor_of s.board)) (events_at (floor_of b')) actors' s.board.retired (put entry_cmp e T) floor_rises stayed)

  pages_are : ArePages b' pages' actors' k.chain
  pages_are =
      let p = k.pages in
      record {
        forest = forest_put s.board b' s.pages s.actors actors' k.chain p refl refl (held_stays s.actors a r q there same) page node can.may.page_is.there can.may.page_is.level r.floor.updates e can.may.inside can.space fresh_key;
        linked = linked_put s.board b' s.pages s.actors actors' k.chain p refl refl (held_stays s.actors a r q there same) page node can.may.page_is.there can.may.page_is.level r.floor.updates e can.may.inside can.space fresh_key;
        there = there_set s.board b' s.pages s.actors actors' k.chain p refl refl (held_stays s.actors a r q there same) page node (put_entry r.floor.updates e node) can.may.page_is.there refl;
        height = root_level;
        length_is = length-set s.pages page (Some (put_entry r.floor.updates e node)) ∙ p.length_is;
        most = p.most;
        passed_over = p.passed_over;
      }
    where
      root_level : (node_or_fresh (node_at pages' s.board.root)).level ≡ s.board.height
      root_level = elim (cases_eq s.board.root page) [
        | inl h ↦
            ap (λ n. (node_or_fresh (node_at pages' n)).level) h
            ∙ ap (λ (o : Option Node). (node_or_fresh o).level) (get_or-set_same s.pages page (Some (put_entry r.floor.updates e node)) None (within s.pages page node can.may.page_is.there))
            ∙ sym (ap (λ (o : Option Node). (node_or_fresh o).level) can.may.page_is.there)
            ∙ sym (ap (λ n. (node_or_fresh (node_at s.pages n)).level) h) ∙ k.pages.height
        | inr h ↦ ap (λ (o : Option Node). (node_or_fresh o).level) (get_or-set_other s.pages page s.board.root (Some (put_entry r.floor.updates e node)) None h) ∙ k.pages.height
      ]

  entered_is : entered (log ++ x ∷ []) ≡ entered log ++ record { session = a; op = op; update = Insert id e.vector } ∷ []
  entered_is = entered-append log (x ∷ [])

  made_is : (t : ℕ) → made_by t (log ++ x ∷ []) ≡ made_by t log ++ cond (a == t) (record { session = a; op = op; update = Insert id e.vector } ∷ []) []
  made_is t = ap (filter (λ (m : Entered). m.session == t)) entered_is ∙ filter-append (λ (m : Entered). m.session == t) (entered log) (record { session = a; op = op; update = Insert id e.vector } ∷ [])

  shard_same : (n : ℕ) → (shard_at shards' n).holder ≡ (shard_at s.shards n).holder
  shard_same n = elim (cases_eq n (home id)) [
    | inl h ↦
        ap (λ m. (shard_at shards' m).holder) h ∙ ap (λ (z : Shard). z.holder) (get_or-set_same s.shards (home id) (held_by (Some a) (with_record y kept)) no_shard (omega (arith, low_shard, k.sixteen)))
        ∙ sym (mine.holds.shard (home id) can.may.shard).1 ∙ ap (λ m. (shard_at s.shards m).holder) (sym h)
    | inr h ↦ ap (λ (z : Shard). z.holder) (get_or-set_other s.shards (home id) n (held_by (Some a) (with_record y kept)) no_shard h)
  ]

  swept_more : (t : Actor) → IsPosition log t.floor → (w : SweepWork) → was_split w.leaf (at_position log t.floor) ≡ true → was_split w.leaf (at_position (log ++ x ∷ []) t.floor) ≡ true
  swept_more t at w h = ap (was_split w.leaf) (at_more log (x ∷ []) t.floor at) ∙ h

  fresh_more : (p : ℕ) → node_at s.pages p ≡ None → node_at pages' p ≡ None
  fresh_more p h =
      let apart : p ≢ page = λ same. some_none node (sym can.may.page_is.there ∙ ap (node_at s.pages) (sym same) ∙ h) in
      get_or-set_other s.pages page p (Some (put_entry r.floor.updates e node)) None apart ∙ h

  own' : Suits b' shards' pages' a q
  own' =
      let h = mine.holds in
      record {
        saw = (let o = saw_more s.board b' x refl refl floor_rises r mine.saw in record { seen = omega arith; floor = o.floor; low = o.low; pin = o.pin });
        own = made_is a ∙ ap (λ b. made_by a log ++ cond b (record { session = a; op = op; update = Insert id e.vector } ∷ []) []) (eq-eqb a a refl)
            ∙ ap (λ (ms : List Entered). ms ++ record { session = a; op = op; update = Insert id e.vector } ∷ []) mine.own;
        holds = record {
          claim = ap (λ (z : ActorState). z.claim) board_mine ∙ h.claim;
          reserved = ap (λ (z : ActorState). z.reserved) board_mine;
          pin = ap (λ (z : ActorState). z.pin) board_mine ∙ h.pin;
          shard = λ n is. let o = h.shard n is in (o.0, shard_same n ∙ o.1);
          leaf = λ p is. leaf_more g log a op (Insert id e.vector) p ∙ h.leaf p is;
          split = h.split;
          room = λ n is no. absurd (false≢true no);
        };
        sweep = λ w is. swept_more r mine.saw.floor w (mine.sweep w is);
        fresh = λ p is. let o = mine.fresh p is in (o.0, fresh_more p o.1);
      }
    where
      board_mine : board_actor b' a ≡ with_reserved false (board_actor s.board a)
      board_mine = get_or-set_same s.board.actors a (with_reserved false (board_actor s.board a)) idle low_actor

  others' : (b : ℕ) (t : Actor) → b ≢ a → slice_get s.actors b ≡ Some t → Suits b' shards' pages' b t
  others' b t apart is =
      let o = k.each b t is in
      let h = o.holds in
      let board : board_actor b' b ≡ board_actor s.board b = get_or-set_other s.board.actors a b (with_reserved false (board_actor s.board a)) idle apart in
      record {
        saw = saw_more s.board b' x refl refl floor_rises t o.saw;
        own = made_is b ∙ ap (λ z. made_by b log ++ cond z (record { session = a; op = op; update = Insert id e.vector } ∷ []) []) (ne_eqb a b (λ one. apart (sym one)))
            ∙ append-nil (made_by b log) ∙ o.own;
        holds = record {
          claim = ap (λ (z : ActorState). z.claim) board ∙ h.claim;
          reserved = ap (λ (z : ActorState). z.reserved) board ∙ h.reserved;
          pin = ap (λ (z : ActorState). z.pin) board ∙ h.pin;
          shard = λ n its. let m = h.shard n its in (m.0, shard_same n ∙ m.1);
          leaf = λ p its. leaf_more g log a op (Insert id e.vector) p ∙ h.leaf p its;
          split = h.split;
          room = λ n its here.
              let m = h.room n its here in
              let else : n ≢ home id = λ one.
              let ours = (mine.holds.shard (home id) can.may.shard).1 in
              let theirs = (h.shard n its).1 in
              apart (same_Some b a (sym theirs ∙ ap (λ z. (shard_at s.shards z).holder) one ∙ ours)) in
              (m.0, subst (λ (z : Shard). length z.rows.records < z.rows.room) (sym (get_or-set_other s.shards (home id) n (held_by (Some a) (with_record y kept)) no_shard else)) m.1);
        };
        sweep = λ w its. swept_more t o.saw.floor w (o.sweep w its);
        fresh = λ p its. let m = o.fresh p its in (m.0, fresh_more p m.1);
      }

  pub insert_keeps : Sound (after s a r (insert op id page node kept e))
  insert_keeps = record {
    limits = k.limits;
    metric = k.metric;
    chain = k.chain;
    pages = pages_are;
    entries = entries';
    each = each_set s.actors a r q there (λ b t. Suits b' shards' pages' b t) own' others';
    retired = retired_stay s.actors a r q there same (log ++ x ∷ []) s.board.retired (retired_more log x s.actors s.board.retired k.retired);
    order = order_grows s.board.retired log a op (Insert id e.vector) k.order;
    sixteen = length-set s.shards (home id) (held_by (Some a) (with_record y kept)) ∙ k.sixteen;
    holders = λ n b h. holders_stay s.actors a r q there same n b (k.holders n b (sym (shard_same n) ∙ h));
    claims = claims_stay s.actors a r q there same k.claims;
    sweeps = sweeps_stay s.actors a r q there same k.sweeps;
    records = records_insert c log s.shards a op id e.vector e.birth e.dists.items kept k.records low_shard k.sixteen can.may.kept_is can.absent can.new.birth can.new.dists;
    counted = length-set s.board.actors a (with_reserved false (board_actor s.board a)) ∙ k.counted ∙ sym (length-set s.actors a q);
    made = subst (AllByRecursion (λ (m : Entered). m.session < length actors')) (sym entered_is)
        (all_snoc (λ (m : Entered). m.session < length actors') (entered log) (record { session = a; op = op; update = Insert id e.vector })
        (all_weaker _ _ (λ m l. omega (arith, l, length-set s.actors a q)) (entered log) k.made)
        (omega (arith, length-set s.actors a q, slice_get_within s.actors a r there)));
    legal = insert_legal c k.limits log k.legal a op id e.vector can.new.fits
        (not_living id log (was_absent c log s.shards a op id e.vector e.birth e.dists.items kept k.records low_shard k.sixteen can.may.kept_is can.absent can.new.birth can.new.dists)) can.new.small can.may.few can.calm;
  }

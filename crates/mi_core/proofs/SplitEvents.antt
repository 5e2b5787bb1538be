-- A publish keeps what is kept.
use Rattle.mi_entries.proofs.RetiredLemmas.{below_end, past_later}
use Rattle.std.proofs.Common.{◌≡◌, ◌≢◌, ℕ, suc, zero, ◌+◌, ◌<◌, ◌≤◌, ◌==◌, List, [], ◌∷◌, ◌++◌, map, length, take, set, nat_lt, Bool, true, false, cond, not, ◌&&◌, ◌||◌, refl, sym, ap, ◌∙◌, subst, arith, Option, Some, None, length-set, get_or-set_other, get_or-set_same, length-append, append-nil}
use Rattle.std.specs.Prelude.{slice_get}
use Rattle.std.specs.List.{AllByRecursion, filter, find, list_any}
use Rattle.std.proofs.lemmas.Bool.{false≢true, lt-ltb}
use Rattle.std.proofs.lemmas.List.Folds.{list_any-append}
use Rattle.std.proofs.lemmas.Option.{none-some}
use Rattle.mi_base.specs.declared.records.LogEvent.{LogEvent}
use Rattle.mi_base.specs.declared.records.LogEvent.TheVariants.{Split}
use Rattle.mi_base.specs.declared.records.Position.{Position}
use Rattle.mi_base.specs.declared.records.Update.{Update}
use Rattle.mi_base.specs.Configuration.{Configuration}
use Rattle.mi_base.specs.History.{Entered, end_of, entered, events_at, updates_of, live}
use Rattle.mi_base.specs.Permutations.{begins}
use Rattle.mi_base.proofs.HistoryLemmas.{entered-append}
use Rattle.mi_board.proofs.BoardLemmas.{split_legal}
use Rattle.mi_key.specs.declared.entries.Entry.{Entry}
use Rattle.mi_tree.specs.Cells.{Grid, AllMaySplit, same_cell, depth}
use Rattle.mi_tree.proofs.LegalLemmas.{all_may, updates_of_split, wanted}
use Rattle.mi_core.specs.Actors.{Suits}
use Rattle.mi_tree.specs.Births.{born, is_split_of, was_split}
use Rattle.mi_core.specs.Claims.{AreRetired}
use Rattle.mi_board.specs.Boards.{floor_of, BoardState, with_split}
use Rattle.mi_board.specs.Actors.{idle}
use Rattle.mi_board.specs.declared.actors.ActorState.{ActorState}
use Rattle.mi_entries.specs.Records.{record_of, home}
use Rattle.mi_core.specs.Effects.{saw}
use Rattle.mi_entries.specs.Entries.{HasPlace, born_in, depth_of, key_in, grid, counts, is_under, under}
use Rattle.mi_tree.specs.Legal.{MayFollow}
use Rattle.mi_core.specs.Events.{IsWhole, after, leaf_or}
use Rattle.mi_core.specs.Events.Event.{publish}
use Rattle.mi_forest.specs.Forests.{all_entries}
use Rattle.mi_core.proofs.OrderLemmas.{order_published}
use Rattle.mi_core.specs.Sound.{Sound}
use Rattle.mi_core.specs.Pages.{ArePages, forest_of, has_page}
use Rattle.mi_entries.specs.Splits.{AreEntries, IsWork}
use Rattle.mi_core.specs.State.{count_if, State, board_actor, put_actor, put_board}
use Rattle.mi_entries.specs.Actors.{Actor, SplitWork}
use Rattle.mi_core.proofs.ActorLemmas.{set_claim, claims_end, each_set, ends_split, held_by_all, holders_by, retired_by, sweeps_by}
use Rattle.mi_entries.proofs.ContentLemmas.{HasSplit, counts_down, entries_publish, entries_rise, leaf_split}
use Rattle.mi_core.proofs.FloorLemmas.{least_rises, least_same}
use Rattle.mi_board.proofs.FloorLemmas.{at_more, end_events}
use Rattle.mi_core.proofs.KeptLemmas.{floor_position, on_board, saw_more}
use Rattle.mi_entries.proofs.KeyedLemmas.{is_keyed}
use Rattle.mi_core.proofs.PageLemmas.{forest_held}
use Rattle.mi_entries.proofs.FilterLemmas.{all_where, not_true}
use Rattle.mi_base.proofs.SortingLemmas.{filter_keeps}
use Rattle.mi_tree.proofs.ListLemmas.{all_weaker}
use Rattle.mi_tree.specs.Counting.{belongs, placed_object}
use Rattle.mi_tree.proofs.LeafLemmas.{same_cell_is, same_self, begins_is}
use Rattle.std.proofs.lemmas.List.{take_all}
use Rattle.mi_entries.proofs.DepthLemmas.{IsKeyed, leaf_deep}
use Rattle.mi_entries.proofs.ChildLemmas.{child_entry}

or_true : (b : Bool) → (b || (true || false)) ≡ true
or_true true = refl
or_true false = refl

some_before : {X : Type 0} (t : X → Bool) (xs : List X) (y : X) (ys : List X) → filter t xs ≡ y ∷ ys → (z : X) × (zs : List X) × (xs ≡ z ∷ zs)
some_before t [] y ys h = cc
some_before t (x ∷ xs) y ys h = (x, xs, refl)

-- one that passes
some_of : {X : Type 0} (t : X → Bool) (xs : List X) → 0 < length (filter t xs) → (x : X) × (t x ≡ true)
some_of t [] h = absurd (omega arith)
some_of {X = X} t (x ∷ xs) h =
    let P : Bool → Type 0 = λ b. t x ≡ b → 0 < length (cond b (x ∷ filter t xs) (filter t xs)) → (y : X) × (t y ≡ true) in
    (elim (t x) as P [ true ↦ λ e _. (x, e) | false ↦ λ e r. some_of t xs r ]) refl h

module _ (s : State) (k : Sound s) (a : ℕ) (r : Actor) (there : slice_get s.actors a ≡ Some r)
    (w : SplitWork) (may : IsWhole s r w) (all_copied : w.copied ≡ length w.gathered)
    (still : MayFollow s.board.settings s.board.log (Split w.leaf)) where
  abbrev c : Configuration
  c = s.board.settings

  abbrev g : Grid
  g = grid s.board.settings

  abbrev log : List LogEvent
  log = s.board.log

  abbrev x : LogEvent
  x = Split w.leaf

  abbrev b' : BoardState
  b' = with_split w.leaf a s.board

  abbrev q : Actor
  q = record (saw b' r) { claim = None; split = None }

  abbrev actors' : List Actor
  actors' = set s.actors a q

  mine : Suits s.board s.shards s.pages a r
  mine = k.each a r there

  claim : r.claim ≡ Some w.leaf
  claim = mine.holds.split w may.split

  ok : IsKeyed g
  ok = is_keyed c k.limits

  may_split : AllMaySplit g log
  may_split = all_may c log k.legal

  low_actor : a < length s.board.actors
  low_actor = on_board s k a r there

  has_split : HasSplit s.actors a w
  has_split = record { actor = r; there = there; split = may.split }

  work : IsWork g log (all_entries (forest_of s.board s.pages s.actors k.chain)) w
  work = k.entries.works a r w there may.split

  -- another's leaf is another one
  apart_leaf : (b : ℕ) (t : Actor) (p : List ℕ) → b ≢ a → slice_get s.actors b ≡ Some t → t.claim ≡ Some p → same_cell w.leaf p ≡ false
  apart_leaf b t p n its cl = not_true (same_cell w.leaf p) (λ e. n (k.claims b a t r w.leaf its there (cl ∙ ap Some (sym (same_cell_is w.leaf p e))) claim))

  apart : (b : ℕ) (y : SplitWork) → b ≢ a → HasSplit s.actors b y → same_cell w.leaf y.leaf ≡ false
  apart b y n h = apart_leaf b h.actor y.leaf n h.there ((k.each b h.actor h.there).holds.split y h.split)

  floor_low : events_at (floor_of s.board) ≤ length log
  floor_low = (floor_position s k).within

  floor_rises : events_at (floor_of s.board) ≤ events_at (floor_of b')
  floor_rises = subst (λ (n : Position). events_at (floor_of s.board) ≤ events_at n)
      (sym (least_same (set_claim None) (λ z. refl) (end_of (log ++ x ∷ [])) s.board.actors a))
      (least_rises (end_of log) (end_of (log ++ x ∷ [])) s.board.actors (omega (arith, end_events log, end_events (log ++ x ∷ []), length-append log (x ∷ []))))

  -- what counts in the leaf lies before the mark
  past : (e : Entry) → HasPlace c log s.actors s.board.retired e → is_under g w.leaf e ≡ true → counts g log e ≡ true → nat_lt e.key w.mark ≡ true
  past e h t n =
      let d : h.is.down ≡ length w.leaf = counts_down c ok log may_split e h.is n ∙ leaf_deep g ok log may_split w.leaf e.vector work.leaf t in
      let cell : take h.is.down (g.perm e.vector) ≡ w.leaf = ap (λ m. take m (g.perm e.vector)) d ∙ sym (begins_is w.leaf (g.perm e.vector) t) in
      let key : e.key ≡ key_in g w.leaf (born_in e) = h.is.keyed ∙ ap (λ (p : List ℕ). key_in g p (born_in e)) cell in
      lt-ltb e.key w.mark (let m = may.whole in omega (arith, key, below_end g w.leaf (born_in e) h.is.fits))

  born_same : (e : Entry) → HasPlace c log s.actors s.board.retired e → is_under g w.leaf e ≡ true → born_in (child_entry g log e) ≡ born_in e
  born_same e h t =
      let d : depth_of g log e ≡ length w.leaf = leaf_deep g ok log may_split w.leaf e.vector work.leaf t in
      let above = work.above in
      ap (λ (n : ℕ). record { id = n; vector = e.vector; birth = e.birth }) (ok.named (born_in e) h.is.fits (depth_of g log e + 1) (omega arith))

  gathered_same : AllByRecursion (λ e. born_in (child_entry g log e) ≡ born_in e) w.gathered
  gathered_same =
      let F : List Entry = all_entries (forest_of s.board s.pages s.actors k.chain) in
      let P : Entry → Type 0 = λ e. born_in (child_entry g log e) ≡ born_in e in
      subst (AllByRecursion P) (sym work.gathered)
      (filter_keeps P (λ e. counts g log e && nat_lt e.key w.mark) (under g w.leaf F)
      (all_where P (is_under g w.leaf) F (all_weaker _ _ (λ e h t. born_same e h t) F k.entries.places)))

  entries' : AreEntries c (log ++ x ∷ []) (events_at (floor_of b')) actors' (s.board.retired ++ w.leaf ∷ []) (all_entries (forest_of b' s.pages actors' k.chain))
  entries' =
      let F : List Entry = all_entries (forest_of s.board s.pages s.actors k.chain) in
      entries_rise c (log ++ x ∷ []) (events_at (floor_of s.board)) (events_at (floor_of b')) actors' (s.board.retired ++ w.leaf ∷ []) F floor_rises
      (entries_publish c ok log may_split (events_at (floor_of s.board)) s.actors actors' s.board.retired F k.entries floor_low a w has_split
      (ends_split s.actors a r q there refl refl) apart all_copied (all_weaker _ _ past F k.entries.places) gathered_same)

  entered_is : entered (log ++ x ∷ []) ≡ entered log
  entered_is = entered-append log (x ∷ []) ∙ append-nil (entered log)

  own' : Suits b' s.shards s.pages a q
  own' =
      let h = mine.holds in
      let board : board_actor b' a ≡ set_claim None (board_actor s.board a) = get_or-set_same s.board.actors a (set_claim None (board_actor s.board a)) idle low_actor in
      record {
        saw = (let o = saw_more s.board b' x refl refl floor_rises r mine.saw in record { seen = omega arith; floor = o.floor; low = o.low; pin = o.pin });
        own = ap (filter (λ (m : Entered). m.session == a)) entered_is ∙ mine.own;
        holds = record {
          claim = ap (λ (z : ActorState). z.claim) board;
          reserved = ap (λ (z : ActorState). z.reserved) board ∙ h.reserved;
          pin = ap (λ (z : ActorState). z.pin) board ∙ h.pin;
          shard = h.shard;
          leaf = λ p its. absurd (none-some p its);
          split = λ y its. absurd (none-some y its);
          room = h.room;
        };
        sweep = λ y its. ap (was_split y.leaf) (at_more log (x ∷ []) r.floor mine.saw.floor) ∙ mine.sweep y its;
        fresh = mine.fresh;
      }

  others' : (b : ℕ) (t : Actor) → b ≢ a → slice_get s.actors b ≡ Some t → Suits b' s.shards s.pages b t
  others' b t n its =
      let o = k.each b t its in
      let h = o.holds in
      let board : board_actor b' b ≡ board_actor s.board b = get_or-set_other s.board.actors a b (set_claim None (board_actor s.board a)) idle n in
      record {
        saw = saw_more s.board b' x refl refl floor_rises t o.saw;
        own = ap (filter (λ (m : Entered). m.session == b)) entered_is ∙ o.own;
        holds = record {
          claim = ap (λ (z : ActorState). z.claim) board ∙ h.claim;
          reserved = ap (λ (z : ActorState). z.reserved) board ∙ h.reserved;
          pin = ap (λ (z : ActorState). z.pin) board ∙ h.pin;
          shard = h.shard;
          leaf = λ p cl. leaf_split g log w.leaf p (apart_leaf b t p n its cl) (h.leaf p cl);
          split = h.split;
          room = h.room;
        };
        sweep = λ y sw. ap (was_split y.leaf) (at_more log (x ∷ []) t.floor o.saw.floor) ∙ o.sweep y sw;
        fresh = o.fresh;
      }

  -- a leaf that was split is not the one that is split now
  not_now : (p : List ℕ) → was_split p log ≡ true → same_cell p w.leaf ≡ false
  not_now p h = not_true (same_cell p w.leaf) (λ e.
      let o = some_of (belongs g w.leaf) (live (updates_of log)) (let n = (wanted c log w.leaf still).1.1 in omega arith) in
      let past = past_later c k.limits p log k.legal (length log) (length log) (omega arith) (ap (was_split p) (take_all (length log) log (omega arith)) ∙ h) in
      let same : p ≡ w.leaf = same_cell_is p w.leaf e in
      let deeper = past.deeper o.0.vector (subst (λ (n : List ℕ). begins n (g.perm o.0.vector) ≡ true) (sym same) o.1) in
      let deep = leaf_deep g ok log may_split w.leaf o.0.vector (mine.holds.leaf w.leaf claim) o.1 in
      omega (arith, deeper, deep, ap length same, ap (λ (l : List LogEvent). depth g l (g.perm o.0.vector)) (take_all (length log) log (omega arith))))

  any_last : (p : List ℕ) (ps : List (List ℕ)) → list_any (same_cell p) ps ≡ false → same_cell p w.leaf ≡ false → list_any (same_cell p) (ps ++ w.leaf ∷ []) ≡ false
  any_last p ps h n = list_any-append (same_cell p) ps (w.leaf ∷ []) ∙ rw (h, n) refl

  -- an earlier part of the log has no more splits
  earlier_split : (p : List ℕ) (n : ℕ) (l : List LogEvent) → was_split p (take n l) ≡ true → was_split p l ≡ true
  earlier_split p zero l h = absurd (false≢true h)
  earlier_split p (suc n) [] h = absurd (false≢true h)
  earlier_split p (suc n) (z ∷ l) h =
      let P : Bool → Type 0 = λ b. (b || was_split p (take n l)) ≡ true → (b || was_split p l) ≡ true in
      (elim (is_split_of p z) as P [ true ↦ λ _. refl | false ↦ λ m. earlier_split p n l m ]) h

  retired_now : (ps : List (List ℕ)) → AreRetired log s.actors ps → AreRetired (log ++ x ∷ []) s.actors (ps ++ w.leaf ∷ [])
  retired_now [] h = (
    list_any-append (is_split_of w.leaf) log (x ∷ []) ∙ rw (same_self w.leaf) (or_true (was_split w.leaf log)),
    refl,
    (λ b t y its sw. not_true (same_cell w.leaf y.leaf) (λ e.
        let was = earlier_split y.leaf (events_at t.floor) log ((k.each b t its).sweep y sw) in
        false≢true (sym (not_now y.leaf was) ∙ subst (λ (n : List ℕ). same_cell n w.leaf ≡ true) (same_cell_is w.leaf y.leaf e) (same_self w.leaf)))),
    tt,
  )
  retired_now (p ∷ ps) h = (list_any-append (is_split_of p) log (x ∷ []) ∙ ap (λ z. z || list_any (is_split_of p) (x ∷ [])) h.0, any_last p ps h.1 (not_now p h.0), h.2, retired_now ps h.3)

  pages_are : ArePages b' s.pages actors' k.chain
  pages_are =
      let p = k.pages in
      record {
        forest = forest_held (forest_of s.board s.pages s.actors k.chain) (λ n. count_if (has_page n) actors') (held_by_all s.actors a r q there refl) p.forest;
        linked = p.linked;
        there = p.there;
        height = p.height;
        length_is = p.length_is;
        most = p.most;
        passed_over = λ y ys h. let o = some_before (λ z. not (same_cell w.leaf z)) s.board.passed_over y ys h in p.passed_over o.0 o.1 o.2;
      }

  pub publish_keeps : Sound (after s a r publish)
  publish_keeps = subst (λ (o : Option (List ℕ)). Sound (put_actor a (record (saw (with_split (leaf_or o) a s.board) r) { claim = None; split = None }) (put_board (with_split (leaf_or o) a s.board) s))) (sym claim) (record {
    limits = k.limits;
    metric = k.metric;
    chain = k.chain;
    pages = pages_are;
    entries = entries';
    each = each_set s.actors a r q there (λ b t. Suits b' s.shards s.pages b t) own' others';
    retired = retired_by s.actors a r q there refl (log ++ x ∷ []) (s.board.retired ++ w.leaf ∷ []) (retired_now s.board.retired k.retired);
    order = order_published s.board.retired log w.leaf k.order;
    sixteen = k.sixteen;
    holders = λ n b h. holders_by s.actors a r q there refl n b (k.holders n b h);
    claims = claims_end s.actors a r q there refl k.claims;
    sweeps = sweeps_by s.actors a r q there refl k.sweeps;
    records = λ n i lt. k.records n i lt ∙ ap (λ (us : List Update). cond (n == home i) (record_of c (find (λ o. o.id == i) (born us))) None) (sym (updates_of_split log w.leaf));
    counted = length-set s.board.actors a (set_claim None (board_actor s.board a)) ∙ k.counted ∙ sym (length-set s.actors a q);
    made = subst (AllByRecursion (λ (m : Entered). m.session < length actors')) (sym entered_is)
        (all_weaker _ _ (λ m l. omega (arith, l, length-set s.actors a q)) (entered log) k.made);
    legal = split_legal c k.limits log k.legal w.leaf still (map (placed_object g) (filter (belongs g w.leaf) (live (updates_of log)))) (record { sums = λ f. refl });
  })

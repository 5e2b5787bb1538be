-- A split that is given up keeps what is kept.
use Rattle.std.proofs.Common.{◌≡◌, ◌≢◌, ℕ, ◌+◌, ◌<◌, ◌≤◌, List, [], ◌∷◌, map, length, take, set, Bool, true, false, cond, ◌&&◌, refl, sym, ap, ◌∙◌, subst, arith, Option, Some, None, inl, inr, length-set, get_or-set_other, get_or-set_same, eq-eqb}
use Rattle.std.specs.Prelude.{slice_get}
use Rattle.std.specs.List.{AllByRecursion, filter}
use Rattle.std.proofs.lemmas.Bool.{and_from, false≢true, lt-ltb}
use Rattle.std.proofs.lemmas.Option.{none-some, same_Some}
use Rattle.mi_base.specs.declared.records.LogEvent.{LogEvent}
use Rattle.mi_base.specs.declared.records.Position.{Position}
use Rattle.mi_base.specs.Configuration.{Configuration}
use Rattle.mi_base.specs.History.{end_of, entered, events_at}
use Rattle.mi_base.proofs.SortingLemmas.{same_length}
use Rattle.mi_key.specs.declared.entries.Entry.{Entry}
use Rattle.mi_tree.specs.Cells.{Grid}
use Rattle.mi_core.specs.Actors.{Suits}
use Rattle.mi_board.specs.Boards.{passing, leaf_claimed, floor_of, BoardState, with_actor}
use Rattle.mi_board.specs.Actors.{idle}
use Rattle.mi_board.specs.declared.actors.ActorState.{ActorState}
use Rattle.mi_core.specs.Effects.{saw}
use Rattle.mi_entries.specs.Entries.{HasPlace, IsUnswept, IsWorked, born_in, depth_of, is_ahead, is_under, key_down, grid}
use Rattle.mi_core.specs.Events.{after}
use Rattle.mi_core.specs.Events.Event.{give_up}
use Rattle.mi_forest.specs.Forests.{all_entries}
use Rattle.mi_core.specs.Sound.{Sound}
use Rattle.mi_core.specs.Pages.{forest_of, has_page}
use Rattle.mi_entries.specs.Splits.{AreEntries, copy_in_child}
use Rattle.mi_core.specs.State.{count_if, State, board_actor, put_actor, put_board}
use Rattle.mi_entries.specs.Actors.{Actor, SplitWork}
use Rattle.mi_core.proofs.ActorLemmas.{set_claim, claims_end, each_set, ends_split, held_by_all, holders_by, retired_by, sweeps_by}
use Rattle.mi_entries.proofs.ContentLemmas.{EndsSplit}
use Rattle.mi_core.proofs.FloorLemmas.{least_same}
use Rattle.mi_core.proofs.KeptLemmas.{on_board}
use Rattle.mi_core.proofs.PageLemmas.{forest_held}
use Rattle.mi_entries.proofs.FilterLemmas.{all_both}
use Rattle.mi_tree.proofs.ListLemmas.{all_weaker, filter_twice}

none_pass : {X : Type 0} (t : X → Bool) (xs : List X) → length (filter t xs) ≤ 0 → AllByRecursion (λ x. t x ≡ false) xs
none_pass t [] h = tt
none_pass {X = X} t (x ∷ xs) h =
    let P : Bool → Type 0 = λ b. t x ≡ b → length (cond b (x ∷ filter t xs) (filter t xs)) ≤ 0 → (t x ≡ false) × AllByRecursion (λ y. t y ≡ false) xs in
    (elim (t x) as P [ true ↦ λ e l. absurd (omega arith) | false ↦ λ e l. (e, none_pass t xs l) ]) refl h

module _ (s : State) (k : Sound s) (a : ℕ) (r : Actor) (there : slice_get s.actors a ≡ Some r) (p : List ℕ) (claim : r.claim ≡ Some p)
    (undone : (w : SplitWork) → r.split ≡ Some w → w.copied ≡ 0) (passed : List (List ℕ)) (few : (x : List ℕ) (xs : List (List ℕ)) → passed ≡ x ∷ xs → s.board.allotted ≡ s.board.settings.pages) where
  abbrev c : Configuration
  c = s.board.settings

  abbrev g : Grid
  g = grid s.board.settings

  abbrev log : List LogEvent
  log = s.board.log

  abbrev F : List Entry
  F = all_entries (forest_of s.board s.pages s.actors k.chain)

  abbrev b' : BoardState
  b' = record (with_actor (set_claim None) a s.board) { passed_over = passed }

  abbrev q : Actor
  q = record (saw s.board r) { claim = None; split = None }

  abbrev actors' : List Actor
  actors' = set s.actors a q

  mine : Suits s.board s.shards s.pages a r
  mine = k.each a r there

  low_actor : a < length s.board.actors
  low_actor = on_board s k a r there

  ends : EndsSplit s.actors actors' a
  ends = ends_split s.actors a r q there refl refl

  floor_same : floor_of b' ≡ floor_of s.board
  floor_same = least_same (set_claim None) (λ x. refl) (end_of log) s.board.actors a

  -- a split without copies has no entry ahead
  none_ahead : (w : SplitWork) → r.split ≡ Some w → AllByRecursion (λ e. (is_under g w.leaf e && is_ahead g log e) ≡ false) F
  none_ahead w h =
      let work = k.entries.works a r w there h in
      let none : length (map (copy_in_child g w.leaf) (take w.copied w.gathered)) ≡ 0 = ap (λ n. length (map (copy_in_child g w.leaf) (take n w.gathered))) (undone w h) in
      let same = same_length _ _ work.copies in
      none_pass (λ e. is_under g w.leaf e && is_ahead g log e) F (omega (arith, none, same, ap (λ (es : List Entry). length es) (filter_twice (is_ahead g log) (is_under g w.leaf) F)))

  -- whoever works on an entry ahead is another
  module _ (e : Entry) (h : HasPlace c log s.actors s.board.retired e) (out : (w : SplitWork) → r.split ≡ Some w → (is_under g w.leaf e && is_ahead g log e) ≡ false) where
    worked : h.is.down ≡ depth_of g log e + 1 → IsWorked g s.actors e.vector → IsWorked g actors' e.vector
    worked d i =
        let deep = h.is.deep in
        let ahead : is_ahead g log e ≡ true = and_from _ _ (lt-ltb (depth_of g log e) c.levels (omega arith)) (eq-eqb e.key (key_down g (depth_of g log e + 1) (born_in e)) (h.is.keyed ∙ ap (λ n. key_down g n (born_in e)) d)) in
        let other : i.by ≢ a = λ b.
        let actor_is : i.actor ≡ r = same_Some i.actor r (sym i.there ∙ ap (slice_get s.actors) b ∙ there) in
        false≢true (sym (out i.work (sym (ap (λ (t : Actor). t.split) actor_is) ∙ i.split)) ∙ and_from (is_under g i.work.leaf e) (is_ahead g log e) i.under ahead) in
        let n = ends.split i.by i.work other (record { actor = i.actor; there = i.there; split = i.split }) in
        record { by = i.by; actor = n.actor; there = n.there; work = i.work; split = n.split; under = i.under }

    unswept : IsUnswept g s.actors e → IsUnswept g actors' e
    unswept u =
        let n = ends.sweep u.by u.work (record { actor = u.actor; there = u.there; sweep = u.sweep }) in
        record { by = u.by; actor = n.actor; there = n.there; work = u.work; sweep = n.sweep; lies = u.lies; ahead = u.ahead }

    place_now : HasPlace c log actors' s.board.retired e
    place_now = record {
      is = h.is;
      copied = λ d. let m = h.copied d in (m.0, worked d m.1);
      left = λ l. elim (h.left l) [ inl t ↦ inl t | inr u ↦ inr (unswept u) ];
    }

  places' : AllByRecursion (HasPlace c log actors' s.board.retired) F
  places' =
      let P : Option SplitWork → Type 0 = λ o. r.split ≡ o → AllByRecursion (HasPlace c log actors' s.board.retired) F in
      (elim r.split as P [
        | None ↦ λ e. all_weaker _ _ (λ x h. place_now x h (λ w t. absurd (none-some w (sym e ∙ t)))) F k.entries.places
        | Some w ↦ λ e. all_weaker _ _ (λ x h. place_now x h.0 (λ y t. let same : w ≡ y = same_Some w y (sym e ∙ t) in subst (λ (z : SplitWork). (is_under g z.leaf x && is_ahead g log x) ≡ false) same h.1)) F (all_both _ _ F k.entries.places (none_ahead w e))
      ]) refl

  entries' : AreEntries c log (events_at (floor_of b')) actors' s.board.retired F
  entries' = subst (λ (f : Position). AreEntries c log (events_at f) actors' s.board.retired F) (sym floor_same) (record {
    places = places';
    shows = k.entries.shows;
    works = λ b t w e h. let o = ends.back b w (record { actor = t; there = e; split = h }) in k.entries.works b o.0.actor w o.0.there o.0.split;
  })

  own' : Suits b' s.shards s.pages a q
  own' =
      let h = mine.holds in
      let board : board_actor b' a ≡ set_claim None (board_actor s.board a) = get_or-set_same s.board.actors a (set_claim None (board_actor s.board a)) idle low_actor in
      record {
        saw = (let v = mine.saw in record { seen = omega arith; floor = v.floor; low = subst (λ (f : Position). events_at r.floor ≤ events_at f) (sym floor_same) v.low; pin = v.pin });
        own = mine.own;
        holds = record {
          claim = ap (λ (z : ActorState). z.claim) board;
          reserved = ap (λ (z : ActorState). z.reserved) board ∙ h.reserved;
          pin = ap (λ (z : ActorState). z.pin) board ∙ h.pin;
          shard = h.shard;
          leaf = λ x e. absurd (none-some x e);
          split = λ w e. absurd (none-some w e);
          room = h.room;
        };
        sweep = mine.sweep;
        fresh = mine.fresh;
      }

  others' : (b : ℕ) (t : Actor) → b ≢ a → slice_get s.actors b ≡ Some t → Suits b' s.shards s.pages b t
  others' b t n e =
      let o = k.each b t e in
      let h = o.holds in
      let board : board_actor b' b ≡ board_actor s.board b = get_or-set_other s.board.actors a b (set_claim None (board_actor s.board a)) idle n in
      record {
        saw = (let v = o.saw in record { seen = v.seen; floor = v.floor; low = subst (λ (f : Position). events_at t.floor ≤ events_at f) (sym floor_same) v.low; pin = v.pin });
        own = o.own;
        holds = record {
          claim = ap (λ (z : ActorState). z.claim) board ∙ h.claim;
          reserved = ap (λ (z : ActorState). z.reserved) board ∙ h.reserved;
          pin = ap (λ (z : ActorState). z.pin) board ∙ h.pin;
          shard = h.shard;
          leaf = h.leaf;
          split = h.split;
          room = h.room;
        };
        sweep = o.sweep;
        fresh = o.fresh;
      }

  pub given_up : Sound (put_actor a q (put_board b' s))
  given_up = record {
    limits = k.limits;
    metric = k.metric;
    chain = k.chain;
    pages = (let p = k.pages in record {
      forest = forest_held (forest_of s.board s.pages s.actors k.chain) (λ n. count_if (has_page n) actors') (held_by_all s.actors a r q there refl) p.forest;
      linked = p.linked;
      there = p.there;
      height = p.height;
      length_is = p.length_is;
      most = p.most;
      passed_over = few;
    });
    entries = entries';
    each = each_set s.actors a r q there (λ b t. Suits b' s.shards s.pages b t) own' others';
    retired = retired_by s.actors a r q there refl log s.board.retired k.retired;
    order = k.order;
    sixteen = k.sixteen;
    holders = λ n b h. holders_by s.actors a r q there refl n b (k.holders n b h);
    claims = claims_end s.actors a r q there refl k.claims;
    sweeps = sweeps_by s.actors a r q there refl k.sweeps;
    records = k.records;
    counted = length-set s.board.actors a (set_claim None (board_actor s.board a)) ∙ k.counted ∙ sym (length-set s.actors a q);
    made = all_weaker _ _ (λ m l. omega (arith, l, length-set s.actors a q)) (entered log) k.made;
    legal = k.legal;
  }

pub give_up_keeps : (s : State) (k : Sound s) (a : ℕ) (r : Actor) (there : slice_get s.actors a ≡ Some r) (pages : Bool) (p : List ℕ) → r.claim ≡ Some p → ((w : SplitWork) → r.split ≡ Some w → w.copied ≡ 0)
    → (pages ≡ true → s.board.allotted ≡ s.board.settings.pages) → Sound (after s a r (give_up pages))
give_up_keeps s k a r there pages p claim undone told = given_up s k a r there p claim undone (cond pages (passing (leaf_claimed s.board a) s.board) s.board.passed_over) (few pages told)
  where
    few : (b : Bool) → (b ≡ true → s.board.allotted ≡ s.board.settings.pages) → (x : List ℕ) (xs : List (List ℕ)) → cond b (passing (leaf_claimed s.board a) s.board) s.board.passed_over ≡ x ∷ xs → s.board.allotted ≡ s.board.settings.pages
    few true t x xs e = t refl
    few false t x xs e = k.pages.passed_over x xs e

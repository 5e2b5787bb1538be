-- A split that begins, that goes on gathering, and that is given up keep what is kept.
use Rattle.std.proofs.Common.{◌≡◌, ℕ, ℤ, ◌<◌, List, length, set, nat_lt, true, ◌&&◌, refl, sym, ap, ◌∙◌, subst, arith, Option, Some, None, inl, inr, length-set}
use Rattle.std.specs.Prelude.{slice_get}
use Rattle.std.specs.List.{filter}
use Rattle.std.proofs.lemmas.Bool.{and_parts, cases_eq, ltb-true}
use Rattle.mi_base.specs.declared.records.LogEvent.{LogEvent}
use Rattle.mi_base.specs.declared.records.LogEvent.TheVariants.{Split}
use Rattle.mi_base.specs.Configuration.{Configuration}
use Rattle.mi_base.specs.History.{entered, events_at}
use Rattle.mi_base.specs.Permutations.{begins}
use Rattle.mi_key.specs.declared.entries.Entry.{Entry}
use Rattle.mi_page.specs.Nodes.{Node, in_range}
use Rattle.mi_tree.specs.Cells.{Grid, AllMaySplit, is_leaf}
use Rattle.mi_tree.specs.Legal.{MayFollow}
use Rattle.mi_tree.proofs.LegalLemmas.{all_may, wanted}
use Rattle.mi_core.specs.Actors.{Suits}
use Rattle.mi_board.specs.Boards.{floor_of}
use Rattle.mi_entries.specs.Marks.{begun, cell_start, split_or, gather_more}
use Rattle.mi_entries.specs.Entries.{HasPlace, IsUnswept, IsWorked, counts, is_ahead, is_under, grid, born_in}
use Rattle.mi_core.specs.Events.{after, leaf_or, with_split_at, IsLeafPage}
use Rattle.mi_core.specs.Events.Event.{gather, start}
use Rattle.mi_forest.specs.Forests.{all_entries, Forest}
use Rattle.mi_core.specs.Sound.{Sound}
use Rattle.mi_core.proofs.KeptLemmas.{keys_rise}
use Rattle.mi_core.specs.Pages.{forest_of, has_page, node_or_fresh}
use Rattle.mi_entries.specs.Splits.{AreEntries, IsWork}
use Rattle.mi_core.specs.State.{count_if, State, put_actor}
use Rattle.mi_entries.specs.Actors.{Actor, SplitWork}
use Rattle.mi_core.proofs.ActorLemmas.{«is», at_set, claims_by, each_set, held_by_all, holders_by, retired_by, set_else, set_there, sweeps_by}
use Rattle.std.proofs.lemmas.Option.{none-some, same_Some}
use Rattle.mi_entries.proofs.ContentLemmas.{Copies, ahead_down, place_stays}
use Rattle.mi_entries.proofs.DepthLemmas.{IsKeyed}
use Rattle.mi_entries.proofs.KeyedLemmas.{is_keyed}
use Rattle.mi_core.proofs.PageLemmas.{forest_held}
use Rattle.mi_entries.proofs.FilterLemmas.{not_true, same_is}
use Rattle.mi_tree.proofs.ListLemmas.{all_weaker, filter_none, filter_twice}
use Rattle.mi_page.specs.Keys.{IsInside}
use Rattle.mi_forest.proofs.FlatLemmas.{leaf_entries}
use Rattle.mi_entries.proofs.GatherLemmas.{at_leaf_key, more_work}
use Rattle.mi_entries.proofs.RetiredLemmas.{from_start}
use Rattle.mi_tree.proofs.LeafLemmas.{leaf_is}

module _ (s : State) (k : Sound s) (a : ℕ) (r : Actor) (there : slice_get s.actors a ≡ Some r) where
  abbrev c : Configuration
  c = s.board.settings

  abbrev g : Grid
  g = grid s.board.settings

  abbrev log : List LogEvent
  log = s.board.log

  abbrev F : List Entry
  F = all_entries (forest_of s.board s.pages s.actors k.chain)

  mine : Suits s.board s.shards s.pages a r
  mine = k.each a r there

  ok : IsKeyed g
  ok = is_keyed c k.limits

  may_split : AllMaySplit g log
  may_split = all_may c log k.legal

  -- a leaf that is claimed by an actor without a split is split by nobody
  module _ (p : List ℕ) (claim : r.claim ≡ Some p) where
    alone : (b : ℕ) (t : Actor) (w : SplitWork) → slice_get s.actors b ≡ Some t → t.split ≡ Some w → w.leaf ≡ p → b ≡ a
    alone b t w e h same = k.claims b a t r p e there ((k.each b t e).holds.split w h ∙ ap Some same) claim

    leaf : is_leaf g log p ≡ true
    leaf = mine.holds.leaf p claim

  -- an event that changes the actor's split alone, which was of the same leaf
  module _ (q : Actor) (w' : SplitWork) (now : q.split ≡ Some w') (claim : r.claim ≡ Some w'.leaf)
      (shard : q.shard ≡ r.shard) (claimed : q.claim ≡ r.claim) (sweep : q.sweep ≡ r.sweep) (fresh : q.fresh ≡ r.fresh) where
    abbrev actors' : List Actor
    actors' = set s.actors a q

    pub copies : Copies s.actors actors' a w' w'
    copies = record {
      now = record { actor = q; there = set_there s.actors a q r there; split = now };
      split = λ b x n h. record { actor = h.actor; there = set_else s.actors a b q n ∙ h.there; split = h.split };
      sweep = λ b x h. let n = «is» s.actors a r q there (λ t. t.sweep) sweep b h.actor h.there in record { actor = n.0; there = n.1; sweep = n.2 ∙ h.sweep };
      back = λ b x h. elim (at_set s.actors a b q h.actor h.there) [
        | inl m ↦ inl (m.0, sym (same_Some w' x (sym now ∙ ap (λ (t : Actor). t.split) m.1 ∙ h.split)))
        | inr m ↦ inr (m.0, record { actor = h.actor; there = m.1; split = h.split })
      ];
    }

    pub worked : (v : List ℤ) → IsWorked g s.actors v → IsWorked g actors' v
    worked v i = elim (cases_eq i.by a) [
      | inl b ↦
          let actor_is : i.actor ≡ r = same_Some i.actor r (sym i.there ∙ ap (slice_get s.actors) b ∙ there) in
          let leaf_is : i.work.leaf ≡ w'.leaf = same_Some i.work.leaf w'.leaf (sym ((k.each i.by i.actor i.there).holds.split i.work i.split) ∙ ap (λ (t : Actor). t.claim) actor_is ∙ claim) in
          record { by = a; actor = q; there = set_there s.actors a q r there; work = w'; split = now; under = ap (λ p. begins p (g.perm v)) (sym leaf_is) ∙ i.under }
      | inr n ↦ record { by = i.by; actor = i.actor; there = set_else s.actors a i.by q n ∙ i.there; work = i.work; split = i.split; under = i.under }
    ]

    pub unswept : (e : Entry) → IsUnswept g s.actors e → IsUnswept g actors' e
    unswept e u =
        let m = copies.sweep u.by u.work (record { actor = u.actor; there = u.there; sweep = u.sweep }) in
        record { by = u.by; actor = m.actor; there = m.there; work = u.work; sweep = m.sweep; lies = u.lies; ahead = u.ahead }

    pub entries_work : IsWork g log F w' → AreEntries c log (events_at (floor_of s.board)) actors' s.board.retired F
    entries_work work = record {
      places = all_weaker _ _ (λ e h. place_stays c log s.actors actors' s.board.retired e (worked e.vector) (unswept e) h) F k.entries.places;
      shows = k.entries.shows;
      works = λ b t x e h. elim (copies.back b x (record { actor = t; there = e; split = h })) [
        | inl m ↦ subst (IsWork g log F) (sym m.1) work
        | inr m ↦ k.entries.works b m.1.actor x m.1.there m.1.split
      ];
    }

    pub work_keeps : IsWork g log F w' → Suits s.board s.shards s.pages a q → Sound (put_actor a q s)
    work_keeps work own = record {
      limits = k.limits;
      metric = k.metric;
      chain = k.chain;
      pages = (let p = k.pages in record {
        forest = forest_held (forest_of s.board s.pages s.actors k.chain) (λ n. count_if (has_page n) actors') (held_by_all s.actors a r q there fresh) p.forest;
        linked = p.linked;
        there = p.there;
        height = p.height;
        length_is = p.length_is;
        most = p.most;
        passed_over = p.passed_over;
      });
      entries = entries_work work;
      each = each_set s.actors a r q there (λ b t. Suits s.board s.shards s.pages b t) own (λ b t n e. k.each b t e);
      retired = retired_by s.actors a r q there sweep log s.board.retired k.retired;
      order = k.order;
      sixteen = k.sixteen;
      holders = λ n b h. holders_by s.actors a r q there shard n b (k.holders n b h);
      claims = claims_by s.actors a r q there claimed k.claims;
      sweeps = sweeps_by s.actors a r q there sweep k.sweeps;
      records = k.records;
      counted = k.counted ∙ sym (length-set s.actors a q);
      made = all_weaker _ _ (λ m l. omega (arith, l, length-set s.actors a q)) (entered log) k.made;
      legal = k.legal;
    }

  -- a split that has gathered nothing stands where nobody splits the leaf
  module _ (p : List ℕ) (claim : r.claim ≡ Some p) (none : r.split ≡ None) (above : length p < g.levels) where
    no_ahead : (e : Entry) → HasPlace c log s.actors s.board.retired e → is_under g p e ≡ true → is_ahead g log e ≡ true → ⊥
    no_ahead e h u t =
        let w = (h.copied (ahead_down c ok log may_split e h.is t)).1 in
        let theirs = (k.each w.by w.actor w.there).holds in
        let leaf_is : w.work.leaf ≡ p = leaf_is g ok.grid log may_split w.work.leaf e.vector (theirs.leaf w.work.leaf (theirs.split w.work w.split)) w.under ∙ sym (leaf_is g ok.grid log may_split p e.vector (leaf p claim) u) in
        let one = alone p claim w.by w.actor w.work w.there w.split leaf_is in
        let actor_is : w.actor ≡ r = same_Some w.actor r (sym w.there ∙ ap (slice_get s.actors) one ∙ there) in
        none-some w.work (sym none ∙ ap (λ (t : Actor). t.split) (sym actor_is) ∙ w.split)

    pub begun_work : IsWork g log F (begun g p)
    begun_work = record {
      leaf = leaf p claim;
      above = above;
      gathered = sym (filter_twice (λ e. counts g log e && nat_lt e.key (cell_start g p)) (is_under g p) F
          ∙ filter_none (λ e. is_under g p e && (counts g log e && nat_lt e.key (cell_start g p))) F (all_weaker _ _ (λ e h. not_true _ (λ t.
          let both = and_parts (is_under g p e) (counts g log e && nat_lt e.key (cell_start g p)) t in
          let pair = and_parts (counts g log e) (nat_lt e.key (cell_start g p)) both.1 in
          let key = at_leaf_key c k.limits log k.legal p (leaf p claim) e h both.0 pair.0 in
          let start = from_start g p (born_in e) in
          let less = ltb-true e.key (cell_start g p) pair.1 in
          omega (arith, key, start, less))) F k.entries.places));
      few = omega arith;
      copies = same_is _ _ (filter_twice (is_ahead g log) (is_under g p) F
          ∙ filter_none (λ e. is_under g p e && is_ahead g log e) F (all_weaker _ _ (λ e h. not_true _ (λ t. let both = and_parts (is_under g p e) (is_ahead g log e) t in no_ahead e h both.0 both.1)) F k.entries.places));
    }

  -- the record of an actor whose split is of the same leaf
  module _ (page : ℕ) (w' : SplitWork) (claim : r.claim ≡ Some w'.leaf) where
    own_work : Suits s.board s.shards s.pages a (with_split_at (Some w') page r)
    own_work =
        let h = mine.holds in
        record {
          saw = (let v = mine.saw in record { seen = v.seen; floor = v.floor; low = v.low; pin = v.pin });
          own = mine.own;
          holds = record { claim = h.claim; reserved = h.reserved; pin = h.pin; shard = h.shard; leaf = h.leaf; split = λ y z. claim ∙ ap (λ (y : SplitWork). Some y.leaf) (same_Some w' y z); room = h.room };
          sweep = mine.sweep;
          fresh = mine.fresh;
        }

    pub split_keeps : IsWork g log F w' → Sound (put_actor a (with_split_at (Some w') page r) s)
    split_keeps work = work_keeps (with_split_at (Some w') page r) w' refl claim refl refl refl refl work own_work

  module _ (p : List ℕ) (claim : r.claim ≡ Some p) (may : MayFollow c log (Split p)) where
    abbrev w : SplitWork
    w = split_or g p r.split

    -- the split so far
    so_far : (r.claim ≡ Some w.leaf) × IsWork g log F w
    so_far =
        let P : Option SplitWork → Type 0 = λ o. r.split ≡ o → (r.claim ≡ Some (split_or g p o).leaf) × IsWork g log F (split_or g p o) in
        (elim r.split as P [
          | None ↦ λ e. (claim, begun_work p claim e (wanted c log p may).1.0)
          | Some x ↦ λ e. (mine.holds.split x e, k.entries.works a r x there e)
        ]) refl

    pub start_keeps : (page : ℕ) → Sound (after s a r (start page))
    start_keeps page = subst (λ (o : Option (List ℕ)). Sound (put_actor a (with_split_at (Some (split_or g (leaf_or o) r.split)) page r) s)) (sym claim) (split_keeps page w so_far.0 so_far.1)

    module _ (page : ℕ) (node : Node) (on : IsLeafPage s page node) (inside : IsInside node.low node.high w.mark) where
      pub gather_keeps : Sound (after s a r (gather page node))
      gather_keeps = subst (λ (o : Option (List ℕ)). Sound (put_actor a (with_split_at (Some (gather_more g (split_or g (leaf_or o) r.split) node)) page r) s)) (sym claim)
          (split_keeps page (gather_more g w node) so_far.0
          (more_work c k.limits log k.legal s.actors s.board.retired F k.entries.places (keys_rise s k) node own_entries w so_far.1 inside))
        where
          old : Forest
          old = forest_of s.board s.pages s.actors k.chain

          node_is : old.node page ≡ node
          node_is = ap node_or_fresh on.there

          own_entries : filter (λ e. in_range node e.key) F ≡ node.entries
          own_entries = subst (λ (n : Node). filter (λ e. in_range n e.key) F ≡ n.entries) node_is
              (leaf_entries old k.pages.forest page (k.pages.linked page node on.there) (ap (λ (n : Node). n.level) node_is ∙ on.level))

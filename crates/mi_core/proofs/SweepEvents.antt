-- A sweep of one page keeps what is kept.
use Rattle.mi_entries.proofs.RetiredLemmas.{from_start, IsPast, in_cell, past_later, below_end}
use Rattle.std.proofs.Common.{◌≡◌, ◌≢◌, ℕ, ℤ, ◌-◌, ◌<◌, ◌≤◌, ◌==◌, List, [], ◌∷◌, length, take, set, nat_le, take_all, Bool, true, false, cond, not, ◌&&◌, refl, sym, ap, ◌∙◌, subst, arith, Option, Some, None, inl, inr, length-set, get_or-set_other}
use Rattle.std.specs.Prelude.{slice_get}
use Rattle.std.specs.List.{AllByRecursion, filter}
use Rattle.std.proofs.lemmas.Bool.{cases_eq, false≢true, ne_eqb, lt-ltb, and_from, and_parts, eqb-true, le-leb, ltb-false}
use Rattle.mi_base.specs.declared.records.LogEvent.{LogEvent}
use Rattle.mi_base.specs.Configuration.{Configuration}
use Rattle.mi_base.specs.History.{at_position, entered, events_at}
use Rattle.mi_base.specs.Permutations.{begins}
use Rattle.mi_key.specs.declared.entries.Entry.{Entry}
use Rattle.mi_page.specs.Nodes.{Node, in_range}
use Rattle.mi_tree.specs.Cells.{Grid, AllMaySplit, same_cell, MaySplit}
use Rattle.mi_tree.proofs.LegalLemmas.{all_may}
use Rattle.mi_core.specs.Actors.{Suits}
use Rattle.mi_tree.specs.Births.{was_split}
use Rattle.mi_core.specs.Claims.{AreRetired, SweepAlone}
use Rattle.mi_board.specs.Boards.{floor_of}
use Rattle.mi_entries.specs.Marks.{cell_end, cell_range, cell_start, mark_past, swept_on}
use Rattle.mi_core.specs.Effects.{sweep_node}
use Rattle.mi_entries.specs.Entries.{HasPlace, born_in, depth_of, key_down, key_in, grid, counts, is_under, IsUnswept, IsWorked, is_ahead, is_in, is_down}
use Rattle.mi_core.specs.Events.{IsLeafPage, after, sweep_leaf, sweep_next}
use Rattle.mi_core.specs.Events.Event.{sweep}
use Rattle.mi_forest.specs.Forests.{all_entries}
use Rattle.mi_core.specs.Sound.{Sound}
use Rattle.mi_core.specs.Pages.{ArePages, forest_of}
use Rattle.mi_entries.specs.Splits.{AreEntries}
use Rattle.mi_entries.specs.Actors.{Actor, SweepWork}
use Rattle.mi_core.specs.State.{State, node_at, put_actor, put_page}
use Rattle.mi_core.proofs.ActorLemmas.{«is», at_set, was, claims_by, each_set, held_by_all, holders_by, set_else, set_there}
use Rattle.std.proofs.lemmas.Option.{none-some, same_Some}
use Rattle.mi_entries.proofs.ContentLemmas.{ahead_down, place_stays, shows_dropped, work_dropped}
use Rattle.mi_core.proofs.KeptLemmas.{floor_position, some_none}
use Rattle.mi_entries.proofs.KeyedLemmas.{is_keyed}
use Rattle.mi_core.proofs.PageLemmas.{flat_fewer, forest_fewer, linked_set, root_set, there_set}
use Rattle.mi_entries.proofs.DepthLemmas.{depth_deep, IsKeyed, not_down}
use Rattle.mi_entries.proofs.FilterLemmas.{all_where, not_true, and_no}
use Rattle.mi_tree.proofs.ListLemmas.{all_weaker, all_take}
use Rattle.mi_tree.proofs.LeafLemmas.{begins_is}
use Rattle.mi_key.specs.Ranges.{is_within}
use Rattle.mi_page.specs.Keys.{IsInside, is_below}

module _ (s : State) (k : Sound s) (a : ℕ) (r : Actor) (there : slice_get s.actors a ≡ Some r) (page : ℕ) (node : Node) (on : IsLeafPage s page node)
    (w : SweepWork) (its : r.sweep ≡ Some w) (inside : IsInside node.low node.high w.mark) where
  abbrev c : Configuration
  c = s.board.settings

  abbrev g : Grid
  g = grid s.board.settings

  abbrev log : List LogEvent
  log = s.board.log

  abbrev q : Actor
  q = record r { page = page; sweep = swept_on g w node }

  abbrev actors' : List Actor
  actors' = set s.actors a q

  abbrev swept_page : Node
  swept_page = sweep_node (cell_range g w.leaf) node

  abbrev pages' : List (Option Node)
  pages' = set s.pages page (Some swept_page)

  abbrev F : List Entry
  F = all_entries (forest_of s.board s.pages s.actors k.chain)

  abbrev out : Entry → Bool
  out e = in_range node e.key && is_within (cell_range g w.leaf) e.key

  mine : Suits s.board s.shards s.pages a r
  mine = k.each a r there

  ok : IsKeyed g
  ok = is_keyed c k.limits

  may_split : AllMaySplit g log
  may_split = all_may c log k.legal

  floor_low : events_at (floor_of s.board) ≤ length log
  floor_low = (floor_position s k).within

  past : (m : ℕ) → events_at (floor_of s.board) ≤ m → IsPast c (take m log) w.leaf
  past m le = past_later c k.limits w.leaf log k.legal (events_at r.floor) m (let n = mine.saw.low in omega arith) (mine.sweep w its)

  past_now : IsPast c log w.leaf
  past_now = subst (λ (l : List LogEvent). IsPast c l w.leaf) (take_all (length log) log (omega arith)) (past (length log) floor_low)

  -- what is swept lies in the cell
  lies : (e : Entry) → (h : HasPlace c log s.actors s.board.retired e) → out e ≡ true → (h.is.down ≡ length w.leaf) × (begins w.leaf (g.perm e.vector) ≡ true)
  lies e h t = in_cell c k.limits w.leaf (let n = past_now.above in omega arith) past_now.pivots (born_in e) h.is.fits h.is.down h.is.deep
      (ap (is_within (cell_range g w.leaf)) (sym h.is.keyed) ∙ (and_parts (in_range node e.key) (is_within (cell_range g w.leaf) e.key) t).1)

  no_count : (e : Entry) → HasPlace c log s.actors s.board.retired e → out e ≡ true → (m : ℕ) → events_at (floor_of s.board) ≤ m → m ≤ length log → counts g (take m log) e ≡ false
  no_count e h t m l n =
      let z = lies e h t in
      let d = (past m l).deeper e.vector z.1 in
      and_no _ _ (not_down g ok e h.is.down (depth_of g (take m log) e) h.is.keyed h.is.deep (depth_deep g ok (take m log) (all_take (MaySplit g) m log may_split) (g.perm e.vector)) (omega arith))

  no_ahead : (e : Entry) → HasPlace c log s.actors s.board.retired e → out e ≡ true → is_ahead g log e ≡ false
  no_ahead e h t = not_true (is_ahead g log e) (λ i.
      let z = lies e h t in
      let d = past_now.deeper e.vector z.1 in
      let u = ahead_down c ok log may_split e h.is i in
      omega arith)

  not_yes : (b : Bool) → not b ≡ true → b ≡ false
  not_yes true h = sym h
  not_yes false h = refl

  abbrev next : Option ℕ → Option SweepWork
  next high = cond (mark_past high (cell_end g w.leaf) == cell_end g w.leaf) None (Some (record w { mark = mark_past high (cell_end g w.leaf) }))

  -- what the sweep hasn't reached, it has yet to reach
  unswept : (e : Entry) → HasPlace c log s.actors s.board.retired e → not (out e) ≡ true → IsUnswept g s.actors e → IsUnswept g actors' e
  unswept e h kept u = elim (cases_eq u.by a) [
    | inr n ↦ record { by = u.by; actor = u.actor; there = set_else s.actors a u.by q n ∙ u.there; work = u.work; sweep = u.sweep; lies = u.lies; ahead = u.ahead }
    | inl b ↦
        let actor_is : u.actor ≡ r = same_Some u.actor r (sym u.there ∙ ap (slice_get s.actors) b ∙ there) in
        let work_is : u.work ≡ w = same_Some u.work w (sym u.sweep ∙ ap (λ (t : Actor). t.sweep) actor_is ∙ its) in
        let cell : is_in g w.leaf e ≡ true = subst (λ (x : SweepWork). is_in g x.leaf e ≡ true) work_is u.lies in
        let both = and_parts (is_down g (length w.leaf) e) (is_under g w.leaf e) cell in
        let prefix : take (length w.leaf) (g.perm e.vector) ≡ w.leaf = sym (begins_is w.leaf (g.perm e.vector) both.1) in
        let key : e.key ≡ key_in g w.leaf (born_in e) = eqb-true e.key (key_down g (length w.leaf) (born_in e)) both.0 ∙ ap (λ (p : List ℕ). key_in g p (born_in e)) prefix in
        let last = below_end g w.leaf (born_in e) h.is.fits in
        let start = from_start g w.leaf (born_in e) in
        let range : is_within (cell_range g w.leaf) e.key ≡ true = and_from (nat_le (cell_start g w.leaf) e.key) (nat_le e.key (cell_end g w.leaf - 1)) (le-leb (cell_start g w.leaf) e.key (omega (arith, key))) (le-leb e.key (cell_end g w.leaf - 1) (omega (arith, key))) in
        let ahead : w.mark ≤ e.key = subst (λ (x : SweepWork). x.mark ≤ e.key) work_is u.ahead in
        let low = inside.from_low in
        let outside : in_range node e.key ≡ false = not_true (in_range node e.key) (λ t. false≢true (sym (not_yes (out e) kept) ∙ and_from (in_range node e.key) (is_within (cell_range g w.leaf) e.key) t range)) in
        let beyond : is_below node.high e.key ≡ false = not_true (is_below node.high e.key) (λ t. false≢true (sym outside ∙ and_from (nat_le node.low e.key) (is_below node.high e.key) (le-leb node.low e.key (omega arith)) t)) in
        on_from node.high beyond (omega (arith, key, last)) cell b
  ]
    where
      on_from : (high : Option ℕ) → is_below high e.key ≡ false → e.key < cell_end g w.leaf → is_in g w.leaf e ≡ true → u.by ≡ a → IsUnswept g (set s.actors a (record r { page = page; sweep = next high })) e
      on_from None beyond last cell b = absurd (false≢true (sym beyond))
      on_from (Some h) beyond last cell b =
          let past_high : h ≤ e.key = ltb-false e.key h beyond in
          let mark : mark_past (Some h) (cell_end g w.leaf) ≡ h = ap (λ z. cond z h (cell_end g w.leaf)) (lt-ltb h (cell_end g w.leaf) (omega arith)) in
          let goes : next (Some h) ≡ Some (record w { mark = h }) =
          ap (λ (m : ℕ). cond (m == cell_end g w.leaf) None (Some (record w { mark = m }))) mark ∙ ap (λ z. cond z None (Some (record w { mark = h }))) (ne_eqb h (cell_end g w.leaf) (omega arith)) in
          record {
            by = a;
            actor = record r { page = page; sweep = next (Some h) };
            there = set_there s.actors a (record r { page = page; sweep = next (Some h) }) r there;
            work = record w { mark = h };
            sweep = goes;
            lies = cell;
            ahead = past_high;
          }

  worked : (v : List ℤ) → IsWorked g s.actors v → IsWorked g actors' v
  worked v h = let n = «is» s.actors a r q there (λ t. t.split) refl h.by h.actor h.there in record { by = h.by; actor = n.0; there = n.1; work = h.work; split = n.2 ∙ h.split; under = h.under }

  past_all : AllByRecursion (λ e. out e ≡ true → (m : ℕ) → events_at (floor_of s.board) ≤ m → m ≤ length log → counts g (take m log) e ≡ false) F
  past_all = all_weaker _ _ no_count F k.entries.places

  behind_all : AllByRecursion (λ e. out e ≡ true → is_ahead g log e ≡ false) F
  behind_all = all_weaker _ _ no_ahead F k.entries.places

  left : List Entry
  left = filter (λ e. not (out e)) F

  entries_left : AreEntries c log (events_at (floor_of s.board)) actors' s.board.retired (filter (λ e. not (out e)) F)
  entries_left = record {
    places = all_where (HasPlace c log actors' s.board.retired) (λ e. not (out e)) F
        (all_weaker _ _ (λ e h t. place_stays c log s.actors actors' s.board.retired e (worked e.vector) (unswept e h t) h) F k.entries.places);
    shows = shows_dropped c log (events_at (floor_of s.board)) s.actors s.board.retired F floor_low out past_all behind_all k.entries.shows;
    works = λ b t y e split.
        let n = was s.actors a r q there (λ t. t.split) refl b t e in
        work_dropped c log (events_at (floor_of s.board)) s.actors s.board.retired F floor_low out past_all behind_all y (k.entries.works b n.0 y n.1 (n.2 ∙ split));
  }

  pages_are : ArePages s.board pages' actors' k.chain
  pages_are =
      let p = k.pages in
      let held = held_by_all s.actors a r q there refl in
      record {
        forest = forest_fewer s.board s.pages s.actors actors' k.chain p held page node on.there on.level (λ e. is_within (cell_range g w.leaf) e.key);
        linked = linked_set s.board s.board s.pages s.actors actors' k.chain p refl refl held page node swept_page on.there refl;
        there = there_set s.board s.board s.pages s.actors actors' k.chain p refl refl held page node swept_page on.there refl;
        height = root_set s.board s.board s.pages s.actors actors' k.chain p refl refl held page node swept_page on.there refl;
        length_is = length-set s.pages page (Some swept_page) ∙ p.length_is;
        most = p.most;
        passed_over = p.passed_over;
      }

  entries' : AreEntries c log (events_at (floor_of s.board)) actors' s.board.retired (all_entries (forest_of s.board pages' actors' k.chain))
  entries' = subst (AreEntries c log (events_at (floor_of s.board)) actors' s.board.retired)
      (sym (flat_fewer s.board s.pages s.actors actors' k.chain k.pages (held_by_all s.actors a r q there refl) page node on.there on.level (λ e. is_within (cell_range g w.leaf) e.key))) entries_left

  fresh_more : (p : ℕ) → node_at s.pages p ≡ None → node_at pages' p ≡ None
  fresh_more p h =
      let apart : p ≢ page = λ same. some_none node (sym on.there ∙ ap (node_at s.pages) (sym same) ∙ h) in
      get_or-set_other s.pages page p (Some swept_page) None apart ∙ h

  -- the sweep is of the same leaf, where it goes on
  same_leaf : (high : Option ℕ) (y : SweepWork) → next high ≡ Some y → y.leaf ≡ w.leaf
  same_leaf high y e =
      let P : Bool → Type 0 = λ b. cond b None (Some (record w { mark = mark_past high (cell_end g w.leaf) })) ≡ Some y → y.leaf ≡ w.leaf in
      (elim (mark_past high (cell_end g w.leaf) == cell_end g w.leaf) as P [
        | true ↦ λ h. absurd (none-some y h)
        | false ↦ λ h. ap (λ (x : SweepWork). x.leaf) (sym (same_Some (record w { mark = mark_past high (cell_end g w.leaf) }) y h))
      ]) e

  -- whoever sweeps now swept the same leaf before
  swept_was : (b : ℕ) (t : Actor) (y : SweepWork) → slice_get actors' b ≡ Some t → t.sweep ≡ Some y → (u : Actor) × (x : SweepWork) × (slice_get s.actors b ≡ Some u) × (u.sweep ≡ Some x) × (x.leaf ≡ y.leaf)
  swept_was b t y e h = elim (at_set s.actors a b q t e) [
    | inl m ↦ (r, w, ap (slice_get s.actors) m.0 ∙ there, its, sym (same_leaf node.high y (ap (λ (t : Actor). t.sweep) m.1 ∙ h)))
    | inr m ↦ (t, y, m.1, h, refl)
  ]

  sweeps' : SweepAlone actors'
  sweeps' b d t u x y et eu hx hy same =
      let m = swept_was b t x et hx in
      let n = swept_was d u y eu hy in
      k.sweeps b d m.0 n.0 m.1 n.1 m.2 n.2 m.3 n.3 (m.4 ∙ same ∙ sym n.4)

  retired' : (ps : List (List ℕ)) → AreRetired log s.actors ps → AreRetired log actors' ps
  retired' [] h = tt
  retired' (p ∷ ps) h = (h.0, h.1, (λ b t y e z. let m = swept_was b t y e z in subst (λ (n : List ℕ). same_cell p n ≡ false) m.4 (h.2 b m.0 m.1 m.2 m.3)), retired' ps h.3)

  own' : Suits s.board s.shards pages' a q
  own' =
      let h = mine.holds in
      record {
        saw = (let v = mine.saw in record { seen = v.seen; floor = v.floor; low = v.low; pin = v.pin });
        own = mine.own;
        holds = record { claim = h.claim; reserved = h.reserved; pin = h.pin; shard = h.shard; leaf = h.leaf; split = h.split; room = h.room };
        sweep = λ y e. ap (λ (n : List ℕ). was_split n (at_position log r.floor)) (same_leaf node.high y e) ∙ mine.sweep w its;
        fresh = λ p e. let m = mine.fresh p e in (m.0, fresh_more p m.1);
      }

  others' : (b : ℕ) (t : Actor) → b ≢ a → slice_get s.actors b ≡ Some t → Suits s.board s.shards pages' b t
  others' b t n e =
      let o = k.each b t e in
      record { saw = o.saw; own = o.own; holds = o.holds; sweep = o.sweep; fresh = λ p f. let m = o.fresh p f in (m.0, fresh_more p m.1) }

  pub sweep_keeps : Sound (after s a r (sweep page node))
  sweep_keeps = subst (λ (o : Option SweepWork). Sound (put_actor a (record r { page = page; sweep = sweep_next c node o }) (put_page page (sweep_node (cell_range g (sweep_leaf o)) node) s))) (sym its) (record {
    limits = k.limits;
    metric = k.metric;
    chain = k.chain;
    pages = pages_are;
    entries = entries';
    each = each_set s.actors a r q there (λ b t. Suits s.board s.shards pages' b t) own' others';
    retired = retired' s.board.retired k.retired;
    order = k.order;
    sixteen = k.sixteen;
    holders = λ n b h. holders_by s.actors a r q there refl n b (k.holders n b h);
    claims = claims_by s.actors a r q there refl k.claims;
    sweeps = sweeps';
    records = k.records;
    counted = k.counted ∙ sym (length-set s.actors a q);
    made = all_weaker _ _ (λ m l. omega (arith, l, length-set s.actors a q)) (entered log) k.made;
    legal = k.legal;
  })

-- The begin of a sweep keeps what is kept.
use Rattle.std.proofs.Common.{◌≡◌, ◌≢◌, ℕ, ℤ, List, [], ◌∷◌, length, take, drop, set, Bool, true, false, ◌||◌, refl, sym, ap, ◌∙◌, subst, arith, Some, inl, inr, ◌⊎◌, length-set}
use Rattle.std.specs.Prelude.{slice_get}
use Rattle.std.specs.List.{list_any}
use Rattle.std.proofs.lemmas.Bool.{false≢true, or_parts, and_parts, eqb-true}
use Rattle.mi_base.specs.declared.records.LogEvent.{LogEvent}
use Rattle.mi_base.specs.Configuration.{Configuration}
use Rattle.mi_base.specs.History.{at_position, entered, events_at}
use Rattle.mi_key.specs.declared.entries.Entry.{Entry}
use Rattle.mi_tree.specs.Cells.{Grid, same_cell}
use Rattle.mi_core.specs.Actors.{Suits}
use Rattle.mi_tree.specs.Births.{was_split, splits_in}
use Rattle.mi_core.specs.Claims.{AreRetired, SweepAlone, last_of}
use Rattle.mi_board.specs.Boards.{floor_of, BoardState}
use Rattle.mi_entries.specs.Marks.{cell_start}
use Rattle.mi_core.specs.Effects.{looked}
use Rattle.mi_entries.specs.Entries.{HasPlace, born_in, key_down, key_in, grid, is_under, IsUnswept, IsWorked, is_in, is_down}
use Rattle.mi_core.specs.Events.{IsFree, after}
use Rattle.mi_core.specs.Events.Event.{take_sweep}
use Rattle.mi_forest.specs.Forests.{all_entries}
use Rattle.mi_core.proofs.OrderLemmas.{order_taken}
use Rattle.mi_core.specs.Sound.{Sound}
use Rattle.mi_core.specs.Pages.{forest_of}
use Rattle.mi_entries.specs.Splits.{AreEntries}
use Rattle.mi_entries.specs.Actors.{Actor, SweepWork}
use Rattle.mi_core.specs.State.{State, put_actor, put_board}
use Rattle.mi_core.proofs.ActorLemmas.{«is», at_set, was, claims_by, each_set, holders_by, set_else, set_there}
use Rattle.std.proofs.lemmas.Option.{none-some, same_Some}
use Rattle.mi_core.proofs.KeptLemmas.{floor_position}
use Rattle.mi_entries.proofs.FilterLemmas.{not_true}
use Rattle.mi_tree.proofs.ListLemmas.{all_weaker}
use Rattle.mi_tree.proofs.LeafLemmas.{same_cell_is, same_self, begins_is}
use Rattle.mi_entries.proofs.RetiredLemmas.{from_start}
use Rattle.mi_core.proofs.QuietEvents.{pages_by}

module _ (s : State) (k : Sound s) (a : ℕ) (r : Actor) (there : slice_get s.actors a ≡ Some r) (p : List ℕ) (ps : List (List ℕ)) (idle : IsFree r) (first : s.board.retired ≡ p ∷ ps)
    (due : was_split p (at_position s.board.log (floor_of s.board)) ≡ true) where
  abbrev c : Configuration
  c = s.board.settings

  abbrev g : Grid
  g = grid s.board.settings

  abbrev log : List LogEvent
  log = s.board.log

  abbrev w : SweepWork
  w = record { leaf = p; mark = cell_start g p }

  abbrev b' : BoardState
  b' = record s.board { retired = ps }

  abbrev q : Actor
  q = record (looked s.board r) { sweep = Some w }

  abbrev actors' : List Actor
  actors' = set s.actors a q

  mine : Suits s.board s.shards s.pages a r
  mine = k.each a r there

  all_retired : AreRetired log s.actors (p ∷ ps)
  all_retired = subst (AreRetired log s.actors) first k.retired

  worked : (v : List ℤ) → IsWorked g s.actors v → IsWorked g actors' v
  worked v h = let n = «is» s.actors a r q there (λ t. t.split) refl h.by h.actor h.there in record { by = h.by; actor = n.0; there = n.1; work = h.work; split = n.2 ∙ h.split; under = h.under }

  -- what lies in the leaf is what the sweep has yet to reach
  unswept_new : (e : Entry) → HasPlace c log s.actors s.board.retired e → is_in g p e ≡ true → IsUnswept g actors' e
  unswept_new e h t =
      let both = and_parts (is_down g (length p) e) (is_under g p e) t in
      let prefix : take (length p) (g.perm e.vector) ≡ p = sym (begins_is p (g.perm e.vector) both.1) in
      let key : e.key ≡ key_in g p (born_in e) = eqb-true e.key (key_down g (length p) (born_in e)) both.0 ∙ ap (λ (n : List ℕ). key_in g n (born_in e)) prefix in
      record { by = a; actor = q; there = set_there s.actors a q r there; work = w; sweep = refl; lies = t; ahead = omega (arith, key, from_start g p (born_in e)) }

  unswept_on : (e : Entry) → IsUnswept g s.actors e → IsUnswept g actors' e
  unswept_on e u =
      let other : u.by ≢ a = λ b. none-some u.work (sym idle.sweep ∙ ap (λ (t : Actor). t.sweep) (same_Some r u.actor (sym there ∙ ap (slice_get s.actors) (sym b) ∙ u.there)) ∙ u.sweep) in
      record { by = u.by; actor = u.actor; there = set_else s.actors a u.by q other ∙ u.there; work = u.work; sweep = u.sweep; lies = u.lies; ahead = u.ahead }

  place' : (e : Entry) → HasPlace c log s.actors s.board.retired e → HasPlace c log actors' ps e
  place' e h = record {
    is = h.is;
    copied = λ d. let n = h.copied d in (n.0, worked e.vector n.1);
    left = λ l. elim (h.left l) [
      | inl t ↦
          let P : Bool → Type 0 = λ b. is_in g p e ≡ b → (b || list_any (λ n. is_in g n e) ps) ≡ true → (list_any (λ n. is_in g n e) ps ≡ true) ⊎ IsUnswept g actors' e in
          (elim (is_in g p e) as P [ true ↦ λ i _. inr (unswept_new e h i) | false ↦ λ i m. inl m ]) refl (ap (list_any (λ n. is_in g n e)) (sym first) ∙ t)
      | inr u ↦ inr (unswept_on e u)
    ];
  }

  entries' : AreEntries c log (events_at (floor_of s.board)) actors' ps (all_entries (forest_of b' s.pages actors' k.chain))
  entries' = record {
    places = all_weaker _ _ place' (all_entries (forest_of s.board s.pages s.actors k.chain)) k.entries.places;
    shows = k.entries.shows;
    works = λ b t y e split. let n = was s.actors a r q there (λ t. t.split) refl b t e in k.entries.works b n.0 y n.1 (n.2 ∙ split);
  }

  own' : Suits b' s.shards s.pages a q
  own' =
      let h = mine.holds in
      record {
        saw = (let v = mine.saw in record { seen = omega arith; floor = floor_position s k; low = omega arith; pin = v.pin });
        own = mine.own;
        holds = record { claim = h.claim; reserved = h.reserved; pin = h.pin; shard = h.shard; leaf = h.leaf; split = h.split; room = h.room };
        sweep = λ y e. ap (λ (x : SweepWork). was_split x.leaf (at_position log (floor_of s.board))) (sym (same_Some w y e)) ∙ due;
        fresh = mine.fresh;
      }

  others' : (b : ℕ) (t : Actor) → b ≢ a → slice_get s.actors b ≡ Some t → Suits b' s.shards s.pages b t
  others' b t n e =
      let o = k.each b t e in
      let h = o.holds in
      record {
        saw = (let v = o.saw in record { seen = v.seen; floor = v.floor; low = v.low; pin = v.pin });
        own = o.own;
        holds = record { claim = h.claim; reserved = h.reserved; pin = h.pin; shard = h.shard; leaf = h.leaf; split = h.split; room = h.room };
        sweep = o.sweep;
        fresh = o.fresh;
      }

  -- nobody else sweeps the leaf
  sweeps' : SweepAlone actors'
  sweeps' b d t u x y et eu hx hy same =
      let apart : (n : ℕ) (z : Actor) (v : SweepWork) → slice_get s.actors n ≡ Some z → z.sweep ≡ Some v → v.leaf ≡ p → ⊥ = λ n z v e h l.
      false≢true (sym (all_retired.2 n z v e h) ∙ subst (λ (m : List ℕ). same_cell m v.leaf ≡ true) l (same_self v.leaf)) in
      elim (at_set s.actors a b q t et) [
        | inl m ↦ elim (at_set s.actors a d q u eu) [
          | inl n ↦ m.0 ∙ sym n.0
          | inr n ↦ absurd (apart d u y n.1 hy (sym same ∙ ap (λ (v : SweepWork). v.leaf) (same_Some x w (sym hx ∙ ap (λ (z : Actor). z.sweep) (sym m.1)))))
        ]
        | inr m ↦ elim (at_set s.actors a d q u eu) [
          | inl n ↦ absurd (apart b t x m.1 hx (same ∙ ap (λ (v : SweepWork). v.leaf) (same_Some y w (sym hy ∙ ap (λ (z : Actor). z.sweep) (sym n.1)))))
          | inr n ↦ k.sweeps b d t u x y m.1 n.1 hx hy same
        ]
      ]

  retired' : (ns : List (List ℕ)) → list_any (same_cell p) ns ≡ false → AreRetired log s.actors ns → AreRetired log actors' ns
  retired' [] n h = tt
  retired' (m ∷ ms) n h =
      let both = or_parts (same_cell p m) (list_any (same_cell p) ms) n in (
        h.0,
        h.1,
        (λ b t y e z. elim (at_set s.actors a b q t e) [
          | inl i ↦ not_true (same_cell m y.leaf) (λ one.
              let leaf : y.leaf ≡ p = ap (λ (v : SweepWork). v.leaf) (same_Some y w (sym z ∙ ap (λ (z : Actor). z.sweep) (sym i.1))) in
              let m_is : m ≡ p = same_cell_is m y.leaf one ∙ leaf in
              false≢true (sym both.0 ∙ subst (λ (o : List ℕ). same_cell p o ≡ true) (sym m_is) (same_self p)))
          | inr i ↦ h.2 b t y i.1 z
        ]),
        retired' ms both.1 h.3,
      )

  pub take_sweep_keeps : Sound (after s a r (take_sweep p))
  take_sweep_keeps = subst (λ (ns : List (List ℕ)). Sound (put_actor a q (put_board (record s.board { retired = drop 1 ns }) s))) (sym first) (record {
    limits = k.limits;
    metric = k.metric;
    chain = k.chain;
    pages = pages_by s k a r there b' refl refl refl refl refl q refl;
    entries = entries';
    each = each_set s.actors a r q there (λ b t. Suits b' s.shards s.pages b t) own' others';
    retired = retired' ps all_retired.1 all_retired.3;
    order = order_taken p ps log (subst (λ (ns : List (List ℕ)). ns ≡ last_of (length ns) (splits_in log)) first k.order);
    sixteen = k.sixteen;
    holders = λ n b h. holders_by s.actors a r q there refl n b (k.holders n b h);
    claims = claims_by s.actors a r q there refl k.claims;
    sweeps = sweeps';
    records = k.records;
    counted = k.counted ∙ sym (length-set s.actors a q);
    made = all_weaker _ _ (λ m l. omega (arith, l, length-set s.actors a q)) (entered log) k.made;
    legal = k.legal;
  })

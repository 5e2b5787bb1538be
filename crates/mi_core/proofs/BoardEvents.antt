-- Pins and claims of leaves keep what is kept.
use Rattle.std.proofs.Common.{◌≡◌, ◌≢◌, ℕ, ◌<◌, ◌≤◌, List, length, set, true, refl, sym, ap, ◌∙◌, subst, arith, Option, Some, None, inl, inr, length-set, get_or-set_other, get_or-set_same}
use Rattle.std.specs.Prelude.{slice_get}
use Rattle.std.proofs.lemmas.Option.{none-some, same_Some}
use Rattle.mi_base.specs.declared.records.Position.{Position}
use Rattle.mi_base.specs.History.{IsPosition, at_position, end_of, entered, events_at}
use Rattle.mi_tree.specs.Cells.{is_leaf}
use Rattle.mi_tree.specs.Legal.{cells_of}
use Rattle.mi_core.specs.Actors.{Suits, pinned_at}
use Rattle.mi_tree.specs.Births.{was_split}
use Rattle.mi_core.specs.Claims.{ClaimAlone}
use Rattle.mi_board.specs.Boards.{floor_of, BoardState, with_actor}
use Rattle.mi_board.specs.Actors.{idle, gone, with_pin, without_pin}
use Rattle.mi_board.specs.declared.actors.ActorState.{ActorState}
use Rattle.mi_core.specs.Effects.{looked, saw}
use Rattle.mi_core.specs.Events.{MayClaim, after}
use Rattle.mi_core.specs.Events.Event.{claim_leaf, depart, pin, release_leaf, take_split, unpin}
use Rattle.mi_forest.specs.Forests.{all_entries}
use Rattle.mi_core.specs.Sound.{Sound}
use Rattle.mi_core.specs.Pages.{forest_of}
use Rattle.mi_entries.specs.Actors.{Actor, Pin, SplitWork, SweepWork}
use Rattle.mi_core.specs.State.{State, board_actor, put_actor, put_board}
use Rattle.mi_entries.specs.Entries.{grid}
use Rattle.mi_core.proofs.ActorLemmas.{set_claim, at_set, claims_by, claims_end, each_set, holders_by, retired_by, sweeps_by, works_by}
use Rattle.mi_entries.proofs.ContentLemmas.{entries_rise, entries_stay}
use Rattle.mi_core.proofs.FloorLemmas.{least_pinned, least_same, least_unpin}
use Rattle.mi_board.proofs.FloorLemmas.{end_events, end_position}
use Rattle.mi_core.proofs.NextLemmas.{unclaimed_by}
use Rattle.mi_core.proofs.KeptLemmas.{floor_position, on_board}
use Rattle.mi_tree.proofs.ListLemmas.{all_weaker}
use Rattle.mi_core.proofs.QuietEvents.{pages_by, split_between}
use Rattle.mi_tree.proofs.CountLemmas.{cat_has}
use Rattle.std.proofs.lemmas.List.{take_all}

module _ (s : State) (k : Sound s) (a : ℕ) (r : Actor) (there : slice_get s.actors a ≡ Some r) where
  mine : Suits s.board s.shards s.pages a r
  mine = k.each a r there

  low_actor : a < length s.board.actors
  low_actor = on_board s k a r there

  -- an event that changes the record, and what the board has of the actor and keeps for pins
  module _ (kept : Option Position) (f : ActorState → ActorState) (q : Actor) (rises : events_at (floor_of s.board) ≤ events_at (floor_of (with_actor f a s.board)))
      (shard : q.shard ≡ r.shard) (sweep : q.sweep ≡ r.sweep) (split : q.split ≡ r.split) (fresh : q.fresh ≡ r.fresh) where
    abbrev b' : BoardState
    b' = record (with_actor f a s.board) { kept_at = kept }

    board_mine : board_actor b' a ≡ f (board_actor s.board a)
    board_mine = get_or-set_same s.board.actors a (f (board_actor s.board a)) idle low_actor

    others : (b : ℕ) (t : Actor) → b ≢ a → slice_get s.actors b ≡ Some t → Suits b' s.shards s.pages b t
    others b t n e =
        let o = k.each b t e in
        let h = o.holds in
        let board : board_actor b' b ≡ board_actor s.board b = get_or-set_other s.board.actors a b (f (board_actor s.board a)) idle n in
        record {
          saw = (let v = o.saw in record { seen = v.seen; floor = v.floor; low = (let l = v.low in omega (arith, rises)); pin = v.pin });
          own = o.own;
          holds = record {
            claim = ap (λ (z : ActorState). z.claim) board ∙ h.claim;
            reserved = ap (λ (z : ActorState). z.reserved) board ∙ h.reserved;
            pin = ap (λ (z : ActorState). z.pin) board ∙ h.pin;
            shard = h.shard;
            leaf = h.leaf;
            split = h.split;
            room = h.room;
          };
          sweep = o.sweep;
          fresh = o.fresh;
        }

    pub board_keeps : ClaimAlone (set s.actors a q) → Suits b' s.shards s.pages a q → Sound (put_actor a q (put_board b' s))
    board_keeps claims own = record {
      limits = k.limits;
      metric = k.metric;
      chain = k.chain;
      pages = pages_by s k a r there b' refl refl refl refl refl q fresh;
      entries = entries_rise s.board.settings s.board.log (events_at (floor_of s.board)) (events_at (floor_of b')) (set s.actors a q) s.board.retired (all_entries (forest_of s.board s.pages s.actors k.chain)) rises
          (entries_stay s.actors (set s.actors a q) (works_by s.actors a r q there split sweep) s.board.settings s.board.log (events_at (floor_of s.board)) s.board.retired (all_entries (forest_of s.board s.pages s.actors k.chain)) k.entries);
      each = each_set s.actors a r q there (λ b t. Suits b' s.shards s.pages b t) own others;
      retired = retired_by s.actors a r q there sweep s.board.log s.board.retired k.retired;
      order = k.order;
      sixteen = k.sixteen;
      holders = λ n b h. holders_by s.actors a r q there shard n b (k.holders n b h);
      claims = claims;
      sweeps = sweeps_by s.actors a r q there sweep k.sweeps;
      records = k.records;
      counted = length-set s.board.actors a (f (board_actor s.board a)) ∙ k.counted ∙ sym (length-set s.actors a q);
      made = all_weaker _ _ (λ m l. omega (arith, l, length-set s.actors a q)) (entered s.board.log) k.made;
      legal = k.legal;
    }

  same_pins : (f : ActorState → ActorState) → ((x : ActorState) → (f x).pin ≡ x.pin) → events_at (floor_of s.board) ≤ events_at (floor_of (with_actor f a s.board))
  same_pins f same = omega (arith, ap events_at (least_same f same (end_of s.board.log) s.board.actors a))

  sweep_on : (w : SweepWork) → r.sweep ≡ Some w → was_split w.leaf (at_position s.board.log (floor_of s.board)) ≡ true
  sweep_on w h = split_between w.leaf (events_at r.floor) (events_at (floor_of s.board)) s.board.log mine.saw.low (mine.sweep w h)

  pub pin_keeps : r.pin ≡ None → Sound (after s a r pin)
  pin_keeps none =
      let f : ActorState → ActorState = with_pin (end_of s.board.log) in
      let q : Actor = record (looked s.board r) { pin = Some (record { at = end_of s.board.log; cells = cells_of s.board.settings s.board.log }) } in
      let rises : events_at (floor_of s.board) ≤ events_at (floor_of (with_actor f a s.board)) =
      least_pinned f (end_of s.board.log) (λ x. refl) s.board.actors a (mine.holds.pin ∙ ap pinned_at none) in
      let h = mine.holds in
      board_keeps (Some (end_of s.board.log)) f q rises refl refl refl refl (claims_by s.actors a r q there refl k.claims) (record {
        saw = record {
          seen = omega arith;
          floor = floor_position s k;
          low = rises;
          pin = λ p e.
              let same : record { at = end_of s.board.log; cells = cells_of s.board.settings s.board.log } ≡ p = same_Some _ p e in
              subst (λ (p : Pin). IsPosition s.board.log p.at × (p.cells ≡ cells_of s.board.settings (at_position s.board.log p.at))) same
              (end_position s.board.log, ap (cells_of s.board.settings) (sym (take_all (events_at (end_of s.board.log)) s.board.log (omega (arith, end_events s.board.log)))));
        };
        own = mine.own;
        holds = record {
          claim = ap (λ (z : ActorState). z.claim) (board_mine (Some (end_of s.board.log)) f q rises refl refl refl refl) ∙ h.claim;
          reserved = ap (λ (z : ActorState). z.reserved) (board_mine (Some (end_of s.board.log)) f q rises refl refl refl refl) ∙ h.reserved;
          pin = ap (λ (z : ActorState). z.pin) (board_mine (Some (end_of s.board.log)) f q rises refl refl refl refl);
          shard = h.shard;
          leaf = h.leaf;
          split = h.split;
          room = h.room;
        };
        sweep = sweep_on;
        fresh = mine.fresh;
      })

  pub unpin_keeps : Sound (after s a r unpin)
  unpin_keeps =
      let q : Actor = record (saw s.board r) { pin = None } in
      let rises : events_at (floor_of s.board) ≤ events_at (floor_of (with_actor without_pin a s.board)) = least_unpin without_pin (λ x. refl) (end_of s.board.log) s.board.actors a in
      let h = mine.holds in
      let board = board_mine s.board.kept_at without_pin q rises refl refl refl refl in
      board_keeps s.board.kept_at without_pin q rises refl refl refl refl (claims_by s.actors a r q there refl k.claims) (record {
        saw = (let v = mine.saw in record { seen = omega arith; floor = v.floor; low = (let l = v.low in omega (arith, rises)); pin = λ p e. absurd (none-some p e) });
        own = mine.own;
        holds = record {
          claim = ap (λ (z : ActorState). z.claim) board ∙ h.claim;
          reserved = ap (λ (z : ActorState). z.reserved) board ∙ h.reserved;
          pin = ap (λ (z : ActorState). z.pin) board;
          shard = h.shard;
          leaf = h.leaf;
          split = h.split;
          room = h.room;
        };
        sweep = mine.sweep;
        fresh = mine.fresh;
      })

  -- a leaf is claimed, or released
  own_claim : (claim : Option (List ℕ)) → ((p : List ℕ) → claim ≡ Some p → is_leaf (grid s.board.settings) s.board.log p ≡ true) → r.split ≡ None
      → Suits (with_actor (set_claim claim) a s.board) s.shards s.pages a (record (saw s.board r) { claim = claim })
  own_claim claim leaf none =
      let h = mine.holds in
      let rises = same_pins (set_claim claim) (λ x. refl) in
      let board = board_mine s.board.kept_at (set_claim claim) (record (saw s.board r) { claim = claim }) rises refl refl refl refl in
      record {
        saw = (let v = mine.saw in record { seen = omega arith; floor = v.floor; low = (let l = v.low in omega (arith, rises)); pin = v.pin });
        own = mine.own;
        holds = record {
          claim = ap (λ (z : ActorState). z.claim) board;
          reserved = ap (λ (z : ActorState). z.reserved) board ∙ h.reserved;
          pin = ap (λ (z : ActorState). z.pin) board ∙ h.pin;
          shard = h.shard;
          leaf = leaf;
          split = λ w e. absurd (none-some w (sym none ∙ e));
          room = h.room;
        };
        sweep = mine.sweep;
        fresh = mine.fresh;
      }

  pub release_leaf_keeps : r.split ≡ None → Sound (after s a r release_leaf)
  release_leaf_keeps none =
      let q : Actor = record (saw s.board r) { claim = None } in
      board_keeps s.board.kept_at (set_claim None) q (same_pins (set_claim None) (λ x. refl)) refl refl refl refl (claims_end s.actors a r q there refl k.claims) (own_claim None (λ p e. absurd (none-some p e)) none)

  -- a claim that nobody has
  claims_new : (p : List ℕ) (q : Actor) → q.claim ≡ Some p → ((b : ℕ) → (board_actor s.board b).claim ≢ Some p) → ClaimAlone (set s.actors a q)
  claims_new p q is free b d t u l et eu ct cu =
      let old : (n : ℕ) (z : Actor) → n ≢ a → slice_get s.actors n ≡ Some z → z.claim ≡ Some p → ⊥ = λ n z _ e c. free n ((k.each n z e).holds.claim ∙ c) in
      elim (at_set s.actors a b q t et) [
        | inl m ↦ elim (at_set s.actors a d q u eu) [
          | inl n ↦ m.0 ∙ sym n.0
          | inr n ↦ absurd (old d u n.0 n.1 (cu ∙ ap Some (sym (same_Some p l (sym is ∙ ap (λ (z : Actor). z.claim) m.1 ∙ ct)))))
        ]
        | inr m ↦ elim (at_set s.actors a d q u eu) [
          | inl n ↦ absurd (old b t m.0 m.1 (ct ∙ ap Some (sym (same_Some p l (sym is ∙ ap (λ (z : Actor). z.claim) n.1 ∙ cu)))))
          | inr n ↦ k.claims b d t u l m.1 n.1 ct cu
        ]
      ]

  pub claim_leaf_keeps : (p : List ℕ) → MayClaim s r p → Sound (after s a r (claim_leaf p))
  claim_leaf_keeps p may =
      let q : Actor = record (saw s.board r) { claim = Some p } in
      let none : r.split ≡ None = no_split r.split (λ w e. none-some w.leaf (sym may.free.claim ∙ mine.holds.split w e)) in
      board_keeps s.board.kept_at (set_claim (Some p)) q (same_pins (set_claim (Some p)) (λ x. refl)) refl refl refl refl (claims_new p q refl (unclaimed_by p s.board.actors may.unclaimed))
      (own_claim (Some p) (λ n e. subst (λ (m : List ℕ). is_leaf (grid s.board.settings) s.board.log m ≡ true) (same_Some p n e) (sym (cat_has (grid s.board.settings) s.board.log p) ∙ may.leaf)) none)
    where
      no_split : (o : Option SplitWork) → ((w : SplitWork) → o ≡ Some w → ⊥) → o ≡ None
      no_split None h = refl
      no_split (Some w) h = absurd (h w refl)

  pub depart_keeps : Sound (after s a r depart)
  depart_keeps =
      let h = mine.holds in
      let rises = same_pins gone (λ x. refl) in
      let board = board_mine s.board.kept_at gone (saw s.board r) rises refl refl refl refl in
      board_keeps s.board.kept_at gone (saw s.board r) rises refl refl refl refl (claims_by s.actors a r (saw s.board r) there refl k.claims) (record {
        saw = (let v = mine.saw in record { seen = omega arith; floor = v.floor; low = (let l = v.low in omega (arith, rises)); pin = v.pin });
        own = mine.own;
        holds = record {
          claim = ap (λ (z : ActorState). z.claim) board ∙ h.claim;
          reserved = ap (λ (z : ActorState). z.reserved) board ∙ h.reserved;
          pin = ap (λ (z : ActorState). z.pin) board ∙ h.pin;
          shard = h.shard;
          leaf = h.leaf;
          split = h.split;
          room = h.room;
        };
        sweep = mine.sweep;
        fresh = mine.fresh;
      })

  -- the splitter's claim of a leaf, beside a look
  pub take_split_keeps : (p : List ℕ) → MayClaim s r p → Sound (after s a r (take_split p))
  take_split_keeps p may =
      let q : Actor = record (looked s.board r) { claim = Some p } in
      let none : r.split ≡ None = no_split r.split (λ w e. none-some w.leaf (sym may.free.claim ∙ mine.holds.split w e)) in
      let rises = same_pins (set_claim (Some p)) (λ x. refl) in
      let h = mine.holds in
      let board = board_mine s.board.kept_at (set_claim (Some p)) q rises refl refl refl refl in
      board_keeps s.board.kept_at (set_claim (Some p)) q rises refl refl refl refl (claims_new p q refl (unclaimed_by p s.board.actors may.unclaimed)) (record {
        saw = (let v = mine.saw in record { seen = omega arith; floor = floor_position s k; low = rises; pin = v.pin });
        own = mine.own;
        holds = record {
          claim = ap (λ (z : ActorState). z.claim) board;
          reserved = ap (λ (z : ActorState). z.reserved) board ∙ h.reserved;
          pin = ap (λ (z : ActorState). z.pin) board ∙ h.pin;
          shard = h.shard;
          leaf = λ n e. subst (λ (m : List ℕ). is_leaf (grid s.board.settings) s.board.log m ≡ true) (same_Some p n e) (sym (cat_has (grid s.board.settings) s.board.log p) ∙ may.leaf);
          split = λ w e. absurd (none-some w (sym none ∙ e));
          room = h.room;
        };
        sweep = sweep_on;
        fresh = mine.fresh;
      })
    where
      no_split : (o : Option SplitWork) → ((w : SplitWork) → o ≡ Some w → ⊥) → o ≡ None
      no_split None h = refl
      no_split (Some w) h = absurd (h w refl)

-- A reservation keeps what is kept.
use Rattle.std.proofs.Common.{◌≡◌, ◌≢◌, ℕ, ◌<◌, ◌≤◌, ◌==◌, List, length, set, true, refl, sym, ap, ◌∙◌, subst, arith, Some, inl, inr, length-set, get_or-set_other, get_or-set_same}
use Rattle.std.specs.Prelude.{slice_get}
use Rattle.std.specs.List.{find}
use Rattle.std.proofs.lemmas.Bool.{cases_eq}
use Rattle.mi_base.specs.History.{end_of, entered, events_at}
use Rattle.mi_core.specs.Actors.{Suits}
use Rattle.mi_board.specs.Boards.{floor_of, BoardState, with_actor}
use Rattle.mi_board.specs.Actors.{idle, with_reserved}
use Rattle.mi_board.specs.declared.actors.ActorState.{ActorState}
use Rattle.mi_entries.specs.Records.{held_by, Rows, Shard, no_shard, shard_at}
use Rattle.mi_core.specs.Effects.{looked}
use Rattle.mi_core.specs.Events.{after}
use Rattle.mi_core.specs.Events.Event.{reserve}
use Rattle.mi_forest.specs.Forests.{all_entries}
use Rattle.mi_core.specs.Sound.{Sound}
use Rattle.mi_core.specs.Pages.{forest_of}
use Rattle.mi_core.specs.State.{State, board_actor}
use Rattle.mi_entries.specs.Actors.{Actor}
use Rattle.mi_core.proofs.ActorLemmas.{claims_by, each_set, holders_by, retired_by, sweeps_by, works_by}
use Rattle.std.proofs.lemmas.Option.{same_Some}
use Rattle.mi_entries.proofs.ContentLemmas.{entries_rise, entries_stay}
use Rattle.mi_core.proofs.FloorLemmas.{least_same}
use Rattle.mi_core.proofs.KeptLemmas.{floor_position, on_board}
use Rattle.mi_tree.proofs.ListLemmas.{all_weaker}
use Rattle.mi_core.proofs.QuietEvents.{pages_by, split_between}

module _ (s : State) (k : Sound s) (a : ℕ) (r : Actor) (there : slice_get s.actors a ≡ Some r) (n : ℕ) (kept : Rows) (room : ℕ)
    (holds : r.shard ≡ Some n) (kept_is : (shard_at s.shards n).rows ≡ kept) (shard_enough : length kept.records < room) where
  abbrev f : ActorState → ActorState
  f = with_reserved true

  abbrev b' : BoardState
  b' = with_actor f a s.board

  abbrev y : Shard
  y = held_by (Some a) (record kept { room = room })

  abbrev shards' : List Shard
  shards' = set s.shards n y

  abbrev q : Actor
  q = record (looked s.board r) { reserved = true; reserved_here = true }

  mine : Suits s.board s.shards s.pages a r
  mine = k.each a r there

  low_actor : a < length s.board.actors
  low_actor = on_board s k a r there

  low_shard : n < 16
  low_shard = (mine.holds.shard n holds).0

  rises : events_at (floor_of s.board) ≤ events_at (floor_of b')
  rises = omega (arith, ap events_at (least_same f (λ x. refl) (end_of s.board.log) s.board.actors a))

  here : shard_at shards' n ≡ y
  here = get_or-set_same s.shards n y no_shard (omega (arith, low_shard, k.sixteen))

  else : (m : ℕ) → m ≢ n → shard_at shards' m ≡ shard_at s.shards m
  else m d = get_or-set_other s.shards n m y no_shard d

  holder_same : (m : ℕ) → (shard_at shards' m).holder ≡ (shard_at s.shards m).holder
  holder_same m = elim (cases_eq m n) [
    | inl e ↦ ap (λ z. (shard_at shards' z).holder) e ∙ ap (λ (z : Shard). z.holder) here ∙ sym (mine.holds.shard n holds).1 ∙ ap (λ z. (shard_at s.shards z).holder) (sym e)
    | inr d ↦ ap (λ (z : Shard). z.holder) (else m d)
  ]

  records_same : (m : ℕ) → (shard_at shards' m).rows.records ≡ (shard_at s.shards m).rows.records
  records_same m = elim (cases_eq m n) [
    | inl e ↦ ap (λ z. (shard_at shards' z).rows.records) e ∙ ap (λ (z : Shard). z.rows.records) here ∙ ap (λ (z : Rows). z.records) (sym kept_is) ∙ ap (λ z. (shard_at s.shards z).rows.records) (sym e)
    | inr d ↦ ap (λ (z : Shard). z.rows.records) (else m d)
  ]

  own' : Suits b' shards' s.pages a q
  own' =
      let h = mine.holds in
      let board : board_actor b' a ≡ f (board_actor s.board a) = get_or-set_same s.board.actors a (f (board_actor s.board a)) idle low_actor in
      record {
        saw = (let v = mine.saw in record { seen = omega arith; floor = floor_position s k; low = rises; pin = v.pin });
        own = mine.own;
        holds = record {
          claim = ap (λ (z : ActorState). z.claim) board ∙ h.claim;
          reserved = ap (λ (z : ActorState). z.reserved) board;
          pin = ap (λ (z : ActorState). z.pin) board ∙ h.pin;
          shard = λ m e. let o = h.shard m e in (o.0, holder_same m ∙ o.1);
          leaf = h.leaf;
          split = h.split;
          room = λ m e _. (refl, subst (λ (z : Shard). length z.rows.records < z.rows.room) (sym (ap (shard_at shards') (same_Some m n (sym e ∙ holds)) ∙ here)) shard_enough);
        };
        sweep = λ w e. split_between w.leaf (events_at r.floor) (events_at (floor_of s.board)) s.board.log mine.saw.low (mine.sweep w e);
        fresh = mine.fresh;
      }

  others' : (b : ℕ) (t : Actor) → b ≢ a → slice_get s.actors b ≡ Some t → Suits b' shards' s.pages b t
  others' b t d e =
      let o = k.each b t e in
      let h = o.holds in
      let board : board_actor b' b ≡ board_actor s.board b = get_or-set_other s.board.actors a b (f (board_actor s.board a)) idle d in
      record {
        saw = (let v = o.saw in record { seen = v.seen; floor = v.floor; low = (let l = v.low in omega (arith, rises)); pin = v.pin });
        own = o.own;
        holds = record {
          claim = ap (λ (z : ActorState). z.claim) board ∙ h.claim;
          reserved = ap (λ (z : ActorState). z.reserved) board ∙ h.reserved;
          pin = ap (λ (z : ActorState). z.pin) board ∙ h.pin;
          shard = λ m z. let w = h.shard m z in (w.0, holder_same m ∙ w.1);
          leaf = h.leaf;
          split = h.split;
          room = λ m z x.
              let w = h.room m z x in
              let apart : m ≢ n = λ one. d (same_Some b a (sym (h.shard m z).1 ∙ ap (λ i. (shard_at s.shards i).holder) one ∙ (mine.holds.shard n holds).1)) in
              (w.0, subst (λ (i : Shard). length i.rows.records < i.rows.room) (sym (else m apart)) w.1);
        };
        sweep = o.sweep;
        fresh = o.fresh;
      }

  pub reserve_keeps : Sound (after s a r (reserve n kept room))
  reserve_keeps = record {
    limits = k.limits;
    metric = k.metric;
    chain = k.chain;
    pages = pages_by s k a r there b' refl refl refl refl refl q refl;
    entries = entries_rise s.board.settings s.board.log (events_at (floor_of s.board)) (events_at (floor_of b')) (set s.actors a q) s.board.retired (all_entries (forest_of s.board s.pages s.actors k.chain)) rises
        (entries_stay s.actors (set s.actors a q) (works_by s.actors a r q there refl refl) s.board.settings s.board.log (events_at (floor_of s.board)) s.board.retired (all_entries (forest_of s.board s.pages s.actors k.chain)) k.entries);
    each = each_set s.actors a r q there (λ b t. Suits b' shards' s.pages b t) own' others';
    retired = retired_by s.actors a r q there refl s.board.log s.board.retired k.retired;
    order = k.order;
    sixteen = length-set s.shards n y ∙ k.sixteen;
    holders = λ m b h. holders_by s.actors a r q there refl m b (k.holders m b (sym (holder_same m) ∙ h));
    claims = claims_by s.actors a r q there refl k.claims;
    sweeps = sweeps_by s.actors a r q there refl k.sweeps;
    records = λ m i low. ap (find (λ z. z.id == i)) (records_same m) ∙ k.records m i low;
    counted = length-set s.board.actors a (f (board_actor s.board a)) ∙ k.counted ∙ sym (length-set s.actors a q);
    made = all_weaker _ _ (λ m l. omega (arith, l, length-set s.actors a q)) (entered s.board.log) k.made;
    legal = k.legal;
  }

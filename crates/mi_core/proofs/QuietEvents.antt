-- Events that change one record alone, and pins.
use Rattle.std.proofs.Common.{◌≡◌, ◌≢◌, ℕ, suc, zero, ◌<◌, ◌≤◌, ◌==◌, List, [], ◌∷◌, length, take, set, Bool, true, false, ◌||◌, refl, sym, ap, ◌∙◌, subst, arith, Option, Some, None, inl, inr, length-set, get_or-set_other, get_or-set_same}
use Rattle.std.specs.Prelude.{slice_get}
use Rattle.std.specs.List.{find}
use Rattle.std.proofs.lemmas.Bool.{cases_eq, false≢true}
use Rattle.mi_base.specs.declared.records.LogEvent.{LogEvent}
use Rattle.mi_base.specs.declared.records.Position.{Position}
use Rattle.mi_base.specs.History.{IsPosition, at_position, entered, events_at}
use Rattle.mi_core.specs.Actors.{Saw, Suits, pinned_at}
use Rattle.mi_tree.specs.Births.{is_split_of, was_split}
use Rattle.mi_core.specs.Claims.{HasHolder}
use Rattle.mi_board.specs.Boards.{floor_of, BoardState}
use Rattle.mi_entries.specs.Records.{held_by, Rows, Shard, no_shard, shard_at}
use Rattle.mi_core.specs.Effects.{looked, noted, saw}
use Rattle.mi_core.specs.Events.{after}
use Rattle.mi_core.specs.Events.Event.{claim_shard, look, meet, miss_shard, lack, release_shard, see, visit}
use Rattle.mi_forest.specs.Forests.{all_entries}
use Rattle.mi_core.specs.Sound.{Sound}
use Rattle.mi_core.specs.Pages.{ArePages, forest_of, has_page}
use Rattle.mi_core.specs.State.{count_if, State, put_actor, put_shard}
use Rattle.mi_entries.specs.Actors.{Actor, SweepWork}
use Rattle.mi_core.proofs.ActorLemmas.{SameHands, claims_by, claims_stay, each_set, held_by_all, holders_stay, retired_by, retired_stay, set_else, set_there, sweeps_by, sweeps_stay, works_by, works_stay}
use Rattle.std.proofs.lemmas.Option.{none-some, same_Some}
use Rattle.mi_entries.proofs.ContentLemmas.{SameWorks, entries_stay}
use Rattle.mi_core.proofs.KeptLemmas.{floor_position}
use Rattle.mi_core.proofs.PageLemmas.{forest_held}
use Rattle.mi_tree.proofs.ListLemmas.{all_weaker}

-- an earlier part of the log has no more splits than a later one
pub split_between : (p : List ℕ) (m n : ℕ) (l : List LogEvent) → m ≤ n → was_split p (take m l) ≡ true → was_split p (take n l) ≡ true
split_between p zero n l le h = absurd (false≢true h)
split_between p (suc m) zero l le h = absurd (omega arith)
split_between p (suc m) (suc n) [] le h = absurd (false≢true h)
split_between p (suc m) (suc n) (z ∷ l) le h =
    let P : Bool → Type 0 = λ b. (b || was_split p (take m l)) ≡ true → (b || was_split p (take n l)) ≡ true in
    (elim (is_split_of p z) as P [ true ↦ λ _. refl | false ↦ λ r. split_between p m n l (omega arith) r ]) h

module _ (s : State) (k : Sound s) (a : ℕ) (r : Actor) (there : slice_get s.actors a ≡ Some r) where
  mine : Suits s.board s.shards s.pages a r
  mine = k.each a r there

  -- the pages, where an actor's fresh page stays
  pub pages_by : (b' : BoardState) → b'.settings ≡ s.board.settings → b'.root ≡ s.board.root → b'.height ≡ s.board.height → b'.allotted ≡ s.board.allotted → b'.passed_over ≡ s.board.passed_over → (q : Actor) → q.fresh ≡ r.fresh
      → ArePages (record b' { settings = s.board.settings; root = s.board.root; height = s.board.height; allotted = s.board.allotted; passed_over = s.board.passed_over }) s.pages (set s.actors a q) k.chain
  pages_by b' e f g h i q same =
      let p = k.pages in
      record {
        forest = forest_held (forest_of s.board s.pages s.actors k.chain) (λ n. count_if (has_page n) (set s.actors a q)) (held_by_all s.actors a r q there same) p.forest;
        linked = p.linked;
        there = p.there;
        height = p.height;
        length_is = p.length_is;
        most = p.most;
        passed_over = p.passed_over;
      }

  -- an event that changes the record alone, and none of what the actor holds
  pub quiet_keeps : (q : Actor) → SameHands r q → Suits s.board s.shards s.pages a q → Sound (put_actor a q s)
  quiet_keeps q same own = record {
    limits = k.limits;
    metric = k.metric;
    chain = k.chain;
    pages = pages_by s.board refl refl refl refl refl q same.fresh;
    entries = entries_stay s.actors (set s.actors a q) (works_stay s.actors a r q there same) s.board.settings s.board.log (events_at (floor_of s.board)) s.board.retired (all_entries (forest_of s.board s.pages s.actors k.chain)) k.entries;
    each = each_set s.actors a r q there (λ b t. Suits s.board s.shards s.pages b t) own (λ b t n e. k.each b t e);
    retired = retired_stay s.actors a r q there same s.board.log s.board.retired k.retired;
    order = k.order;
    sixteen = k.sixteen;
    holders = λ n b h. holders_stay s.actors a r q there same n b (k.holders n b h);
    claims = claims_stay s.actors a r q there same k.claims;
    sweeps = sweeps_stay s.actors a r q there same k.sweeps;
    records = k.records;
    counted = k.counted ∙ sym (length-set s.actors a q);
    made = all_weaker _ _ (λ m l. omega (arith, l, length-set s.actors a q)) (entered s.board.log) k.made;
    legal = k.legal;
  }

  -- who has seen the whole log
  saw_all : Saw s.board (saw s.board r)
  saw_all = let h = mine.saw in record { seen = omega arith; floor = h.floor; low = h.low; pin = h.pin }

  looked_all : Saw s.board (looked s.board r)
  looked_all = let h = mine.saw in record { seen = omega arith; floor = floor_position s k; low = omega arith; pin = h.pin }

  pub see_keeps : Sound (after s a r see)
  see_keeps = quiet_keeps (saw s.board r) (record { shard = refl; claim = refl; sweep = refl; split = refl; fresh = refl })
      (record { saw = saw_all; own = mine.own; holds = (let h = mine.holds in record { claim = h.claim; reserved = h.reserved; pin = h.pin; shard = h.shard; leaf = h.leaf; split = h.split; room = h.room }); sweep = mine.sweep; fresh = mine.fresh })

  -- a sweep's leaf at a floor that is not lower
  sweep_on : (w : SweepWork) → r.sweep ≡ Some w → was_split w.leaf (at_position s.board.log (floor_of s.board)) ≡ true
  sweep_on w h = split_between w.leaf (events_at r.floor) (events_at (floor_of s.board)) s.board.log mine.saw.low (mine.sweep w h)

  pub look_keeps : Sound (after s a r look)
  look_keeps = quiet_keeps (looked s.board r) (record { shard = refl; claim = refl; sweep = refl; split = refl; fresh = refl })
      (record { saw = looked_all; own = mine.own; holds = (let h = mine.holds in record { claim = h.claim; reserved = h.reserved; pin = h.pin; shard = h.shard; leaf = h.leaf; split = h.split; room = h.room }); sweep = sweep_on; fresh = mine.fresh })

  pub meet_keeps : (page : ℕ) → Sound (after s a r (meet page))
  meet_keeps page = quiet_keeps (noted page (saw s.board r)) (record { shard = refl; claim = refl; sweep = refl; split = refl; fresh = refl })
      (record { saw = (let h = saw_all in record { seen = h.seen; floor = h.floor; low = h.low; pin = h.pin }); own = mine.own; holds = (let h = mine.holds in record { claim = h.claim; reserved = h.reserved; pin = h.pin; shard = h.shard; leaf = h.leaf; split = h.split; room = h.room }); sweep = mine.sweep; fresh = mine.fresh })

  -- a note of the page or of the shard found, or of want of memory
  pub note_keeps : (q : Actor) → SameHands r q → q.seen ≡ r.seen → q.own ≡ r.own → q.floor ≡ r.floor → q.reserved ≡ r.reserved → q.reserved_here ≡ r.reserved_here → q.pin ≡ r.pin → Sound (put_actor a q s)
  note_keeps q same seen own floor reserved here pinned = quiet_keeps q same (record {
    saw = (let h = mine.saw in record { seen = omega (arith, h.seen); floor = subst (IsPosition s.board.log) (sym floor) h.floor; low = omega (arith, h.low, ap events_at floor); pin = λ p e. h.pin p (sym pinned ∙ e) });
    own = mine.own ∙ sym own;
    holds = (let h = mine.holds in record {
      claim = h.claim ∙ sym same.claim;
      reserved = h.reserved ∙ sym reserved;
      pin = h.pin ∙ ap pinned_at (sym pinned);
      shard = λ n e. h.shard n (sym same.shard ∙ e);
      leaf = λ p e. h.leaf p (sym same.claim ∙ e);
      split = λ w e. same.claim ∙ h.split w (sym same.split ∙ e);
      room = λ n e t. let m = h.room n (sym same.shard ∙ e) (sym here ∙ t) in (reserved ∙ m.0, m.1);
    });
    sweep = λ w e. ap (λ (p : Position). was_split w.leaf (at_position s.board.log p)) floor ∙ mine.sweep w (sym same.sweep ∙ e);
    fresh = λ p e. mine.fresh p (sym same.fresh ∙ e);
  })

  pub visit_keeps : (page : ℕ) → Sound (after s a r (visit page))
  visit_keeps page = note_keeps (noted page r) (record { shard = refl; claim = refl; sweep = refl; split = refl; fresh = refl }) refl refl refl refl refl refl

  pub miss_keeps : (n : ℕ) → Sound (after s a r (miss_shard n))
  miss_keeps n = note_keeps (record r { tried = n; found = (shard_at s.shards n).holder }) (record { shard = refl; claim = refl; sweep = refl; split = refl; fresh = refl }) refl refl refl refl refl refl

  pub lack_keeps : Sound (after s a r lack)
  lack_keeps = quiet_keeps (record (saw s.board r) { lacked = true }) (record { shard = refl; claim = refl; sweep = refl; split = refl; fresh = refl })
      (record { saw = (let h = saw_all in record { seen = h.seen; floor = h.floor; low = h.low; pin = h.pin }); own = mine.own; holds = (let h = mine.holds in record { claim = h.claim; reserved = h.reserved; pin = h.pin; shard = h.shard; leaf = h.leaf; split = h.split; room = h.room }); sweep = mine.sweep; fresh = mine.fresh })

  -- a shard gets another holder, or none
  module _ (n : ℕ) (kept : Rows) (lt : n < 16) (is_kept : (shard_at s.shards n).rows ≡ kept) (holder : Option ℕ) where
    abbrev shards' : List Shard
    shards' = set s.shards n (held_by holder kept)

    here : shard_at shards' n ≡ held_by holder kept
    here = get_or-set_same s.shards n (held_by holder kept) no_shard (omega (arith, k.sixteen))

    else : (m : ℕ) → m ≢ n → shard_at shards' m ≡ shard_at s.shards m
    else m d = get_or-set_other s.shards n m (held_by holder kept) no_shard d

    records_same : (m : ℕ) → (shard_at shards' m).rows.records ≡ (shard_at s.shards m).rows.records
    records_same m = elim (cases_eq m n) [
      | inl e ↦ ap (λ z. (shard_at shards' z).rows.records) e ∙ ap (λ (z : Shard). z.rows.records) here ∙ ap (λ (z : Rows). z.records) (sym is_kept) ∙ ap (λ z. (shard_at s.shards z).rows.records) (sym e)
      | inr d ↦ ap (λ (z : Shard). z.rows.records) (else m d)
    ]

    pub holder_keeps : (q : Actor) → q.claim ≡ r.claim → q.sweep ≡ r.sweep → q.split ≡ r.split → q.fresh ≡ r.fresh → Suits s.board shards' s.pages a q
        → ((b : ℕ) (t : Actor) → b ≢ a → slice_get s.actors b ≡ Some t → t.shard ≡ Some n → ⊥) → ((b : ℕ) → holder ≡ Some b → (b ≡ a) × (q.shard ≡ Some n)) → ((m : ℕ) → m ≢ n → r.shard ≡ Some m → ⊥)
        → Sound (put_actor a q (put_shard n (held_by holder kept) s))
    holder_keeps q claim sweep split fresh own free mine_now no_other = record {
      limits = k.limits;
      metric = k.metric;
      chain = k.chain;
      pages = pages_by s.board refl refl refl refl refl q fresh;
      entries = entries_stay s.actors (set s.actors a q) works s.board.settings s.board.log (events_at (floor_of s.board)) s.board.retired (all_entries (forest_of s.board s.pages s.actors k.chain)) k.entries;
      each = each_set s.actors a r q there (λ b t. Suits s.board shards' s.pages b t) own others;
      retired = retired_by s.actors a r q there sweep s.board.log s.board.retired k.retired;
      order = k.order;
      sixteen = length-set s.shards n (held_by holder kept) ∙ k.sixteen;
      holders = holders;
      claims = claims_by s.actors a r q there claim k.claims;
      sweeps = sweeps_by s.actors a r q there sweep k.sweeps;
      records = λ m i low. ap (find (λ z. z.id == i)) (records_same m) ∙ k.records m i low;
      counted = k.counted ∙ sym (length-set s.actors a q);
      made = all_weaker _ _ (λ m l. omega (arith, l, length-set s.actors a q)) (entered s.board.log) k.made;
      legal = k.legal;
    }
      where
        works : SameWorks s.actors (set s.actors a q)
        works = works_by s.actors a r q there split sweep

        others : (b : ℕ) (t : Actor) → b ≢ a → slice_get s.actors b ≡ Some t → Suits s.board shards' s.pages b t
        others b t d e =
            let o = k.each b t e in
            let h = o.holds in
            record {
              saw = o.saw;
              own = o.own;
              holds = record {
                claim = h.claim;
                reserved = h.reserved;
                pin = h.pin;
                shard = λ m l. let z = h.shard m l in let apart : m ≢ n = λ x. free b t d e (l ∙ ap Some x) in (z.0, ap (λ (y : Shard). y.holder) (else m apart) ∙ z.1);
                leaf = h.leaf;
                split = h.split;
                room = λ m l x. let z = h.room m l x in let apart : m ≢ n = λ y. free b t d e (l ∙ ap Some y) in (z.0, subst (λ (y : Shard). length y.rows.records < y.rows.room) (sym (else m apart)) z.1);
              };
              sweep = o.sweep;
              fresh = o.fresh;
            }

        holders : (m b : ℕ) → (shard_at shards' m).holder ≡ Some b → HasHolder (set s.actors a q) m b
        holders m b h = elim (cases_eq m n) [
          | inl e ↦
              let now = mine_now b (sym (ap (λ (z : Shard). z.holder) here) ∙ ap (λ z. (shard_at shards' z).holder) (sym e) ∙ h) in
              record { actor = q; there = ap (slice_get (set s.actors a q)) now.0 ∙ set_there s.actors a q r there; shard = now.1 ∙ ap Some (sym e) }
          | inr d ↦
              let old = k.holders m b (sym (ap (λ (z : Shard). z.holder) (else m d)) ∙ h) in
              let apart : b ≢ a = λ x. no_other m d (ap (λ (z : Actor). z.shard) (same_Some r old.actor (sym there ∙ ap (slice_get s.actors) (sym x) ∙ old.there)) ∙ old.shard) in
              record { actor = old.actor; there = set_else s.actors a b q apart ∙ old.there; shard = old.shard }
        ]

  pub claim_shard_keeps : (n : ℕ) (kept : Rows) → n < 16 → r.shard ≡ None → (shard_at s.shards n).rows ≡ kept → (shard_at s.shards n).holder ≡ None → Sound (after s a r (claim_shard n kept))
  claim_shard_keeps n kept lt none is_kept free =
      let q : Actor = record r { shard = Some n; tried = n; found = None; reserved_here = false } in
      let h = mine.holds in
      holder_keeps n kept lt is_kept (Some a) q refl refl refl refl (record {
        saw = (let w = mine.saw in record { seen = w.seen; floor = w.floor; low = w.low; pin = w.pin });
        own = mine.own;
        holds = record {
          claim = h.claim;
          reserved = h.reserved;
          pin = h.pin;
          shard = λ m e. let one : n ≡ m = same_Some n m e in (omega (arith, one), ap (λ z. (shard_at (set s.shards n (held_by (Some a) kept)) z).holder) (sym one) ∙ ap (λ (z : Shard). z.holder) (here n kept lt is_kept (Some a)));
          leaf = h.leaf;
          split = h.split;
          room = λ m e no. absurd (false≢true no);
        };
        sweep = mine.sweep;
        fresh = mine.fresh;
      })
      (λ b t d e l. none-some b (sym free ∙ ((k.each b t e).holds.shard n l).1))
      (λ b e. (same_Some b a (sym e), refl))
      (λ m d e. none-some m (sym none ∙ e))

  pub release_shard_keeps : (n : ℕ) (kept : Rows) → r.shard ≡ Some n → (shard_at s.shards n).rows ≡ kept → Sound (after s a r (release_shard n kept))
  release_shard_keeps n kept held is_kept =
      let q : Actor = record r { shard = None; reserved_here = false } in
      let h = mine.holds in
      let ours = h.shard n held in
      holder_keeps n kept ours.0 is_kept None q refl refl refl refl (record {
        saw = (let w = mine.saw in record { seen = w.seen; floor = w.floor; low = w.low; pin = w.pin });
        own = mine.own;
        holds = record {
          claim = h.claim;
          reserved = h.reserved;
          pin = h.pin;
          shard = λ m e. absurd (none-some m e);
          leaf = h.leaf;
          split = h.split;
          room = λ m e no. absurd (false≢true no);
        };
        sweep = mine.sweep;
        fresh = mine.fresh;
      })
      (λ b t d e l. d (same_Some b a (sym ((k.each b t e).holds.shard n l).1 ∙ ours.1)))
      (λ b e. absurd (none-some b e))
      (λ m d e. d (same_Some m n (sym e ∙ held)))

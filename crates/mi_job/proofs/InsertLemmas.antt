-- An insert and its splits, from section to section.
use Rattle.std.proofs.Common.{◌≡◌, ℕ, ◌+◌, ◌*◌, ◌<◌, ◌≤◌, List, [], ◌∷◌, ◌++◌, length, Bool, true, Some, None, refl, sym, ap, ◌∙◌, arith, inl, inr}
use Rattle.std.proofs.Math.Nat.{mul-le-mul_right}
use Rattle.mi_base.specs.declared.records.LogEvent.{LogEvent}
use Rattle.mi_base.specs.declared.records.LogEvent.TheVariants.{Split}
use Rattle.mi_base.specs.declared.records.Reply.{Reply}
use Rattle.mi_base.specs.declared.records.Position.{Position}
use Rattle.mi_base.specs.Configuration.{space_of}
use Rattle.mi_base.specs.History.{Object}
use Rattle.mi_base.specs.Permutations.{begins, distances, permutation_of}
use Rattle.mi_tree.specs.declared.outcomes.Leaf.{Leaf}
use Rattle.mi_tree.specs.Cells.{Grid, AllMaySplit, depth}
use Rattle.mi_tree.specs.Placing.{grid_under}
use Rattle.mi_tree.proofs.GridLemmas.{space_is_grid}
use Rattle.mi_tree.proofs.LegalLemmas.{all_may, wanted}
use Rattle.mi_tree.proofs.SplitsLemmas.{deeper, depth_within}
use Rattle.mi_world.specs.Splits.{EntersSplit}
use Rattle.mi_world.specs.View.{View, Later, SameUpdate, SameSweep, SeesBoard, prefix_or}
use Rattle.mi_blink.specs.declared.turns.Turn.{Turn}
use Rattle.mi_blink.specs.declared.turns.Turn.TheVariants as turn
use Rattle.mi_blink.specs.declared.turns.Why.{Why as Reason}
use Rattle.mi_blink.specs.declared.turns.Why.TheVariants.{NoPages, Memory}
use Rattle.mi_blink.specs.Descents.{Falls, longest}
use Rattle.mi_blink.specs.Posting.{OwesOnly}
use Rattle.mi_split.specs.declared.split.SplitOp.{SplitOp}
use Rattle.mi_split.specs.declared.split.SplitState.{SplitState}
use Rattle.mi_split.specs.declared.split.SplitState.TheVariants as at
use Rattle.mi_split.specs.declared.split.SplitTurn.{SplitTurn}
use Rattle.mi_split.specs.declared.split.SplitTurn.TheVariants as divided
use Rattle.mi_split.specs.Splitting as splitting
use Rattle.mi_split.specs.Splitting.{IsWhy, split_most}
use Rattle.mi_split.proofs.BoundLemmas.{split_small}
use Rattle.mi_split.proofs.OthersLemmas.{split_begins}
use Rattle.mi_update.specs.declared.endings.Ending.{Ending}
use Rattle.mi_update.specs.declared.endings.Ending.TheVariants as ending
use Rattle.mi_update.specs.declared.insert.InsertOp.{InsertOp}
use Rattle.mi_update.specs.declared.insert.InsertState.{InsertState}
use Rattle.mi_update.specs.declared.insert.InsertState.TheVariants.{Begin, Looking, Reserving, Claiming, Committing, Splitting, Allotting, Halving, Posting, Unclaiming, Releasing, Over}
use Rattle.mi_update.specs.Endings.{events_of, number_of}
use Rattle.mi_update.specs.Inserting as inserting
use Rattle.mi_update.specs.Inserting.{Crowds, FindsHeld, Follows, Freed, GivenUp, Waits, asked, made, perm_in, refusal_of, round, splits_left}
use Rattle.mi_update.specs.Stepping.{Advances}
use Rattle.mi_update.proofs.FinishLemmas.{insert_belongs, insert_finishes}
use Rattle.mi_update.proofs.InsertLemmas.{depth_rises, splits_fall}
use Rattle.mi_update.proofs.OthersLemmas.{waits_stay}
use Rattle.mi_update.proofs.SteppingLemmas.{advances_none, seen_more}
use Rattle.mi_job.specs.declared.turns.JobTurn.TheVariants.{More, Held, Done}
use Rattle.mi_job.specs.Claims.{IsHeld}
use Rattle.mi_job.specs.Inserts.{EarlyAt, EarlyUnless, Ready, Splits, Turned}

early_as : (e : Ending) (early : Bool) (w : View) → w.early ≡ early → EarlyUnless e early w
early_as (ending.Stored n) early w h = h
early_as (ending.Removed n) early w h = h
early_as (ending.Present p) early w h = h
early_as (ending.Absent p) early w h = h
early_as (ending.Full n) early w h = h
early_as (ending.NoPages n) early w h = h
early_as ending.Memory early w h = tt

pub early_stays : (e : Ending) (early : Bool) (v w : View) → w.early ≡ v.early → EarlyUnless e early v → EarlyUnless e early w
early_stays (ending.Stored n) early v w k h = k ∙ h
early_stays (ending.Removed n) early v w k h = k ∙ h
early_stays (ending.Present p) early v w k h = k ∙ h
early_stays (ending.Absent p) early v w k h = k ∙ h
early_stays (ending.Full n) early v w k h = k ∙ h
early_stays (ending.NoPages n) early v w k h = k ∙ h
early_stays ending.Memory early v w k h = tt

-- a flag that stands as it stood does so in each state
early_in : (s : InsertState) (early : Bool) (w : View) → w.early ≡ early → EarlyAt s early w
early_in Begin early w h = h
early_in Looking early w h = h
early_in Reserving early w h = h
early_in Claiming early w h = h
early_in (Committing p) early w h = h
early_in Splitting early w h = h
early_in (Allotting p) early w h = h
early_in (Halving p) early w h = h
early_in (Posting p) early w h = h
early_in (Unclaiming e) early w h = early_as e early w h
early_in (Releasing e) early w h = early_as e early w h
early_in (Over e) early w h = early_as e early w h

-- an ending stays the same until it is told
module _ (e : Ending) (root : ℕ) (early : Bool) (v w : View) (k : w.early ≡ v.early) (h : EarlyUnless e early v) where
  unclaimed : (s : InsertState) → Follows (Unclaiming e) s root w → EarlyAt s early w
  unclaimed Begin f = absurd f
  unclaimed Looking f = absurd f
  unclaimed Reserving f = absurd f
  unclaimed Claiming f = absurd f
  unclaimed (Committing p) f = absurd f
  unclaimed Splitting f = absurd f
  unclaimed (Allotting p) f = absurd f
  unclaimed (Halving p) f = absurd f
  unclaimed (Posting p) f = absurd f
  unclaimed (Unclaiming d) f = absurd f
  unclaimed (Releasing d) f = rw f (early_stays e early v w k h)
  unclaimed (Over d) f = absurd f

  released : (s : InsertState) → Follows (Releasing e) s root w → EarlyAt s early w
  released Begin f = absurd f
  released Looking f = absurd f
  released Reserving f = absurd f
  released Claiming f = absurd f
  released (Committing p) f = absurd f
  released Splitting f = absurd f
  released (Allotting p) f = absurd f
  released (Halving p) f = absurd f
  released (Posting p) f = absurd f
  released (Unclaiming d) f = absurd f
  released (Releasing d) f = absurd f
  released (Over d) f = rw f (early_stays e early v w k h)

-- a section of the insert leaves the flag as it was
early_follows : (s₀ s : InsertState) (op : InsertOp) (root : ℕ) (early : Bool) (v w : View) → w.early ≡ v.early → inserting.StateIsReady s₀ op v → Follows s₀ s root w → EarlyAt s₀ early v → EarlyAt s early w
early_follows Begin s op root early v w k r f h = early_in s early w (k ∙ h)
early_follows Looking s op root early v w k r f h = early_in s early w (k ∙ h)
early_follows Reserving s op root early v w k r f h = early_in s early w (k ∙ h)
early_follows Claiming s op root early v w k r f h = early_in s early w (k ∙ h)
early_follows (Committing p) s op root early v w k r f h = early_in s early w (k ∙ h)
early_follows Splitting s op root early v w k r f h = absurd r
early_follows (Allotting p) s op root early v w k r f h = early_in s early w (k ∙ h)
early_follows (Halving p) s op root early v w k r f h = early_in s early w (k ∙ h)
early_follows (Posting p) s op root early v w k r f h = early_in s early w (k ∙ h)
early_follows (Unclaiming e) s op root early v w k r f h = unclaimed e root early v w k h s f
early_follows (Releasing e) s op root early v w k r f h = released e root early v w k h s f
early_follows (Over e) s op root early v w k r f h = absurd r

falls_less : (v w : View) (x y z : ℕ) → z ≤ y → Falls v x w y → Falls v x w z
falls_less v w x y z e (inl h) = inl h
falls_less v w x y z e (inr h) = inr (h.0, omega (arith, e, h.1))

-- a section of the insert
module _ (i i' : InsertOp) (v w : View) (ready : Ready (record { insert = i; split = None }) v) where
  keeps_early : (told : Turn) → inserting.Turned i v told i' w → (early : Bool) → EarlyAt i.state early v → EarlyAt i'.state early w
  keeps_early told t early h = early_follows i.state i'.state i i'.root early v w t.apart.flags.early ready.next.state t.follows h

  same_asked : (told : Turn) → inserting.Turned i v told i' w → asked i' ≡ asked i
  same_asked told t = rw (t.id_is, t.vector_is) refl

  pub insert_more : inserting.Turned i v turn.More i' w → Turned (record { insert = i; split = None }) v More (record { insert = i'; split = None }) w
  insert_more t = record {
    asked_is = same_asked turn.More t;
    op_is = t.op_is;
    later = t.later;
    actors = t.apart.actors;
    makes = (turn.More, t, (refl, refl));
    advances = t.advances;
    owes = t.owes;
    early_is = keeps_early turn.More t;
    outcome = (record { next = t.outcome.0; pin = t.apart.pin ∙ ready.pin }, t.outcome.1 split_most);
  }

  held : inserting.StandsStill i i' w → FindsHeld i w → IsHeld (asked i) w
  held s (inl h) = inl h.1
  held s (inr h) = inr (record { prefix = h.1.prefix; belongs = insert_belongs i i' w s h.1; other = h.1.other; leaf = h.1.leaf })

  pub insert_held : inserting.Turned i v turn.Held i' w → Turned (record { insert = i; split = None }) v Held (record { insert = i'; split = None }) w
  insert_held t = record {
    asked_is = same_asked turn.Held t;
    op_is = t.op_is;
    later = t.later;
    actors = t.apart.actors;
    makes = (turn.Held, t, (refl, refl));
    advances = t.advances;
    owes = t.owes;
    early_is = keeps_early turn.Held t;
    outcome = (record { next = t.outcome.ready; pin = t.apart.pin ∙ ready.pin }, rw t.outcome.same refl, held t.outcome t.outcome.held);
  }

  pub insert_done : (reply : Reply) → inserting.Turned i v (turn.Done reply) i' w → Turned (record { insert = i; split = None }) v (Done reply) (record { insert = i'; split = None }) w
  insert_done reply t = record {
    asked_is = same_asked (turn.Done reply) t;
    op_is = t.op_is;
    later = t.later;
    actors = t.apart.actors;
    makes = (turn.Done reply, t, (refl, refl));
    advances = t.advances;
    owes = t.owes;
    early_is = keeps_early (turn.Done reply) t;
    outcome = (
      insert_finishes i i' v w reply t,
      record {
        nothing = record { shard = t.outcome.0; leaf = t.outcome.1; sweep = t.apart.sweep.sweep ∙ ready.next.fits.idle; pin = t.apart.pin ∙ ready.pin };
        unsplit = t.apart.split.splitting ∙ ready.next.fits.unsplit;
      },
      refl,
      t.outcome.2,
      t.outcome.3,
      t.outcome.4,
    );
  }

  pub insert_crowded : (leaf : Leaf) (s : SplitOp) → splitting.Begun s leaf → inserting.Turned i v (turn.Crowded leaf) i' w
      → Turned (record { insert = i; split = None }) v More (record { insert = i'; split = Some s }) w
  insert_crowded leaf s b t =
      let waits = t.outcome.0 in
      let crowds = t.outcome.1 in
      let at_once = split_begins s leaf w b crowds.leaf_is crowds.wanted crowds.unsplit in
      record {
        asked_is = same_asked (turn.Crowded leaf) t;
        op_is = t.op_is;
        later = t.later;
        actors = t.apart.actors;
        makes = (turn.Crowded leaf, t, (refl, s, refl, b));
        advances = t.advances;
        owes = λ owed h. rw b.state_is (rw waits.state_is at (t.owes owed h));
        early_is = λ early h. rw b.state_is (rw waits.state_is at (keeps_early (turn.Crowded leaf) t early h));
        outcome = (
          record { next = record { waits = waits; ready = at_once; begun = rw b.leaf_is (rw crowds.leaf_is at crowds.claimed) }; pin = t.apart.pin ∙ ready.pin },
          λ f. falls_less v w _ _ _ (rw waits.state_is (omega (arith, split_small s w at_once))) (t.outcome.2 split_most f),
        );
      }

early_now : (s : SplitState) (v : View) → splitting.EarlyIs s v.early v
early_now at.Looking v = refl
early_now (at.Gathering p) v = refl
early_now (at.Copying p) v = refl
early_now (at.Allotting p) v = refl
early_now (at.Halving p) v = refl
early_now (at.Posting p) v = refl
early_now at.Publishing v = refl
early_now (at.Undoing p (NoPages n)) v = refl
early_now (at.Undoing p Memory) v = tt
early_now (at.GivingUp (NoPages n)) v = refl
early_now (at.GivingUp Memory) v = tt
early_now at.Published v = refl
early_now (at.GivenUp (NoPages n)) v = refl
early_now (at.GivenUp Memory) v = tt

-- each of the two that a split keeps, whatever the other
pub owes_kept : (s s' : SplitOp) (v w : View) (told : SplitTurn) → splitting.Turned s v told s' w → (owed : ℕ → Bool) → OwesOnly owed (splitting.pending_in s.state s.post) v
    → OwesOnly owed (splitting.pending_in s'.state s'.post) w
owes_kept s s' v w told t owed h = (t.since owed v.early (record { owes = h; early_is = early_now s.state v })).owes

pub early_kept : (s s' : SplitOp) (v w : View) (told : SplitTurn) → splitting.Turned s v told s' w → (early : Bool) → splitting.EarlyIs s.state early v → splitting.EarlyIs s'.state early w
early_kept s s' v w told t early h = (t.since (λ p. true) early (record { owes = λ f p o. refl; early_is = h })).early_is

may_front : (g : Grid) (xs ys : List LogEvent) → AllMaySplit g (xs ++ ys) → AllMaySplit g xs
may_front g [] ys h = tt
may_front g (x ∷ xs) ys h = (h.0, may_front g xs ys h.1)

refused : (why : Reason) (w : View) → IsWhy why w → GivenUp w why
refused (NoPages limit) w h = h
refused Memory w h = tt

early_refused : (why : Reason) (early : Bool) (w : View) → splitting.EarlyUnless why early w → EarlyUnless (refusal_of why) early w
early_refused (NoPages limit) early w h = h
early_refused Memory early w h = tt

-- a section of the split
module _ (i : InsertOp) (s s' : SplitOp) (v w : View) (ready : Ready (record { insert = i; split = Some s }) v) where
  waiting : Splits i s v
  waiting = ready.next

  still_waits : Later v w → SameUpdate v w → SameSweep v w → Waits i w
  still_waits l u sw = waits_stay i v w l u sw.sweep waiting.waits

  advances_not : Later v w → SameUpdate v w → Advances i.op (made i) (inserting.number_in i) None (inserting.since_in i v) (length w.seen) v w
  advances_not l u = rw waiting.waits.state_is (advances_none i.op (made i) None _ _ v w u.own (seen_more v w l))

  pub split_more : splitting.Turned s v divided.More s' w → Turned (record { insert = i; split = Some s }) v More (record { insert = i; split = Some s' }) w
  split_more t = record {
    asked_is = refl;
    op_is = refl;
    later = t.later;
    actors = t.actors;
    makes = (divided.More, s', t, refl, refl);
    advances = rw waiting.waits.state_is (advances_none i.op (made i) None _ _ v w t.update.own (seen_more v w t.later));
    owes = owes_kept s s' v w divided.More t;
    early_is = early_kept s s' v w divided.More t;
    outcome = (
      record { next = record { waits = still_waits t.later t.update t.sweep; ready = t.outcome.0; begun = rw t.leaf waiting.begun }; pin = t.pin ∙ ready.pin },
      λ f. combine (t.outcome.1 f),
    );
  }
    where
      combine : Falls v (splitting.left s v) w (splitting.left s' w)
          → Falls v (splits_left i v * round split_most + 3 + splitting.left s v) w (splits_left i w * round split_most + 3 + splitting.left s' w)
      combine (inl h) = inl h
      combine (inr h) =
          let m : splits_left i w * round split_most ≤ splits_left i v * round split_most = mul-le-mul_right (round split_most) (splits_fall i v w t.later) in
          inr (h.0, omega (arith, m, h.1))

  -- the split of its leaf takes the object one deeper
  fewer : (position : Position) → Later v w → EntersSplit v w position → SeesBoard w → splits_left i w < splits_left i v
  fewer position l e b =
      let c = w.settings in
      let g = grid_under c in
      let ok = space_is_grid (space_of c) c.levels b.limits.few_pivots b.limits.levels in
      let p = prefix_or v.leaf in
      let is : p ≡ s.leaf.prefix = ap prefix_or waiting.ready.claimed in
      let may : AllMaySplit g e.before = may_front g e.before (Split p ∷ []) (rw e.seen at (all_may c w.seen b.legal)) in
      let want = wanted c e.before p e.wanted in
      let measured : i.dists.items ≡ distances (space_of c) i.vector = rw l.settings waiting.waits.measured in
      let perm : perm_in i ≡ g.perm i.vector = ap permutation_of measured in
      let begun : begins p (g.perm i.vector) ≡ true = rw (is, ← perm) waiting.begun in
      let o : Object = record { id = i.id; vector = i.vector } in
      let down : depth g (e.before ++ Split p ∷ []) (g.perm i.vector) ≡ depth g e.before (g.perm i.vector) + 1 = rw begun at (deeper g ok e.before may p o want.0) in
      let within : depth g w.seen (g.perm i.vector) ≤ c.levels = depth_within g ok w.seen (all_may c w.seen b.legal) (g.perm i.vector) in
      let before : depth g e.before (g.perm i.vector) + 1 ≡ depth g w.seen (g.perm i.vector) = sym down ∙ ap (λ log. depth g log (g.perm i.vector)) (sym e.seen) in
      let rises : depth g v.seen (g.perm i.vector) ≤ depth g e.before (g.perm i.vector) = rw e.grows.is (depth_rises g v.seen e.grows.by (g.perm i.vector)) in
      rw (perm, ← l.settings) (omega (arith, within, before, rises))

  round_less : splits_left i w < splits_left i v → splits_left i w * round split_most + (split_most + 3 * longest + 8) < splits_left i v * round split_most + 3 + splitting.left s v
  unfolding round
  round_less h =
      let m : (splits_left i w + 1) * round split_most ≤ splits_left i v * round split_most = mul-le-mul_right (round split_most) (omega (arith, h)) in
      omega (arith, m)

  pub split_published : (position : Position) → splitting.Turned s v (divided.Published position) s' w → ((x : View) → Waits i x → Freed x → inserting.Ready (record i { state = Claiming }) x)
      → Turned (record { insert = i; split = Some s }) v More (record { insert = record i { state = Claiming }; split = None }) w
  split_published position t go =
      let e = t.outcome.1.answer in
      record {
        asked_is = refl;
        op_is = refl;
        later = t.later;
        actors = t.actors;
        makes = (divided.Published position, s', t, refl, refl);
        advances = advances_not t.later t.update;
        owes = λ owed h. rw t.outcome.0 at (owes_kept s s' v w (divided.Published position) t owed h);
        early_is = λ early h. rw t.outcome.0 at (early_kept s s' v w (divided.Published position) t early h);
        outcome = (
          record { next = go w (still_waits t.later t.update t.sweep) (record { leaf = e.unclaimed; unsplit = e.over }); pin = t.pin ∙ ready.pin },
          λ f. inr (t.outcome.3, round_less (fewer position t.later e t.outcome.1.board)),
        );
      }

  pub split_given_up : (why : Reason) → splitting.Turned s v (divided.GivenUp why) s' w
      → ((x : View) → Waits i x → Freed x → GivenUp x why → inserting.Ready (record i { state = Releasing (refusal_of why) }) x)
      → Turned (record { insert = i; split = Some s }) v More (record { insert = record i { state = Releasing (refusal_of why) }; split = None }) w
  split_given_up why t go = record {
    asked_is = refl;
    op_is = refl;
    later = t.later;
    actors = t.actors;
    makes = (divided.GivenUp why, s', t, refl, refl);
    advances = advances_refused why;
    owes = λ owed h. rw t.outcome.0 at (owes_kept s s' v w (divided.GivenUp why) t owed h);
    early_is = λ early h. early_refused why early w (rw t.outcome.0 at (early_kept s s' v w (divided.GivenUp why) t early h));
    outcome = (
      record {
        next = go w (still_waits t.later t.update t.sweep) (record { leaf = t.outcome.1.unclaimed; unsplit = t.outcome.1.over }) (refused why w t.outcome.3);
        pin = t.pin ∙ ready.pin;
      },
      λ f. let m : splits_left i w * round split_most ≤ splits_left i v * round split_most = mul-le-mul_right (round split_most) (splits_fall i v w t.later) in
          inr (t.outcome.4, omega (arith, m)),
    );
  }
    where
      advances_refused : (why : Reason) → Advances i.op (made i) (inserting.number_in i) (number_of (refusal_of why)) (inserting.since_in i v) (events_of (refusal_of why) w.seen) v w
      advances_refused (NoPages limit) = advances_not t.later t.update
      advances_refused Memory = advances_not t.later t.update

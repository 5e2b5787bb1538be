-- A range query as a job, from section to section.
use Rattle.std.proofs.Common.{◌≡◌, ℕ, ◌≤◌, List, Bool, true, false, cond, length, None, MatchOption, Result, Ok, Err, refl, sym, ap, ◌∙◌, subst, inl, inr, arith, length-append}
use Rattle.mi_base.specs.declared.records.Op.TheVariants as op
use Rattle.mi_base.specs.declared.records.Position.{Position}
use Rattle.mi_base.specs.declared.records.Reply.{Reply}
use Rattle.mi_base.specs.declared.records.Reply.TheVariants as reply
use Rattle.mi_base.specs.declared.refusals.NoMemory.{NoMemory}
use Rattle.mi_base.specs.History.{events_at}
use Rattle.mi_legal.specs.Legal.{reach}
use Rattle.mi_legal.specs.Right.{Right}
use Rattle.mi_tree.specs.declared.answers.Look.{Look}
use Rattle.mi_tree.specs.declared.outcomes.Leaf.{Leaf}
use Rattle.mi_tree.proofs.GrowingLemmas.{end_events}
use Rattle.mi_world.specs.Boards.{Pins}
use Rattle.mi_world.specs.Pages.{pinned}
use Rattle.mi_world.specs.Queries.{Pinned}
use Rattle.mi_world.specs.View.{View}
use Rattle.mi_blink.specs.declared.turns.Turn.{Turn}
use Rattle.mi_blink.specs.declared.turns.Turn.TheVariants as turn
use Rattle.mi_blink.specs.declared.walk.Walk.{Walk}
use Rattle.mi_blink.specs.declared.walk.WalkTurn.{WalkTurn}
use Rattle.mi_blink.specs.declared.walk.WalkTurn.TheVariants as walking
use Rattle.mi_blink.proofs.DescentLemmas.{budget_stays}
use Rattle.mi_blink.proofs.PostLemmas.{owes_only_stays}
use Rattle.mi_range.specs.declared.range.RangeOp.{RangeOp}
use Rattle.mi_range.specs.declared.range.RangeState.{RangeState}
use Rattle.mi_range.specs.declared.range.RangeState.TheVariants.{Begin, Walking, Ending, Over}
use Rattle.mi_range.specs.Querying as ranging
use Rattle.mi_range.specs.Querying.{FollowsPin, FollowsVisit, OpensNext, StateIsReady, since_at}
use Rattle.mi_update.specs.Stepping.{number_told}
use Rattle.mi_update.proofs.SteppingLemmas.{seen_more}
use Rattle.mi_job.specs.declared.job.Operation.TheVariants.{Range}
use Rattle.mi_job.specs.declared.turns.JobTurn.{JobTurn}
use Rattle.mi_job.specs.declared.turns.JobTurn.TheVariants.{More, Done}
use Rattle.mi_job.specs.Jobs.{ClaimsAtMostPin, Tells, TellsSpent, Turned, range_begun}

-- a query that goes on has been begun, and its position is that of its pin
record GoesFrom (new : RangeState) (events : ℕ) (w : View) : Type 0 where
  begun : range_begun new ≡ true
  since : since_at new w ≡ events

opens : (dq : List ℕ) (radius levels : ℕ) (leaves : List Leaf) (from cells root : ℕ) (at : Position) (w : View) (new : RangeState) → OpensNext dq radius levels leaves from cells root at new
    → GoesFrom new (events_at at) w
opens dq radius levels leaves from cells root at w Begin h = absurd h
opens dq radius levels leaves from cells root at w (Walking place c r p walk) h = record { begun = refl; since = ap events_at h.5 }
opens dq radius levels leaves from cells root at w (Ending c p) h = record { begun = refl; since = ap events_at h.2 }
opens dq radius levels leaves from cells root at w Over h = absurd h

module _ (i j : RangeOp) (v w : View) (ready : StateIsReady j.state j w) where
  not_over : (n : ℕ) → j.state ≡ Over → GoesFrom j.state n w
  not_over n e = absurd (subst (λ s. StateIsReady s j w) e ready)

  from_pin : (result : Result Look NoMemory) → Pins v w result → FollowsPin i result j.state w → GoesFrom j.state (length w.seen) w
  from_pin (Ok look) pins follows =
      let end : events_at look.at ≡ length w.seen = ap events_at pins.answer.0.at_is ∙ end_events w.seen in
      subst (λ n. GoesFrom j.state n w) end (opens _ _ _ _ _ _ _ look.at w j.state follows)
  from_pin (Err e) pins follows = not_over (length w.seen) follows

  from_visit : (place cells root : ℕ) (at : Position) (answer : WalkTurn) (walk : Walk) → FollowsVisit i place cells root at answer walk j.state w → GoesFrom j.state (events_at at) w
  from_visit place cells root at walking.More walk e = record { begun = rw e refl; since = rw e refl }
  from_visit place cells root at walking.Done walk h = opens _ _ _ _ _ _ _ at w j.state h

  goes_from : (s : RangeState) → ranging.Makes s i v j.state w → GoesFrom j.state (cond (range_begun s) (since_at s v) (length w.seen)) w
  goes_from Begin m = from_pin m.0 m.1 m.2
  goes_from (Walking place cells root at walk) (inl r) = from_visit place cells root at r.answer r.walk_after r.follows
  goes_from (Walking place cells root at walk) (inr m) = not_over (events_at at) m.1
  goes_from (Ending cells at) m = not_over (events_at at) m.1
  goes_from Over m = absurd m

-- what the last reply of a query tells
record Answers (i : RangeOp) (k : ℕ) (s : RangeState) (v w : View) (y : Reply) : Type 0 where
  number : number_told y ≡ None
  spent : TellsSpent (Range i k) v w y
  pinned : MatchOption (reach w.seen y) (Unit {0}) (λ n. n ≡ cond (range_begun s) (since_at s v) (length w.seen))

module _ (i : RangeOp) (k : ℕ) (v w : View) where
  no_answer : (s : RangeState) (y : Reply) → y ≡ reply.Memory → Answers i k s v w y
  no_answer s y e = rw e (record { number = refl; spent = tt; pinned = tt })

  answers : (s : RangeState) (y : Reply) → ranging.Tells s i.work y → Answers i k s v w y
  answers Begin y h = no_answer Begin y h
  answers (Walking place cells root at walk) y h = no_answer (Walking place cells root at walk) y h
  answers (Ending cells at) (reply.Range p rows c distances) h = record { number = refl; spent = h.2; pinned = ap events_at h.0 }
  answers (Ending cells at) (reply.Stored n) h = absurd h
  answers (Ending cells at) (reply.Removed n) h = absurd h
  answers (Ending cells at) (reply.Present p) h = absurd h
  answers (Ending cells at) (reply.Absent p) h = absurd h
  answers (Ending cells at) (reply.Full n) h = absurd h
  answers (Ending cells at) (reply.NoPages n) h = absurd h
  answers (Ending cells at) reply.Memory h = absurd h
  answers (Ending cells at) (reply.Nearest p rows c) h = absurd h
  answers Over y h = absurd h

module _ (i j : RangeOp) (k : ℕ) (b : Bool) (v w : View) (ready : ranging.Ready i v) (begun : b ≡ range_begun i.state) (claims : ClaimsAtMostPin v) where
  range_more : ranging.Turned i v turn.More j w → Turned (record { operation = Range i k; begun = b }) v More (record { operation = Range j k; begun = true }) w
  range_more t =
      let from = goes_from i j v w t.outcome.0.state i.state t.makes in
      record {
        asked_is = rw (t.radius_is, t.query_is) refl;
        number_is = refl;
        has_begun = refl;
        later = t.later;
        actors = t.same.actors;
        makes = (turn.More, t, refl, refl);
        enters = inr (record { number = refl; own = t.same.update.own });
        not_before = t.outcome.1;
        owes = λ owed h. owes_only_stays owed (λ p. false) v w t.later t.same.owes h;
        early_is = λ early h. t.same.flags.early ∙ h;
        outcome = (
          record {
            operation = (
              t.outcome.0,
              sym from.begun,
              record {
                shard = t.same.update.shard ∙ claims.shard;
                leaf = t.same.leaf.leaf ∙ claims.leaf;
                sweep = t.same.sweep.sweep ∙ claims.sweep;
                unsplit = t.same.split.splitting ∙ claims.unsplit;
              },
            );
          },
          λ q. rw begun from.since,
          λ f. inr (budget_stays v w t.later t.same.fresh, t.outcome.2),
        );
      }

  range_done : (y : Reply) → ranging.Turned i v (turn.Done y) j w → Turned (record { operation = Range i k; begun = b }) v (Done y) (record { operation = Range j k; begun = true }) w
  range_done y t =
      let a = answers i k v w i.state y t.outcome.2 in
      record {
        asked_is = rw (t.radius_is, t.query_is) refl;
        number_is = refl;
        has_begun = refl;
        later = t.later;
        actors = t.same.actors;
        makes = (turn.Done y, t, refl, refl);
        enters = inr (record { number = refl; own = t.same.update.own });
        not_before = rw t.outcome.0 (low i.state ready.state);
        owes = λ owed h. owes_only_stays owed (λ p. false) v w t.later t.same.owes h;
        early_is = λ early h. t.same.flags.early ∙ h;
        outcome = record {
          right = λ allotted told. right allotted;
          not_before = t.outcome.4;
          pinned = λ q. rw begun a.pinned;
          spent = a.spent;
          number_is = a.number;
          accepted_is = refl;
          none_pending = λ p. refl;
          early_is = λ early h m. h;
          claims = record {
            nothing = record { shard = t.same.update.shard ∙ claims.shard; leaf = t.same.leaf.leaf ∙ claims.leaf; sweep = t.same.sweep.sweep ∙ claims.sweep; pin = t.outcome.1 };
            unsplit = t.same.split.splitting ∙ claims.unsplit;
          };
        };
      }
    where
      right : (allotted : ℕ) → Right w.settings w.seen allotted w.actor k (op.Range i.radius i.query) y
      right allotted =
          let same : op.Range j.radius j.query ≡ op.Range i.radius i.query = rw (t.radius_is, t.query_is) refl in
          subst (λ o. Right w.settings w.seen allotted w.actor k o y) same (t.outcome.3 allotted k)

      pinned_low : (at : Position) → Pinned at v → events_at at ≤ length w.seen
      pinned_low at h =
          let all : events_at at ≡ length (pinned v) = ap events_at h.at_is ∙ end_events (pinned v) in
          omega (arith, all, ap length h.seen.is, length-append (pinned v) h.seen.by, seen_more v w t.later)

      low : (s : RangeState) → StateIsReady s i v → since_at s v ≤ length w.seen
      low Begin h = seen_more v w t.later
      low (Walking place cells root at walk) h = pinned_low at h.holds
      low (Ending cells at) h = pinned_low at h.holds
      low Over h = absurd h

  pub range_turned : (told : Turn) (answer : JobTurn) → ranging.Turned i v told j w → Tells told answer
      → Turned (record { operation = Range i k; begun = b }) v answer (record { operation = Range j k; begun = true }) w
  range_turned turn.More answer t e = rw e (range_more t)
  range_turned turn.Held answer t e = absurd t.outcome
  range_turned (turn.Crowded leaf) answer t e = absurd e
  range_turned (turn.Done y) answer t e = rw e (range_done y t)

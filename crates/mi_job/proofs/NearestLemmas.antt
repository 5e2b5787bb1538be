-- A query for the nearest as a job, from section to section.
use Rattle.std.proofs.Common.{◌≡◌, ℕ, ◌+◌, ◌≤◌, List, Bool, true, false, cond, length, None, MatchOption, Result, Ok, Err, refl, sym, ap, ◌∙◌, subst, inl, inr, arith, length-append}
use Rattle.mi_base.specs.declared.records.Op.TheVariants as op
use Rattle.mi_base.specs.declared.records.Position.{Position}
use Rattle.mi_base.specs.declared.records.Reply.{Reply}
use Rattle.mi_base.specs.declared.records.Reply.TheVariants as reply
use Rattle.mi_base.specs.declared.refusals.NoMemory.{NoMemory}
use Rattle.mi_base.specs.History.{events_at}
use Rattle.mi_legal.specs.Legal.{reach}
use Rattle.mi_legal.specs.Right.{Right}
use Rattle.mi_legal.specs.Work.{objects_reached}
use Rattle.mi_nearest.specs.declared.order.Rank.{Rank}
use Rattle.mi_nearest.specs.Nearing.{NearestWorkState}
use Rattle.mi_tree.specs.declared.answers.Look.{Look}
use Rattle.mi_tree.specs.declared.outcomes.Leaf.{Leaf}
use Rattle.mi_tree.proofs.GrowingLemmas.{end_events}
use Rattle.mi_world.specs.Boards.{Pins}
use Rattle.mi_world.specs.Pages.{pinned}
use Rattle.mi_world.specs.Queries.{Pinned, pinned_cells}
use Rattle.mi_world.specs.View.{View}
use Rattle.mi_blink.specs.declared.turns.Turn.{Turn}
use Rattle.mi_blink.specs.declared.turns.Turn.TheVariants as turn
use Rattle.mi_blink.specs.declared.walk.Walk.{Walk}
use Rattle.mi_blink.specs.declared.walk.WalkTurn.{WalkTurn}
use Rattle.mi_blink.specs.declared.walk.WalkTurn.TheVariants as walking
use Rattle.mi_blink.proofs.DescentLemmas.{budget_stays}
use Rattle.mi_blink.proofs.PostLemmas.{owes_only_stays}
use Rattle.mi_nearest.specs.declared.nearest.NearestOp.{NearestOp}
use Rattle.mi_nearest.specs.declared.nearest.NearestState.{NearestState}
use Rattle.mi_nearest.specs.declared.nearest.NearestState.TheVariants.{Begin, Walking, Ending, Refusing, Over}
use Rattle.mi_nearest.specs.Querying as nearing
use Rattle.mi_nearest.specs.Querying.{FollowsPin, FollowsVisit, OpensFrom, OpensNext, StateIsReady, since_at}
use Rattle.mi_update.specs.Stepping.{number_told}
use Rattle.mi_update.proofs.SteppingLemmas.{seen_more}
use Rattle.mi_job.specs.declared.job.Operation.TheVariants.{Nearest}
use Rattle.mi_job.specs.declared.turns.JobTurn.{JobTurn}
use Rattle.mi_job.specs.declared.turns.JobTurn.TheVariants.{More, Done}
use Rattle.mi_job.specs.Jobs.{ClaimsAtMostPin, Tells, TellsSpent, Turned, nearest_begun}

-- a query that goes on has been begun, and its position is that of its pin
record GoesFrom (new : NearestState) (events : ℕ) (w : View) : Type 0 where
  begun : nearest_begun new ≡ true
  since : since_at new w ≡ events

opens : (dq : List ℕ) (levels : ℕ) (leaves : List Leaf) (ranks : List Rank) (work : NearestWorkState) (opened root : ℕ) (at : Position) (w : View) (new : NearestState)
    → OpensNext dq levels leaves ranks work opened root at new → GoesFrom new (events_at at) w
opens dq levels leaves ranks work opened root at w Begin h = absurd h
opens dq levels leaves ranks work opened root at w (Walking o r p walk) h = record { begun = refl; since = ap events_at h.7 }
opens dq levels leaves ranks work opened root at w (Ending c p) h = record { begun = refl; since = ap events_at h.2 }
opens dq levels leaves ranks work opened root at w Refusing h = absurd h
opens dq levels leaves ranks work opened root at w Over h = absurd h

module _ (i j : NearestOp) (v w : View) (ready : StateIsReady j.state j w) where
  not_over : (n : ℕ) → j.state ≡ Over → GoesFrom j.state n w
  not_over n e = absurd (subst (λ s. StateIsReady s j w) e ready)

  opens_from : (opened root : ℕ) (at : Position) → OpensFrom j w opened root at → GoesFrom j.state (events_at at) w
  opens_from opened root at h = opens (nearing.dists_of j w) w.settings.levels (pinned_cells w) h.0.ranks.items h.0.work opened root at w j.state h.2

  from_pin : (result : Result Look NoMemory) → Pins v w result → FollowsPin result j w → GoesFrom j.state (length w.seen) w
  from_pin (Ok look) pins (inl e) = record { begun = rw e refl; since = rw e refl }
  from_pin (Ok look) pins (inr h) =
      let end : events_at look.at ≡ length w.seen = ap events_at pins.answer.0.at_is ∙ end_events w.seen in
      subst (λ n. GoesFrom j.state n w) end (opens_from 0 look.root look.at h.1)
  from_pin (Err e) pins follows = not_over (length w.seen) follows

  from_visit : (opened root : ℕ) (at : Position) (answer : WalkTurn) (walk : Walk) → FollowsVisit opened root at answer walk j w → GoesFrom j.state (events_at at) w
  from_visit opened root at walking.More walk e = record { begun = rw e refl; since = rw e refl }
  from_visit opened root at walking.Done walk h = opens_from (opened + 1) root at h

  goes_from : (s : NearestState) → nearing.Makes s i v j w → GoesFrom j.state (cond (nearest_begun s) (since_at s v) (length w.seen)) w
  goes_from Begin m = from_pin m.0 m.1 m.2
  goes_from (Walking opened root at walk) (inl r) = from_visit opened root at r.answer r.walk_after r.follows
  goes_from (Walking opened root at walk) (inr m) = not_over (events_at at) m.1
  goes_from (Ending cells at) m = not_over (events_at at) m.1
  goes_from Refusing m = not_over (length v.seen) m.1
  goes_from Over m = absurd m

-- what the last reply of a query tells
record Answers (i : NearestOp) (k : ℕ) (s : NearestState) (v w : View) (y : Reply) : Type 0 where
  number : number_told y ≡ None
  spent : TellsSpent (Nearest i k) v w y
  pinned : MatchOption (reach w.seen y) (Unit {0}) (λ n. n ≡ cond (nearest_begun s) (since_at s v) (length w.seen))

module _ (i : NearestOp) (k : ℕ) (v w : View) (settings : w.settings ≡ v.settings) where
  no_answer : (s : NearestState) (y : Reply) → y ≡ reply.Memory → Answers i k s v w y
  no_answer s y e = rw e (record { number = refl; spent = tt; pinned = tt })

  answers : (s : NearestState) (y : Reply) → i.state ≡ s → nearing.Tells s y → nearing.IsCheap i (nearing.most i v) w y → Answers i k s v w y
  answers Begin y is h cheap = no_answer Begin y h
  answers (Walking opened root at walk) y is h cheap = no_answer (Walking opened root at walk) y h
  answers (Ending cells at) (reply.Nearest p rows c) is h cheap = record { number = refl; spent = (rw (is, settings) (omega arith), cheap); pinned = ap events_at h.0 }
  answers (Ending cells at) (reply.Range p rows c distances) is h cheap = absurd h
  answers (Ending cells at) (reply.Stored n) is h cheap = absurd h
  answers (Ending cells at) (reply.Removed n) is h cheap = absurd h
  answers (Ending cells at) (reply.Present p) is h cheap = absurd h
  answers (Ending cells at) (reply.Absent p) is h cheap = absurd h
  answers (Ending cells at) (reply.Full n) is h cheap = absurd h
  answers (Ending cells at) (reply.NoPages n) is h cheap = absurd h
  answers (Ending cells at) reply.Memory is h cheap = absurd h
  answers Refusing y is h cheap = no_answer Refusing y h
  answers Over y is h cheap = no_answer Over y h

module _ (i j : NearestOp) (k : ℕ) (b : Bool) (v w : View) (ready : nearing.Ready i v) (begun : b ≡ nearest_begun i.state) (claims : ClaimsAtMostPin v) where
  nearest_more : nearing.Turned i v turn.More j w → Turned (record { operation = Nearest i k; begun = b }) v More (record { operation = Nearest j k; begun = true }) w
  nearest_more t =
      let from = goes_from i j v w t.outcome.0.state i.state t.makes in
      record {
        asked_is = rw (t.count_is, t.query_is) refl;
        number_is = refl;
        has_begun = refl;
        later = t.later;
        actors = t.same.actors;
        makes = (turn.More, t, refl, refl);
        enters = inr (record { number = refl; own = t.same.update.own });
        not_before = t.outcome.1;
        owes = λ owed h. owes_only_stays owed (λ p. false) v w t.later t.same.owes h;
        early_is = λ early h. t.same.flags.early ∙ h;
        outcome = (
          record {
            operation = (
              t.outcome.0,
              sym from.begun,
              record {
                shard = t.same.update.shard ∙ claims.shard;
                leaf = t.same.leaf.leaf ∙ claims.leaf;
                sweep = t.same.sweep.sweep ∙ claims.sweep;
                unsplit = t.same.split.splitting ∙ claims.unsplit;
              },
            );
          },
          λ q. rw begun from.since,
          λ f. inr (budget_stays v w t.later t.same.fresh, t.outcome.2),
        );
      }

  nearest_done : (y : Reply) → nearing.Turned i v (turn.Done y) j w → Turned (record { operation = Nearest i k; begun = b }) v (Done y) (record { operation = Nearest j k; begun = true }) w
  nearest_done y t =
      let a = answers i k v w t.later.settings i.state y refl t.outcome.2 cheap in
      record {
        asked_is = rw (t.count_is, t.query_is) refl;
        number_is = refl;
        has_begun = refl;
        later = t.later;
        actors = t.same.actors;
        makes = (turn.Done y, t, refl, refl);
        enters = inr (record { number = refl; own = t.same.update.own });
        not_before = rw t.outcome.0 (low i.state ready.state);
        owes = λ owed h. owes_only_stays owed (λ p. false) v w t.later t.same.owes h;
        early_is = λ early h. t.same.flags.early ∙ h;
        outcome = record {
          right = λ allotted told. right allotted;
          not_before = t.outcome.4;
          pinned = λ q. rw begun a.pinned;
          spent = a.spent;
          number_is = a.number;
          accepted_is = refl;
          none_pending = λ p. refl;
          early_is = λ early h m. h;
          claims = record {
            nothing = record { shard = t.same.update.shard ∙ claims.shard; leaf = t.same.leaf.leaf ∙ claims.leaf; sweep = t.same.sweep.sweep ∙ claims.sweep; pin = t.outcome.1 };
            unsplit = t.same.split.splitting ∙ claims.unsplit;
          };
        };
      }
    where
      cheap : nearing.IsCheap i (nearing.most i v) w y
      cheap = same_cheap y t.outcome.5
        where
          same_cheap : (z : Reply) → nearing.IsCheap j (nearing.most i v) w z → nearing.IsCheap i (nearing.most i v) w z
          same_cheap (reply.Nearest p rows c) h = subst (λ q. nearing.most i v ≤ length w.settings.pivots + objects_reached w.settings w.seen i.count q (reply.Nearest p rows c)) t.query_is (subst (λ m. nearing.most i v ≤ length w.settings.pivots + objects_reached w.settings w.seen m j.query (reply.Nearest p rows c)) t.count_is h)
          same_cheap (reply.Range p rows c d) h = tt
          same_cheap (reply.Stored n) h = tt
          same_cheap (reply.Removed n) h = tt
          same_cheap (reply.Present p) h = tt
          same_cheap (reply.Absent p) h = tt
          same_cheap (reply.Full n) h = tt
          same_cheap (reply.NoPages n) h = tt
          same_cheap reply.Memory h = tt

      right : (allotted : ℕ) → Right w.settings w.seen allotted w.actor k (op.Nearest i.count i.query) y
      right allotted =
          let same : op.Nearest j.count j.query ≡ op.Nearest i.count i.query = rw (t.count_is, t.query_is) refl in
          subst (λ o. Right w.settings w.seen allotted w.actor k o y) same (t.outcome.3 allotted k)

      pinned_low : (at : Position) → Pinned at v → events_at at ≤ length w.seen
      pinned_low at h =
          let all : events_at at ≡ length (pinned v) = ap events_at h.at_is ∙ end_events (pinned v) in
          omega (arith, all, ap length h.seen.is, length-append (pinned v) h.seen.by, seen_more v w t.later)

      low : (s : NearestState) → StateIsReady s i v → since_at s v ≤ length w.seen
      low Begin h = seen_more v w t.later
      low (Walking opened root at walk) h = pinned_low at h.holds
      low (Ending cells at) h = pinned_low at h.holds
      low Refusing h = seen_more v w t.later
      low Over h = absurd h

  pub nearest_turned : (told : Turn) (answer : JobTurn) → nearing.Turned i v told j w → Tells told answer
      → Turned (record { operation = Nearest i k; begun = b }) v answer (record { operation = Nearest j k; begun = true }) w
  nearest_turned turn.More answer t e = rw e (nearest_more t)
  nearest_turned turn.Held answer t e = absurd t.outcome
  nearest_turned (turn.Crowded leaf) answer t e = absurd e
  nearest_turned (turn.Done y) answer t e = rw e (nearest_done y t)

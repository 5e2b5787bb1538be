-- What is kept from the first section of a session's operation to the last, and what it comes to.
use Rattle.std.proofs.Common.{◌≡◌, ℕ, ℤ, zero, suc, ◌+◌, ◌≤◌, List, [], ◌∷◌, length, Option, Some, None, refl, sym, ap, ◌∙◌, subst, arith, length-append}
use Rattle.std.specs.Prelude.{MatchOption}
use Rattle.mi_base.specs.declared.records.LogEvent.{LogEvent}
use Rattle.mi_base.specs.declared.records.LogEvent.TheVariants.{Update, Split}
use Rattle.mi_base.specs.declared.records.Op.{Op}
use Rattle.mi_base.specs.declared.records.Op.TheVariants as op
use Rattle.mi_base.specs.declared.records.Reply.{Reply}
use Rattle.mi_base.specs.declared.records.Reply.TheVariants as reply
use Rattle.mi_base.specs.Configuration.{Configuration, IsWithinLimits, metric_space, space_of}
use Rattle.mi_base.specs.History.{end_of, events_at}
use Rattle.mi_base.specs.Scripts.{IsOpOver}
use Rattle.mi_base.specs.Space.{MetricSpace}
use Rattle.mi_base.proofs.HistoryLemmas.{few_updates}
use Rattle.mi_job.specs.declared.job.Job.{Job}
use Rattle.mi_job.specs.declared.job.Operation.{Operation}
use Rattle.mi_job.specs.declared.job.Operation.TheVariants.{Insert, Delete, Range, Nearest}
use Rattle.mi_job.specs.declared.turns.JobTurn.{JobTurn}
use Rattle.mi_job.specs.declared.turns.JobTurn.TheVariants.{More, Held, Done}
use Rattle.mi_job.specs.Claims.{ClaimsNone, IsHeld}
use Rattle.mi_job.specs.Jobs.{Begun, Ended, Ready, Since, TellsSpent, Ticked, Ticks, Turned, asked, asked_by, least_spent, measured_for, most_spent, op_number}
use Rattle.mi_job.proofs.EndLemmas.{job_ends, since_kept}
use Rattle.mi_legal.specs.Legal.{events_to, reach}
use Rattle.mi_legal.specs.Right.{Right}
use Rattle.mi_legal.specs.Work.{TakesSteps, Works, WorksNearest, least_steps}
use Rattle.mi_legal.proofs.StepLemmas.{delete_steps, nearest_steps, range_steps}
use Rattle.mi_session.specs.Sessions.{Answers, IsSeated}
use Rattle.mi_session.proofs.BeginLemmas.{Begins, begin_ready, begins, since_first}
use Rattle.mi_world.specs.Families.{Absorbs, Forked, NotForked}
use Rattle.mi_world.specs.View.{Later, SameActors, View}
use Rattle.mi_world.proofs.ViewLemmas.{later_later, later_none}

-- an operation that began at the view v, `begin` steps having been taken, between two sections
pub record Driving (o : Op) (number begin : ℕ) (v : View) (job : Job) (w : View) (k : ℕ) : Type 0 where
  pub asked_is : asked job ≡ o
  pub number_is : op_number job ≡ number
  pub later : Later v w
  pub actors : SameActors v w
  pub ready : Ready job w
  pub since : Since v.own (length v.seen) v.owes v.early job w
  pub ticked : Ticked (begin + measured_for o v.settings.pivots) job w k

pub drives_first : (o : Op) (number begin : ℕ) (space : MetricSpace) (pivots : List (List ℤ)) (v : View) (job : Job) (k : ℕ) → IsSeated space pivots v → IsOpOver (metric_space v.settings) o
    → Begun job o number (record { metric = space; pivots = pivots }) → k ≡ begin + measured_for o pivots → Driving o number begin v job v k
drives_first o number begin space pivots v job k seat over begun taken =
    let under : Begun job o number (record { metric = space; pivots = v.settings.pivots })
    = subst (λ (ps : List (List ℤ)). Begun job o number (record { metric = space; pivots = ps })) seat.pivots_are begun in
    let here : Begun job o number (space_of v.settings) = subst (λ (m : MetricSpace). Begun job o number (record { metric = m; pivots = v.settings.pivots })) seat.space_is under in
    let count : k ≡ begin + measured_for o v.settings.pivots = subst (λ (ps : List (List ℤ)). k ≡ begin + measured_for o ps) seat.pivots_are taken in
    let b : Begins job.operation o number v = begins job.operation o number (space_of v.settings) v here.operation in
    record {
      asked_is = b.asked_is;
      number_is = b.number_is;
      later = later_none v;
      actors = record { absorbed = refl; forked = refl };
      ready = record { operation = begin_ready job.operation job.begun o number v here.operation here.not_yet over seat.claims };
      since = since_first job o number v b;
      ticked = (omega (arith, count, b.spent), omega (arith, count));
    }

pub actors_on : (v w u : View) → SameActors v w → SameActors w u → SameActors v u
actors_on v w u a b = record { absorbed = b.absorbed ∙ a.absorbed; forked = b.forked ∙ a.forked }

module _ (o : Op) (number begin : ℕ) (v : View) (old new : Job) (w u : View) (k n : ℕ) where
  drives_by : (answer : JobTurn) → Driving o number begin v old w k → Turned old w answer new u → Ready new u
      → Ticked (begin + measured_for o v.settings.pivots) new u n → Driving o number begin v new u n
  drives_by answer d t ready ticked = record {
    asked_is = t.asked_is ∙ d.asked_is;
    number_is = t.number_is ∙ d.number_is;
    later = later_later v w u d.later t.later;
    actors = actors_on v w u d.actors t.actors;
    ready = ready;
    since = since_kept v.own (length v.seen) v.owes v.early old new w u answer t d.since;
    ticked = ticked;
  }

  pub drives_on : Driving o number begin v old w k → Turned old w More new u → Ticks old w k More new u n → Driving o number begin v new u n
  drives_on d t ticks = drives_by More d t t.outcome.0 (omega (arith, d.ticked.0, ticks.0), omega (arith, d.ticked.1, ticks.1))

  -- a query is never held, and an update computes no distance
  held_spent : (x : Operation) → IsHeld (asked_by x) u → (least_spent x w ≡ least_spent x u) × (most_spent x w ≡ most_spent x u)
  held_spent (Insert job) h = (refl, refl)
  held_spent (Delete delete) h = (refl, refl)
  held_spent (Range range j) h = absurd h
  held_spent (Nearest nearest j) h = absurd h

  pub drives_still : Driving o number begin v old w k → Turned old w Held new u → Ticks old w k Held new u n → Driving o number begin v new u n
  drives_still d t ticks =
      let same = held_spent old.operation t.outcome.2 in
      let least : least_spent new.operation u ≡ least_spent old.operation w = ap (λ x. least_spent x u) t.outcome.1 ∙ sym same.0 in
      let most : most_spent new.operation u ≡ most_spent old.operation w = ap (λ x. most_spent x u) t.outcome.1 ∙ sym same.1 in
      drives_by Held d t t.outcome.0 (omega (arith, d.ticked.0, ticks, least), omega (arith, d.ticked.1, ticks, most))

-- the steps of an operation that has ended
insert_least : (c : Configuration) (id : ℕ) (vector : List ℤ) (y : Reply) → least_steps c (op.Insert id vector) y ≤ length c.pivots
insert_least c id vector (reply.Stored n) = omega arith
insert_least c id vector y = omega arith

module _ (w u : View) (begin k n j : ℕ) (y : Reply) (same : n ≡ k) where
  abbrev IsRightHere : Op → Type 0
  IsRightHere o = Right u.settings u.seen u.settings.pages u.actor j o y

  takes : (x : Operation) → IsRightHere (asked_by x) → TellsSpent x w u y → begin + measured_for (asked_by x) u.settings.pivots + least_spent x w ≤ k
      → k ≤ begin + measured_for (asked_by x) u.settings.pivots + most_spent x w → TakesSteps u.settings u.seen (asked_by x) y begin n
  takes (Insert job) right spent low high = λ lacks. (
    omega (arith, same, low, insert_least u.settings job.insert.id job.insert.vector y),
    omega (arith, same, high),
  )
  takes (Delete delete) right spent low high = delete_steps u.settings u.seen delete.id y begin n (omega (arith, same, low, high))
  takes (Range range i) right spent low high = range_steps u.settings u.seen u.settings.pages u.actor j range.radius range.query y begin n right (works y spent)
    where
      works : (y : Reply) → TellsSpent (Range range i) w u y → Works begin y n
      works (reply.Range p rows cells distances) spent = omega (arith, same, low, high, spent)
      works (reply.Stored m) spent = tt
      works (reply.Removed m) spent = tt
      works (reply.Present p) spent = tt
      works (reply.Absent p) spent = tt
      works (reply.Full m) spent = tt
      works (reply.NoPages m) spent = tt
      works reply.Memory spent = tt
      works (reply.Nearest p rows cells) spent = tt
  takes (Nearest nearest i) right spent low high = nearest_steps u.settings u.seen u.settings.pages u.actor j nearest.count nearest.query y begin n right (works y spent)
    where
      works : (y : Reply) → TellsSpent (Nearest nearest i) w u y → WorksNearest u.settings u.seen nearest.count nearest.query begin y n
      works (reply.Nearest p rows cells) spent = (omega (arith, same, low, spent.0), omega (arith, same, high, spent.1))
      works (reply.Stored m) spent = tt
      works (reply.Removed m) spent = tt
      works (reply.Present p) spent = tt
      works (reply.Absent p) spent = tt
      works (reply.Full m) spent = tt
      works (reply.NoPages m) spent = tt
      works reply.Memory spent = tt
      works (reply.Range p rows cells distances) spent = tt

module _ (o : Op) (number begin : ℕ) (v : View) (old new : Job) (w u : View) (k : ℕ) (y : Reply) (d : Driving o number begin v old w k) (t : Turned old w (Done y) new u) where
  pub drive_answers : Answers o number v y u
  drive_answers =
      let P : Op → ℕ → Type 0 = λ q m. Ended q m v.own (length v.seen) v.owes v.early u y in
      record {
        ended = subst (λ m. P o m) d.number_is (subst (λ q. P q (op_number old)) d.asked_is (job_ends v.own (length v.seen) v.owes v.early old new w u y t d.since));
        later = later_later v w u d.later t.later;
        actors = actors_on v w u d.actors t.actors;
      }

  pub drive_takes : (n : ℕ) → Ticks old w k (Done y) new u n → TakesSteps u.settings u.seen o y begin n
  drive_takes n ticks =
      let same : u.settings ≡ v.settings = t.later.settings ∙ d.later.settings in
      let P : Op → Configuration → Type 0 = λ q c. (begin + measured_for q c.pivots + least_spent old.operation w ≤ k) × (k ≤ begin + measured_for q c.pivots + most_spent old.operation w) in
      let ticked : P (asked old) u.settings = subst (λ q. P q u.settings) (sym d.asked_is) (subst (P o) (sym same) d.ticked) in
      subst (λ (q : Op). TakesSteps u.settings u.seen q y begin n) d.asked_is
      (takes w u begin k n (op_number old) y ticks old.operation (t.outcome.right u.settings.pages (λ told. refl)) t.outcome.spent ticked.0 ticked.1)

-- what a session keeps between its operations
pub seated_stays : (space : MetricSpace) (pivots : List (List ℤ)) (v w : View) → IsSeated space pivots v → w.settings ≡ v.settings → ClaimsNone w → IsSeated space pivots w
seated_stays space pivots v w h same free = record {
  space_is = h.space_is ∙ ap metric_space (sym same);
  pivots_are = h.pivots_are ∙ ap (λ (c : Configuration). c.pivots) (sym same);
  limits = subst IsWithinLimits (sym same) h.limits;
  claims = free;
}

pub fork_leaves : (v w child : View) → Forked v w child → ClaimsNone v → ClaimsNone w
fork_leaves v w child f free = record {
  nothing = record {
    shard = f.update.shard ∙ free.nothing.shard;
    leaf = f.leaf.leaf ∙ free.nothing.leaf;
    sweep = f.sweep.sweep ∙ free.nothing.sweep;
    pin = f.pin ∙ free.nothing.pin;
  };
  unsplit = f.split.splitting ∙ free.unsplit;
}

pub fork_child : (v w child : View) → Forked v w child → ClaimsNone child
fork_child v w child f = record { nothing = f.child_is.idle; unsplit = f.child_is.unsplit }

pub no_fork_leaves : (v w : View) → NotForked v w → ClaimsNone v → ClaimsNone w
no_fork_leaves v w f free = record {
  nothing = record {
    shard = f.same.work.update.shard ∙ free.nothing.shard;
    leaf = f.same.work.leaf.leaf ∙ free.nothing.leaf;
    sweep = f.same.work.apart.sweep.sweep ∙ free.nothing.sweep;
    pin = f.same.work.apart.pin ∙ free.nothing.pin;
  };
  unsplit = f.same.work.apart.split.splitting ∙ free.unsplit;
}

pub absorb_leaves : (v other w : View) → Absorbs v other w → ClaimsNone v → ClaimsNone w
absorb_leaves v other w a free = record {
  nothing = record {
    shard = a.update.shard ∙ free.nothing.shard;
    leaf = a.leaf.leaf ∙ free.nothing.leaf;
    sweep = a.sweep.sweep ∙ free.nothing.sweep;
    pin = a.pin ∙ free.nothing.pin;
  };
  unsplit = a.split.splitting ∙ free.unsplit;
}

-- where the log that was seen ends, and what a reply reaches
end_events : (log : List LogEvent) → events_at (end_of log) ≡ length log
end_events log = omega (arith, few_updates log)

pub front_rises : (v w : View) → Later v w → events_at (end_of v.seen) ≤ events_at (end_of w.seen)
front_rises v w h = omega (arith, end_events v.seen, end_events w.seen, ap length h.grows.is, length-append v.seen h.grows.by)

events_within : (n : ℕ) (log : List LogEvent) → events_to n log ≤ length log
events_within zero log = omega arith
events_within (suc n) [] = omega arith
events_within (suc n) (Update session number u ∷ log) = omega (arith, events_within n log)
events_within (suc n) (Split p ∷ log) = omega (arith, events_within (suc n) log)

pub reach_within : (c : Configuration) (log : List LogEvent) (allotted k j : ℕ) (o : Op) (y : Reply) → Right c log allotted k j o y → MatchOption (reach log y) (Unit {0}) (λ n. n ≤ length log)
reach_within c log allotted k j o (reply.Stored n) h = events_within n log
reach_within c log allotted k j o (reply.Removed n) h = events_within n log
reach_within c log allotted k j (op.Insert id v) (reply.Present p) h = h.0.within
reach_within c log allotted k j o (reply.Present p) h = absurd h
reach_within c log allotted k j (op.Delete id) (reply.Absent p) h = h.0.within
reach_within c log allotted k j o (reply.Absent p) h = absurd h
reach_within c log allotted k j (op.Range r q) (reply.Range p rows cells distances) h = h.position.within
reach_within c log allotted k j o (reply.Range p rows cells distances) h = absurd h
reach_within c log allotted k j (op.Nearest n q) (reply.Nearest p rows cells) h = h.position.within
reach_within c log allotted k j o (reply.Nearest p rows cells) h = absurd h
reach_within c log allotted k j o (reply.Full limit) h = tt
reach_within c log allotted k j o (reply.NoPages limit) h = tt
reach_within c log allotted k j o reply.Memory h = tt

abbrev Between : List LogEvent → List LogEvent → ℕ → Type 0
Between old new n = (events_at (end_of old) ≤ n) × (n ≤ events_at (end_of new))

between : (old new : List LogEvent) (o : Option ℕ) → MatchOption o (Unit {0}) (λ n. length old ≤ n) → MatchOption o (Unit {0}) (λ n. n ≤ length new) → MatchOption o (Unit {0}) (Between old new)
between old new None h g = tt
between old new (Some n) h g = (omega (arith, h, end_events old), omega (arith, g, end_events new))

pub reply_between : (o : Op) (number : ℕ) (v w : View) (y : Reply) → Answers o number v y w
    → MatchOption (reach w.seen y) (Unit {0}) (λ n. (events_at (end_of v.seen) ≤ n) × (n ≤ events_at (end_of w.seen)))
reply_between o number v w y a = between v.seen w.seen (reach w.seen y) a.ended.not_before
    (reach_within w.settings w.seen w.settings.pages w.actor number o y (a.ended.right w.settings.pages (λ told. refl)))

-- Jobs and the splitter while others act.
use Rattle.std.proofs.Common.{◌≡◌, ℕ, ◌≤◌, List, Bool, false, Option, Some, None, ◌∙◌, refl, arith}
use Rattle.mi_base.specs.History.{Entered}
use Rattle.mi_world.specs.View.{View, Others}
use Rattle.mi_blink.specs.declared.turns.Why.{Why as Reason}
use Rattle.mi_blink.specs.declared.turns.Why.TheVariants.{NoPages, Memory}
use Rattle.mi_blink.proofs.PostLemmas.{owes_only_stays}
use Rattle.mi_nearest.specs.declared.nearest.NearestState.{NearestState}
use Rattle.mi_nearest.specs.declared.nearest.NearestState.TheVariants as near
use Rattle.mi_nearest.specs.Querying as nearing
use Rattle.mi_nearest.proofs.OthersLemmas as nears
use Rattle.mi_range.specs.declared.range.RangeState.{RangeState}
use Rattle.mi_range.specs.declared.range.RangeState.TheVariants as ranged
use Rattle.mi_range.specs.Querying as ranging
use Rattle.mi_range.proofs.OthersLemmas.{ready_stays}
use Rattle.mi_split.specs.declared.split.SplitOp.{SplitOp}
use Rattle.mi_split.specs.declared.split.SplitState.{SplitState}
use Rattle.mi_split.specs.declared.split.SplitState.TheVariants as at
use Rattle.mi_split.specs.Splitting as splitting
use Rattle.mi_split.proofs.OthersLemmas.{split_stays, sweep_stays}
use Rattle.mi_update.specs.declared.insert.InsertOp.{InsertOp}
use Rattle.mi_update.specs.declared.insert.InsertState.{InsertState}
use Rattle.mi_update.specs.declared.insert.InsertState.TheVariants.{Begin, Looking, Reserving, Claiming, Committing, Splitting, Allotting, Halving, Posting, Unclaiming, Releasing, Over}
use Rattle.mi_update.specs.Inserting as inserting
use Rattle.mi_update.proofs.OthersLemmas as updates
use Rattle.mi_update.proofs.SteppingLemmas.{seen_more}
use Rattle.mi_job.specs.declared.care.Care.{Care}
use Rattle.mi_job.specs.declared.care.Task.{Task}
use Rattle.mi_job.specs.declared.care.Task.TheVariants.{Sweep, Split}
use Rattle.mi_job.specs.declared.job.Job.{Job}
use Rattle.mi_job.specs.declared.job.Operation.{Operation}
use Rattle.mi_job.specs.declared.job.Operation.TheVariants.{Insert, Delete, Range, Nearest}
use Rattle.mi_job.specs.Caring as caring
use Rattle.mi_job.specs.Inserts as inserts
use Rattle.mi_job.specs.Jobs.{EarlyIs, OperationIsReady, Ready, Since, Ticked, least_spent, most_spent, pending, since_in, since_of}
use Rattle.mi_job.proofs.InsertLemmas.{early_stays}

module _ (v w : View) (o : Others v w) where
  same_early : w.early ≡ v.early
  same_early = o.same.work.apart.flags.early

  next_stays : (i : InsertOp) (s : Option SplitOp) → inserts.NextIsReady i s v → inserts.NextIsReady i s w
  next_stays i None h = updates.insert_stays i v w o h
  next_stays i (Some s) h = record {
    waits = updates.waits_stay i v w o.later o.same.work.update o.same.work.apart.sweep.sweep h.waits;
    ready = split_stays s v w o h.ready;
    begun = h.begun;
  }

  operation_stays : (x : Operation) (b : Bool) → OperationIsReady x b v → OperationIsReady x b w
  operation_stays (Insert job) b h = record { next = next_stays job.insert job.split h.next; pin = o.same.work.apart.pin ∙ h.pin }
  operation_stays (Delete op) b h = (updates.delete_stays op v w o h.0, o.same.work.apart.pin ∙ h.1)
  operation_stays (Range range number) b h = (
    ready_stays range v w o h.0,
    h.1,
    record {
      shard = o.same.work.update.shard ∙ h.2.shard;
      leaf = o.same.work.leaf.leaf ∙ h.2.leaf;
      sweep = o.same.work.apart.sweep.sweep ∙ h.2.sweep;
      unsplit = o.same.work.apart.split.splitting ∙ h.2.unsplit;
    },
  )
  operation_stays (Nearest nearest number) b h = (
    nears.ready_stays nearest v w o h.0,
    h.1,
    record {
      shard = o.same.work.update.shard ∙ h.2.shard;
      leaf = o.same.work.leaf.leaf ∙ h.2.leaf;
      sweep = o.same.work.apart.sweep.sweep ∙ h.2.sweep;
      unsplit = o.same.work.apart.split.splitting ∙ h.2.unsplit;
    },
  )

  pub job_stays : (job : Job) → Ready job v → Ready job w
  job_stays job h = record { operation = operation_stays job.operation job.begun h.operation }

  insert_rises : (i : InsertOp) (s : Option SplitOp) → inserts.NextIsReady i s v → inserting.since_in i v ≤ inserting.since_in i w
  insert_rises i None h = updates.insert_since_rises i v w o h
  insert_rises i (Some s) h = rw h.waits.state_is (seen_more v w o.later)

  range_rises : (s : RangeState) → ranging.since_at s v ≤ ranging.since_at s w
  range_rises ranged.Begin = seen_more v w o.later
  range_rises (ranged.Walking place cells root at walk) = omega arith
  range_rises (ranged.Ending cells at) = omega arith
  range_rises ranged.Over = seen_more v w o.later

  nearest_rises : (s : NearestState) → nearing.since_at s v ≤ nearing.since_at s w
  nearest_rises near.Begin = seen_more v w o.later
  nearest_rises (near.Walking opened root at walk) = omega arith
  nearest_rises (near.Ending cells at) = omega arith
  nearest_rises near.Refusing = seen_more v w o.later
  nearest_rises near.Over = seen_more v w o.later

  rises : (x : Operation) (b : Bool) → OperationIsReady x b v → since_of x v ≤ since_of x w
  rises (Insert job) b h = insert_rises job.insert job.split h.next
  rises (Delete op) b h = updates.delete_since_rises op v w o h.0
  rises (Range range number) b h = range_rises range.state
  rises (Nearest nearest number) b h = nearest_rises nearest.state

  pub since_rises : (job : Job) → Ready job v → since_in job v ≤ since_in job w
  since_rises job h = rises job.operation job.begun h.operation

  early_at : (s : InsertState) (early : Bool) → inserts.EarlyAt s early v → inserts.EarlyAt s early w
  early_at Begin early h = same_early ∙ h
  early_at Looking early h = same_early ∙ h
  early_at Reserving early h = same_early ∙ h
  early_at Claiming early h = same_early ∙ h
  early_at (Committing p) early h = same_early ∙ h
  early_at Splitting early h = same_early ∙ h
  early_at (Allotting p) early h = same_early ∙ h
  early_at (Halving p) early h = same_early ∙ h
  early_at (Posting p) early h = same_early ∙ h
  early_at (Unclaiming e) early h = early_stays e early v w same_early h
  early_at (Releasing e) early h = early_stays e early v w same_early h
  early_at (Over e) early h = early_stays e early v w same_early h

  early_unless : (why : Reason) (early : Bool) → splitting.EarlyUnless why early v → splitting.EarlyUnless why early w
  early_unless (NoPages n) early h = same_early ∙ h
  early_unless Memory early h = tt

  early_split : (s : SplitState) (early : Bool) → splitting.EarlyIs s early v → splitting.EarlyIs s early w
  early_split at.Looking early h = same_early ∙ h
  early_split (at.Gathering p) early h = same_early ∙ h
  early_split (at.Copying p) early h = same_early ∙ h
  early_split (at.Allotting p) early h = same_early ∙ h
  early_split (at.Halving p) early h = same_early ∙ h
  early_split (at.Posting p) early h = same_early ∙ h
  early_split at.Publishing early h = same_early ∙ h
  early_split (at.Undoing p why) early h = early_unless why early h
  early_split (at.GivingUp why) early h = early_unless why early h
  early_split at.Published early h = same_early ∙ h
  early_split (at.GivenUp why) early h = early_unless why early h

  early_insert : (i : InsertOp) (s : Option SplitOp) (early : Bool) → inserts.EarlyIs i s early v → inserts.EarlyIs i s early w
  early_insert i None early h = early_at i.state early h
  early_insert i (Some s) early h = early_split s.state early h

  early_job : (x : Operation) (early : Bool) → EarlyIs x early v → EarlyIs x early w
  early_job (Insert job) early h = early_insert job.insert job.split early h
  early_job (Delete op) early h = same_early ∙ h
  early_job (Range range number) early h = same_early ∙ h
  early_job (Nearest nearest number) early h = same_early ∙ h

  pub since_stays : (job : Job) (own : List Entered) (from : ℕ) (owed : ℕ → Bool) (early : Bool) → Ready job v → Since own from owed early job v → Since own from owed early job w
  since_stays job own from owed early h s = record {
    own_is = rw (o.same.work.update.own, o.later.actor) s.own_is;
    reaches = omega (arith, s.reaches, since_rises job h);
    owes = owes_only_stays owed (pending job.operation) v w o.later o.same.owes s.owes;
    early_is = early_job job.operation early s.early_is;
  }

  pub spent_same : (x : Operation) (b : Bool) → OperationIsReady x b v → (most_spent x w ≡ most_spent x v) × (least_spent x w ≡ least_spent x v)
  spent_same (Insert job) b h = (refl, refl)
  spent_same (Delete op) b h = (refl, refl)
  spent_same (Range range number) b h = (refl, refl)
  spent_same (Nearest nearest number) b h = nears.spent_stays nearest v w o h.0

  pub ticked_stays : (job : Job) (first k : ℕ) → Ready job v → Ticked first job v k → Ticked first job w k
  ticked_stays job first k r h =
      let same = spent_same job.operation job.begun r.operation in
      (rw same.1 h.0, rw same.0 h.1)

  task_stays : (task : Option Task) → caring.TaskIsReady task v → caring.TaskIsReady task w
  task_stays None h = (o.same.work.leaf.leaf ∙ h.0, o.same.work.apart.sweep.sweep ∙ h.1, o.same.work.apart.split.splitting ∙ h.2)
  task_stays (Some (Sweep s)) h = (sweep_stays s v w o h.0, o.same.work.leaf.leaf ∙ h.1, o.same.work.apart.split.splitting ∙ h.2)
  task_stays (Some (Split s)) h = (split_stays s v w o h.0, o.same.work.apart.sweep.sweep ∙ h.1)

  pub care_stays : (care : Care) → caring.Ready care v → caring.Ready care w
  care_stays care h = record { task = task_stays care.task h.task; shard = o.same.work.update.shard ∙ h.shard; pin = o.same.work.apart.pin ∙ h.pin }

  pub task_keeps : (owed : ℕ → Bool) (early : Bool) (task : Option Task) → caring.TaskKeeps owed early task v → caring.TaskKeeps owed early task w
  task_keeps owed early None h = (owes_only_stays owed (λ p. false) v w o.later o.same.owes h.0, same_early ∙ h.1)
  task_keeps owed early (Some (Sweep s)) h = (owes_only_stays owed (λ p. false) v w o.later o.same.owes h.0, same_early ∙ h.1)
  task_keeps owed early (Some (Split s)) h = record {
    owes = owes_only_stays owed (splitting.pending_in s.state s.post) v w o.later o.same.owes h.owes;
    early_is = early_split s.state early h.early_is;
  }

-- Jobs at the end of an operation, and how many sections jobs and the splitter have at most.
use Rattle.std.proofs.Common.{◌≡◌, ℕ, ◌+◌, ◌*◌, ◌<◌, ◌≤◌, List, [], ◌++◌, Bool, ◌||◌, IsTrue, Some, None, Option, MatchOption, refl, sym, ap, ◌∙◌, subst, arith, inl, inr, append-nil}
use Rattle.std.specs.Prelude.{◌⊎◌}
use Rattle.std.proofs.Math.Nat.{mul-le-mul_right}
use Rattle.mi_base.specs.declared.records.Op.{Op}
use Rattle.mi_base.specs.declared.records.Op.TheVariants as op
use Rattle.mi_base.specs.declared.records.Reply.{Reply}
use Rattle.mi_base.specs.History.{Entered}
use Rattle.mi_legal.specs.Legal.{reach}
use Rattle.mi_world.specs.View.{View}
use Rattle.mi_blink.specs.Descents.{longest}
use Rattle.mi_nearest.proofs.OthersLemmas as nears
use Rattle.mi_range.proofs.OthersLemmas.{few_sections}
use Rattle.mi_split.specs.declared.split.SplitOp.{SplitOp}
use Rattle.mi_split.specs.Splitting.{split_most}
use Rattle.mi_split.proofs.BoundLemmas.{split_small, sweep_small}
use Rattle.mi_update.specs.declared.insert.InsertOp.{InsertOp}
use Rattle.mi_update.specs.Inserting.{round, splits_left}
use Rattle.mi_update.proofs.DeleteLemmas.{delete_small}
use Rattle.mi_update.proofs.InsertLemmas.{insert_small}
use Rattle.mi_job.specs.declared.care.Care.{Care}
use Rattle.mi_job.specs.declared.care.Task.{Task}
use Rattle.mi_job.specs.declared.care.Task.TheVariants.{Sweep, Split}
use Rattle.mi_job.specs.declared.job.Job.{Job}
use Rattle.mi_job.specs.declared.job.Operation.{Operation}
use Rattle.mi_job.specs.declared.job.Operation.TheVariants.{Insert, Delete, Range, Nearest}
use Rattle.mi_job.specs.declared.turns.JobTurn.{JobTurn}
use Rattle.mi_job.specs.declared.turns.JobTurn.TheVariants.{Done}
use Rattle.mi_job.specs.Caring as caring
use Rattle.mi_job.specs.Inserts as inserts
use Rattle.mi_job.specs.Jobs.{Ended, Enters, EntersNone, OperationIsReady, Ready, Since, Turned, added, asked, entry_of, job_most, left, left_of, op_number, since_in}
use Rattle.mi_job.proofs.CareLemmas.{sweep_below}

-- a section keeps what is so since the first
own_kept : (old new : Job) (v w : View) (own : List Entered) → w.actor ≡ v.actor → asked new ≡ asked old → op_number new ≡ op_number old → Enters old v new w ⊎ EntersNone old v new w
    → v.own ≡ own ++ added old v → w.own ≡ own ++ added new w
own_kept old new v w own actor a n (inl e) h =
    let o : v.own ≡ own ++ [] = rw e.before at h in
    rw (e.after, a, n) (e.own ∙ ap (λ es. es ++ entry_of w (op_number old) (asked old)) (o ∙ append-nil own))
own_kept old new v w own actor a n (inr e) h =
    let same : entry_of w (op_number old) (asked old) ≡ entry_of v (op_number old) (asked old) = same_entry (asked old) in
    rw (e.number, a, n, same) (e.own ∙ h)
  where
    same_entry : (o : Op) → entry_of w (op_number old) o ≡ entry_of v (op_number old) o
    same_entry (op.Insert id vector) = rw actor refl
    same_entry (op.Delete id) = rw actor refl
    same_entry (op.Range radius query) = refl
    same_entry (op.Nearest count query) = refl

pub since_kept : (own : List Entered) (from : ℕ) (owed : ℕ → Bool) (early : Bool) (old new : Job) (v w : View) (answer : JobTurn)
    → Turned old v answer new w → Since own from owed early old v → Since own from owed early new w
since_kept own from owed early old new v w answer t h = record {
  own_is = own_kept old new v w own t.later.actor t.asked_is t.number_is t.enters h.own_is;
  reaches = omega (arith, h.reaches, t.not_before);
  owes = t.owes owed h.owes;
  early_is = t.early_is early h.early_is;
}

-- what a reply reaches, it reaches from any earlier event
reaches_more : (n : Option ℕ) (from since : ℕ) → from ≤ since → MatchOption n (Unit {0}) (λ m. since ≤ m) → MatchOption n (Unit {0}) (λ m. from ≤ m)
reaches_more None from since le h = tt
reaches_more (Some m) from since le h = omega (arith, le, h)

pub job_ends : (own : List Entered) (from : ℕ) (owed : ℕ → Bool) (early : Bool) (old new : Job) (v w : View) (y : Reply)
    → Turned old v (Done y) new w → Since own from owed early old v → Ended (asked old) (op_number old) own from owed early w y
job_ends own from owed early old new v w y t h =
    let f = t.outcome in
    let s = since_kept own from owed early old new v w (Done y) t h in
    record {
      right = f.right;
      not_before = reaches_more (reach w.seen y) from (since_in old v) h.reaches f.not_before;
      own_is = s.own_is ∙ ap (λ es. own ++ es) (sym f.accepted_is);
      claims = f.claims;
      owes = λ k p o. subst (λ b. IsTrue (owed p || b)) (f.none_pending p) (s.owes k p o);
      early_is = f.early_is early s.early_is;
    }

-- bounds
round_fits : 3 + split_most ≤ round split_most
unfolding round
round_fits = omega arith

long_fits : longest + 7 ≤ round split_most
unfolding round
long_fits = omega arith

next_small : (i : InsertOp) (s : Option SplitOp) (v : View) → v.settings.levels ≤ 6 → inserts.NextIsReady i s v → inserts.left_of i s v < 7 * round split_most
next_small i None v deep h = insert_small split_most i v deep h
next_small i (Some s) v deep h =
    let m : splits_left i v * round split_most ≤ 6 * round split_most = mul-le-mul_right (round split_most) (omega (arith, deep)) in
    omega (arith, m, split_small s v h.ready, round_fits)

operation_small : (x : Operation) (b : Bool) (v : View) → v.settings.levels ≤ 6 → OperationIsReady x b v → left_of x v < job_most
operation_small (Insert job) b v deep h = omega (arith, next_small job.insert job.split v deep h.next)
operation_small (Delete d) b v deep h = omega (arith, delete_small d v, long_fits)
operation_small (Range range number) b v deep h = omega (arith, few_sections range v h.0)
operation_small (Nearest nearest number) b v deep h = omega (arith, nears.few_sections nearest v h.0)

pub job_small : (job : Job) (v : View) → v.settings.levels ≤ 6 → Ready job v → left job v < job_most
job_small job v deep h = operation_small job.operation job.begun v deep h.operation

task_small : (task : Option Task) (v : View) → caring.TaskIsReady task v → caring.left_of task v < split_most + 1
task_small None v h = omega arith
task_small (Some (Sweep s)) v h = omega (arith, sweep_small s v, sweep_below)
task_small (Some (Split s)) v h = omega (arith, split_small s v h.0)

pub care_small : (care : Care) (v : View) → caring.Ready care v → caring.left care v < split_most + 1
care_small care v h = task_small care.task v h.task

-- How the operation of a session begins.
use Rattle.std.proofs.Common.{◌≡◌, ℕ, ◌++◌, length, Bool, true, false, ◌||◌, IsTrue, None, refl, sym, ap, ◌∙◌, arith, append-nil}
use Rattle.std.proofs.lemmas.Bool.{false≢true}
use Rattle.mi_base.specs.declared.records.Op.{Op}
use Rattle.mi_base.specs.declared.records.Op.TheVariants as op
use Rattle.mi_base.specs.Configuration.{metric_space, space_of}
use Rattle.mi_base.specs.Permutations.{distances}
use Rattle.mi_base.specs.Scripts.{IsOpOver}
use Rattle.mi_base.specs.Space.{Space}
use Rattle.mi_job.specs.declared.job.Job.{Job}
use Rattle.mi_job.specs.declared.job.Operation.{Operation}
use Rattle.mi_job.specs.declared.job.Operation.TheVariants.{Insert, Delete, Range, Nearest}
use Rattle.mi_job.specs.Claims.{ClaimsNone}
use Rattle.mi_job.specs.Jobs.{EarlyIs, OperationIsBegun, OperationIsReady, Since, asked, asked_by, entry_of, least_spent, nearest_begun, number_of, numbered, op_number, pending, range_begun, since_of, where_entered}
use Rattle.mi_world.specs.View.{View}

-- what is so of an operation that has just begun
pub record Begins (x : Operation) (o : Op) (number : ℕ) (v : View) : Type 0 where
  pub asked_is : asked_by x ≡ o
  pub number_is : numbered x ≡ number
  pub none : number_of x ≡ None
  pub since_is : since_of x v ≡ length v.seen
  pub early_is : EarlyIs x v.early v
  pub spent : least_spent x v ≡ 0

pub begins : (x : Operation) (o : Op) (number : ℕ) (space : Space) (v : View) → OperationIsBegun x o number space → Begins x o number v
begins (Insert job) (op.Insert id vector) number space v h = record {
  asked_is = rw (h.0.id_is, h.0.vector_is) refl;
  number_is = h.0.op_is;
  none = rw h.0.state_is refl;
  since_is = rw h.0.state_is refl;
  early_is = rw (h.1, h.0.state_is) refl;
  spent = refl;
}
begins (Delete delete) (op.Delete id) number space v h = record {
  asked_is = rw h.id_is refl;
  number_is = h.op_is;
  none = rw h.state_is refl;
  since_is = rw h.state_is refl;
  early_is = refl;
  spent = refl;
}
begins (Range range k) (op.Range radius query) number space v h = record {
  asked_is = rw (h.0.radius_is, h.0.query_is) refl;
  number_is = h.1;
  none = refl;
  since_is = rw h.0.state_is refl;
  early_is = refl;
  spent = rw h.0.work_is refl;
}
begins (Nearest nearest k) (op.Nearest count query) number space v h = record {
  asked_is = rw (h.0.count_is, h.0.query_is) refl;
  number_is = h.1;
  none = refl;
  since_is = rw h.0.state_is refl;
  early_is = refl;
  spent = rw h.0.state_is refl;
}
begins x o number space v h = absurd h

or_left : (a b : Bool) → IsTrue a → IsTrue (a || b)
or_left true b h = h
or_left false b h = absurd (false≢true h)

pub since_first : (job : Job) (o : Op) (number : ℕ) (v : View) → Begins job.operation o number v → Since v.own (length v.seen) v.owes v.early job v
since_first job o number v h = record {
  own_is = sym (ap (λ n. v.own ++ where_entered n (entry_of v (op_number job) (asked job))) h.none ∙ append-nil v.own);
  reaches = omega (arith, h.since_is);
  owes = λ calm p owes. or_left (v.owes p) (pending job.operation p) owes;
  early_is = h.early_is;
}

-- it is ready where its actor claims nothing
pub begin_ready : (x : Operation) (b : Bool) (o : Op) (number : ℕ) (v : View) → OperationIsBegun x o number (space_of v.settings) → b ≡ false → IsOpOver (metric_space v.settings) o → ClaimsNone v
    → OperationIsReady x b v
begin_ready (Insert job) b (op.Insert id vector) number v h none over free = record {
  next = rw h.1 (record {
    fits = record {
      measured = h.0.dists_are ∙ ap (distances (space_of v.settings)) (sym h.0.vector_is);
      fits = rw h.0.vector_is over.1;
      idle = free.nothing.sweep;
      unsplit = free.unsplit;
    };
    state = rw h.0.state_is (free.nothing.shard, free.nothing.leaf);
  });
  pin = free.nothing.pin;
}
begin_ready (Delete delete) b (op.Delete id) number v h none over free = (
  record { idle = free.nothing.sweep; unsplit = free.unsplit; state = rw h.state_is (free.nothing.shard, free.nothing.leaf) },
  free.nothing.pin,
)
begin_ready (Range range k) b (op.Range radius query) number v h none over free = (
  record { small = rw h.0.radius_is (omega (arith, over.0)); fits = rw h.0.query_is over.1; state = rw h.0.state_is (free.nothing.pin, h.0.work_is) },
  none ∙ sym (ap range_begun h.0.state_is),
  record { shard = free.nothing.shard; leaf = free.nothing.leaf; sweep = free.nothing.sweep; unsplit = free.unsplit },
)
begin_ready (Nearest nearest k) b (op.Nearest count query) number v h none over free = (
  record { some = rw h.0.count_is over.0; few = rw h.0.count_is (omega (arith, over.1)); fits = rw h.0.query_is over.2; state = rw h.0.state_is free.nothing.pin },
  none ∙ sym (ap nearest_begun h.0.state_is),
  record { shard = free.nothing.shard; leaf = free.nothing.leaf; sweep = free.nothing.sweep; unsplit = free.unsplit },
)
begin_ready x b o number v h none over free = absurd h

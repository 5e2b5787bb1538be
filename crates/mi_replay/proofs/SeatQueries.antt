-- How operations begin, and which queries have a position.
use Rattle.std.proofs.Common.{◌≡◌, ℕ, zero, suc, ◌+◌, List, [], ◌∷◌, ◌++◌, length, Bool, true, false, ◌||◌, IsTrue, Option, Some, None, refl, sym, ap, ◌∙◌, subst, arith, rules, append-nil}
use Rattle.std.specs.Prelude.{slice_get}
use Rattle.std.specs.List.{AllByRecursion}
use Rattle.std.proofs.lemmas.Bool.{false≢true}
use Rattle.std.proofs.lemmas.Option.{same_Some, slice_get_within}
use Rattle.mi_base.specs.declared.records.LogEvent.{LogEvent}
use Rattle.mi_base.specs.declared.records.Op.{Op}
use Rattle.mi_base.specs.declared.records.Op.TheVariants as op
use Rattle.mi_base.specs.declared.records.Reply.{Reply}
use Rattle.mi_base.specs.Configuration.{metric_space, space_of}
use Rattle.mi_base.specs.Permutations.{distances}
use Rattle.mi_base.specs.Scripts.{IsOpOver, IsScriptOver}
use Rattle.mi_base.specs.Space.{Space}
use Rattle.mi_job.specs.declared.job.Job.{Job}
use Rattle.mi_job.specs.declared.job.Operation.{Operation}
use Rattle.mi_job.specs.declared.job.Operation.TheVariants.{Insert, Delete, Range, Nearest}
use Rattle.mi_job.specs.declared.turns.JobTurn.TheVariants.{More, Done}
use Rattle.mi_job.specs.Claims.{ClaimsNone}
use Rattle.mi_job.specs.Jobs.{EarlyIs, Makes, OperationIsBegun, OperationIsReady, Ready, Since, Tells, asked_by, entry_of, is_query, nearest_begun, number_of, numbered, op_number, asked, pending, range_begun, since_in, since_of, where_entered}
use Rattle.mi_blink.specs.declared.turns.Turn.{Turn}
use Rattle.mi_blink.specs.declared.turns.Turn.TheVariants as turn
use Rattle.mi_legal.specs.Legal.{reach}
use Rattle.mi_nearest.specs.declared.nearest.NearestOp.{NearestOp}
use Rattle.mi_nearest.specs.declared.nearest.NearestState.{NearestState}
use Rattle.mi_nearest.specs.declared.nearest.NearestState.TheVariants as near
use Rattle.mi_nearest.specs.Querying as nearing
use Rattle.mi_range.specs.declared.range.RangeOp.{RangeOp}
use Rattle.mi_range.specs.declared.range.RangeState.{RangeState}
use Rattle.mi_range.specs.declared.range.RangeState.TheVariants as ranged
use Rattle.mi_range.specs.Querying as ranging
use Rattle.mi_world.specs.View.{View}
use Rattle.mi_replay.specs.declared.seats.Seat.{Seat}
use Rattle.mi_replay.specs.Seats.{AsksAt, IsNext, WaitsAt, refuses_at, is_refusing}

-- what is so of an operation that has just begun
pub record Begins (x : Operation) (o : Op) (number : ℕ) (v : View) : Type 0 where
  pub asked_is : asked_by x ≡ o
  pub number_is : numbered x ≡ number
  pub none : number_of x ≡ None
  pub since_is : since_of x v ≡ length v.seen
  pub early_is : EarlyIs x v.early v

pub begins : (x : Operation) (o : Op) (number : ℕ) (space : Space) (v : View) → OperationIsBegun x o number space → Begins x o number v
begins (Insert job) (op.Insert id vector) number space v h = record {
  asked_is = rw (h.0.id_is, h.0.vector_is) refl;
  number_is = h.0.op_is;
  none = rw h.0.state_is refl;
  since_is = rw h.0.state_is refl;
  early_is = rw (h.1, h.0.state_is) refl;
}
begins (Delete delete) (op.Delete id) number space v h = record {
  asked_is = rw h.id_is refl;
  number_is = h.op_is;
  none = rw h.state_is refl;
  since_is = rw h.state_is refl;
  early_is = refl;
}
begins (Range range k) (op.Range radius query) number space v h = record {
  asked_is = rw (h.0.radius_is, h.0.query_is) refl;
  number_is = h.1;
  none = refl;
  since_is = rw h.0.state_is refl;
  early_is = refl;
}
begins (Nearest nearest k) (op.Nearest count query) number space v h = record {
  asked_is = rw (h.0.count_is, h.0.query_is) refl;
  number_is = h.1;
  none = refl;
  since_is = rw h.0.state_is refl;
  early_is = refl;
}
begins x o number space v h = absurd h

or_left : (a b : Bool) → IsTrue a → IsTrue (a || b)
or_left true b h = h
or_left false b h = absurd (false≢true h)

pub since_first : (job : Job) (o : Op) (number : ℕ) (v : View) → Begins job.operation o number v → Since v.own (length v.seen) v.owes v.early job v
since_first job o number v h = record {
  own_is = sym (ap (λ n. v.own ++ where_entered n (entry_of v (op_number job) (asked job))) h.none ∙ append-nil v.own);
  reaches = omega (arith, h.since_is);
  owes = λ calm p owes. or_left (v.owes p) (pending job.operation p) owes;
  early_is = h.early_is;
}

-- it is ready where its actor claims nothing
pub begin_ready : (x : Operation) (b : Bool) (o : Op) (number : ℕ) (v : View) → OperationIsBegun x o number (space_of v.settings) → b ≡ false → IsOpOver (metric_space v.settings) o → ClaimsNone v
    → OperationIsReady x b v
begin_ready (Insert job) b (op.Insert id vector) number v h none over free = record {
  next = rw h.1 (record {
    fits = record {
      measured = h.0.dists_are ∙ ap (distances (space_of v.settings)) (sym h.0.vector_is);
      fits = rw h.0.vector_is over.1;
      idle = free.nothing.sweep;
      unsplit = free.unsplit;
    };
    state = rw h.0.state_is (free.nothing.shard, free.nothing.leaf);
  });
  pin = free.nothing.pin;
}
begin_ready (Delete delete) b (op.Delete id) number v h none over free = (
  record { idle = free.nothing.sweep; unsplit = free.unsplit; state = rw h.state_is (free.nothing.shard, free.nothing.leaf) },
  free.nothing.pin,
)
begin_ready (Range range k) b (op.Range radius query) number v h none over free = (
  record { small = rw h.0.radius_is (omega (arith, over.0)); fits = rw h.0.query_is over.1; state = rw h.0.state_is (free.nothing.pin, h.0.work_is) },
  none ∙ sym (ap range_begun h.0.state_is),
  record { shard = free.nothing.shard; leaf = free.nothing.leaf; sweep = free.nothing.sweep; unsplit = free.unsplit },
)
begin_ready (Nearest nearest k) b (op.Nearest count query) number v h none over free = (
  record { some = rw h.0.count_is over.0; few = rw h.0.count_is (omega (arith, over.1)); fits = rw h.0.query_is over.2; state = rw h.0.state_is free.nothing.pin },
  none ∙ sym (ap nearest_begun h.0.state_is),
  record { shard = free.nothing.shard; leaf = free.nothing.leaf; sweep = free.nothing.sweep; unsplit = free.unsplit },
)
begin_ready x b o number v h none over free = absurd h

each_at : (P : Op → Type 0) (os : List Op) (i : ℕ) (o : Op) → AllByRecursion P os → slice_get os i ≡ Some o → P o
each_at P [] i o h at = absurd (omega (arith, slice_get_within ([]) i o at))
each_at P (x ∷ os) zero o h at = subst P (same_Some x o at) h.0
each_at P (x ∷ os) (suc i) o h at = each_at P os i o h.1 at

-- the operation whose section is next is ready
pub next_ready : (script : List Op) (a : Seat) (o : Option Job) (old : Job) (space : Space) (v : View) → space ≡ space_of v.settings → IsScriptOver (metric_space v.settings) script
    → WaitsAt o v → IsNext space script a o old → Ready old v
next_ready script a None old space v same fits free next = record {
  operation = begin_ready old.operation old.begun next.0 (length a.replies.items + 1) v
      (subst (OperationIsBegun old.operation next.0 (length a.replies.items + 1)) same next.2.operation) next.2.not_yet
      (each_at (IsOpOver (metric_space v.settings)) script (length a.replies.items) next.0 fits.each next.1) free;
}
next_ready script a (Some j) old space v same fits ready next = subst (λ (x : Job). Ready x v) (sym next) ready

-- and it is the script's
pub next_asked : (script : List Op) (a : Seat) (o : Option Job) (old : Job) (space : Space) (v : View) → AsksAt script (length a.replies.items) o → IsNext space script a o old
    → slice_get script (length a.replies.items) ≡ Some (asked old)
next_asked script a None old space v asks next = next.1 ∙ ap Some (sym (begins old.operation next.0 (length a.replies.items + 1) space v next.2.operation).asked_is)
next_asked script a (Some j) old space v asks next = asks ∙ ap (λ (x : Job). Some (asked x)) (sym next)

-- while others act the position of a query stays
range_stays : (s : RangeState) (i : RangeOp) (v w : View) → ranging.StateIsReady s i v → range_begun s ≡ true → ranging.since_at s w ≡ ranging.since_at s v
range_stays ranged.Begin i v w r b = absurd (false≢true b)
range_stays (ranged.Walking place cells root at walk) i v w r b = refl
range_stays (ranged.Ending cells at) i v w r b = refl
range_stays ranged.Over i v w r b = absurd r

nearest_stays : (s : NearestState) (i : NearestOp) (v w : View) → nearing.StateIsReady s i v → nearest_begun s ≡ true → refuses_at s ≡ false → nearing.since_at s w ≡ nearing.since_at s v
nearest_stays near.Begin i v w r b f = absurd (false≢true b)
nearest_stays (near.Walking opened root at walk) i v w r b f = refl
nearest_stays (near.Ending cells at) i v w r b f = refl
nearest_stays near.Refusing i v w r b f = absurd (false≢true (sym f))
nearest_stays near.Over i v w r b f = absurd r

pin_stays : (x : Operation) (b : Bool) (v w : View) → OperationIsReady x b v → b ≡ true → is_query (asked_by x) ≡ true → is_refusing x ≡ false → since_of x w ≡ since_of x v
pin_stays (Insert job) b v w h is q f = absurd (false≢true q)
pin_stays (Delete delete) b v w h is q f = absurd (false≢true q)
pin_stays (Range range number) b v w h is q f = range_stays range.state range v w h.0.state (sym h.1 ∙ is)
pin_stays (Nearest nearest number) b v w h is q f = nearest_stays nearest.state nearest v w h.0.state (sym h.1 ∙ is) f

pub pinned_stays : (job : Job) (v w : View) → Ready job v → job.begun ≡ true → is_query (asked job) ≡ true → is_refusing job.operation ≡ false → since_in job w ≡ since_in job v
pinned_stays job v w h begun q f = pin_stays job.operation job.begun v w h.operation begun q f

-- a query that goes on has its position
state_pinned : (s : NearestState) (i j : NearestOp) (v w : View) → nearing.Makes s i v j w → nearing.StateIsReady j.state j w → refuses_at s ≡ false
state_pinned near.Begin i j v w m r = refl
state_pinned (near.Walking opened root at walk) i j v w m r = refl
state_pinned (near.Ending cells at) i j v w m r = refl
state_pinned near.Refusing i j v w m r = absurd (subst (λ s. nearing.StateIsReady s j w) m.1 r)
state_pinned near.Over i j v w m r = refl

pub more_pinned : (x y : Operation) (b : Bool) (v w : View) → Makes x v More y w → OperationIsReady y b w → is_refusing x ≡ false
more_pinned (Insert job) y b v w m r = refl
more_pinned (Delete delete) y b v w m r = refl
more_pinned (Range range number) y b v w m r = refl
more_pinned (Nearest i k) (Nearest j n) b v w m r = state_pinned i.state i j v w m.1.makes r.0.state
more_pinned (Nearest i k) y b v w m r = absurd m

-- and one without ends for want of memory
state_unpinned : (s : NearestState) (log : List LogEvent) (y : Reply) → nearing.Tells s y → refuses_at s ≡ true → reach log y ≡ None
state_unpinned near.Begin log y t f = absurd (false≢true f)
state_unpinned (near.Walking opened root at walk) log y t f = absurd (false≢true f)
state_unpinned (near.Ending cells at) log y t f = absurd (false≢true f)
state_unpinned near.Refusing log y t f = ap (reach log) t
state_unpinned near.Over log y t f = absurd (false≢true f)

done_same : (x y : Reply) → Done x ≡ Done y → x ≡ y
done_same x y e = cc

told_unpinned : (i j : NearestOp) (told : Turn) (v w : View) (log : List LogEvent) (y : Reply) → nearing.Outcome i v told j w → Tells told (Done y) → refuses_at i.state ≡ true → reach log y ≡ None
told_unpinned i j turn.More v w log y o e f = absurd (search rules)
told_unpinned i j turn.Held v w log y o e f = absurd o
told_unpinned i j (turn.Crowded leaf) v w log y o e f = absurd e
told_unpinned i j (turn.Done z) v w log y o e f = ap (reach log) (done_same y z e) ∙ state_unpinned i.state log z o.2 f

pub done_unpinned : (x z : Operation) (v w : View) (log : List LogEvent) (y : Reply) → Makes x v (Done y) z w → is_refusing x ≡ true → reach log y ≡ None
done_unpinned (Insert job) z v w log y m f = absurd (false≢true f)
done_unpinned (Delete delete) z v w log y m f = absurd (false≢true f)
done_unpinned (Range range number) z v w log y m f = absurd (false≢true f)
done_unpinned (Nearest i k) (Nearest j n) v w log y m f = told_unpinned i j m.0 v w log y m.1.outcome m.2 f
done_unpinned (Nearest i k) z v w log y m f = absurd m

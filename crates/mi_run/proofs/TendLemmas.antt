-- The worker that splits and sweeps, between its sections.
use Rattle.std.proofs.Common.{◌≡◌, ◌∙◌, Bool, true, false, Option, None, Some, refl, sym, subst}
use Rattle.std.specs.Prelude.{is_some, not}
use Rattle.std.proofs.lemmas.Bool.{false≢true}
use Rattle.mi_blink.specs.declared.turns.Why.TheVariants.{NoPages, Memory as NoMemory}
use Rattle.mi_blink.specs.declared.walk.WalkTurn.{WalkTurn}
use Rattle.mi_blink.specs.declared.walk.WalkTurn.TheVariants as walk
use Rattle.mi_hall.specs.Families.{Sees}
use Rattle.mi_hall.specs.Passes.{PassState, place_view}
use Rattle.mi_job.specs.declared.care.Care.{Care}
use Rattle.mi_job.specs.declared.care.CareTurn.{CareTurn}
use Rattle.mi_job.specs.declared.care.CareTurn.TheVariants.{More, Idle, Done, Memory}
use Rattle.mi_job.specs.declared.care.Task.{Task}
use Rattle.mi_job.specs.declared.care.Task.TheVariants.{Sweep, Split}
use Rattle.mi_job.specs.Caring.{Begins, LeadsSplit, LeadsSweep, Makes, Ready, TaskIsReady, Turned}
use Rattle.mi_job.specs.Claims.{ClaimsNone}
use Rattle.mi_settle.proofs.SplitterTurns.{claims_ready}
use Rattle.mi_split.specs.declared.split.SplitOp.{SplitOp}
use Rattle.mi_split.specs.declared.split.SplitTurn.{SplitTurn}
use Rattle.mi_split.specs.declared.split.SplitTurn.TheVariants as divided
use Rattle.mi_split.specs.declared.sweep.SweepOp.{SweepOp}
use Rattle.mi_tree.specs.declared.answers.Work.{Work}
use Rattle.mi_tree.specs.declared.answers.Work.TheVariants as work
use Rattle.mi_world.specs.View.{Later, SameActors, View}
use Rattle.mi_world.proofs.ViewLemmas.{later_later, later_none}
use Rattle.mi_run.specs.Workers.{Looks, Tends}
use Rattle.mi_run.proofs.GatherLemmas.{claims_same}

-- what it is between two sections, as it was at the beginning
pub record Tending (p q : PassState) (care : Care) : Type 0 where
  pub ready : Ready care (place_view q)
  pub table : q.table ≡ p.table
  pub later : Later (place_view p) (place_view q)
  pub actors : SameActors (place_view p) (place_view q)
  pub own : (place_view q).own ≡ (place_view p).own

pub tending_first : (p : PassState) (care : Care) → care.task ≡ None → ClaimsNone (place_view p) → Tending p p care
tending_first p care none free = record {
  ready = claims_ready care (place_view p) none free;
  table = refl;
  later = later_none (place_view p);
  actors = record { absorbed = refl; forked = refl };
  own = refl;
}

-- what it claims where no operation is under way
free_of : (care : Care) (v : View) → care.task ≡ None → Ready care v → ClaimsNone v
free_of care v none h =
    let t = subst (λ (o : Option Task). TaskIsReady o v) none h.task in
    record { nothing = record { shard = h.shard; leaf = t.0; sweep = t.1; pin = h.pin }; unsplit = t.2 }

pub tending_sees : (p q r : PassState) (care : Care) → care.task ≡ None → Tending p q care → Sees (place_view q) (place_view r) → r.table ≡ q.table → Tending p r care
tending_sees p q r care none h sees same = record {
  ready = claims_ready care (place_view r) none (claims_same (place_view q) (place_view r) sees (free_of care (place_view q) none h.ready));
  table = same ∙ h.table;
  later = later_later (place_view p) (place_view q) (place_view r) h.later sees.later;
  actors = record { absorbed = sees.same.work.apart.actors.absorbed ∙ h.actors.absorbed; forked = sees.same.work.apart.actors.forked ∙ h.actors.forked };
  own = sees.same.work.update.own ∙ h.own;
}

begun_over : (given : Work) (answer : CareTurn) (next : Option Task) → Begins given answer next → (answer ≡ More → ⊥) → next ≡ None
begun_over work.Idle answer next b not_more = b.1
begun_over (work.Sweep prefix) answer next b not_more = absurd (not_more b.0)
begun_over (work.Split leaf) answer next b not_more = absurd (not_more b.0)

sweep_over : (told : WalkTurn) (sweep : SweepOp) (answer : CareTurn) (next : Option Task) → LeadsSweep told sweep answer next → (answer ≡ More → ⊥) → next ≡ None
sweep_over walk.More sweep answer next b not_more = absurd (not_more b.0)
sweep_over walk.Done sweep answer next b not_more = b.1

split_over : (told : SplitTurn) (split : SplitOp) (answer : CareTurn) (next : Option Task) → LeadsSplit told split answer next → (answer ≡ More → ⊥) → next ≡ None
split_over divided.More split answer next b not_more = absurd (not_more b.0)
split_over (divided.Published position) split answer next b not_more = b.1
split_over (divided.GivenUp (NoPages limit)) split answer next b not_more = b.1
split_over (divided.GivenUp NoMemory) split answer next b not_more = b.1

makes_over : (task next : Option Task) (answer : CareTurn) (v w : View) → Makes task v answer next w → (answer ≡ More → ⊥) → next ≡ None
makes_over None next answer v w m not_more = begun_over m.0 answer next m.2 not_more
makes_over (Some (Sweep op)) next answer v w m not_more = sweep_over m.0 m.1 answer next m.3 not_more
makes_over (Some (Split op)) next answer v w m not_more = split_over m.0 m.1 answer next m.3 not_more

-- none is under way where one has ended
pub over : (old new : Care) (v w : View) (answer : CareTurn) → Turned old v answer new w → (answer ≡ More → ⊥) → new.task ≡ None
over old new v w answer h not_more = makes_over old.task new.task answer v w h.makes not_more

-- it looks at the board where none is under way
pub tending_looks : (p q r : PassState) (care : Care) (begins : Bool) → begins ≡ not (is_some care.task) → Looks begins q r → Tending p q care → Tending p r care
tending_looks p q r care false is same h = subst (λ (x : PassState). Tending p x care) (sym same) h
tending_looks p q r care true is looks h = tending_sees p q r care (none care.task is) h looks.1 looks.0
  where
    none : (task : Option Task) → true ≡ not (is_some task) → task ≡ None
    none None e = refl
    none (Some x) e = absurd (false≢true (sym e))

pub tending_turned : (p q r : PassState) (old new : Care) (answer : CareTurn) → Tending p q old → Turned old (place_view q) answer new (place_view r) → r.table ≡ q.table → Tending p r new
tending_turned p q r old new answer h t same = record {
  ready = ready answer t;
  table = same ∙ h.table;
  later = later_later (place_view p) (place_view q) (place_view r) h.later t.later;
  actors = record { absorbed = t.actors.absorbed ∙ h.actors.absorbed; forked = t.actors.forked ∙ h.actors.forked };
  own = t.update.own ∙ h.own;
}
  where
    ready : (answer : CareTurn) → Turned old (place_view q) answer new (place_view r) → Ready new (place_view r)
    ready More t = t.outcome.0
    ready Idle t = claims_ready new (place_view r) (over old new (place_view q) (place_view r) Idle t (λ e. absurd cc)) t.outcome
    ready Done t = claims_ready new (place_view r) (over old new (place_view q) (place_view r) Done t (λ e. absurd cc)) t.outcome
    ready Memory t = claims_ready new (place_view r) (over old new (place_view q) (place_view r) Memory t (λ e. absurd cc)) t.outcome

-- it ends where none is under way
pub tends : (p q : PassState) (care : Care) → care.task ≡ None → Tending p q care → Tends p q
tends p q care none h = record {
  table = h.table;
  later = h.later;
  actors = h.actors;
  own = h.own;
  claims = free_of care (place_view q) none h.ready;
}

pub none_under : (task : Option Task) → is_some task ≡ false → task ≡ None
none_under None e = refl
none_under (Some x) e = absurd (false≢true (sym e))

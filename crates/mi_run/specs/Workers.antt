-- What a worker of a run may do, and what it leaves.
use Rattle.std.specs.Prelude.{◌≡◌, ◌≤◌, Bool, true, false, ℤ, List, [], Some, length, vec_capacity}
use Rattle.mi_base.specs.declared.records.Op.{Op}
use Rattle.mi_base.specs.declared.records.Reply.{Reply}
use Rattle.mi_base.specs.Scripts.{IsScriptOver}
use Rattle.mi_base.specs.Space.{MetricSpace}
use Rattle.mi_hall.specs.Families.{Sees}
use Rattle.mi_hall.specs.Passes.{PassState, place_view}
use Rattle.mi_job.specs.Claims.{ClaimsNone}
use Rattle.mi_session.specs.Scripts.{AnswersAll}
use Rattle.mi_session.specs.Sessions.{IsSeated}
use Rattle.mi_world.specs.View.{Later, SameActors, View}
use Rattle.mi_run.specs.declared.workers.Task.{Task}
use Rattle.mi_run.specs.declared.workers.Task.TheVariants.{Script, Tend}
use Rattle.mi_run.specs.declared.workers.Worker.{Worker}

-- the operations of a script were made at a place, whose actor then left
pub record Serves (script : List Op) (p : PassState) (ys : List Reply) (q : PassState) : Type 0 where
  pub table : q.table ≡ p.table
  pub between : View
  pub answers : AnswersAll 1 (place_view p) script ys between
  pub leaves : Sees between (place_view q)

-- splits and sweeps were made at a place, which claims nothing again
pub record Tends (p q : PassState) : Type 0 where
  pub table : q.table ≡ p.table
  pub later : Later (place_view p) (place_view q)
  pub actors : SameActors (place_view p) (place_view q)
  pub own : (place_view q).own ≡ (place_view p).own
  pub claims : ClaimsNone (place_view q)

-- the actor looked at the board, or didn't
abbrev pub Looks : Bool → PassState → PassState → Type 0
Looks true p q = (q.table ≡ p.table) × Sees (place_view p) (place_view q)
Looks false p q = q ≡ p

-- operations of this script are to be made, and there is room for their replies
abbrev pub ToServe : List Op → Task → Type 0
ToServe script (Script s replies) = (s.now ≡ script) × (replies.items ≡ []) × (length script ≤ vec_capacity replies)
ToServe script (Tend wanted) = ⊥

-- a worker that has this place and is to make the operations of this script
pub record IsClientFor {R : Type 0} (script : List Op) (p : PassState) (w : Worker R) : Type 0 where
  pub place : w.place ≡ Some p
  pub task : ToServe script w.task

-- what may be done in this space
abbrev pub MayDo : MetricSpace → Task → Type 0
MayDo space (Script s replies) = IsScriptOver space s.now × (replies.items ≡ []) × (length s.now ≤ vec_capacity replies)
MayDo space (Tend wanted) = Unit {0}

pub record MayWork {R : Type 0} (space : MetricSpace) (pivots : List (List ℤ)) (w : Worker R) : Type 0 where
  pub at : PassState
  pub place : w.place ≡ Some at
  pub seated : IsSeated space pivots (place_view at)
  pub task : MayDo space w.task

-- what was done at a place
abbrev pub Does : Task → PassState → Task → PassState → Type 0
Does (Script s replies) p (Script t made) q = (t.now ≡ s.now) × Serves s.now p made.items q
Does (Tend wanted) p (Tend now) q = Tends p q
Does (Script s replies) p (Tend now) q = ⊥
Does (Tend wanted) p (Script t made) q = ⊥

pub record HasWorked {R : Type 0} (old new : Worker R) : Type 0 where
  pub before : PassState
  pub was : old.place ≡ Some before
  pub after : PassState
  pub place : new.place ≡ Some after
  pub does : Does old.task before new.task after

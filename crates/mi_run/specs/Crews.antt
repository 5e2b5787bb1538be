-- The workers of a run at their places, before they work and after.
use Rattle.std.specs.Prelude.{◌≡◌, ◌<◌, ◌||◌, ℕ, List, [], ◌∷◌, ◌++◌, Bool, IsTrue, Option, Some, None, Result, map}
use Rattle.std.specs.List.{AllByRecursion, AllZip}
use Rattle.atomic_table.specs.Seated.{TableId}
use Rattle.mi_base.specs.declared.records.Op.{Op}
use Rattle.mi_base.specs.declared.records.Reply.{Reply}
use Rattle.mi_base.specs.declared.refusals.NoMemory.{NoMemory}
use Rattle.mi_base.specs.Configuration.{Configuration}
use Rattle.mi_base.specs.History.{Entered}
use Rattle.mi_core.specs.State.{State}
use Rattle.mi_hall.specs.Closing.{Closes}
use Rattle.mi_hall.specs.Passes.{PassState, place_view}
use Rattle.mi_job.specs.Claims.{ClaimsNone}
use Rattle.mi_settle.specs.Outcomes.{IsOutcomeOf}
use Rattle.mi_settle.specs.Settling.{Settles, is_refused}
use Rattle.mi_session.specs.Scripts.{AnswersAll}
use Rattle.mi_solo.specs.Solos.{SoloState}
use Rattle.mi_tree.specs.declared.outcomes.Outcome.{Outcome}
use Rattle.mi_tree.specs.Growing.{Grows}
use Rattle.mi_world.specs.View.{Absorbed, View}
use Rattle.mi_run.specs.declared.workers.Task.{Task}
use Rattle.mi_run.specs.declared.workers.Task.TheVariants.{Script, Tend}
use Rattle.mi_run.specs.declared.workers.Worker.{Worker}
use Rattle.mi_run.specs.Workers.{HasWorked, ToServe}

-- an actor that claims nothing, and has no updates, and neither made nor absorbed one
pub record IsNew (c : Configuration) (v : View) : Type 0 where
  pub settings : v.settings ≡ c
  pub claims : ClaimsNone v
  pub own : v.own ≡ []
  pub absorbed : v.absorbed ≡ []
  pub forked : v.forked ≡ []

-- each number is greater than the one before it
abbrev pub Ascends : ℕ → List ℕ → Type 0
Ascends k [] = Unit {0}
Ascends k (n ∷ ns) = (k < n) × Ascends n ns

abbrev pub number_at : Option PassState → ℕ
number_at None = 0
number_at (Some p) = (place_view p).actor

-- the actors of workers
abbrev pub numbers : {R : Type 0} → List (Worker R) → List ℕ
numbers workers = map (λ w. number_at w.place) workers

-- a new actor at this table
pub record Starts {R : Type 0} (c : Configuration) (t : TableId) (w : Worker R) : Type 0 where
  pub at : PassState
  pub place : w.place ≡ Some at
  pub table : at.table ≡ t
  pub new : IsNew c (place_view at)

abbrev pub ToTend : Task → Type 0
ToTend (Script s replies) = ⊥
ToTend (Tend wanted) = Unit {0}

-- The first actor, which was at this table and has made the actors of these workers, whose numbers are in ascending order; each has nothing yet
pub record HasMade {R : Type 0} (c : Configuration) (t : TableId) (first : PassState) (workers : List (Worker R)) : Type 0 where
  pub table : first.table ≡ t
  pub settings : (place_view first).settings ≡ c
  pub zero : (place_view first).actor ≡ 0
  pub claims : ClaimsNone (place_view first)
  pub own : (place_view first).own ≡ []
  pub absorbed : (place_view first).absorbed ≡ []
  pub forked : (place_view first).forked ≡ numbers workers
  pub ascends : Ascends 0 (numbers workers)
  pub starts : AllByRecursion (Starts c t) workers

-- scripts are to be served by these workers
abbrev pub AreToServe : {R : Type 0} → List (List Op) → List (Worker R) → Type 0
AreToServe scripts workers = AllZip (λ s w. ToServe s w.task) scripts workers

-- a worker for each script, of which the first has the first actor's place, and one that splits and sweeps
pub record IsCrew {R : Type 0} (c : Configuration) (t : TableId) (scripts : List (List Op)) (workers : List (Worker R)) : Type 0 where
  pub first : PassState
  pub client : Worker R
  pub others : List (Worker R)
  pub tender : Worker R
  pub all : workers ≡ client ∷ (others ++ tender ∷ [])
  pub place : client.place ≡ Some first
  pub made : HasMade c t first (others ++ tender ∷ [])
  pub serve : AreToServe scripts (client ∷ others)
  pub tends : ToTend tender.task

-- all have worked
abbrev pub HaveWorked : {R : Type 0} → List (Worker R) → List (Worker R) → Type 0
HaveWorked olds news = AllZip HasWorked olds news

-- a crew for these scripts, all of which have worked
pub record IsDone {R : Type 0} (scripts : List (List Op)) (workers : List (Worker R)) : Type 0 where
  pub settings : Configuration
  pub table : TableId
  pub olds : List (Worker R)
  pub crew : IsCrew settings table scripts olds
  pub worked : HaveWorked olds workers

-- a worker at a place with a script, and its replies
abbrev pub HasScript : Task → Type 0
HasScript (Script s replies) = Unit {0}
HasScript (Tend wanted) = ⊥

pub record IsClient {R : Type 0} (w : Worker R) : Type 0 where
  pub at : PassState
  pub place : w.place ≡ Some at
  pub task : HasScript w.task

abbrev pub replied : Task → List Reply
replied (Script s replies) = replies.items
replied (Tend wanted) = []

-- a worker at a place that splits and sweeps
pub record IsTender {R : Type 0} (w : Worker R) : Type 0 where
  pub at : PassState
  pub place : w.place ≡ Some at
  pub task : ToTend w.task

-- the replies of an actor to a script, and the updates that are its own, by one who has seen what it saw
pub record IsAnswered (v : View) (k : ℕ) (script : List Op) (ys : List Reply) (own : List Entered) : Type 0 where
  pub first : View
  pub none : first.own ≡ []
  pub between : View
  pub answers : AnswersAll 1 first script ys between
  pub settings : between.settings ≡ v.settings
  pub actor : between.actor ≡ k
  pub own_is : own ≡ between.own
  pub grows : Grows between.seen v.seen
  pub told : IsTrue between.told → IsTrue v.told

-- those of all clients
abbrev pub AreAnswered : View → List ℕ → List (List Op) → List (List Reply) → List (List Entered) → Type 0
AreAnswered v [] [] [] [] = Unit {0}
AreAnswered v (k ∷ ks) (s ∷ ss) (ys ∷ yss) (own ∷ owns) = IsAnswered v k s ys own × AreAnswered v ks ss yss owns
AreAnswered v ks ss yss owns = ⊥

-- the actors that were absorbed, and their updates
abbrev pub absorbed_numbers : List Absorbed → List ℕ
absorbed_numbers xs = map (λ (x : Absorbed). x.actor) xs

abbrev pub absorbed_own : List Absorbed → List (List Entered)
absorbed_own xs = map (λ (x : Absorbed). x.own) xs

-- The first actor once all others were absorbed: those of the clients, and then the one that split and swept.
pub record HasAbsorbed (scripts : List (List Op)) (v : View) (replies : List (List Reply)) : Type 0 where
  pub zero : v.actor ≡ 0
  pub claims : ClaimsNone v
  pub others : List Absorbed
  pub tender : Absorbed
  pub absorbed : v.absorbed ≡ others ++ tender ∷ []
  pub forked : v.forked ≡ absorbed_numbers v.absorbed
  pub ascends : Ascends 0 (absorbed_numbers v.absorbed)
  pub none : tender.own ≡ []
  pub answered : AreAnswered v (0 ∷ absorbed_numbers others) scripts replies (v.own ∷ absorbed_own others)

-- the place of the first worker
abbrev pub first_place : {R : Type 0} → List (Worker R) → Option PassState
first_place [] = None
first_place (w ∷ ws) = w.place

-- it is at the table of the place where the first worker was, and of the same settings
pub record IsGathered (origin : Option PassState) (scripts : List (List Op)) (p : PassState) (replies : List (List Reply)) : Type 0 where
  pub stays : (q : PassState) → origin ≡ Some q → (p.table ≡ q.table) × ((place_view p).settings ≡ (place_view q).settings)
  pub absorbed : HasAbsorbed scripts (place_view p) replies

-- the core of a hall that was closed by an actor of this view was settled, and the outcome tells of it and of these replies
pub record Tells (v : View) (replies : List (List Reply)) (wanted : Bool) (pages : ℕ) (o : Outcome) : Type 0 where
  pub core : SoloState
  pub closes : Closes v core
  pub result : Result (Unit {0}) NoMemory
  pub last : State
  pub settles : Settles core.turn core.state result last
  pub outcome : IsOutcomeOf last replies (wanted || is_refused result) pages o

-- What answers tell: the page that one names, and whether one tells that all pages are allotted.
use Rattle.std.specs.Prelude.{ℕ, Option, Some, None, Bool, true, Result, Ok, Err}
use Rattle.mi_base.specs.declared.refusals.NoMemory.{NoMemory}
use Rattle.mi_tree.specs.declared.answers.AllotRefusal.{AllotRefusal}
use Rattle.mi_tree.specs.declared.answers.AllotRefusal.TheVariants as allot
use Rattle.mi_tree.specs.declared.answers.Look.{Look}
use Rattle.mi_world.specs.declared.answers.Commit.{Commit}
use Rattle.mi_world.specs.declared.answers.Commit.TheVariants as commit
use Rattle.mi_world.specs.declared.answers.Parted.{Parted}
use Rattle.mi_world.specs.declared.answers.Parted.TheVariants.{Parted as HasParted, Roomy}
use Rattle.mi_world.specs.declared.answers.Put.{Put}
use Rattle.mi_world.specs.declared.answers.Put.TheVariants as put
use Rattle.mi_world.specs.declared.answers.Visit.{Visit}
use Rattle.mi_world.specs.declared.answers.Visit.TheVariants.{Down, Right, Read}

-- the page that a visit names
abbrev pub page_of_visit : Visit → Option ℕ
page_of_visit (Down p) = Some p
page_of_visit (Right p) = Some p
page_of_visit (Read next) = next

abbrev pub page_of_gather : Result Visit NoMemory → Option ℕ
page_of_gather (Ok visit) = page_of_visit visit
page_of_gather (Err e) = None

-- the page that a put names
abbrev pub page_of_put : Put → Option ℕ
page_of_put (put.Down p) = Some p
page_of_put (put.Right p) = Some p
page_of_put put.PageFull = None
page_of_put put.Done = None

-- the page that a commit names
abbrev pub page_of_commit : Commit → Option ℕ
page_of_commit (commit.Down p) = Some p
page_of_commit (commit.Right p) = Some p
page_of_commit (commit.Full limit) = None
page_of_commit commit.Crowded = None
page_of_commit commit.PageFull = None
page_of_commit (commit.Done number) = None

-- the page that a half is on
abbrev pub page_of_half : Parted → Option ℕ
page_of_half (HasParted key child) = Some child
page_of_half Roomy = None

-- the root that a look names
abbrev pub root_of_look : {E : Type 0} → Result Look E → Option ℕ
root_of_look (Ok look) = Some look.root
root_of_look (Err e) = None

-- whether its actor was told that all pages are allotted, by this answer or before
abbrev pub told_by_allot : Result (Unit {0}) AllotRefusal → Bool → Bool
told_by_allot (Ok _) told = told
told_by_allot (Err (allot.PagesFull limit)) told = true
told_by_allot (Err allot.Memory) told = told

-- What a walk has offered, and what a section of it does.
use Rattle.std.specs.Prelude.{◌≡◌, ◌≤◌, ◌<◌, ◌++◌, ℕ, List, Some, None, IsTrue, IsSome}
use Rattle.mi_key.specs.Entries.{Offering}
use Rattle.mi_world.specs.declared.answers.Visit.{Visit}
use Rattle.mi_world.specs.declared.answers.Visit.TheVariants.{Down, Right, Read}
use Rattle.mi_world.specs.Pages.{IsInLeaf, MayVisit, Visits, pinned}
use Rattle.mi_key.specs.Shown.{within, below, offerings}
use Rattle.mi_world.specs.LeafKeys.{shown}
use Rattle.mi_world.specs.View.{View}
use Rattle.mi_blink.specs.declared.walk.Walk.{Walk}
use Rattle.mi_blink.specs.declared.walk.WalkTurn.{WalkTurn}
use Rattle.mi_blink.specs.declared.walk.WalkTurn.TheVariants.{More, Done}
use Rattle.mi_blink.specs.Descents.{descent}

-- what the pinned log shows of the interval, in key order
abbrev pub whole : Walk → View → List Offering
whole walk v = offerings (within walk.range (shown v.settings (pinned v)))

-- what of it lies below the page where the walk stands
abbrev pub so_far : Walk → View → List Offering
so_far walk v = offerings (below (v.low walk.descent.page) (within walk.range (shown v.settings (pinned v))))

-- the same after a section, and all of it where the walk has ended
abbrev pub so_far_after : WalkTurn → Walk → View → List Offering
so_far_after More walk v = so_far walk v
so_far_after Done walk v = whole walk v

-- what a walk needs of its actor between two sections
pub record Ready (walk : Walk) (v : View) : Type 0 where
  pub pin : IsSome v.pin
  pub named : IsTrue (v.named walk.descent.page)
  pub small : v.level walk.descent.page ≤ 5
  pub low : MayVisit v walk.descent.page walk.range
  pub inside : IsInLeaf v walk.range

-- The walk stands at the page that the answer named; where none was named, it has ended where it stood.
abbrev pub Follows : Visit → ℕ → WalkTurn → ℕ → Type 0
Follows (Down p) from turn page = (turn ≡ More) × (page ≡ p)
Follows (Right p) from turn page = (turn ≡ More) × (page ≡ p)
Follows (Read (Some p)) from turn page = (turn ≡ More) × (page ≡ p)
Follows (Read None) from turn page = (turn ≡ Done) × (page ≡ from)

-- a walk that goes on is ready, and less is left of it
abbrev pub GoesOn : Walk → View → WalkTurn → Walk → View → Type 0
GoesOn old v More new w = Ready new w × (descent w new.descent.page < descent v old.descent.page)
GoesOn old v Done new w = Unit {0}

-- a section of a walk is a visit of the page where it stands
pub record Walked (old : Walk) (v : View) (turn : WalkTurn) (new : Walk) (w : View) : Type 0 where
  pub answer : Visit
  pub visits : Visits v w old.descent.page old.range answer
  pub follows : Follows answer old.descent.page turn new.descent.page
  pub range : new.range ≡ old.range
  pub goes_on : GoesOn old v turn new w

-- it was offered what leads from these objects to those
pub record Offers {S : Type 0} (offered : S → List Offering → S → Type 0) (old : S) (before : List Offering) (new : S) (after : List Offering) : Type 0 where
  pub delta : List Offering
  pub joins : before ++ delta ≡ after
  pub offers : offered old delta new

-- How many pages there are, counted by what was put into them.
use Rattle.std.specs.Prelude.{◌≡◌, ◌≤◌, ℕ, ◌+◌, ◌*◌, ◌==◌, List, [], ◌∷◌, ◌++◌, true, false, cond, length, max, Option, Some, None, slice_get}
use Rattle.std.specs.List.{filter}
use Rattle.mi_base.specs.declared.records.LogEvent.{LogEvent}
use Rattle.mi_base.specs.declared.records.LogEvent.TheVariants.{Update as Made, Split}
use Rattle.mi_base.specs.declared.records.Update.TheVariants.{Insert, Delete}
use Rattle.mi_base.specs.Configuration.{Configuration}
use Rattle.mi_base.specs.History.{live, updates_of}
use Rattle.mi_page.specs.Nodes.{Node}
use Rattle.mi_tree.specs.Cells.{Grid}
use Rattle.mi_tree.specs.Counting.{belongs}
use Rattle.mi_core.specs.Events.{Can, Event, after, copied_of}
use Rattle.mi_core.specs.Kept.{Kept}
use Rattle.mi_entries.specs.Actors.{Actor}
use Rattle.mi_board.specs.Boards.{BoardState}
use Rattle.mi_core.specs.State.{State}
use Rattle.mi_entries.specs.Entries.{grid}

-- the sum of a number over a list
abbrev pub total : {X : Type 0} → (X → ℕ) → List X → ℕ
total f [] = 0
total f (x ∷ xs) = f x + total f xs

-- a linked leaf page counts for 16, and for each entry above 16
abbrev pub page_lift : Option Node → ℕ
page_lift None = 0
page_lift (Some n) = cond (n.level == 0) (max 16 (length n.entries)) 0

-- how many objects were inserted
abbrev pub inserts : List LogEvent → ℕ
inserts [] = 0
inserts (Made session op (Insert id vector) ∷ log) = 1 + inserts log
inserts (Made session op (Delete id) ∷ log) = inserts log
inserts (Split p ∷ log) = inserts log

-- how many live objects the leaf of each split had at its split
abbrev pub carried : Grid → List LogEvent → List LogEvent → ℕ
carried g earlier [] = 0
carried g earlier (Made session op u ∷ log) = carried g (earlier ++ Made session op u ∷ []) log
carried g earlier (Split p ∷ log) = length (filter (belongs g p) (live (updates_of earlier))) + carried g (earlier ++ Split p ∷ []) log

-- how many copies an actor's split has made
abbrev pub copies_of : Actor → ℕ
copies_of r = copied_of r.split

-- no actor ever took a copy back
abbrev pub NoneUndone : List Actor → Type 0
NoneUndone actors = (a : ℕ) (r : Actor) → slice_get actors a ≡ Some r → r.undone ≡ false

-- no actor took a copy back before it was told that all pages are allotted
abbrev pub NoneEarly : List Actor → Type 0
NoneEarly actors = (a : ℕ) (r : Actor) → slice_get actors a ≡ Some r → r.early ≡ false

-- what leaf pages have was inserted, or copied by a split
abbrev pub Lifted : Configuration → List LogEvent → List (Option Node) → List Actor → Type 0
Lifted c log pages actors = NoneUndone actors → total page_lift pages ≤ 16 + (inserts log + carried (grid c) [] log + total copies_of actors)

-- an actor that took a copy back where it was told that all pages are allotted
abbrev pub Told : BoardState → List Actor → Type 0
Told b actors = (a : ℕ) (r : Actor) → slice_get actors a ≡ Some r → r.undone ≡ true → r.early ≡ false → b.allotted ≡ b.settings.pages

-- few entries for what was put in; all pages are allotted where a copy was taken back in time; and few pages, unless one was taken back early
pub record Counted (s : State) : Type 0 where
  pub lifted : Lifted s.board.settings s.board.log s.pages s.actors
  pub told : Told s.board s.actors
  pub bound : NoneEarly s.actors → 8 * s.board.allotted ≤ length (updates_of s.board.log) * (s.board.settings.levels + 1) + 8 * (7 + length s.actors)

-- the event keeps these counts
abbrev pub KeepsCounted : Event → Type 0
KeepsCounted e = (s : State) → Kept s → Counted s → (a : ℕ) (r : Actor) → slice_get s.actors a ≡ Some r → Can s a r e → Counted (after s a r e)

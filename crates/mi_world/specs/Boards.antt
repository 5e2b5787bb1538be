-- Sections of the board that change no leaf's claim, and the splitter's next work.
use Rattle.std.specs.Prelude.{◌≡◌, ◌≢◌, ◌≤◌, ◌<◌, ◌+◌, ◌==◌, ◌&&◌, ◌||◌, ◌∷◌, [], ℕ, List, Option, Some, None, Bool, true, false, IsTrue, length, not, is_some, Result, Ok, Err, IsSome, drop, ◌-◌}
use Rattle.std.specs.List.{find}
use Rattle.mi_base.specs.declared.refusals.NoMemory.{NoMemory}
use Rattle.mi_base.specs.History.{updates_of, end_of, at_position}
use Rattle.mi_tree.specs.declared.answers.AllotRefusal.{AllotRefusal}
use Rattle.mi_tree.specs.declared.answers.AllotRefusal.TheVariants as allot
use Rattle.mi_tree.specs.declared.answers.Look.{Look}
use Rattle.mi_tree.specs.declared.answers.ReserveRefusal.{ReserveRefusal}
use Rattle.mi_tree.specs.declared.answers.ReserveRefusal.TheVariants as reserve
use Rattle.mi_tree.specs.declared.answers.Work.{Work}
use Rattle.mi_tree.specs.declared.answers.Work.TheVariants as work
use Rattle.mi_tree.specs.declared.outcomes.Leaf.{Leaf}
use Rattle.mi_tree.specs.Births.{was_split, splits_in}
use Rattle.mi_tree.specs.Counting.{is_wanted}
use Rattle.mi_tree.specs.Legal.{cells_of}
use Rattle.mi_world.specs.LeafKeys.{least_key}
use Rattle.mi_world.specs.View.{View, Later, SameOwn, SameUpdate, SameLeaf, SameSweep, SameSplit, SameFlags, SameActors, SamePage, SameTry, SeesBoard, SameWork, SameApart, IsFloor}

-- what a look tells: the end of the log, the floor, and the root with its level, which is a page from the lowest key on
pub record Tells (new : View) (look : Look) : Type 0 where
  pub at_is : look.at ≡ end_of new.seen
  pub floor_is : look.floor ≡ new.floor
  pub floor_least : IsFloor new new.floor
  pub root_is : look.root ≡ new.root
  pub height_is : look.height ≡ new.height
  pub named : IsTrue (new.named look.root)
  pub level_is : new.level look.root ≡ look.height
  pub low_is : new.low look.root ≡ 0
  pub low_height : look.height ≤ 5
  pub least_height : new.least ≤ look.height

pub record Looks (old new : View) (look : Look) : Type 0 where
  pub later : Later old new
  pub lacked : new.lacked ≡ old.lacked
  pub told : new.told ≡ old.told
  pub same : SameOwn old new
  pub board : SeesBoard new
  pub page : SamePage old new
  pub tries : SameTry old new
  pub tells : Tells new look

-- Room is reserved, or the log is full, or memory is wanted.
abbrev pub ReserveAnswer : View → View → Result Look ReserveRefusal → Type 0
ReserveAnswer old new (Ok look) = Tells new look × (length (updates_of new.seen) < new.settings.updates) × (new.reserved ≡ true)
ReserveAnswer old new (Err (reserve.Full limit)) =
    (limit ≡ new.settings.updates) × (length (updates_of new.seen) ≡ limit) × (new.reserved ≡ old.reserved) × (new.floor ≡ old.floor)
ReserveAnswer old new (Err reserve.Memory) = (new.reserved ≡ old.reserved) × (new.floor ≡ old.floor)

pub record Reserves (old new : View) (result : Result Look ReserveRefusal) : Type 0 where
  pub later : Later old new
  pub lacked : new.lacked ≡ old.lacked
  pub told : new.told ≡ old.told
  pub own : new.own ≡ old.own
  pub shard : new.shard ≡ old.shard
  pub records : new.records ≡ old.records
  pub leaf : SameLeaf old new
  pub apart : SameApart old new
  pub fresh : new.fresh ≡ old.fresh
  pub owes : new.owes ≡ old.owes
  pub board : SeesBoard new
  pub page : SamePage old new
  pub tries : SameTry old new
  pub answer : ReserveAnswer old new result

-- The whole log is pinned, or memory is wanted.
abbrev pub PinAnswer : View → View → Result Look NoMemory → Type 0
PinAnswer old new (Ok look) = Tells new look × (new.pin ≡ Some new.seen)
PinAnswer old new (Err e) = (new.pin ≡ None) × (new.floor ≡ old.floor)

pub record Pins (old new : View) (result : Result Look NoMemory) : Type 0 where
  pub later : Later old new
  pub lacked : new.lacked ≡ old.lacked
  pub told : new.told ≡ old.told
  pub update : SameUpdate old new
  pub leaf : SameLeaf old new
  pub sweep : SameSweep old new
  pub split : SameSplit old new
  pub flags : SameFlags old new
  pub actors : SameActors old new
  pub fresh : new.fresh ≡ old.fresh
  pub owes : new.owes ≡ old.owes
  pub board : SeesBoard new
  pub page : SamePage old new
  pub tries : SameTry old new
  pub answer : PinAnswer old new result

pub record Unpins (old new : View) : Type 0 where
  pub later : Later old new
  pub lacked : new.lacked ≡ old.lacked
  pub told : new.told ≡ old.told
  pub update : SameUpdate old new
  pub leaf : SameLeaf old new
  pub sweep : SameSweep old new
  pub split : SameSplit old new
  pub flags : SameFlags old new
  pub actors : SameActors old new
  pub pin : new.pin ≡ None
  pub floor : new.floor ≡ old.floor
  pub fresh : new.fresh ≡ old.fresh
  pub owes : new.owes ≡ old.owes
  pub board : SeesBoard new
  pub page : SamePage old new
  pub tries : SameTry old new

-- A page more is allotted and in hand, or all are allotted already, or memory is wanted.
abbrev pub AllotAnswer : View → View → Result (Unit {0}) AllotRefusal → Type 0
AllotAnswer old new (Ok _) = IsSome new.fresh × (old.allotted < new.allotted) × (new.lacked ≡ old.lacked)
AllotAnswer old new (Err (allot.PagesFull limit)) =
    (new.fresh ≡ old.fresh) × (limit ≡ new.settings.pages) × (new.allotted ≡ limit) × IsTrue new.told × (new.lacked ≡ old.lacked)
AllotAnswer old new (Err allot.Memory) = (new.fresh ≡ old.fresh) × IsTrue new.lacked × (new.told ≡ old.told)

-- where it is told, full pages stay full
pub record Allots (old new : View) (result : Result (Unit {0}) AllotRefusal) : Type 0 where
  pub later : Later old new
  pub work : SameWork old new
  pub floor : new.floor ≡ old.floor
  pub owes : new.owes ≡ old.owes
  pub board : SeesBoard new
  pub page : SamePage old new
  pub tries : SameTry old new
  pub full : IsTrue new.tells_full → (p : ℕ) → IsTrue (old.full p) → IsTrue (new.full p)
  pub answer : AllotAnswer old new result

-- the routes owed, but that of this page
abbrev pub paying : ℕ → (ℕ → Bool) → ℕ → Bool
paying child owes p = owes p && not (p == child)

-- the routes owed, and that of this page
abbrev pub owing : ℕ → (ℕ → Bool) → ℕ → Bool
owing child owes p = owes p || (p == child)

-- The fresh page becomes the root of this level exactly where the root was of the level below, and then the child's route is owed no more.
-- Else the root is of this level at least, now and later.
abbrev pub GrowAnswer : View → View → ℕ → ℕ → Bool → Type 0
GrowAnswer old new level child true =
    (new.height ≡ level) × (1 ≤ level) × (is_some new.fresh ≡ false) × (new.owes ≡ paying child old.owes) × (old.fresh ≡ Some new.root)
GrowAnswer old new level child false = (new.height + 1 ≢ level) × (new.fresh ≡ old.fresh) × (new.owes ≡ old.owes) × (level ≤ new.least)

pub record Grew (old new : View) (level child : ℕ) (result : Bool) : Type 0 where
  pub later : Later old new
  pub lacked : new.lacked ≡ old.lacked
  pub told : new.told ≡ old.told
  pub work : SameWork old new
  pub floor : new.floor ≡ old.floor
  pub board : SeesBoard new
  pub page : SamePage old new
  pub tries : SameTry old new
  pub answer : GrowAnswer old new level child result

-- the leaf was split by the floor
abbrev pub is_below_floor : View → List ℕ → Bool
is_below_floor v p = was_split p (at_position v.seen v.floor)

-- the retired leaf that was split first may be swept
abbrev pub first_may_be_swept : View → List (List ℕ) → Bool
first_may_be_swept v [] = false
first_may_be_swept v (p ∷ ps) = is_below_floor v p

-- a leaf is to be split, nobody claims it, and it isn't passed over
abbrev pub is_free : View → (List ℕ → Option ℕ) → Leaf → Bool
is_free v holder leaf = is_wanted v.settings.levels v.settings.cell leaf && (not (is_some (holder leaf.prefix)) && not (v.passed leaf.prefix))

-- the first free leaf in dictionary order, by the claims as they were before this one
pub record FirstFree (new : View) (leaf : Leaf) : Type 0 where
  pub before : List ℕ → Option ℕ
  pub others : (p : List ℕ) → p ≢ leaf.prefix → before p ≡ new.holder p
  pub first : find (is_free new before) (cells_of new.settings new.seen) ≡ Some leaf

-- the leaf that was split first of those that were not given, before it was taken off the list; the floor has its split
pub record FirstRetired (old new : View) (prefix : List ℕ) : Type 0 where
  pub one_more : old.given < new.given
  pub was_first : prefix ∷ new.retired ≡ drop (new.given - 1) (splits_in new.seen)
  pub below : IsTrue (is_below_floor new prefix)

-- The leaf that was split first is given to be swept, if the floor has its split; else the first free leaf to be split; else nothing.
abbrev pub WorkAnswer : View → View → Work → Type 0
WorkAnswer old new (work.Sweep prefix) =
    FirstRetired old new prefix × (new.sweep ≡ Some prefix) × (new.swept ≡ least_key new.settings prefix) × SameLeaf old new
WorkAnswer old new (work.Split leaf) =
    (first_may_be_swept new new.retired ≡ false) × FirstFree new leaf × (new.leaf ≡ Some leaf.prefix) × (new.wanted ≡ true) × SameSweep old new × (new.splitting ≡ false)
WorkAnswer old new work.Idle =
    (first_may_be_swept new new.retired ≡ false) × (find (is_free new new.holder) (cells_of new.settings new.seen) ≡ None) × SameLeaf old new
    × SameSweep old new

pub record GivesWork (old new : View) (result : Work) : Type 0 where
  pub later : Later old new
  pub lacked : new.lacked ≡ old.lacked
  pub told : new.told ≡ old.told
  pub update : SameUpdate old new
  pub split : SameSplit old new
  pub flags : SameFlags old new
  pub actors : SameActors old new
  pub pin : new.pin ≡ old.pin
  pub fresh : new.fresh ≡ old.fresh
  pub owes : new.owes ≡ old.owes
  pub floor : IsFloor new new.floor
  pub board : SeesBoard new
  pub page : SamePage old new
  pub tries : SameTry old new
  pub answer : WorkAnswer old new result

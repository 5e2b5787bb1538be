-- Sections of a split and of a sweep.
use Rattle.std.specs.Prelude.{◌≡◌, ◌≤◌, ◌<◌, ◌+◌, ◌-◌, ◌∷◌, ◌++◌, ◌||◌, [], ℕ, List, Option, Some, None, Bool, true, false, IsTrue, length, cond, not, slice_index, Result, Ok, Err, ◌&&◌, ◌==◌}
use Rattle.std.specs.List.{list_any}
use Rattle.mi_base.specs.declared.limits.TheConstants.{MAX_UPDATES}
use Rattle.mi_base.specs.declared.records.LogEvent.{LogEvent}
use Rattle.mi_base.specs.declared.records.LogEvent.TheVariants.{Split}
use Rattle.mi_base.specs.declared.records.Position.{Position}
use Rattle.mi_base.specs.declared.refusals.NoMemory.{NoMemory}
use Rattle.mi_base.specs.History.{end_of}
use Rattle.mi_tree.specs.Cells.{same_cell}
use Rattle.mi_tree.specs.Legal.{MayFollow, cells_of}
use Rattle.mi_world.specs.declared.answers.Put.{Put}
use Rattle.mi_world.specs.declared.answers.Put.TheVariants as put
use Rattle.mi_world.specs.declared.answers.Visit.{Visit}
use Rattle.mi_world.specs.declared.answers.Visit.TheVariants.{Down, Right, Read}
use Rattle.mi_world.specs.Pages.{GoesDown, GoesRight, HasTaken, IsReached, IsFullPage, ReadsTo}
use Rattle.mi_world.specs.LeafKeys.{greatest_key, least_key}
use Rattle.mi_tree.specs.Growing.{Grows}
use Rattle.mi_world.specs.View.{View, Later, SameUpdate, SameLeaf, SameSweep, SameSplit, SameFlags, SameActors, SameBoard, SamePage, SameTry, SeesBoard, prefix_or}

-- the least and the greatest key of a leaf's cell
abbrev pub first_key : View → Option (List ℕ) → ℕ
first_key v leaf = least_key v.settings (prefix_or leaf)

abbrev pub last_key : View → Option (List ℕ) → ℕ
last_key v leaf = greatest_key v.settings (prefix_or leaf)

-- the key from which a gather goes on; where no split has begun, that is the first
abbrev pub gather_key : View → ℕ
gather_key v = cond v.splitting v.mark (first_key v v.leaf)

-- the keys of the copies to be made of what was gathered, how many these are, and how many are made; none where no split has begun
abbrev pub copies_in : View → List ℕ
copies_in v = cond v.splitting v.copies []

abbrev pub gathered_in : View → ℕ
gathered_in v = length (copies_in v)

abbrev pub copied_in : View → ℕ
copied_in v = cond v.splitting v.copied 0

-- whether all is gathered; where no split has begun, it isn't
abbrev pub whole_in : View → Bool
whole_in v = cond v.splitting v.whole false

-- the split goes on as it was, or has begun and gathered nothing
pub record GathersNone (old new : View) : Type 0 where
  pub splitting : new.splitting ≡ true
  pub mark : new.mark ≡ gather_key old
  pub gathered : new.copies ≡ copies_in old
  pub copied : new.copied ≡ copied_in old
  pub whole : new.whole ≡ whole_in old

-- A gather goes on from the page that is named. Where none is, the whole leaf is gathered, and the mark is past its keys.
abbrev pub MarksOn : View → Option ℕ → Type 0
MarksOn new None = (new.whole ≡ true) × (last_key new new.leaf < new.mark)
MarksOn new (Some p) = (new.whole ≡ false) × (new.mark ≡ new.low p)

-- the entries of a page were gathered beside those before
pub record GathersPage (old new : View) (page : ℕ) (next : Option ℕ) : Type 0 where
  pub splitting : new.splitting ≡ true
  pub marked : MarksOn new next
  pub more : List ℕ
  pub gathered : new.copies ≡ copies_in old ++ more
  pub few : length new.copies ≤ MAX_UPDATES
  pub copied : new.copied ≡ copied_in old

abbrev pub GatherAnswer : View → View → ℕ → Result Visit NoMemory → Type 0
GatherAnswer old new page (Ok (Down p)) = GathersNone old new × GoesDown old new page p 0 (gather_key old)
GatherAnswer old new page (Ok (Right p)) = GathersNone old new × GoesRight old new page p 0 (gather_key old)
GatherAnswer old new page (Ok (Read next)) = GathersPage old new page next × IsReached old new page 0 (gather_key old) × ReadsTo old new page (last_key old old.leaf) next
GatherAnswer old new page (Err e) = GathersNone old new

pub record Gathers (old new : View) (page : ℕ) (result : Result Visit NoMemory) : Type 0 where
  pub later : Later old new
  pub update : SameUpdate old new
  pub leaf : SameLeaf old new
  pub sweep : SameSweep old new
  pub flags : SameFlags old new
  pub actors : SameActors old new
  pub pin : new.pin ≡ old.pin
  pub floor : new.floor ≡ old.floor
  pub fresh : new.fresh ≡ old.fresh
  pub owes : new.owes ≡ old.owes
  pub board : SameBoard old new
  pub tries : SameTry old new
  pub page_is : new.page ≡ page
  pub answer : GatherAnswer old new page result

-- the claimed leaf may be gathered
pub record MayGather (v : View) : Type 0 where
  pub leaf : List ℕ
  pub leaf_is : v.leaf ≡ Some leaf
  pub wanted : v.wanted ≡ true

-- the whole of the claimed leaf is gathered
pub record IsGathered (v : View) : Type 0 where
  pub leaf : List ℕ
  pub leaf_is : v.leaf ≡ Some leaf
  pub wanted : v.wanted ≡ true
  pub splitting : v.splitting ≡ true
  pub whole : v.whole ≡ true

-- what of a split stays while copies are made and taken back
pub record SameGathered (old new : View) : Type 0 where
  pub splitting : new.splitting ≡ old.splitting
  pub mark : new.mark ≡ old.mark
  pub whole : new.whole ≡ old.whole
  pub copies : new.copies ≡ old.copies

-- the key of the next copy, and of the last one
abbrev pub next_copy : View → ℕ
next_copy v = slice_index v.copies v.copied

abbrev pub last_copy : View → ℕ
last_copy v = slice_index v.copies (v.copied - 1)

abbrev pub CopyAnswer : View → View → ℕ → Put → Type 0
CopyAnswer old new page (put.Down p) = (new.copied ≡ old.copied) × GoesDown old new page p 0 (next_copy old)
CopyAnswer old new page (put.Right p) = (new.copied ≡ old.copied) × GoesRight old new page p 0 (next_copy old)
CopyAnswer old new page put.PageFull = (new.copied ≡ old.copied) × IsReached old new page 0 (next_copy old) × IsFullPage old new page
CopyAnswer old new page put.Done = (new.copied ≡ old.copied + 1) × IsReached old new page 0 (next_copy old) × HasTaken old new page

pub record CopiesIn (old new : View) (page : ℕ) (result : Put) : Type 0 where
  pub later : Later old new
  pub update : SameUpdate old new
  pub leaf : SameLeaf old new
  pub sweep : SameSweep old new
  pub gathered : SameGathered old new
  pub flags : SameFlags old new
  pub actors : SameActors old new
  pub pin : new.pin ≡ old.pin
  pub floor : new.floor ≡ old.floor
  pub fresh : new.fresh ≡ old.fresh
  pub owes : new.owes ≡ old.owes
  pub board : SameBoard old new
  pub tries : SameTry old new
  pub page_is : new.page ≡ page
  pub answer : CopyAnswer old new page result

abbrev pub UncopyAnswer : View → View → ℕ → Put → Type 0
UncopyAnswer old new page (put.Down p) = (new.copied ≡ old.copied) × GoesDown old new page p 0 (last_copy old) × SameFlags old new
UncopyAnswer old new page (put.Right p) = (new.copied ≡ old.copied) × GoesRight old new page p 0 (last_copy old) × SameFlags old new
UncopyAnswer old new page put.PageFull = ⊥
UncopyAnswer old new page put.Done =
    (new.copied + 1 ≡ old.copied) × IsReached old new page 0 (last_copy old) × (new.undone ≡ true) × (new.early ≡ (old.early || not old.told))

pub record Uncopies (old new : View) (page : ℕ) (result : Put) : Type 0 where
  pub later : Later old new
  pub update : SameUpdate old new
  pub leaf : SameLeaf old new
  pub sweep : SameSweep old new
  pub gathered : SameGathered old new
  pub actors : SameActors old new
  pub pin : new.pin ≡ old.pin
  pub floor : new.floor ≡ old.floor
  pub fresh : new.fresh ≡ old.fresh
  pub owes : new.owes ≡ old.owes
  pub board : SameBoard old new
  pub tries : SameTry old new
  pub page_is : new.page ≡ page
  pub answer : UncopyAnswer old new page result

-- The split of the claimed leaf entered the log, and the leaf is the last that is to be swept, and not passed over any more. The claim and the
-- split are over.
pub record EntersSplit (old new : View) (at_end : Position) : Type 0 where
  pub before : List LogEvent
  pub grows : Grows old.seen before
  pub wanted : MayFollow new.settings before (Split (prefix_or old.leaf))
  pub seen : new.seen ≡ before ++ Split (prefix_or old.leaf) ∷ []
  pub at_is : at_end ≡ end_of new.seen
  -- all its live objects have their copies
  pub all : IsTrue (list_any (λ l. same_cell (prefix_or old.leaf) l.prefix && (l.count == length old.copies)) (cells_of new.settings before))
  pub unclaimed : new.leaf ≡ None
  pub freed : new.holder (prefix_or old.leaf) ≡ None
  pub over : new.splitting ≡ false
  pub earlier : List (List ℕ)
  pub retired : new.retired ≡ earlier ++ prefix_or old.leaf ∷ []
  pub unpassed : new.passed (prefix_or old.leaf) ≡ false

abbrev pub PublishAnswer : View → View → Result Position NoMemory → Type 0
PublishAnswer old new (Ok position) = EntersSplit old new position
PublishAnswer old new (Err e) = SameLeaf old new × SameSplit old new

pub record Publishes (old new : View) (result : Result Position NoMemory) : Type 0 where
  pub later : Later old new
  pub lacked : new.lacked ≡ old.lacked
  pub told : new.told ≡ old.told
  pub update : SameUpdate old new
  pub sweep : SameSweep old new
  pub flags : SameFlags old new
  pub actors : SameActors old new
  pub pin : new.pin ≡ old.pin
  pub floor : new.floor ≡ old.floor
  pub fresh : new.fresh ≡ old.fresh
  pub owes : new.owes ≡ old.owes
  pub board : SeesBoard new
  pub page : SamePage old new
  pub tries : SameTry old new
  pub answer : PublishAnswer old new result

-- the split is over, the leaf is not claimed any more, and where the pages were wanting it is passed over
pub record GivesUp (old new : View) (pages : Bool) : Type 0 where
  pub later : Later old new
  pub lacked : new.lacked ≡ old.lacked
  pub told : new.told ≡ old.told
  pub update : SameUpdate old new
  pub unclaimed : new.leaf ≡ None
  pub freed : new.holder (prefix_or old.leaf) ≡ None
  pub over : new.splitting ≡ false
  pub sweep : SameSweep old new
  pub flags : SameFlags old new
  pub actors : SameActors old new
  pub pin : new.pin ≡ old.pin
  pub floor : new.floor ≡ old.floor
  pub fresh : new.fresh ≡ old.fresh
  pub owes : new.owes ≡ old.owes
  pub board : SeesBoard new
  pub page : SamePage old new
  pub tries : SameTry old new
  pub passes_over : IsTrue pages → IsTrue (new.passed (prefix_or old.leaf))
  pub else_as_before : pages ≡ false → new.passed (prefix_or old.leaf) ≡ old.passed (prefix_or old.leaf)

-- the sweep goes on from the page that is named; where none is, it is over
abbrev pub SweptTo : View → View → Option ℕ → Type 0
SweptTo old new None = new.sweep ≡ None
SweptTo old new (Some p) = (new.sweep ≡ old.sweep) × (new.swept ≡ new.low p)

abbrev pub SweepAnswer : View → View → ℕ → Visit → Type 0
SweepAnswer old new page (Down p) = SameSweep old new × GoesDown old new page p 0 old.swept
SweepAnswer old new page (Right p) = SameSweep old new × GoesRight old new page p 0 old.swept
SweepAnswer old new page (Read next) = SweptTo old new next × IsReached old new page 0 old.swept × ReadsTo old new page (last_key old old.sweep) next

pub record Sweeps (old new : View) (page : ℕ) (result : Visit) : Type 0 where
  pub later : Later old new
  pub update : SameUpdate old new
  pub leaf : SameLeaf old new
  pub split : SameSplit old new
  pub flags : SameFlags old new
  pub actors : SameActors old new
  pub pin : new.pin ≡ old.pin
  pub floor : new.floor ≡ old.floor
  pub fresh : new.fresh ≡ old.fresh
  pub owes : new.owes ≡ old.owes
  pub board : SameBoard old new
  pub tries : SameTry old new
  pub page_is : new.page ≡ page
  pub answer : SweepAnswer old new page result

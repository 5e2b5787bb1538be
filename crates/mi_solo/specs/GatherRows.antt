-- What the gather of a page in hand makes of its actor's row. The page stays as it is.
use Rattle.std.specs.Prelude.{◌≡◌, ◌≤◌, ℕ, List, length, IsTrue, Option, Some, Result, Ok, Err}
use Rattle.mi_base.specs.Configuration.{Configuration}
use Rattle.mi_base.specs.Prefixes.{all_below}
use Rattle.mi_base.specs.declared.refusals.NoMemory.{NoMemory}
use Rattle.mi_core.specs.Events.{leaf_or}
use Rattle.mi_entries.specs.Actors.{SplitWork}
use Rattle.mi_entries.specs.Entries.{grid}
use Rattle.mi_entries.specs.Marks.{cell_range, gather_more, split_or}
use Rattle.mi_page.specs.Nodes.{Node}
use Rattle.mi_solo.specs.declared.rows.ActorRow.{ActorRow}
use Rattle.mi_solo.specs.declared.rows.SplitRow.{SplitRow}
use Rattle.mi_solo.specs.Seeking.{EndsAfter, PointsDown, PointsRight, ReadsOn}
use Rattle.mi_solo.specs.States.{split_of}
use Rattle.mi_world.specs.declared.answers.Visit.{Visit}
use Rattle.mi_world.specs.declared.answers.Visit.TheVariants.{Down, Read, Right}

-- the row claims a cell of the settings' pivots, and splits no other
pub record IsClaiming (c : Configuration) (row : ActorRow) : Type 0 where
  pub leaf : List ℕ
  pub is : row.claim ≡ Some leaf
  pub depth : length leaf ≤ c.levels
  pub pivots : IsTrue (all_below (length c.pivots) leaf)
  pub same : (w : SplitRow) → row.split ≡ Some w → w.leaf ≡ leaf

-- its split as it is under way, or as it begins
abbrev pub row_work : Configuration → ActorRow → SplitWork
row_work c row = split_or (grid c) (leaf_or row.claim) (split_of row.split)

-- the split is under way, and the page noted
pub record StartsRow (c : Configuration) (page : ℕ) (row made : ActorRow) : Type 0 where
  pub row_is : made ≡ record row { page = page; split = made.split }
  pub begun : split_of made.split ≡ Some (row_work c row)

-- the page is gathered too
pub record GathersMore (c : Configuration) (page : ℕ) (n : Node) (row made : ActorRow) : Type 0 where
  pub ends : EndsAfter n 0 (row_work c row).mark
  pub row_is : made ≡ record row { page = page; split = made.split }
  pub more : split_of made.split ≡ Some (gather_more (grid c) (row_work c row) n)

-- what a gather answers of a page, and what it makes of the row
abbrev pub GathersRow : Configuration → ℕ → Result Visit NoMemory → Node → ActorRow → ActorRow → Type 0
GathersRow c page (Ok (Down p)) n row made = PointsDown n 0 (row_work c row).mark p × StartsRow c page row made
GathersRow c page (Ok (Right p)) n row made = PointsRight n 0 (row_work c row).mark p × StartsRow c page row made
GathersRow c page (Ok (Read next)) n row made = ReadsOn n (cell_range (grid c) (row_work c row).leaf).to next × GathersMore c page n row made
GathersRow c page (Err e) n row made = StartsRow c page row made

-- the same, of a page that stays
abbrev pub GathersPage : Configuration → ℕ → Result Visit NoMemory → Node → ActorRow → Node → ActorRow → Type 0
GathersPage c page answer n row new made = (new ≡ n) × GathersRow c page answer n row made

-- the row has a split under way, of a cell of the settings' pivots
pub record HasWork (c : Configuration) (row : ActorRow) : Type 0 where
  pub work : SplitRow
  pub is : row.split ≡ Some work
  pub depth : length work.leaf ≤ c.levels
  pub pivots : IsTrue (all_below (length c.pivots) work.leaf)

-- such a split has gathered the page, and goes on
pub record WorksOn (c : Configuration) (n : Node) (row : ActorRow) (next : Option ℕ) (made : ActorRow) : Type 0 where
  pub work : SplitWork
  pub is : split_of row.split ≡ Some work
  pub reads : ReadsOn n (cell_range (grid c) work.leaf).to next
  pub more : split_of made.split ≡ Some (gather_more (grid c) work n)

-- where memory is wanted, it stays as it was
abbrev pub WorksTo : Configuration → Node → ActorRow → Result (Option ℕ) NoMemory → ActorRow → Type 0
WorksTo c n row (Ok next) made = WorksOn c n row next made
WorksTo c n row (Err e) made = split_of made.split ≡ split_of row.split

abbrev pub GathersHere : Configuration → Node → ActorRow → Result (Option ℕ) NoMemory → ActorRow → Type 0
GathersHere c n row result made = (made ≡ record row { split = made.split }) × WorksTo c n row result made

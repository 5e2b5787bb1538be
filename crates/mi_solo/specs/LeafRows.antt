-- What the work on a page in hand makes of the page and of its actor's row, in a sweep, a gather or a copying of a leaf.
use Rattle.std.specs.Prelude.{◌≡◌, ◌≤◌, ◌<◌, ℕ, ◌+◌, ◌-◌, List, [], Bool, true, cond, length, slice_get, slice_index, IsTrue, Option, Some, None}
use Rattle.std.specs.List.{AllByRecursion}
use Rattle.mi_base.specs.Configuration.{Configuration}
use Rattle.mi_base.specs.Prefixes.{all_below}
use Rattle.mi_core.specs.Effects.{drop_entry, put_entry, sweep_node, trim_node}
use Rattle.mi_core.specs.Events.{copied_of, copied_to, sweep_leaf, sweep_next}
use Rattle.mi_entries.specs.Actors.{SplitWork}
use Rattle.mi_entries.specs.Entries.{grid}
use Rattle.mi_entries.specs.Marks.{cell_range}
use Rattle.mi_entries.specs.Splits.{copy_in_child}
use Rattle.mi_key.specs.declared.entries.Entry.{Entry}
use Rattle.mi_key.specs.declared.ranges.Interval.{Interval}
use Rattle.mi_page.specs.Entries.{without_dead}
use Rattle.mi_page.specs.Nodes.{Node, item_count}
use Rattle.mi_solo.specs.declared.rows.ActorRow.{ActorRow}
use Rattle.mi_solo.specs.declared.rows.SplitRow.{SplitRow}
use Rattle.mi_solo.specs.declared.rows.SweepRow.{SweepRow}
use Rattle.mi_solo.specs.Seeking.{EndsAfter, IsCopied, PointsDown, PointsRight, ReadsOn}
use Rattle.mi_solo.specs.States.{split_of, sweep_of}
use Rattle.mi_solo.specs.Viewing.{copy_keys, swept_to}
use Rattle.mi_world.specs.declared.answers.Put.{Put}
use Rattle.mi_world.specs.declared.answers.Put.TheVariants as put
use Rattle.mi_world.specs.declared.answers.Visit.{Visit}
use Rattle.mi_world.specs.declared.answers.Visit.TheVariants.{Down, Read, Right}
use Rattle.mi_solo.specs.PageRows.{OnlyNotes}

-- the row has a sweep under way, of a cell of the settings' pivots
pub record IsSweeping (c : Configuration) (row : ActorRow) : Type 0 where
  pub work : SweepRow
  pub is : row.sweep ≡ Some work
  pub depth : length work.leaf ≤ c.levels
  pub pivots : IsTrue (all_below (length c.pivots) work.leaf)

-- the key up to which it has swept, and the keys of the leaf that it sweeps
abbrev pub swept_mark : ActorRow → ℕ
swept_mark row = swept_to (sweep_of row.sweep)

abbrev pub swept_range : Configuration → ActorRow → Interval
swept_range c row = cell_range (grid c) (sweep_leaf (sweep_of row.sweep))

-- the entries of the leaf are taken off the page, and the sweep goes on
pub record SweepsPage (c : Configuration) (page : ℕ) (n : Node) (row : ActorRow) (new : Node) (made : ActorRow) : Type 0 where
  pub ends : EndsAfter n 0 (swept_mark row)
  pub swept : new ≡ sweep_node (swept_range c row) n
  pub row_is : made ≡ record row { page = page; sweep = made.sweep }
  pub goes_on : sweep_of made.sweep ≡ sweep_next c n (sweep_of row.sweep)

-- what a sweep answers of a page, and what it makes of it and of the row
abbrev pub SweepsRow : Configuration → ℕ → Visit → Node → ActorRow → Node → ActorRow → Type 0
SweepsRow c page (Down p) n row new made = PointsDown n 0 (swept_mark row) p × OnlyNotes page n row new made
SweepsRow c page (Right p) n row new made = PointsRight n 0 (swept_mark row) p × OnlyNotes page n row new made
SweepsRow c page (Read next) n row new made = ReadsOn n (swept_range c row).to next × SweepsPage c page n row new made

-- the row has a split under way, of a leaf above the greatest depth, and the keys of the copies are told by what it has gathered
pub record IsSplitting (c : Configuration) (row : ActorRow) : Type 0 where
  pub work : SplitRow
  pub is : row.split ≡ Some work
  pub above : length work.leaf < c.levels
  pub each : AllByRecursion (IsCopied c work.leaf) work.gathered.items
  pub few : length work.gathered.items ≤ 200000

-- what its split has gathered, and how much of that is copied; nothing without one
abbrev pub gathered_of : Option SplitWork → List Entry
gathered_of None = []
gathered_of (Some w) = w.gathered

abbrev pub gathered_by : ActorRow → List Entry
gathered_by row = gathered_of (split_of row.split)

abbrev pub copied_by : ActorRow → ℕ
copied_by row = copied_of (split_of row.split)

-- the key of the copy of what is gathered at a place
abbrev pub copy_key : Configuration → ActorRow → ℕ → ℕ
copy_key c row place = slice_index (copy_keys c (split_of row.split)) place

-- the entry is that copy
pub record IsRowCopy (c : Configuration) (row : ActorRow) (place : ℕ) (e : Entry) : Type 0 where
  pub work : SplitWork
  pub split : split_of row.split ≡ Some work
  pub old : Entry
  pub there : slice_get work.gathered place ≡ Some old
  pub is : e ≡ copy_in_child (grid c) work.leaf old

-- the copy at a place is put into the page after a trim
pub record PutsCopy (page place : ℕ) (e : Entry) (n : Node) (row : ActorRow) (new : Node) (made : ActorRow) : Type 0 where
  pub space : length (without_dead row.floor.updates n.entries) < 32
  pub put_in : new ≡ put_entry row.floor.updates e n
  pub row_is : made ≡ record row { page = page; split = made.split }
  pub count : split_of made.split ≡ copied_to (place + 1) (split_of row.split)

-- the page is full after a trim, and is noted
pub record IsFull (page : ℕ) (n : Node) (row : ActorRow) (new : Node) (made : ActorRow) : Type 0 where
  pub many : item_count (trim_node row.floor.updates n) ≡ 32
  pub trimmed : new ≡ trim_node row.floor.updates n
  pub row_is : made ≡ record row { page = page }

-- where the key of the copy lies in the page: that is full, or takes the copy
abbrev pub TakesCopy : ℕ → ℕ → Entry → Put → Node → ActorRow → Node → ActorRow → Type 0
TakesCopy page place e (put.Down p) n row new made = ⊥
TakesCopy page place e (put.Right p) n row new made = ⊥
TakesCopy page place e put.PageFull n row new made = IsFull page n row new made
TakesCopy page place e put.Done n row new made = PutsCopy page place e n row new made

-- what a copying answers of a page, and what it makes of it and of the row
abbrev pub CopiesRow : Configuration → ℕ → Put → Node → ActorRow → Node → ActorRow → Type 0
CopiesRow c page (put.Down p) n row new made = PointsDown n 0 (copy_key c row (copied_by row)) p × OnlyNotes page n row new made
CopiesRow c page (put.Right p) n row new made = PointsRight n 0 (copy_key c row (copied_by row)) p × OnlyNotes page n row new made
CopiesRow c page put.PageFull n row new made = EndsAfter n 0 (copy_key c row (copied_by row)) × IsFull page n row new made
CopiesRow c page put.Done n row new made = EndsAfter n 0 (copy_key c row (copied_by row)) × (e : Entry) × IsRowCopy c row (copied_by row) e × PutsCopy page (copied_by row) e n row new made

-- the last copy is taken off the page: early, unless it is told that all pages are allotted
pub record TakesBack (page : ℕ) (told : Bool) (e : Entry) (n : Node) (row : ActorRow) (new : Node) (made : ActorRow) : Type 0 where
  pub left : new ≡ drop_entry e.key n
  pub row_is : made ≡ record row { page = page; split = made.split; undone = true; early = cond told row.early true }
  pub count : split_of made.split ≡ copied_to (copied_by row - 1) (split_of row.split)

-- what the taking back of a copy answers of a page, and what it makes of it and of the row
abbrev pub UncopiesRow : Configuration → ℕ → Bool → Put → Node → ActorRow → Node → ActorRow → Type 0
UncopiesRow c page told (put.Down p) n row new made = PointsDown n 0 (copy_key c row (copied_by row - 1)) p × OnlyNotes page n row new made
UncopiesRow c page told (put.Right p) n row new made = PointsRight n 0 (copy_key c row (copied_by row - 1)) p × OnlyNotes page n row new made
UncopiesRow c page told put.PageFull n row new made = ⊥
UncopiesRow c page told put.Done n row new made = EndsAfter n 0 (copy_key c row (copied_by row - 1)) × (e : Entry) × IsRowCopy c row (copied_by row - 1) e × TakesBack page told e n row new made

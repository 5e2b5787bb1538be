-- The keys of a cell, and how far a gather or a sweep of it has come.
use Rattle.std.specs.Prelude.{ℕ, ◌+◌, ◌-◌, ◌==◌, ◌&&◌, List, [], ◌++◌, cond, nat_le, nat_lt, Option, Some, None, is_none}
use Rattle.std.specs.List.{filter}
use Rattle.mi_key.specs.declared.entries.Entry.{Entry}
use Rattle.mi_key.specs.declared.ranges.Interval.{Interval}
use Rattle.mi_key.specs.Clusters.{cluster_of}
use Rattle.mi_key.specs.Keys.{key_of}
use Rattle.mi_key.specs.Ranges.{is_within}
use Rattle.mi_page.specs.Nodes.{Node}
use Rattle.mi_tree.specs.Cells.{Grid}
use Rattle.mi_entries.specs.Actors.{SplitWork, SweepWork}

-- the keys of a cell, and the key above them
abbrev pub cell_start : Grid → List ℕ → ℕ
cell_start g q = key_of (record { cluster = cluster_of g.pivots g.levels q; distance = 0; id = 0; birth = 0 })

abbrev pub cell_end : Grid → List ℕ → ℕ
cell_end g q = key_of (record { cluster = cluster_of g.pivots g.levels q + 1; distance = 0; id = 0; birth = 0 })

abbrev pub cell_range : Grid → List ℕ → Interval
cell_range g q = record { from = cell_start g q; to = cell_end g q - 1 }

-- the mark of one who has read a page: its high key, or past the cell where no page to the right has more of it
abbrev pub mark_past : Option ℕ → ℕ → ℕ
mark_past None last = last
mark_past (Some high) last = cond (nat_lt high last) high last

-- what a page adds to what is gathered of a leaf: the entries without death whose keys lie in the leaf, from the mark on
abbrev pub gathered_in : Grid → SplitWork → Node → List Entry
gathered_in g w n = filter (λ e. is_none e.death && (is_within (cell_range g w.leaf) e.key && nat_le w.mark e.key)) n.entries

-- a split that has gathered a page more
abbrev pub gather_more : Grid → SplitWork → Node → SplitWork
gather_more g w n = record w { gathered = w.gathered ++ gathered_in g w n; mark = mark_past n.high (cell_end g w.leaf) }

-- a split that has gathered nothing yet
abbrev pub begun : Grid → List ℕ → SplitWork
begun g p = record { leaf = p; mark = cell_start g p; gathered = []; copied = 0 }

-- the split under way, or one that has gathered nothing yet
abbrev pub split_or : Grid → List ℕ → Option SplitWork → SplitWork
split_or g p None = begun g p
split_or g p (Some w) = w

-- a sweep ends where no page to the right has more of its leaf
abbrev pub swept_on : Grid → SweepWork → Node → Option SweepWork
swept_on g w n = cond (mark_past n.high (cell_end g w.leaf) == cell_end g w.leaf) None (Some (record w { mark = mark_past n.high (cell_end g w.leaf) }))

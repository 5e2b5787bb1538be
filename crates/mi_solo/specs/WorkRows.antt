-- What an actor's row has of its sweep and its split after a section of these.
use Rattle.std.specs.Prelude.{ℕ, ◌==◌, ◌&&◌, ◌++◌, List, [], Bool, cond, is_none, nat_le, Option, Some, None}
use Rattle.std.specs.List.{filter}
use Rattle.mi_entries.specs.Actors.{SplitWork}
use Rattle.mi_entries.specs.Marks.{mark_past}
use Rattle.mi_key.specs.declared.entries.Entry.{Entry}
use Rattle.mi_key.specs.declared.ranges.Interval.{Interval}
use Rattle.mi_key.specs.Ranges.{is_within}
use Rattle.mi_page.specs.Nodes.{Node}
use Rattle.mi_solo.specs.declared.rows.SplitRow.{SplitRow}
use Rattle.mi_solo.specs.declared.rows.SweepRow.{SweepRow}

-- a sweep up to a key, which at the end of its leaf is over
abbrev pub swept_row : ℕ → ℕ → Option SweepRow → Option SweepRow
swept_row mark end None = None
swept_row mark end (Some w) = cond (mark == end) None (Some (record w { mark = mark }))

-- the split that a row stands for
abbrev pub work_of : SplitRow → SplitWork
work_of w = record { leaf = w.leaf; mark = w.mark; gathered = w.gathered.items; copied = w.copied }

-- the split under way, or one of this leaf that has gathered nothing yet
abbrev pub opened_split : List ℕ → ℕ → Option SplitWork → SplitWork
opened_split leaf first None = record { leaf = leaf; mark = first; gathered = []; copied = 0 }
opened_split leaf first (Some w) = w

-- an entry without death, whose key is among these, from the mark on
abbrev pub is_gathered : Interval → ℕ → Entry → Bool
is_gathered keys mark e = is_none e.death && (is_within keys e.key && nat_le mark e.key)

abbrev pub gathered_from : Interval → ℕ → List Entry → List Entry
gathered_from keys mark entries = filter (is_gathered keys mark) entries

-- what the split has when it has gathered a page more
abbrev pub gathered_work : Interval → ℕ → Node → SplitWork → SplitWork
gathered_work keys end n w = record w { gathered = w.gathered ++ gathered_from keys w.mark n.entries; mark = mark_past n.high end }

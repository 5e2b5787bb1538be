-- Splits under way, and all that holds of entries.
use Rattle.std.specs.Prelude.{◌≡◌, ◌≤◌, ◌<◌, ℕ, ◌+◌, ◌&&◌, List, true, length, map, take, nat_lt, Some, None, slice_get}
use Rattle.std.specs.List.{filter, AllByRecursion}
use Rattle.mi_base.specs.declared.records.LogEvent.{LogEvent}
use Rattle.mi_base.specs.Configuration.{Configuration}
use Rattle.mi_base.specs.Sorting.{SameElements}
use Rattle.mi_key.specs.declared.entries.Entry.{Entry}
use Rattle.mi_tree.specs.Cells.{Grid, is_leaf}
use Rattle.mi_entries.specs.Entries.{HasPlace, Shows, born_in, counts, is_ahead, key_down, under, grid}
use Rattle.mi_entries.specs.Actors.{Actor, SplitWork}

-- the copy of an entry of a leaf in its child
abbrev pub copy_in_child : Grid → List ℕ → Entry → Entry
copy_in_child g leaf e = record { key = key_down g (length leaf + 1) (born_in e); vector = e.vector; dists = e.dists; birth = e.birth; death = None }

-- the split is of a leaf above the greatest depth; what is gathered are the entries that count in it with keys below the mark, in key order;
-- and below it lie the copies of the first of these, and no other entries
pub record IsWork (g : Grid) (log : List LogEvent) (entries : List Entry) (w : SplitWork) : Type 0 where
  pub leaf : is_leaf g log w.leaf ≡ true
  pub above : length w.leaf < g.levels
  pub gathered : w.gathered ≡ filter (λ e. counts g log e && nat_lt e.key w.mark) (under g w.leaf entries)
  pub few : w.copied ≤ length w.gathered
  pub copies : SameElements (filter (is_ahead g log) (under g w.leaf entries)) (map (copy_in_child g w.leaf) (take w.copied w.gathered))

-- the entries of all leaf pages: each has its place, each position from the floor on is shown, and each split stands
pub record AreEntries (c : Configuration) (log : List LogEvent) (floor : ℕ) (actors : List Actor) (retired : List (List ℕ)) (entries : List Entry) : Type 0 where
  pub places : AllByRecursion (HasPlace c log actors retired) entries
  pub shows : (k : ℕ) → floor ≤ k → k ≤ length log → Shows (grid c) (take k log) entries
  pub works : (a : ℕ) (r : Actor) (w : SplitWork) → slice_get actors a ≡ Some r → r.split ≡ Some w → IsWork (grid c) log entries w

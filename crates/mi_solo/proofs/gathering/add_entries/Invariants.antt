use Rattle.std.proofs.Common.{◌≡◌, ◌≤◌, ◌+◌, ◌-◌, ◌++◌, length, take}
use Rattle.std.specs.Vec.{vec_capacity}
use Rattle.mi_page.specs.Nodes.{item_count}
use Rattle.mi_solo.specs.WorkRows.{gathered_from}
use Rattle.mi_solo.proofs.gathering.add_entries.Given as goal

abbrev pub invariant-loop-place : goal.invariant-loop-place
invariant-loop-place l = record {
  kept : l.gathered.items ≡ l.fn.gathered.items ++ gathered_from l.keys l.mark (take l.place l.page.entries);
  room : length l.gathered.items + (item_count l.page - l.place) ≤ vec_capacity l.gathered;
}

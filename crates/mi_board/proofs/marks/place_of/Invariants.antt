use Rattle.std.proofs.Common.{◌<◌, ◌≤◌, ◌-◌, length}
use Rattle.mi_tree.specs.Catalog.{prefixes_of}
use Rattle.mi_tree.proofs.SearchLemmas.{Between}
use Rattle.mi_board.proofs.marks.place_of.Given as goal

-- the leaf stands from low on and below high
abbrev pub invariant-loop-high : goal.invariant-loop-high
invariant-loop-high l = (l.low < l.high) × (l.high ≤ length l.catalog.leaves) × Between (prefixes_of l.catalog.leaves) l.fn.prefix l.low l.high

abbrev pub decreases-loop-high : goal.decreases-loop-high
decreases-loop-high l = l.high - l.low

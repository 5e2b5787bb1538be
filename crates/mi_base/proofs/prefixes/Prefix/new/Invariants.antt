use Rattle.std.proofs.Common.{◌≡◌, take, IsTrue}
use Rattle.mi_base.specs.Prefixes.{all_below, are_different}
use Rattle.mi_base.proofs.prefixes.Prefix.new.Given as goal

-- the items so far are pivots, none twice
abbrev pub invariant-loop-item : goal.invariant-loop-item
invariant-loop-item l = record {
  kept : l.pivots.items ≡ take l.item-index l.items;
  below : IsTrue (all_below 32 (take l.item-index l.items));
  different : IsTrue (are_different (take l.item-index l.items));
}

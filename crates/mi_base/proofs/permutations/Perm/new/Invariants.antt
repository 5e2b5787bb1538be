use Rattle.std.proofs.Common.{◌≡◌, take, length, IsTrue}
use Rattle.mi_base.specs.Prefixes.{all_below, are_different}
use Rattle.mi_base.proofs.permutations.Perm.new.Given as goal

-- the items so far are below the count, none twice
abbrev pub invariant-loop-item : goal.invariant-loop-item
invariant-loop-item l = record {
  kept : l.numbers.items ≡ take l.item-index l.items;
  below : IsTrue (all_below (length l.items) (take l.item-index l.items));
  different : IsTrue (are_different (take l.item-index l.items));
}

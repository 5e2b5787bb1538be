use Rattle.std.proofs.Common.{◌≡◌, take, IsTrue}
use Rattle.mi_base.specs.Vectors.{all_coordinates}
use Rattle.mi_base.proofs.vectors.Vector.new.Given as goal

-- the items so far are coordinates, and are kept
abbrev pub invariant-loop-place : goal.invariant-loop-place
invariant-loop-place l = record {
  kept : l.coordinates.items ≡ take l.place l.items;
  coordinates : IsTrue (all_coordinates (take l.place l.items));
}

use Rattle.std.proofs.Common.{◌≡◌, ◌+◌, drop, length, true}
use Rattle.csv.specs.Records.{fields_of}
use Rattle.mi_base.specs.Vectors.{all_coordinates}
use Rattle.mi_input.specs.Numbers.{whole_in}
use Rattle.mi_input.specs.Records.{read_each}
use Rattle.mi_input.proofs.EachLemmas.{with_front}
use Rattle.mi_input.proofs.vectors.Shape.vector.Given as goal

-- what was read and what is left is what is read from the first field on
abbrev pub invariant-loop-place : goal.invariant-loop-place
invariant-loop-place l = record {
  so_far : with_front l.items.items (read_each (whole_in l.self.lowest l.self.highest) (drop l.place (fields_of l.fields))) ≡ read_each (whole_in l.self.lowest l.self.highest) (drop l.from (fields_of l.fields));
  coordinates : all_coordinates l.items.items ≡ true;
  count : length l.items.items + l.from ≡ l.place;
}

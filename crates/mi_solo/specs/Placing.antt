-- What an entry tells of its object.
use Rattle.mi_base.specs.Permutations.{key_distance, permutation_of}
use Rattle.mi_key.specs.declared.entries.Entry.{Entry}
use Rattle.mi_tree.specs.declared.counts.Placed.{Placed}

-- the permutation and the key distance of its object, by the distances that it has
abbrev pub placed_entry : Entry → Placed
placed_entry e = record { perm = permutation_of e.dists.items; distance = key_distance e.dists.items }

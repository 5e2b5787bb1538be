use Rattle.std.proofs.Common.{◌≤◌, ◌+◌, take}
use Rattle.std.specs.HashMap.{hash_map_len, spare}
use Rattle.mi_shard.specs.Places.{ArePlaces}
use Rattle.mi_shard.proofs.rows.find_places.Given as goal

abbrev pub invariant-loop-place : goal.invariant-loop-place
invariant-loop-place l = record {
  places : ArePlaces (take l.place l.rows) l.places;
  room : hash_map_len l.fn.places + spare l.fn.places ≤ hash_map_len l.places + spare l.places;
}

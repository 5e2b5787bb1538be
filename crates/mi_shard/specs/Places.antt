-- Where the records of a shard stand.
use Rattle.std.specs.Prelude.{◌≡◌, ◌≤◌, ◌+◌, ℕ, List, length, nat_eq, Option, Some, Vec, slice_get, vec_capacity, vec_len}
use Rattle.std.specs.List.{filter_map}
use Rattle.std.specs.HashMap.{HashMap, get, hash_map_len, spare}
use Rattle.mi_entries.specs.Records.{ShardRecord}

-- the records that are there, without the gaps
abbrev pub present : List (Option ShardRecord) → List ShardRecord
present rows = filter_map (λ row. row) rows

-- this record stands at the place
abbrev pub StandsAt : List (Option ShardRecord) → ℕ → ShardRecord → Type 0
StandsAt rows place x = slice_get rows place ≡ Some (Some x)

-- each record is found at its place by its identifier, and nothing else is found
pub record ArePlaces {S : Type 0} (rows : List (Option ShardRecord)) (places : HashMap ℕ ℕ S) : Type 0 where
  pub there : (place : ℕ) (x : ShardRecord) → StandsAt rows place x → get nat_eq places x.id ≡ Some place
  pub only : (id place : ℕ) → get nat_eq places id ≡ Some place → (x : ShardRecord) × StandsAt rows place x × (x.id ≡ id)
  pub count : hash_map_len places ≡ length (present rows)

-- there is room for so many records before memory is wanted: gaps take room too
pub record HasRoom {Z S : Type 0} (rows : Vec (Option ShardRecord) Z) (places : HashMap ℕ ℕ S) (room : ℕ) : Type 0 where
  pub in_rows : room + vec_len rows ≤ vec_capacity rows + hash_map_len places
  pub in_places : room ≤ hash_map_len places + spare places

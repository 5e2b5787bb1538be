-- The records of live objects, in sixteen shards by identifier.
use Rattle.std.specs.Prelude.{◌≡◌, ℕ, ◌==◌, ◌%◌, List, [], ◌∷◌, ◌++◌, not, cond, Option, Some, None, slice_index_or}
use Rattle.std.specs.List.{filter, find}
use Rattle.mi_base.specs.declared.records.LogEvent.{LogEvent}
use Rattle.mi_base.specs.Configuration.{Configuration, space_of}
use Rattle.mi_base.specs.Permutations.{distances}
use Rattle.mi_tree.specs.Births.{Born, living}

-- a live identifier with its birth and its object's distances
pub record ShardRecord : Type 0 where
  pub id : ℕ
  pub birth : ℕ
  pub dists : List ℕ

-- the records of a shard, and its room for records
pub record Rows : Type 0 where
  pub records : List ShardRecord
  pub room : ℕ

-- a shard: who holds it, and its records
pub record Shard : Type 0 where
  pub holder : Option ℕ
  pub rows : Rows

-- a shard that nobody holds, without records
abbrev pub no_shard : Shard
no_shard = record { holder = None; rows = record { records = []; room = 0 } }

-- the shard of a number
abbrev pub shard_at : List Shard → ℕ → Shard
shard_at shards k = slice_index_or shards k no_shard

-- the shard of an identifier
abbrev pub home : ℕ → ℕ
home id = id % 16

-- the record of a live object
abbrev pub record_of : Configuration → Option Born → Option ShardRecord
record_of c None = None
record_of c (Some o) = Some (record { id = o.id; birth = o.birth; dists = distances (space_of c) o.vector })

-- a shard has the records of the live identifiers that are at home in it, and no others
abbrev pub HasRecords : Configuration → List LogEvent → List Shard → ℕ → ℕ → Type 0
HasRecords c log shards k id = find (λ x. x.id == id) (shard_at shards k).rows.records ≡ cond (k == home id) (record_of c (living id log)) None

-- the shard of this holder, or of nobody
abbrev pub held_by : Option ℕ → Rows → Shard
held_by holder x = record { holder = holder; rows = x }

-- one record more
abbrev pub with_record : ShardRecord → Rows → Rows
with_record y x = record x { records = x.records ++ y ∷ [] }

-- all records but that of an identifier
abbrev pub without_id : ℕ → Rows → Rows
without_id id x = record x { records = filter (λ y. not (y.id == id)) x.records }

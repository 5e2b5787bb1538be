-- Keys as numbers, and their parts.
use Rattle.std.specs.Prelude.{ℕ, ◌+◌, ◌*◌, ◌/◌, ◌%◌, ◌^◌, ◌<◌}
use Rattle.std.specs.declared.cmp.Ordering.{Ordering}
use Rattle.std.specs.Ordering.{nat_cmp, ordering_then}
use Rattle.mi_key.specs.declared.keys.KeyParts.{KeyParts}

-- from the high bits: cluster number (31 bits), key distance (27), identifier (40), birth number (30)
unfoldable pub key_of : KeyParts → ℕ
key_of p = p.cluster * 2 ^ 97 + p.distance * 2 ^ 70 + p.id * 2 ^ 30 + p.birth

-- the parts that a key is made of
unfoldable pub parts_of : ℕ → KeyParts
parts_of key = record { cluster = key / 2 ^ 97; distance = key / 2 ^ 70 % 2 ^ 27; id = key / 2 ^ 30 % 2 ^ 40; birth = key % 2 ^ 30 }

-- each part fits its bits
pub record FitKey (p : KeyParts) : Type 0 where
  pub fit_cluster : p.cluster < 2 ^ 31
  pub fit_distance : p.distance < 2 ^ 27
  pub fit_id : p.id < 2 ^ 40
  pub fit_birth : p.birth < 2 ^ 30

-- by cluster, then distance, then identifier, then birth
abbrev pub parts_cmp : KeyParts → KeyParts → Ordering
parts_cmp a b =
    ordering_then (nat_cmp a.cluster b.cluster) (ordering_then (nat_cmp a.distance b.distance) (ordering_then (nat_cmp a.id b.id) (nat_cmp a.birth b.birth)))

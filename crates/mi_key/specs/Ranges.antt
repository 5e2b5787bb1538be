-- Intervals of keys.
use Rattle.std.specs.Prelude.{ℕ, Bool, ◌&&◌, ◌==◌, nat_le}
use Rattle.mi_key.specs.declared.keys.KeyParts.{KeyParts}
use Rattle.mi_key.specs.declared.ranges.Interval.{Interval}

-- the key lies in the interval, whose ends belong to it
abbrev pub is_within : Interval → ℕ → Bool
is_within range key = nat_le range.from key && nat_le key range.to

-- the parts are of this cluster, and the distance is from lo to hi
abbrev pub stands_between : ℕ → ℕ → ℕ → KeyParts → Bool
stands_between cluster lo hi p = (p.cluster == cluster) && (nat_le lo p.distance && nat_le p.distance hi)

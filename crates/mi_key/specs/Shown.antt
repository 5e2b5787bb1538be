-- Objects under their keys.
use Rattle.std.specs.Prelude.{ℕ, List, map, nat_le, nat_lt}
use Rattle.std.specs.declared.cmp.Ordering.{Ordering}
use Rattle.std.specs.List.{filter}
use Rattle.std.specs.Ordering.{nat_cmp}
use Rattle.mi_base.specs.History.{Object}
use Rattle.mi_key.specs.declared.entries.Entry.{Entry}
use Rattle.mi_key.specs.declared.ranges.Interval.{Interval}
use Rattle.mi_key.specs.Entries.{Offering, offering_of}
use Rattle.mi_key.specs.Ranges.{is_within}

-- what is offered of an object, and the key that it stands under
pub record Shown : Type 0 where
  pub key : ℕ
  pub offering : Offering

-- an entry as what it shows
abbrev pub shown_of : Entry → Shown
shown_of e = record { key = e.key; offering = offering_of e }

abbrev pub object_shown : Shown → Object
object_shown s = s.offering.object

abbrev pub offerings : List Shown → List Offering
offerings xs = map (λ s. s.offering) xs

-- those with keys in an interval
abbrev pub within : Interval → List Shown → List Shown
within range xs = filter (λ s. is_within range s.key) xs

-- those with keys below one
abbrev pub below : ℕ → List Shown → List Shown
below high xs = filter (λ s. nat_lt s.key high) xs

-- those with keys from one on
abbrev pub from_on : ℕ → List Shown → List Shown
from_on low xs = filter (λ s. nat_le low s.key) xs

abbrev pub shown_cmp : Shown → Shown → Ordering
shown_cmp a b = nat_cmp a.key b.key

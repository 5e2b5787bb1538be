-- What a sieve is offered of an entry.
use Rattle.std.specs.Prelude.{ℕ, List}
use Rattle.mi_base.specs.History.{Object}
use Rattle.mi_key.specs.declared.entries.Entry.{Entry}
use Rattle.mi_key.specs.Keys.{parts_of}

-- an object with its distances to the pivots
pub record Offering : Type 0 where
  pub object : Object
  pub dists : List ℕ

-- the object that an entry holds: its identifier is the one in its key
abbrev pub object_of : Entry → Object
object_of e = record { id = (parts_of e.key).id; vector = e.vector }

abbrev pub offering_of : Entry → Offering
offering_of e = record { object = object_of e; dists = e.dists.items }

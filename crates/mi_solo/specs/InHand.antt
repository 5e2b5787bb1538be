-- What an actor has in hand.
use Rattle.std.specs.Prelude.{ℕ, List, Option}
use Rattle.mi_entries.specs.Actors.{Owed}

-- the number of its fresh page, and the routes that it owes
pub record InHand : Type 0 where
  pub fresh : Option ℕ
  pub owed : List Owed

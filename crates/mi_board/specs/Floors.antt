-- The least position that is still read, and which splits it has.
use Rattle.std.specs.Prelude.{ℕ, List, [], ◌∷◌, cond, nat_le, Option, Some, None}
use Rattle.mi_base.specs.declared.records.LogEvent.{LogEvent}
use Rattle.mi_base.specs.declared.records.Position.{Position}
use Rattle.mi_base.specs.History.{events_at}
use Rattle.mi_board.specs.declared.actors.ActorState.{ActorState}
use Rattle.mi_tree.specs.Births.{was_split}

-- the earlier of two positions of a log, by how many events they have
abbrev pub earlier : Option Position → Position → Position
earlier None q = q
earlier (Some p) q = cond (nat_le (events_at p) (events_at q)) p q

-- the least pinned position, or this one where nothing is pinned
abbrev pub least_pin : Position → List ActorState → Position
least_pin end [] = end
least_pin end (a ∷ actors) = earlier a.pin (least_pin end actors)

-- the leaf that was split first, where this part of the log has its split
abbrev pub earliest_in : List LogEvent → List (List ℕ) → Option (List ℕ)
earliest_in log [] = None
earliest_in log (p ∷ ps) = cond (was_split p log) (Some p) None

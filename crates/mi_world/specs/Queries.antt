-- What a query reads: the log that is pinned. It changes nothing of its actor's but the pin.
use Rattle.std.specs.Prelude.{◌≡◌, List, IsSome}
use Rattle.mi_base.specs.declared.records.Position.{Position}
use Rattle.mi_base.specs.Configuration.{IsWithinLimits}
use Rattle.mi_base.specs.History.{end_of}
use Rattle.mi_tree.specs.declared.outcomes.Leaf.{Leaf}
use Rattle.mi_tree.specs.Growing.{Grows}
use Rattle.mi_tree.specs.Legal.{LegalLog, cells_of}
use Rattle.mi_world.specs.Pages.{pinned}
use Rattle.mi_world.specs.View.{View, SameActors, SameFlags, SameLeaf, SameSplit, SameSweep, SameUpdate}

-- the log at this position is pinned, is legal, and was seen
pub record Pinned (at : Position) (v : View) : Type 0 where
  pub pin : IsSome v.pin
  pub at_is : at ≡ end_of (pinned v)
  pub seen : Grows (pinned v) v.seen
  pub limits : IsWithinLimits v.settings
  pub legal : LegalLog v.settings (pinned v)

-- the leaves at the pin
abbrev pub pinned_cells : View → List Leaf
pinned_cells v = cells_of v.settings (pinned v)

-- a query changes nothing of its actor's but the pin
pub record SameButPin (v w : View) : Type 0 where
  pub update : SameUpdate v w
  pub leaf : SameLeaf v w
  pub sweep : SameSweep v w
  pub split : SameSplit v w
  pub flags : SameFlags v w
  pub actors : SameActors v w
  pub fresh : w.fresh ≡ v.fresh
  pub owes : w.owes ≡ v.owes

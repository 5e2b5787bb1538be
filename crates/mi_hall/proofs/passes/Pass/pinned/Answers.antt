use Rattle.std.proofs.Common.{◌∙◌}
use Rattle.mi_hall.proofs.PinnedCall.{pin_row_there, pinned_is}
use Rattle.mi_hall.proofs.passes.Pass.pinned.Goals as goal

pub unreachable-requires : goal.unreachable-requires
unreachable-requires c = pin_row_there _ _ _ _ _ c.self.invariant.0 c.self.invariant.2 _ _ c.self.view_is c.requires c.in_default.is

pub returns : goal.returns
returns c = c.deref.ensures ∙ pinned_is _ _ _ _ _ c.self.invariant.0 c.self.invariant.2 _ _ c.self.view_is c.requires c.in-Some.pin c.in-Some.is

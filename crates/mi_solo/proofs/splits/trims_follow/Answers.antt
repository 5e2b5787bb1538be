use Rattle.mi_solo.proofs.SweepEvents.{trims_on}
use Rattle.mi_solo.proofs.splits.trims_follow.Goals as goal

pub returns : goal.returns
returns c = trims_on

use Rattle.std.proofs.Common.{ap}
use Rattle.mi_entries.specs.Actors.{Actor}
use Rattle.mi_hall.proofs.family_calls.made_row.Goals as goal

pub returns : goal.returns
returns c settings a = ap (λ (r : Actor). record r { seen = c.args.maker.now.seen; floor = c.args.maker.now.floor }) (c.first-row.ensures settings a)

use Rattle.mi_update.proofs.DeleteLemmas.{delete_small}
use Rattle.mi_update.proofs.laws.deletes_are_short.Goals as goal

pub returns : goal.returns
returns c = delete_small

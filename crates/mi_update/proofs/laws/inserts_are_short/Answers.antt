use Rattle.mi_update.proofs.InsertLemmas.{insert_small}
use Rattle.mi_update.proofs.laws.inserts_are_short.Goals as goal

pub returns : goal.returns
returns c = insert_small

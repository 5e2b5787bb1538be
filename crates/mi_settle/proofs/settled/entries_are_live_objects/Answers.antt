use Rattle.mi_settle.proofs.EntriesLemmas.{enough, exact}
use Rattle.mi_settle.proofs.settled.entries_are_live_objects.Goals as goal

pub returns-clause-least : goal.returns-clause-least
returns-clause-least c = λ s k. enough s k.sound

pub returns-clause-exact : goal.returns-clause-exact
returns-clause-exact c = λ s k swept sweeps splits. exact s k.sound swept sweeps splits

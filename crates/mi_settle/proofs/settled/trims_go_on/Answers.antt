use Rattle.mi_settle.proofs.EntriesLemmasTrim.{trimmed_first, trimmed_last, trims_fewer, trims_next}
use Rattle.mi_settle.proofs.settled.trims_go_on.Goals as goal

pub returns-clause-first : goal.returns-clause-first
returns-clause-first c = λ s k. trimmed_first s k.sound

pub returns-clause-next : goal.returns-clause-next
returns-clause-next c = λ s t k. trims_next s k.sound t

pub returns-clause-fewer : goal.returns-clause-fewer
returns-clause-fewer c = λ s t k. trims_fewer s k.sound t

pub returns-clause-last : goal.returns-clause-last
returns-clause-last c = trimmed_last

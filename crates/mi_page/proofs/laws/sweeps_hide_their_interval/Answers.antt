use Rattle.mi_page.proofs.LawLemmas.{sweep_hides, sweep_keeps}
use Rattle.mi_page.proofs.laws.sweeps_hide_their_interval.Goals as goal

pub returns-clause-own : goal.returns-clause-own
returns-clause-own c = sweep_hides

pub returns-clause-other : goal.returns-clause-other
returns-clause-other c = sweep_keeps

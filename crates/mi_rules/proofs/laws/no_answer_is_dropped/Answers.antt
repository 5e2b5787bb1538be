use Rattle.mi_rules.proofs.RuleLemmas.{answer_bound, answer_filters, answer_near_all, answer_passes, answer_spans}
use Rattle.mi_rules.proofs.laws.no_answer_is_dropped.Goals as goal

pub returns-clause-filter : goal.returns-clause-filter
returns-clause-filter c = answer_filters

pub returns-clause-leaf : goal.returns-clause-leaf
returns-clause-leaf c = answer_passes

pub returns-clause-key : goal.returns-clause-key
returns-clause-key c = answer_spans

pub returns-clause-bound : goal.returns-clause-bound
returns-clause-bound c = answer_bound

pub returns-clause-near : goal.returns-clause-near
returns-clause-near c = answer_near_all

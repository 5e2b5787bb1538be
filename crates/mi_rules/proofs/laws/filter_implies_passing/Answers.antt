use Rattle.std.proofs.Common.{◌<◌, ◌^◌, subst}
use Rattle.mi_rules.proofs.RuleLemmas.{filter_passes, filter_spans}
use Rattle.mi_rules.proofs.CandidateLemmas.{candidates_are}
use Rattle.mi_rules.proofs.laws.filter_implies_passing.Goals as goal

pub returns-clause-leaf : goal.returns-clause-leaf
returns-clause-leaf c = λ dq dists r e f leaf h. filter_passes dq dists r leaf e f h.begun h.covered

pub returns-clause-candidates : goal.returns-clause-candidates
returns-clause-candidates c = candidates_are

pub returns-clause-key : goal.returns-clause-key
returns-clause-key c = λ dq dists r e f leaf h empty levels key cluster distance small.
    filter_spans dq dists r levels leaf.prefix key e f h.begun empty (subst (λ d. d < 2 ^ 27) distance small) cluster distance

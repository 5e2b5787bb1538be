use Rattle.mi_solo.proofs.OthersLemmas.{event_is_others}
use Rattle.mi_solo.proofs.OwnLemmas.{event_later}
use Rattle.mi_solo.proofs.views.views_go_on.Goals as goal

pub returns-clause-own : goal.returns-clause-own
returns-clause-own c = event_later

pub returns-clause-others : goal.returns-clause-others
returns-clause-others c = event_is_others

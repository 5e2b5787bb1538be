use Rattle.mi_solo.proofs.RouteEvents.{can_grow, grown_already}
use Rattle.mi_solo.proofs.RouteLaws.{roots_grow, roots_stay}
use Rattle.mi_solo.proofs.pages.roots_follow.Goals as goal

pub returns-clause-grown : goal.returns-clause-grown
returns-clause-grown c = roots_grow

pub returns-clause-same : goal.returns-clause-same
returns-clause-same c = roots_stay

pub returns-clause-event : goal.returns-clause-event
returns-clause-event c = λ s a r level key child fresh i. can_grow s a r level key child i fresh

pub returns-clause-already : goal.returns-clause-already
returns-clause-already c = λ s k a r level key child i. grown_already s a r level key child i k

use Rattle.mi_solo.proofs.ClaimEvents.{claims_leaf, claims_held, releases_leaf}
use Rattle.mi_solo.proofs.boards.claims_follow.Goals as goal

pub returns-clause-taken : goal.returns-clause-taken
returns-clause-taken c = claims_leaf

pub returns-clause-held : goal.returns-clause-held
returns-clause-held c = claims_held

pub returns-clause-released : goal.returns-clause-released
returns-clause-released c = releases_leaf

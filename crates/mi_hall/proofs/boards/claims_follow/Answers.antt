use Rattle.mi_hall.proofs.BoardPlaces.{claims_leaf_seated, claims_held_seated, releases_leaf_seated}
use Rattle.mi_hall.proofs.boards.claims_follow.Goals as goal

pub returns-clause-taken : goal.returns-clause-taken
returns-clause-taken c = claims_leaf_seated

pub returns-clause-held : goal.returns-clause-held
returns-clause-held c = claims_held_seated

pub returns-clause-released : goal.returns-clause-released
returns-clause-released c = releases_leaf_seated

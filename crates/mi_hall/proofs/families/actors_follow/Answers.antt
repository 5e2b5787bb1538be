use Rattle.mi_hall.proofs.FamilyPlaces.{forks_seated, not_forks_seated, absorbs_seated}
use Rattle.mi_hall.proofs.families.actors_follow.Goals as goal

pub returns-clause-forked : goal.returns-clause-forked
returns-clause-forked c = forks_seated

pub returns-clause-not_forked : goal.returns-clause-not_forked
returns-clause-not_forked c = not_forks_seated

pub returns-clause-absorbed : goal.returns-clause-absorbed
returns-clause-absorbed c = absorbs_seated

use Rattle.mi_hall.proofs.SeatConditions.{seat_backed, knows_backed}
use Rattle.mi_hall.proofs.seats.seats_are_shown.Goals as goal

pub returns-clause-view : goal.returns-clause-view
returns-clause-view c = seat_backed

pub returns-clause-knows : goal.returns-clause-knows
returns-clause-knows c = knows_backed

use Rattle.mi_call.proofs.choosing.choice_of.Given as goal

abbrev pub ghosts-choose_with : goal.ghosts-choose_with
ghosts-choose_with g a = record { name = a.blank.name; parts = a.blank.parts }

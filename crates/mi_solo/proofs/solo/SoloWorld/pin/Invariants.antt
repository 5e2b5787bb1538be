use Rattle.mi_solo.proofs.solo.SoloWorld.pin.Given as goal

abbrev pub ghosts-pin : goal.ghosts-pin
ghosts-pin a = record { name = a.blank.name; parts = a.blank.parts }

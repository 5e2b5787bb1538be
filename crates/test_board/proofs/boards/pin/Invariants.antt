use Rattle.test_board.proofs.boards.pin.Given as goal

abbrev pub ghosts-pin : goal.ghosts-pin
ghosts-pin g a = record { name = a.blank.name; parts = a.blank.parts }

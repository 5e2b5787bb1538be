use Rattle.test_board.proofs.conditions.placed_at.Given as goal

abbrev pub ghosts-place : goal.ghosts-place
ghosts-place g a = record { name = a.blank.name; parts = a.blank.parts }

use Rattle.mi_latch.proofs.table.LatchTable.learn.Given as goal

abbrev pub ghosts-load_board_word : goal.ghosts-load_board_word
ghosts-load_board_word a = record { settings = a.self.now.table.shared.key }

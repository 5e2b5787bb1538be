use Rattle.mi_latch.proofs.table.LatchTable.take_page.Given as goal

abbrev pub ghosts-take_slot : goal.ghosts-take_slot
ghosts-take_slot g a = record { settings = a.self.now.table.shared.key }

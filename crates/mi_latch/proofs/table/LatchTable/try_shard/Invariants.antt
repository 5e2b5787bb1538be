use Rattle.mi_latch.proofs.table.LatchTable.try_shard.Given as goal

abbrev pub ghosts-try_rows : goal.ghosts-try_rows
ghosts-try_rows a = record { settings = a.self.now.table.shared.key; shard = a.shard }

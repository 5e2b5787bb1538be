-- The numbers of the statuses.
use Rattle.std.specs.Prelude.{ℕ}
use Rattle.mi_call.specs.declared.statuses.Status.{Status}
use Rattle.mi_call.specs.declared.statuses.Status.TheVariants.{Done, Usage, BadSettings, BadFile, Unread, Unwritten, Short, NoMemory}

abbrev pub status_number : Status → ℕ
status_number Done = 0
status_number Usage = 1
status_number BadSettings = 2
status_number BadFile = 3
status_number Unread = 4
status_number Unwritten = 5
status_number Short = 6
status_number NoMemory = 7

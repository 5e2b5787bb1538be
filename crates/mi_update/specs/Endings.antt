-- What an ending of an update tells.
use Rattle.std.specs.Prelude.{◌≡◌, ◌≤◌, ℕ, List, Option, Some, None, IsTrue, length}
use Rattle.mi_base.specs.declared.records.LogEvent.{LogEvent}
use Rattle.mi_base.specs.declared.records.Op.{Op}
use Rattle.mi_base.specs.declared.records.Reply.{Reply}
use Rattle.mi_base.specs.declared.records.Reply.TheVariants as reply
use Rattle.mi_base.specs.History.{events_at, updates_of}
use Rattle.mi_legal.specs.Legal.{events_to}
use Rattle.mi_legal.specs.Right.{Right}
use Rattle.mi_world.specs.View.{View}
use Rattle.mi_update.specs.declared.endings.Ending.{Ending}
use Rattle.mi_update.specs.declared.endings.Ending.TheVariants.{Stored, Removed, Present, Absent, Full, NoPages, Memory}

abbrev pub reply_of : Ending → Reply
reply_of (Stored number) = reply.Stored number
reply_of (Removed number) = reply.Removed number
reply_of (Present at) = reply.Present at
reply_of (Absent at) = reply.Absent at
reply_of (Full limit) = reply.Full limit
reply_of (NoPages limit) = reply.NoPages limit
reply_of Memory = reply.Memory

-- the number of the update that was entered
abbrev pub number_of : Ending → Option ℕ
number_of (Stored n) = Some n
number_of (Removed n) = Some n
number_of (Present p) = None
number_of (Absent p) = None
number_of (Full limit) = None
number_of (NoPages limit) = None
number_of Memory = None

-- how many events the reply's position has, or the log where it has none
abbrev pub events_of : Ending → List LogEvent → ℕ
events_of (Stored n) log = events_to n log
events_of (Removed n) log = events_to n log
events_of (Present p) log = events_at p
events_of (Absent p) log = events_at p
events_of (Full limit) log = length log
events_of (NoPages limit) log = length log
events_of Memory log = length log

-- The reply is right in the log seen, if no fewer pages are allotted than there may be where the actor was told so.
abbrev pub IsRight : Op → ℕ → View → Reply → Type 0
IsRight asked op v y = (allotted : ℕ) → (IsTrue v.told → allotted ≡ v.settings.pages) → Right v.settings v.seen allotted v.actor op asked y

-- an ending is known whose reply is right, and stays so as the log goes on
pub record Answered (asked : Op) (op : ℕ) (v : View) (e : Ending) : Type 0 where
  pub right : IsRight asked op v (reply_of e)
  pub few : length (updates_of v.seen) ≤ v.settings.updates

-- Which answers are missing for want of memory.
use Rattle.std.specs.Prelude.{Bool, true, false, List}
use Rattle.std.specs.List.{list_any}
use Rattle.mi_base.specs.declared.records.Reply.{Reply}
use Rattle.mi_base.specs.declared.records.Reply.TheVariants.{Stored, Removed, Present, Absent, Full, NoPages, Memory, Range, Nearest}

abbrev pub is_memory : Reply → Bool
is_memory (Stored n) = false
is_memory (Removed n) = false
is_memory (Present p) = false
is_memory (Absent p) = false
is_memory (Full limit) = false
is_memory (NoPages limit) = false
is_memory Memory = true
is_memory (Range p rows cells distances) = false
is_memory (Nearest p rows cells) = false

-- an answer is missing for want of memory
abbrev pub has_memory : List (List Reply) → Bool
has_memory replies = list_any (λ ys. list_any is_memory ys) replies

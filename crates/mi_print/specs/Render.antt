-- The text of an outcome.
use Rattle.std.specs.Prelude.{ℕ, ◌+◌, ◌-◌, List, [], ◌∷◌, ◌++◌, length, map, codes, decimal}
use Rattle.std.specs.Fmt.{signed_decimal}
use Rattle.std.specs.List.{flat_map}
use Rattle.mi_base.specs.declared.records.Update.TheVariants as update
use Rattle.mi_base.specs.declared.records.LogEvent.{LogEvent}
use Rattle.mi_base.specs.declared.records.LogEvent.TheVariants as event
use Rattle.mi_base.specs.declared.records.Reply.{Reply}
use Rattle.mi_base.specs.declared.records.Reply.TheVariants.{Stored, Removed, Present, Absent, Full, NoPages, Memory, Range, Nearest}
use Rattle.mi_base.specs.declared.records.Row.{Row}
use Rattle.mi_base.specs.Configuration.{Configuration}
use Rattle.mi_base.specs.History.{updates_of}
use Rattle.mi_tree.specs.declared.outcomes.Leaf.{Leaf}
use Rattle.mi_tree.specs.Legal.{cells_of}

-- each field after a comma
abbrev pub after_commas : List (List ℕ) → List ℕ
after_commas fields = flat_map (λ field. 44 ∷ field) fields

-- a first field, the others after commas, and a line feed
abbrev pub line : List ℕ → List (List ℕ) → List ℕ
line first others = first ++ after_commas others ++ 10 ∷ []

-- a word and numbers
abbrev pub number_line : List ℕ → List ℕ → List ℕ
number_line word numbers = line word (map decimal numbers)

abbrev pub row_line : Row → List ℕ
row_line row = number_line (decimal row.distance) (row.id ∷ [])

abbrev pub row_lines : List Row → List ℕ
row_lines rows = flat_map row_line rows

abbrev pub reply_lines : Reply → List ℕ
reply_lines (Stored n) = number_line (codes "stored") (n ∷ [])
reply_lines (Removed n) = number_line (codes "removed") (n ∷ [])
reply_lines (Present p) = number_line (codes "present") (p.updates ∷ p.splits ∷ [])
reply_lines (Absent p) = number_line (codes "absent") (p.updates ∷ p.splits ∷ [])
reply_lines (Full limit) = number_line (codes "full") (limit ∷ [])
reply_lines (NoPages limit) = number_line (codes "nopages") (limit ∷ [])
reply_lines Memory = number_line (codes "memory") []
reply_lines (Range p rows cells distances) =
    number_line (codes "range") (p.updates ∷ p.splits ∷ length rows ∷ cells ∷ distances ∷ []) ++ row_lines rows
reply_lines (Nearest p rows cells) = number_line (codes "nearest") (p.updates ∷ p.splits ∷ length rows ∷ cells ∷ []) ++ row_lines rows

-- each session's number and its replies, from this session on
abbrev pub session_lines : ℕ → List (List Reply) → List ℕ
session_lines session [] = []
session_lines session (replies ∷ others) =
    (number_line (codes "session") (session ∷ []) ++ flat_map reply_lines replies) ++ session_lines (session + 1) others

-- the pivots with points between them, and a dash where there are none
abbrev pub prefix_text : List ℕ → List ℕ
prefix_text [] = codes "-"
prefix_text (p ∷ ps) = decimal p ++ flat_map (λ q. 46 ∷ decimal q) ps

abbrev pub event_line : LogEvent → List ℕ
event_line (event.Update session op (update.Insert id vector)) =
    line (codes "insert") (decimal session ∷ decimal op ∷ decimal id ∷ map signed_decimal vector)
event_line (event.Update session op (update.Delete id)) = number_line (codes "delete") (session ∷ op ∷ id ∷ [])
event_line (event.Split prefix) = line (codes "split") (prefix_text prefix ∷ [])

abbrev pub history_lines : List LogEvent → List ℕ
history_lines log =
    number_line (codes "history") (length (updates_of log) ∷ (length log - length (updates_of log)) ∷ []) ++ flat_map event_line log

abbrev pub leaf_line : Leaf → List ℕ
leaf_line leaf = number_line (prefix_text leaf.prefix) (leaf.count ∷ [])

abbrev pub cell_lines : List Leaf → List ℕ
cell_lines cells = number_line (codes "cells") (length cells ∷ []) ++ flat_map leaf_line cells

-- the replies, the history, the cells, and the counts of entries and pages
abbrev pub transcript : List (List Reply) → List LogEvent → List Leaf → ℕ → ℕ → ℕ → List ℕ
transcript replies log cells entries allotted limit =
    session_lines 0 replies ++ (history_lines log ++ (cell_lines cells
    ++ (number_line (codes "entries") (entries ∷ []) ++ number_line (codes "pages") (allotted ∷ limit ∷ []))))

-- the transcript of replies and a log, with the cells after it, that have so many entries and pages
abbrev pub rendering : Configuration → List (List Reply) → List LogEvent → ℕ → ℕ → List ℕ
rendering c replies log entries allotted = transcript replies log (cells_of c log) entries allotted c.pages

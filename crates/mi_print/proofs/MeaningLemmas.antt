-- One text has one meaning: a transcript is told from its front, part by part.
use Rattle.std.proofs.Common.{◌≡◌, ℕ, ◌-◌, List, [], ◌∷◌, ◌++◌, length, map, refl, sym, ap, ◌∙◌, append_assoc, append-nil}
use Rattle.std.specs.Prelude.{codes}
use Rattle.std.specs.List.{flat_map, AllByRecursion}
use Rattle.std.proofs.lemmas.List.Folds.{flat_map-map}
use Rattle.mi_base.specs.declared.records.LogEvent.{LogEvent}
use Rattle.mi_base.specs.History.{updates_of}
use Rattle.mi_tree.specs.declared.outcomes.Leaf.{Leaf}
use Rattle.mi_tree.specs.declared.outcomes.Outcome.{Outcome}
use Rattle.mi_print.specs.Render.{number_line, session_lines, event_line, leaf_line, cell_lines}
use Rattle.mi_print.specs.Meaning.{AreNumbers, IsPrintableEvent, IsPrintableLeaf, IsPrintableReply, cell_of, text_of, OneMeaning}
use Rattle.mi_print.proofs.LineLemmas.{after_line, number_line_same}
use Rattle.mi_print.proofs.RunLemmas.{ended}
use Rattle.mi_print.proofs.ReplyLemmas.{after_sessions, sessions_same}
use Rattle.mi_print.proofs.EventLemmas.{event_tells, cells_begin_none, entries_begin_none, IsPrintableCell, cell_line, cell_tells}

-- the numbers of updates and splits
abbrev history_counts : List LogEvent → List ℕ
history_counts log = length (updates_of log) ∷ (length log - length (updates_of log)) ∷ []

-- the number of cells, and what follows
abbrev cells_part : ℕ → List ℕ → List ℕ
cells_part count a = number_line (codes "cells") (count ∷ []) ++ a

-- the number of entries, and what follows
abbrev entries_part : ℕ → List ℕ → List ℕ
entries_part entries a = number_line (codes "entries") (entries ∷ []) ++ a

-- the history is told up to the cells
history_same : (l m : List LogEvent) (n k : ℕ) (a b : List ℕ) → AllByRecursion IsPrintableEvent l → AllByRecursion IsPrintableEvent m
    → after_sessions (history_counts l) (flat_map event_line l ++ cells_part n a) ≡ after_sessions (history_counts m) (flat_map event_line m ++ cells_part k b) → (l ≡ m) × (cells_part n a ≡ cells_part k b)
history_same l m n k a b gl gm e =
    ended IsPrintableEvent event_line event_tells l m (cells_part n a) (cells_part k b) gl gm (cells_begin_none (n ∷ []) a) (cells_begin_none (k ∷ []) b)
    (after_line (codes "history") (codes "history") (history_counts l) (history_counts m) (flat_map event_line l ++ cells_part n a) (flat_map event_line m ++ cells_part k b) refl refl e)

cells_of : (xs : List Leaf) → flat_map leaf_line xs ≡ flat_map cell_line (map cell_of xs)
cells_of xs = sym (flat_map-map cell_line cell_of xs)

cells_good : (xs : List Leaf) → AllByRecursion IsPrintableLeaf xs → AllByRecursion IsPrintableCell (map cell_of xs)
cells_good [] h = tt
cells_good (x ∷ xs) h = (h.0, cells_good xs h.1)

-- the cells are told up to the entries
cells_same : (xs ys : List Leaf) (n k : ℕ) (a b : List ℕ) → AllByRecursion IsPrintableLeaf xs → AllByRecursion IsPrintableLeaf ys
    → cells_part (length xs) (flat_map leaf_line xs ++ entries_part n a) ≡ cells_part (length ys) (flat_map leaf_line ys ++ entries_part k b) → (map cell_of xs ≡ map cell_of ys) × (entries_part n a ≡ entries_part k b)
cells_same xs ys n k a b gx gy e =
    let rest = after_line (codes "cells") (codes "cells") (length xs ∷ []) (length ys ∷ []) (flat_map leaf_line xs ++ entries_part n a) (flat_map leaf_line ys ++ entries_part k b) refl refl e in
    ended IsPrintableCell cell_line cell_tells (map cell_of xs) (map cell_of ys) (entries_part n a) (entries_part k b) (cells_good xs gx) (cells_good ys gy)
    (entries_begin_none (n ∷ []) a) (entries_begin_none (k ∷ []) b) (sym (ap (λ t. t ++ entries_part n a) (cells_of xs)) ∙ rest ∙ ap (λ t. t ++ entries_part k b) (cells_of ys))

-- the lines of entries and pages
abbrev totals : ℕ → ℕ → ℕ → List ℕ
totals entries allotted limit = entries_part entries (number_line (codes "pages") (allotted ∷ limit ∷ []))

record SameTotals (d a l e b m : ℕ) : Type 0 where
  pub entries : d ≡ e
  pub allotted : a ≡ b
  pub limit : l ≡ m

totals_same : (d a l e b m : ℕ) → AreNumbers (d ∷ a ∷ l ∷ []) → AreNumbers (e ∷ b ∷ m ∷ []) → totals d a l ≡ totals e b m → SameTotals d a l e b m
totals_same d a l e b m gx gy same =
    let first = number_line_same (codes "entries") (codes "entries") (d ∷ []) (e ∷ []) (number_line (codes "pages") (a ∷ l ∷ [])) (number_line (codes "pages") (b ∷ m ∷ [])) refl refl (gx.0, tt) (gy.0, tt) same in
    let second = number_line_same (codes "pages") (codes "pages") (a ∷ l ∷ []) (b ∷ m ∷ []) [] [] refl refl gx.1 gy.1
    (append-nil (number_line (codes "pages") (a ∷ l ∷ [])) ∙ first.2 ∙ sym (append-nil (number_line (codes "pages") (b ∷ m ∷ [])))) in
    let entries : d ∷ [] ≡ e ∷ [] = first.1 in
    let pages : a ∷ l ∷ [] ≡ b ∷ m ∷ [] = second.1 in
    record { entries = cc; allotted = cc; limit = cc }

-- what follows the number of cells
abbrev leaf_lines : Outcome → List ℕ
leaf_lines o = flat_map leaf_line o.cells ++ totals o.entries o.allotted o.limit

-- what follows the numbers of updates and splits
abbrev event_lines : Outcome → List ℕ
event_lines o = flat_map event_line o.log ++ cells_part (length o.cells) (leaf_lines o)

abbrev pages_line : Outcome → List ℕ
pages_line o = number_line (codes "pages") (o.allotted ∷ o.limit ∷ [])

-- the parts of a transcript, each in front of the rest
parts : (o : Outcome) → text_of o ≡ session_lines 0 o.replies ++ after_sessions (history_counts o.log) (event_lines o)
parts o = ap (λ t. session_lines 0 o.replies ++ t)
    (append_assoc (number_line (codes "history") (history_counts o.log)) (flat_map event_line o.log) (cell_lines o.cells ++ totals o.entries o.allotted o.limit)
    ∙ ap (λ t. after_sessions (history_counts o.log) (flat_map event_line o.log ++ t))
    (append_assoc (number_line (codes "cells") (length o.cells ∷ [])) (flat_map leaf_line o.cells) (totals o.entries o.allotted o.limit)))

-- the replies and the log are told, whatever the cells and the totals are
pub history_told : (a b : Outcome) → AllByRecursion (λ session. AllByRecursion IsPrintableReply session) a.replies → AllByRecursion (λ session. AllByRecursion IsPrintableReply session) b.replies
    → AllByRecursion IsPrintableEvent a.log → AllByRecursion IsPrintableEvent b.log → text_of a ≡ text_of b
    → (a.replies ≡ b.replies) × (a.log ≡ b.log) × (cells_part (length a.cells) (leaf_lines a) ≡ cells_part (length b.cells) (leaf_lines b))
history_told a b replies_a replies_b log_a log_b e =
    let sessions = sessions_same 0 a.replies b.replies (history_counts a.log) (history_counts b.log) (event_lines a) (event_lines b) replies_a replies_b
    (sym (parts a) ∙ e ∙ parts b) in
    let history = history_same a.log b.log (length a.cells) (length b.cells) (leaf_lines a) (leaf_lines b) log_a log_b sessions.1 in
    (sessions.0, history.0, history.1)

pub one_meaning : OneMeaning
one_meaning a b ga gb e =
    let told = history_told a b ga.replies gb.replies ga.log gb.log e in
    let cells = cells_same a.cells b.cells a.entries b.entries (pages_line a) (pages_line b) ga.cells gb.cells told.2 in
    let rest = totals_same a.entries a.allotted a.limit b.entries b.allotted b.limit ga.totals gb.totals cells.1 in
    record { replies = told.0; log = told.1; cells = cells.0; entries = rest.entries; allotted = rest.allotted; limit = rest.limit }

-- What a seat may note of the value that it gives back: what it gives, and nothing else.
use Rattle.std.specs.Prelude.{◌≡◌, ◌⊎◌, ℕ}
use Rattle.mi_latch.specs.declared.slots.Slot.{Slot}
use Rattle.mi_latch.specs.declared.slots.Slot.TheVariants.{OfBoard, OfPage, OfShard, Vacant}
use Rattle.mi_latch.specs.PageSteps.{items_for}
use Rattle.mi_latch.specs.Shows.{Has}
use Rattle.mi_latch.specs.Views.{Sight}
use Rattle.mi_page.specs.Nodes.{Node}

-- the page noted is as before, or is one that is still out beside the board
abbrev pub NotesPage : Sight → Sight → Type 0
NotesPage v w = ((w.mine.note.high ≡ v.mine.note.high) × (w.mine.note.items ≡ v.mine.note.items))
    ⊎ ((i : ℕ) × (n : Node) × Has w.out i (OfPage n) × (w.mine.note.high ≡ n.high) × (w.mine.note.items ≡ items_for w.mine.part n))

-- what it knows of log and board, and of its latest page, is as before
abbrev pub NotesNothing : Sight → Sight → Type 0
NotesNothing v w = (w.mine.log ≡ v.mine.log) × (w.mine.note ≡ v.mine.note)

-- The seat notes the value that it gives back. Of the board it has seen the whole log.
abbrev pub NotesValue : Sight → Slot → Sight → Type 0
NotesValue v (OfBoard b) w = (w.mine.log ≡ b.log) × (w.mine.note.board ≡ b) × NotesPage v w
NotesValue v (OfPage n) w = (w.mine.log ≡ v.mine.log) × (w.mine.note ≡ record { board = v.mine.note.board; high = n.high; items = items_for w.mine.part n })
NotesValue v (OfShard rows) w = NotesNothing v w
NotesValue v Vacant w = NotesNothing v w

-- The seat notes the value that it gives back, or knows what it knew.
abbrev pub Notes : Sight → Slot → Sight → Type 0
Notes v x w = (w.mine ≡ v.mine) ⊎ NotesValue v x w

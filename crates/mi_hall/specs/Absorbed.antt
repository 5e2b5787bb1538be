-- What is kept in code of actors that were absorbed.
use Rattle.std.specs.Prelude.{◌≡◌, ℕ, ◌+◌, List, [], ◌∷◌, max, true, false, slice_set}
use Rattle.mi_latch.specs.Views.{Mine}
use Rattle.mi_solo.specs.declared.rows.ActorRow.{ActorRow}
use Rattle.mi_hall.specs.declared.absorbed.Gone.{Gone}
use Rattle.mi_hall.specs.Passes.{row_actor}

-- these have the rows of actors that were absorbed, in their order
abbrev pub AreGone : List (ℕ × Mine) → List Gone → Type 0
AreGone [] [] = Unit {0}
AreGone [] (g ∷ gone) = ⊥
AreGone (x ∷ absorbed) [] = ⊥
AreGone (x ∷ absorbed) (g ∷ gone) = (g.actor ≡ x.0) × (x.1.part ≡ row_actor x.1.note.board.settings x.1.part g.row) × AreGone absorbed gone

-- a spare place, and then these rows
abbrev pub HasGone : List (ℕ × Mine) → List Gone → Type 0
HasGone absorbed [] = ⊥
HasGone absorbed (own ∷ gone) = (own.actor ≡ 0) × AreGone absorbed gone

-- a spare place alone
abbrev pub IsSpare : List Gone → Type 0
IsSpare gone = HasGone [] gone

-- the row of an actor that has ended
abbrev pub ended_row : ActorRow → ActorRow
ended_row r = record r { hand = record r.hand { owed = [] }; reserved_here = false; undone = false; early = false; ended = true }

-- one more than the greatest of their numbers, or so many as there were
abbrev pub most : ℕ → List Gone → ℕ
most n [] = n
most n (g ∷ gone) = most (max n (g.actor + 1)) gone

-- each row in the place of its actor
abbrev pub placed : List Gone → List ActorRow → List ActorRow
placed [] rows = rows
placed (g ∷ gone) rows = placed gone (slice_set rows g.actor g.row)

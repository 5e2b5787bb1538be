-- What a seat knows after it let go of its shard, and what a reservation makes of what is in hand.
use Rattle.std.specs.Prelude.{◌≡◌, ℕ, ◌+◌, List, [], ◌∷◌, true, Option, Some, None, Result, Ok, Err, length}
use Rattle.atomic_table.specs.Table.{rest}
use Rattle.mi_board.specs.Boards.{BoardState, floor_of}
use Rattle.mi_entries.specs.Records.{Rows}
use Rattle.mi_latch.specs.declared.slots.Slot.{Slot}
use Rattle.mi_latch.specs.declared.slots.Slot.TheVariants.{OfShard}
use Rattle.mi_latch.specs.Takes.{released}
use Rattle.mi_latch.specs.Views.{Sight}
use Rattle.mi_solo.specs.declared.rows.ActorRow.{ActorRow}
use Rattle.mi_solo.specs.Sections.{PromisesRows}
use Rattle.mi_tree.specs.declared.answers.Look.{Look}
use Rattle.mi_tree.specs.declared.answers.ReserveRefusal.{ReserveRefusal}
use Rattle.mi_hall.specs.Places.{gives_shard}

-- the seat after it gave its shard back
abbrev pub releasing : Sight → Sight
releasing v = gives_shard v (released v.mine.part) (rest v.out)

-- the rows of the shard that is held are out, and nothing else
abbrev pub holding : Option ℕ → Rows → List (ℕ × Slot)
holding None x = []
holding (Some k) x = (k + 1, OfShard x) ∷ []

-- what a reservation makes of the board, of the rows in hand and of its actor's row, or its refusal
abbrev pub ReservesRow : ℕ → BoardState → Rows → ActorRow → Result Look ReserveRefusal → BoardState → Rows → ActorRow → Type 0
ReservesRow a b x row (Ok look) board left made =
    PromisesRows b x a (Ok look) board left × (made ≡ record row { seen = length board.log; floor = floor_of b; reserved = true; reserved_here = true })
ReservesRow a b x row (Err why) board left made = PromisesRows b x a (Err why) board left × (made ≡ record row { seen = length board.log })

-- What a call for a higher root makes of the board, of its actor's row and of the fresh page.
use Rattle.std.specs.Prelude.{◌≡◌, ◌≢◌, ◌+◌, ◌∷◌, [], ℕ, Option, Some, None, length}
use Rattle.atomic_table.specs.Table.{rest}
use Rattle.mi_board.specs.Boards.{BoardState, grown}
use Rattle.mi_core.specs.Effects.{paid}
use Rattle.mi_latch.specs.declared.slots.Slot.TheVariants.{OfPage}
use Rattle.mi_latch.specs.Views.{Sight}
use Rattle.mi_page.specs.Nodes.{Node, root_node}
use Rattle.mi_solo.specs.declared.rows.ActorRow.{ActorRow}
use Rattle.mi_hall.specs.Passes.{row_actor}
use Rattle.mi_hall.specs.Places.{gives_board}

-- the fresh page becomes the root of this level exactly where the root was of the level below, and then the child's route is owed no more
abbrev pub GrowsRow : ℕ → ℕ → ℕ → ℕ → BoardState → ActorRow → Option Node → BoardState → ActorRow → Type 0
GrowsRow fresh level key child b row None board made = (b.height + 1 ≢ level) × (board ≡ b) × (made ≡ record row { seen = length b.log })
GrowsRow fresh level key child b row (Some root) board made =
    (b.height + 1 ≡ level) × (board ≡ grown level fresh b) × (root ≡ root_node level b.root key child)
    × (made ≡ record row { seen = length b.log; hand = record { fresh = None; owed = paid child row.hand.owed } })

-- the seat after it gave the board back with a new root: it has this row, was named no page, and has the root's page in the place of the fresh page's slot
abbrev pub raising : Sight → ActorRow → BoardState → ℕ → Node → Sight
raising v row b fresh root = gives_board v (row_actor b.settings v.mine.part row) b v.mine.told [] ((fresh + 17, OfPage root) ∷ rest (rest v.out))

-- What the seat of one who commits gives back: the board beside its page and the rows of its shard, all in hand.
use Rattle.std.specs.Prelude.{◌+◌, ◌∷◌, [], ℕ, List}
use Rattle.mi_board.specs.Boards.{BoardState}
use Rattle.mi_entries.specs.Records.{Rows}
use Rattle.mi_latch.specs.declared.slots.Slot.{Slot}
use Rattle.mi_latch.specs.declared.slots.Slot.TheVariants.{OfPage, OfShard}
use Rattle.mi_latch.specs.Views.{Sight}
use Rattle.mi_page.specs.Nodes.{Node}
use Rattle.mi_solo.specs.declared.rows.ActorRow.{ActorRow}
use Rattle.mi_solo.specs.States.{actor_of}
use Rattle.mi_hall.specs.Places.{gives_both}

-- the seat after it gave the board back, its actor has this row, and it has noted the page, which is still in hand with the rows of the shard
abbrev pub kept_out : ℕ → Node → ℕ → Rows → List (ℕ × Slot)
kept_out page n k rows = (page + 17, OfPage n) ∷ (k + 1, OfShard rows) ∷ []

abbrev pub giving_beside : Sight → ActorRow → BoardState → ℕ → Node → ℕ → Rows → Sight
giving_beside v row b page n k rows = gives_both v (actor_of b.settings b.log v.actor row) b n [] (kept_out page n k rows)

-- What a commit makes of a state, by what it makes of the board, its page, the rows of its shard and its actor's row.
use Rattle.std.specs.Prelude.{◌≡◌, ℕ, Some, slice_get}
use Rattle.mi_board.specs.Boards.{BoardState}
use Rattle.mi_core.specs.Events.{Can, Event, after}
use Rattle.mi_core.specs.State.{State, node_at, put_actor, put_board, put_page, put_shard}
use Rattle.mi_entries.specs.Actors.{Actor}
use Rattle.mi_entries.specs.Records.{Rows, held_by, shard_at}
use Rattle.mi_page.specs.Nodes.{Node}
use Rattle.mi_solo.specs.declared.rows.ActorRow.{ActorRow}
use Rattle.mi_solo.specs.States.{actor_of}

-- the state with this board, this page, these rows of the shard k, whose holder stays, and this record
abbrev pub with_held : State → ℕ → ℕ → ℕ → BoardState → Node → Rows → Actor → State
with_held s a page k board n rows to = put_actor a to (put_page page n (put_shard k (held_by (shard_at s.shards k).holder rows) (put_board board s)))

-- the event may be, of an actor with this record, and makes this of what was in hand; all else stays
abbrev pub TurnsHeld : State → ℕ → Actor → Event → ℕ → ℕ → BoardState → Node → Rows → Actor → Type 0
TurnsHeld s a r e page k board n rows to = Can s a r e × (after s a r e ≡ with_held s a page k board n rows to)

-- the board, the page, the rows of the shard and the actor's row become what the commit makes of them; all else stays
pub record OnHeld (s : State) (a page k : ℕ) (makes : BoardState → Node → Rows → ActorRow → BoardState → Node → Rows → ActorRow → Type 0) (t : State) : Type 0 where
  pub was : Node
  pub row : ActorRow
  pub board : BoardState
  pub new : Node
  pub kept : Rows
  pub made : ActorRow
  pub there : node_at s.pages page ≡ Some was
  pub row_is : slice_get s.actors a ≡ Some (actor_of s.board.settings s.board.log a row)
  pub does : makes s.board was (shard_at s.shards k).rows row board new kept made
  pub is : t ≡ with_held s a page k board new kept (actor_of board.settings board.log a made)

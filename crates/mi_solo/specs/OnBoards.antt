-- What a section of the board makes of a state, by what it makes of the board and of its actor's row.
use Rattle.std.specs.Prelude.{◌≡◌, ℕ, Some, slice_get}
use Rattle.mi_board.specs.Boards.{BoardState}
use Rattle.mi_core.specs.Actors.{made_by}
use Rattle.mi_core.specs.Events.{Can, Event, after}
use Rattle.mi_core.specs.State.{State, put_actor, put_board}
use Rattle.mi_entries.specs.Actors.{Actor}
use Rattle.mi_solo.specs.declared.rows.ActorRow.{ActorRow}
use Rattle.mi_solo.specs.OnPages.{record_of}
use Rattle.mi_solo.specs.States.{actor_of}

-- the event may be, of an actor with this record, and makes this board and this record; all else stays
abbrev pub TurnsBoard : State → ℕ → Actor → Event → BoardState → Actor → Type 0
TurnsBoard s a r e board to = Can s a r e × (after s a r e ≡ put_actor a to (put_board board s))

-- the board and the actor's row become what the section makes of them; all else stays, its own updates too
pub record OnBoard (s : State) (a : ℕ) (makes : BoardState → ActorRow → BoardState → ActorRow → Type 0) (t : State) : Type 0 where
  pub row : ActorRow
  pub board : BoardState
  pub made : ActorRow
  pub row_is : slice_get s.actors a ≡ Some (actor_of s.board.settings s.board.log a row)
  pub does : makes s.board row board made
  pub is : t ≡ put_actor a (record_of board.settings (made_by a s.board.log) made) (put_board board s)

-- what sections of the board leave of the board and of the row: no actor's updates are more
pub record KeepsBoard (b : BoardState) (row : ActorRow) (board : BoardState) (made : ActorRow) : Type 0 where
  pub settings : board.settings ≡ b.settings
  pub own : (m : ℕ) → made_by m board.log ≡ made_by m b.log
  pub root : board.root ≡ b.root
  pub height : board.height ≡ b.height
  pub shard : made.shard ≡ row.shard

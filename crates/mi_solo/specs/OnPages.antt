-- What a section of one page makes of a state, by what it makes of the page and of its actor's row.
use Rattle.std.specs.Prelude.{◌≡◌, ℕ, List, [], Some, slice_get}
use Rattle.mi_base.specs.Configuration.{Configuration}
use Rattle.mi_base.specs.History.{Entered}
use Rattle.mi_core.specs.Events.{Can, Event, after}
use Rattle.mi_core.specs.State.{State, node_at, put_actor, put_page}
use Rattle.mi_entries.specs.Actors.{Actor}
use Rattle.mi_page.specs.Nodes.{Node}
use Rattle.mi_solo.specs.declared.rows.ActorRow.{ActorRow}
use Rattle.mi_solo.specs.States.{actor_of}

-- the record of an actor that has this row, and these updates of its own
abbrev pub record_of : Configuration → List Entered → ActorRow → Actor
record_of c own row = record (actor_of c [] 0 row) { own = own }

-- the event may be, of an actor with this record, and makes this page and this record; all else stays
abbrev pub TurnsPage : State → ℕ → Actor → Event → ℕ → Node → Actor → Type 0
TurnsPage s a r e page new to = Can s a r e × (after s a r e ≡ put_actor a to (put_page page new s))

-- the page and the actor's row become what the section makes of them; all else stays
pub record OnPage (s : State) (a page : ℕ) (makes : Node → ActorRow → Node → ActorRow → Type 0) (t : State) : Type 0 where
  pub was : Node
  pub row : ActorRow
  pub new : Node
  pub made : ActorRow
  pub there : node_at s.pages page ≡ Some was
  pub row_is : slice_get s.actors a ≡ Some (actor_of s.board.settings s.board.log a row)
  pub does : makes was row new made
  pub is : t ≡ put_actor a (actor_of s.board.settings s.board.log a made) (put_page page new s)

-- what most sections of a page leave of the row
pub record KeepsRow (row made : ActorRow) : Type 0 where
  pub seen : made.seen ≡ row.seen
  pub shard : made.shard ≡ row.shard
  pub claim : made.claim ≡ row.claim
  pub pin : made.pin ≡ row.pin
  pub fresh : made.hand.fresh ≡ row.hand.fresh
  pub ended : made.ended ≡ row.ended

-- The state that a core stands for, and what one section of an actor makes of it.
use Rattle.std.specs.Prelude.{◌≡◌, ◌<◌, ℕ, ◌+◌, ◌==◌, ◌&&◌, List, [], ◌∷◌, Bool, cond, false, is_some, length, Option, Some, None, slice_index_or}
use Rattle.std.specs.Arc.{arc_value}
use Rattle.mi_base.specs.Configuration.{Configuration}
use Rattle.mi_base.specs.declared.records.LogEvent.{LogEvent}
use Rattle.mi_core.specs.Actors.{made_by}
use Rattle.mi_core.specs.Events.{Can, Event, after, first_actor}
use Rattle.mi_core.specs.Pages.{node_or_fresh}
use Rattle.mi_core.specs.State.{State, node_at}
use Rattle.mi_page.specs.Nodes.{Node}
use Rattle.mi_solo.specs.Viewing.{shown_to}
use Rattle.mi_tree.specs.Catalog.{CatalogState}
use Rattle.mi_world.specs.View.{View}
use Rattle.mi_entries.specs.Actors.{Actor, Pin, SplitWork, SweepWork}
use Rattle.mi_solo.specs.declared.cores.Core.{Core}
use Rattle.mi_solo.specs.declared.rows.ActorRow.{ActorRow}
use Rattle.mi_solo.specs.declared.rows.PinRow.{PinRow}
use Rattle.mi_solo.specs.declared.rows.SplitRow.{SplitRow}
use Rattle.mi_solo.specs.declared.rows.SweepRow.{SweepRow}

-- the catalog has the settings' pivots and levels
abbrev pub is_catalog_of : Configuration → CatalogState → Bool
is_catalog_of settings k = (k.pivots == length settings.pivots) && (k.levels == settings.levels)

-- What the rows stand for. A pin keeps the leaves of its catalog alone, so only a row whose catalog has the settings' pivots and levels stands
-- for one: who has a pin has the whole catalog with it.
abbrev pub pin_of : Configuration → Option PinRow → Option Pin
pin_of settings None = None
pin_of settings (Some p) = cond (is_catalog_of settings (arc_value p.cells)) (Some (record { at = p.at; cells = (arc_value p.cells).leaves })) None

abbrev pub split_of : Option SplitRow → Option SplitWork
split_of None = None
split_of (Some w) = Some (record { leaf = w.leaf; mark = w.mark; gathered = w.gathered.items; copied = w.copied })

abbrev pub sweep_of : Option SweepRow → Option SweepWork
sweep_of None = None
sweep_of (Some w) = Some (record { leaf = w.leaf; mark = w.mark })

-- the record of the actor of a number: its own updates are those that the log has of it
abbrev pub actor_of : Configuration → List LogEvent → ℕ → ActorRow → Actor
actor_of settings log a r = record {
  seen = r.seen;
  own = made_by a log;
  floor = r.floor;
  reserved = r.reserved;
  reserved_here = r.reserved_here;
  shard = r.shard;
  claim = r.claim;
  sweep = sweep_of r.sweep;
  pin = pin_of settings r.pin;
  split = split_of r.split;
  fresh = r.hand.fresh;
  owed = r.hand.owed;
  page = r.page;
  tried = r.tried;
  found = r.found;
  lacked = r.lacked;
  undone = r.undone;
  early = r.early;
  ended = r.ended;
}

-- the records of actors numbered from n on
abbrev pub actors_of : Configuration → List LogEvent → ℕ → List ActorRow → List Actor
actors_of settings log n [] = []
actors_of settings log n (r ∷ rows) = actor_of settings log n r ∷ actors_of settings log (n + 1) rows

abbrev pub state_of : Core → State
state_of c = record { board = c.board; shards = c.shards.items; pages = c.pages.items; actors = actors_of c.board.settings c.board.log 0 c.actors.items }

-- the record of an actor
abbrev pub actor_in : State → ℕ → Actor
actor_in s a = slice_index_or s.actors a first_actor

-- an actor's view
abbrev pub view_in : State → ℕ → View
view_in s a = shown_to s a (actor_in s a)

-- a page, and whether it is linked
abbrev pub node_in : State → ℕ → Node
node_in s page = node_or_fresh (node_at s.pages page)

abbrev pub is_linked : State → ℕ → Bool
is_linked s page = is_some (node_at s.pages page)

-- the actor was made, and hasn't ended
pub record IsGoing (c : Core) (a : ℕ) : Type 0 where
  pub known : a < length c.actors.items
  pub going : (actor_in (state_of c) a).ended ≡ false

-- one event of this actor leads from s to t
pub record Does (s : State) (a : ℕ) (e : Event) (t : State) : Type 0 where
  pub can : Can s a (actor_in s a) e
  pub is : t ≡ after s a (actor_in s a) e

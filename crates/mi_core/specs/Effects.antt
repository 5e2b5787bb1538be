-- What events do to a board, a page, a shard and a record: functions of these alone.
use Rattle.std.specs.Prelude.{ℕ, ◌==◌, List, [], ◌∷◌, ◌++◌, Bool, false, not, cond, length, map}
use Rattle.std.specs.List.{filter}
use Rattle.mi_base.specs.declared.records.LogEvent.TheVariants.{Update as Made}
use Rattle.mi_base.specs.declared.records.Update.{Update}
use Rattle.mi_base.specs.Sorting.{put}
use Rattle.mi_key.specs.declared.entries.Entry.{Entry}
use Rattle.mi_key.specs.declared.ranges.Interval.{Interval}
use Rattle.mi_page.specs.Entries.{entry_cmp, without_interval, without_dead, with_death, without_key}
use Rattle.mi_page.specs.Nodes.{Node}
use Rattle.mi_page.specs.Routes.{has_route, route_cmp}
use Rattle.mi_forest.specs.Changes.{with_entries}
use Rattle.mi_board.specs.Boards.{BoardState, floor_of, with_event}
use Rattle.mi_board.specs.Actors.{with_reserved}
use Rattle.mi_entries.specs.Actors.{Actor, Owed}

-- boards

-- an update is entered, which its actor had reserved
abbrev pub with_update : ℕ → ℕ → Update → BoardState → BoardState
with_update a op u b = with_event (Made a op u) (with_reserved false) a b

-- pages

-- the entries that are dead at the floor are dropped
abbrev pub trim_node : ℕ → Node → Node
trim_node floor n = with_entries n (without_dead floor n.entries)

-- a leaf page is trimmed, and a route page stays as it is
abbrev pub trim_leaf : ℕ → Node → Node
trim_leaf floor n = cond (n.level == 0) (trim_node floor n) n

-- an entry is put in after a trim, since it may need the room
abbrev pub put_entry : ℕ → Entry → Node → Node
put_entry floor e n = with_entries n (put entry_cmp e (without_dead floor n.entries))

-- the entry of a key gets a death
abbrev pub mark_entry : ℕ → ℕ → Node → Node
mark_entry key number n = with_entries n (map (with_death key number) n.entries)

-- the entry of a key is dropped
abbrev pub drop_entry : ℕ → Node → Node
drop_entry key n = with_entries n (without_key key n.entries)

-- the entries of an interval are dropped
abbrev pub sweep_node : Interval → Node → Node
sweep_node range n = with_entries n (without_interval range n.entries)

-- a route is put in; where it stands already, nothing changes
abbrev pub post_route : ℕ → ℕ → Node → Node
post_route key child n = cond (has_route key n.routes) n (record n { routes = put route_cmp (record { key = key; child = child }) n.routes })

-- records

-- who has made a board section has seen the whole log
abbrev pub saw : BoardState → Actor → Actor
saw b r = record r { seen = length b.log }

-- who has looked has the floor of that moment too
abbrev pub looked : BoardState → Actor → Actor
looked b r = record r { seen = length b.log; floor = floor_of b }

-- the page of the actor's latest page section
abbrev pub noted : ℕ → Actor → Actor
noted page r = record r { page = page }

-- an update more of the actor's own, which uses what it had reserved; the board is the one after it
abbrev pub committed : BoardState → ℕ → ℕ → Update → ℕ → Actor → Actor
committed b a op u page r = record r {
  seen = length b.log;
  own = r.own ++ record { session = a; op = op; update = u } ∷ [];
  reserved = false;
  reserved_here = false;
  page = page;
}

-- a page has one route, so its number tells the debt
abbrev pub route_owed : ℕ → Owed → Bool
route_owed child o = o.child == child

-- all debts but that for one page
abbrev pub paid : ℕ → List Owed → List Owed
paid child owed = filter (λ o. not (route_owed child o)) owed

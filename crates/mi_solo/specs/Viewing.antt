-- The view of each actor, read off a state.
use Rattle.std.specs.Prelude.{ℕ, ◌+◌, ◌-◌, ◌==◌, List, [], ◌∷◌, Bool, true, false, cond, length, map, nat_le, Option, Some, None, is_some}
use Rattle.std.specs.List.{find, list_any}
use Rattle.mi_base.specs.declared.records.LogEvent.{LogEvent}
use Rattle.mi_base.specs.Configuration.{Configuration}
use Rattle.mi_base.specs.History.{at_position}
use Rattle.mi_page.specs.Nodes.{Node, item_count}
use Rattle.mi_tree.specs.Births.{splits_in}
use Rattle.mi_tree.specs.Cells.{same_cell}
use Rattle.mi_board.specs.Actors.{is_claim}
use Rattle.mi_board.specs.Boards.{BoardState}
use Rattle.mi_board.specs.declared.actors.ActorState.{ActorState}
use Rattle.mi_entries.specs.Actors.{Actor, Owed, Pin, SplitWork, SweepWork}
use Rattle.mi_entries.specs.Entries.{grid}
use Rattle.mi_entries.specs.Marks.{cell_end}
use Rattle.mi_entries.specs.Records.{Shard, ShardRecord, shard_at}
use Rattle.mi_entries.specs.Splits.{copy_in_child}
use Rattle.mi_core.specs.Effects.{trim_leaf}
use Rattle.mi_core.specs.Events.{copied_of}
use Rattle.mi_core.specs.Pages.{node_or_fresh}
use Rattle.mi_core.specs.State.{State, board_actor, node_at}
use Rattle.mi_world.specs.declared.answers.Record.{Record}
use Rattle.mi_world.specs.View.{View, is_wanted_leaf}

-- a shard's record as the trait tells it
abbrev pub record_shown : Option ShardRecord → Option Record
record_shown None = None
record_shown (Some x) = Some (record { birth = x.birth; dists = record { items = x.dists } })

-- the records of the shard that is held, and none without one
abbrev pub records_in : List Shard → Option ℕ → ℕ → Option Record
records_in shards None = λ id. None
records_in shards (Some k) = λ id. record_shown (find (λ x. x.id == id) (shard_at shards k).rows.records)

-- the part of the log that is pinned
abbrev pub pinned_log : List LogEvent → Option Pin → Option (List LogEvent)
pinned_log log None = None
pinned_log log (Some p) = Some (at_position log p.at)

-- the leaf that is claimed is to be split
abbrev pub leaf_wanted : Configuration → List LogEvent → Option (List ℕ) → Bool
leaf_wanted c log None = false
leaf_wanted c log (Some p) = is_wanted_leaf c log p

-- the leaf under sweep
abbrev pub swept_leaf : Option SweepWork → Option (List ℕ)
swept_leaf None = None
swept_leaf (Some w) = Some w.leaf

-- the key up to which it is swept
abbrev pub swept_to : Option SweepWork → ℕ
swept_to None = 0
swept_to (Some w) = w.mark

-- the key up to which a split has gathered
abbrev pub gathered_to : Option SplitWork → ℕ
gathered_to None = 0
gathered_to (Some w) = w.mark

-- the split has gathered its whole leaf
abbrev pub is_whole : Configuration → Option SplitWork → Bool
is_whole c None = false
is_whole c (Some w) = nat_le (cell_end (grid c) w.leaf) w.mark

-- the keys of the copies of what was gathered
abbrev pub copy_keys : Configuration → Option SplitWork → List ℕ
copy_keys c None = []
copy_keys c (Some w) = map (λ e. (copy_in_child (grid c) w.leaf e).key) w.gathered

-- the first actor, from a number on, that claims a leaf
abbrev pub holder_from : ℕ → List ActorState → List ℕ → Option ℕ
holder_from n [] p = None
holder_from n (x ∷ actors) p = cond (is_claim p x.claim) (Some n) (holder_from (n + 1) actors p)

-- a page as an actor of this record counts it: without the entries that are dead at its floor
abbrev pub page_seen : State → Actor → ℕ → Node
page_seen s r p = trim_leaf r.floor.updates (node_or_fresh (node_at s.pages p))

-- who holds a shard, if it is another actor
abbrev pub another : ℕ → Option ℕ → Option ℕ
another a None = None
another a (Some b) = cond (b == a) None (Some b)

-- how many of the leaves that were split were given to be swept: all but the retired ones
abbrev pub given_in : BoardState → ℕ
given_in b = length (splits_in b.log) - length b.retired

-- the view of the actor of this number and record: it has the whole log, every linked page counts as named, it is told exactly where all pages
-- are allotted, and its notes are the board, the page and the shard as they are
abbrev pub shown_to : State → ℕ → Actor → View
shown_to s a r = record {
  settings = s.board.settings;
  actor = a;
  absorbed = [];
  forked = [];
  seen = s.board.log;
  own = r.own;
  floor = r.floor;
  pin = pinned_log s.board.log r.pin;
  shard = r.shard;
  records = records_in s.shards r.shard;
  reserved = r.reserved_here;
  leaf = r.claim;
  wanted = leaf_wanted s.board.settings s.board.log r.claim;
  sweep = swept_leaf r.sweep;
  swept = swept_to r.sweep;
  splitting = is_some r.split;
  mark = gathered_to r.split;
  whole = is_whole s.board.settings r.split;
  copies = copy_keys s.board.settings r.split;
  copied = copied_of r.split;
  fresh = r.fresh;
  owes = λ p. list_any (λ (o : Owed). o.child == p) r.owed;
  undone = r.undone;
  early = r.early;
  lacked = r.lacked;
  told = s.board.allotted == s.board.settings.pages;
  named = λ p. is_some (node_at s.pages p);
  level = λ p. (node_or_fresh (node_at s.pages p)).level;
  low = λ p. (node_or_fresh (node_at s.pages p)).low;
  least = s.board.height;
  tells_full = true;
  full = λ p. item_count (page_seen s r p) == 32;
  allotted = s.board.allotted;
  holder = holder_from 0 s.board.actors;
  pins = λ b. (board_actor s.board b).pin;
  given = given_in s.board;
  retired = s.board.retired;
  passed = λ p. list_any (same_cell p) s.board.passed_over;
  root = s.board.root;
  height = s.board.height;
  page = r.page;
  high = (node_or_fresh (node_at s.pages r.page)).high;
  items = item_count (page_seen s r r.page);
  tried = r.tried;
  found = another a (shard_at s.shards r.tried).holder;
}

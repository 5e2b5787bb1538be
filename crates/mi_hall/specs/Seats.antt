-- The view of a seat at the table of latched values: what it knows, and the values in hand.
use Rattle.std.specs.Prelude.{ℕ, ◌+◌, ◌==◌, List, [], ◌∷◌, Bool, cond, false, map, Option, Some, None, is_some}
use Rattle.std.specs.List.{find, list_any}
use Rattle.mi_base.specs.declared.records.LogEvent.{LogEvent}
use Rattle.mi_base.specs.Configuration.{Configuration}
use Rattle.mi_core.specs.Events.{copied_of}
use Rattle.mi_core.specs.State.{board_actor}
use Rattle.mi_entries.specs.Actors.{Actor, Owed}
use Rattle.mi_entries.specs.Records.{Rows, no_shard}
use Rattle.mi_latch.specs.declared.slots.Slot.{Slot}
use Rattle.mi_latch.specs.declared.slots.Slot.TheVariants.{OfBoard, OfPage, OfShard, Vacant}
use Rattle.mi_latch.specs.Views.{Sight}
use Rattle.mi_solo.specs.Viewing.{copy_keys, gathered_to, given_in, holder_from, is_whole, pinned_log, record_shown, swept_leaf, swept_to}
use Rattle.mi_tree.specs.Cells.{same_cell}
use Rattle.mi_world.specs.declared.answers.Record.{Record}
use Rattle.mi_world.specs.View.{View}
use Rattle.mi_hall.specs.Knowledge.{Knowledge, is_named, level_of, low_of}

-- the rows of a shard in hand
abbrev pub rows_in : Slot → Rows
rows_in (OfShard rows) = rows
rows_in (OfBoard b) = no_shard.rows
rows_in (OfPage p) = no_shard.rows
rows_in Vacant = no_shard.rows

abbrev pub rows_out : List (ℕ × Slot) → ℕ → Rows
rows_out [] k = no_shard.rows
rows_out (x ∷ out) k = cond (x.0 == k + 1) (rows_in x.1) (rows_out out k)

-- the records of the shard that is held, and none without one
abbrev pub records_out : List (ℕ × Slot) → Option ℕ → ℕ → Option Record
records_out out None = λ id. None
records_out out (Some k) = λ id. record_shown (find (λ x. x.id == id) (rows_out out k).records)

-- what a seat knows beside what is its actor's own
abbrev pub knowledge : Sight → Knowledge
knowledge v = record {
  absorbed = map (λ x. record { actor = x.0; own = x.1.part.own }) v.absorbed;
  forked = v.forked;
  seen = v.mine.log;
  told = v.mine.told;
  pages = v.mine.named;
  least = v.mine.least;
  allotted = v.mine.note.board.allotted;
  holder = holder_from 0 v.mine.note.board.actors;
  pins = λ b. (board_actor v.mine.note.board b).pin;
  given = given_in v.mine.note.board;
  retired = v.mine.note.board.retired;
  passed = λ p. list_any (same_cell p) v.mine.note.board.passed_over;
  root = v.mine.note.board.root;
  height = v.mine.note.board.height;
  high = v.mine.note.high;
  items = v.mine.note.items;
  found = v.mine.part.found;
}

-- the view of an actor of this record, by what it knows: its pinned log, its shard's records, and whether its leaf is to be split, are given
abbrev pub view_of : Configuration → ℕ → Actor → Option (List LogEvent) → (ℕ → Option Record) → Bool → Knowledge → View
view_of settings a r pin records wanted n = record {
  settings = settings;
  actor = a;
  absorbed = n.absorbed;
  forked = n.forked;
  seen = n.seen;
  own = r.own;
  floor = r.floor;
  pin = pin;
  shard = r.shard;
  records = records;
  reserved = r.reserved_here;
  leaf = r.claim;
  wanted = wanted;
  sweep = swept_leaf r.sweep;
  swept = swept_to r.sweep;
  splitting = is_some r.split;
  mark = gathered_to r.split;
  whole = is_whole settings r.split;
  copies = copy_keys settings r.split;
  copied = copied_of r.split;
  fresh = r.fresh;
  owes = λ p. list_any (λ (o : Owed). o.child == p) r.owed;
  undone = r.undone;
  early = r.early;
  lacked = r.lacked;
  told = n.told;
  named = is_named n.pages;
  level = level_of n.pages;
  low = low_of n.pages;
  least = n.least;
  tells_full = false;
  full = λ p. false;
  allotted = n.allotted;
  holder = n.holder;
  pins = n.pins;
  given = n.given;
  retired = n.retired;
  passed = n.passed;
  root = n.root;
  height = n.height;
  page = r.page;
  high = n.high;
  items = n.items;
  tried = r.tried;
  found = n.found;
}

abbrev pub seat_view : Sight → View
seat_view v = view_of v.mine.note.board.settings v.actor v.mine.part (pinned_log v.mine.log v.mine.part.pin) (records_out v.out v.mine.part.shard) v.mine.wanted (knowledge v)

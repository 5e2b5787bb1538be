-- The splitter goes on alone until all leaves are settled.
use Rattle.std.specs.Prelude.{◌≡◌, ◌<◌, ◌||◌, ℕ, Bool, true, false, List, ◌++◌, Some, None, Result, Ok, Err, length, slice_get}
use Rattle.std.specs.List.{list_any}
use Rattle.mi_base.specs.declared.refusals.NoMemory.{NoMemory}
use Rattle.mi_base.specs.History.{live, updates_of}
use Rattle.mi_board.specs.Boards.{floor_of}
use Rattle.mi_core.specs.Kept.{Kept}
use Rattle.mi_core.specs.State.{State}
use Rattle.mi_entries.specs.Actors.{Actor}
use Rattle.mi_job.specs.Claims.{ClaimsNone}
use Rattle.mi_settle.specs.declared.splitters.SplitterSeat.{SplitterSeat}
use Rattle.mi_settle.specs.Entries.{IsTrimmed, entry_count}
use Rattle.mi_settle.specs.Working.{AllBy, IsIdle}
use Rattle.mi_settle.specs.Moving.{MakeCalls}
use Rattle.mi_settle.specs.Splitters.{SplitterAt, SplitterMade, gave_up}
use Rattle.mi_settle.specs.Turns.{Turn, Chained}
use Rattle.mi_solo.specs.Solos.{MayTurn}
use Rattle.mi_solo.specs.States.{actor_in, view_in}
use Rattle.mi_tree.specs.Growing.{GrowsBySplits}
use Rattle.mi_tree.specs.Legal.{Settled}

-- nobody holds a shard, claims a leaf, sweeps or splits one, or has a pin
pub record HoldsNothing (r : Actor) : Type 0 where
  pub shard : r.shard ≡ None
  pub claim : r.claim ≡ None
  pub sweep : r.sweep ≡ None
  pub split : r.split ≡ None
  pub pin : r.pin ≡ None

abbrev pub IsAtRest : State → Type 0
IsAtRest s = (b : ℕ) (r : Actor) → slice_get s.actors b ≡ Some r → HoldsNothing r

-- a settled core: an entry for each live object and no others, and no leaf to be split while there are pages
pub record IsSettled (s : State) : Type 0 where
  pub entries : entry_count s ≡ length (live (updates_of s.board.log))
  pub settled : s.board.allotted < s.board.settings.pages → Settled s.board.settings s.board.log

abbrev pub is_refused : Result (Unit {0}) NoMemory → Bool
is_refused (Ok _) = false
is_refused (Err e) = true

abbrev pub LeavesSettled : Result (Unit {0}) NoMemory → State → Type 0
LeavesSettled (Ok _) t = IsSettled t
LeavesSettled (Err e) t = Unit {0}

-- What settling made: turns of the splitter alone, of which a split given up for want of memory is the last operation.
pub record Settles (a : ℕ) (s : State) (result : Result (Unit {0}) NoMemory) (t : State) : Type 0 where
  pub made : List Turn
  pub chained : Chained s made t
  pub by : AllBy a made
  pub calls : MakeCalls made
  pub grows : GrowsBySplits s.board.log t.board.log
  pub at : (turns : List Turn) (wanted : Bool) → SplitterAt turns s a (record { care = record { task = None }; wanted = wanted })
      → SplitterAt (turns ++ made) t a (record { care = record { task = None }; wanted = wanted || is_refused result })
  -- it is refused where a split was given up for want of memory, and only there
  pub why : is_refused result ≡ list_any (gave_up a false) made
  pub may : MayTurn t a
  pub claims : ClaimsNone (view_in t a)
  pub leaves : LeavesSettled result t

-- the splitter with nothing under way
abbrev pub resting : Bool → SplitterSeat
resting wanted = record { care = record { task = None }; wanted = wanted }

-- the last answer of operations that were made until there was nothing to do
abbrev pub EndsIdle : Result (Unit {0}) NoMemory → ℕ → State → Type 0
EndsIdle (Ok _) a t = IsIdle t.board × ((actor_in t a).floor ≡ floor_of t.board)
EndsIdle (Err e) a t = Unit {0}

-- operations of the splitter, one after another; the last one may have been given up for want of memory
pub record Works (a : ℕ) (s : State) (short : Bool) (t : State) : Type 0 where
  pub made : List Turn
  pub is : (wanted : Bool) → SplitterMade a s (resting wanted) t (resting (wanted || short)) made
  pub grows : GrowsBySplits s.board.log t.board.log
  pub kept : Kept t
  pub rest : IsAtRest t

-- operations of the splitter until there was nothing to do, or memory was wanted
abbrev pub WorksOff : ℕ → State → Result (Unit {0}) NoMemory → State → Type 0
WorksOff a s result t = Works a s (is_refused result) t × EndsIdle result a t

-- turns that trim leaf pages, with no operation under way
pub record TrimsAll (a : ℕ) (s t : State) : Type 0 where
  pub made : List Turn
  pub chained : Chained s made t
  pub by : AllBy a made
  pub calls : MakeCalls made
  pub at : (turns : List Turn) (x : SplitterSeat) → SplitterAt turns s a x → SplitterAt (turns ++ made) t a x
  pub gave : list_any (gave_up a false) made ≡ false
  pub board : t.board ≡ s.board
  pub may : MayTurn t a
  pub kept : Kept t
  pub rest : IsAtRest t
  pub trimmed : IsTrimmed t

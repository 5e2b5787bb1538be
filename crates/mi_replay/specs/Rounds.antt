-- Why the finishing rounds end.
use Rattle.std.specs.Prelude.{◌≡◌, ◌≢◌, ◌<◌, ◌≤◌, ◌+◌, ◌-◌, ℕ, Bool, true, false, cond, List, ◌∷◌, None, Some, is_some, length, slice_get, slice_set}
use Rattle.std.specs.List.{list_any}
use Rattle.mi_base.specs.declared.records.Op.{Op}
use Rattle.mi_core.specs.State.{State}
use Rattle.mi_entries.specs.Actors.{Actor}
use Rattle.mi_replay.specs.declared.seats.Seat.{Seat}
use Rattle.mi_settle.specs.declared.splitters.SplitterSeat.{SplitterSeat}
use Rattle.mi_replay.specs.declared.tables.Table.{Table}
use Rattle.mi_replay.specs.Seats.{is_over}
use Rattle.mi_replay.specs.Tables.{NotOver}

abbrev pub has_leaf : Actor → Bool
has_leaf r = is_some r.claim

abbrev pub has_shard : Actor → Bool
has_shard r = is_some r.shard

-- nobody claims a leaf
abbrev pub NoLeaf : State → Type 0
NoLeaf s = list_any has_leaf s.actors ≡ false

-- nobody holds anything
abbrev pub NoClaim : State → Type 0
NoClaim s = NoLeaf s × (list_any has_shard s.actors ≡ false)

-- 2 while somebody claims a leaf, 1 while only shards are held
abbrev pub phase_at : Bool → Bool → ℕ
phase_at true shard = 2
phase_at false true = 1
phase_at false false = 0

abbrev pub phase : State → ℕ
phase s = phase_at (list_any has_leaf s.actors) (list_any has_shard s.actors)

-- how many operations have not ended
abbrev pub operations_left : List (List Op) → List Seat → ℕ
operations_left (os ∷ scripts) (a ∷ seats) = (length os - length a.replies.items) + operations_left scripts seats
operations_left scripts seats = 0

-- at least as many as rounds are left
abbrev pub rounds_left : List (List Op) → State → List Seat → SplitterSeat → ℕ
rounds_left scripts s seats x = operations_left scripts seats + phase s + cond (is_some x.care.task) 1 0

-- A session after its block of one operation: it claims no leaf; where nobody claimed one it holds nothing; where nobody held anything an
-- operation has ended.
pub record Relieves (k : ℕ) (script : List Op) (s : State) (a : Seat) (t : State) (b : Seat) : Type 0 where
  pub others : (j : ℕ) → j ≢ k → slice_get t.actors j ≡ slice_get s.actors j
  pub leaf : (r : Actor) → slice_get t.actors k ≡ Some r → has_leaf r ≡ false
  pub shard : NoLeaf s → (r : Actor) → slice_get t.actors k ≡ Some r → has_shard r ≡ false
  pub few : length b.replies.items ≤ length script
  pub replies : length a.replies.items ≤ length b.replies.items
  pub ends : NoClaim s → is_over script a ≡ false → length a.replies.items < length b.replies.items

pub record Relieved (scripts : List (List Op)) (n : ℕ) (s : State) (seats : List Seat) (t : State) (others : List Seat) : Type 0 where
  pub script : List Op
  pub a : Seat
  pub b : Seat
  pub at_script : slice_get scripts n ≡ Some script
  pub at_seat : slice_get seats n ≡ Some a
  pub is : others ≡ slice_set seats n b
  pub relieves : Relieves n script s a t b

-- the first n sessions had their blocks of a round
pub record Eased (scripts : List (List Op)) (n : ℕ) (s : State) (seats : List Seat) (t : State) (others : List Seat) : Type 0 where
  pub leaf : (j : ℕ) (r : Actor) → j < n → slice_get t.actors j ≡ Some r → has_leaf r ≡ false
  pub no_leaf : NoLeaf s → NoLeaf t
  pub shard : NoLeaf s → (j : ℕ) (r : Actor) → j < n → slice_get t.actors j ≡ Some r → has_shard r ≡ false
  pub none : NoClaim s → NoClaim t
  pub rest : (j : ℕ) (a : Seat) → n ≤ j → slice_get others j ≡ Some a → slice_get seats j ≡ Some a
  pub left : operations_left scripts others ≤ operations_left scripts seats
  pub ends : NoClaim s → (j : ℕ) (os : List Op) (a : Seat) → j < n → slice_get scripts j ≡ Some os → slice_get seats j ≡ Some a → is_over os a ≡ false → operations_left scripts others < operations_left scripts seats

-- the splitter after its block of one operation: it has nothing under way, and holds nothing
pub record Rested (n : ℕ) (s t : State) (y : SplitterSeat) : Type 0 where
  pub others : (j : ℕ) → j ≢ n → slice_get t.actors j ≡ slice_get s.actors j
  pub leaf : (r : Actor) → slice_get t.actors n ≡ Some r → has_leaf r ≡ false
  pub shard : (r : Actor) → slice_get t.actors n ≡ Some r → has_shard r ≡ false
  pub rests : y.care.task ≡ None

-- after a round the splitter has nothing under way, and fewer rounds are left
pub record Eases (scripts : List (List Op)) (s : State) (seats : List Seat) (x : SplitterSeat) (t : State) (others : List Seat) (y : SplitterSeat) : Type 0 where
  pub rests : y.care.task ≡ None
  pub fewer : NotOver scripts seats x → rounds_left scripts t others y < rounds_left scripts s seats x

-- the same of a table
abbrev pub RelievesOne : List (List Op) → ℕ → Table → Table → Type 0
RelievesOne scripts n t u = Relieved scripts n t.solo.state t.seats.items u.solo.state u.seats.items

abbrev pub Rests : ℕ → Table → Table → Type 0
Rests n t u = Rested n t.solo.state u.solo.state u.splitter

abbrev pub EasesAll : List (List Op) → Table → Table → Type 0
EasesAll scripts t u = Eases scripts t.solo.state t.seats.items t.splitter u.solo.state u.seats.items u.splitter

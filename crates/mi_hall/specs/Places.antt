-- What the sections of a seat make of its view: each is one event over a state that the seat fits.
use Rattle.std.specs.Prelude.{◌≡◌, ℕ, ◌+◌, List, [], ◌∷◌, ◌++◌, Bool, false, Some, length, slice_get}
use Rattle.mi_board.specs.Boards.{BoardState, with_more}
use Rattle.mi_core.specs.Effects.{saw}
use Rattle.mi_core.specs.Events.{Can, Event, after}
use Rattle.mi_core.specs.Kept.{Kept}
use Rattle.mi_core.specs.Named.{IsNamed, Named}
use Rattle.mi_core.specs.State.{State, node_at}
use Rattle.mi_entries.specs.Actors.{Actor}
use Rattle.mi_entries.specs.Records.{shard_at}
use Rattle.mi_latch.specs.declared.slots.Slot.{Slot}
use Rattle.mi_latch.specs.declared.slots.Slot.TheVariants.{OfShard}
use Rattle.mi_latch.specs.Boards.{seeing, telling_same}
use Rattle.mi_latch.specs.Ends.{blend, child_mine, over}
use Rattle.mi_latch.specs.PageSteps.{items_for, noting}
use Rattle.mi_latch.specs.Shows.{Has, joined, known}
use Rattle.mi_latch.specs.Views.{Fits, IsOne, Sight, now, with_part}
use Rattle.mi_page.specs.Nodes.{Node}
use Rattle.mi_solo.specs.Viewing.{shown_to}
use Rattle.mi_world.specs.View.{View}
use Rattle.mi_hall.specs.Seats.{rows_out, seat_view}

-- the rows of the shard that it holds are in hand
abbrev pub HasRows : State → Sight → Type 0
HasRows c v = (n : ℕ) → v.mine.part.shard ≡ Some n → rows_out v.out n ≡ (shard_at c.shards n).rows

-- a kept state, which the seat of an actor that hasn't ended fits
pub record IsBacked (c : State) (v : Sight) : Type 0 where
  pub kept : Kept c
  pub fits : Fits c v.actor v.mine
  pub going : v.mine.part.ended ≡ false
  pub rows : HasRows c v

-- the seat after it gave the board back, was told so much and named these pages
abbrev pub gives_board : Sight → Actor → BoardState → Bool → List Named → List (ℕ × Slot) → Sight
gives_board v q b told names out = now v (seeing q b (record { told = told; names = names; high = v.mine.note.high; items = v.mine.note.items }) v.mine) out

-- the seat after it gave a page back, and was named these pages
abbrev pub gives_page : Sight → Actor → Node → List Named → List (ℕ × Slot) → Sight
gives_page v q n names out = now v (noting q names n v.mine) out

-- the seat after it gave the board back beside that page
abbrev pub gives_both : Sight → Actor → BoardState → Node → List Named → List (ℕ × Slot) → Sight
gives_both v q b n names out = now v (seeing q b (record { told = v.mine.told; names = names; high = n.high; items = items_for q n }) v.mine) out

-- the pages are named in the state after an event
abbrev pub AreNamed : State → List Named → Type 0
AreNamed t names = (x : Named) → IsOne x names → IsNamed t.pages x

-- what an event at the give of the board makes of its seat's view
abbrev pub BoardMakes : Event → (Bool → Bool) → (State → View → View → Type 0) → Type 0
BoardMakes e told relation = (c : State) (v : Sight) → IsBacked c v → Can c v.actor v.mine.part e → (q : Actor) → slice_get (after c v.actor v.mine.part e).actors v.actor ≡ Some q
    → (names : List Named) → AreNamed (after c v.actor v.mine.part e) names
    → (out : List (ℕ × Slot)) → HasRows (after c v.actor v.mine.part e) (gives_board v q (after c v.actor v.mine.part e).board (told v.mine.told) names out)
    → relation c (seat_view v) (seat_view (gives_board v q (after c v.actor v.mine.part e).board (told v.mine.told) names out))

-- what an event at the give of a page makes of its seat's view
abbrev pub PageMakes : Event → (State → View → View → Type 0) → Type 0
PageMakes e relation = (c : State) (v : Sight) → IsBacked c v → Can c v.actor v.mine.part e → (q : Actor) → slice_get (after c v.actor v.mine.part e).actors v.actor ≡ Some q
    → (n : Node) → node_at (after c v.actor v.mine.part e).pages q.page ≡ Some n → (names : List Named) → AreNamed (after c v.actor v.mine.part e) names
    → (out : List (ℕ × Slot)) → HasRows (after c v.actor v.mine.part e) (gives_page v q n names out)
    → relation c (seat_view v) (seat_view (gives_page v q n names out))

-- what an event at the give of the board, beside a page that is noted, makes of its seat's view
abbrev pub BothMake : Event → (State → View → View → Type 0) → Type 0
BothMake e relation = (c : State) (v : Sight) → IsBacked c v → Can c v.actor v.mine.part e → (q : Actor) → slice_get (after c v.actor v.mine.part e).actors v.actor ≡ Some q
    → (n : Node) → node_at (after c v.actor v.mine.part e).pages q.page ≡ Some n → (names : List Named) → AreNamed (after c v.actor v.mine.part e) names
    → (out : List (ℕ × Slot)) → HasRows (after c v.actor v.mine.part e) (gives_both v q (after c v.actor v.mine.part e).board n names out)
    → relation c (seat_view v) (seat_view (gives_both v q (after c v.actor v.mine.part e).board n names out))

-- nothing more is told
abbrev pub untold : Bool → Bool
untold told = told

-- the seat after it tried a shard or gave one back
abbrev pub gives_shard : Sight → Actor → List (ℕ × Slot) → Sight
gives_shard v q out = now v (with_part q v.mine) out

-- what an event at the take of a shard, at its failing, or at the give of a shard, makes of its seat's view
abbrev pub ShardMakes : Event → (State → View → View → Type 0) → Type 0
ShardMakes e relation = (c : State) (v : Sight) → IsBacked c v → Can c v.actor v.mine.part e → (q : Actor) → slice_get (after c v.actor v.mine.part e).actors v.actor ≡ Some q
    → (out : List (ℕ × Slot)) → HasRows (after c v.actor v.mine.part e) (gives_shard v q out) → relation c (seat_view v) (seat_view (gives_shard v q out))

-- the seat after it gave back a board with one more actor, and that actor's seat
abbrev pub forks : Sight → BoardState → List (ℕ × Slot) → Sight
forks v b out = known v.actor (seeing (saw b v.mine.part) (with_more b) (telling_same v.mine) v.mine) out ((length b.actors, child_mine b v.mine) ∷ []) v.absorbed (v.forked ++ length b.actors ∷ [])

abbrev pub fresh_seat : Sight → BoardState → Sight
fresh_seat v b = known (length b.actors) (child_mine b v.mine) [] [] [] []

-- the seat after it absorbed another
abbrev pub absorbing : Sight → Sight → Sight
absorbing v y = joined blend over v y

-- what holds of a seat's view holds of the view of a state that backs it
abbrev pub Needs : (View → Type 0) → Type 0
Needs of = (c : State) (v : Sight) → IsBacked c v → of (seat_view v) → of (shown_to c v.actor v.mine.part)

-- the rows of the shard that a seat holds are among what is out with it
abbrev pub HoldsRows : Sight → Type 0
HoldsRows v = (n : ℕ) → v.mine.part.shard ≡ Some n → Has v.out (n + 1) (OfShard (rows_out v.out n))

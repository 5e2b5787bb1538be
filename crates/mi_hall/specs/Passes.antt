-- What a pass is: a seat between two calls, with what its actor keeps in code.
use Rattle.std.specs.Prelude.{◌≡◌, ◌<◌, ℕ, ◌+◌, List, [], ◌∷◌, ◌++◌, Bool, true, Option, Some, None, Result, Ok, Err}
use Rattle.mi_base.specs.declared.records.Position.{Position}
use Rattle.mi_base.specs.History.{at_position, end_of}
use Rattle.mi_tree.specs.declared.answers.AllotRefusal.{AllotRefusal}
use Rattle.mi_tree.specs.declared.answers.AllotRefusal.TheVariants.{Memory, PagesFull}
use Rattle.mi_base.specs.Configuration.{Configuration}
use Rattle.mi_board.specs.Boards.{BoardState}
use Rattle.mi_core.specs.Named.{Named}
use Rattle.mi_entries.specs.Actors.{Actor, Pin}
use Rattle.mi_entries.specs.Records.{Rows}
use Rattle.mi_latch.specs.declared.slots.Slot.{Slot}
use Rattle.mi_latch.specs.declared.slots.Slot.TheVariants.{OfBoard, OfPage, OfShard, Vacant}
use Rattle.mi_latch.specs.Boards.{root_of}
use Rattle.mi_latch.specs.Naming.{names_of}
use Rattle.mi_latch.specs.Views.{IsOne, Mine, Seated, Sight}
use Rattle.mi_tree.specs.Legal.{cells_of}
use Rattle.mi_latch.specs.PageSteps.{halves_named}
use Rattle.mi_page.specs.Nodes.{Node, upper_half}
use Rattle.mi_solo.specs.declared.rows.ActorRow.{ActorRow}
use Rattle.mi_solo.specs.States.{actor_of}
use Rattle.atomic_table.specs.Seated.{TableId}
use Rattle.atomic_table.specs.Table.{rest}
use Rattle.std.proofs.Common.{refl, sym, ◌∙◌}
use Rattle.mi_world.specs.View.{View}
use Rattle.mi_hall.specs.Places.{gives_board, gives_page}
use Rattle.mi_hall.specs.Seats.{seat_view}

-- what its callers see: what the seat knows, and its table
pub record PassState : Type 0 where
  pub sight : Sight
  pub table : TableId

-- the record of an actor that has this row; its own updates the log has
abbrev pub row_actor : Configuration → Actor → ActorRow → Actor
row_actor settings r row = record (actor_of settings [] 0 row) { own = r.own }

-- nothing is out with the seat but the shard that its actor holds, whose rows are in hand
abbrev pub HasOut : Option ℕ → Option Rows → List (ℕ × Slot) → List (ℕ × Slot) → Type 0
HasOut None None out held = (out ≡ []) × (held ≡ [])
HasOut (Some k) (Some x) out held = (out ≡ (k + 1, OfShard x) ∷ []) × (held ≡ (k + 1, Vacant) ∷ [])
HasOut None (Some x) out held = ⊥
HasOut (Some k) None out held = ⊥

-- the seat is of this actor, whose record is the row, and which was told so much
pub record IsPass (me : Seated) (actor : ℕ) (row : ActorRow) (rows : Option Rows) (told : Bool) : Type 0 where
  pub live : me.0.live ≡ true
  pub actor_is : me.0.actor ≡ actor
  pub row_is : me.0.mine.part ≡ row_actor me.0.mine.note.board.settings me.0.mine.part row
  pub told_is : me.0.mine.told ≡ told
  pub out : HasOut me.0.mine.part.shard rows me.0.out me.1
  pub unborn : me.0.born ≡ []

-- the seat after it gave the board back: it has this row, was told so much, and was named the root
abbrev pub giving : Sight → ActorRow → BoardState → Bool → List (ℕ × Slot) → Sight
giving v row b told out = gives_board v (row_actor b.settings v.mine.part row) b told (root_of b) out

-- whether it was told that all pages are allotted, after this answer to a call for a page
abbrev pub told_after : Result (Unit {0}) AllotRefusal → Bool → Bool
told_after (Ok _) told = told
told_after (Err (PagesFull limit)) told = true
told_after (Err Memory) told = told

-- each page that it was told of has its word in the table
abbrev pub AreNear : ℕ → List Named → Type 0
AreNear words names = (x : Named) → IsOne x names → x.page + 17 < words

-- the pages that the page in hand names, which it took last
abbrev pub names_in : Slot → List Named
names_in (OfPage n) = names_of n
names_in (OfBoard b) = []
names_in (OfShard rows) = []
names_in Vacant = []

abbrev pub names_out : List (ℕ × Slot) → List Named
names_out [] = []
names_out (x ∷ out) = names_in x.1

-- the seat after it gave the page in hand back as n: it has this row, and was told of the pages that the page named
abbrev pub turning : Sight → ActorRow → Node → Sight
turning v row n = gives_page v (row_actor v.mine.note.board.settings v.mine.part row) n (names_out v.out) (rest v.out)

-- the cells of its pin are those of the pinned log
abbrev pub HasCells : Mine → Type 0
HasCells m = (p : Pin) → m.part.pin ≡ Some p → p.cells ≡ cells_of m.note.board.settings (at_position m.log p.at)

-- the position is the end of the log that it has seen
abbrev pub IsAt : Position → Mine → Type 0
IsAt at m = at ≡ end_of m.log

-- the fresh page in hand has its word in the table
abbrev pub HasWord : ℕ → Option ℕ → Type 0
HasWord words None = Unit {0}
HasWord words (Some p) = p + 17 < words

-- the seat after it gave the lower half of the page in hand back: it has this row, was told of the fresh page and of the pages that the page named, and
-- has the upper half in the place of the fresh page's slot
abbrev pub halves_in : ℕ → Slot → List Named
halves_in child (OfPage n) = halves_named child n ++ names_of n
halves_in child (OfBoard b) = []
halves_in child (OfShard rows) = []
halves_in child Vacant = []

abbrev pub uppers_in : ℕ → Slot → List (ℕ × Slot)
uppers_in child (OfPage n) = (child + 17, OfPage (upper_half n)) ∷ []
uppers_in child (OfBoard b) = []
uppers_in child (OfShard rows) = []
uppers_in child Vacant = []

abbrev pub slot_out : List (ℕ × Slot) → Slot
slot_out [] = Vacant
slot_out (x ∷ out) = x.1

abbrev pub halving_turn : Sight → ActorRow → ℕ → Node → Sight
halving_turn v row child n =
    gives_page v (row_actor v.mine.note.board.settings v.mine.part row) n (halves_in child (slot_out v.out)) (uppers_in child (slot_out v.out) ++ rest (rest v.out))

-- what its actor has and knows
abbrev pub place_view : PassState → View
place_view p = seat_view p.sight

-- it stays at its table
abbrev pub Stays : PassState → PassState → Type 0
Stays p q = q.table ≡ p.table

pub stays_none : (p : PassState) → Stays p p
stays_none p = refl

-- the two are at one table
abbrev pub IsKin : PassState → PassState → Type 0
IsKin p q = p.table ≡ q.table

pub stays_kin : (p q : PassState) → Stays p q → IsKin p q
stays_kin p q h = sym h

pub kin_back : (p q : PassState) → IsKin p q → IsKin q p
kin_back p q h = sym h

pub kin_on : (p q r : PassState) → IsKin p q → IsKin q r → IsKin p r
kin_on p q r h k = h ∙ k

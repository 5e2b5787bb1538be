-- A board as its callers see it, and what each of its calls does.
use Rattle.std.specs.Prelude.{count_by, ◌≡◌, ◌≢◌, ◌<◌, ℕ, ℤ, ◌+◌, ◌==◌, List, [], ◌∷◌, ◌++◌, drop, length, map, Bool, true, false, cond, ◌&&◌, ◌||◌, not, IsTrue, Option, Some, None, Result, Ok, Err}
use Rattle.std.specs.List.{filter, find, list_any}
use Rattle.mi_base.specs.declared.records.LogEvent.{LogEvent}
use Rattle.mi_base.specs.declared.records.LogEvent.TheVariants.{Update as Made, Split}
use Rattle.mi_base.specs.declared.records.Position.{Position}
use Rattle.mi_base.specs.declared.records.Update.{Update}
use Rattle.mi_base.specs.declared.refusals.NoMemory.{NoMemory}
use Rattle.mi_base.specs.Configuration.{Configuration, metric_space, space_of}
use Rattle.mi_base.specs.History.{at_position, end_of, is_live, live, updates_of}
use Rattle.mi_base.specs.Permutations.{begins}
use Rattle.mi_base.specs.Sorting.{SameElements}
use Rattle.mi_board.specs.declared.actors.ActorState.{ActorState}
use Rattle.mi_board.specs.Actors.{actor_at, change, claims_leaf_of, gone, idle, is_claimed, with_claim, with_pin, with_reserved, without_claim, without_pin}
use Rattle.mi_board.specs.Floors.{earliest_in, least_pin}
use Rattle.mi_tree.specs.declared.answers.AllotRefusal.{AllotRefusal}
use Rattle.mi_tree.specs.declared.answers.AllotRefusal.TheVariants as allot
use Rattle.mi_tree.specs.declared.answers.CommitRefusal.{CommitRefusal}
use Rattle.mi_tree.specs.declared.answers.CommitRefusal.TheVariants as commit
use Rattle.mi_tree.specs.declared.answers.LeafClaim.{LeafClaim}
use Rattle.mi_tree.specs.declared.answers.LeafClaim.TheVariants.{Taken, Held}
use Rattle.mi_tree.specs.declared.answers.Look.{Look}
use Rattle.mi_tree.specs.declared.answers.ReserveRefusal.{ReserveRefusal}
use Rattle.mi_tree.specs.declared.answers.ReserveRefusal.TheVariants as reserve
use Rattle.mi_tree.specs.declared.answers.Work.{Work}
use Rattle.mi_tree.specs.declared.answers.Work.TheVariants as work
use Rattle.mi_tree.specs.declared.counts.Placed.{Placed}
use Rattle.mi_tree.specs.declared.outcomes.Leaf.{Leaf}
use Rattle.mi_tree.specs.Catalog.{CatalogState, prefixes_of}
use Rattle.mi_tree.specs.Cells.{Grid, grid_of, same_cell}
use Rattle.mi_tree.specs.Counting.{belongs, leaves_beginning, is_crowded, is_wanted, placed_object}
use Rattle.mi_tree.specs.Legal.{MayFollow, cells_of}

-- the settings of the index, its log, what each actor claims, has reserved and has pinned, the leaves that were split and not yet swept,
-- oldest first, those that are passed over for want of pages, in dictionary order, the root of the pages with its level, how many pages
-- are allotted, and the position of the catalog that is kept for pins
pub record BoardState : Type 0 where
  pub settings : Configuration
  pub log : List LogEvent
  pub actors : List ActorState
  pub retired : List (List ℕ)
  pub passed_over : List (List ℕ)
  pub root : ℕ
  pub height : ℕ
  pub allotted : ℕ
  pub kept_at : Option Position

-- how a board's space places vectors
abbrev pub grid_in : BoardState → Grid
grid_in b = grid_of (space_of b.settings) b.settings.levels

-- the cells after the log
abbrev pub cells_in : Configuration → List LogEvent → CatalogState
cells_in c log = record { pivots = length c.pivots; levels = c.levels; leaves = cells_of c log }

-- a board that was just opened: page 0 is the root and the one page
abbrev pub opened_board : Configuration → List ActorState → BoardState
opened_board c actors = record { settings = c; log = []; actors = actors; retired = []; passed_over = []; root = 0; height = 0; allotted = 1; kept_at = None }

-- the board with one actor's state changed
abbrev pub with_actor : (ActorState → ActorState) → ℕ → BoardState → BoardState
with_actor f actor b = record b { actors = change f actor b.actors }

-- the board with one event more, that this actor made
abbrev pub with_event : LogEvent → (ActorState → ActorState) → ℕ → BoardState → BoardState
with_event e f actor b = record (with_actor f actor b) { log = b.log ++ e ∷ [] }

-- the floor is the least pinned position, or the end of the log where nothing is pinned
abbrev pub floor_of : BoardState → Position
floor_of b = least_pin (end_of b.log) b.actors

-- where the log and the pages stand
abbrev pub look_of : BoardState → Look
look_of b = record { at = end_of b.log; root = b.root; height = b.height; floor = floor_of b }

-- an actor is made
abbrev pub with_more : BoardState → BoardState
with_more b = record b { actors = b.actors ++ idle ∷ [] }

-- it gets the next number, or memory was wanted, or a number
abbrev pub AddsActor : BoardState → Result ℕ NoMemory → BoardState → Type 0
AddsActor old (Ok actor) new = (actor < 4294967295) × ((actor ≡ length old.actors) × (new ≡ with_more old))
AddsActor old (Err e) new = new ≡ old

-- the end of the log is pinned, and its catalog is the one that is kept
abbrev pub pinned : ℕ → BoardState → BoardState
pinned actor b = record (with_actor (with_pin (end_of b.log)) actor b) { kept_at = Some (end_of b.log) }

-- two positions are one
abbrev pub same_position : Position → Position → Bool
same_position p q = (p.updates == q.updates) && (p.splits == q.splits)

abbrev pub is_kept_at : Position → Option Position → Bool
is_kept_at at None = false
is_kept_at at (Some p) = same_position p at

-- how many leaves a pin copies: none where the catalog of the end is the one that is kept, else all
abbrev pub leaves_copied : BoardState → ℕ
leaves_copied b = cond (is_kept_at (end_of b.log) b.kept_at) 0 (length (cells_of b.settings b.log))

-- the log has as many updates as it may have
abbrev pub IsFull : BoardState → ℕ → Type 0
IsFull b limit = (limit ≡ b.settings.updates) × (length (updates_of b.log) ≡ limit)

abbrev pub HasRoom : BoardState → Type 0
HasRoom b = length (updates_of b.log) < b.settings.updates

-- a reservation comes with the look of that moment, or is refused exactly at a full log
abbrev pub Reserves : BoardState → ℕ → Result Look ReserveRefusal → BoardState → Type 0
Reserves old actor (Ok look) new = HasRoom old × ((look ≡ look_of new) × (new ≡ with_actor (with_reserved true) actor old))
Reserves old actor (Err (reserve.Full limit)) new = IsFull old limit × (new ≡ old)
Reserves old actor (Err reserve.Memory) new = new ≡ old

-- a claim is taken where nobody has the leaf, or is another actor's
abbrev pub ClaimsLeaf : BoardState → ℕ → List ℕ → LeafClaim → BoardState → Type 0
ClaimsLeaf old actor perm (Taken leaf) new =
    (leaves_beginning perm (cells_of old.settings old.log) ≡ leaf ∷ []) × ((is_claimed leaf.prefix old.actors ≡ false) × (new ≡ with_actor (with_claim leaf.prefix) actor old))
ClaimsLeaf old actor perm (Held by) new =
    (by < length old.actors) × ((by ≢ actor) × (IsTrue (claims_leaf_of perm (actor_at old.actors by).claim) × (new ≡ old)))

-- the leaf of a permutation may take no insert before it is split
abbrev pub crowded_at : BoardState → List ℕ → Bool
crowded_at b perm = list_any (λ leaf. begins leaf.prefix perm && is_crowded b.settings.levels b.settings.cell leaf) (cells_of b.settings b.log)

-- an actor may commit an update of the leaf of this permutation: it claims the leaf, and has reserved
pub record MayCommit (b : BoardState) (actor : ℕ) (perm : List ℕ) : Type 0 where
  pub known : actor < length b.actors
  pub claims : IsTrue (claims_leaf_of perm (actor_at b.actors actor).claim)
  pub reserved : (actor_at b.actors actor).reserved ≡ true

-- an object that may be inserted, with its permutation and key distance
pub record MayInsert (b : BoardState) (id : ℕ) (vector : List ℤ) (perm : List ℕ) (distance : ℕ) : Type 0 where
  pub fits : IsTrue ((metric_space b.settings).fits vector)
  pub absent : is_live id (updates_of b.log) ≡ false
  pub perm_is : perm ≡ (grid_in b).perm vector
  pub distance_is : distance ≡ (grid_in b).distance vector

-- a live object of this identifier has this permutation
abbrev pub MayDelete : BoardState → ℕ → List ℕ → Type 0
MayDelete b id perm = IsTrue (list_any (λ o. (o.id == id) && same_cell perm ((grid_in b).perm o.vector)) (live (updates_of b.log)))

-- an update is entered under its number, or is refused: exactly at a full log, and else exactly for an insert into a crowded leaf
abbrev pub Commits : BoardState → ℕ → ℕ → Update → Bool → Result ℕ CommitRefusal → BoardState → Type 0
Commits old actor op u crowded (Ok number) new =
    HasRoom old × ((crowded ≡ false) × ((number ≡ length (updates_of old.log) + 1) × (new ≡ with_event (Made actor op u) (with_reserved false) actor old)))
Commits old actor op u crowded (Err (commit.Full limit)) new = IsFull old limit × (new ≡ old)
Commits old actor op u crowded (Err commit.Crowded) new = HasRoom old × ((crowded ≡ true) × (new ≡ old))

-- the next page is allotted, or is refused exactly where as many are as may be
abbrev pub Allots : BoardState → Result ℕ AllotRefusal → BoardState → Type 0
Allots old (Ok page) new = (old.allotted < old.settings.pages) × ((page ≡ old.allotted) × (new ≡ record old { allotted = old.allotted + 1 }))
Allots old (Err (allot.PagesFull limit)) new = (limit ≡ old.settings.pages) × ((old.allotted ≡ limit) × (new ≡ old))
Allots old (Err allot.Memory) new = ⊥

-- a root one level above the one that there was
abbrev pub grown : ℕ → ℕ → BoardState → BoardState
grown level root b = record b { root = root; height = level }

-- the root changes exactly where it is one level below this one
abbrev pub Grows : BoardState → ℕ → ℕ → Bool → BoardState → Type 0
Grows old level root true new = (old.height + 1 ≡ level) × (new ≡ grown level root old)
Grows old level root false new = (old.height + 1 ≢ level) × (new ≡ old)

-- the prefix of the leaf that an actor claims, where it claims one
abbrev pub prefix_or : Option (List ℕ) → List ℕ
prefix_or None = []
prefix_or (Some p) = p

abbrev pub leaf_claimed : BoardState → ℕ → List ℕ
leaf_claimed b actor = prefix_or (actor_at b.actors actor).claim

-- an actor may publish the split of the leaf that it claims: the leaf is to be split, and these are its live objects
pub record MayPublish (b : BoardState) (actor : ℕ) (objects : List Placed) (prefix : List ℕ) : Type 0 where
  pub known : actor < length b.actors
  pub claims : (actor_at b.actors actor).claim ≡ Some prefix
  pub wanted : MayFollow b.settings b.log (Split prefix)
  pub objects_are : SameElements objects (map (placed_object (grid_in b)) (filter (belongs (grid_in b) prefix) (live (updates_of b.log))))

-- the leaf that the actor claimed is split: it is retired, and no more passed over
abbrev pub with_split : List ℕ → ℕ → BoardState → BoardState
with_split prefix actor b = record (with_event (Split prefix) without_claim actor b) {
  retired = b.retired ++ prefix ∷ [];
  passed_over = filter (λ q. not (same_cell prefix q)) b.passed_over;
}

-- a split is published, or memory was wanted
abbrev pub Publishes : BoardState → ℕ → List ℕ → Result Position NoMemory → BoardState → Type 0
Publishes old actor prefix (Ok at) new = (at ≡ end_of new.log) × (new ≡ with_split prefix actor old)
Publishes old actor prefix (Err e) new = new ≡ old

-- a leaf is passed over
abbrev pub is_passed : List ℕ → BoardState → Bool
is_passed p b = list_any (same_cell p) b.passed_over

-- the leaves that were passed over, and this one, in dictionary order
abbrev pub passing : List ℕ → BoardState → List (List ℕ)
passing p b = filter (λ q. same_cell p q || is_passed q b) (prefixes_of (cells_of b.settings b.log))

-- the split of the leaf that the actor claimed is given up: for want of pages, or else
abbrev pub given_up : Bool → ℕ → BoardState → BoardState
given_up pages actor b = record (with_actor without_claim actor b) { passed_over = cond pages (passing (leaf_claimed b actor) b) b.passed_over }

-- the retired leaf that is swept next: that of the earliest split, where the floor has it
abbrev pub next_sweep : BoardState → Option (List ℕ)
next_sweep b = earliest_in (at_position b.log (floor_of b)) b.retired

-- a leaf is to be split, nobody claims it, and it isn't passed over
abbrev pub is_open : BoardState → Leaf → Bool
is_open b leaf = is_wanted b.settings.levels b.settings.cell leaf && (not (is_claimed leaf.prefix b.actors) && not (is_passed leaf.prefix b))

-- the first such leaf in dictionary order
abbrev pub next_split : BoardState → Option Leaf
next_split b = find (is_open b) (cells_of b.settings b.log)

-- the splitter sweeps the leaf that was split first, where the floor has its split, else splits the first open leaf, which it then claims,
-- else has nothing to do
abbrev pub GivesWork : BoardState → ℕ → Work → BoardState → Type 0
GivesWork old actor (work.Sweep prefix) new = (next_sweep old ≡ Some prefix) × (new ≡ record old { retired = drop 1 old.retired })
GivesWork old actor (work.Split leaf) new =
    (next_sweep old ≡ None) × ((next_split old ≡ Some leaf) × (new ≡ with_actor (with_claim leaf.prefix) actor old))
GivesWork old actor work.Idle new = (next_sweep old ≡ None) × ((next_split old ≡ None) × (new ≡ old))

-- how many of the actors haven't departed
abbrev pub open_count : List ActorState → ℕ
open_count actors = count_by (λ a. not a.departed) actors

-- What sections of the board make of the board and of their actor's row: claims of leaves, a splitter's work, the end of a split, pins, fresh pages.
use Rattle.std.specs.Prelude.{◌≡◌, ◌≤◌, ◌<◌, ◌+◌, ℕ, List, true, Some, None, Result, Ok, Err, length, map}
use Rattle.std.specs.Arc.{arc_value}
use Rattle.mi_base.specs.declared.records.Position.{Position}
use Rattle.mi_base.specs.declared.refusals.NoMemory.{NoMemory}
use Rattle.mi_base.specs.History.{end_of}
use Rattle.mi_base.specs.Prefixes.{all_below}
use Rattle.mi_board.specs.Boards.{BoardState, ClaimsLeaf, GivesWork, MayPublish, Publishes, cells_in, floor_of, leaf_claimed, look_of, next_sweep, pinned}
use Rattle.mi_entries.specs.Entries.{grid}
use Rattle.mi_entries.specs.Marks.{cell_start}
use Rattle.mi_solo.specs.declared.rows.ActorRow.{ActorRow}
use Rattle.mi_solo.specs.declared.rows.PinRow.{PinRow}
use Rattle.mi_solo.specs.declared.rows.SplitRow.{SplitRow}
use Rattle.mi_solo.specs.Placing.{placed_entry}
use Rattle.mi_tree.specs.declared.answers.AllotRefusal.{AllotRefusal}
use Rattle.mi_tree.specs.declared.answers.AllotRefusal.TheVariants.{Memory, PagesFull}
use Rattle.mi_tree.specs.declared.answers.LeafClaim.{LeafClaim}
use Rattle.mi_tree.specs.declared.answers.LeafClaim.TheVariants.{Taken, Held}
use Rattle.mi_tree.specs.declared.answers.Look.{Look}
use Rattle.mi_tree.specs.declared.answers.Work.{Work}
use Rattle.mi_tree.specs.declared.answers.Work.TheVariants.{Sweep, Split, Idle}

-- the row sees the log of the board, and has the leaf that was taken
abbrev pub row_claims : BoardState → ActorRow → LeafClaim → ActorRow
row_claims b row (Taken leaf) = record row { seen = length b.log; claim = Some leaf.prefix }
row_claims b row (Held by) = record row { seen = length b.log }

-- what the claim of a permutation's leaf makes of them
abbrev pub ClaimsRow : ℕ → List ℕ → LeafClaim → BoardState → ActorRow → BoardState → ActorRow → Type 0
ClaimsRow a perm claim b row board made = ClaimsLeaf b a perm claim board × (made ≡ row_claims board row claim)

-- the row sees the log of the board and this floor, and has the leaf that was given: to sweep from its first key on, or to split
abbrev pub row_works : Position → BoardState → ActorRow → Work → ActorRow
row_works floor b row (Sweep p) = record row { seen = length b.log; floor = floor; sweep = Some (record { leaf = p; mark = cell_start (grid b.settings) p }) }
row_works floor b row (Split leaf) = record row { seen = length b.log; floor = floor; claim = Some leaf.prefix }
row_works floor b row Idle = record row { seen = length b.log; floor = floor }

-- what a splitter's next work makes of them
abbrev pub WorksRow : ℕ → Work → BoardState → ActorRow → BoardState → ActorRow → Type 0
WorksRow a work b row board made = GivesWork b a work board × (made ≡ row_works (floor_of b) board row work)

-- the leaf that is swept next is a cell of the pivots
abbrev pub SweepFits : BoardState → Type 0
SweepFits b = (p : List ℕ) → next_sweep b ≡ Some p → (length p ≤ b.settings.levels) × (all_below (length b.settings.pivots) p ≡ true)

-- the row has a split, and the board takes the objects that it gathered
abbrev pub MayEnter : ℕ → BoardState → ActorRow → Type 0
MayEnter a b row = (w : SplitRow) × (row.split ≡ Some w) × MayPublish b a (map placed_entry w.gathered.items) (leaf_claimed b a)

-- the row sees the log of the board, and its split and its claim are over where the split was published
abbrev pub row_publishes : BoardState → ActorRow → Result Position NoMemory → ActorRow
row_publishes b row (Ok at) = record row { seen = length b.log; claim = None; split = None }
row_publishes b row (Err e) = record row { seen = length b.log }

-- what the publishing of a split makes of them
abbrev pub PublishesRow : ℕ → Result Position NoMemory → BoardState → ActorRow → BoardState → ActorRow → Type 0
PublishesRow a result b row board made = Publishes b a (leaf_claimed b a) result board × (made ≡ row_publishes board row result)

-- what a pin makes of them, or that memory was wanted
abbrev pub PinsRow : ℕ → Result Look NoMemory → BoardState → ActorRow → BoardState → ActorRow → Type 0
PinsRow a (Ok look) b row board made =
    (look ≡ look_of board) × (board ≡ pinned a b) × (p : PinRow) × (p.at ≡ end_of b.log) × (arc_value p.cells ≡ cells_in b.settings b.log)
    × (made ≡ record row { seen = length b.log; floor = floor_of b; pin = Some p })
PinsRow a (Err e) b row board made = (board ≡ b) × (made ≡ record row { seen = length b.log })

-- what an allotment makes of them: a page is taken in hand, or all are allotted, or memory is wanted
abbrev pub AllotsRow : Result (Unit {0}) AllotRefusal → BoardState → ActorRow → BoardState → ActorRow → Type 0
AllotsRow (Ok _) b row board made =
    (b.allotted < b.settings.pages) × (board ≡ record b { allotted = b.allotted + 1 })
    × (made ≡ record row { seen = length b.log; hand = record { fresh = Some b.allotted; owed = row.hand.owed } })
AllotsRow (Err (PagesFull limit)) b row board made = (limit ≡ b.settings.pages) × (b.allotted ≡ limit) × (board ≡ b) × (made ≡ record row { seen = length b.log })
AllotsRow (Err Memory) b row board made = (board ≡ b) × (made ≡ record row { seen = length b.log; lacked = true })

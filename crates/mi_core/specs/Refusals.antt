-- Why a call was refused, as the board or a page has it.
use Rattle.std.specs.Prelude.{◌≡◌, ◌≢◌, ◌≤◌, ℕ, ℤ, List, true, length, Some}
use Rattle.mi_base.specs.History.{updates_of}
use Rattle.mi_page.specs.Nodes.{Node, item_count}
use Rattle.mi_core.specs.Effects.{trim_leaf}
use Rattle.mi_entries.specs.Actors.{Actor}
use Rattle.mi_board.specs.Boards.{BoardState, crowded_at}
use Rattle.mi_core.specs.State.{State, board_actor, node_at}
use Rattle.mi_entries.specs.Entries.{grid}

-- the log is full, the leaf of a vector is too full, all pages are allotted, another actor holds a leaf, a page is full, or the root is at a level already
pub data Refusal : Type 0 where
  full : Refusal
  crowded : (vector : List ℤ) → Refusal
  pages_full : Refusal
  held : (leaf : List ℕ) (by : ℕ) → Refusal
  page_full : (page : ℕ) → Refusal
  grown : (level : ℕ) → Refusal

-- another actor claims the leaf
pub record IsHeld (b : BoardState) (a : ℕ) (leaf : List ℕ) (by : ℕ) : Type 0 where
  pub claim : (board_actor b by).claim ≡ Some leaf
  pub other : by ≢ a

-- a page has 32 items, after a trim where it is a leaf page
pub record IsPageFull (s : State) (floor page : ℕ) : Type 0 where
  pub node : Node
  pub there : node_at s.pages page ≡ Some node
  pub items : item_count (trim_leaf floor node) ≡ 32

-- the cause of each; grown where the root is at least at that level already
abbrev pub Because : State → ℕ → Actor → Refusal → Type 0
Because s a r full = length (updates_of s.board.log) ≡ s.board.settings.updates
Because s a r (crowded vector) = crowded_at s.board ((grid s.board.settings).perm vector) ≡ true
Because s a r pages_full = s.board.allotted ≡ s.board.settings.pages
Because s a r (held leaf by) = IsHeld s.board a leaf by
Because s a r (page_full page) = IsPageFull s r.floor.updates page
Because s a r (grown level) = level ≤ s.board.height

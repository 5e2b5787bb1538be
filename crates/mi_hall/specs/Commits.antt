-- What commits make of the values in hand: the board, a page, and the rows of a shard.
use Rattle.std.specs.Prelude.{◌≡◌, ◌≤◌, ◌<◌, ◌^◌, ◌==◌, ◌+◌, [], ◌∷◌, ℕ, List, Option, Some, None, true, false, length}
use Rattle.std.specs.List.{find}
use Rattle.mi_base.specs.Configuration.{Configuration}
use Rattle.mi_base.specs.History.{updates_of}
use Rattle.mi_base.specs.Permutations.{key_distance, permutation_of}
use Rattle.mi_base.specs.Prefixes.{all_below}
use Rattle.mi_base.specs.declared.records.Update.TheVariants.{Delete}
use Rattle.mi_board.specs.Boards.{BoardState, HasRoom, IsFull, MayCommit, MayDelete}
use Rattle.mi_core.specs.Effects.{mark_entry, with_update}
use Rattle.mi_entries.specs.Records.{Rows, ShardRecord, without_id}
use Rattle.mi_latch.specs.declared.slots.Slot.TheVariants.{OfPage, OfShard}
use Rattle.mi_latch.specs.Views.{Sight}
use Rattle.mi_page.specs.Entries.{has_living}
use Rattle.mi_page.specs.Nodes.{Node}
use Rattle.mi_solo.specs.declared.rows.ActorRow.{ActorRow}
use Rattle.mi_solo.specs.Seeking.{EndsAfter, PointsDown, PointsRight}
use Rattle.mi_solo.specs.States.{actor_of}
use Rattle.mi_world.specs.declared.answers.Commit.{Commit}
use Rattle.mi_world.specs.declared.answers.Commit.TheVariants.{Crowded, Done, Down, Full, PageFull, Right}
use Rattle.mi_hall.specs.Places.{gives_both}

-- the seat after it gave the board back, beside this page and these rows of the shard k: it has this row, its own updates are those that the log
-- has of it, and it has noted the page
abbrev pub committing : Sight → ActorRow → BoardState → ℕ → Node → ℕ → Rows → Sight
committing v row b page n k rows = gives_both v (actor_of b.settings b.log v.actor row) b n [] ((page + 17, OfPage n) ∷ (k + 1, OfShard rows) ∷ [])

-- and after the page went back too
abbrev pub commits_to : Sight → ActorRow → BoardState → Node → ℕ → Rows → Sight
commits_to v row b n k rows = gives_both v (actor_of b.settings b.log v.actor row) b n [] ((k + 1, OfShard rows) ∷ [])

-- the key of the identifier's record under the leaf that is claimed fits into a key
pub record FitsKey (c : Configuration) (row : ActorRow) (x : Rows) (id : ℕ) : Type 0 where
  pub leaf : List ℕ
  pub claim : row.claim ≡ Some leaf
  pub depth : length leaf ≤ c.levels
  pub pivots : all_below (length c.pivots) leaf ≡ true
  pub has : ShardRecord
  pub found : find (λ y. y.id == id) x.records ≡ Some has
  pub distance : key_distance has.dists < 2 ^ 27
  pub birth : has.birth < 2 ^ 30

-- what a commit answers of a page before it sees the board: the key lies elsewhere, and the page is noted
abbrev pub SeeksRow : ℕ → ℕ → Node → ActorRow → Option Commit → ActorRow → Type 0
SeeksRow page key n row None made = EndsAfter n 0 key × (made ≡ row)
SeeksRow page key n row (Some (Down p)) made = PointsDown n 0 key p × (made ≡ record row { page = page })
SeeksRow page key n row (Some (Right p)) made = PointsRight n 0 key p × (made ≡ record row { page = page })
SeeksRow page key n row (Some (Full limit)) made = ⊥
SeeksRow page key n row (Some Crowded) made = ⊥
SeeksRow page key n row (Some PageFull) made = ⊥
SeeksRow page key n row (Some (Done number)) made = ⊥

-- the board takes the delete of the identifier's object, and the page has its entry
pub record MayEnterDelete (a id key : ℕ) (b : BoardState) (n : Node) (x : Rows) : Type 0 where
  pub has : ShardRecord
  pub found : find (λ y. y.id == id) x.records ≡ Some has
  pub commits : MayCommit b a (permutation_of has.dists)
  pub object : MayDelete b id (permutation_of has.dists)
  pub leaf : n.level ≡ 0
  pub living : HasRoom b → has_living key n.entries ≡ true

-- the log is full: the board, the page and the rows stay, and the page is noted
pub record OnlyMeets (page : ℕ) (b : BoardState) (n : Node) (x : Rows) (row : ActorRow) (board : BoardState) (new : Node) (left : Rows) (made : ActorRow) : Type 0 where
  pub board_is : board ≡ b
  pub same : new ≡ n
  pub rows_are : left ≡ x
  pub row_is : made ≡ record row { seen = length b.log; page = page }

-- the log has the delete, the entry its number, and the shard no record of the identifier any more
pub record EntersDelete (a page op id key number : ℕ) (b : BoardState) (n : Node) (x : Rows) (row : ActorRow) (board : BoardState) (new : Node) (left : Rows) (made : ActorRow) : Type 0 where
  pub room : HasRoom b
  pub number_is : number ≡ length (updates_of b.log) + 1
  pub board_is : board ≡ with_update a op (Delete id) b
  pub marked : new ≡ mark_entry key number n
  pub rows_are : left ≡ without_id id x
  pub row_is : made ≡ record row { seen = length board.log; reserved = false; reserved_here = false; page = page }

-- what a delete answers whose key lies in the page, and what it makes of what is in hand and of the row
abbrev pub DeletesRow : ℕ → ℕ → ℕ → ℕ → ℕ → BoardState → Node → Rows → ActorRow → Commit → BoardState → Node → Rows → ActorRow → Type 0
DeletesRow a page op id key b n x row (Full limit) board new left made = IsFull b limit × OnlyMeets page b n x row board new left made
DeletesRow a page op id key b n x row (Done number) board new left made = EntersDelete a page op id key number b n x row board new left made
DeletesRow a page op id key b n x row (Down p) board new left made = ⊥
DeletesRow a page op id key b n x row (Right p) board new left made = ⊥
DeletesRow a page op id key b n x row Crowded board new left made = ⊥
DeletesRow a page op id key b n x row PageFull board new left made = ⊥

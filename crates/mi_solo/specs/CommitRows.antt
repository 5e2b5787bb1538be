-- What a commit makes of the board, its page and the rows of its shard, all in hand, and of its actor's row.
use Rattle.std.specs.Prelude.{◌≡◌, ◌≤◌, ◌<◌, ◌+◌, ◌^◌, ℕ, ℤ, List, Some, None, true, false, length, slice_get}
use Rattle.mi_base.specs.declared.records.Update.TheVariants.{Insert}
use Rattle.mi_base.specs.Configuration.{Configuration}
use Rattle.mi_base.specs.History.{updates_of}
use Rattle.mi_base.specs.Permutations.{key_distance}
use Rattle.mi_board.specs.Boards.{BoardState, HasRoom, crowded_at}
use Rattle.mi_core.specs.Effects.{put_entry, trim_leaf, with_update}
use Rattle.mi_core.specs.Kept.{Kept}
use Rattle.mi_core.specs.State.{State, node_at}
use Rattle.mi_entries.specs.Actors.{Actor}
use Rattle.mi_entries.specs.Entries.{grid}
use Rattle.mi_entries.specs.Records.{Rows, home, shard_at, with_record}
use Rattle.mi_key.specs.declared.entries.Entry.{Entry}
use Rattle.mi_page.specs.Entries.{without_dead}
use Rattle.mi_page.specs.Nodes.{Node, item_count}
use Rattle.mi_solo.specs.declared.rows.ActorRow.{ActorRow}
use Rattle.mi_solo.specs.Seeking.{EndsAfter, PointsRight}
use Rattle.mi_solo.specs.States.{actor_of}
use Rattle.mi_solo.specs.Viewing.{shown_to}
use Rattle.mi_world.specs.declared.answers.Commit.{Commit}
use Rattle.mi_world.specs.declared.answers.Commit.TheVariants as commit
use Rattle.mi_world.specs.LeafKeys.{key_under}
use Rattle.mi_world.specs.Pages.{MayInsert}
use Rattle.mi_world.specs.View.{prefix_or}

-- a kept state has what is in hand: the board, the page, the rows of the shard k; and the record of this actor, which has this row
pub record IsAtHand (a page k : ℕ) (b : BoardState) (n : Node) (rows : Rows) (row : ActorRow) : Type 0 where
  pub state : State
  pub kept : Kept state
  pub part : Actor
  pub there : slice_get state.actors a ≡ Some part
  pub row_is : part ≡ actor_of b.settings b.log a row
  pub board_is : state.board ≡ b
  pub page_is : node_at state.pages page ≡ Some n
  pub rows_are : (shard_at state.shards k).rows ≡ rows

-- the key of an object under the leaf that the row claims
abbrev pub key_in_row : Configuration → ActorRow → List ℕ → ℕ → ℕ → ℕ
key_in_row settings row dists id birth = key_under settings (prefix_or row.claim) (key_distance dists) id birth

-- the number of the board's next update
abbrev pub next_birth : BoardState → ℕ
next_birth b = length (updates_of b.log) + 1

-- what an insert needs of what is in hand: its identifier is one, its actor may insert, and the page is a leaf page and begins no later than at the key
pub record MayEnter (a page id : ℕ) (vector : List ℤ) (dists : List ℕ) (b : BoardState) (n : Node) (rows : Rows) (row : ActorRow) : Type 0 where
  pub hand : IsAtHand a page (home id) b n rows row
  pub small : id < 2 ^ 40
  pub may : MayInsert (shown_to hand.state a hand.part) id vector dists
  pub leaf : n.level ≡ 0
  pub low : n.low ≤ key_in_row b.settings row dists id (next_birth b)

-- nothing changes but that the board is seen, and the page noted
pub record OnlyMeets (page : ℕ) (b : BoardState) (n : Node) (rows : Rows) (row : ActorRow) (board : BoardState) (new : Node) (kept : Rows) (made : ActorRow) : Type 0 where
  pub board_is : board ≡ b
  pub page_is : new ≡ n
  pub rows_are : kept ≡ rows
  pub row_is : made ≡ record row { seen = length b.log; page = page }

-- the entry of a new object
pub record IsMade (key birth : ℕ) (vector : List ℤ) (dists : List ℕ) (e : Entry) : Type 0 where
  pub key_is : e.key ≡ key
  pub vector_is : e.vector ≡ vector
  pub dists_are : e.dists.items ≡ dists
  pub birth_is : e.birth ≡ birth
  pub death_is : e.death ≡ None

-- the insert enters the log, its entry the page, and its record the shard
pub record PutsEntry (a op id page : ℕ) (e : Entry) (b : BoardState) (n : Node) (rows : Rows) (row : ActorRow) (board : BoardState) (new : Node) (kept : Rows) (made : ActorRow) : Type 0 where
  pub board_is : board ≡ with_update a op (Insert id e.vector) b
  pub page_is : new ≡ put_entry row.floor.updates e n
  pub rows_are : kept ≡ with_record (record { id = id; birth = e.birth; dists = e.dists.items }) rows
  pub row_is : made ≡ record row { seen = length board.log; reserved = false; reserved_here = false; page = page }

-- what an insert answers and makes where its key lies in the page
abbrev pub EntersRow : ℕ → ℕ → ℕ → ℕ → ℕ → List ℤ → List ℕ → Commit → BoardState → Node → Rows → ActorRow → BoardState → Node → Rows → ActorRow → Type 0
EntersRow a page op id key vector dists (commit.Down p) b n rows row board new kept made = ⊥
EntersRow a page op id key vector dists (commit.Right p) b n rows row board new kept made = ⊥
EntersRow a page op id key vector dists (commit.Full limit) b n rows row board new kept made =
    (limit ≡ b.settings.updates) × (length (updates_of b.log) ≡ b.settings.updates) × OnlyMeets page b n rows row board new kept made
EntersRow a page op id key vector dists commit.Crowded b n rows row board new kept made =
    HasRoom b × (crowded_at b ((grid b.settings).perm vector) ≡ true) × OnlyMeets page b n rows row board new kept made
EntersRow a page op id key vector dists commit.PageFull b n rows row board new kept made =
    HasRoom b × (crowded_at b ((grid b.settings).perm vector) ≡ false) × (item_count (trim_leaf row.floor.updates n) ≡ 32) × OnlyMeets page b n rows row board new kept made
EntersRow a page op id key vector dists (commit.Done number) b n rows row board new kept made =
    HasRoom b × (crowded_at b ((grid b.settings).perm vector) ≡ false) × (length (without_dead row.floor.updates n.entries) < 32)
    × (e : Entry) × IsMade key (next_birth b) vector dists e × (number ≡ e.birth) × PutsEntry a op id page e b n rows row board new kept made

-- what an insert answers and makes at a leaf page
abbrev pub InsertsRow : ℕ → ℕ → ℕ → ℕ → ℕ → List ℤ → List ℕ → Commit → BoardState → Node → Rows → ActorRow → BoardState → Node → Rows → ActorRow → Type 0
InsertsRow a page op id key vector dists (commit.Down p) b n rows row board new kept made = ⊥
InsertsRow a page op id key vector dists (commit.Right p) b n rows row board new kept made = PointsRight n 0 key p × OnlyMeets page b n rows row board new kept made
InsertsRow a page op id key vector dists answer b n rows row board new kept made = EndsAfter n 0 key × EntersRow a page op id key vector dists answer b n rows row board new kept made

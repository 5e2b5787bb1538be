-- The state that all actors share: the board, the shards, the pages by number, and a record of each actor.
use Rattle.mi_entries.specs.Actors.{Actor}
use Rattle.mi_entries.specs.Records.{Shard}
use Rattle.std.specs.Prelude.{ℕ, ◌+◌, List, [], ◌∷◌, Bool, cond, Option, Some, None, slice_index_or, slice_set}
use Rattle.mi_page.specs.Nodes.{Node}
use Rattle.mi_board.specs.Boards.{BoardState}
use Rattle.mi_board.specs.Actors.{actor_at}
use Rattle.mi_board.specs.declared.actors.ActorState.{ActorState}

-- what all actors share, and what is known of each; a page that isn't linked is None: it is fresh, wherever it is
pub record State : Type 0 where
  pub board : BoardState
  pub shards : List Shard
  pub pages : List (Option Node)
  pub actors : List Actor

-- what the board has of an actor
abbrev pub board_actor : BoardState → ℕ → ActorState
board_actor b a = actor_at b.actors a

-- the page of a number, where it is linked
abbrev pub node_at : List (Option Node) → ℕ → Option Node
node_at pages p = slice_index_or pages p None

-- how many elements pass a test
abbrev pub count_if : {X : Type 0} → (X → Bool) → List X → ℕ
count_if t [] = 0
count_if t (x ∷ xs) = cond (t x) 1 0 + count_if t xs

-- one part is put in place of another
abbrev pub put_board : BoardState → State → State
put_board b s = record { board = b; shards = s.shards; pages = s.pages; actors = s.actors }

abbrev pub put_shard : ℕ → Shard → State → State
put_shard k x s = record { board = s.board; shards = slice_set s.shards k x; pages = s.pages; actors = s.actors }

abbrev pub put_page : ℕ → Node → State → State
put_page p n s = record { board = s.board; shards = s.shards; pages = slice_set s.pages p (Some n); actors = s.actors }

abbrev pub put_actor : ℕ → Actor → State → State
put_actor a r s = record { board = s.board; shards = s.shards; pages = s.pages; actors = slice_set s.actors a r }

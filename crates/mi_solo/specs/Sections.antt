-- What each section does, told by cases on what it answers.
use Rattle.std.specs.Prelude.{◌≡◌, ◌+◌, ◌==◌, ℕ, List, true, length, Option, Some, None, Result, Ok, Err}
use Rattle.std.specs.List.{find}
use Rattle.mi_board.specs.Actors.{with_reserved}
use Rattle.mi_board.specs.Boards.{BoardState, HasRoom, IsFull, look_of, with_actor}
use Rattle.mi_core.specs.Events.{hand, leaf_or}
use Rattle.mi_core.specs.Events.Event.{claim_shard, miss_shard, refuse, reserve, see, trim, visit}
use Rattle.mi_core.specs.Refusals.Refusal.{full}
use Rattle.mi_core.specs.State.{State}
use Rattle.mi_entries.specs.Records.{Rows, Shard, home, shard_at}
use Rattle.mi_solo.specs.States.{Does, actor_in, node_in}
use Rattle.mi_solo.specs.Viewing.{record_shown}
use Rattle.mi_key.specs.declared.ranges.Interval.{Interval}
use Rattle.mi_entries.specs.Actors.{Pin}
use Rattle.mi_solo.specs.Seeking.{AnswersVisit, TrimsTo}
use Rattle.mi_tree.specs.declared.answers.Look.{Look}
use Rattle.mi_tree.specs.declared.answers.ReserveRefusal.{ReserveRefusal}
use Rattle.mi_tree.specs.declared.answers.ReserveRefusal.TheVariants as refused
use Rattle.mi_world.specs.declared.answers.ShardClaim.{ShardClaim}
use Rattle.mi_world.specs.declared.answers.Visit.{Visit}
use Rattle.mi_world.specs.declared.answers.Visit.TheVariants.{Down, Right, Read}
use Rattle.mi_world.specs.declared.answers.ShardClaim.TheVariants.{Taken as ShardTaken, Held as ShardHeld}

-- the shard that an actor holds, and the leaf that it claims
abbrev pub shard_in : State → ℕ → ℕ
shard_in s a = hand (actor_in s a).shard

abbrev pub leaf_in : State → ℕ → List ℕ
leaf_in s a = leaf_or (actor_in s a).claim

-- the records of a shard, with its room
abbrev pub rows_at : State → ℕ → Rows
rows_at s k = (shard_at s.shards k).rows

-- room for one update is taken on the board and among the rows of a shard; else the log is full, or memory is wanted
abbrev pub PromisesRows : BoardState → Rows → ℕ → Result Look ReserveRefusal → BoardState → Rows → Type 0
PromisesRows board rows a (Ok look) new left =
    HasRoom board × (look ≡ look_of new) × (new ≡ with_actor (with_reserved true) a board) × (left ≡ record rows { room = length rows.records + 1 })
PromisesRows board rows a (Err (refused.Full limit)) new left = IsFull board limit × (new ≡ board) × (left ≡ rows)
PromisesRows board rows a (Err refused.Memory) new left = (new ≡ board) × (left ≡ rows)

-- the same in a shard, whose holder stays
abbrev pub Promises : BoardState → Shard → ℕ → Result Look ReserveRefusal → BoardState → Shard → Type 0
Promises board shard a result new kept = PromisesRows board shard.rows a result new kept.rows × (kept.holder ≡ shard.holder)

-- the shard of an identifier is taken, with the identifier's record, or another actor holds it
abbrev pub ClaimsShard : State → ℕ → ℕ → ShardClaim → State → Type 0
ClaimsShard s a id (ShardTaken kept) t =
    Does s a (claim_shard (home id) (rows_at s (home id))) t × (kept ≡ record_shown (find (λ x. x.id == id) (rows_at s (home id)).records))
ClaimsShard s a id ShardHeld t = Does s a (miss_shard (home id)) t

-- room for one update is reserved, or the log is full, or memory is wanted
abbrev pub Reserves : State → ℕ → Result Look ReserveRefusal → State → Type 0
Reserves s a (Ok look) t =
    Does s a (reserve (shard_in s a) (rows_at s (shard_in s a)) (length (rows_at s (shard_in s a)).records + 1)) t × (look ≡ look_of t.board)
Reserves s a (Err (refused.Full limit)) t = Does s a (refuse full) t × (limit ≡ s.board.settings.updates)
Reserves s a (Err refused.Memory) t = Does s a see t

-- a page is read, or the way goes on at another
pub record Visits (s : State) (a page : ℕ) (range : Interval) (result : Visit) (t : State) : Type 0 where
  pub does : Does s a (visit page) t
  pub answer : AnswersVisit (node_in s page) range result

-- how many updates are pinned
abbrev pub updates_pinned : Option Pin → ℕ
updates_pinned None = 0
updates_pinned (Some p) = p.at.updates

-- a leaf page is trimmed, and its right sibling is named
abbrev pub Trims : State → ℕ → ℕ → Visit → State → Type 0
Trims s a page (Down p) t = ⊥
Trims s a page (Right p) t = ⊥
Trims s a page (Read next) t = Does s a (trim page (node_in s page)) t × TrimsTo (node_in s page) next

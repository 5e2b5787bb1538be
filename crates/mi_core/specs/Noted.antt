-- What else is true of a state: the pages that actors have noted, those that have ended, and records that stand once.
use Rattle.std.specs.Prelude.{◌≡◌, ◌≢◌, ℕ, List, Option, [], ◌∷◌, true, false, Some, None, slice_get}
use Rattle.std.specs.List.{AllByRecursion}
use Rattle.mi_page.specs.Nodes.{Node}
use Rattle.mi_entries.specs.Actors.{Actor}
use Rattle.mi_entries.specs.Records.{Shard, ShardRecord, shard_at}
use Rattle.mi_core.specs.State.{node_at}

-- each actor has noted a page that is linked
abbrev pub NotesStand : List (Option Node) → List Actor → Type 0
NotesStand pages actors = (a : ℕ) (r : Actor) → slice_get actors a ≡ Some r → (n : Node) × (node_at pages r.page ≡ Some n)

-- an actor that has ended holds nothing, and its flags are another's
pub record HoldsNothing (r : Actor) : Type 0 where
  pub shard : r.shard ≡ None
  pub claim : r.claim ≡ None
  pub sweep : r.sweep ≡ None
  pub pin : r.pin ≡ None
  pub split : r.split ≡ None
  pub owed : r.owed ≡ []
  pub undone : r.undone ≡ false
  pub early : r.early ≡ false

-- each actor that has ended holds nothing
abbrev pub EndedHoldNothing : List Actor → Type 0
EndedHoldNothing actors = (a : ℕ) (r : Actor) → slice_get actors a ≡ Some r → r.ended ≡ true → HoldsNothing r

-- no identifier stands twice in a shard
abbrev pub Single : List ShardRecord → Type 0
Single [] = Unit {0}
Single (x ∷ xs) = AllByRecursion (λ y. y.id ≢ x.id) xs × Single xs

-- in each shard
abbrev pub AreSingle : List Shard → Type 0
AreSingle shards = (k : ℕ) → Single (shard_at shards k).rows.records

-- Sections that claim and release shards and leaves.
use Rattle.std.specs.Prelude.{◌≡◌, ◌≢◌, ◌∷◌, [], ℕ, List, Option, Some, None, Bool, true, false}
use Rattle.mi_base.specs.Permutations.{begins}
use Rattle.mi_tree.specs.declared.answers.LeafClaim.{LeafClaim}
use Rattle.mi_tree.specs.declared.answers.LeafClaim.TheVariants.{Taken as LeafTaken, Held as LeafHeld}
use Rattle.mi_tree.specs.Cells.{leaf_of}
use Rattle.mi_tree.specs.Counting.{leaves_beginning, is_wanted}
use Rattle.mi_tree.specs.Legal.{cells_of}
use Rattle.mi_world.specs.declared.answers.ShardClaim.{ShardClaim}
use Rattle.mi_world.specs.declared.answers.ShardClaim.TheVariants.{Taken as ShardTaken, Held as ShardHeld}
use Rattle.mi_tree.specs.Placing.{grid_under}
use Rattle.mi_world.specs.View.{View, Later, SameUpdate, SameLeaf, SameBoard, SamePage, SameTry, SeesBoard, IsOther, shard_of, SameApart, prefix_or}

-- a leaf is claimed, and it is that of the permutation
abbrev pub holds_leaf_of : List ℕ → Option (List ℕ) → Bool
holds_leaf_of perm None = false
holds_leaf_of perm (Some p) = begins p perm

-- Nobody held the shard: it is taken, with the identifier's record. Else another actor holds it, and nothing changes.
abbrev pub ShardAnswer : View → View → ℕ → ShardClaim → Type 0
ShardAnswer old new id (ShardTaken kept) = (new.found ≡ None) × (new.shard ≡ Some (shard_of id)) × (new.records id ≡ kept) × (new.reserved ≡ false)
ShardAnswer old new id ShardHeld = IsOther new.found new.actor × (new.shard ≡ None) × (new.reserved ≡ old.reserved) × (new.records ≡ old.records)

pub record ClaimsShard (old new : View) (id : ℕ) (result : ShardClaim) : Type 0 where
  pub later : Later old new
  pub own : new.own ≡ old.own
  pub leaf : SameLeaf old new
  pub apart : SameApart old new
  pub floor : new.floor ≡ old.floor
  pub fresh : new.fresh ≡ old.fresh
  pub owes : new.owes ≡ old.owes
  pub board : SameBoard old new
  pub page : SamePage old new
  pub tried : new.tried ≡ shard_of id
  pub answer : ShardAnswer old new id result

pub record ReleasesShard (old new : View) : Type 0 where
  pub later : Later old new
  pub own : new.own ≡ old.own
  pub shard : new.shard ≡ None
  pub reserved : new.reserved ≡ false
  pub leaf : SameLeaf old new
  pub apart : SameApart old new
  pub floor : new.floor ≡ old.floor
  pub fresh : new.fresh ≡ old.fresh
  pub owes : new.owes ≡ old.owes
  pub board : SameBoard old new
  pub page : SamePage old new
  pub tries : SameTry old new

-- The leaf of the permutation is taken, or another actor has it.
abbrev pub LeafAnswer : View → View → List ℕ → LeafClaim → Type 0
LeafAnswer old new perm (LeafTaken leaf) =
    (leaves_beginning perm (cells_of new.settings new.seen) ≡ leaf ∷ []) × (begins leaf.prefix perm ≡ true) × (new.leaf ≡ Some leaf.prefix)
    × (new.wanted ≡ is_wanted new.settings.levels new.settings.cell leaf) × (new.splitting ≡ false)
LeafAnswer old new perm (LeafHeld by) =
    (new.leaf ≡ None) × (new.holder (leaf_of (grid_under new.settings) new.seen perm) ≡ Some by) × (by ≢ new.actor)
    × (begins (leaf_of (grid_under new.settings) new.seen perm) perm ≡ true)

pub record ClaimsLeaf (old new : View) (perm : List ℕ) (result : LeafClaim) : Type 0 where
  pub later : Later old new
  pub lacked : new.lacked ≡ old.lacked
  pub told : new.told ≡ old.told
  pub update : SameUpdate old new
  pub apart : SameApart old new
  pub floor : new.floor ≡ old.floor
  pub fresh : new.fresh ≡ old.fresh
  pub owes : new.owes ≡ old.owes
  pub board : SeesBoard new
  pub page : SamePage old new
  pub tries : SameTry old new
  pub answer : LeafAnswer old new perm result

pub record ReleasesLeaf (old new : View) : Type 0 where
  pub later : Later old new
  pub lacked : new.lacked ≡ old.lacked
  pub told : new.told ≡ old.told
  pub update : SameUpdate old new
  pub leaf : new.leaf ≡ None
  pub freed : new.holder (prefix_or old.leaf) ≡ None
  -- whether it is passed over, stays: only a split that is given up or published changes that
  pub passed : new.passed (prefix_or old.leaf) ≡ old.passed (prefix_or old.leaf)
  pub apart : SameApart old new
  pub floor : new.floor ≡ old.floor
  pub fresh : new.fresh ≡ old.fresh
  pub owes : new.owes ≡ old.owes
  pub board : SeesBoard new
  pub page : SamePage old new
  pub tries : SameTry old new

-- Actors that are made from one another, and their ends.
use Rattle.std.specs.Prelude.{◌≡◌, ◌≤◌, ◌∷◌, ◌++◌, ◌||◌, [], ℕ, None, false, IsTrue, ◌<◌, ◌⊎◌, true}
use Rattle.mi_base.specs.Prefixes.{has}
use Rattle.mi_tree.specs.Growing.{Grows}
use Rattle.mi_world.specs.View.{View, Later, SameOwn, SameUpdate, SameLeaf, SameSweep, SameSplit, SameFlags, SameNote, SamePage, SameTry, SeesBoard}

-- the actor claims nothing and has no pin
pub record ClaimsNothing (v : View) : Type 0 where
  pub shard : v.shard ≡ None
  pub leaf : v.leaf ≡ None
  pub sweep : v.sweep ≡ None
  pub pin : v.pin ≡ None

-- one knows the pages that another knows
pub record KnowsPages (by of : View) : Type 0 where
  pub named : (p : ℕ) → IsTrue (of.named p) → IsTrue (by.named p)
  pub level : (p : ℕ) → IsTrue (of.named p) → by.level p ≡ of.level p
  pub low : (p : ℕ) → IsTrue (of.named p) → by.low p ≡ of.low p
  pub least : of.least ≤ by.least

-- a new actor, which has seen what its maker saw and has nothing of its own
pub record IsForked (maker child : View) : Type 0 where
  pub settings : child.settings ≡ maker.settings
  pub tells_full : child.tells_full ≡ maker.tells_full
  pub seen : child.seen ≡ maker.seen
  pub floor : child.floor ≡ maker.floor
  pub own : child.own ≡ []
  pub idle : ClaimsNothing child
  pub unsplit : child.splitting ≡ false
  pub reserved : child.reserved ≡ false
  pub fresh : child.fresh ≡ None
  pub owes : (p : ℕ) → child.owes p ≡ false
  pub undone : child.undone ≡ false
  pub early : child.early ≡ false
  pub lacked : child.lacked ≡ false
  pub told : IsTrue child.told → IsTrue maker.told
  pub absorbed : child.absorbed ≡ []
  pub forked : child.forked ≡ []
  pub pages : KnowsPages child maker

-- An actor more is made; else its maker stays as it was.
pub record Forked (old new child : View) : Type 0 where
  pub later : Later old new
  pub lacked : new.lacked ≡ old.lacked
  pub told : new.told ≡ old.told
  pub update : SameUpdate old new
  pub leaf : SameLeaf old new
  pub sweep : SameSweep old new
  pub split : SameSplit old new
  pub flags : SameFlags old new
  pub pin : new.pin ≡ old.pin
  pub floor : new.floor ≡ old.floor
  pub fresh : new.fresh ≡ old.fresh
  pub owes : new.owes ≡ old.owes
  pub board : SeesBoard new
  pub page : SamePage old new
  pub tries : SameTry old new
  pub absorbed : new.absorbed ≡ old.absorbed
  pub forked : new.forked ≡ old.forked ++ child.actor ∷ []
  pub child_is : IsForked new child
  -- its number is greater than its maker's and than those of all that this one made before
  pub newer : old.actor < child.actor
  pub later_fork : (n : ℕ) → has n old.forked ≡ true → n < child.actor

-- no actor was made
pub record NotForked (old new : View) : Type 0 where
  pub later : Later old new
  pub lacked : new.lacked ≡ old.lacked
  pub told : new.told ≡ old.told
  pub same : SameOwn old new
  pub floor : new.floor ≡ old.floor
  pub page : SamePage old new
  pub tries : SameTry old new

-- The actor has seen and knows what both did, and has ended the other, whose flags are its own now.
pub record Absorbs (old other new : View) : Type 0 where
  pub later : Later old new
  pub others_log : Grows other.seen new.seen
  pub seen : (new.seen ≡ old.seen) ⊎ (new.seen ≡ other.seen)
  pub update : SameUpdate old new
  pub leaf : SameLeaf old new
  pub sweep : SameSweep old new
  pub split : SameSplit old new
  pub pin : new.pin ≡ old.pin
  pub floor : new.floor ≡ old.floor
  pub fresh : new.fresh ≡ old.fresh
  pub owes : new.owes ≡ old.owes
  pub undone : new.undone ≡ (old.undone || other.undone)
  pub early : new.early ≡ (old.early || other.early)
  pub told : new.told ≡ (old.told || other.told)
  pub lacked : new.lacked ≡ (old.lacked || other.lacked)
  pub pages : KnowsPages new other
  pub note : SameNote old new
  pub page : SamePage old new
  pub tries : SameTry old new
  pub absorbed : new.absorbed ≡ old.absorbed ++ record { actor = other.actor; own = other.own } ∷ other.absorbed
  pub forked : new.forked ≡ old.forked ++ other.forked

-- What an actor claims at the end of an operation, and what another holds that an update wants.
use Rattle.std.specs.Prelude.{◌≡◌, ◌⊎◌, ℤ, List, ℕ, Some, None, true, false}
use Rattle.mi_base.specs.declared.records.Op.{Op}
use Rattle.mi_base.specs.declared.records.Op.TheVariants.{Insert, Delete, Range, Nearest}
use Rattle.mi_base.specs.Permutations.{begins}
use Rattle.mi_tree.specs.Births.{Born, living}
use Rattle.mi_tree.specs.Placing.{grid_under}
use Rattle.mi_world.specs.Families.{ClaimsNothing}
use Rattle.mi_world.specs.View.{View, IsOther}
use Rattle.mi_update.specs.Stepping.{HeldShard}

-- the actor claims nothing, has no pin, and no split under way
pub record ClaimsNone (v : View) : Type 0 where
  pub nothing : ClaimsNothing v
  pub unsplit : v.splitting ≡ false

-- another actor holds a leaf to which the vector belongs, and this one holds none
pub record LeafIsHeld (vector : List ℤ) (w : View) : Type 0 where
  pub prefix : List ℕ
  pub belongs : begins prefix ((grid_under w.settings).perm vector) ≡ true
  pub other : IsOther (w.holder prefix) w.actor
  pub leaf : w.leaf ≡ None

-- another actor holds the shard of the update's identifier, or a leaf to which its vector belongs: that of an insert, or that of the live
-- object which a delete is to remove
abbrev pub IsHeld : Op → View → Type 0
IsHeld (Insert id vector) w = HeldShard id w ⊎ LeafIsHeld vector w
IsHeld (Delete id) w = HeldShard id w ⊎ ((old : Born) × (living id w.seen ≡ Some old) × LeafIsHeld old.vector w)
IsHeld (Range radius query) w = ⊥
IsHeld (Nearest count query) w = ⊥

-- What one section of an update says: whether it enters the update, how far the reply will reach, and which claim was found held.
use Rattle.std.specs.Prelude.{◌≡◌, ◌++◌, [], ◌∷◌, ℕ, List, Option, Some, None, true, MatchOption, length, ◌⊎◌, ◌≤◌}
use Rattle.mi_base.specs.declared.records.Update.{Update}
use Rattle.mi_base.specs.declared.records.Op.{Op}
use Rattle.mi_base.specs.declared.records.Reply.{Reply}
use Rattle.mi_base.specs.declared.records.Reply.TheVariants as reply
use Rattle.mi_base.specs.Configuration.{Configuration}
use Rattle.mi_base.specs.History.{Entered, Object, updates_of}
use Rattle.mi_base.specs.Permutations.{begins}
use Rattle.mi_legal.specs.Legal.{accepted_update, reach}
use Rattle.mi_tree.specs.Placing.{grid_under}
use Rattle.mi_world.specs.View.{View, IsOther, shard_of}
use Rattle.mi_update.specs.Endings.{IsRight}

-- the update as the actor's operation of this number enters it
abbrev pub entry_of : View → ℕ → Update → Entered
entry_of v op u = record { session = v.actor; op = op; update = u }

-- this section enters the update, which is the last of the log then
pub record EntersLast (op : ℕ) (u : Update) (old new : Option ℕ) (v w : View) : Type 0 where
  pub before : old ≡ None
  pub after : new ≡ Some (length (updates_of w.seen))
  pub own : w.own ≡ v.own ++ entry_of w op u ∷ []

-- this section enters none
pub record EntersNone (old new : Option ℕ) (v w : View) : Type 0 where
  pub number : new ≡ old
  pub own : w.own ≡ v.own

-- The update's number before and after a section, none until it is entered, and how many events the reply's position has at least.
pub record Advances (op : ℕ) (u : Update) (old new : Option ℕ) (from to : ℕ) (v w : View) : Type 0 where
  pub enters : EntersLast op u old new v w ⊎ EntersNone old new v w
  pub not_before : from ≤ to

-- what an operation whose update has this number has added to the actor's own updates
abbrev pub added : Option ℕ → Entered → List Entered
added None e = []
added (Some n) e = e ∷ []

-- the shard of the identifier is held, and no leaf is claimed
pub record HoldsShard (id : ℕ) (v : View) : Type 0 where
  pub shard : v.shard ≡ Some (shard_of id)
  pub leaf : v.leaf ≡ None

-- another actor holds the shard, and this one holds nothing
pub record HeldShard (id : ℕ) (w : View) : Type 0 where
  pub tried : w.tried ≡ shard_of id
  pub other : IsOther w.found w.actor
  pub shard : w.shard ≡ None
  pub leaf : w.leaf ≡ None

-- another actor holds the leaf that begins the permutation, and this one holds none
pub record HeldLeaf (perm : List ℕ) (w : View) : Type 0 where
  pub prefix : List ℕ
  pub begun : begins prefix perm ≡ true
  pub other : IsOther (w.holder prefix) w.actor
  pub leaf : w.leaf ≡ None

-- the number of the update that a reply tells
abbrev pub number_told : Reply → Option ℕ
number_told (reply.Stored n) = Some n
number_told (reply.Removed n) = Some n
number_told y = None

-- The reply is right in the log seen, its position has so many events at least, it tells the number of the update, which is what it accepts,
-- and the actor claims nothing.
pub record Finishes (asked : Op) (op from : ℕ) (number : Option ℕ) (u : Update) (w : View) (y : Reply) : Type 0 where
  pub right : IsRight asked op w y
  pub not_before : MatchOption (reach w.seen y) (Unit {0}) (λ n. from ≤ n)
  pub number_is : number_told y ≡ number
  pub accepted_is : accepted_update w.actor op asked y ≡ added number (entry_of w op u)
  pub shard : w.shard ≡ None
  pub leaf : w.leaf ≡ None

-- From its first section to its last: the reply is right in the log seen, and its position isn't before so many events; the actor's own updates
-- are those of the beginning and what the reply accepts; and it claims nothing.
pub record Ended (asked : Op) (op : ℕ) (own : List Entered) (from : ℕ) (w : View) (y : Reply) : Type 0 where
  pub right : IsRight asked op w y
  pub not_before : MatchOption (reach w.seen y) (Unit {0}) (λ n. from ≤ n)
  pub own_is : w.own ≡ own ++ accepted_update w.actor op asked y
  pub shard : w.shard ≡ None
  pub leaf : w.leaf ≡ None

-- the prefix begins the permutation of an object of this identifier
pub record BeginsObject (c : Configuration) (id : ℕ) (prefix : List ℕ) : Type 0 where
  pub object : Object
  pub id_is : object.id ≡ id
  pub begun : begins prefix ((grid_under c).perm object.vector) ≡ true

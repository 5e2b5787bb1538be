-- The record of an actor.
use Rattle.std.specs.Prelude.{ℕ, List, Bool, Option}
use Rattle.mi_base.specs.declared.records.Position.{Position}
use Rattle.mi_base.specs.History.{Entered}
use Rattle.mi_key.specs.declared.entries.Entry.{Entry}
use Rattle.mi_tree.specs.declared.outcomes.Leaf.{Leaf}

-- a pinned position with its cells
pub record Pin : Type 0 where
  pub at : Position
  pub cells : List Leaf

-- a split under way: its leaf, the key up to which it has gathered, what it gathered, and how much of that it has copied
pub record SplitWork : Type 0 where
  pub leaf : List ℕ
  pub mark : ℕ
  pub gathered : List Entry
  pub copied : ℕ

-- a sweep under way: its leaf, and the key up to which it has swept
pub record SweepWork : Type 0 where
  pub leaf : List ℕ
  pub mark : ℕ

-- a route that its actor has yet to post
pub record Owed : Type 0 where
  pub level : ℕ
  pub key : ℕ
  pub child : ℕ

-- what is known of one actor: how many events of the log it has seen, its own updates, its floor, whether it has reserved since its latest
-- update and whether since it took its shard, its claims, its pin, its split, its fresh page, its owed routes, the page of its latest page
-- section, the shard that it tried last with the holder found there, whether memory was wanted for a page, the two flags, and whether it has ended
pub record Actor : Type 0 where
  pub seen : ℕ
  pub own : List Entered
  pub floor : Position
  pub reserved : Bool
  pub reserved_here : Bool
  pub shard : Option ℕ
  pub claim : Option (List ℕ)
  pub sweep : Option SweepWork
  pub pin : Option Pin
  pub split : Option SplitWork
  pub fresh : Option ℕ
  pub owed : List Owed
  pub page : ℕ
  pub tried : ℕ
  pub found : Option ℕ
  pub lacked : Bool
  pub undone : Bool
  pub early : Bool
  pub ended : Bool

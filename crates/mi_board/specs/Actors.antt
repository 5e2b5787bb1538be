-- What a board keeps of its actors.
use Rattle.std.specs.Prelude.{◌≡◌, ℕ, List, [], ◌∷◌, Bool, true, false, Option, Some, None, slice_index_or, slice_set}
use Rattle.std.specs.List.{list_any}
use Rattle.mi_base.specs.declared.records.Position.{Position}
use Rattle.mi_base.specs.Permutations.{begins}
use Rattle.mi_board.specs.declared.actors.ActorState.{ActorState}
use Rattle.mi_tree.specs.Cells.{same_cell}

-- an actor that was just made: it claims nothing, has reserved nothing, has no pin, and hasn't departed
abbrev pub idle : ActorState
idle = record { claim = None; reserved = false; pin = None; departed = false }

-- the actor of a number
abbrev pub actor_at : List ActorState → ℕ → ActorState
actor_at actors actor = slice_index_or actors actor idle

-- one actor's state changed
abbrev pub change : (ActorState → ActorState) → ℕ → List ActorState → List ActorState
change f actor actors = slice_set actors actor (f (actor_at actors actor))

-- the actor claims the leaf of this prefix
abbrev pub with_claim : List ℕ → ActorState → ActorState
with_claim p a = record a { claim = Some p }

-- the actor's claim has ended
abbrev pub without_claim : ActorState → ActorState
without_claim a = record a { claim = None }

-- the actor has reserved an update, or has committed the one that it reserved
abbrev pub with_reserved : Bool → ActorState → ActorState
with_reserved reserved a = record a { reserved = reserved }

-- the actor has pinned this position
abbrev pub with_pin : Position → ActorState → ActorState
with_pin at a = record a { pin = Some at }

-- the actor's pin has ended
abbrev pub without_pin : ActorState → ActorState
without_pin a = record a { pin = None }

-- the actor has departed
abbrev pub gone : ActorState → ActorState
gone a = record a { departed = true }

-- a claim is that of the leaf of this prefix
abbrev pub is_claim : List ℕ → Option (List ℕ) → Bool
is_claim p None = false
is_claim p (Some q) = same_cell p q

-- an actor claims the leaf of this prefix
abbrev pub is_claimed : List ℕ → List ActorState → Bool
is_claimed p actors = list_any (λ a. is_claim p a.claim) actors

-- a claim is that of the leaf which begins the permutation
abbrev pub claims_leaf_of : List ℕ → Option (List ℕ) → Bool
claims_leaf_of perm None = false
claims_leaf_of perm (Some p) = begins p perm

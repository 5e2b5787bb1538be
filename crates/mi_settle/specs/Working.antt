-- What a splitter has to do, and turns that begin and end its operations.
use Rattle.std.specs.Prelude.{◌≡◌, [], ◌∷◌, ℕ, true, List, Option, Some, None}
use Rattle.std.specs.List.{AllByRecursion}
use Rattle.mi_board.specs.Boards.{BoardState, next_split, next_sweep}
use Rattle.mi_core.specs.Events.{Event}
use Rattle.mi_core.specs.Events.Event.{give_up, publish, sweep, take_split, take_sweep}
use Rattle.mi_core.specs.State.{State}
use Rattle.mi_solo.specs.States.{actor_in}
use Rattle.mi_settle.specs.Turns.{Turn}

-- each turn is this actor's
abbrev pub AllBy : ℕ → List Turn → Type 0
AllBy a turns = AllByRecursion (λ u. u.actor ≡ a) turns

-- a list whose first turn begins an operation
abbrev pub BeginsAtOnce : List Turn → Type 0
BeginsAtOnce [] = ⊥
BeginsAtOnce (u ∷ us) = u.begins ≡ true

-- a splitter has nothing to do: no retired leaf may be swept, and no leaf is to be split that is free and not passed over
pub record IsIdle (b : BoardState) : Type 0 where
  pub no_sweep : next_sweep b ≡ None
  pub no_split : next_split b ≡ None

-- the turn ends an operation of a splitter: it publishes a split, gives one up, or is the last section of a sweep
abbrev pub EndsWork : Option Event → ℕ → State → Type 0
EndsWork (Some publish) a t = Unit {0}
EndsWork (Some (give_up pages)) a t = Unit {0}
EndsWork (Some (sweep page node)) a t = (actor_in t a).sweep ≡ None
EndsWork event a t = ⊥

abbrev pub LastEndsWork : List Turn → Type 0
LastEndsWork [] = ⊥
LastEndsWork (u ∷ []) = EndsWork u.event u.actor u.after
LastEndsWork (u ∷ v ∷ us) = LastEndsWork (v ∷ us)

-- an operation of a splitter begins with the work that it was given
abbrev pub GivesWork : Option Event → Type 0
GivesWork (Some (take_sweep leaf)) = Unit {0}
GivesWork (Some (take_split leaf)) = Unit {0}
GivesWork event = ⊥

abbrev pub BeginsWork : ℕ → Turn → Type 0
BeginsWork a u = u.actor ≡ a → u.begins ≡ true → GivesWork u.event

-- The workload of a number: what is drawn, in the order in which it is drawn.
use Rattle.std.specs.Prelude.{◌≡◌, ℕ, zero, suc, ℤ, ◌+◌, ◌-◌, ◌%◌, ◌==◌, ◌<◌, ◌≤◌, List, [], ◌∷◌, ◌++◌, cond}
use Rattle.std.specs.List.{AllByRecursion}
use Rattle.mi_base.specs.Configuration.{Configuration, metric_space}
use Rattle.mi_base.specs.Scripts.{IsScriptOver}
use Rattle.mi_base.specs.declared.records.Actor.{Actor}
use Rattle.mi_base.specs.declared.records.Actor.TheVariants.{Session, Splitter}
use Rattle.mi_base.specs.declared.records.Op.{Op}
use Rattle.mi_base.specs.declared.records.Op.TheVariants.{Insert, Delete, Range, Nearest}
use Rattle.mi_base.specs.declared.records.ScheduleItem.{ScheduleItem}
use Rattle.mi_base.specs.declared.records.Take.{Take}
use Rattle.mi_base.specs.declared.records.Take.TheVariants.{Turns, Operation}
use Rattle.mi_base.specs.declared.settings.MetricKind.TheVariants.{L1}
use Rattle.mi_make.specs.declared.workload.Workload.{Workload}
use Rattle.mi_make.specs.Draws.{after_vector, drawn, left_by, next_state, number_below, vector}

-- each fiftieth object is followed by a delete, a range and a query for the nearest; each other twenty-fifth by a range
abbrev pub delete_after : ℕ → List Op
delete_after i = cond (i % 50 == 49) (Delete (i - 24) ∷ []) []

abbrev pub range_after : ℕ → ℕ → List Op
range_after i x = cond (i % 25 == 24) (Range 3000 (vector x) ∷ []) []

abbrev pub after_range : ℕ → ℕ → ℕ
after_range i x = cond (i % 25 == 24) (after_vector x) x

abbrev pub nearest_after : ℕ → ℕ → List Op
nearest_after i x = cond (i % 50 == 49) (Nearest 10 (vector x) ∷ []) []

abbrev pub after_nearest : ℕ → ℕ → ℕ
after_nearest i x = cond (i % 50 == 49) (after_vector x) x

-- the operations that come with the object of a number
abbrev pub operations : ℕ → ℕ → List Op
operations i x =
    let inserted = after_vector x in
    Insert i (vector x) ∷ delete_after i ++ range_after i inserted ++ nearest_after i (after_range i inserted)

abbrev pub after_operations : ℕ → ℕ → ℕ
after_operations i x = after_nearest i (after_range i (after_vector x))

-- what of them stands in the script of this remainder: every other object is in it
abbrev pub share : ℕ → ℕ → ℕ → List Op
share which i x = cond (i % 2 == which) (operations i x) []

-- the script of this remainder, with the shares of so many objects from a number on
unfoldable pub script : ℕ → ℕ → ℕ → ℕ → List Op
script which zero i x = []
script which (suc n) i x = share which i x ++ script which n (i + 1) (after_operations i x)

unfoldable pub after_objects : ℕ → ℕ → ℕ → ℕ
after_objects zero i x = x
after_objects (suc n) i x = after_objects n (i + 1) (after_operations i x)

-- the actors by number: two sessions and the splitter
abbrev pub actor_of : ℕ → Actor
actor_of n = cond (n == 2) Splitter (Session n)

-- an actor, then up to twenty turns
abbrev pub after_item : ℕ → ℕ
after_item x = next_state (next_state x)

abbrev pub item : ℕ → ScheduleItem
item x = record { actor = actor_of (number_below 3 (next_state x)); take = Turns (number_below 20 (after_item x) + 1) }

-- the settings with these pivots
abbrev pub settings_with : List (List ℤ) → Configuration
settings_with pivots = record { metric = L1; dims = 16; rows = []; pivots = pivots; levels = 3; cell = 100; updates = 8000; pages = 4100 }

-- the state after the pivots
abbrev pub after_pivots : ℕ → ℕ
after_pivots seed = left_by after_vector 12 seed

-- A workload of a seed: twelve pivots are drawn first, then what comes with each of 5,000 objects in turn, the even ones in the first
-- script and the odd ones in the second, then 4,000 records of the schedule.
pub record IsMade (seed : ℕ) (w : Workload) : Type 0 where
  pub settings : w.settings ≡ settings_with (drawn vector after_vector 12 seed)
  pub scripts : w.scripts ≡ script 0 5000 0 (after_pivots seed) ∷ script 1 5000 0 (after_pivots seed) ∷ []
  pub schedule : w.schedule ≡ drawn item after_item 4000 (after_objects 5000 0 (after_pivots seed))

-- one of two sessions, or the splitter
abbrev pub IsOneOfThree : Actor → Type 0
IsOneOfThree (Session number) = number < 2
IsOneOfThree Splitter = Unit {0}

abbrev pub IsUpToTwenty : Take → Type 0
IsUpToTwenty (Turns count) = (1 ≤ count) × (count ≤ 20)
IsUpToTwenty Operation = ⊥

-- A workload that may be run: the scripts are over the settings' metric, and each record of the schedule has up to twenty turns of one of their
-- two sessions or of the splitter.
pub record MayBeRun (w : Workload) : Type 0 where
  pub scripts : AllByRecursion (IsScriptOver (metric_space w.settings)) w.scripts
  pub schedule : AllByRecursion (λ i. IsOneOfThree i.actor × IsUpToTwenty i.take) w.schedule

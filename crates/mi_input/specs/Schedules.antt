-- The schedule in a file.
use Rattle.std.specs.Prelude.{ℕ, pos, ◌+◌, ◌-ℤ◌, ◌<◌, ◌≤◌, ◌==◌, ◌||◌, if◌then◌else◌, List, [], ◌∷◌, length, sum_by, bytes_eq, codes, is_some, nat_le, unsigned_abs, Bool, Result, Ok, Err}
use Rattle.std.specs.List.{AllByRecursion}
use Rattle.mi_base.specs.declared.limits.TheConstants.{MAX_ITEMS, MAX_TURNS}
use Rattle.mi_base.specs.declared.records.Actor.{Actor}
use Rattle.mi_base.specs.declared.records.Actor.TheVariants.{Session, Splitter}
use Rattle.mi_base.specs.declared.records.Take.{Take}
use Rattle.mi_base.specs.declared.records.Take.TheVariants.{Turns, Operation}
use Rattle.mi_base.specs.declared.records.ScheduleItem.{ScheduleItem}
use Rattle.mi_input.specs.declared.faults.Reason.{Reason}
use Rattle.mi_input.specs.declared.faults.Reason.TheVariants.{Fields, Limit, Word}
use Rattle.mi_input.specs.declared.schedules.TheConstants.{MAX_TAKE}
use Rattle.mi_input.specs.Faults.{Fault, ◌>>=◌, at_record}
use Rattle.mi_input.specs.Numbers.{count_in, number_in, whole_in}
use Rattle.mi_input.specs.Records.{field_in, records_in, within_limit}

-- the splitter's name, or a number
abbrev pub names_actor : List ℕ → Bool
names_actor field = bytes_eq field (codes "splitter") || is_some (number_in field)

-- the splitter or one of so many sessions, which are counted from 0
unfoldable pub actor_in : ℕ → List ℕ → Result Actor Reason
actor_in sessions field =
    if bytes_eq field (codes "splitter") then Ok Splitter
    else whole_in (pos 0) (pos sessions -ℤ pos 1) field >>= λ number. Ok (Session (unsigned_abs number))

-- op or COUNT
unfoldable pub take_in : List ℕ → Result Take Reason
take_in field = if bytes_eq field (codes "op") then Ok Operation else count_in 1 MAX_TAKE field >>= λ count. Ok (Turns count)

-- ACTOR,TAKE in the record of this number, or the first thing that is wrong with it
unfoldable pub item_in : ℕ → ℕ → List (List ℕ) → Result ScheduleItem Reason
item_in sessions number fields =
    if names_actor (field_in 0 fields) then
    within_limit MAX_ITEMS number (if length fields == 2 then (do
      actor ← actor_in sessions (field_in 0 fields)
      take ← take_in (field_in 1 fields)
      Ok (record { actor = actor; take = take }))
    else Err Fields)
    else Err Word

-- how many turns are counted out
abbrev pub turns_of : Take → ℕ
turns_of (Turns count) = count
turns_of Operation = 0

-- an item after so many turns, unless they are too many with its own
abbrev pub within_turns : ℕ → ScheduleItem → Result ScheduleItem Reason
within_turns turns item = if nat_le (turns + turns_of item.take) MAX_TURNS then Ok item else Err Limit

-- the item in the record of this number, after so many turns
abbrev pub item_after : ℕ → ℕ → ℕ → List (List ℕ) → Result ScheduleItem Reason
item_after sessions turns number fields = item_in sessions number fields >>= within_turns turns

-- the items in these records, of which this is the number of the first, after so many turns, up to the first fault
unfoldable pub schedule_from : ℕ → ℕ → ℕ → List (List (List ℕ)) → Result (List ScheduleItem) Fault
schedule_from sessions turns number [] = Ok []
schedule_from sessions turns number (fields ∷ rest) = do
  item ← at_record number (item_after sessions turns number fields)
  items ← schedule_from sessions (turns + turns_of item.take) (number + 1) rest
  Ok (item ∷ items)

-- the schedule for so many sessions in a file of these bytes, or its first fault
abbrev pub schedule_in : ℕ → List ℕ → Result (List ScheduleItem) Fault
schedule_in sessions bytes = schedule_from sessions 0 1 (records_in bytes)

-- the actor is the splitter or one of so many sessions
abbrev pub IsActorOf : ℕ → Actor → Type 0
IsActorOf sessions (Session number) = number < sessions
IsActorOf sessions Splitter = Unit {0}

-- at least one turn is given
abbrev pub IsTake : Take → Type 0
IsTake (Turns count) = 1 ≤ count
IsTake Operation = Unit {0}

pub record IsItemOf (sessions : ℕ) (item : ScheduleItem) : Type 0 where
  pub actor : IsActorOf sessions item.actor
  pub take : IsTake item.take

pub record IsScheduleOf (sessions : ℕ) (items : List ScheduleItem) : Type 0 where
  pub few : length items ≤ MAX_ITEMS
  pub each : AllByRecursion (IsItemOf sessions) items
  pub turns : sum_by (λ item. turns_of item.take) items ≤ MAX_TURNS

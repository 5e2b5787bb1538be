-- The records of a file, and reading them one after the other.
use Rattle.std.specs.Prelude.{◌≡◌, ℕ, ◌+◌, List, [], ◌∷◌, length, drop, slice_index_or, bytes_eq, Bool, true, false, Option, Some, None, Result, Ok, Err, if◌then◌else◌, nat_le, IsSome}
use denote.Ref.{Bor}
use Rattle.csv.specs.Machine.{ends_at_end}
use Rattle.csv.specs.Reading.{default_config, records, records_from, strip_bom, is_flexible, reader_config, reader_state, reader_trim, source_of}
use Rattle.csv.specs.declared.parser.State.{State}
use Rattle.csv.specs.declared.reader.Reader.{Reader}
use Rattle.csv.specs.declared.reader.Trim.TheVariants as trim
use Rattle.mi_input.specs.declared.faults.Reason.{Reason}
use Rattle.mi_input.specs.declared.faults.Reason.TheVariants.{Limit, End, Extra}
use Rattle.mi_input.specs.Faults.{Fault, ◌>>=◌, at_record}

-- the records of a file as csv has them, each a list of fields, each a list of bytes: no header row, any number
-- of fields, no trimming; one byte order mark at the start is passed over
abbrev pub records_in : List ℕ → List (List (List ℕ))
records_in bytes = records default_config (strip_bom bytes)

-- a place in a file: the number of the next record, and the records from there on
pub record Place : Type 0 where
  pub number : ℕ
  pub records : List (List (List ℕ))

-- where a file begins
abbrev pub start : List ℕ → Place
start bytes = record { number = 1; records = records_in bytes }

-- the place after the next record
abbrev pub after : Place → Place
after place = record { number = place.number + 1; records = drop 1 place.records }

-- the record that must follow
abbrev pub first_of : ℕ → List (List (List ℕ)) → Result (List (List ℕ)) Fault
first_of number [] = Err (record { number = number; why = End })
first_of number (fields ∷ rest) = Ok fields

-- the record at a place, read by its form
abbrev pub read_record : {X : Type 0} → (List (List ℕ) → Result X Reason) → Place → Result (X × Place) Fault
read_record form place = do
  fields ← first_of place.number place.records
  x ← at_record place.number (form fields)
  Ok (x, after place)

-- the value, if no record follows
abbrev pub value_if_none_left : {X : Type 0} → ℕ → List (List (List ℕ)) → X → Result X Fault
value_if_none_left number [] x = Ok x
value_if_none_left number (fields ∷ rest) x = Err (record { number = number; why = Extra })

abbrev pub value_at_end : {X : Type 0} → Place → X → Result X Fault
value_at_end place x = value_if_none_left place.number place.records x

-- the field at a place from 0, and an empty one where there is none
abbrev pub field_in : ℕ → List (List ℕ) → List ℕ
field_in place fields = slice_index_or fields place []

-- the first field is this word
abbrev pub begins_with : List ℕ → List (List ℕ) → Bool
begins_with word [] = false
begins_with word (field ∷ fields) = bytes_eq field word

-- the next record's first field is this word
abbrev pub next_begins : List ℕ → List (List (List ℕ)) → Bool
next_begins word [] = false
next_begins word (fields ∷ rest) = begins_with word fields

-- at most so many records of a kind, of which this is the one of that number
abbrev pub within_limit : {X : Type 0} → ℕ → ℕ → Result X Reason → Result X Reason
within_limit most number read = if nat_le number most then read else Err Limit

-- the records from a place on that begin with a word, where so many of them stand before it, each read by its form with its
-- number among them, and the place after them
unfoldable pub run_of : {X : Type 0} → List ℕ → (ℕ → List (List ℕ) → Result X Reason) → ℕ → ℕ → List (List (List ℕ)) → Result (List X × Place) Fault
run_of word form before number [] = Ok ([], record { number = number; records = [] })
run_of word form before number (fields ∷ rest) =
    if begins_with word fields then (do
      x ← at_record number (form (before + 1) fields)
      more ← run_of word form (before + 1) (number + 1) rest
      Ok (x ∷ more.0, more.1))
    else Ok ([], record { number = number; records = fields ∷ rest })

-- each field, read by its form
abbrev pub read_each : {X : Type 0} → (List ℕ → Result X Reason) → List (List ℕ) → Result (List X) Reason
read_each form [] = Ok []
read_each form (field ∷ fields) = do
  x ← form field
  xs ← read_each form fields
  Ok (x ∷ xs)

-- the records from a state of csv's machine on, over the bytes that it still has
abbrev pub records_left : State → Option (List ℕ) → List (List (List ℕ))
records_left state None = []
records_left state (Some bytes) = records_from default_config (length bytes + 1) state bytes

abbrev pub records_of : Reader (Bor (List ℕ)) → List (List (List ℕ))
records_of reader = records_left (reader_state reader) (source_of (λ bytes. Some bytes.now) reader)

-- the record at hand, if there is one, and those that csv's reader has left
abbrev pub records_at : Bool → List (List ℕ) → Reader (Bor (List ℕ)) → List (List (List ℕ))
records_at false fields reader = []
records_at true fields reader = fields ∷ records_of reader

-- csv's reader takes records of any length, and stands between two records of bytes that it knows
pub record IsBetweenRecords (reader : Reader (Bor (List ℕ))) : Type 0 where
  pub trim : reader_trim reader ≡ trim.None
  pub flexible : is_flexible reader ≡ true
  pub config : reader_config reader ≡ default_config
  pub state : ends_at_end (reader_state reader) ≡ false
  pub known : IsSome (source_of (λ bytes. Some bytes.now) reader)

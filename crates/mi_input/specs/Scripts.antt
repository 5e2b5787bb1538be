-- The script in a file.
use Rattle.std.specs.Prelude.{ℕ, ◌+◌, ◌==◌, if◌then◌else◌, List, [], ◌∷◌, length, drop, codes, Result, Ok, Err}
use Rattle.mi_base.specs.declared.limits.TheConstants.{MAX_COUNT, MAX_ID, MAX_OPS, MAX_RADIUS}
use Rattle.mi_base.specs.declared.records.Op.{Op}
use Rattle.mi_base.specs.declared.records.Op.TheVariants.{Insert, Delete, Range, Nearest}
use Rattle.mi_base.specs.Configuration.{Configuration}
use Rattle.mi_input.specs.declared.faults.Reason.{Reason}
use Rattle.mi_input.specs.declared.faults.Reason.TheVariants.{Word, Fields}
use Rattle.mi_input.specs.declared.vectors.Shape.{Shape}
use Rattle.mi_input.specs.Faults.{Fault, ◌>>=◌, at_record}
use Rattle.mi_input.specs.Numbers.{count_in}
use Rattle.mi_input.specs.Records.{begins_with, field_in, within_limit, records_in}
use Rattle.mi_input.specs.Vectors.{shape_of, vector_in}

abbrev pub id_in : List ℕ → Result ℕ Reason
id_in field = count_in 0 MAX_ID field

-- insert,ID,COORDINATES
unfoldable pub insert_in : Shape → List (List ℕ) → Result Op Reason
insert_in shape fields =
    if length fields == shape.dims + 2 then (do
      id ← id_in (field_in 1 fields)
      vector ← vector_in shape (drop 2 fields)
      Ok (Insert id vector))
    else Err Fields

-- delete,ID
unfoldable pub delete_in : List (List ℕ) → Result Op Reason
delete_in fields =
    if length fields == 2 then (do
      id ← id_in (field_in 1 fields)
      Ok (Delete id))
    else Err Fields

-- range,R,COORDINATES
unfoldable pub range_in : Shape → List (List ℕ) → Result Op Reason
range_in shape fields =
    if length fields == shape.dims + 2 then (do
      radius ← count_in 0 MAX_RADIUS (field_in 1 fields)
      query ← vector_in shape (drop 2 fields)
      Ok (Range radius query))
    else Err Fields

-- nearest,K,COORDINATES
unfoldable pub nearest_in : Shape → List (List ℕ) → Result Op Reason
nearest_in shape fields =
    if length fields == shape.dims + 2 then (do
      count ← count_in 1 MAX_COUNT (field_in 1 fields)
      query ← vector_in shape (drop 2 fields)
      Ok (Nearest count query))
    else Err Fields

-- the operation in the record of this number, or the first thing that is wrong with it
unfoldable pub op_in : Shape → ℕ → List (List ℕ) → Result Op Reason
op_in shape number fields =
    if begins_with (codes "insert") fields then within_limit MAX_OPS number (insert_in shape fields)
    else if begins_with (codes "delete") fields then within_limit MAX_OPS number (delete_in fields)
    else if begins_with (codes "range") fields then within_limit MAX_OPS number (range_in shape fields)
    else if begins_with (codes "nearest") fields then within_limit MAX_OPS number (nearest_in shape fields)
    else Err Word

-- the operations in these records, of which this is the number of the first, up to the first fault
unfoldable pub script_from : Shape → ℕ → List (List (List ℕ)) → Result (List Op) Fault
script_from shape number [] = Ok []
script_from shape number (fields ∷ rest) = do
  op ← at_record number (op_in shape number fields)
  ops ← script_from shape (number + 1) rest
  Ok (op ∷ ops)

-- the script in a file of these bytes under these settings, or its first fault
abbrev pub script_in : Configuration → List ℕ → Result (List Op) Fault
script_in c bytes = script_from (shape_of c) 1 (records_in bytes)

-- What is read as a script may stand in one.
use Rattle.std.proofs.Common.{◌≡◌, ℕ, ℤ, ◌+◌, ◌==◌, ◌≤◌, true, IsTrue, List, [], ◌∷◌, length, drop, Ok, Err, inl, inr, arith, lit≤, length-drop}
use Rattle.std.specs.List.{AllByRecursion}
use Rattle.std.proofs.lemmas.Bool.{eqb-true}
use Rattle.mi_base.specs.declared.limits.TheConstants.{MAX_COUNT, MAX_ID, MAX_OPS, MAX_RADIUS}
use Rattle.mi_base.specs.declared.records.Op.{Op}
use Rattle.mi_base.specs.declared.records.Op.TheVariants.{Insert, Delete, Range, Nearest}
use Rattle.mi_base.specs.Configuration.{Configuration, IsWithinLimits, metric_space}
use Rattle.mi_base.specs.Scripts.{IsOpOver, IsScriptOver}
use Rattle.mi_input.specs.declared.faults.Reason.TheVariants.{Fields}
use Rattle.mi_input.specs.Faults.{◌>>=◌, at_record}
use Rattle.mi_input.specs.Numbers.{count_in}
use Rattle.mi_input.specs.Records.{field_in}
use Rattle.mi_input.specs.Scripts.{delete_in, id_in, insert_in, nearest_in, op_in, range_in, script_from}
use Rattle.mi_input.specs.Vectors.{shape_of, vector_in}
use Rattle.mi_input.proofs.CaseLemmas.{at_record_ok, bind_ok, chosen, ok_same}
use Rattle.mi_input.proofs.ScriptLemmas.{op_ok}
use Rattle.mi_input.proofs.VectorLaws.{by_metric, count_ok}

-- what is read as a vector fits the metric
vector_fits : (c : Configuration) (fields : List (List ℕ)) (v : List ℤ) → IsWithinLimits c → length fields ≡ c.dims → vector_in (shape_of c) fields ≡ Ok v
    → IsTrue ((metric_space c).fits v)
vector_fits c fields v within n h = by_metric c.metric c.dims c.rows fields v within.rows n h

rest_length : (fields : List (List ℕ)) (dims : ℕ) → (length fields == dims + 2) ≡ true → length (drop 2 fields) ≡ dims
rest_length fields dims h = let n : length fields ≡ dims + 2 = eqb-true _ _ h in omega (arith, length-drop 2 fields, n)

id_small : (field : List ℕ) (id : ℕ) → id_in field ≡ Ok id → id ≤ MAX_ID
id_small field id h = (count_ok 0 MAX_ID field id h).1

insert_over : (c : Configuration) (fields : List (List ℕ)) (op : Op) → IsWithinLimits c → insert_in (shape_of c) fields ≡ Ok op → IsOpOver (metric_space c) op
unfolding insert_in
insert_over c fields op within h = elim (chosen (length fields == c.dims + 2) _ (Err Fields) (Ok op) h) [
  | inl full ↦
      let (id, first, more) = bind_ok (id_in (field_in 1 fields)) (λ id. vector_in (shape_of c) (drop 2 fields) >>= λ v. Ok (Insert id v)) op full.1 in
      let (v, second, e) = bind_ok (vector_in (shape_of c) (drop 2 fields)) (λ v. Ok (Insert id v)) op more in
      rw (← ok_same (Insert id v) op e) (id_small (field_in 1 fields) id first, vector_fits c (drop 2 fields) v within (rest_length fields c.dims full.0) second)
  | inr other ↦ cc other.1
]

delete_over : (c : Configuration) (fields : List (List ℕ)) (op : Op) → delete_in fields ≡ Ok op → IsOpOver (metric_space c) op
unfolding delete_in
delete_over c fields op h = elim (chosen (length fields == 2) _ (Err Fields) (Ok op) h) [
  | inl full ↦
      let (id, first, e) = bind_ok (id_in (field_in 1 fields)) (λ id. Ok (Delete id)) op full.1 in
      rw (← ok_same (Delete id) op e) (id_small (field_in 1 fields) id first)
  | inr other ↦ cc other.1
]

range_over : (c : Configuration) (fields : List (List ℕ)) (op : Op) → IsWithinLimits c → range_in (shape_of c) fields ≡ Ok op → IsOpOver (metric_space c) op
unfolding range_in
range_over c fields op within h = elim (chosen (length fields == c.dims + 2) _ (Err Fields) (Ok op) h) [
  | inl full ↦
      let (radius, first, more) = bind_ok (count_in 0 MAX_RADIUS (field_in 1 fields)) (λ radius. vector_in (shape_of c) (drop 2 fields) >>= λ v. Ok (Range radius v)) op full.1 in
      let (v, second, e) = bind_ok (vector_in (shape_of c) (drop 2 fields)) (λ v. Ok (Range radius v)) op more in
      let t = count_ok 0 MAX_RADIUS (field_in 1 fields) radius first in
      rw (← ok_same (Range radius v) op e) (t.1, vector_fits c (drop 2 fields) v within (rest_length fields c.dims full.0) second)
  | inr other ↦ cc other.1
]

nearest_over : (c : Configuration) (fields : List (List ℕ)) (op : Op) → IsWithinLimits c → nearest_in (shape_of c) fields ≡ Ok op → IsOpOver (metric_space c) op
unfolding nearest_in
nearest_over c fields op within h = elim (chosen (length fields == c.dims + 2) _ (Err Fields) (Ok op) h) [
  | inl full ↦
      let (count, first, more) = bind_ok (count_in 1 MAX_COUNT (field_in 1 fields)) (λ count. vector_in (shape_of c) (drop 2 fields) >>= λ v. Ok (Nearest count v)) op full.1 in
      let (v, second, e) = bind_ok (vector_in (shape_of c) (drop 2 fields)) (λ v. Ok (Nearest count v)) op more in
      let t = count_ok 1 MAX_COUNT (field_in 1 fields) count first in
      rw (← ok_same (Nearest count v) op e) (t.0, t.1, vector_fits c (drop 2 fields) v within (rest_length fields c.dims full.0) second)
  | inr other ↦ cc other.1
]

op_over : (c : Configuration) (number : ℕ) (fields : List (List ℕ)) (op : Op) → IsWithinLimits c → op_in (shape_of c) number fields ≡ Ok op
    → (number ≤ MAX_OPS) × IsOpOver (metric_space c) op
op_over c number fields op within h =
    let o = op_ok (shape_of c) number fields op h in (
      o.0,
      elim o.1 [
        | inl inserts ↦ insert_over c fields op within inserts
        | inr others ↦ elim others [
          | inl deletes ↦ delete_over c fields op deletes
          | inr queries ↦ elim queries [ inl ranges ↦ range_over c fields op within ranges | inr nearest ↦ nearest_over c fields op within nearest ]
        ]
      ],
    )

records_over : (c : Configuration) (number : ℕ) (records : List (List (List ℕ))) (ops : List Op) → IsWithinLimits c → number ≤ MAX_OPS + 1 → script_from (shape_of c) number records ≡ Ok ops
    → (length ops + number ≤ MAX_OPS + 1) × AllByRecursion (IsOpOver (metric_space c)) ops
unfolding script_from
records_over c number [] ops within few h = let e : [] ≡ ops = ok_same [] ops h in rw (← e) (omega arith, tt)
records_over c number (fields ∷ rest) ops within few h =
    let (op, first, more) = bind_ok (at_record number (op_in (shape_of c) number fields)) (λ op. script_from (shape_of c) (number + 1) rest >>= λ ops. Ok (op ∷ ops)) ops h in
    let (after, read, e) = bind_ok (script_from (shape_of c) (number + 1) rest) (λ (ops : List Op). Ok (op ∷ ops)) ops more in
    let o = op_over c number fields op within (at_record_ok number (op_in (shape_of c) number fields) op first) in
    let r = records_over c (number + 1) rest after within (omega (arith, o.0)) read in
    rw (← ok_same (op ∷ after) ops e) (omega (arith, r.0), (o.1, r.1))

-- a script that was read may be run over the metric
pub script_over : (c : Configuration) (records : List (List (List ℕ))) (ops : List Op) → IsWithinLimits c → script_from (shape_of c) 1 records ≡ Ok ops
    → IsScriptOver (metric_space c) ops
script_over c records ops within h = let r = records_over c 1 records ops within (lit≤ tt) h in record { few = omega (arith, r.0); each = r.1 }

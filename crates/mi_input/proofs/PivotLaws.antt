-- What is read as pivots fits the metric, and there are few.
use Rattle.std.proofs.Common.{◌≡◌, ◌==◌, ℕ, ℤ, ◌+◌, ◌≤◌, IsTrue, List, [], ◌∷◌, length, drop, codes, Ok, Err, inl, inr, ap, arith, length-drop}
use Rattle.std.specs.List.{AllByRecursion}
use Rattle.std.proofs.lemmas.Bool.{eqb-true}
use Rattle.mi_base.specs.declared.settings.MetricKind.{MetricKind}
use Rattle.mi_base.specs.Configuration.{HasItsRows}
use Rattle.mi_base.specs.Space.{metric_of}
use Rattle.mi_input.specs.declared.faults.Reason.TheVariants.{Fields}
use Rattle.mi_input.specs.declared.settings.Measure.{Measure}
use Rattle.mi_input.specs.declared.vectors.Shape.{Shape}
use Rattle.mi_input.specs.Faults.{Fault, ◌>>=◌, at_record}
use Rattle.mi_input.specs.Records.{Place, begins_with, run_of}
use Rattle.mi_input.specs.Settings.{ArePivots, IsMeasure, pivot_in, pivots_in}
use Rattle.mi_input.specs.Vectors.{shape_under, vector_in}
use Rattle.mi_input.proofs.CaseLemmas.{at_record_ok, bind_ok, chosen, limited_ok, ok_same}
use Rattle.mi_input.proofs.RunLemmas.{run_ahead, run_begins}
use Rattle.mi_input.proofs.VectorLaws.{by_metric}

-- the pivots that were read, and the place after them
abbrev Read : Type 0
Read = List (List ℤ) × Place

-- what is known of a pivot that was read
pivot_ok : (shape : Shape) (number : ℕ) (fields : List (List ℕ)) (v : List ℤ) → pivot_in shape number fields ≡ Ok v
    → (number ≤ 32) × (length (drop 1 fields) ≡ shape.dims) × (vector_in shape (drop 1 fields) ≡ Ok v)
unfolding pivot_in
pivot_ok shape number fields v h =
    let t = limited_ok 32 number _ v h in
    elim (chosen (length fields == shape.dims + 1) (vector_in shape (drop 1 fields)) (Err Fields) (Ok v) t.1) [
      | inl full ↦ let n : length fields ≡ shape.dims + 1 = eqb-true _ _ full.0 in (t.0, omega (arith, length-drop 1 fields, n), full.1)
      | inr other ↦ cc other.1
    ]

module _ (metric : MetricKind) (dims : ℕ) (rows : List (List ℕ)) (its : HasItsRows metric dims rows) where
  abbrev vectors : Shape
  vectors = shape_under metric dims rows

  -- how many there are, and that each fits
  abbrev Fit : ℕ → List (List ℤ) → Type 0
  Fit before pivots = (length pivots + before ≤ 32) × AllByRecursion (λ pivot. IsTrue ((metric_of metric dims rows).fits pivot)) pivots

  run_fits : (before number : ℕ) (records : List (List (List ℕ))) (pivots : List (List ℤ)) (next : Place) → before ≤ 32
      → run_of (codes "pivot") (pivot_in vectors) before number records ≡ Ok (pivots, next) → Fit before pivots
  unfolding run_of
  run_fits before number [] pivots next few h =
      let e = ok_same {X = Read} {E = Fault} ([], record { number = number; records = [] }) (pivots, next) h in
      rw (← ap (λ (p : Read). p.0) e) (omega arith, tt)
  run_fits before number (fields ∷ rest) pivots next few h = elim (chosen (begins_with (codes "pivot") fields) _ _ (Ok (pivots, next)) h) [
    | inl more ↦
        let (v, first, then) = bind_ok (at_record number (pivot_in vectors (before + 1) fields)) (λ v. run_of (codes "pivot") (pivot_in vectors) (before + 1) (number + 1) rest >>= λ after. Ok (v ∷ after.0, after.1)) (pivots, next) more.1 in
        let (after, read, same) = bind_ok (run_of (codes "pivot") (pivot_in vectors) (before + 1) (number + 1) rest) (λ (after : Read). Ok (v ∷ after.0, after.1)) (pivots, next) then in
        let p = pivot_ok vectors (before + 1) fields v (at_record_ok number (pivot_in vectors (before + 1) fields) v first) in
        let r = run_fits (before + 1) (number + 1) rest after.0 after.1 p.0 read in
        let e = ok_same {X = Read} {E = Fault} (v ∷ after.0, after.1) (pivots, next) same in
        rw (← ap (λ (p : Read). p.0) e) (omega (arith, r.0), (by_metric metric dims rows (drop 1 fields) v its p.1 p.2, r.1))
    | inr none ↦
        let e = ok_same {X = Read} {E = Fault} ([], record { number = number; records = fields ∷ rest }) (pivots, next) none.1 in
        rw (← ap (λ (p : Read). p.0) e) (omega arith, tt)
  ]

-- before the first pivot
pub pivots_begin : (shape : Shape) (place : Place) → run_ahead [] (run_of (codes "pivot") (pivot_in shape) 0 place.number place.records) ≡ pivots_in shape place
unfolding pivots_in
pivots_begin shape place = run_begins _

-- the pivots that were read under a metric are pivots of it
pub pivots_over : (measure : Measure) (place next : Place) (pivots : List (List ℤ)) → IsMeasure measure
    → pivots_in (shape_under measure.metric measure.dims measure.rows) place ≡ Ok (pivots, next) → ArePivots measure pivots
unfolding pivots_in
pivots_over measure place next pivots is h =
    let r = run_fits measure.metric measure.dims measure.rows is.rows 0 place.number place.records pivots next (omega arith) h in
    record { few = omega (arith, r.0); fit = r.1 }

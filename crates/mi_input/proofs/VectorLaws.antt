-- Fields within the bounds of a metric make vectors that fit it.
use Rattle.std.proofs.Common.{◌≡◌, ℕ, ℤ, pos, negsuc, neg_ℤ, ◌≤ℤ◌, ◌-◌, ◌==◌, ◌&&◌, ◌≤◌, ◌<◌, true, IsTrue, List, [], ◌∷◌, length, Option, Some, None, Result, Ok, Err, int_le, unsigned_abs, inl, inr, refl, ◌∙◌, arith}
use Rattle.std.proofs.lemmas.Bool.{and_parts, eq-eqb, lt-ltb}
use Rattle.std.proofs.lemmas.Int.{ints}
use Rattle.mi_base.specs.declared.settings.MetricKind.{MetricKind}
use Rattle.mi_base.specs.declared.settings.MetricKind.TheVariants.{L1, Max, Hamming, Table}
use Rattle.mi_base.specs.Configuration.{HasItsRows}
use Rattle.mi_base.specs.Space.{has_dims, is_row, metric_of}
use Rattle.mi_base.specs.Vectors.{all_coordinates}
use Rattle.mi_input.specs.declared.faults.Reason.{Reason}
use Rattle.mi_input.specs.declared.faults.Reason.TheVariants.{Range as OutOfRange}
use Rattle.mi_input.specs.Faults.{◌>>=◌}
use Rattle.mi_input.specs.Numbers.{number_within, count_in, number_in, whole_in}
use Rattle.mi_input.specs.Records.{read_each}
use Rattle.mi_input.specs.Vectors.{highest, lowest}
use Rattle.mi_input.proofs.CaseLemmas.{bind_ok, chosen, ok_same}
use Rattle.mi_input.proofs.VectorLemmas.{between, int_between}

size : (z : ℤ) (n : ℕ) {least most : ℕ} → unsigned_abs z ≡ n → pos least ≤ℤ z → z ≤ℤ pos most → (least ≤ n) × (n ≤ most)
size (pos k) n {least} {most} e lo hi = let s : k ≡ n = e in (omega (arith, ints), omega (arith, ints))
size (negsuc k) n {least} {most} e lo hi = absurd (omega (arith, ints))

int_le_of : (a b : ℤ) → int_le a b ≡ true → a ≤ℤ b
int_le_of a b h = grind (arith, ints)

bounded_ok : (least most : ℤ) (o : Option ℤ) (z : ℤ) → number_within least most o ≡ Ok z → (least ≤ℤ z) × (z ≤ℤ most)
bounded_ok least most None z h = cc
bounded_ok least most (Some n) z h = elim (chosen (int_le least n && int_le n most) (Ok n) (Err OutOfRange) (Ok z) h) [
  | inl within ↦
      let t = and_parts (int_le least n) (int_le n most) within.0 in
      let e : n ≡ z = ok_same n z within.1 in
      rw (← e) (int_le_of least n t.0, int_le_of n most t.1)
  | inr outside ↦ cc outside.1
]

pub whole_ok : (least most : ℤ) (field : List ℕ) (z : ℤ) → whole_in least most field ≡ Ok z → (least ≤ℤ z) × (z ≤ℤ most)
unfolding whole_in
whole_ok least most field z h = bounded_ok least most (number_in field) z h

pub count_ok : (least most : ℕ) (field : List ℕ) (n : ℕ) → count_in least most field ≡ Ok n → (least ≤ n) × (n ≤ most)
unfolding count_in
count_ok least most field n h =
    let (z, read, e) = bind_ok (whole_in (pos least) (pos most) field) (λ number. Ok (unsigned_abs number)) n h in
    let t = whole_ok (pos least) (pos most) field z read in
    size z n (ok_same (unsigned_abs z) n e) t.0 t.1

each_length : {X : Type 0} (form : List ℕ → Result X Reason) (fields : List (List ℕ)) (xs : List X) → read_each form fields ≡ Ok xs → length xs ≡ length fields
each_length form [] xs h = let e : [] ≡ xs = ok_same [] xs h in rw (← e) refl
each_length {X} form (field ∷ fields) xs h =
    let (x, first, more) = bind_ok (form field) (λ x. read_each form fields >>= λ xs. Ok (x ∷ xs)) xs h in
    let (rest, read, e) = bind_ok (read_each form fields) (λ (xs : List X). Ok (x ∷ xs)) xs more in
    rw (← ok_same (x ∷ rest) xs e, each_length form fields rest read) refl

-- coordinates within the bounds of a shape are coordinates
each_coordinate : (least most : ℤ) (fields : List (List ℕ)) (xs : List ℤ) → neg_ℤ (pos 1000000) ≤ℤ least → most ≤ℤ pos 1000000
    → read_each (whole_in least most) fields ≡ Ok xs → all_coordinates xs ≡ true
each_coordinate least most [] xs lo hi h = rw (← ok_same [] xs h) refl
each_coordinate least most (field ∷ fields) xs lo hi h =
    let (x, first, more) = bind_ok (whole_in least most field) (λ x. read_each (whole_in least most) fields >>= λ xs. Ok (x ∷ xs)) xs h in
    let (rest, read, e) = bind_ok (read_each (whole_in least most) fields) (λ (xs : List ℤ). Ok (x ∷ xs)) xs more in
    let t = whole_ok least most field x first in
    rw (← ok_same (x ∷ rest) xs e, between x (int_between _ _ _ lo t.0) (int_between _ _ _ t.1 hi), each_coordinate least most fields rest lo hi read) refl

-- so many coordinates fit a metric of so many
fits_dims : (dims : ℕ) (fields : List (List ℕ)) (v : List ℤ) → length fields ≡ dims
    → read_each (whole_in (neg_ℤ (pos 1000000)) (pos 1000000)) fields ≡ Ok v → IsTrue (has_dims dims v)
fits_dims dims fields v n h =
    let one : (length v == dims) ≡ true = eq-eqb (length v) dims (each_length _ fields v h ∙ n) in
    let all : all_coordinates v ≡ true = each_coordinate _ _ fields v (omega (arith, ints)) (omega (arith, ints)) h in
    rw (one, all) refl

one_row : (rows : ℕ) (z : ℤ) → 1 ≤ rows → pos 0 ≤ℤ z → z ≤ℤ pos (rows - 1) → IsTrue (is_row rows (z ∷ []))
one_row rows (pos i) some lo hi = let below : i < rows = omega (arith, ints) in lt-ltb i rows below
one_row rows (negsuc i) some lo hi = absurd (omega (arith, ints))

-- one coordinate below the number of rows fits a table
fits_row : (rows : ℕ) (fields : List (List ℕ)) (v : List ℤ) → length fields ≡ 1 → 1 ≤ rows → read_each (whole_in (pos 0) (pos (rows - 1))) fields ≡ Ok v → IsTrue (is_row rows v)
fits_row rows [] v n some h = absurd (omega arith)
fits_row rows (field ∷ other ∷ fields) v n some h = absurd (omega arith)
fits_row rows (field ∷ []) v n some h =
    let (x, first, more) = bind_ok (whole_in (pos 0) (pos (rows - 1)) field) (λ x. read_each (whole_in (pos 0) (pos (rows - 1))) [] >>= λ xs. Ok (x ∷ xs)) v h in
    let t = whole_ok (pos 0) (pos (rows - 1)) field x first in
    rw (← ok_same (x ∷ []) v more) (one_row rows x some t.0 t.1)

-- coordinates within the bounds of a metric fit it
pub by_metric : (kind : MetricKind) (dims : ℕ) (rows : List (List ℕ)) (fields : List (List ℕ)) (v : List ℤ) → HasItsRows kind dims rows → length fields ≡ dims
    → read_each (whole_in (lowest kind) (highest kind rows)) fields ≡ Ok v → IsTrue ((metric_of kind dims rows).fits v)
by_metric L1 dims rows fields v its n h = fits_dims dims fields v n h
by_metric Max dims rows fields v its n h = fits_dims dims fields v n h
by_metric Hamming dims rows fields v its n h = fits_dims dims fields v n h
by_metric Table dims rows fields v its n h = fits_row (length rows) fields v (n ∙ its.0) its.1.some h

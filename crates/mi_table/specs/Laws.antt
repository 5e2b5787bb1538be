-- A table without a fault is a metric.
use Rattle.std.specs.Prelude.{◌≡◌, ℕ, zero, suc, ℤ, pos, negsuc, ◌+◌, ◌<◌, ◌≤◌, ◌==◌, ◌&&◌, List, [], ◌∷◌, ◌++◌, length, Bool, true, false, IsTrue, not, nat_lt, Option, None, Some, is_none, slice_index_or, refl}
use Rattle.std.specs.List.{AllByRecursion}
use Rattle.std.specs.Option.{option_or}
use Rattle.std.proofs.Common.{sym, ap, ◌∙◌, inl, inr, arith}
use Rattle.std.proofs.lemmas.Bool.{ltb-true, cases_lt, cases_order}
use Rattle.std.proofs.lemmas.Bool.Decides.{nat_tests}
use Rattle.std.proofs.lemmas.List.Folds.{find-append}
use Rattle.mi_base.specs.Configuration.{IsTable, IsTableRow}
use Rattle.mi_base.specs.declared.limits.TheConstants.{MAX_DISTANCE}
use Rattle.mi_base.specs.Space.{IsMetric, is_row, table_entry, table_metric}
use Rattle.mi_table.specs.declared.faults.TableFault.{TableFault}
use Rattle.mi_table.specs.declared.faults.TableFault.TheVariants.{NotSquare, Diagonal, Zero, Asymmetric, Triangle}
use Rattle.mi_table.specs.Faults.{has_fault, faults_of_each, lengths, diagonal, zeros, zeros_from, asymmetries, asymmetries_from, triangles, triangles_from, triangles_through, first_among, first_fault, IsSquare}

-- no entry is above 128,000,000
value_small : (row : List ℕ) (j : ℕ) → AllByRecursion (λ value. value ≤ MAX_DISTANCE) row → slice_index_or row j 0 ≤ MAX_DISTANCE
value_small [] j h = omega arith
value_small (x ∷ xs) zero h = h.0
value_small (x ∷ xs) (suc j) h = value_small xs j h.1

row_small : (rows : List (List ℕ)) (i j : ℕ) → AllByRecursion IsTableRow rows → table_entry rows i j ≤ MAX_DISTANCE
row_small [] i j h = omega arith
row_small (x ∷ xs) zero j h = value_small x j h.0.small
row_small (x ∷ xs) (suc i) j h = row_small xs i j h.1

pub entry_small : (rows : List (List ℕ)) (i j : ℕ) → IsTable rows → table_entry rows i j ≤ MAX_DISTANCE
entry_small rows i j t = row_small rows i j t.each

-- where two options in a row are none, each is
left_none : {X : Type 0} (a b : Option X) → option_or a b ≡ None → a ≡ None
left_none None b h = refl
left_none (Some x) b h = cc

right_none : {X : Type 0} (a b : Option X) → option_or a b ≡ None → b ≡ None
right_none None b h = h
right_none (Some x) b h = cc

module _ (rows : List (List ℕ)) where
  -- the faults of two lists, one after the other
  pub among_left : (xs ys : List TableFault) → first_among rows (xs ++ ys) ≡ None → first_among rows xs ≡ None
  among_left xs ys h = left_none (first_among rows xs) (first_among rows ys) (sym (find-append (has_fault rows) xs ys) ∙ h)

  pub among_right : (xs ys : List TableFault) → first_among rows (xs ++ ys) ≡ None → first_among rows ys ≡ None
  among_right xs ys h = right_none (first_among rows xs) (first_among rows ys) (sym (find-append (has_fault rows) xs ys) ∙ h)

  -- no fault of the numbers below n: none of each
  pub each_none : (f : ℕ → List TableFault) (n i : ℕ) → i < n → first_among rows (faults_of_each n f) ≡ None → first_among rows (f i) ≡ None
  each_none f zero i lt h = absurd (omega arith)
  each_none f (suc n) i lt h =
      elim (cases_lt i n) [
        | inl below ↦ each_none f n i below (among_left (faults_of_each n f) (f n) h)
        | inr above ↦ let e : n ≡ i = omega arith in ap (λ k. first_among rows (f k)) (sym e) ∙ among_right (faults_of_each n f) (f n) h
      ]

  -- one fault alone
  pub one_here : (fault : TableFault) → has_fault rows fault ≡ true → first_among rows (fault ∷ []) ≡ Some fault
  one_here fault h = rw h refl

  pub one_none : (fault : TableFault) → first_among rows (fault ∷ []) ≡ None → has_fault rows fault ≡ false
  one_none fault h =
      let P : Bool → Type 0 = λ b. has_fault rows fault ≡ b → b ≡ false in
      (elim (has_fault rows fault) as P [
        | true ↦ λ e. let k : first_among rows (fault ∷ []) ≡ Some fault = one_here fault e in cc
        | false ↦ λ e. refl
      ]) refl

none_of : {X : Type 0} (o : Option X) → IsTrue (is_none o) → o ≡ None
none_of None h = refl
none_of (Some x) h = cc

equal_of : (a b : ℕ) → not (a == b) ≡ false → a ≡ b
equal_of a b h = grind (arith, nat_tests)

apart_of : (i j d : ℕ) → (not (i == j) && (d == 0)) ≡ false → d ≡ 0 → i ≡ j
apart_of i j d h z = grind (arith, nat_tests)

symmetric_of : (i j a b : ℕ) → (nat_lt i j && not (a == b)) ≡ false → i < j → a ≡ b
symmetric_of i j a b h lt = grind (arith, nat_tests)

within_of : (a b : ℕ) → nat_lt a b ≡ false → b ≤ a
within_of a b h = grind (arith, nat_tests)

-- what no fault says of the entries
record IsFaultless (rows : List (List ℕ)) : Type 0 where
  square : IsSquare rows
  same : (i : ℕ) → i < length rows → table_entry rows i i ≡ 0
  apart : (i j : ℕ) → i < length rows → j < length rows → table_entry rows i j ≡ 0 → i ≡ j
  rising : (i j : ℕ) → i < length rows → j < length rows → i < j → table_entry rows i j ≡ table_entry rows j i
  triangle : (i j k : ℕ) → i < length rows → j < length rows → k < length rows → table_entry rows i k ≤ table_entry rows i j + table_entry rows j k

pub square_of : (rows : List (List ℕ)) → first_among rows (lengths (length rows)) ≡ None → IsSquare rows
square_of rows h = λ i lt. equal_of (length (slice_index_or rows i [])) (length rows) (one_none rows (NotSquare i) (each_none rows (λ row. NotSquare row ∷ []) (length rows) i lt h))

faultless : (rows : List (List ℕ)) → first_fault rows ≡ None → IsFaultless rows
faultless rows none =
    let n = length rows in
    let upto_symmetry : first_among rows (lengths n ++ diagonal n ++ zeros n ++ asymmetries n) ≡ None = among_left rows (lengths n ++ diagonal n ++ zeros n ++ asymmetries n) (triangles n) none in
    let upto_zeros : first_among rows (lengths n ++ diagonal n ++ zeros n) ≡ None = among_left rows (lengths n ++ diagonal n ++ zeros n) (asymmetries n) upto_symmetry in
    let upto_diagonal : first_among rows (lengths n ++ diagonal n) ≡ None = among_left rows (lengths n ++ diagonal n) (zeros n) upto_zeros in
    record {
      square = square_of rows (among_left rows (lengths n) (diagonal n) upto_diagonal);
      same = λ i lt. equal_of (table_entry rows i i) 0 (one_none rows (Diagonal i)
          (each_none rows (λ i. Diagonal i ∷ []) n i lt (among_right rows (lengths n) (diagonal n) upto_diagonal)));
      apart = λ i j lt lu. apart_of i j (table_entry rows i j) (one_none rows (Zero i j)
          (each_none rows (λ j. Zero i j ∷ []) n j lu (each_none rows (zeros_from n) n i lt (among_right rows (lengths n ++ diagonal n) (zeros n) upto_zeros))));
      rising = λ i j lt lu. symmetric_of i j (table_entry rows i j) (table_entry rows j i) (one_none rows (Asymmetric i j)
          (each_none rows (λ j. Asymmetric i j ∷ []) n j lu (each_none rows (asymmetries_from n) n i lt (among_right rows (lengths n ++ diagonal n ++ zeros n) (asymmetries n) upto_symmetry))));
      triangle = λ i j k lt lu lv. within_of (table_entry rows i j + table_entry rows j k) (table_entry rows i k) (one_none rows (Triangle i j k)
          (each_none rows (λ k. Triangle i j k ∷ []) n k lv (each_none rows (triangles_through n i) n j lu
          (each_none rows (triangles_from n) n i lt (among_right rows (lengths n ++ diagonal n ++ zeros n ++ asymmetries n) (triangles n) none)))));
    }

pub is_square : (rows : List (List ℕ)) → IsTrue (is_none (first_fault rows)) → IsSquare rows
is_square rows h = (faultless rows (none_of (first_fault rows) h)).square

symmetric : (rows : List (List ℕ)) → IsFaultless rows → (i j : ℕ) → i < length rows → j < length rows → table_entry rows i j ≡ table_entry rows j i
symmetric rows f i j lt lu =
    elim (cases_order i j) [
      | inl e ↦ ap (λ k. table_entry rows i k) (sym e) ∙ ap (λ k. table_entry rows k i) e
      | inr (inl below) ↦ f.rising i j lt lu below
      | inr (inr above) ↦ sym (f.rising j i lu lt above)
    ]

-- a vector that names a row
record NamesRow (n : ℕ) (x : List ℤ) : Type 0 where
  row : ℕ
  below : row < n
  is : x ≡ pos row ∷ []

names_row : (n : ℕ) (x : List ℤ) → IsTrue (is_row n x) → NamesRow n x
names_row n [] h = cc
names_row n (pos i ∷ []) h = record { row = i; below = ltb-true i n h; is = refl }
names_row n (negsuc i ∷ []) h = cc
names_row n (pos i ∷ y ∷ ys) h = cc
names_row n (negsuc i ∷ y ∷ ys) h = cc

pub table_is_metric : (rows : List (List ℕ)) → IsTable rows → IsTrue (is_none (first_fault rows)) → IsMetric (table_metric rows)
table_is_metric rows t h =
    let n = length rows in
    let f = faultless rows (none_of (first_fault rows) h) in
    record {
      same = λ x hx. let a = names_row n x hx in rw a.is (f.same a.row a.below);
      apart = λ x y hx hy.
          let a = names_row n x hx in
          let b = names_row n y hy in
          rw (a.is, b.is) (λ zero. ap (λ i. pos i ∷ []) (f.apart a.row b.row a.below b.below zero));
      symmetric = λ x y hx hy.
          let a = names_row n x hx in
          let b = names_row n y hy in
          rw (a.is, b.is) (symmetric rows f a.row b.row a.below b.below);
      triangle = λ x y z hx hy hz.
          let a = names_row n x hx in
          let b = names_row n y hy in
          let c = names_row n z hz in
          rw (a.is, b.is, c.is) (f.triangle a.row b.row c.row a.below b.below c.below);
      bound = λ x y hx hy.
          let a = names_row n x hx in
          let b = names_row n y hy in
          rw (a.is, b.is) (entry_small rows a.row b.row t);
    }

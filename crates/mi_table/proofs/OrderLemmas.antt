-- One kind of fault after the other.
use Rattle.std.proofs.Common.{◌≡◌, ℕ, List, ◌++◌, length, None, Some}
use Rattle.mi_table.specs.declared.faults.TableFault.{TableFault}
use Rattle.mi_table.specs.Faults.{lengths, diagonal, zeros, asymmetries, triangles, first_among, first_fault}
use Rattle.mi_table.proofs.SearchLemmas.{among_neither, among_first, among_second}

module _ (rows : List (List ℕ)) where
  -- this kind has no fault
  abbrev pub Lacks : (ℕ → List TableFault) → Type 0
  Lacks kind = first_among rows (kind (length rows)) ≡ None

  -- this is the first fault of its kind
  abbrev pub Has : (ℕ → List TableFault) → TableFault → Type 0
  Has kind fault = first_among rows (kind (length rows)) ≡ Some fault

  abbrev to_zeros : ℕ → List TableFault
  to_zeros n = lengths n ++ diagonal n ++ zeros n

  abbrev to_asymmetries : ℕ → List TableFault
  to_asymmetries n = to_zeros n ++ asymmetries n

  none_to_zeros : Lacks lengths → Lacks diagonal → Lacks zeros → Lacks to_zeros
  none_to_zeros l d z =
      let n = length rows in
      among_neither rows (lengths n ++ diagonal n) (zeros n) (among_neither rows (lengths n) (diagonal n) l d) z

  from_zeros : (fault : TableFault) → Has to_zeros fault → first_fault rows ≡ Some fault
  from_zeros fault h =
      let n = length rows in
      among_first rows (to_asymmetries n) (triangles n) fault (among_first rows (to_zeros n) (asymmetries n) fault h)

  pub first_length : (fault : TableFault) → Has lengths fault → first_fault rows ≡ Some fault
  first_length fault h =
      let n = length rows in
      from_zeros fault (among_first rows (lengths n ++ diagonal n) (zeros n) fault (among_first rows (lengths n) (diagonal n) fault h))

  pub first_diagonal : (fault : TableFault) → Lacks lengths → Has diagonal fault → first_fault rows ≡ Some fault
  first_diagonal fault l h =
      let n = length rows in
      from_zeros fault (among_first rows (lengths n ++ diagonal n) (zeros n) fault (among_second rows (lengths n) (diagonal n) fault l h))

  pub first_zero : (fault : TableFault) → Lacks lengths → Lacks diagonal → Has zeros fault → first_fault rows ≡ Some fault
  first_zero fault l d h =
      let n = length rows in
      from_zeros fault (among_second rows (lengths n ++ diagonal n) (zeros n) fault (among_neither rows (lengths n) (diagonal n) l d) h)

  pub first_asymmetry : (fault : TableFault) → Lacks lengths → Lacks diagonal → Lacks zeros → Has asymmetries fault → first_fault rows ≡ Some fault
  first_asymmetry fault l d z h =
      let n = length rows in
      among_first rows (to_asymmetries n) (triangles n) fault (among_second rows (to_zeros n) (asymmetries n) fault (none_to_zeros l d z) h)

  pub first_triangle : (fault : TableFault) → Lacks lengths → Lacks diagonal → Lacks zeros → Lacks asymmetries → Has triangles fault → first_fault rows ≡ Some fault
  first_triangle fault l d z a h =
      let n = length rows in
      among_second rows (to_asymmetries n) (triangles n) fault (among_neither rows (to_zeros n) (asymmetries n) (none_to_zeros l d z) a) h

  pub no_fault : Lacks lengths → Lacks diagonal → Lacks zeros → Lacks asymmetries → Lacks triangles → first_fault rows ≡ None
  no_fault l d z a t =
      let n = length rows in
      among_neither rows (to_asymmetries n) (triangles n) (among_neither rows (to_zeros n) (asymmetries n) (none_to_zeros l d z) a) t

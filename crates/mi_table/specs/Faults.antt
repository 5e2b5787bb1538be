-- The faults of a table, and which one is the first.
use Rattle.std.specs.Prelude.{◌≡◌, ℕ, zero, suc, ◌+◌, ◌<◌, ◌==◌, ◌&&◌, List, [], ◌∷◌, ◌++◌, length, Bool, false, not, nat_lt, Option, None, Some, Result, MatchResult, slice_index_or, ⊤}
use Rattle.std.specs.List.{find}
use Rattle.mi_base.specs.declared.settings.MetricKind.TheVariants.{Table}
use Rattle.mi_base.specs.Configuration.{Configuration}
use Rattle.mi_base.specs.Space.{table_entry}
use Rattle.mi_table.specs.declared.faults.TableFault.{TableFault}
use Rattle.mi_table.specs.declared.faults.TableFault.TheVariants.{NotSquare, Diagonal, Zero, Asymmetric, Triangle, Memory}

-- the table has this fault
abbrev pub has_fault : List (List ℕ) → TableFault → Bool
has_fault rows (NotSquare row) = not (length (slice_index_or rows row []) == length rows)
has_fault rows (Diagonal i) = not (table_entry rows i i == 0)
has_fault rows (Zero i j) = not (i == j) && (table_entry rows i j == 0)
has_fault rows (Asymmetric i j) = nat_lt i j && not (table_entry rows i j == table_entry rows j i)
has_fault rows (Triangle i j k) = nat_lt (table_entry rows i j + table_entry rows j k) (table_entry rows i k)
has_fault rows Memory = false

-- those of 0, then those of 1, up to those of n - 1
abbrev pub faults_of_each : ℕ → (ℕ → List TableFault) → List TableFault
faults_of_each zero f = []
faults_of_each (suc n) f = faults_of_each n f ++ f n

-- the faults of one kind that a table of n rows may have, by their places in dictionary order
abbrev pub lengths : ℕ → List TableFault
lengths n = faults_of_each n (λ row. NotSquare row ∷ [])

abbrev pub diagonal : ℕ → List TableFault
diagonal n = faults_of_each n (λ i. Diagonal i ∷ [])

abbrev pub zeros_from : ℕ → ℕ → List TableFault
zeros_from n i = faults_of_each n (λ j. Zero i j ∷ [])

abbrev pub zeros : ℕ → List TableFault
zeros n = faults_of_each n (zeros_from n)

abbrev pub asymmetries_from : ℕ → ℕ → List TableFault
asymmetries_from n i = faults_of_each n (λ j. Asymmetric i j ∷ [])

abbrev pub asymmetries : ℕ → List TableFault
asymmetries n = faults_of_each n (asymmetries_from n)

abbrev pub triangles_through : ℕ → ℕ → ℕ → List TableFault
triangles_through n i j = faults_of_each n (λ k. Triangle i j k ∷ [])

abbrev pub triangles_from : ℕ → ℕ → List TableFault
triangles_from n i = faults_of_each n (triangles_through n i)

abbrev pub triangles : ℕ → List TableFault
triangles n = faults_of_each n (triangles_from n)

-- the first of these faults that the table has
abbrev pub first_among : List (List ℕ) → List TableFault → Option TableFault
first_among rows faults = find (has_fault rows) faults

-- a search for the first of these faults answers it, if the table has one
abbrev pub FindsFirst : {X : Type 0} → List (List ℕ) → List TableFault → Result X TableFault → Type 0
FindsFirst rows faults result =
    MatchResult result (λ _. first_among rows faults ≡ None) (λ fault. first_among rows faults ≡ Some fault)

-- what a table of n rows may have, one kind over the whole table before the next
abbrev pub possible_faults : ℕ → List TableFault
possible_faults n = lengths n ++ diagonal n ++ zeros n ++ asymmetries n ++ triangles n

-- the table's first fault
abbrev pub first_fault : List (List ℕ) → Option TableFault
first_fault rows = first_among rows (possible_faults (length rows))

-- each row is as long as the table
abbrev pub IsSquare : List (List ℕ) → Type 0
IsSquare rows = (i : ℕ) → i < length rows → length (slice_index_or rows i []) ≡ length rows

-- why settings have no metric: their table has a first fault, or memory was wanted
abbrev pub HasNoMetric : Configuration → TableFault → Type 0
HasNoMetric c Memory = ⊤
HasNoMetric c fault = (c.metric ≡ Table) × (first_fault c.rows ≡ Some fault)

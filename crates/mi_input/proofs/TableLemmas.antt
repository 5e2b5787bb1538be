-- The rows of a table read one after the other.
use Rattle.std.proofs.Common.{◌≡◌, ℕ, ◌-◌, ◌≤◌, ◌<◌, ◌&&◌, true, false, List, [], ◌∷◌, ◌++◌, length, drop, codes, Ok, Err, nat_le, refl, arith, length-drop}
use Rattle.std.proofs.lemmas.Bool.Decides.{nat_tests}
use Rattle.std.specs.List.{AllByRecursion}
use Rattle.mi_input.specs.declared.faults.Reason.TheVariants.{Fields}
use Rattle.mi_input.specs.declared.faults.InputFault.{InputFault}
use Rattle.mi_input.specs.declared.faults.InputFault.TheVariants.{Bad, Memory}
use Rattle.mi_input.specs.Faults.{IsFaultOf}
use Rattle.mi_input.specs.Numbers.{count_in}
use Rattle.mi_input.specs.Records.{Place, read_each, read_record, run_of}
use Rattle.mi_input.specs.Settings.{row_in, table_in, values_in}
use Rattle.mi_input.proofs.RunLemmas.{run_ahead}

few_tests : (n : ℕ) → 2 ≤ n → n ≤ 129 → (nat_le 1 (n - 1) && nat_le (n - 1) 128) ≡ true
few_tests n some few = grind (arith, nat_tests)

short_tests : (n : ℕ) → n < 2 → (nat_le 1 (n - 1) && nat_le (n - 1) 128) ≡ false
short_tests n short = grind (arith, nat_tests)

long_tests : (n : ℕ) → 129 < n → (nat_le 1 (n - 1) && nat_le (n - 1) 128) ≡ false
long_tests n long = grind (arith, nat_tests)

-- the values of a record with a right number of fields
pub values_each : (fields : List (List ℕ)) → 2 ≤ length fields → length fields ≤ 129 → values_in (drop 1 fields) ≡ read_each (count_in 0 128000000) (drop 1 fields)
unfolding values_in
values_each fields some few = rw (length-drop 1 fields, few_tests (length fields) some few) refl

-- too few values, and too many
pub values_short : (fields : List (List ℕ)) → length fields < 2 → values_in (drop 1 fields) ≡ Err Fields
unfolding values_in
values_short fields short = rw (length-drop 1 fields, short_tests (length fields) short) refl

pub values_long : (fields : List (List ℕ)) → 129 < length fields → values_in (drop 1 fields) ≡ Err Fields
unfolding values_in
values_long fields long = rw (length-drop 1 fields, long_tests (length fields) long) refl

-- one more of which P holds
pub each_push : {X : Type 0} (P : X → Type 0) (xs : List X) (x : X) → AllByRecursion P xs → P x → AllByRecursion P (xs ++ x ∷ [])
each_push P [] x all one = (one, tt)
each_push P (y ∷ ys) x all one = (all.0, each_push P ys x all.1 one)

-- the first row was read
pub first_more : (place next : Place) (row : List ℕ) → read_record (row_in 1) place ≡ Ok (row, next) → run_ahead (row ∷ []) (run_of (codes "row") row_in 1 next.number next.records) ≡ table_in place
unfolding table_in
first_more place next row h = rw h refl

-- the first row was refused
pub first_stops : (place : Place) (e : InputFault) → IsFaultOf (read_record (row_in 1) place) e → IsFaultOf (table_in place) e
unfolding table_in
first_stops place Memory h = tt
first_stops place (Bad number why) h = rw h refl

-- What is wrong with a file, and where.
use Rattle.std.specs.Prelude.{◌≡◌, ℕ, Result, Ok, Err}
use Rattle.mi_input.specs.declared.faults.Reason.{Reason}
use Rattle.mi_input.specs.declared.faults.InputFault.{InputFault}
use Rattle.mi_input.specs.declared.faults.InputFault.TheVariants.{Bad, Memory}

-- the number of a record, and the first thing that is wrong with it
pub record Fault : Type 0 where
  pub number : ℕ
  pub why : Reason

-- a refusal tells the fault that reading gives, or that memory was wanted
abbrev pub IsFaultOf : {X : Type 0} → Result X Fault → InputFault → Type 0
IsFaultOf read (Bad number why) = read ≡ Err (record { number = number; why = why })
IsFaultOf read Memory = Unit {0}

-- what a function returned, seen by view, is what reading gives, unless memory ran out
abbrev pub ReadsAs : {X Y : Type 0} → (X → Y) → Result X InputFault → Result Y Fault → Type 0
ReadsAs view (Ok x) read = read ≡ Ok (view x)
ReadsAs view (Err e) read = IsFaultOf read e

-- what was read goes on to the next step, and the first refusal stands
infixl 10 ◌>>=◌
abbrev pub ◌>>=◌ : {A B E : Type 0} → Result A E → (A → Result B E) → Result B E
(Ok x) >>= next = next x
(Err e) >>= next = Err e

-- the reason with the number of the record that it was found in
abbrev pub at_record : {X : Type 0} → ℕ → Result X Reason → Result X Fault
at_record number (Ok x) = Ok x
at_record number (Err why) = Err (record { number = number; why = why })

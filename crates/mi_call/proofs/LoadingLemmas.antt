-- What reading one file says.
use Rattle.std.proofs.Common.{◌≡◌, ℕ, zero, suc, ◌+◌, ◌<◌, ◌≤◌, List, [], ◌∷◌, length, true, false, cond, Option, None, Some, Result, Err, nat_le, refl, ap, subst, ◌∙◌, arith}
use Rattle.std.specs.Prelude.{IfSome, unwrap_or}
use Rattle.mi_base.specs.declared.limits.TheConstants.{MAX_FILE_SIZE}
use Rattle.std.proofs.lemmas.Bool.Decides.{nat_tests}
use Rattle.mi_input.specs.declared.faults.Reason.TheVariants as reason
use Rattle.mi_input.specs.declared.faults.InputFault.{InputFault}
use Rattle.mi_input.specs.declared.faults.InputFault.TheVariants.{Bad, Memory}
use Rattle.mi_input.specs.Faults.{Fault, IsFaultOf}
use Rattle.mi_outside.specs.declared.reading.ReadRefusal.{ReadRefusal}
use Rattle.mi_outside.specs.declared.reading.ReadRefusal.TheVariants as read
use Rattle.mi_outside.specs.Outside.{Reads, RefusesRead}
use Rattle.mi_outside.specs.States.{FilesState}
use Rattle.mi_call.specs.declared.refusals.Refusal.{Refusal}
use Rattle.mi_call.specs.declared.refusals.Refusal.TheVariants.{Record}
use Rattle.mi_call.specs.declared.refusals.Stop.{Stop}
use Rattle.mi_call.specs.Inputs.{IsTextOf, in_file, at_file}
use Rattle.mi_call.specs.Loading.{Finds, Loads, fault_stop, refusal_stop}

-- a file was read later than the first one: a text that it had then, and what was found in it
pub record LoadsAt {X : Type 0} (first old new : FilesState) (name : List ℕ) (file : ℕ) (looks : List ℕ → Result X Refusal) (result : Result X Stop) : Type 0 where
  pub text : List ℕ
  pub told_is : IsTextOf (first.content name) text
  pub finds : Finds file old new (looks text) result
  pub grows : old.faults ≤ new.faults

-- a text that a file may have
abbrev pub some_text : Option (List ℕ) → List ℕ
some_text told = unwrap_or told []

pub some_text_is : (told : Option (List ℕ)) → IsTextOf told (some_text told)
some_text_is None = tt
some_text_is (Some content) = refl

long_text : (n : ℕ) → (text : List ℕ) × (length text ≡ n)
long_text zero = ([], refl)
long_text (suc n) = let t = long_text n in (0 ∷ t.0, omega (arith, t.1))

read_text_is : (told : Option (List ℕ)) (bytes : List ℕ) → Reads told [] bytes → IsTextOf told bytes × (length bytes ≤ MAX_FILE_SIZE)
read_text_is None bytes r = (tt, omega (arith, ap length r.gained, r.few))
read_text_is (Some content) bytes r = (r.gained ∙ r.same, omega (arith, ap length r.gained, r.few))

sized : {X : Type 0} (file : ℕ) (look : List ℕ → Result X Fault) (bytes : List ℕ) → length bytes ≤ MAX_FILE_SIZE → in_file file look bytes ≡ at_file file (look bytes)
sized file look bytes few =
    let fits : nat_le (length bytes) MAX_FILE_SIZE ≡ true = grind (arith, nat_tests) in
    ap (λ b. cond b (at_file file (look bytes)) (Err (Record file 0 reason.Large))) fits

too_large : {X : Type 0} (file : ℕ) (look : List ℕ → Result X Fault) (bytes : List ℕ) → MAX_FILE_SIZE < length bytes → in_file file look bytes ≡ Err (Record file 0 reason.Large)
too_large file look bytes many =
    let passes : nat_le (length bytes) MAX_FILE_SIZE ≡ false = grind (arith, nat_tests) in
    ap (λ b. cond b (at_file file (look bytes)) (Err (Record file 0 reason.Large))) passes

-- the file was read and has a fault
pub loads_fault : {X : Type 0} (old new : FilesState) (name : List ℕ) (file : ℕ) (look : List ℕ → Result X Fault) (bytes : List ℕ) (fault : InputFault)
    → Reads (old.content name) [] bytes → IsFaultOf (look bytes) fault → new.faults ≡ old.faults → Loads old new name file (in_file file look) (Err (fault_stop file fault))
loads_fault old new name file look bytes (Bad number why) r found stands =
    let t = read_text_is (old.content name) bytes r in
    record { text = bytes; told_is = t.0; finds = (sized file look bytes t.1 ∙ ap (at_file file) found, stands); grows = omega (arith, stands) }
loads_fault old new name file look bytes Memory r found stands =
    record { text = bytes; told_is = (read_text_is (old.content name) bytes r).0; finds = stands; grows = omega (arith, stands) }

-- a text that may be too large for a file
large_text : (told : Option (List ℕ)) → IfSome told (λ content. MAX_FILE_SIZE < length content) → (text : List ℕ) × IsTextOf told text × (MAX_FILE_SIZE < length text)
large_text None large = let long = long_text (MAX_FILE_SIZE + 1) in (long.0, tt, omega (arith, long.1))
large_text (Some content) large = (content, refl, large)

-- the file was not read
pub loads_refused : {X : Type 0} (old new : FilesState) (name : List ℕ) (file : ℕ) (look : List ℕ → Result X Fault) (refusal : ReadRefusal)
    → RefusesRead (old.content name) old.faults new.faults refusal → old.faults ≤ new.faults → Loads old new name file (in_file file look) (Err (refusal_stop file refusal))
loads_refused old new name file look read.Failed why grows = record { text = some_text (old.content name); told_is = some_text_is (old.content name); finds = (refl, why); grows = grows }
loads_refused old new name file look read.TooLarge why grows =
    let t = large_text (old.content name) why.0 in
    record { text = t.0; told_is = t.1; finds = (too_large file look t.0 t.2, why.1); grows = grows }
loads_refused old new name file look read.Memory why grows = record { text = some_text (old.content name); told_is = some_text_is (old.content name); finds = why; grows = grows }

-- a file that holds what it held is read as it was
pub loads_at : {X : Type 0} (first old new : FilesState) (name : List ℕ) (file : ℕ) (looks : List ℕ → Result X Refusal) (result : Result X Stop)
    → old.content name ≡ first.content name → Loads old new name file looks result → LoadsAt first old new name file looks result
loads_at first old new name file looks result same l = record {
  text = l.text;
  told_is = subst (λ told. IsTextOf told l.text) same l.told_is;
  finds = l.finds;
  grows = l.grows;
}

-- Records that begin with one word, read one after the other.
use Rattle.std.proofs.Common.{◌≡◌, ℕ, ◌+◌, true, false, List, [], ◌∷◌, ◌++◌, length, Result, Ok, Err, refl, sym, ap, append_assoc, length-append}
use Rattle.std.proofs.lemmas.List.{append-nil}
use Rattle.mi_input.specs.declared.faults.Reason.{Reason}
use Rattle.mi_input.specs.declared.faults.InputFault.{InputFault}
use Rattle.mi_input.specs.declared.faults.InputFault.TheVariants.{Bad, Memory}
use Rattle.mi_input.specs.Faults.{Fault, IsFaultOf, ◌>>=◌, at_record}
use Rattle.mi_input.specs.Records.{Place, next_begins, read_record, run_of}
use Rattle.mi_input.proofs.CaseLemmas.{ok_same}

-- what was read before, and what is still read
abbrev pub run_ahead : {X : Type 0} → List X → Result (List X × Place) Fault → Result (List X × Place) Fault
run_ahead front read = read >>= λ more. Ok (front ++ more.0, more.1)

-- nothing was read before
pub run_begins : {X : Type 0} (read : Result (List X × Place) Fault) → run_ahead [] read ≡ read
run_begins (Ok more) = refl
run_begins (Err fault) = refl

ahead_more : {X : Type 0} (front : List X) (x : X) (read : Result (List X × Place) Fault) → run_ahead front (read >>= λ more. Ok (x ∷ more.0, more.1)) ≡ run_ahead (front ++ x ∷ []) read
ahead_more {X = X} front x (Ok more) = ap (λ (xs : List X). Ok (xs, more.1)) (simp append_assoc)
ahead_more front x (Err fault) = refl

reading_ok : {X : Type 0} (number : ℕ) (read : Result X Reason) (place next : Place) (x : X) → ◌>>=◌ {B = X × Place} (at_record number read) (λ y. Ok (y, place)) ≡ Ok (x, next) → (read ≡ Ok x) × (next ≡ place)
reading_ok {X} number (Ok y) place next x h =
    let e = ok_same {X = X × Place} {E = Fault} (y, place) (x, next) h in
    (ap (λ (p : X × Place). Ok p.0) e, sym (ap (λ (p : X × Place). p.1) e))
reading_ok number (Err why) place next x h = cc

reading_err : {X : Type 0} (number : ℕ) (read : Result X Reason) (place : Place) (fault : Fault) → ◌>>=◌ {B = X × Place} (at_record number read) (λ y. Ok (y, place)) ≡ Err fault → at_record number read ≡ Err fault
reading_err number (Ok y) place fault h = cc
reading_err number (Err why) place fault h = let e : record { number = number; why = why } ≡ fault = cc in ap Err e

module _ {X : Type 0} (word : List ℕ) (form : ℕ → List (List ℕ) → Result X Reason) where
  go : (front : List X) (number : ℕ) (records : List (List (List ℕ))) (next : Place) (x : X) → next_begins word records ≡ true
      → read_record (form (length front + 1)) (record { number = number; records = records }) ≡ Ok (x, next)
      → run_ahead front (run_of word form (length front) number records) ≡ run_ahead (front ++ x ∷ []) (run_of word form (length (front ++ x ∷ [])) next.number next.records)
  unfolding run_of
  go front number [] next x begins h = cc
  go front number (fields ∷ rest) next x begins h =
      let r = reading_ok number (form (length front + 1) fields) (record { number = number + 1; records = rest }) next x h in
      rw (begins, r.0, r.1, length-append front (x ∷ [])) (ahead_more front x (run_of word form (length front + 1) (number + 1) rest))

  stop : (front : List X) (number : ℕ) (records : List (List (List ℕ))) (fault : Fault) → next_begins word records ≡ true
      → read_record (form (length front + 1)) (record { number = number; records = records }) ≡ Err fault
      → run_ahead front (run_of word form (length front) number records) ≡ Err fault
  unfolding run_of
  stop front number [] fault begins h = cc
  stop front number (fields ∷ rest) fault begins h =
      let r = reading_err number (form (length front + 1) fields) (record { number = number + 1; records = rest }) fault h in
      rw (begins, r) refl

  done : (front : List X) (number : ℕ) (records : List (List (List ℕ))) → next_begins word records ≡ false
      → run_ahead front (run_of word form (length front) number records) ≡ Ok (front, record { number = number; records = records })
  unfolding run_of
  done front number [] begins = ap (λ (xs : List X). Ok (xs, record { number = number; records = [] })) (append-nil front)
  done front number (fields ∷ rest) begins = rw begins (ap (λ (xs : List X). Ok (xs, record { number = number; records = fields ∷ rest })) (append-nil front))

  -- one more was read
  pub run_more : (front : List X) (place next : Place) (x : X) → next_begins word place.records ≡ true → read_record (form (length front + 1)) place ≡ Ok (x, next)
      → run_ahead front (run_of word form (length front) place.number place.records) ≡ run_ahead (front ++ x ∷ []) (run_of word form (length (front ++ x ∷ [])) next.number next.records)
  run_more front place next x begins h = go front place.number place.records next x begins h

  -- one was refused
  pub run_stops : (front : List X) (place : Place) (e : InputFault) → next_begins word place.records ≡ true → IsFaultOf (read_record (form (length front + 1)) place) e
      → IsFaultOf (run_ahead front (run_of word form (length front) place.number place.records)) e
  run_stops front place Memory begins h = tt
  run_stops front place (Bad number why) begins h = stop front place.number place.records (record { number = number; why = why }) begins h

  -- no more follows
  pub run_done : (front : List X) (place : Place) → next_begins word place.records ≡ false
      → run_ahead front (run_of word form (length front) place.number place.records) ≡ Ok (front, place)
  run_done front place begins = done front place.number place.records begins

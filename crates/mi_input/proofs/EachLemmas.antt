-- Fields one after the other, and lists read item by item.
use Rattle.std.proofs.Common.{◌≡◌, ℕ, zero, suc, ◌+◌, ◌≤◌, ◌<◌, false, List, [], ◌∷◌, ◌++◌, length, drop, Some, None, Result, Ok, Err, bytes_eq, refl, ap, append_assoc, add-one, drop-cons}
use Rattle.std.proofs.lemmas.List.{append-nil, drop_all}
use Rattle.csv.specs.Records.{field_at}
use Rattle.mi_input.specs.declared.faults.Reason.{Reason}
use Rattle.mi_input.specs.Faults.{◌>>=◌}
use Rattle.mi_input.specs.Records.{begins_with, read_each, field_in}

-- what csv gives for a field that is there, and for one that isn't
pub at_some : (fields : List (List ℕ)) (place : ℕ) (field : List ℕ) → Some field ≡ field_at fields place → field ≡ field_in place fields
unfolding field_at
at_some [] place field h = cc
at_some (f ∷ fs) zero field h = cc
at_some (f ∷ fs) (suc place) field h = at_some fs place field h

pub at_none : (fields : List (List ℕ)) (place : ℕ) → None ≡ field_at fields place → [] ≡ field_in place fields
unfolding field_at
at_none [] place h = refl
at_none (f ∷ fs) zero h = cc
at_none (f ∷ fs) (suc place) h = at_none fs place h

pub first_some : (fields : List (List ℕ)) (field word : List ℕ) → Some field ≡ field_at fields 0 → bytes_eq field word ≡ begins_with word fields
unfolding field_at
first_some [] field word h = cc
first_some (f ∷ fs) field word h = let e : field ≡ f = cc in rw e refl

pub first_none : (fields : List (List ℕ)) (word : List ℕ) → None ≡ field_at fields 0 → begins_with word fields ≡ false
unfolding field_at
first_none [] word h = refl
first_none (f ∷ fs) word h = cc

-- what was read before, and what is still read
abbrev pub with_front : {X E : Type 0} → List X → Result (List X) E → Result (List X) E
with_front front read = read >>= λ rest. Ok (front ++ rest)

pub front_more : {X E : Type 0} (front : List X) (x : X) (read : Result (List X) E) → with_front front (read >>= λ xs. Ok (x ∷ xs)) ≡ with_front (front ++ x ∷ []) read
front_more front x (Ok xs) = ap Ok (simp append_assoc)
front_more front x (Err e) = refl

pub front_done : {X E : Type 0} (front : List X) → with_front {X = X} {E = E} front (Ok []) ≡ Ok front
front_done front = ap Ok (append-nil front)

-- one more field was read
pub each_more : {X : Type 0} (form : List ℕ → Result X Reason) (front : List X) (fields : List (List ℕ)) (place : ℕ) (x : X) → place < length fields
    → form (field_in place fields) ≡ Ok x → with_front front (read_each form (drop place fields)) ≡ with_front (front ++ x ∷ []) (read_each form (drop (place + 1) fields))
each_more form front fields place x lt h = rw (add-one place, drop-cons fields place [], h) (front_more front x (read_each form (drop (suc place) fields)))

-- a field was refused
pub each_stops : {X : Type 0} (form : List ℕ → Result X Reason) (front : List X) (fields : List (List ℕ)) (place : ℕ) (why : Reason) → place < length fields
    → form (field_in place fields) ≡ Err why → with_front front (read_each form (drop place fields)) ≡ Err why
each_stops form front fields place why lt h = rw (drop-cons fields place [], h) refl

-- no field is left
pub each_done : {X : Type 0} (form : List ℕ → Result X Reason) (front : List X) (fields : List (List ℕ)) (place : ℕ) → length fields ≤ place
    → with_front front (read_each form (drop place fields)) ≡ Ok front
each_done form front fields place le = rw (drop_all place fields le) (front_done front)

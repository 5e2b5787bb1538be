-- What a reading that went well tells of its steps.
use Rattle.std.proofs.Common.{◌≡◌, ℕ, ◌≤◌, Bool, true, false, cond, Result, Ok, Err, IfOk, nat_le, ◌⊎◌, inl, inr, refl, ap}
use Rattle.std.proofs.lemmas.Bool.{leb-true}
use Rattle.mi_input.specs.declared.faults.Reason.{Reason}
use Rattle.mi_input.specs.declared.faults.Reason.TheVariants.{Limit}
use Rattle.mi_input.specs.declared.faults.InputFault.{InputFault}
use Rattle.mi_input.specs.Faults.{Fault, ReadsAs, ◌>>=◌, at_record}
use Rattle.mi_input.specs.Records.{within_limit}

pub chosen : {X : Type 0} (b : Bool) (x y z : X) → cond b x y ≡ z → ((b ≡ true) × (x ≡ z)) ⊎ ((b ≡ false) × (y ≡ z))
chosen true x y z h = inl (refl, h)
chosen false x y z h = inr (refl, h)

pub ok_same : {X E : Type 0} (x y : X) → ◌≡◌ {A = Result X E} (Ok x) (Ok y) → x ≡ y
ok_same x y h = cc

pub bind_ok : {A B E : Type 0} (r : Result A E) (next : A → Result B E) (y : B) → (r >>= next) ≡ Ok y → (x : A) × (r ≡ Ok x) × (next x ≡ Ok y)
bind_ok (Ok x) next y h = (x, refl, h)
bind_ok (Err e) next y h = cc

pub limited_ok : {X : Type 0} (most number : ℕ) (r : Result X Reason) (x : X) → within_limit most number r ≡ Ok x → (number ≤ most) × (r ≡ Ok x)
limited_ok most number r x h = elim (chosen (nat_le number most) r (Err Limit) (Ok x) h) [
  | inl few ↦ (leb-true number most few.0, few.1)
  | inr many ↦ cc many.1
]

pub at_record_ok : {X : Type 0} (number : ℕ) (r : Result X Reason) (x : X) → at_record number r ≡ Ok x → r ≡ Ok x
at_record_ok number (Ok y) x h = let e : y ≡ x = cc in ap Ok e
at_record_ok number (Err why) x h = cc

-- what follows from what reading gives holds of what a function returned
pub gives_law : {X Y : Type 0} (view : X → Y) (P : X → Type 0) (result : Result X InputFault) (read : Result Y Fault) → ReadsAs view result read → ((x : X) → read ≡ Ok (view x) → P x) → IfOk result P
gives_law view P (Ok x) read gives law = law x gives
gives_law view P (Err e) read gives law = tt

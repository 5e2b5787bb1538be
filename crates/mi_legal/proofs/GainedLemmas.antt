-- What is so of a log that has just gained an update.
use Rattle.std.proofs.Common.{◌≡◌, ℕ, zero, suc, ◌+◌, ◌-◌, ◌<◌, List, [], ◌∷◌, ◌++◌, length, take, Some, sym, ap, ◌∙◌, refl, arith, length-append}
use Rattle.std.specs.Prelude.{slice_get}
use Rattle.std.proofs.lemmas.Option.{slice_get_read}
use Rattle.std.proofs.Math.Seq.{take-append_seam, get_or-append_seam}
use Rattle.mi_base.specs.declared.records.LogEvent.{LogEvent}
use Rattle.mi_base.specs.declared.records.LogEvent.TheVariants.{Update as Made, Split}
use Rattle.mi_base.specs.declared.records.Update.{Update}
use Rattle.mi_base.specs.History.{Entered, entered, updates_of}
use Rattle.mi_base.proofs.HistoryLemmas.{entered-append, updates_of-append}
use Rattle.mi_tree.proofs.GrowingLemmas.{length-updates_of}
use Rattle.mi_legal.specs.Legal.{events_to}
use Rattle.mi_legal.specs.Right.{IsUpdateNumber, updates_before}

slice_get-append_seam : {X : Type 0} (xs : List X) (y : X) (ys : List X) → slice_get (xs ++ y ∷ ys) (length xs) ≡ Some y
slice_get-append_seam xs y ys =
    let within : length xs < length (xs ++ y ∷ ys) = omega (arith, length-append xs (y ∷ ys)) in
    slice_get_read (xs ++ y ∷ ys) (length (xs ++ y ∷ ys)) (length xs) y refl within (sym (get_or-append_seam xs y ys y))

-- the update that a log has just gained is its last
pub number_gained : (old : List LogEvent) (session op n : ℕ) (u : Update) → n ≡ length (updates_of old) + 1 → IsUpdateNumber (old ++ Made session op u ∷ []) n (record { session = session; op = op; update = u })
number_gained old session op n u is =
    let last : n - 1 ≡ length (entered old) = omega (arith, is, length-updates_of old) in
    let e : Entered = record { session = session; op = op; update = u } in
    record {
      counted = omega (arith, is);
      stands = ap (slice_get (entered (old ++ Made session op u ∷ []))) last
          ∙ ap (λ es. slice_get es (length (entered old))) (entered-append old (Made session op u ∷ []))
          ∙ slice_get-append_seam (entered old) e [];
    }

pub before_gained : (old : List LogEvent) (session op n : ℕ) (u : Update) → n ≡ length (updates_of old) + 1 → updates_before n (old ++ Made session op u ∷ []) ≡ updates_of old
before_gained old session op n u is =
    let last : n - 1 ≡ length (updates_of old) = omega (arith, is) in
    ap (λ k. take k (updates_of (old ++ Made session op u ∷ []))) last
    ∙ ap (take (length (updates_of old))) (updates_of-append old (Made session op u ∷ []))
    ∙ take-append_seam (updates_of old) (u ∷ [])

no_events : (n : ℕ) → events_to n [] ≡ 0
no_events zero = refl
no_events (suc n) = refl

-- and its event the last one
pub events_gained : (old : List LogEvent) (n session op : ℕ) (u : Update) → n ≡ length (updates_of old) + 1 → events_to n (old ++ Made session op u ∷ []) ≡ length old + 1
events_gained old zero session op u is = absurd (omega (arith, is))
events_gained [] (suc n) session op u is = omega (arith, no_events n)
events_gained (Made s o v ∷ old) (suc n) session op u is = omega (arith, events_gained old n session op u (omega (arith, is)))
events_gained (Split p ∷ old) (suc n) session op u is = omega (arith, events_gained old (suc n) session op u is)

-- What a count that stays 0 rules out.
use Rattle.std.proofs.Common.{◌≡◌, ◌≢◌, ℕ, List, Option, Some, Result, Err, true, false, IsTrue, nat_eq, arith, sym, ap, subst, ◌∙◌}
use Rattle.std.specs.Prelude.{IfErr, is_none}
use Rattle.std.specs.List.{list_any}
use Rattle.std.proofs.lemmas.Result.{IfErr-at_err}
use Rattle.mi_outside.specs.declared.reading.ReadRefusal.{ReadRefusal}
use Rattle.mi_outside.specs.declared.reading.ReadRefusal.TheVariants.{Failed}
use Rattle.mi_outside.specs.Contents.{content_of}
use Rattle.mi_outside.specs.Kept.{KeptFiles, read_fails}
use Rattle.mi_outside.specs.Outside.{Rose, raised_count, RefusesRead}

-- a count that stays 0 never rose
pub never_rose : Rose 0 0 → ⊥
never_rose rose = absurd (omega (arith, rose))

-- a read whose count stays 0 has not failed
pub never_failed : (told : Option (List ℕ)) (r : Result (Unit {0}) ReadRefusal) → IfErr r (RefusesRead told 0 0) → r ≢ Err Failed
never_failed told r refused failed = never_rose (IfErr-at_err (RefusesRead told 0 0) failed refused)

-- a call that isn't listed, of a name that has a content, is not one that fails
pub reads_on : (kept : KeptFiles) (calls number : ℕ) (fails content name : List ℕ) → fails ≡ kept.fails → calls ≡ kept.calls → number ≡ raised_count calls → false ≡ list_any (λ k. nat_eq k number) fails → Some content ≡ content_of kept.files name → IsTrue (read_fails kept name) → ⊥
reads_on kept calls number fails content name same counted is unlisted found fails_now =
    let listed : list_any (λ k. nat_eq k (raised_count kept.calls)) kept.fails ≡ false =
    sym
    (subst (λ (n : ℕ). false ≡ list_any (λ k. nat_eq k n) kept.fails) (is ∙ ap raised_count counted)
    (subst (λ (v : List ℕ). false ≡ list_any (λ k. nat_eq k number) v) same unlisted))
    in
    let some : is_none (content_of kept.files name) ≡ false = ap is_none (sym found) in
    let not_so : read_fails kept name ≡ false = rw (listed, some) in
    let never : true ≡ false = sym fails_now ∙ not_so in cc

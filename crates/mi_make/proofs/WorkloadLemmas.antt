-- What comes with one object after another, and the settings.
use Rattle.std.proofs.Common.{◌≡◌, ℕ, zero, suc, ℤ, ◌+◌, ◌-◌, ◌<◌, ◌≤◌, ◌++◌, List, [], length, IsTrue, sym, ap, ◌∙◌, subst, arith}
use Rattle.std.specs.Prelude.{◌==◌}
use Rattle.std.specs.List.{AllByRecursion}
use Rattle.std.proofs.lemmas.Bool.{and_from}
use Rattle.std.proofs.lemmas.List.{append_assoc, append-nil}
use Rattle.mi_base.specs.Configuration.{IsDepth, IsWithinLimits}
use Rattle.mi_base.specs.Space.{has_dims}
use Rattle.mi_base.specs.declared.records.Op.{Op}
use Rattle.mi_base.specs.declared.settings.MetricKind.TheVariants.{L1}
use Rattle.mi_make.specs.Draws.{after_vector, coordinate, drawn, next_state, vector}
use Rattle.mi_make.specs.Workloads.{after_objects, after_operations, script, share}
use Rattle.mi_make.proofs.DrawLemmas.{drawn_fit, drawn_length}

-- one more object was shared out
pub shared_on : (which n i x y : ℕ) (all ops more : List Op) → i < n → y ≡ after_operations i x → more ≡ ops ++ share which i x
    → all ≡ ops ++ script which (n - i) i x → all ≡ more ++ script which (n - (i + 1)) (i + 1) y
unfolding script
shared_on which n i x y all ops more less on put was =
    let rest = script which (n - (i + 1)) (i + 1) (after_operations i x) in
    let same : n - i ≡ suc (n - (i + 1)) = omega (arith, less) in
    let now : all ≡ ops ++ (share which i x ++ rest) = was ∙ ap (λ (k : ℕ). ops ++ script which k i x) same in
    now ∙ sym (append_assoc ops (share which i x) rest) ∙ ap (λ (xs : List Op). xs ++ rest) (sym put) ∙ ap (λ (s : ℕ). more ++ script which (n - (i + 1)) (i + 1) s) (sym on)

-- none is left
pub all_shared : (which n i x : ℕ) (all ops : List Op) → n ≤ i → all ≡ ops ++ script which (n - i) i x → ops ≡ all
unfolding script
all_shared which n i x all ops more was =
    let none : n - i ≡ 0 = omega (arith, more) in
    sym (was ∙ ap (λ (k : ℕ). ops ++ script which k i x) none ∙ append-nil ops)

-- the state that is left
pub objects_on : (n i x y all : ℕ) → i < n → y ≡ after_operations i x → all ≡ after_objects (n - i) i x → all ≡ after_objects (n - (i + 1)) (i + 1) y
unfolding after_objects
objects_on n i x y all less on was =
    let same : n - i ≡ suc (n - (i + 1)) = omega (arith, less) in
    was ∙ ap (λ (k : ℕ). after_objects k i x) same ∙ ap (after_objects (n - (i + 1)) (i + 1)) (sym on)

pub no_object : (n i x all : ℕ) → n ≤ i → all ≡ after_objects (n - i) i x → x ≡ all
unfolding after_objects
no_object n i x all more was =
    let none : n - i ≡ 0 = omega (arith, more) in
    sym (was ∙ ap (λ (k : ℕ). after_objects k i x) none)

-- vectors fit, pivots among them
pub vector_fits : (x : ℕ) → IsTrue (has_dims 16 (vector x))
vector_fits x = and_from _ _ (ap (λ (n : ℕ). n == 16) (drawn_length coordinate next_state 16 x)) (drawn_fit 16 x)

pivots_fit : (n x : ℕ) → AllByRecursion (λ v. IsTrue (has_dims 16 v)) (drawn vector after_vector n x)
unfolding drawn
pivots_fit zero x = tt
pivots_fit (suc n) x = (vector_fits x, pivots_fit n (after_vector x))

pub within_limits : (seed : ℕ) (rows : List (List ℕ)) (pivots : List (List ℤ)) → rows ≡ [] → pivots ≡ drawn vector after_vector 12 seed
    → IsWithinLimits (record { metric = L1; dims = 16; rows = rows; pivots = pivots; levels = 3; cell = 100; updates = 8000; pages = 4100 })
within_limits seed rows pivots none are =
    let twelve : length pivots ≡ 12 = ap length are ∙ drawn_length vector after_vector 12 seed in
    record {
      dims = (omega arith, omega arith);
      rows = none;
      few_pivots = omega (arith, twelve);
      pivots = subst (AllByRecursion (λ v. IsTrue (has_dims 16 v))) (sym are) (pivots_fit 12 seed);
      levels = subst (λ (n : ℕ). IsDepth n 3) (sym twelve) (omega arith, omega arith);
      cell = (omega arith, omega arith);
      updates = (omega arith, omega arith);
      pages = (omega arith, omega arith);
    }

-- The bound of the distances to the pivots.
use Rattle.std.proofs.Common.{◌≤◌, List, [], ◌∷◌, map, IsTrue}
use Rattle.std.specs.Prelude.{ℤ}
use Rattle.std.specs.List.{All, AllByRecursion}
use Rattle.std.proofs.lemmas.List.Elements.{All-from_recursion}
use Rattle.mi_base.specs.Space.{MetricSpace, IsMetric}

each_bounded : (m : MetricSpace) → IsMetric m → (v : List ℤ) → IsTrue (m.fits v) → (ps : List (List ℤ)) → AllByRecursion (λ p. IsTrue (m.fits p)) ps
    → AllByRecursion (λ d. d ≤ 128000000) (map (λ p. m.d v p) ps)
each_bounded m is v fits [] h = tt
each_bounded m is v fits (p ∷ ps) h = (is.bound v p fits h.0, each_bounded m is v fits ps h.1)

-- each distance of a vector to pivots that fit is at most 128,000,000
pub distances-bounded : (m : MetricSpace) → IsMetric m → (v : List ℤ) → IsTrue (m.fits v) → (ps : List (List ℤ)) → AllByRecursion (λ p. IsTrue (m.fits p)) ps
    → All (λ d. d ≤ 128000000) (map (λ p. m.d v p) ps)
distances-bounded m is v fits ps h = All-from_recursion (λ d. d ≤ 128000000) (map (λ p. m.d v p) ps) (each_bounded m is v fits ps h)

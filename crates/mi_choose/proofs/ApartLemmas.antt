-- The least distance of a list to which one is added.
use Rattle.std.proofs.Common.{◌≡◌, List, [], ◌∷◌, ◌++◌, min, arith}
use Rattle.std.specs.Prelude.{ℤ, IsTrue}
use Rattle.std.specs.List.{AllByRecursion}
use Rattle.mi_base.specs.Space.{IsMetric, MetricSpace}
use Rattle.mi_choose.specs.Covering.{from_nearest, least_distance}
use Rattle.mi_choose.proofs.CoverLemmas.{from_nearest-append}

pub least_distance-append : (m : MetricSpace) (laws : IsMetric m) (vs : List (List ℤ)) (c : List ℤ) → AllByRecursion (λ v. IsTrue (m.fits v)) vs → IsTrue (m.fits c)
    → least_distance m (vs ++ c ∷ []) ≡ min (least_distance m vs) (from_nearest m vs c)
least_distance-append m laws [] c fit fits = omega arith
least_distance-append m laws (v ∷ vs) c fit fits =
    omega (arith, from_nearest-append m vs c v, least_distance-append m laws vs c fit.1 fits, laws.symmetric v c fit.0 fits)

-- Of more vectors than there are members, two have one nearest member.
use Rattle.std.proofs.Common.{ℕ, ◌+◌, ◌*◌, ◌<◌, ◌≤◌, List, [], ◌∷◌, length, arith, ◌⊎◌, inl, inr}
use Rattle.std.specs.Prelude.{ℤ, IsTrue}
use Rattle.std.specs.List.{AllByRecursion}
use Rattle.std.proofs.lemmas.Bool.{cases_lt}
use Rattle.mi_base.specs.declared.limits.TheConstants.{MAX_DISTANCE}
use Rattle.mi_base.specs.Space.{IsMetric, MetricSpace}
use Rattle.mi_choose.specs.Covering.{from_nearest, least_distance}

-- a vector that fits and lies within a radius of its nearest member
pub record LiesWithin (m : MetricSpace) (radius : ℕ) (members : List (List ℤ)) (v : List ℤ) : Type 0 where
  pub fits : IsTrue (m.fits v)
  pub near : from_nearest m members v ≤ radius

-- some of the vectors, all but one of them or more, that lie within the radius of the members behind the first
record Others (m : MetricSpace) (radius : ℕ) (members vs : List (List ℤ)) : Type 0 where
  pub kept : List (List ℤ)
  pub few : length vs ≤ 1 + length kept
  pub nearer : (v : List ℤ) → from_nearest m vs v ≤ from_nearest m kept v
  pub apart : least_distance m vs ≤ least_distance m kept
  pub within : AllByRecursion (LiesWithin m radius members) kept

module _ (m : MetricSpace) (laws : IsMetric m) (radius : ℕ) where
  -- two that are near one are near each other
  near_each_other : (v w c : List ℤ) → IsTrue (m.fits v) → IsTrue (m.fits w) → IsTrue (m.fits c) → m.d v c ≤ radius → m.d w c ≤ radius → m.d v w ≤ 2 * radius
  near_each_other v w c fv fw fc hv hw = omega (arith, laws.triangle v c w fv fc fw, laws.symmetric w c fw fc)

  -- v is near c: none of the others is, or v has one that is near
  none_or_near : (members : List (List ℤ)) (c v : List ℤ) (vs : List (List ℤ)) → IsTrue (m.fits c) → IsTrue (m.fits v) → m.d v c ≤ radius → AllByRecursion (LiesWithin m radius (c ∷ members)) vs
      → AllByRecursion (LiesWithin m radius members) vs ⊎ (from_nearest m vs v ≤ 2 * radius)
  none_or_near members c v [] fc fv near within = inl tt
  none_or_near members c v (w ∷ vs) fc fv near within = elim (cases_lt radius (m.d w c)) [
    | inl far ↦ elim (none_or_near members c v vs fc fv near within.1) [
      | inl rest ↦ inl (record { fits = within.0.fits; near = omega (arith, within.0.near) }, rest)
      | inr close ↦ inr (omega arith)
    ]
    | inr close ↦ inr (omega (arith, near_each_other v w c fv within.0.fits fc near close))
  ]

  -- without those that are near c, of which there are two only if two are near each other
  without_first : (members : List (List ℤ)) (c : List ℤ) (vs : List (List ℤ)) → IsTrue (m.fits c) → AllByRecursion (LiesWithin m radius (c ∷ members)) vs
      → Others m radius members vs ⊎ (least_distance m vs ≤ 2 * radius)
  without_first members c [] fc within = inl (record { kept = []; few = omega arith; nearer = λ v. omega arith; apart = omega arith; within = tt })
  without_first members c (v ∷ vs) fc within = elim (cases_lt radius (m.d v c)) [
    | inl far ↦ elim (without_first members c vs fc within.1) [
      | inl rest ↦ inl (record {
        kept = v ∷ rest.kept;
        few = omega (arith, rest.few);
        nearer = λ w. omega (arith, rest.nearer w);
        apart = omega (arith, rest.nearer v, rest.apart);
        within = (record { fits = within.0.fits; near = omega (arith, within.0.near) }, rest.within);
      })
      | inr close ↦ inr (omega arith)
    ]
    | inr close ↦ elim (none_or_near members c v vs fc within.0.fits close within.1) [
      | inl rest ↦ inl (record { kept = vs; few = omega arith; nearer = λ w. omega arith; apart = omega arith; within = rest })
      | inr near ↦ inr (omega arith)
    ]
  ]

  pub two_are_near : (members vs : List (List ℤ)) → length members < length vs → radius < MAX_DISTANCE → AllByRecursion (λ c. IsTrue (m.fits c)) members
      → AllByRecursion (LiesWithin m radius members) vs → least_distance m vs ≤ 2 * radius
  two_are_near [] [] more small fit within = absurd (omega arith)
  two_are_near [] (v ∷ vs) more small fit within = absurd (omega (arith, within.0.near))
  two_are_near (c ∷ members) vs more small fit within = elim (without_first members c vs fit.0 within) [
    | inl others ↦ omega (arith, others.apart, others.few, two_are_near members others.kept (omega (arith, others.few)) small fit.1 others.within)
    | inr close ↦ close
  ]

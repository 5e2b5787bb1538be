use Rattle.std.proofs.Common.{◌≤◌, suc, List, [], ◌∷◌, length, arith, inl, inr}
use Rattle.std.specs.Prelude.{ℤ, IsTrue}
use Rattle.std.specs.List.{AllByRecursion}
use Rattle.std.proofs.lemmas.Bool.{cases_lt}
use Rattle.std.proofs.lemmas.List.Elements.{All-cons, All-nil, All-weaker}
use Rattle.mi_base.specs.Space.{IsMetric, MetricSpace}
use Rattle.mi_choose.specs.Covering.{from_nearest}
use Rattle.mi_choose.specs.Nearest.{IsFromNearest}
use Rattle.mi_choose.proofs.laws.the_nearest_is_a_member.Goals as goal

nearest : (m : MetricSpace) → IsMetric m → (members : List (List ℤ)) (v : List ℤ) → AllByRecursion (λ c. IsTrue (m.fits c)) members → IsTrue (m.fits v) → 1 ≤ length members
    → IsFromNearest m members v (from_nearest m members v)
nearest m laws [] v fit fits some = absurd (omega arith)
nearest m laws (c ∷ []) v fit fits some = record {
  there = (0, omega arith, omega (arith, laws.bound v c fits fit.0));
  none_nearer = All-cons (λ x. from_nearest m (c ∷ []) v ≤ m.d v x) c [] (omega arith) (All-nil (λ x. from_nearest m (c ∷ []) v ≤ m.d v x));
}
nearest m laws (c ∷ b ∷ members) v fit fits some =
    let rest = nearest m laws (b ∷ members) v fit.1 fits (omega arith) in
    record {
      there = elim (cases_lt (m.d v c) (from_nearest m (b ∷ members) v)) [
        | inl nearer ↦ (0, omega arith, omega arith)
        | inr other ↦ (suc rest.there.0, omega (arith, rest.there.1), omega (arith, rest.there.2))
      ];
      none_nearer = All-cons (λ x. from_nearest m (c ∷ b ∷ members) v ≤ m.d v x) c (b ∷ members) (omega arith)
          (All-weaker (λ x. from_nearest m (b ∷ members) v ≤ m.d v x) (λ x. from_nearest m (c ∷ b ∷ members) v ≤ m.d v x) (λ x h. omega arith) (b ∷ members) rest.none_nearer);
    }

pub returns : goal.returns
returns c = nearest

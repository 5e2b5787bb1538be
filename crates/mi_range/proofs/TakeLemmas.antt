-- What a range query keeps, one entry after another.
use Rattle.std.proofs.Common.{◌≡◌, ℕ, ◌+◌, List, [], ◌∷◌, ◌++◌, Bool, true, false, cond, IsTrue, nat_le, refl, sym, ap, ◌∙◌, arith, append-nil}
use Rattle.std.specs.Prelude.{ℤ}
use Rattle.std.specs.List.{AllByRecursion, filter}
use Rattle.mi_base.specs.History.{Object, hits, row_of}
use Rattle.mi_base.specs.Space.{IsMetric, MetricSpace}
use Rattle.mi_key.specs.Entries.{Offering}
use Rattle.mi_rules.specs.Passing.{lets_through}
use Rattle.mi_rules.specs.Answers.{AreMeasured}
use Rattle.mi_rules.proofs.RuleLemmas.{refused_far}
use Rattle.mi_range.specs.Ranging.{RangeWorkState, TakesRange, compared_count}

-- an entry that the filter refuses is no row and no step
pub take_refused : (m : MetricSpace) → IsMetric m → (query : List ℤ) → IsTrue (m.fits query) → (w : RangeWorkState) (steps : ℕ) (o : Offering) → IsTrue (m.fits o.object.vector)
    → AreMeasured m query w.dists o.object.vector o.dists → lets_through w.radius w.dists o.dists ≡ false → TakesRange m query w steps (o ∷ []) w steps
take_refused m is query fq w steps o fo me f =
    let far : nat_le (m.d query o.object.vector) w.radius ≡ false = refused_far m is query o.object.vector w.dists o.dists w.radius fq fo me f in
    let nothing : compared_count w.dists w.radius (o ∷ []) ≡ 0 = ap (λ b. 0 + cond b 1 0) f in
    record {
      same_dists = refl;
      same_radius = refl;
      rows_are = sym (append-nil w.rows) ∙ ap (λ b. w.rows ++ cond b (row_of m query o.object ∷ []) []) (sym far);
      distances_are = λ _. omega arith;
      ticks = omega arith;
    }

-- what is farther than the radius is no row
pub hits_without : (m : MetricSpace) (query : List ℤ) (radius : ℕ) (p : Object → Bool) (objects : List Object) → AllByRecursion (λ o. p o ≡ false → nat_le (m.d query o.vector) radius ≡ false) objects
    → hits m query radius (filter p objects) ≡ hits m query radius objects
hits_without m query radius p [] far = refl
hits_without m query radius p (o ∷ objects) far =
    let rest = hits_without m query radius p objects far.1 in
    let near = nat_le (m.d query o.vector) radius in
    let P : Bool → Type 0 = λ b. p o ≡ b → hits m query radius (cond b (o ∷ filter p objects) (filter p objects)) ≡ hits m query radius (o ∷ objects) in
    let go : (b : Bool) → P b = elim [
      | true ↦ λ e. ap (λ rows. cond near (row_of m query o ∷ rows) rows) rest
      | false ↦ λ e. rest ∙ ap (λ b. cond b (row_of m query o ∷ hits m query radius objects) (hits m query radius objects)) (sym (far.0 e))
    ] in
    go (p o) refl

-- To be offered one list after another.
use Rattle.std.proofs.Common.{◌≡◌, ℕ, ◌+◌, List, [], ◌++◌, map, cond, nat_le, refl, sym, ap, ◌∙◌, subst, arith, append_assoc, append-nil}
use Rattle.std.specs.Prelude.{ℤ}
use Rattle.std.specs.List.{filter}
use Rattle.std.proofs.lemmas.List.{map-append}
use Rattle.std.proofs.lemmas.List.Elements.{filter-append}
use Rattle.std.proofs.lemmas.List.Sums.{sum_by-append}
use Rattle.mi_base.specs.declared.records.Row.{Row}
use Rattle.mi_base.specs.History.{Object, hits, row_of}
use Rattle.mi_base.specs.Space.{MetricSpace}
use Rattle.mi_key.specs.Entries.{Offering}
use Rattle.mi_rules.specs.Passing.{lets_through}
use Rattle.mi_range.specs.Ranging.{RangeWorkState, TakesRange, compared_count}

-- the rows of two lists, one after the other
pub hits-append : (m : MetricSpace) (query : List ℤ) (radius : ℕ) (xs ys : List Object) → hits m query radius (xs ++ ys) ≡ hits m query radius xs ++ hits m query radius ys
hits-append m query radius xs ys =
    ap (filter (λ (row : Row). nat_le row.distance radius)) (map-append (row_of m query) xs ys)
    ∙ filter-append (λ (row : Row). nat_le row.distance radius) (map (row_of m query) xs) (map (row_of m query) ys)

-- nothing was offered
pub takes_none : (m : MetricSpace) (query : List ℤ) (w : RangeWorkState) (steps : ℕ) → TakesRange m query w steps [] w steps
takes_none m query w steps = record { same_dists = refl; same_radius = refl; rows_are = sym (append-nil w.rows); distances_are = λ _. omega arith; ticks = omega arith }

-- more was offered
pub takes_more : (m : MetricSpace) (query : List ℤ) (u v w : RangeWorkState) (k l n : ℕ) (xs ys : List Offering) → TakesRange m query u k xs v l → TakesRange m query v l ys w n → TakesRange m query u k (xs ++ ys) w n
takes_more m query u v w k l n xs ys a b =
    let counted : compared_count u.dists u.radius (xs ++ ys) ≡ compared_count u.dists u.radius xs + compared_count u.dists u.radius ys =
    sum_by-append (λ (o : Offering). cond (lets_through u.radius u.dists o.dists) 1 0) xs ys in
    let later : compared_count v.dists v.radius ys ≡ compared_count u.dists u.radius ys = ap (λ r. compared_count v.dists r ys) a.same_radius ∙ ap (λ ds. compared_count ds u.radius ys) a.same_dists in
    let objects : List Offering → List Object = map (λ (o : Offering). o.object) in
    record {
      same_dists = b.same_dists ∙ a.same_dists;
      same_radius = b.same_radius ∙ a.same_radius;
      rows_are =
          b.rows_are ∙ ap (λ rows. rows ++ hits m query v.radius (objects ys)) a.rows_are
          ∙ ap (λ r. (u.rows ++ hits m query u.radius (objects xs)) ++ hits m query r (objects ys)) a.same_radius
          ∙ append_assoc u.rows (hits m query u.radius (objects xs)) (hits m query u.radius (objects ys))
          ∙ ap (λ rows. u.rows ++ rows) (sym (hits-append m query u.radius (objects xs) (objects ys)) ∙ ap (hits m query u.radius) (sym (map-append (λ (o : Offering). o.object) xs ys)));
      distances_are = λ few.
          let p : v.distances ≡ u.distances + compared_count u.dists u.radius xs = a.distances_are (omega arith) in
          let q : w.distances ≡ v.distances + compared_count v.dists v.radius ys = b.distances_are (omega arith) in
          omega arith;
      ticks = omega (arith, a.ticks, b.ticks);
    }

-- the same, where the metric and the query go by another name the second time
pub takes_more_of : {m m' : MetricSpace} {q q' : List ℤ} {u v w : RangeWorkState} {k l n : ℕ} {xs ys : List Offering} → m' ≡ m → q' ≡ q → TakesRange m q u k xs v l → TakesRange m' q' v l ys w n → TakesRange m q u k (xs ++ ys) w n
takes_more_of {m = m} {m' = m'} {q = q} {q' = q'} {u = u} {v = v} {w = w} {k = k} {l = l} {n = n} {xs = xs} {ys = ys} e f a b =
    takes_more m q u v w k l n xs ys a (subst (λ (x : MetricSpace). TakesRange x q v l ys w n) e (subst (λ (x : List ℤ). TakesRange m' x v l ys w n) f b))

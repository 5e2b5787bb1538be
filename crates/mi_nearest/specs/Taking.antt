-- To be offered one list after another.
use Rattle.std.proofs.Common.{◌≡◌, ℕ, List, [], ◌++◌, map, refl, sym, ap, ◌∙◌, subst, arith, append_assoc, append-nil, length-append}
use Rattle.std.specs.Prelude.{ℤ}
use Rattle.std.proofs.lemmas.List.{map-append}
use Rattle.mi_base.specs.declared.records.Row.{Row}
use Rattle.mi_base.specs.History.{row_of}
use Rattle.mi_base.specs.Space.{MetricSpace}
use Rattle.mi_key.specs.Entries.{Offering}
use Rattle.mi_nearest.specs.Nearing.{NearestWorkState, TakesNearest, first_rows}

-- nothing was offered
pub takes_none : (m : MetricSpace) (query : List ℤ) (w : NearestWorkState) (steps : ℕ) → TakesNearest m query w steps [] w steps
takes_none m query w steps = record { same_dists = refl; same_count = refl; rows_are = λ before e. e ∙ ap (first_rows w.count) (sym (append-nil before)); onward = omega arith; ticks = omega arith }

-- more was offered
pub takes_more : (m : MetricSpace) (query : List ℤ) (u v w : NearestWorkState) (k l n : ℕ) (xs ys : List Offering) → TakesNearest m query u k xs v l → TakesNearest m query v l ys w n → TakesNearest m query u k (xs ++ ys) w n
takes_more m query u v w k l n xs ys a b =
    let row : Offering → Row = λ o. row_of m query o.object in
    record {
      same_dists = b.same_dists ∙ a.same_dists;
      same_count = b.same_count ∙ a.same_count;
      rows_are = λ before e.
          b.rows_are (before ++ map row xs) (a.rows_are before e ∙ ap (λ c. first_rows c (before ++ map row xs)) (sym a.same_count))
          ∙ ap (λ c. first_rows c ((before ++ map row xs) ++ map row ys)) a.same_count
          ∙ ap (first_rows u.count) (append_assoc before (map row xs) (map row ys) ∙ ap (λ rows. before ++ rows) (sym (map-append row xs ys)));
      onward = omega (arith, a.onward, b.onward);
      ticks = omega (arith, a.ticks, b.ticks, length-append xs ys);
    }

-- the same, where the metric and the query go by another name the second time
pub takes_more_of : {m m' : MetricSpace} {q q' : List ℤ} {u v w : NearestWorkState} {k l n : ℕ} {xs ys : List Offering} → m' ≡ m → q' ≡ q → TakesNearest m q u k xs v l → TakesNearest m' q' v l ys w n → TakesNearest m q u k (xs ++ ys) w n
takes_more_of {m = m} {m' = m'} {q = q} {q' = q'} {u = u} {v = v} {w = w} {k = k} {l = l} {n = n} {xs = xs} {ys = ys} e f a b =
    takes_more m q u v w k l n xs ys a (subst (λ (x : MetricSpace). TakesNearest x q v l ys w n) e (subst (λ (x : List ℤ). TakesNearest m' x v l ys w n) f b))

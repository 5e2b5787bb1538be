-- What the tests need of cells and keys, and of lists.
use Rattle.std.proofs.Common.{◌≡◌, ℕ, ◌<◌, List, [], ◌∷◌, ◌++◌, length, true, IsTrue, arith, refl, sym, ap, ◌∙◌, subst, inl}
use Rattle.std.specs.Prelude.{nat_le}
use Rattle.std.specs.List.{AllByRecursion, AllZip}
use Rattle.std.proofs.lemmas.Bool.{and_parts, false≢true, leb-true}
use Rattle.mi_base.specs.Prefixes.{has}
use Rattle.mi_base.specs.Space.{IsMetric, MetricSpace, l1_metric}
use Rattle.mi_hall.specs.Closing.{IsLast}
use Rattle.mi_key.specs.declared.ranges.Interval.{Interval}
use Rattle.mi_key.specs.Ranges.{is_within}
use Rattle.mi_metric.specs.Laws.{l1_is_metric}
use Rattle.mi_tree.specs.declared.outcomes.Leaf.{Leaf}
use Rattle.mi_tree.specs.Counting.{has_leaf}
use Rattle.mi_tree.proofs.LeafLemmas.{same_self}
use Rattle.mi_world.specs.View.{View}

-- where there are leaves, one is the first
pub first_leaf : (ls : List Leaf) → (length ls ≡ 0 → ⊥) → (p : List ℕ) × (has_leaf p ls ≡ true)
first_leaf [] some = absurd (some refl)
first_leaf (l ∷ ls) some = (l.prefix, rw (same_self l.prefix) refl)

-- no key is within an interval that ends before it begins
pub none_within : (range : Interval) → range.to < range.from → (key : ℕ) → IsTrue (is_within range key) → ⊥
none_within range before key within =
    let p = and_parts (nat_le range.from key) (nat_le key range.to) within in
    omega (arith, before, leb-true range.from key p.0, leb-true key range.to p.1)

-- what holds of each holds of all but the last, and of the last
pub all_last : {X : Type 0} (P : X → Type 0) (xs : List X) (x : X) → AllByRecursion P (xs ++ x ∷ []) → AllByRecursion P xs × P x
all_last P [] x all = (tt, all.0)
all_last P (y ∷ xs) x all = let more = all_last P xs x all.1 in ((all.0, more.0), more.1)

-- what goes on from each to the one in its place
pub all_zip : {X : Type 0} (P : X → Type 0) (R : X → X → Type 0) → ((x y : X) → P x → R x y → P y) → (xs ys : List X) → AllByRecursion P xs → AllZip R xs ys → AllByRecursion P ys
all_zip P R on [] [] all zip = tt
all_zip P R on (x ∷ xs) (y ∷ ys) all zip = (on x y all.0 zip.0, all_zip P R on xs ys all.1 zip.1)
all_zip P R on [] (y ∷ ys) all zip = absurd zip
all_zip P R on (x ∷ xs) [] all zip = absurd zip

pub all_on : {X : Type 0} (P Q : X → Type 0) → ((x : X) → P x → Q x) → (xs : List X) → AllByRecursion P xs → AllByRecursion Q xs
all_on P Q on [] all = tt
all_on P Q on (x ∷ xs) all = (on x all.0, all_on P Q on xs all.1)

pub line_is_metric : (m : MetricSpace) → m ≡ l1_metric 1 → IsMetric m
line_is_metric m e = subst IsMetric (sym e) (l1_is_metric 1 (omega arith))

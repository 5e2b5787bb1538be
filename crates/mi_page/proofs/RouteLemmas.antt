-- The child of a key.
use Rattle.std.proofs.Common.{◌∙◌, Some, ◌≡◌, ℕ, zero, suc, ◌-◌, ◌<◌, ◌≤◌, subst, sym, List, [], ◌∷◌, length, get_or, true, false, nat_le, refl, ap, arith, inl, inr}
use Rattle.std.specs.Prelude.{slice_get}
use Rattle.std.specs.Option.{IsSomeAnd}
use Rattle.std.specs.List.{All, AllByRecursion}
use Rattle.std.specs.List.Sorted.{IsPartitionPoint}
use Rattle.std.proofs.lemmas.Bool.{cases_lt, leb-true}
use Rattle.std.proofs.lemmas.Bool.Decides.{nat_tests}
use Rattle.std.proofs.lemmas.List.{get_or_default}
use Rattle.std.proofs.lemmas.List.Elements.{recursion_from_All}
use Rattle.std.proofs.lemmas.Option.{slice_get-get_or}
use Rattle.mi_page.specs.declared.routes.Route.{Route}
use Rattle.mi_page.specs.Keys.{Ascending}
use Rattle.mi_page.specs.Routes.{IsChild, route_keys}
use Rattle.mi_page.proofs.OrderLemmas.{rises}

-- no route below the point has a greater key, and each from there on has one
abbrev pub Parts : ℕ → List Route → ℕ → Type 0
Parts key routes i = IsPartitionPoint (λ r. nat_le r.key key ≡ true) (λ r. nat_le r.key key ≡ false) routes i

-- the first route is below the point
pub after_first : (key : ℕ) (routes : List Route) (i : ℕ) → IsSomeAnd (slice_get (route_keys routes) 0) (λ low. low ≤ key) → Parts key routes i → 1 ≤ i
after_first key [] i h p = absurd h
after_first key (r ∷ rs) zero h p =
    let above : nat_le r.key key ≡ false = p.1 0 r (omega arith) (omega arith) in
    absurd (let le : r.key ≤ key = h in grind (arith, nat_tests))
after_first key (r ∷ rs) (suc i) h p = omega arith

pub child_before : (key : ℕ) (routes : List Route) (i : ℕ) (d : Route) → Ascending (route_keys routes) → IsSomeAnd (slice_get (route_keys routes) 0) (λ low. low ≤ key)
    → i ≤ length routes → Parts key routes i → IsChild key routes (get_or routes (i - 1) d).child
child_before key routes i d a first le p = record {
  place = i - 1;
  route = get_or routes (i - 1) d;
  there = slice_get-get_or routes (i - 1) d (omega (arith, some));
  not_above = leb-true (get_or routes (i - 1) d).key key (p.0 (i - 1) d (omega arith) (omega (arith, some)));
  greatest = recursion_from_All (λ r. r.key ≤ key → r.key ≤ (get_or routes (i - 1) d).key) routes greatest;
  is = refl;
}
  where
    some : 1 ≤ i
    some = after_first key routes i first p

    greatest : All (λ r. r.key ≤ key → r.key ≤ (get_or routes (i - 1) d).key) routes
    greatest k e lt below = elim (cases_lt k i) [
      | inl l ↦
          let up : (get_or routes k e).key ≤ (get_or routes (i - 1) e).key = rises (λ r. r.key) routes a k (i - 1) e (omega arith) (omega arith) in
          let same = ap (λ (r : Route). r.key) (get_or_default routes (i - 1) e d (omega arith)) in
          omega arith
      | inr g ↦
          let above : nat_le (get_or routes k e).key key ≡ false = p.1 k e (omega arith) (omega arith) in
          absurd (grind (arith, nat_tests))
    ]

-- a fact of each element, of the one at a place
all_get : {X : Type 0} (P : X → Type 0) (xs : List X) (i : ℕ) (x : X) → AllByRecursion P xs → slice_get xs i ≡ Some x → P x
all_get P [] i x h e = absurd (cc)
all_get P (y ∷ ys) zero x h e = let is : y ≡ x = cc in subst P is h.0
all_get P (y ∷ ys) (suc i) x h e = all_get P ys i x h.1 e

keys_above : (k : ℕ) (routes : List Route) → AllByRecursion (λ j. k < j) (route_keys routes) → AllByRecursion (λ r. k < r.key) routes
keys_above k [] h = tt
keys_above k (r ∷ rs) h = (h.0, keys_above k rs h.1)

-- two places with one key are one
same_place : (routes : List Route) → Ascending (route_keys routes) → (i j : ℕ) (r s : Route) → slice_get routes i ≡ Some r → slice_get routes j ≡ Some s → r.key ≡ s.key → r ≡ s
same_place [] a i j r s p q e = absurd (cc)
same_place (x ∷ xs) a zero zero r s p q e = cc
same_place (x ∷ xs) a zero (suc j) r s p q e =
    let lt = all_get (λ (y : Route). x.key < y.key) xs j s (keys_above x.key xs a.0) q in
    let is : x ≡ r = cc in
    let same : x.key ≡ s.key = ap (λ (y : Route). y.key) is ∙ e in
    absurd (omega arith)
same_place (x ∷ xs) a (suc i) zero r s p q e =
    let lt = all_get (λ (y : Route). x.key < y.key) xs i r (keys_above x.key xs a.0) p in
    let is : x ≡ s = cc in
    let same : x.key ≡ r.key = ap (λ (y : Route). y.key) is ∙ sym e in
    absurd (omega arith)
same_place (x ∷ xs) a (suc i) (suc j) r s p q e = same_place xs a.1 i j r s p q e

pub one_child : (key : ℕ) (routes : List Route) (a b : ℕ) → Ascending (route_keys routes) → IsChild key routes a → IsChild key routes b → a ≡ b
one_child key routes a b up p q =
    let below = all_get (λ r. r.key ≤ key → r.key ≤ q.route.key) routes p.place p.route q.greatest p.there p.not_above in
    let above = all_get (λ r. r.key ≤ key → r.key ≤ p.route.key) routes q.place q.route p.greatest q.there q.not_above in
    let same : p.route.key ≡ q.route.key = omega arith in
    p.is ∙ ap (λ (r : Route). r.child) (same_place routes up p.place q.place p.route q.route p.there q.there same) ∙ sym q.is

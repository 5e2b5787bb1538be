-- The halves of a full page.
use Rattle.std.proofs.Common.{true, false, nat_lt, nat_le, map, ◌+◌, ◌≡◌, ℕ, zero, suc, ◌<◌, ◌≤◌, List, [], ◌∷◌, ◌++◌, length, get_or, take, drop, Option, Some, refl, sym, ap, ◌∙◌, subst, arith, inl, inr, ◌⊎◌}
use Rattle.std.specs.Prelude.{slice_get}
use Rattle.std.specs.List.{AllByRecursion, filter}
use Rattle.std.proofs.lemmas.Bool.{lt-ltb, cases_eq}
use Rattle.std.proofs.lemmas.Bool.Decides.{nat_tests}
use Rattle.std.proofs.lemmas.List.{take-map, drop-map, length-map, length-take, length-drop, drop_more, get_or-map, get_or_append_left}
use Rattle.mi_key.specs.declared.entries.Entry.{Entry}
use Rattle.mi_page.specs.declared.routes.Route.{Route}
use Rattle.mi_page.specs.Keys.{Ascending, AreOrdered, IsInside}
use Rattle.mi_page.specs.Entries.{entry_keys}
use Rattle.mi_page.specs.Routes.{route_keys}
use Rattle.mi_page.specs.Nodes.{Node, IsNode, item_count, middle_key, lower_half, upper_half}
use Rattle.mi_page.proofs.OrderLemmas.{all_at}

take_all_of : {X : Type 0} (P : X → Type 0) (n : ℕ) (xs : List X) → AllByRecursion P xs → AllByRecursion P (take n xs)
take_all_of P zero xs h = tt
take_all_of P (suc n) [] h = tt
take_all_of P (suc n) (x ∷ xs) h = (h.0, take_all_of P n xs h.1)

drop_all_of : {X : Type 0} (P : X → Type 0) (n : ℕ) (xs : List X) → AllByRecursion P xs → AllByRecursion P (drop n xs)
drop_all_of P zero xs h = h
drop_all_of P (suc n) [] h = tt
drop_all_of P (suc n) (x ∷ xs) h = drop_all_of P n xs h.1

take_ascends : (n : ℕ) (keys : List ℕ) → Ascending keys → Ascending (take n keys)
take_ascends zero keys a = tt
take_ascends (suc n) [] a = tt
take_ascends (suc n) (k ∷ keys) a = (take_all_of (λ j. k < j) n keys a.0, take_ascends n keys a.1)

drop_ascends : (n : ℕ) (keys : List ℕ) → Ascending keys → Ascending (drop n keys)
drop_ascends zero keys a = a
drop_ascends (suc n) [] a = tt
drop_ascends (suc n) (k ∷ keys) a = drop_ascends n keys a.1

-- the keys before a place are below the key there
pub below_place : (n : ℕ) (keys : List ℕ) → Ascending keys → n < length keys → AllByRecursion (λ k. k < get_or keys n 0) (take n keys)
below_place zero keys a lt = tt
below_place (suc n) [] a lt = tt
below_place (suc n) (k ∷ keys) a lt = (all_at (λ j. k < j) keys n 0 a.0 (omega arith), below_place n keys a.1 (omega arith))

at_least : (k : ℕ) (keys : List ℕ) → AllByRecursion (λ j. k < j) keys → AllByRecursion (λ j. k ≤ j) keys
at_least k [] h = tt
at_least k (j ∷ keys) h = ((let l = h.0 in omega arith), at_least k keys h.1)

-- those from there on aren't
pub from_place : (n : ℕ) (keys : List ℕ) → Ascending keys → n < length keys → AllByRecursion (λ k. get_or keys n 0 ≤ k) (drop n keys)
from_place n [] a lt = absurd (omega arith)
from_place zero (k ∷ keys) a lt = (omega arith, at_least k keys a.0)
from_place (suc n) (k ∷ keys) a lt = from_place n keys a.1 (omega arith)

-- all inside a range and below a key are inside the range that ends there
ends_at : (low : ℕ) (high : Option ℕ) (m : ℕ) (keys : List ℕ) → AllByRecursion (IsInside low high) keys → AllByRecursion (λ k. k < m) keys → AllByRecursion (IsInside low (Some m)) keys
ends_at low high m [] h b = tt
ends_at low high m (k ∷ keys) h b = (record { from_low = h.0.from_low; below_high = lt-ltb k m b.0 }, ends_at low high m keys h.1 b.1)

begins_at : (low : ℕ) (high : Option ℕ) (m : ℕ) (keys : List ℕ) → AllByRecursion (IsInside low high) keys → AllByRecursion (λ k. m ≤ k) keys → AllByRecursion (IsInside m high) keys
begins_at low high m [] h b = tt
begins_at low high m (k ∷ keys) h b = (record { from_low = b.0; below_high = h.0.below_high }, begins_at low high m keys h.1 b.1)

-- there are no keys, or the middle key is the one at place 16
abbrev HasMiddle : ℕ → List ℕ → Type 0
HasMiddle m keys = (keys ≡ []) ⊎ ((16 < length keys) × (get_or keys 16 0 ≡ m))

lower_ordered : (low : ℕ) (high : Option ℕ) (m : ℕ) (keys : List ℕ) → HasMiddle m keys → AreOrdered low high keys → AreOrdered low (Some m) (take 16 keys)
lower_ordered low high m keys (inl none) o = subst (λ (ks : List ℕ). AreOrdered low (Some m) (take 16 ks)) (sym none) (record { few = omega arith; ascend = tt; inside = tt })
lower_ordered low high m keys (inr at) o = record {
  few = omega (arith, length-take 16 keys);
  ascend = take_ascends 16 keys o.ascend;
  inside = ends_at low high m (take 16 keys) (take_all_of (IsInside low high) 16 keys o.inside)
      (subst (λ (n : ℕ). AllByRecursion (λ k. k < n) (take 16 keys)) at.1 (below_place 16 keys o.ascend at.0));
}

upper_ordered : (low : ℕ) (high : Option ℕ) (m : ℕ) (keys : List ℕ) → HasMiddle m keys → AreOrdered low high keys → AreOrdered m high (drop 16 keys)
upper_ordered low high m keys (inl none) o = subst (λ (ks : List ℕ). AreOrdered m high (drop 16 ks)) (sym none) (record { few = omega arith; ascend = tt; inside = tt })
upper_ordered low high m keys (inr at) o = record {
  few = (let f = o.few in omega (arith, length-drop 16 keys));
  ascend = drop_ascends 16 keys o.ascend;
  inside = begins_at low high m (drop 16 keys) (drop_all_of (IsInside low high) 16 keys o.inside)
      (subst (λ (n : ℕ). AllByRecursion (λ k. n ≤ k) (drop 16 keys)) at.1 (from_place 16 keys o.ascend at.0));
}

module _ (p : Node) (h : IsNode p) (full : item_count p ≡ 32) where
  leaf_long : p.level ≡ 0 → length (entry_keys p.entries) ≡ 32
  leaf_long e = omega (arith, length-map p.entries (λ x. x.key), ap length (h.leaf e))

  inner_long : 0 < p.level → length (route_keys p.routes) ≡ 32
  inner_long above = omega (arith, length-map p.routes (λ x. x.key), ap length (h.inner above))

  pub leaf_middle : p.level ≡ 0 → get_or (entry_keys p.entries) 16 0 ≡ middle_key p
  leaf_middle e = sym (get_or_append_left (entry_keys p.entries) (route_keys p.routes) 0 16 (omega (arith, leaf_long e)))

  pub inner_middle : 0 < p.level → get_or (route_keys p.routes) 16 0 ≡ middle_key p
  inner_middle above = sym (ap (λ es. get_or (entry_keys es ++ route_keys p.routes) 16 0) (h.inner above))

  entries_middle : HasMiddle (middle_key p) (entry_keys p.entries)
  entries_middle = elim (cases_eq p.level 0) [
    | inl e ↦ inr (omega (arith, leaf_long e), leaf_middle e)
    | inr n ↦ inl (ap entry_keys (h.inner (omega arith)))
  ]

  routes_middle : HasMiddle (middle_key p) (route_keys p.routes)
  routes_middle = elim (cases_eq p.level 0) [
    | inl e ↦ inl (ap route_keys (h.leaf e))
    | inr n ↦ let above : 0 < p.level = omega arith in inr (omega (arith, inner_long above), inner_middle above)
  ]

  first_stays : (n : ℕ) (keys : List ℕ) → slice_get (take (suc n) keys) 0 ≡ slice_get keys 0
  first_stays n [] = refl
  first_stays n (k ∷ keys) = refl

  pub lower_node : (number : ℕ) → IsNode (lower_half number p)
  lower_node number = record {
    entries = subst (AreOrdered p.low (Some (middle_key p))) (take-map (λ x. x.key) 16 p.entries) (lower_ordered p.low p.high (middle_key p) (entry_keys p.entries) entries_middle h.entries);
    routes = subst (AreOrdered p.low (Some (middle_key p))) (take-map (λ x. x.key) 16 p.routes) (lower_ordered p.low p.high (middle_key p) (route_keys p.routes) routes_middle h.routes);
    leaf = λ e. ap (take 16) (h.leaf e);
    inner = λ above. ap (take 16) (h.inner above);
    first = λ above. ap (λ ks. slice_get ks 0) (sym (take-map (λ x. x.key) 16 p.routes)) ∙ first_stays 15 (route_keys p.routes) ∙ h.first above;
  }

  first_moved : (keys : List ℕ) → 16 < length keys → slice_get (drop 16 keys) 0 ≡ Some (get_or keys 16 0)
  first_moved keys lt = ap (λ ks. slice_get ks 0) (drop_more keys 16 0 lt)

  pub upper_node : IsNode (upper_half p)
  upper_node = record {
    entries = subst (AreOrdered (middle_key p) p.high) (drop-map (λ x. x.key) 16 p.entries) (upper_ordered p.low p.high (middle_key p) (entry_keys p.entries) entries_middle h.entries);
    routes = subst (AreOrdered (middle_key p) p.high) (drop-map (λ x. x.key) 16 p.routes) (upper_ordered p.low p.high (middle_key p) (route_keys p.routes) routes_middle h.routes);
    leaf = λ e. ap (drop 16) (h.leaf e);
    inner = λ above. ap (drop 16) (h.inner above);
    first = λ above. ap (λ ks. slice_get ks 0) (sym (drop-map (λ x. x.key) 16 p.routes)) ∙ first_moved (route_keys p.routes) (omega (arith, inner_long above)) ∙ ap Some (inner_middle above);
  }

  -- the key of the 17th entry, and of the 17th route
  pub entry_middle : (d : Entry) → p.level ≡ 0 → (get_or p.entries 16 d).key ≡ middle_key p
  entry_middle d e = sym (get_or-map (λ x. x.key) p.entries 16 d 0 (omega (arith, leaf_long e, length-map p.entries (λ x. x.key)))) ∙ leaf_middle e

  pub route_middle : (d : Route) → 0 < p.level → (get_or p.routes 16 d).key ≡ middle_key p
  route_middle d above = sym (get_or-map (λ x. x.key) p.routes 16 d 0 (omega (arith, inner_long above, length-map p.routes (λ x. x.key)))) ∙ inner_middle above

  half_entries : length (take 16 p.entries) + length (take 16 p.routes) ≡ 16
  half_entries = elim (cases_eq p.level 0) [
    | inl e ↦ omega (arith, length-take 16 p.entries, length-take 16 p.routes, ap length (h.leaf e))
    | inr n ↦ omega (arith, length-take 16 p.entries, length-take 16 p.routes, ap length (h.inner (omega arith)))
  ]

  pub lower_part : (number : ℕ) → IsNode (lower_half number p) × (item_count (lower_half number p) ≡ 16)
  lower_part number = (lower_node number, half_entries)

  pub upper_part : IsNode (upper_half p) × (item_count (upper_half p) ≡ 16)
  upper_part = (
    upper_node,
    elim (cases_eq p.level 0) [
      | inl e ↦ omega (arith, length-drop 16 p.entries, length-drop 16 p.routes, ap length (h.leaf e))
      | inr n ↦ omega (arith, length-drop 16 p.entries, length-drop 16 p.routes, ap length (h.inner (omega arith)))
    ],
  )

  -- the key at place 16 is inside the range and above the first
  middle_at : (keys : List ℕ) → AreOrdered p.low p.high keys → 16 < length keys → IsInside p.low p.high (get_or keys 16 0) × (p.low < get_or keys 16 0)
  middle_at keys o lt =
      let first = all_at (IsInside p.low p.high) keys 0 0 o.inside (omega arith) in
      let up = first_below keys o.ascend lt in
      (all_at (IsInside p.low p.high) keys 16 0 o.inside lt, (let l = first.from_low in omega arith))
    where
      first_below : (ks : List ℕ) → Ascending ks → 16 < length ks → get_or ks 0 0 < get_or ks 16 0
      first_below [] a l = absurd (omega arith)
      first_below (k ∷ ks) a l = all_at (λ j. k < j) ks 15 0 a.0 (omega arith)

  pub middle_inside : IsInside p.low p.high (middle_key p) × (p.low < middle_key p)
  middle_inside =
      let P : ℕ → Type 0 = λ m. IsInside p.low p.high m × (p.low < m) in
      elim (cases_eq p.level 0) [
        | inl e ↦ subst P (leaf_middle e) (middle_at (entry_keys p.entries) h.entries (omega (arith, leaf_long e)))
        | inr n ↦
            let above : 0 < p.level = omega arith in
            subst P (inner_middle above) (middle_at (route_keys p.routes) h.routes (omega (arith, inner_long above)))
      ]

-- of keys above one, none is below it, and all are at least it
sides_above : {X : Type 0} (f : X → ℕ) (m : ℕ) (xs : List X) → AllByRecursion (λ k. m < k) (map f xs) → (filter (λ x. nat_lt (f x) m) xs ≡ []) × (filter (λ x. nat_le m (f x)) xs ≡ xs)
sides_above f m [] h = (refl, refl)
sides_above f m (x ∷ xs) h =
    let lt : m < f x = h.0 in
    let below : nat_lt (f x) m ≡ false = grind (arith, nat_tests) in
    let from : nat_le m (f x) ≡ true = grind (arith, nat_tests) in
    let rest = sides_above f m xs h.1 in
    (rw below rest.0, rw from (ap (λ ys. x ∷ ys) rest.1))

-- a list in key order, cut at a place, is cut at the key there
pub cut_at : {X : Type 0} (f : X → ℕ) (n : ℕ) (xs : List X) → Ascending (map f xs) → n < length xs
    → (take n xs ≡ filter (λ x. nat_lt (f x) (get_or (map f xs) n 0)) xs) × (drop n xs ≡ filter (λ x. nat_le (get_or (map f xs) n 0) (f x)) xs)
cut_at f n [] a lt = absurd (omega arith)
cut_at f zero (x ∷ xs) a lt =
    let below : nat_lt (f x) (f x) ≡ false = grind (arith, nat_tests) in
    let from : nat_le (f x) (f x) ≡ true = grind (arith, nat_tests) in
    let rest = sides_above f (f x) xs a.0 in
    (rw below (sym rest.0), rw from (ap (λ ys. x ∷ ys) (sym rest.1)))
cut_at f (suc n) (x ∷ xs) a lt =
    let up : f x < get_or (map f xs) n 0 = all_at (λ k. f x < k) (map f xs) n 0 a.0 (omega (arith, length-map xs f)) in
    let below : nat_lt (f x) (get_or (map f xs) n 0) ≡ true = grind (arith, nat_tests) in
    let from : nat_le (get_or (map f xs) n 0) (f x) ≡ false = grind (arith, nat_tests) in
    let rest = cut_at f n xs a.1 (omega arith) in
    (rw below (ap (λ ys. x ∷ ys) rest.0), rw from rest.1)

abbrev Sides : {X : Type 0} → (X → ℕ) → ℕ → List X → Type 0
Sides f m xs = (take 16 xs ≡ filter (λ x. nat_lt (f x) m) xs) × (drop 16 xs ≡ filter (λ x. nat_le m (f x)) xs)

none_cut : {X : Type 0} (f : X → ℕ) (m : ℕ) (xs : List X) → xs ≡ [] → Sides f m xs
none_cut f m [] e = (refl, refl)
none_cut f m (x ∷ xs) e = absurd (cc)

all_cut : {X : Type 0} (f : X → ℕ) (m : ℕ) (xs : List X) → Ascending (map f xs) → 16 < length xs → get_or (map f xs) 16 0 ≡ m → Sides f m xs
all_cut f m xs a lt e = subst (λ (k : ℕ). Sides f k xs) e (cut_at f 16 xs a lt)

pub entry_sides : (p : Node) (number : ℕ) → IsNode p → item_count p ≡ 32
    → ((lower_half number p).entries ≡ filter (λ e. nat_lt e.key (middle_key p)) p.entries) × ((upper_half p).entries ≡ filter (λ e. nat_le (middle_key p) e.key) p.entries)
entry_sides p number h full = elim (cases_eq p.level 0) [
  | inl e ↦ all_cut (λ x. x.key) (middle_key p) p.entries h.entries.ascend (omega (arith, ap length (h.leaf e))) (leaf_middle p h full e)
  | inr n ↦ none_cut (λ x. x.key) (middle_key p) p.entries (h.inner (omega arith))
]

pub route_sides : (p : Node) (number : ℕ) → IsNode p → item_count p ≡ 32
    → ((lower_half number p).routes ≡ filter (λ r. nat_lt r.key (middle_key p)) p.routes) × ((upper_half p).routes ≡ filter (λ r. nat_le (middle_key p) r.key) p.routes)
route_sides p number h full = elim (cases_eq p.level 0) [
  | inl e ↦ none_cut (λ x. x.key) (middle_key p) p.routes (h.leaf e)
  | inr n ↦ let above : 0 < p.level = omega arith in all_cut (λ x. x.key) (middle_key p) p.routes h.routes.ascend (omega (arith, ap length (h.inner above))) (inner_middle p h full above)
]

-- the same with the parts under other names
pub lower_is : (p : Node) (number m : ℕ) (entries : List Entry) (routes : List Route) → m ≡ middle_key p → entries ≡ take 16 p.entries → routes ≡ take 16 p.routes
    → record { level = p.level; low = p.low; high = Some m; right = Some number; entries = entries; routes = routes } ≡ lower_half number p
lower_is p number m entries routes a b c = cc

pub upper_is : (p : Node) (m : ℕ) (entries : List Entry) (routes : List Route) → m ≡ middle_key p → entries ≡ drop 16 p.entries → routes ≡ drop 16 p.routes
    → record { level = p.level; low = m; high = p.high; right = p.right; entries = entries; routes = routes } ≡ upper_half p
upper_is p m entries routes a b c = cc

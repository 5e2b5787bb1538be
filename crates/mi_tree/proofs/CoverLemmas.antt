-- The hull of a leaf has what was put into it.
use Rattle.std.proofs.Common.{◌≡◌, ℕ, ◌≤◌, List, [], ◌∷◌, map, Bool, true, false, cond, not, ◌&&◌, ◌||◌, nat_eq, nat_le, refl, sym, ap, ◌∙◌, arith, min, Option, Some, None}
use Rattle.std.specs.Prelude.{max}
use Rattle.std.specs.List.{filter, fold, list_all}
use Rattle.std.proofs.lemmas.Bool.{and_from, and_parts, false≢true, leb-true}
use Rattle.std.proofs.lemmas.Bool.Decides.{nat_tests}
use Rattle.std.proofs.lemmas.List.Folds.{list_all-append}
use Rattle.mi_base.specs.declared.records.Update.TheVariants.{Insert, Delete}
use Rattle.mi_base.specs.declared.records.LogEvent.{LogEvent}
use Rattle.mi_base.specs.declared.records.LogEvent.TheVariants.{Update as Made, Split}
use Rattle.mi_base.specs.History.{Object, live, updates_of}
use Rattle.mi_tree.specs.Cells.{Grid}
use Rattle.mi_tree.specs.Counting.{widen, hull_of, in_hull, Population, belongs, population_after, population, leaf_with}
use Rattle.mi_tree.proofs.CatLemmas.{held_live}

-- a widened interval has its number
widen_has : (d : ℕ) (h : Option (ℕ × ℕ)) → in_hull d (widen d h) ≡ true
widen_has d None = let low : nat_le d d ≡ true = grind (arith, nat_tests) in and_from (nat_le d d) (nat_le d d) low low
widen_has d (Some h) =
    let low : nat_le (min h.0 d) d ≡ true = grind (arith, nat_tests) in
    let high : nat_le d (max h.1 d) ≡ true = grind (arith, nat_tests) in
    and_from _ _ low high

-- a widened interval has what it had
widen_keeps : (e d : ℕ) (h : Option (ℕ × ℕ)) → in_hull d h ≡ true → in_hull d (widen e h) ≡ true
widen_keeps e d None k = absurd (false≢true k)
widen_keeps e d (Some h) k =
    let parts = and_parts (nat_le h.0 d) (nat_le d h.1) k in
    let l : h.0 ≤ d = leb-true h.0 d parts.0 in
    let u : d ≤ h.1 = leb-true d h.1 parts.1 in
    let low : nat_le (min h.0 e) d ≡ true = grind (arith, nat_tests) in
    let high : nat_le d (max h.1 e) ≡ true = grind (arith, nat_tests) in
    and_from _ _ low high

-- a weaker test passes too
all_kept : {X : Type 0} (t u : X → Bool) → ((x : X) → t x ≡ true → u x ≡ true) → (xs : List X) → list_all t xs ≡ true → list_all u xs ≡ true
all_kept t u imp [] h = refl
all_kept t u imp (x ∷ xs) h = let parts = and_parts (t x) (list_all t xs) h in and_from (u x) (list_all u xs) (imp x parts.0) (all_kept t u imp xs parts.1)

-- the hull of the numbers of a list has each
pub hull_covers : {X : Type 0} (f : X → ℕ) (xs : List X) → list_all (λ x. in_hull (f x) (hull_of (map f xs))) xs ≡ true
hull_covers f [] = refl
hull_covers f (x ∷ xs) =
    and_from _ _ (widen_has (f x) (hull_of (map f xs)))
    (all_kept (λ y. in_hull (f y) (hull_of (map f xs))) (λ y. in_hull (f y) (widen (f x) (hull_of (map f xs)))) (λ y k. widen_keeps (f x) (f y) (hull_of (map f xs)) k) xs (hull_covers f xs))

-- a test of what another test keeps
all_of_kept : {X : Type 0} (t p : X → Bool) (xs : List X) → list_all t (filter p xs) ≡ list_all (λ x. not (p x) || t x) xs
all_of_kept t p [] = refl
all_of_kept t p (x ∷ xs) =
    let P : Bool → Type 0 = λ b. list_all t (cond b (x ∷ filter p xs) (filter p xs)) ≡ ((not b || t x) && list_all (λ y. not (p y) || t y) xs) in
    elim (p x) as P [ true ↦ ap (λ b. t x && b) (all_of_kept t p xs) | false ↦ all_of_kept t p xs ]

-- what follows from two tests
all_both : {X : Type 0} (t u v : X → Bool) → ((x : X) → t x ≡ true → u x ≡ true → v x ≡ true) → (xs : List X) → list_all t xs ≡ true → list_all u xs ≡ true → list_all v xs ≡ true
all_both t u v imp [] h k = refl
all_both t u v imp (x ∷ xs) h k =
    let a = and_parts (t x) (list_all t xs) h in
    let b = and_parts (u x) (list_all u xs) k in
    and_from (v x) (list_all v xs) (imp x a.0 b.0) (all_both t u v imp xs a.1 b.1)

-- what holds of all that were put in holds of the live ones
abbrev PutLive : Population → Type 0
PutLive h = (t : Object → Bool) → list_all t h.put_in ≡ true → list_all t h.live ≡ true

-- what holds inside and outside holds
either : (b t : Bool) → (not (not b) || t) ≡ true → (not b || t) ≡ true → t ≡ true
either true t h k = k
either false t h k = h

-- what holds holds under a condition
weaker_or : (b t : Bool) → t ≡ true → (not b || t) ≡ true
weaker_or true t h = h
weaker_or false t h = refl

-- one event keeps that
put_live_after : (g : Grid) (h : Population) (e : LogEvent) → PutLive h → PutLive (population_after g h e)
put_live_after g h (Made session op (Insert id vector)) all t k =
    let o : Object = record { id = id; vector = vector } in
    let parts = and_parts (t o) (list_all t h.put_in) k in
    and_from (t o) (list_all t h.live) parts.0 (all t parts.1)
put_live_after g h (Made session op (Delete id)) all t k =
    all_of_kept t (λ o. not (nat_eq o.id id)) h.live ∙ all_kept t (λ o. not (not (nat_eq o.id id)) || t o) (λ o m. weaker_or (not (nat_eq o.id id)) (t o) m) h.live (all t k)
put_live_after g h (Split p) all t k =
    let parts = and_parts _ _ (sym (list_all-append t (filter (λ o. not (belongs g p o)) h.put_in) (filter (belongs g p) h.live)) ∙ k) in
    let outer = all (λ o. not (not (belongs g p o)) || t o) (sym (all_of_kept t (λ o. not (belongs g p o)) h.put_in) ∙ parts.0) in
    let inner = sym (all_of_kept t (belongs g p) h.live) ∙ parts.1 in
    all_both (λ o. not (not (belongs g p o)) || t o) (λ o. not (belongs g p o) || t o) t (λ o a b. either (belongs g p o) (t o) a b) h.live outer inner

-- a log keeps that
put_live_from : (g : Grid) (h : Population) (log : List LogEvent) → PutLive h → PutLive (fold (population_after g) h log)
put_live_from g h [] all = all
put_live_from g h (e ∷ log) all = put_live_from g (population_after g h e) log (put_live_after g h e all)

-- what holds of all that were put in holds of the live ones
put_live : (g : Grid) (log : List LogEvent) → PutLive (population g log)
put_live g log = put_live_from g (record { live = []; put_in = [] }) log (λ t k. refl)

-- the hull of a leaf has each that was put into it
pub put_covered : (g : Grid) (log : List LogEvent) (p : List ℕ) → list_all (λ o. in_hull (g.distance o.vector) (leaf_with g (population g log) p).hull) (filter (belongs g p) (population g log).put_in) ≡ true
put_covered g log p = hull_covers (λ (o : Object). g.distance o.vector) (filter (belongs g p) (population g log).put_in)

-- so each live object of the leaf
pub live_covered : (g : Grid) (log : List LogEvent) (p : List ℕ) → list_all (λ o. in_hull (g.distance o.vector) (leaf_with g (population g log) p).hull) (filter (belongs g p) (live (updates_of log))) ≡ true
live_covered g log p =
    let t : Object → Bool = λ o. in_hull (g.distance o.vector) (leaf_with g (population g log) p).hull in
    let all = put_live g log (λ o. not (belongs g p o) || t o) (sym (all_of_kept t (belongs g p) (population g log).put_in) ∙ put_covered g log p) in
    ap (λ (xs : List Object). list_all t (filter (belongs g p) xs)) (sym (held_live g log)) ∙ all_of_kept t (belongs g p) (population g log).live ∙ all

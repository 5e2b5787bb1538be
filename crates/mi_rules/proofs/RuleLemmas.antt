-- The rules as facts of distances, and that none of them drops an answer.
use Rattle.std.proofs.Common.{◌≡◌, ℕ, suc, zero, ℤ, ◌+◌, ◌-◌, ◌*◌, ◌<◌, ◌≤◌, ◌^◌, List, [], ◌∷◌, map, length, take, get_or, Bool, true, false, ◌&&◌, ◌||◌, IsTrue, nat_le, nat_eq, refl, sym, ap, ◌∙◌, subst, arith, zero-add, Option, Some, None}
use Rattle.std.specs.Prelude.{IfSome, max, slice_index, slice_get}
use Rattle.std.specs.Int.{abs_diff}
use Rattle.std.specs.Ordering.{nat_cmp, is_lt, ordering_then}
use Rattle.std.specs.declared.cmp.Ordering.{Ordering}
use Rattle.std.specs.declared.cmp.Ordering.TheVariants.{Less, Equal, Greater}
use Rattle.std.specs.List.{list_all, range_with_len, AllByRecursion}
use Rattle.std.proofs.lemmas.Bool.{and_from, and_parts, eqb-true, false≢true, leb-false, leb-true}
use Rattle.std.proofs.lemmas.Bool.Decides.{nat_tests}
use Rattle.std.proofs.lemmas.List.{length-map}
use Rattle.std.proofs.lemmas.Map.Keys.{ge_from_not_lt}
use Rattle.std.proofs.lemmas.List.Folds.{list_any_at, list_all_at}
use Rattle.std.proofs.lemmas.List.FromFn.{length-range_with_len, get_or-range_with_len}
use Rattle.mi_base.specs.Prefixes.{has}
use Rattle.mi_base.specs.Permutations.{begins, distances, pivot_cmp, permutation_of, key_distance, distance_at_first}
use Rattle.mi_base.specs.Sorting.{Ascends}
use Rattle.mi_base.specs.Space.{MetricSpace, Space, IsMetric}
use Rattle.mi_base.proofs.HistoryLemmas.{same_any}
use Rattle.mi_base.proofs.PivotLemmas.{permutation_of-ascends, same_permutation_of}
use Rattle.mi_tree.specs.declared.outcomes.Leaf.{Leaf}
use Rattle.mi_tree.specs.Counting.{in_hull}
use Rattle.mi_tree.proofs.DistanceLemmas.{key_distance_small}
use Rattle.mi_rules.specs.Passing.{IsBound, double_pivot, hull_passes, lets_through, none_nearer, passes, range_pivot, rules_pass}
use Rattle.mi_key.specs.Clusters.{cluster_of}
use Rattle.mi_key.specs.declared.keys.KeyParts.{KeyParts}
use Rattle.mi_rules.specs.Answers.{IsAnswer, MayHold, AreMeasured}
use Rattle.mi_rules.specs.Spans.{cut, is_in_hull, is_in_span, is_near}

-- from which radius on a hull is met
hull_bound : (d low high r : ℕ) → range_pivot d r (low, high) ≡ nat_le (max (low - d) (d - high)) r
hull_bound d low high r = grind (arith, nat_tests)

both_bounds : (a b r : ℕ) → (nat_le a r && nat_le b r) ≡ nat_le (max b a) r
both_bounds a b r = grind (arith, nat_tests)

-- from which radius on both rules hold
rules_bound : (dq prefix : List ℕ) (first low high d inner hull bound : ℕ) → Some first ≡ slice_get prefix 0 → d ≡ slice_index dq first → ((r : ℕ) → double_pivot dq r prefix ≡ nat_le inner r)
    → hull ≡ max (low - d) (d - high) → bound ≡ max hull inner → (r : ℕ) → rules_pass dq r prefix (low, high) ≡ nat_le bound r
rules_bound dq [] first low high d inner hull bound f e s h b r = cc
rules_bound dq (p ∷ ps) first low high d inner hull bound f e s h b r =
    let same : first ≡ p = cc in
    let at : slice_index dq p ≡ d = ap (slice_index dq) (sym same) ∙ sym e in
    ap (λ x. x && range_pivot (slice_index dq p) r (low, high)) (s r) ∙ ap (λ x. nat_le inner r && range_pivot x r (low, high)) at
    ∙ ap (λ x. nat_le inner r && x) (hull_bound d low high r ∙ ap (λ x. nat_le x r) (sym h)) ∙ both_bounds inner hull r ∙ ap (λ x. nat_le x r) (sym b)

-- from which radius on a leaf passes
pub leaf_bound : (dq : List ℕ) (leaf : Leaf) (first low high d inner hull bound : ℕ) → leaf.hull ≡ Some (low, high) → Some first ≡ slice_get leaf.prefix 0 → d ≡ slice_index dq first
    → ((r : ℕ) → double_pivot dq r leaf.prefix ≡ nat_le inner r) → hull ≡ max (low - d) (d - high) → bound ≡ max hull inner → (r : ℕ) → passes dq r leaf ≡ nat_le bound r
leaf_bound dq leaf first low high d inner hull bound some f e s h b r = ap (hull_passes dq r leaf.prefix) some ∙ rules_bound dq leaf.prefix first low high d inner hull bound f e s h b r

-- the radius from which on a leaf passes is the least
pub least_bound : (dq : List ℕ) (leaf : Leaf) (bound : ℕ) → ((r : ℕ) → passes dq r leaf ≡ nat_le bound r) → IsBound dq leaf (Some bound)
least_bound dq leaf bound h = (h bound ∙ (let t : nat_le bound bound ≡ true = grind (arith, nat_tests) in t), λ r k. leb-true bound r (sym (h r) ∙ k))

-- a test of each number below n, and one that all pass
at_range : (p : ℕ → Bool) (n j : ℕ) → list_all p (range_with_len 0 n) ≡ true → j < n → p j ≡ true
at_range p n j all h =
    let within : j < length (range_with_len 0 n) = omega (arith, length-range_with_len 0 n) in
    let at : get_or (range_with_len 0 n) j 0 ≡ j = get_or-range_with_len 0 n j 0 h ∙ zero-add j in
    let P : Bool → Type 0 = λ b. p j ≡ b → b ≡ true in
    let Q : (b : Bool) → P b = elim [ true ↦ λ e. refl | false ↦ λ e. absurd (false≢true (sym (list_all_at p (range_with_len 0 n) j 0 within (ap p at ∙ e)) ∙ all)) ] in
    Q (p j) refl

all_from : (p : ℕ → Bool) (a n : ℕ) → ((j : ℕ) → a ≤ j → j < a + n → p j ≡ true) → list_all p (range_with_len a n) ≡ true
all_from p a zero h = refl
all_from p a (suc n) h = and_from (p a) (list_all p (range_with_len (a + 1) n)) (h a (omega arith) (omega arith)) (all_from p (a + 1) n (λ j lo hi. h j (omega arith) (omega arith)))

all_range : (p : ℕ → Bool) (n : ℕ) → ((j : ℕ) → j < n → p j ≡ true) → list_all p (range_with_len 0 n) ≡ true
all_range p n h = all_from p 0 n (λ j lo hi. h j (omega arith))

or_weaker : (a b c : Bool) → (b ≡ true → c ≡ true) → (a || b) ≡ true → (a || c) ≡ true
or_weaker true b c imp h = refl
or_weaker false b c imp h = imp h

-- both rules hold at each greater radius
rules_grow : (dq prefix : List ℕ) (hull : ℕ × ℕ) (r s : ℕ) → r ≤ s → rules_pass dq r prefix hull ≡ true → rules_pass dq s prefix hull ≡ true
rules_grow dq [] hull r s le h = refl
rules_grow dq (p ∷ ps) hull r s le h =
    let prefix : List ℕ = p ∷ ps in
    let n = length dq in
    let both = and_parts (double_pivot dq r prefix) (range_pivot (slice_index dq p) r hull) h in
    let ends = and_parts (nat_le hull.0 (slice_index dq p + r)) (nat_le (slice_index dq p) (hull.1 + r)) both.1 in
    let wider : (a b : ℕ) → nat_le a (b + r) ≡ true → nat_le a (b + s) ≡ true = λ a b k. (let m : a ≤ b + r = leb-true a (b + r) k in grind (arith, nat_tests)) in
    let twice : (a b : ℕ) → nat_le a (b + 2 * r) ≡ true → nat_le a (b + 2 * s) ≡ true = λ a b k. (let m : a ≤ b + 2 * r = leb-true a (b + 2 * r) k in grind (arith, nat_tests)) in
    let d : ℕ → ℕ = λ l. slice_index dq (slice_index prefix l) in
    let test : ℕ → ℕ → ℕ → Bool = λ t l j. has j (take l prefix) || nat_le (d l) (slice_index dq j + 2 * t) in
    and_from _ _
    (all_range (λ l. none_nearer dq s (take l prefix) (d l)) (length prefix)
    (λ l kl. all_range (test s l) n
    (λ j kj. or_weaker (has j (take l prefix)) (nat_le (d l) (slice_index dq j + 2 * r)) (nat_le (d l) (slice_index dq j + 2 * s)) (twice (d l) (slice_index dq j))
    (at_range (test r l) n j (at_range (λ m. none_nearer dq r (take m prefix) (d m)) (length prefix) l both.0 kl) kj))))
    (and_from _ _ (wider hull.0 (slice_index dq p) ends.0) (let m : slice_index dq p ≤ hull.1 + r = leb-true _ _ ends.1 in grind (arith, nat_tests)))

hull_grows : (dq prefix : List ℕ) (hull : Option (ℕ × ℕ)) (r s : ℕ) → r ≤ s → hull_passes dq r prefix hull ≡ true → hull_passes dq s prefix hull ≡ true
hull_grows dq prefix None r s le h = absurd (false≢true h)
hull_grows dq prefix (Some hull) r s le h = rules_grow dq prefix hull r s le h

-- what passes at a radius passes at each greater one
pub passing_grows : (dq : List ℕ) (leaf : Leaf) (r s : ℕ) → r ≤ s → passes dq r leaf ≡ true → passes dq s leaf ≡ true
passing_grows dq leaf r s le h = hull_grows dq leaf.prefix leaf.hull r s le h

-- what the filter says of each pivot
near_at : (r : ℕ) (xs ys : List ℕ) → length xs ≡ length ys → lets_through r xs ys ≡ true → (j : ℕ) → (slice_index xs j ≤ slice_index ys j + r) × (slice_index ys j ≤ slice_index xs j + r)
near_at r [] [] e h j = (omega arith, omega arith)
near_at r [] (y ∷ ys) e h j = absurd (omega arith)
near_at r (x ∷ xs) [] e h j = absurd (omega arith)
near_at r (x ∷ xs) (y ∷ ys) e h zero =
    let parts = and_parts (nat_le (abs_diff x y) r) (lets_through r xs ys) h in
    let m : abs_diff x y ≤ r = leb-true (abs_diff x y) r parts.0 in
    (omega arith, omega arith)
near_at r (x ∷ xs) (y ∷ ys) e h (suc j) =
    let parts = and_parts (nat_le (abs_diff x y) r) (lets_through r xs ys) h in
    near_at r xs ys (omega arith) parts.1 j

-- what holds of each element holds of one that is there
all_has : (P : ℕ → Type 0) (xs : List ℕ) (j : ℕ) → AllByRecursion P xs → has j xs ≡ true → P j
all_has P [] j all h = absurd (false≢true h)
all_has P (x ∷ xs) j all h =
    let Q : Bool → Type 0 = λ b. nat_eq x j ≡ b → (b || has j xs) ≡ true → P j in
    let go : (b : Bool) → Q b = elim [ true ↦ λ e k. subst P (eqb-true x j e) all.0 | false ↦ λ e k. all_has P xs j all.1 k ] in
    go (nat_eq x j) refl h

-- what is not less by two orders is not less by the first
pub not_less : (o p : Ordering) → is_lt (ordering_then o p) ≡ false → is_lt o ≡ false
not_less Less p h = h
not_less Equal p h = refl
not_less Greater p h = refl

neither : (a b : Bool) → (a || b) ≡ false → (a ≡ false) × (b ≡ false)
neither true b h = absurd (false≢true (sym h))
neither false b h = (refl, h)

second : (a b : Bool) → a ≡ false → (a || b) ≡ true → b ≡ true
second true b e h = absurd (false≢true (sym e))
second false b e h = h

-- a pivot of the permutation that is not among the first ones is no nearer than the next one
no_nearer : (dists prefix perm : List ℕ) (l j : ℕ) → Ascends (pivot_cmp dists) perm → begins prefix perm ≡ true → l < length prefix → has j perm ≡ true → has j (take l prefix) ≡ false
    → slice_index dists (slice_index prefix l) ≤ slice_index dists j
no_nearer dists [] perm l j a b lt h n = absurd (omega arith)
no_nearer dists (x ∷ p) [] l j a b lt h n = absurd (false≢true b)
no_nearer dists (x ∷ p) (y ∷ perm) zero j a b lt h n =
    let parts = and_parts (nat_eq x y) (begins p perm) b in
    let e : slice_index dists x ≡ slice_index dists y = ap (slice_index dists) (eqb-true x y parts.0) in
    let Q : Bool → Type 0 = λ b. nat_eq y j ≡ b → (b || has j perm) ≡ true → slice_index dists y ≤ slice_index dists j in
    let go : (b : Bool) → Q b = elim [
      | true ↦ λ t k. (let same : slice_index dists y ≡ slice_index dists j = ap (slice_index dists) (eqb-true y j t) in omega arith)
      | false ↦ λ t k.
          ge_from_not_lt (slice_index dists j) (slice_index dists y)
          (not_less (nat_cmp (slice_index dists j) (slice_index dists y)) (nat_cmp j y) (all_has (λ z. is_lt (pivot_cmp dists z y) ≡ false) perm j a.0 k))
    ] in
    let le = go (nat_eq y j) refl h in
    omega arith
no_nearer dists (x ∷ p) (y ∷ perm) (suc l) j a b lt h n =
    let parts = and_parts (nat_eq x y) (begins p perm) b in
    let apart = neither (nat_eq x j) (has j (take l p)) n in
    let other : nat_eq y j ≡ false = ap (λ z. nat_eq z j) (sym (eqb-true x y parts.0)) ∙ apart.0 in
    no_nearer dists p perm l j a.1 parts.1 (omega arith) (second (nat_eq y j) (has j perm) other h) apart.1

-- the permutation has each pivot
has_pivot : (dists : List ℕ) (j : ℕ) → j < length dists → has j (permutation_of dists) ≡ true
has_pivot dists j h =
    let n = length dists in
    let within : j < length (range_with_len 0 n) = omega (arith, length-range_with_len 0 n) in
    let at : get_or (range_with_len 0 n) j 0 ≡ j = get_or-range_with_len 0 n j 0 h ∙ zero-add j in
    let same : nat_eq j j ≡ true = grind (arith, nat_tests) in
    same_any (λ y. nat_eq y j) (permutation_of dists) (range_with_len 0 n) (same_permutation_of dists)
    ∙ list_any_at (λ y. nat_eq y j) (range_with_len 0 n) j 0 within (ap (λ y. nat_eq y j) at ∙ same)

-- the distance at the first pivot of a permutation is that of a prefix's first
first_of : (dists : List ℕ) (p : ℕ) (ps perm : List ℕ) → begins (p ∷ ps) perm ≡ true → distance_at_first dists perm ≡ slice_index dists p
first_of dists p ps [] b = absurd (false≢true b)
first_of dists p ps (x ∷ perm) b = ap (slice_index dists) (sym (eqb-true p x (and_parts (nat_eq p x) (begins ps perm) b).0))

unless : (a b : Bool) → (a ≡ false → b ≡ true) → (a || b) ≡ true
unless true b h = refl
unless false b h = h refl

-- what the filter lets through has a prefix at which both rules hold
rules_let : (dq dists prefix : List ℕ) (r : ℕ) (hull : ℕ × ℕ) → length dq ≡ length dists → lets_through r dq dists ≡ true → begins prefix (permutation_of dists) ≡ true
    → in_hull (key_distance dists) (Some hull) ≡ true → rules_pass dq r prefix hull ≡ true
rules_let dq dists [] r hull e f b i = refl
rules_let dq dists (p ∷ ps) r hull e f b i =
    let prefix : List ℕ = p ∷ ps in
    let d : ℕ → ℕ = λ l. slice_index dq (slice_index prefix l) in
    let near = near_at r dq dists e f in
    let ends = and_parts (nat_le hull.0 (key_distance dists)) (nat_le (key_distance dists) hull.1) i in
    let low : hull.0 ≤ key_distance dists = leb-true _ _ ends.0 in
    let high : key_distance dists ≤ hull.1 = leb-true _ _ ends.1 in
    let first : key_distance dists ≡ slice_index dists p = first_of dists p ps (permutation_of dists) b in
    let above : hull.0 ≤ slice_index dq p + r = omega (arith, (near p).1) in
    let below : slice_index dq p ≤ hull.1 + r = omega (arith, (near p).0) in
    let met_low : nat_le hull.0 (slice_index dq p + r) ≡ true = grind (arith, nat_tests) in
    let met_high : nat_le (slice_index dq p) (hull.1 + r) ≡ true = grind (arith, nat_tests) in
    and_from _ _
    (all_range (λ l. none_nearer dq r (take l prefix) (d l)) (length prefix)
    (λ l kl. all_range (λ j. has j (take l prefix) || nat_le (d l) (slice_index dq j + 2 * r)) (length dq)
    (λ j kj. unless (has j (take l prefix)) (nat_le (d l) (slice_index dq j + 2 * r))
    (λ out.
    let no : slice_index dists (slice_index prefix l) ≤ slice_index dists j =
    no_nearer dists prefix (permutation_of dists) l j (permutation_of-ascends dists) b kl (has_pivot dists j (omega arith)) out in
    let le : d l ≤ slice_index dq j + 2 * r = omega (arith, (near (slice_index prefix l)).0, (near j).1) in
    (let t : nat_le (d l) (slice_index dq j + 2 * r) ≡ true = grind (arith, nat_tests) in t)))))
    (and_from _ _ met_low met_high)

hull_lets : (dq dists prefix : List ℕ) (r : ℕ) (hull : Option (ℕ × ℕ)) → length dq ≡ length dists → lets_through r dq dists ≡ true → begins prefix (permutation_of dists) ≡ true
    → in_hull (key_distance dists) hull ≡ true → hull_passes dq r prefix hull ≡ true
hull_lets dq dists prefix r None e f b i = absurd (false≢true i)
hull_lets dq dists prefix r (Some hull) e f b i = rules_let dq dists prefix r hull e f b i

-- what the filter lets through lies in a leaf that passes
pub filter_passes : (dq dists : List ℕ) (r : ℕ) (leaf : Leaf) → length dq ≡ length dists → lets_through r dq dists ≡ true → begins leaf.prefix (permutation_of dists) ≡ true
    → in_hull (key_distance dists) leaf.hull ≡ true → passes dq r leaf ≡ true
filter_passes dq dists r leaf e f b i = hull_lets dq dists leaf.prefix r leaf.hull e f b i

-- the filter lets through what is within the radius
near_all : (m : MetricSpace) → IsMetric m → (query object : List ℤ) → IsTrue (m.fits query) → IsTrue (m.fits object) → (r : ℕ) → m.d query object ≤ r
    → (ps : List (List ℤ)) → AllByRecursion (λ p. IsTrue (m.fits p)) ps → lets_through r (map (m.d query) ps) (map (m.d object) ps) ≡ true
near_all m is q o fq fo r near [] fps = refl
near_all m is q o fq fo r near (p ∷ ps) fps =
    let one : m.d q p ≤ m.d q o + m.d o p = is.triangle q o p fq fo fps.0 in
    let two : m.d o p ≤ m.d o q + m.d q p = is.triangle o q p fo fq fps.0 in
    let turned : m.d o q ≡ m.d q o = is.symmetric o q fo fq in
    let close : abs_diff (m.d q p) (m.d o p) ≤ r = omega arith in
    let here : nat_le (abs_diff (m.d q p) (m.d o p)) r ≡ true = grind (arith, nat_tests) in
    and_from _ _ here (near_all m is q o fq fo r near ps fps.1)

no_pivot : (dists : List ℕ) → length dists ≡ 0 → key_distance dists ≡ 0
no_pivot [] e = refl
no_pivot (d ∷ dists) e = absurd (omega arith)

-- a key of what the filter lets through lies in its leaf's span
pub filter_spans : (dq dists : List ℕ) (r levels : ℕ) (prefix : List ℕ) (parts : KeyParts) → length dq ≡ length dists → lets_through r dq dists ≡ true → begins prefix (permutation_of dists) ≡ true
    → (prefix ≡ [] → dq ≡ []) → key_distance dists < 2 ^ 27 → parts.cluster ≡ cluster_of (length dq) levels prefix → parts.distance ≡ key_distance dists → is_in_span dq r levels prefix parts ≡ true
filter_spans dq dists r levels [] parts e f b empty small c d =
    let zero_distance : key_distance dists ≡ 0 = no_pivot dists (sym e ∙ ap length (empty refl)) in
    let same : nat_eq parts.cluster (cluster_of (length dq) levels []) ≡ true = grind (arith, nat_tests) in
    let least : nat_le 0 parts.distance ≡ true = grind (arith, nat_tests) in
    let greatest : nat_le parts.distance 0 ≡ true = grind (arith, nat_tests) in
    and_from _ _ same (and_from _ _ least greatest)
filter_spans dq dists r levels (p ∷ ps) parts e f b empty small c d =
    let near = near_at r dq dists e f in
    let first : key_distance dists ≡ slice_index dists p = first_of dists p ps (permutation_of dists) b in
    let same : nat_eq parts.cluster (cluster_of (length dq) levels (p ∷ ps)) ≡ true = grind (arith, nat_tests) in
    let low : cut (slice_index dq p - r) ≤ parts.distance = omega (arith, (near p).0) in
    let high : parts.distance ≤ cut (slice_index dq p + r) = omega (arith, (near p).1) in
    let least : nat_le (cut (slice_index dq p - r)) parts.distance ≡ true = grind (arith, nat_tests) in
    let greatest : nat_le parts.distance (cut (slice_index dq p + r)) ≡ true = grind (arith, nat_tests) in
    and_from _ _ same (and_from _ _ least greatest)

same_lengths : (space : Space) (v w : List ℤ) → length (distances space v) ≡ length (distances space w)
same_lengths space v w = length-map space.pivots (λ p. space.metric.d v p) ∙ sym (length-map space.pivots (λ p. space.metric.d w p))

pub answer_filters : (space : Space) (query object : List ℤ) (r : ℕ) → IsAnswer space query object r → lets_through r (distances space query) (distances space object) ≡ true
answer_filters space query object r a = near_all space.metric a.metric query object a.query_fits a.object_fits r a.near space.pivots a.pivots_fit

pub answer_passes : (space : Space) (query object : List ℤ) (r : ℕ) → IsAnswer space query object r → (leaf : Leaf) → MayHold leaf (distances space object) → passes (distances space query) r leaf ≡ true
answer_passes space query object r a leaf h =
    filter_passes (distances space query) (distances space object) r leaf (same_lengths space query object) (answer_filters space query object r a) h.begun h.covered

-- a key has place for the distance of an answer
pub distance_small : (space : Space) (query object : List ℤ) (r : ℕ) → IsAnswer space query object r → key_distance (distances space object) < 2 ^ 27
distance_small space query object r a = key_distance_small space a.metric a.pivots_fit object a.object_fits

pub answer_spans : (space : Space) (query object : List ℤ) (r : ℕ) → IsAnswer space query object r → (leaf : Leaf) → MayHold leaf (distances space object) → (leaf.prefix ≡ [] → space.pivots ≡ [])
    → (levels : ℕ) (key : KeyParts) → key.cluster ≡ cluster_of (length space.pivots) levels leaf.prefix → key.distance ≡ key_distance (distances space object)
    → is_in_span (distances space query) r levels leaf.prefix key ≡ true
answer_spans space query object r a leaf h empty levels key c d =
    let dq = distances space query in
    let dists = distances space object in
    let small = distance_small space query object r a in
    filter_spans dq dists r levels leaf.prefix key (same_lengths space query object) (answer_filters space query object r a) h.begun
    (λ none. ap (map (space.metric.d query)) (empty none))
    small
    (c ∙ ap (λ n. cluster_of n levels leaf.prefix) (sym (length-map space.pivots (λ p. space.metric.d query p)))) d

-- a key whose distance the hull has is among the hull's keys
pub hull_near : (dq : List ℕ) (levels : ℕ) (prefix : List ℕ) (hull : ℕ × ℕ) (parts : KeyParts) → parts.cluster ≡ cluster_of (length dq) levels prefix → parts.distance < 2 ^ 27
    → in_hull parts.distance (Some hull) ≡ true → is_near dq None levels prefix hull parts ≡ true
hull_near dq levels prefix hull parts c small i =
    let ends = and_parts (nat_le hull.0 parts.distance) (nat_le parts.distance hull.1) i in
    let low : cut hull.0 ≤ parts.distance = omega (arith, leb-true _ _ ends.0) in
    let high : parts.distance ≤ cut hull.1 = omega (arith, leb-true _ _ ends.1) in
    let same : nat_eq parts.cluster (cluster_of (length dq) levels prefix) ≡ true = grind (arith, nat_tests) in
    let least : nat_le (cut hull.0) parts.distance ≡ true = grind (arith, nat_tests) in
    let greatest : nat_le parts.distance (cut hull.1) ≡ true = grind (arith, nat_tests) in
    and_from _ _ same (and_from _ _ least greatest)

hull_cluster : (pivots levels : ℕ) (prefix : List ℕ) (hull : ℕ × ℕ) (parts : KeyParts) → is_in_hull pivots levels prefix hull parts ≡ true → parts.cluster ≡ cluster_of pivots levels prefix
hull_cluster pivots levels prefix hull parts h = eqb-true _ _ (and_parts _ _ h).0

-- what a query for the nearest reads of a leaf are keys of its cell
pub near_cluster : (dq : List ℕ) (worst : Option ℕ) (levels : ℕ) (prefix : List ℕ) (hull : ℕ × ℕ) (parts : KeyParts) → is_near dq worst levels prefix hull parts ≡ true
    → parts.cluster ≡ cluster_of (length dq) levels prefix
near_cluster dq None levels prefix hull parts h = hull_cluster (length dq) levels prefix hull parts h
near_cluster dq (Some worst) levels prefix hull parts h = hull_cluster (length dq) levels prefix hull parts (and_parts _ _ h).0

pub answer_near : (space : Space) (query object : List ℤ) (r : ℕ) → IsAnswer space query object r → (leaf : Leaf) → MayHold leaf (distances space object) → (leaf.prefix ≡ [] → space.pivots ≡ [])
    → (hull : ℕ × ℕ) → leaf.hull ≡ Some hull → (levels : ℕ) (key : KeyParts) → key.cluster ≡ cluster_of (length space.pivots) levels leaf.prefix → key.distance ≡ key_distance (distances space object)
    → is_near (distances space query) (Some r) levels leaf.prefix hull key ≡ true
answer_near space query object r a leaf h empty hull some levels key c d =
    let dq = distances space query in
    let pivots : length space.pivots ≡ length dq = sym (length-map space.pivots (λ p. space.metric.d query p)) in
    let covered : in_hull key.distance (Some hull) ≡ true = ap (λ n. in_hull n (Some hull)) d ∙ ap (in_hull (key_distance (distances space object))) (sym some) ∙ h.covered in
    let small : key.distance < 2 ^ 27 = omega (arith, distance_small space query object r a) in
    and_from _ _ (hull_near dq levels leaf.prefix hull key (c ∙ ap (λ n. cluster_of n levels leaf.prefix) pivots) small covered) (answer_spans space query object r a leaf h empty levels key c d)

-- at whatever distance of the last row that isn't below the radius, and without one
pub answer_near_all : (space : Space) (query object : List ℤ) (r : ℕ) → IsAnswer space query object r → (worst : Option ℕ) → IfSome worst (λ w. r ≤ w) → (leaf : Leaf) → MayHold leaf (distances space object) → (leaf.prefix ≡ [] → space.pivots ≡ [])
    → (hull : ℕ × ℕ) → leaf.hull ≡ Some hull → (levels : ℕ) (key : KeyParts) → key.cluster ≡ cluster_of (length space.pivots) levels leaf.prefix → key.distance ≡ key_distance (distances space object)
    → is_near (distances space query) worst levels leaf.prefix hull key ≡ true
answer_near_all space query object r a None le leaf h empty hull some levels key c d = (and_parts _ _ (answer_near space query object r a leaf h empty hull some levels key c d)).0
answer_near_all space query object r a (Some w) le leaf h empty hull some levels key c d =
    let farther : IsAnswer space query object w = record { metric = a.metric; pivots_fit = a.pivots_fit; query_fits = a.query_fits; object_fits = a.object_fits; near = omega (arith, a.near, le) } in
    answer_near space query object w farther leaf h empty hull some levels key c d

-- what the filter refuses is farther than the radius
pub refused_far : (m : MetricSpace) → IsMetric m → (query object : List ℤ) (dq dists : List ℕ) (r : ℕ) → IsTrue (m.fits query) → IsTrue (m.fits object) → AreMeasured m query dq object dists
    → lets_through r dq dists ≡ false → nat_le (m.d query object) r ≡ false
refused_far m is query object dq dists r fq fo me f =
    let through : m.d query object ≤ r → lets_through r dq dists ≡ true =
    λ near. ap (λ xs. lets_through r xs dists) me.of_query ∙ ap (lets_through r (map (m.d query) me.pivots)) me.of_object ∙ near_all m is query object fq fo r near me.pivots me.pivots_fit in
    let P : Bool → Type 0 = λ b. nat_le (m.d query object) r ≡ b → b ≡ false in
    let go : (b : Bool) → P b = elim [ true ↦ λ e. absurd (false≢true (sym f ∙ through (leb-true (m.d query object) r e))) | false ↦ λ e. refl ] in
    go (nat_le (m.d query object) r) refl

-- from its bound on a leaf passes
pub bound_passes : (dq : List ℕ) (leaf : Leaf) (bound : ℕ) → IsBound dq leaf (Some bound) → (r : ℕ) → passes dq r leaf ≡ nat_le bound r
bound_passes dq leaf bound b r =
    let Q : Bool → Type 0 = λ t. passes dq r leaf ≡ t → r < bound → t ≡ false in
    let below : (t : Bool) → Q t = elim [ true ↦ λ e lt. absurd (let le = b.1 r e in omega arith) | false ↦ λ e lt. refl ] in
    let P : Bool → Type 0 = λ t. nat_le bound r ≡ t → passes dq r leaf ≡ t in
    let go : (t : Bool) → P t = elim [ true ↦ λ e. passing_grows dq leaf bound r (leb-true bound r e) b.0 | false ↦ λ e. below (passes dq r leaf) refl (leb-false bound r e) ] in
    go (nat_le bound r) refl

-- no object of a leaf is nearer than its bound
pub answer_bound : (space : Space) (query object : List ℤ) (r : ℕ) → IsAnswer space query object r → (leaf : Leaf) → MayHold leaf (distances space object)
    → (bound : ℕ) → IsBound (distances space query) leaf (Some bound) → bound ≤ r
answer_bound space query object r a leaf h bound b = b.1 r (answer_passes space query object r a leaf h)

-- What a range query keeps of the leaves that pass is the scan.
use Rattle.std.proofs.Common.{◌≡◌, ℕ, suc, zero, ℤ, ◌+◌, ◌≤◌, List, [], ◌∷◌, ◌++◌, map, length, take, Bool, true, false, cond, IsTrue, Some, nat_le, refl, sym, ap, ◌∙◌, arith, append_assoc, append-nil, zero-add}
use Rattle.std.specs.Prelude.{count_by, slice_get}
use Rattle.std.specs.List.{AllByRecursion, filter, sum_by}
use Rattle.std.proofs.lemmas.List.{length-map, map-append}
use Rattle.std.proofs.lemmas.List.Sums.{count_by-le-length, length-filter, sum_by-append, sum_by-cons}
use Rattle.mi_base.specs.declared.records.LogEvent.{LogEvent}
use Rattle.mi_base.specs.declared.records.Row.{Row}
use Rattle.mi_base.specs.Configuration.{Configuration, IsWithinLimits, metric_space, space_of}
use Rattle.mi_base.specs.History.{Object, hits, live, range_scan, row_cmp, row_of, updates_of}
use Rattle.mi_base.specs.Permutations.{distances}
use Rattle.mi_base.specs.Sorting.{sorted}
use Rattle.mi_base.specs.Space.{IsMetric, MetricSpace}
use Rattle.mi_base.proofs.HistoryLemmas.{row_exact, row_total, sorted-hits}
use Rattle.mi_base.proofs.LiveLemmas.{few_live}
use Rattle.mi_base.proofs.SortingLemmas.{same_filter, same_length, sorted_of_same}
use Rattle.mi_key.specs.Entries.{Offering}
use Rattle.mi_key.specs.Keys.{parts_of}
use Rattle.mi_key.specs.declared.ranges.Interval.{Interval}
use Rattle.mi_key.specs.Ranges.{is_within}
use Rattle.mi_key.specs.Shown.{Shown, object_shown, offerings, within}
use Rattle.mi_range.specs.Opening.{HasScan, IsFresh, leaf_offered, leaves_offered}
use Rattle.mi_range.specs.Ranging.{RangeWorkState, TakesRange, compared_count}
use Rattle.mi_rules.specs.Passing.{candidates, lets_through, passes}
use Rattle.mi_rules.specs.Spans.{is_in_span}
use Rattle.mi_rules.specs.Standing.{ShowsLive, StandsInLeaf}
use Rattle.mi_rules.proofs.CandidateLemmas.{candidates_are}
use Rattle.mi_rules.proofs.RuleLemmas.{refused_far}
use Rattle.mi_rules.proofs.StandingLemmas.{Covered, all_covered, is_read, one_read}
use Rattle.mi_tree.specs.declared.outcomes.Leaf.{Leaf}
use Rattle.mi_tree.specs.Legal.{LegalLog, cells_of}
use Rattle.mi_tree.proofs.LegalLemmas.{all_may}
use Rattle.mi_tree.proofs.ListLemmas.{all_any, all_weaker, filter_same}
use Rattle.mi_tree.proofs.SumLemmas.{sum_both, sum_none, sum_passed, sum_same, weigh, weigh_one, weigh_zero}

-- what is offered of one leaf more
pub leaves_more : (dq : List ℕ) (radius levels : ℕ) (xs : List Shown) (ls : List Leaf) (i : ℕ) (l : Leaf) → slice_get ls i ≡ Some l
    → leaves_offered dq radius levels xs (take (i + 1) ls) ≡ leaves_offered dq radius levels xs (take i ls) ++ leaf_offered dq radius levels xs l
leaves_more dq radius levels xs [] i l at = cc
leaves_more dq radius levels xs (m ∷ ls) zero l at =
    let same : m ≡ l = cc in
    append-nil (leaf_offered dq radius levels xs m) ∙ ap (leaf_offered dq radius levels xs) same
leaves_more dq radius levels xs (m ∷ ls) (suc i) l at =
    let front = leaf_offered dq radius levels xs m in
    let next : suc i + 1 ≡ suc (i + 1) = omega arith in
    ap (λ n. leaves_offered dq radius levels xs (take n (m ∷ ls))) next ∙ ap (λ (os : List Offering). front ++ os) (leaves_more dq radius levels xs ls i l at)
    ∙ sym (append_assoc front (leaves_offered dq radius levels xs (take i ls)) (leaf_offered dq radius levels xs l))

-- a leaf that passes is offered what its span has, and another nothing
pub span_offered : (dq : List ℕ) (radius levels : ℕ) (xs : List Shown) (l : Leaf) (span : Interval) → passes dq radius l ≡ true → ((key : ℕ) → is_within span key ≡ is_in_span dq radius levels l.prefix (parts_of key))
    → offerings (within span xs) ≡ leaf_offered dq radius levels xs l
span_offered dq radius levels xs l span is has =
    let these : within span xs ≡ filter (λ (s : Shown). is_in_span dq radius levels l.prefix (parts_of s.key)) xs =
    filter_same (λ (s : Shown). is_within span s.key) (λ (s : Shown). is_in_span dq radius levels l.prefix (parts_of s.key)) xs
    (all_any (λ (s : Shown). is_within span s.key ≡ is_in_span dq radius levels l.prefix (parts_of s.key)) (λ s. has s.key) xs) in
    ap offerings these ∙ ap (λ (b : Bool). cond b (offerings (filter (λ (s : Shown). is_in_span dq radius levels l.prefix (parts_of s.key)) xs)) []) (sym is)

pub none_offered : (dq : List ℕ) (radius levels : ℕ) (xs : List Shown) (l : Leaf) → passes dq radius l ≡ false → leaf_offered dq radius levels xs l ≡ []
none_offered dq radius levels xs l is = ap (λ (b : Bool). cond b (offerings (filter (λ (s : Shown). is_in_span dq radius levels l.prefix (parts_of s.key)) xs)) []) is

-- the objects whose keys a leaf's span has, and those of the leaves that pass
abbrev leaf_read : List ℕ → ℕ → ℕ → List Shown → Leaf → List Shown
leaf_read dq radius levels xs l = filter (λ s. is_in_span dq radius levels l.prefix (parts_of s.key)) xs

abbrev leaves_read : List ℕ → ℕ → ℕ → List Shown → List Leaf → List Shown
leaves_read dq radius levels xs [] = []
leaves_read dq radius levels xs (l ∷ ls) = cond (passes dq radius l) (leaf_read dq radius levels xs l) [] ++ leaves_read dq radius levels xs ls

offered_where : (b : Bool) (xs : List Shown) → offerings (cond b xs []) ≡ cond b (offerings xs) []
offered_where true xs = refl
offered_where false xs = refl

read_offered : (dq : List ℕ) (radius levels : ℕ) (xs : List Shown) (ls : List Leaf) → offerings (leaves_read dq radius levels xs ls) ≡ leaves_offered dq radius levels xs ls
read_offered dq radius levels xs [] = refl
read_offered dq radius levels xs (l ∷ ls) =
    let first = cond (passes dq radius l) (leaf_read dq radius levels xs l) [] in
    let rest = leaves_read dq radius levels xs ls in
    map-append (λ (s : Shown). s.offering) first rest ∙ ap (λ (os : List Offering). os ++ offerings rest) (offered_where (passes dq radius l) (leaf_read dq radius levels xs l))
    ∙ ap (λ (os : List Offering). leaf_offered dq radius levels xs l ++ os) (read_offered dq radius levels xs ls)

-- a sum over them has each object as often as a leaf is read for it
read_sum : (dq : List ℕ) (radius levels : ℕ) (f : Shown → ℕ) (xs : List Shown) (ls : List Leaf)
    → sum_by f (leaves_read dq radius levels xs ls) ≡ sum_by (λ s. weigh (is_read dq radius levels s) (f s) ls) xs
read_sum dq radius levels f xs [] = sym (sum_none xs)
read_sum dq radius levels f xs (l ∷ ls) =
    let first = cond (passes dq radius l) (leaf_read dq radius levels xs l) [] in
    let here : Shown → ℕ = λ s. cond (is_read dq radius levels s l) (f s) 0 in
    let later : Shown → ℕ = λ s. weigh (is_read dq radius levels s) (f s) ls in
    sum_by-append f first (leaves_read dq radius levels xs ls)
    ∙ ap (λ n. n + sum_by f (leaves_read dq radius levels xs ls)) (sum_passed (passes dq radius l) (λ (s : Shown). is_in_span dq radius levels l.prefix (parts_of s.key)) f xs)
    ∙ ap (λ n. sum_by here xs + n) (read_sum dq radius levels f xs ls)
    ∙ sym (sum_both here later xs)

-- the objects of what is offered
abbrev objects : List Shown → List Object
objects xs = map (λ o. o.object) (offerings xs)

objects_are : (xs : List Shown) → objects xs ≡ map object_shown xs
objects_are [] = refl
objects_are (s ∷ xs) = ap (λ (os : List Object). s.offering.object ∷ os) (objects_are xs)

-- the sum over the rows of what is offered
hits_sum : (m : MetricSpace) (query : List ℤ) (radius : ℕ) (f : Row → ℕ) (xs : List Shown)
    → sum_by f (hits m query radius (objects xs)) ≡ sum_by (λ s. cond (nat_le (m.d query s.offering.object.vector) radius) (f (row_of m query s.offering.object)) 0) xs
hits_sum m query radius f [] = refl
hits_sum m query radius f (s ∷ xs) =
    let rows = hits m query radius (objects xs) in
    let row = row_of m query s.offering.object in
    let h : Shown → ℕ = λ x. cond (nat_le (m.d query x.offering.object.vector) radius) (f (row_of m query x.offering.object)) 0 in
    let P : Bool → Type 0 = λ b. sum_by f (cond b (row ∷ rows) rows) ≡ cond b (f row) 0 + sum_by h xs in
    (elim (nat_le (m.d query s.offering.object.vector) radius) as P [
      | true ↦ sum_by-cons f row rows ∙ ap (λ n. f row + n) (hits_sum m query radius f xs)
      | false ↦ hits_sum m query radius f xs ∙ sym (zero-add (sum_by h xs))
    ]) ∙ sym (sum_by-cons h s xs)

compared_sum : (dq : List ℕ) (radius : ℕ) (xs : List Shown) → compared_count dq radius (offerings xs) ≡ sum_by (λ s. cond (lets_through radius dq s.offering.dists) 1 0) xs
compared_sum dq radius [] = refl
compared_sum dq radius (s ∷ xs) =
    sum_by-cons (λ (o : Offering). cond (lets_through radius dq o.dists) 1 0) s.offering (offerings xs)
    ∙ ap (λ n. cond (lets_through radius dq s.offering.dists) 1 0 + n) (compared_sum dq radius xs)
    ∙ sym (sum_by-cons (λ (x : Shown). cond (lets_through radius dq x.offering.dists) 1 0) s xs)

counted-cons : {X : Type 0} (p : X → Bool) (x : X) (xs : List X) → count_by p (x ∷ xs) ≡ cond (p x) 1 0 + count_by p xs
counted-cons p x xs = sum_by-cons (λ y. cond (p y) 1 0) x xs

-- what is compared of objects in their leaves are those that the filter lets through
compared_objects : (c : Configuration) (log : List LogEvent) (dq : List ℕ) (radius : ℕ) (xs : List Shown) → AllByRecursion (StandsInLeaf c log) xs
    → compared_count dq radius (offerings xs) ≡ count_by (λ o. lets_through radius dq (distances (space_of c) o.vector)) (map object_shown xs)
compared_objects c log dq radius [] h = refl
compared_objects c log dq radius (s ∷ xs) h =
    let T : Object → Bool = λ o. lets_through radius dq (distances (space_of c) o.vector) in
    let F : Offering → Bool = λ o. lets_through radius dq o.dists in
    let same : F s.offering ≡ T s.offering.object = ap (lets_through radius dq) h.0.dists_are in
    counted-cons F s.offering (offerings xs) ∙ ap (λ b. cond b 1 0 + compared_count dq radius (offerings xs)) same ∙ ap (λ n. cond (T s.offering.object) 1 0 + n) (compared_objects c log dq radius xs h.1)
    ∙ sym (counted-cons T s.offering.object (map object_shown xs))

module _ (c : Configuration) (limits : IsWithinLimits c) (log : List LogEvent) (legal : LegalLog c log) (query : List ℤ) (radius : ℕ) (xs : List Shown) (shows : ShowsLive c log xs) where
  -- an object that the filter refuses weighs nothing
  abbrev RefusedIsNone : (Shown → ℕ) → Shown → Type 0
  RefusedIsNone f s = lets_through radius (distances (space_of c) query) s.offering.dists ≡ false → f s ≡ 0

  weighed : (f : Shown → ℕ) (s : Shown) → StandsInLeaf c log s → Covered c log s → RefusedIsNone f s
      → weigh (is_read (distances (space_of c) query) radius c.levels s) (f s) (cells_of c log) ≡ f s
  weighed f s is covered none =
      let dq = distances (space_of c) query in
      let T = is_read dq radius c.levels s in
      let W = weigh T (f s) (cells_of c log) in
      let P : Bool → Type 0 = λ b. lets_through radius dq s.offering.dists ≡ b → W ≡ f s in
      (elim (lets_through radius dq s.offering.dists) as P [
        | true ↦ λ t. weigh_one T (f s) _ (cells_of c log) (one_read c limits log legal query radius s is t covered)
        | false ↦ λ t. ap (λ (n : ℕ). weigh T n (cells_of c log)) (none t) ∙ weigh_zero T (cells_of c log) ∙ sym (none t)
      ]) refl

  all_weighed : (f : Shown → ℕ) (ys : List Shown) → AllByRecursion (StandsInLeaf c log) ys → AllByRecursion (Covered c log) ys → AllByRecursion (RefusedIsNone f) ys
      → AllByRecursion (λ s. weigh (is_read (distances (space_of c) query) radius c.levels s) (f s) (cells_of c log) ≡ f s) ys
  all_weighed f [] k v n = tt
  all_weighed f (s ∷ ys) k v n = (weighed f s k.0 v.0 n.0, all_weighed f ys k.1 v.1 n.1)

  -- a sum over what is read of the leaves that pass is the sum over all objects, where what the filter refuses weighs nothing
  same_sum : (f : Shown → ℕ) → AllByRecursion (RefusedIsNone f) xs → sum_by f (leaves_read (distances (space_of c) query) radius c.levels xs (cells_of c log)) ≡ sum_by f xs
  same_sum f none =
      let dq = distances (space_of c) query in
      read_sum dq radius c.levels f xs (cells_of c log)
      ∙ sum_same (λ (s : Shown). weigh (is_read dq radius c.levels s) (f s) (cells_of c log)) f xs (all_weighed f xs shows.stand (all_covered c log xs shows.same) none)

  -- as many are compared as of all objects, which are the candidates
  compared_candidates : compared_count (distances (space_of c) query) radius (leaves_offered (distances (space_of c) query) radius c.levels xs (cells_of c log)) ≡ length (candidates (space_of c) c.levels log query radius)
  compared_candidates =
      let dq = distances (space_of c) query in
      let f : Shown → ℕ = λ s. cond (lets_through radius dq s.offering.dists) 1 0 in
      let T : Object → Bool = λ o. lets_through radius dq (distances (space_of c) o.vector) in
      let read = leaves_read dq radius c.levels xs (cells_of c log) in
      ap (compared_count dq radius) (sym (read_offered dq radius c.levels xs (cells_of c log)))
      ∙ compared_sum dq radius read ∙ same_sum f (all_any (RefusedIsNone f) (λ s t. ap (λ (b : Bool). cond b 1 0) t) xs) ∙ sym (compared_sum dq radius xs)
      ∙ compared_objects c log dq radius xs shows.stand ∙ sym (length-filter T (map object_shown xs))
      ∙ same_length (filter T (map object_shown xs)) (filter T (live (updates_of log))) (same_filter T (map object_shown xs) (live (updates_of log)) shows.same)
      ∙ ap length (sym (candidates_are (space_of c) c.levels limits.few_pivots limits.levels log (all_may c log legal) query radius))

  few_candidates : length (candidates (space_of c) c.levels log query radius) ≤ length (updates_of log)
  few_candidates =
      let T : Object → Bool = λ o. lets_through radius (distances (space_of c) query) (distances (space_of c) o.vector) in
      omega (
        arith,
        ap length (candidates_are (space_of c) c.levels limits.few_pivots limits.levels log (all_may c log legal) query radius),
        length-filter T (live (updates_of log)),
        count_by-le-length T (live (updates_of log)),
        few_live (updates_of log),
      )

  far : IsMetric (metric_space c) → IsTrue ((metric_space c).fits query) → (s : Shown) → StandsInLeaf c log s → lets_through radius (distances (space_of c) query) s.offering.dists ≡ false
      → nat_le ((metric_space c).d query s.offering.object.vector) radius ≡ false
  far metric fits s is t =
      refused_far (metric_space c) metric query s.offering.object.vector (distances (space_of c) query) s.offering.dists radius fits is.fits
      (record { pivots = c.pivots; pivots_fit = limits.pivots; of_query = refl; of_object = is.dists_are }) t

  -- and the rows are those of all objects, which are the scan's
  rows_scanned : IsMetric (metric_space c) → IsTrue ((metric_space c).fits query)
      → sorted row_cmp (hits (metric_space c) query radius (map (λ o. o.object) (leaves_offered (distances (space_of c) query) radius c.levels xs (cells_of c log)))) ≡ range_scan (metric_space c) (updates_of log) query radius
  rows_scanned metric fits =
      let m = metric_space c in
      let dq = distances (space_of c) query in
      let read = leaves_read dq radius c.levels xs (cells_of c log) in
      let rows : List Object → List Row = hits m query radius in
      let weight : (Row → ℕ) → Shown → ℕ = λ f s. cond (nat_le (m.d query s.offering.object.vector) radius) (f (row_of m query s.offering.object)) 0 in
      let none : (f : Row → ℕ) → AllByRecursion (RefusedIsNone (weight f)) xs = λ f.
      all_weaker (StandsInLeaf c log) (RefusedIsNone (weight f)) (λ s is t. ap (λ (b : Bool). cond b (f (row_of m query s.offering.object)) 0) (far metric fits s is t)) xs shows.stand in
      ap (λ (os : List Offering). sorted row_cmp (rows (map (λ (o : Offering). o.object) os))) (sym (read_offered dq radius c.levels xs (cells_of c log)))
      ∙ sorted_of_same row_cmp row_total row_exact (rows (objects read)) (rows (objects xs))
      (record { sums = λ f. hits_sum m query radius f read ∙ same_sum (weight f) (none f) ∙ sym (hits_sum m query radius f xs) })
      ∙ ap (λ (os : List Object). sorted row_cmp (rows os)) (objects_are xs) ∙ sorted-hits m (updates_of log) query radius (map object_shown xs) shows.same

  -- the work that was offered what the leaves that pass have
  pub has_scan : IsMetric (metric_space c) → IsTrue ((metric_space c).fits query) → (first work : RangeWorkState) (steps new_steps : ℕ) → IsFresh (distances (space_of c) query) radius first
      → TakesRange (metric_space c) query first steps (leaves_offered (distances (space_of c) query) radius c.levels xs (cells_of c log)) work new_steps → HasScan c log query radius steps work new_steps
  has_scan metric fits first work steps new_steps fresh taken =
      let dq = distances (space_of c) query in
      let os = leaves_offered dq radius c.levels xs (cells_of c log) in
      let compared : compared_count first.dists first.radius os ≡ length (candidates (space_of c) c.levels log query radius) =
      ap (λ (ds : List ℕ). compared_count ds first.radius os) fresh.dists_are ∙ ap (λ (r : ℕ). compared_count dq r os) fresh.radius_is ∙ compared_candidates in
      let begun : first.distances ≡ length c.pivots = fresh.distances_are ∙ length-map c.pivots (λ (p : List ℤ). (metric_space c).d query p) in
      let counted = taken.distances_are (omega (arith, compared, few_candidates, begun, legal.few, limits.updates.1, limits.few_pivots)) in
      let rows : work.rows ≡ hits (metric_space c) query radius (map (λ (o : Offering). o.object) os) =
      taken.rows_are ∙ ap (λ (rs : List Row). rs ++ hits (metric_space c) query first.radius (map (λ (o : Offering). o.object) os)) fresh.rows_are
      ∙ ap (λ (r : ℕ). hits (metric_space c) query r (map (λ (o : Offering). o.object) os)) fresh.radius_is in
      record {
        rows_are = ap (sorted row_cmp) rows ∙ rows_scanned metric fits;
        distances_are = omega (arith, counted, compared, begun);
        ticks = omega (arith, taken.ticks, compared);
      }

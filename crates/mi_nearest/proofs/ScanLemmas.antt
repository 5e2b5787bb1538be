-- What a query for the nearest keeps of the leaves that it opens is the scan.
use Rattle.std.proofs.Common.{◌≡◌, ℕ, suc, zero, ℤ, ◌+◌, ◌<◌, ◌≤◌, List, [], ◌∷◌, ◌++◌, map, length, Bool, true, false, cond, IsTrue, nat_le, refl, sym, ap, ◌∙◌, subst, arith, length-append, zero-add, Option, Some, None}
use Rattle.std.specs.Prelude.{IfSome, is_some, slice_get}
use Rattle.std.specs.List.{AllByRecursion, filter, flat_map, sum_by}
use Rattle.std.proofs.lemmas.Bool.{false≢true, leb-false, leb-true, ltb-false, ltb-true}
use Rattle.std.proofs.lemmas.List.{length-map, nil_from_length}
use Rattle.std.proofs.lemmas.List.Sums.{sum_by-append, sum_by-cons}
use Rattle.mi_base.specs.declared.records.LogEvent.{LogEvent}
use Rattle.mi_base.specs.declared.records.Row.{Row}
use Rattle.mi_base.specs.Configuration.{Configuration, IsWithinLimits, metric_space, space_of}
use Rattle.mi_base.specs.History.{Object, live, row_of, updates_of}
use Rattle.mi_base.specs.Permutations.{begins, distances}
use Rattle.mi_base.specs.Prefixes.{all_below}
use Rattle.mi_base.specs.Sorting.{Ascends, SameElements}
use Rattle.mi_base.specs.Space.{IsMetric}
use Rattle.mi_base.proofs.SortingLemmas.{same_filter, same_length, same_map, same_trans}
use Rattle.mi_key.specs.declared.ranges.Interval.{Interval}
use Rattle.mi_key.specs.Clusters.{cluster_of}
use Rattle.mi_key.specs.Entries.{Offering}
use Rattle.mi_key.specs.Keys.{parts_of}
use Rattle.mi_key.specs.Ranges.{is_within}
use Rattle.mi_key.specs.Shown.{Shown, object_shown, offerings, within}
use Rattle.mi_key.proofs.ClusterLemmas.{cluster-exact}
use Rattle.mi_key.proofs.FitLemmas.{distance_fits}
use Rattle.mi_nearest.specs.declared.order.Rank.{Rank}
use Rattle.mi_nearest.specs.Order.{IsRank, IsRanked, leaves_at, rank_cmp}
use Rattle.mi_nearest.specs.Nearing.{NearestWorkState, TakesNearest, first_rows, stops_at, worst_of}
use Rattle.mi_nearest.specs.Walking.{HasNearest, OpensLeaf, StopsAt, KeepsFirst, rows_at, rows_in}
use Rattle.mi_nearest.proofs.FirstLemmas.{first_of_same}
use Rattle.mi_nearest.proofs.WalkLemmas.{NoNearer, all_later, below_next, far_out, same_flat, walk_ends, walked_more}
use Rattle.mi_rules.specs.Answers.{IsAnswer, MayHold}
use Rattle.mi_rules.specs.Passing.{IsBound, hull_passes, kth_distance}
use Rattle.mi_rules.specs.Spans.{is_near}
use Rattle.mi_rules.specs.Standing.{ShowsLive, StandsInLeaf}
use Rattle.mi_rules.proofs.RuleLemmas.{answer_bound, answer_near, hull_near, near_cluster}
use Rattle.mi_rules.proofs.StandingLemmas.{Covered, all_covered, home_empty, home_fits}
use Rattle.mi_tree.specs.declared.outcomes.Leaf.{Leaf}
use Rattle.mi_tree.specs.Cells.{depth, leaf_of, leaves}
use Rattle.mi_tree.specs.Counting.{belongs, population, in_hull, leaf_with}
use Rattle.mi_tree.specs.Legal.{LegalLog, cells_of}
use Rattle.mi_tree.specs.Placing.{grid_under}
use Rattle.mi_tree.proofs.CatLemmas.{held_live}
use Rattle.mi_tree.proofs.FitLemmas.{Fits}
use Rattle.mi_tree.proofs.LeafLemmas.{begins_take, one_leaf}
use Rattle.mi_tree.proofs.LegalLemmas.{all_may}
use Rattle.mi_tree.proofs.LimitLemmas.{cells_fit, is_grid, leaf_fits}
use Rattle.mi_tree.proofs.ListLemmas.{all_any, all_get, all_map, all_weaker, filter_map}
use Rattle.mi_tree.proofs.SumLemmas.{one_passes, sum_both, sum_none, sum_same, weigh, weigh_one}

-- the walk goes on at a bound that isn't greater than the last row's distance, and stops at one that is
pub goes_on : (worst : Option ℕ) (bound : ℕ) → stops_at worst bound ≡ false → IfSome worst (λ w. bound ≤ w)
goes_on None bound e = tt
goes_on (Some w) bound e = ltb-false w bound e

pub stops_here : (worst : Option ℕ) (bound : ℕ) → stops_at worst bound ≡ true → StopsAt worst bound
stops_here None bound e = absurd (false≢true e)
stops_here (Some w) bound e = ltb-true w bound e

-- leaves that were ranked by measured distances are ranked by the settings'
pub ranked_here : (c : Configuration) (log : List LogEvent) (query : List ℤ) (dq : List ℕ) (ls : List Leaf) (ranks items : List Rank) → dq ≡ distances (space_of c) query → ls ≡ cells_of c log → items ≡ ranks → IsRanked dq ls ranks
    → IsRanked (distances (space_of c) query) (cells_of c log) items
ranked_here c log query dq ls ranks items dq_is ls_are items_are ranked =
    let ds = distances (space_of c) query in
    subst (IsRanked ds (cells_of c log)) (sym items_are) (subst (λ (xs : List Leaf). IsRanked ds xs ranks) ls_are (subst (λ (xs : List ℕ). IsRanked xs ls ranks) dq_is ranked))

-- an object belongs to a leaf
abbrev pub owns : Configuration → Shown → Leaf → Bool
owns c s leaf = belongs (grid_under c) leaf.prefix s.offering.object

rows_sum : (c : Configuration) (query : List ℤ) (f : Row → ℕ) (leaf : Leaf) (xs : List Shown)
    → sum_by f (rows_in c query xs leaf) ≡ sum_by (λ s. cond (owns c s leaf) (f (row_of (metric_space c) query s.offering.object)) 0) xs
rows_sum c query f leaf [] = refl
rows_sum c query f leaf (s ∷ xs) =
    let row = row_of (metric_space c) query in
    let h : Shown → ℕ = λ x. cond (owns c x leaf) (f (row x.offering.object)) 0 in
    let T = belongs (grid_under c) leaf.prefix in
    let P : Bool → Type 0 = λ b. sum_by f (map row (cond b (s.offering.object ∷ filter T (map object_shown xs)) (filter T (map object_shown xs)))) ≡ cond b (f (row s.offering.object)) 0 + sum_by h xs in
    (elim (owns c s leaf) as P [
      | true ↦ sum_by-cons f (row s.offering.object) (rows_in c query xs leaf) ∙ ap (λ n. f (row s.offering.object) + n) (rows_sum c query f leaf xs)
      | false ↦ rows_sum c query f leaf xs ∙ sym (zero-add (sum_by h xs))
    ]) ∙ sym (sum_by-cons h s xs)

-- a sum over the rows of leaves has each object as often as it belongs to one
flat_rows_sum : (c : Configuration) (query : List ℤ) (f : Row → ℕ) (xs : List Shown) (ls : List Leaf)
    → sum_by f (flat_map (rows_in c query xs) ls) ≡ sum_by (λ s. weigh (owns c s) (f (row_of (metric_space c) query s.offering.object)) ls) xs
flat_rows_sum c query f xs [] = sym (sum_none xs)
flat_rows_sum c query f xs (l ∷ ls) =
    let row = row_of (metric_space c) query in
    let here : Shown → ℕ = λ s. cond (owns c s l) (f (row s.offering.object)) 0 in
    let later : Shown → ℕ = λ s. weigh (owns c s) (f (row s.offering.object)) ls in
    sum_by-append f (rows_in c query xs l) (flat_map (rows_in c query xs) ls)
    ∙ ap (λ n. n + sum_by f (flat_map (rows_in c query xs) ls)) (rows_sum c query f l xs)
    ∙ ap (λ n. sum_by here xs + n) (flat_rows_sum c query f xs ls)
    ∙ sym (sum_both here later xs)

mapped_sum : (c : Configuration) (query : List ℤ) (f : Row → ℕ) (xs : List Shown)
    → sum_by (λ s. f (row_of (metric_space c) query s.offering.object)) xs ≡ sum_by f (map (row_of (metric_space c) query) (map object_shown xs))
mapped_sum c query f [] = refl
mapped_sum c query f (s ∷ xs) =
    let row = row_of (metric_space c) query in
    sum_by-cons (λ (x : Shown). f (row x.offering.object)) s xs ∙ ap (λ n. f (row s.offering.object) + n) (mapped_sum c query f xs)
    ∙ sym (sum_by-cons f (row s.offering.object) (map row (map object_shown xs)))

-- two tests in either order
filter_swapped : {X : Type 0} (p q : X → Bool) (xs : List X) → filter p (filter q xs) ≡ filter q (filter p xs)
filter_swapped p q [] = refl
filter_swapped p q (x ∷ xs) =
    let F = filter_swapped p q xs in
    let P : Bool → Type 0 = λ a. p x ≡ a → filter p (filter q (x ∷ xs)) ≡ filter q (cond a (x ∷ filter p xs) (filter p xs)) in
    let Q : Bool → Bool → Type 0 = λ a b. q x ≡ b → p x ≡ a → filter p (cond b (x ∷ filter q xs) (filter q xs)) ≡ filter q (cond a (x ∷ filter p xs) (filter p xs)) in
    let inner : (a b : Bool) → Q a b = elim [
      | true ↦ elim [ true ↦ λ e d. rw (d, e) (ap (λ ys. x ∷ ys) F) | false ↦ λ e d. rw e F ]
      | false ↦ elim [ true ↦ λ e d. rw d F | false ↦ λ e d. F ]
    ] in
    (elim (p x) as P [ true ↦ λ d. inner true (q x) refl d | false ↦ λ d. inner false (q x) refl d ]) refl

-- what stands at a place of a mapped list
mapped_at : {X Y : Type 0} (f : X → Y) (xs : List X) (i : ℕ) (y : Y) → slice_get (map f xs) i ≡ Some y → (x : X) × ((slice_get xs i ≡ Some x) × (y ≡ f x))
mapped_at f [] i y at = cc
mapped_at f (x ∷ xs) zero y at = (x, (refl, (let same : f x ≡ y = cc in sym same)))
mapped_at f (x ∷ xs) (suc i) y at = mapped_at f xs i y at

module _ (c : Configuration) (limits : IsWithinLimits c) (log : List LogEvent) (legal : LegalLog c log) (query : List ℤ) (fits : IsTrue ((metric_space c).fits query)) (metric : IsMetric (metric_space c)) where
  answer_at : (s : Shown) → StandsInLeaf c log s → (radius : ℕ) → (metric_space c).d query s.offering.object.vector ≤ radius → IsAnswer (space_of c) query s.offering.object.vector radius
  answer_at s kept radius near = record { metric = metric; pivots_fit = limits.pivots; query_fits = fits; object_fits = kept.fits; near = near }

  may_hold : (s : Shown) → Covered c log s → (p : List ℕ) → belongs (grid_under c) p s.offering.object ≡ true → MayHold (leaf_with (grid_under c) (population (grid_under c) log) p) (distances (space_of c) s.offering.object.vector)
  may_hold s covered p b = record { begun = b; covered = covered p b }

  none_nearer_in : (p : List ℕ) (bound : ℕ) → IsBound (distances (space_of c) query) (leaf_with (grid_under c) (population (grid_under c) log) p) (Some bound) → (xs : List Shown) → AllByRecursion (StandsInLeaf c log) xs
      → AllByRecursion (Covered c log) xs → AllByRecursion (λ row. bound ≤ row.distance) (rows_in c query xs (leaf_with (grid_under c) (population (grid_under c) log) p))
  none_nearer_in p bound b [] kept covered = tt
  none_nearer_in p bound b (s ∷ xs) kept covered =
      let row = row_of (metric_space c) query in
      let T = belongs (grid_under c) p in
      let rest = none_nearer_in p bound b xs kept.1 covered.1 in
      let P : Bool → Type 0 = λ t. T s.offering.object ≡ t → AllByRecursion (λ (r : Row). bound ≤ r.distance) (map row (cond t (s.offering.object ∷ filter T (map object_shown xs)) (filter T (map object_shown xs)))) in
      (elim (T s.offering.object) as P [
        | true ↦ λ t. (
          answer_bound (space_of c) query s.offering.object.vector ((metric_space c).d query s.offering.object.vector) (answer_at s kept.0 ((metric_space c).d query s.offering.object.vector) (omega arith))
              (leaf_with (grid_under c) (population (grid_under c) log) p) (may_hold s covered.0 p t) bound b,
          rest,
        )
        | false ↦ λ t. rest
      ]) refl

  -- no object of a leaf is nearer than the leaf's bound
  pub none_nearer_cells : (xs : List Shown) → ShowsLive c log xs
      → AllByRecursion (NoNearer (distances (space_of c) query) (rows_in c query xs)) (cells_of c log)
  none_nearer_cells xs shows =
      let g = grid_under c in
      let N = NoNearer (distances (space_of c) query) (rows_in c query xs) in
      all_map (leaf_with g (population g log)) N (leaves g log)
      (all_any (λ (p : List ℕ). N (leaf_with g (population g log) p)) (λ p bound b. none_nearer_in p bound b xs shows.stand (all_covered c log xs shows.same)) (leaves g log))

  -- an object belongs to one leaf that has a hull
  one_owner : (s : Shown) → Covered c log s → filter (owns c s) (filter (λ l. is_some l.hull) (cells_of c log)) ≡ leaf_with (grid_under c) (population (grid_under c) log) (leaf_of (grid_under c) log ((grid_under c).perm s.offering.object.vector)) ∷ []
  one_owner s covered =
      let g = grid_under c in
      let ok = is_grid c limits log legal in
      let perm = g.perm s.offering.object.vector in
      let own = leaf_of g log perm in
      let leaf = leaf_with g (population g log) own in
      let one : filter (owns c s) (cells_of c log) ≡ leaf ∷ [] =
      sym (filter_map (leaf_with g (population g log)) (owns c s) (leaves g log)) ∙ ap (map (leaf_with g (population g log))) (one_leaf g perm (ok.perms s.offering.object.vector).0 (ok.perms s.offering.object.vector).1 ok log (all_may c log legal)) in
      let inside = covered own (begins_take (depth g log perm) perm) in
      let P : Option (ℕ × ℕ) → Type 0 = λ h. in_hull (g.distance s.offering.object.vector) h ≡ true → is_some h ≡ true in
      let go : (h : Option (ℕ × ℕ)) → P h = elim [ None ↦ λ i. absurd (false≢true i) | Some h ↦ λ i. refl ] in
      let some : is_some leaf.hull ≡ true = go leaf.hull inside in
      filter_swapped (owns c s) (λ (l : Leaf). is_some l.hull) (cells_of c log) ∙ ap (filter (λ (l : Leaf). is_some l.hull)) one ∙ ap (λ b. cond b (leaf ∷ []) []) some

  all_owned : (f : Row → ℕ) (xs : List Shown) → AllByRecursion (Covered c log) xs
      → AllByRecursion (λ s. weigh (owns c s) (f (row_of (metric_space c) query s.offering.object)) (filter (λ l. is_some l.hull) (cells_of c log)) ≡ f (row_of (metric_space c) query s.offering.object)) xs
  all_owned f [] covered = tt
  all_owned f (s ∷ xs) covered =
      (weigh_one (owns c s) (f (row_of (metric_space c) query s.offering.object)) _ (filter (λ (l : Leaf). is_some l.hull) (cells_of c log)) (one_owner s covered.0), all_owned f xs covered.1)

  -- the rows of the leaves are those of all live objects
  pub all_rows : (xs : List Shown) → SameElements (map object_shown xs) (live (updates_of log))
      → SameElements (flat_map (rows_in c query xs) (filter (λ l. is_some l.hull) (cells_of c log))) (map (row_of (metric_space c) query) (live (updates_of log)))
  all_rows xs same =
      let row = row_of (metric_space c) query in
      let cells = filter (λ (l : Leaf). is_some l.hull) (cells_of c log) in
      let once : SameElements (flat_map (rows_in c query xs) cells) (map row (map object_shown xs)) = record {
        sums = λ f.
            flat_rows_sum c query f xs cells
            ∙ sum_same (λ (s : Shown). weigh (owns c s) (f (row s.offering.object)) cells) (λ (s : Shown). f (row s.offering.object)) xs (all_owned f xs (all_covered c log xs same)) ∙ mapped_sum c query f xs;
      } in
      same_trans once (same_map row (map object_shown xs) (live (updates_of log)) same)

  -- a leaf counts the rows of its objects
  pub rows_counted : (xs : List Shown) → SameElements (map object_shown xs) (live (updates_of log)) → (p : List ℕ)
      → length (rows_in c query xs (leaf_with (grid_under c) (population (grid_under c) log) p)) ≡ (leaf_with (grid_under c) (population (grid_under c) log) p).count
  rows_counted xs same p =
      let g = grid_under c in
      let T = belongs g p in
      length-map (filter T (map object_shown xs)) (row_of (metric_space c) query) ∙ same_length (filter T (map object_shown xs)) (filter T (live (updates_of log))) (same_filter T (map object_shown xs) (live (updates_of log)) same)
      ∙ ap (λ (os : List Object). length (filter T os)) (sym (held_live g log))

  -- what is read of a leaf belongs to it
  read_belongs : (s : Shown) → StandsInLeaf c log s → (p : List ℕ) → Fits (length c.pivots) c.levels p → (worst : Option ℕ) (hull : ℕ × ℕ)
      → is_near (distances (space_of c) query) worst c.levels p hull (parts_of s.key) ≡ true → belongs (grid_under c) p s.offering.object ≡ true
  read_belongs s kept p fit worst hull near =
      let g = grid_under c in
      let n = length c.pivots in
      let dq = distances (space_of c) query in
      let perm = g.perm s.offering.object.vector in
      let mine = home_fits c limits log legal s.offering.object.vector in
      let long : length dq ≡ n = length-map c.pivots (λ (x : List ℤ). (metric_space c).d query x) in
      let numbers : cluster_of n c.levels (leaf_of g log perm) ≡ cluster_of n c.levels p =
      sym (kept.cluster_is) ∙ near_cluster dq worst c.levels p hull (parts_of s.key) near ∙ ap (λ (k : ℕ). cluster_of k c.levels p) long in
      subst (λ (x : List ℕ). begins x perm ≡ true) (cluster-exact n c.levels (leaf_of g log perm) p mine.0 fit.0 mine.1 fit.1 numbers) (begins_take (depth g log perm) perm)

  -- what is known of a cell's prefix: it fits the settings, and begins no permutations but those whose leaf it is
  pub record IsCell (p : List ℕ) : Type 0 where
    pub fit : Fits (length c.pivots) c.levels p
    pub only : (v : List ℤ) → begins p ((grid_under c).perm v) ≡ true → p ≡ leaf_of (grid_under c) log ((grid_under c).perm v)

  -- what isn't read of it is farther than the last row
  unread_far : (s : Shown) → StandsInLeaf c log s → Covered c log s → (p : List ℕ) → IsCell p → (hull : ℕ × ℕ) → (leaf_with (grid_under c) (population (grid_under c) log) p).hull ≡ Some hull → (worst : Option ℕ)
      → belongs (grid_under c) p s.offering.object ≡ true → is_near (distances (space_of c) query) worst c.levels p hull (parts_of s.key) ≡ false → StopsAt worst ((metric_space c).d query s.offering.object.vector)
  unread_far s kept covered p cell hull has worst b out =
      let g = grid_under c in
      let n = length c.pivots in
      let dq = distances (space_of c) query in
      let dists = distances (space_of c) s.offering.object.vector in
      let leaf = leaf_with g (population g log) p in
      let parts = parts_of s.key in
      let d = (metric_space c).d query s.offering.object.vector in
      let mine = cell.only s.offering.object.vector b in
      let long : length dq ≡ n = length-map c.pivots (λ (x : List ℤ). (metric_space c).d query x) in
      let cluster : parts.cluster ≡ cluster_of n c.levels p = kept.cluster_is ∙ ap (cluster_of n c.levels) (sym mine) in
      let empty : p ≡ [] → c.pivots ≡ [] = λ none. nil_from_length c.pivots (home_empty c limits log legal s.offering.object.vector (sym mine ∙ none)) in
      let inside : in_hull parts.distance (Some hull) ≡ true = ap (λ (x : ℕ). in_hull x (Some hull)) kept.distance_is ∙ ap (in_hull (g.distance s.offering.object.vector)) (sym has) ∙ covered p b in
      let P : Option ℕ → Type 0 = λ w. is_near dq w c.levels p hull parts ≡ false → StopsAt w d in
      let go : (w : Option ℕ) → P w = elim [
        | None ↦ λ o. absurd (false≢true (sym o ∙ hull_near dq c.levels p hull parts (cluster ∙ ap (λ (k : ℕ). cluster_of k c.levels p) (sym long)) (distance_fits s.key) inside))
        | Some w ↦ λ o.
            let Q : Bool → Type 0 = λ t. nat_le d w ≡ t → w < d in
            (elim (nat_le d w) as Q [
              | true ↦ λ t. absurd (false≢true (sym o ∙ answer_near (space_of c) query s.offering.object.vector w (answer_at s kept w (leb-true d w t)) leaf (may_hold s covered p b) empty hull has c.levels parts cluster kept.distance_is))
              | false ↦ λ t. leb-false d w t
            ]) refl
      ] in
      go worst out

  -- the rows of a leaf are those of what is read of it, and others that are farther than the last row
  pub record Parts (worst : Option ℕ) (rows read : List Row) : Type 0 where
    pub far : List Row
    pub same : SameElements rows (far ++ read)
    pub all_far : AllByRecursion (λ row. StopsAt worst row.distance) far

  read_parts : (p : List ℕ) → IsCell p → (hull : ℕ × ℕ) → (leaf_with (grid_under c) (population (grid_under c) log) p).hull ≡ Some hull → (worst : Option ℕ) (span : Interval)
      → ((key : ℕ) → is_within span key ≡ is_near (distances (space_of c) query) worst c.levels p hull (parts_of key))
      → (xs : List Shown) → AllByRecursion (StandsInLeaf c log) xs → AllByRecursion (Covered c log) xs
      → Parts worst (rows_in c query xs (leaf_with (grid_under c) (population (grid_under c) log) p)) (map (row_of (metric_space c) query) (map object_shown (within span xs)))
  read_parts p cell hull has worst span reads [] kept covered = record { far = []; same = record { sums = λ f. refl }; all_far = tt }
  read_parts p cell hull has worst span reads (s ∷ xs) kept covered =
      let row = row_of (metric_space c) query in
      let T = belongs (grid_under c) p in
      let o = s.offering.object in
      let F = filter T (map object_shown xs) in
      let sp = within span xs in
      let S = map row (map object_shown sp) in
      let ih = read_parts p cell hull has worst span reads xs kept.1 covered.1 in
      let Q : Bool → Bool → Type 0 = λ a b. T o ≡ a → is_within span s.key ≡ b → Parts worst (map row (cond a (o ∷ F) F)) (map row (map object_shown (cond b (s ∷ sp) sp))) in
      let go : (a b : Bool) → Q a b = elim [
        | true ↦ elim [
          | true ↦ λ t u. record {
            far = ih.far;
            same = record { sums = λ f. omega (arith, sum_by-cons f (row o) (map row F), ih.same.sums f, sum_by-append f ih.far (row o ∷ S), sum_by-cons f (row o) S, sum_by-append f ih.far S) };
            all_far = ih.all_far;
          }
          | false ↦ λ t u. record {
            far = row o ∷ ih.far;
            same = record { sums = λ f. omega (arith, sum_by-cons f (row o) (map row F), ih.same.sums f, sum_by-cons f (row o) (ih.far ++ S)) };
            all_far = (unread_far s kept.0 covered.0 p cell hull has worst t (sym (reads s.key) ∙ u), ih.all_far);
          }
        ]
        | false ↦ elim [
          | true ↦ λ t u. absurd (false≢true (sym t ∙ read_belongs s kept.0 p cell.fit worst hull (sym (reads s.key) ∙ u)))
          | false ↦ λ t u. ih
        ]
      ] in
      go (T o) (is_within span s.key) refl refl

  -- the rows of what is offered
  offered_rows : (xs : List Shown) → map (λ o. row_of (metric_space c) query o.object) (offerings xs) ≡ map (row_of (metric_space c) query) (map object_shown xs)
  offered_rows [] = refl
  offered_rows (s ∷ xs) = ap (λ (rows : List Row). row_of (metric_space c) query s.offering.object ∷ rows) (offered_rows xs)

  -- an opened leaf: the rows are the first ones of those before and of all the leaf's, and no more steps were taken than it has objects
  pub opened_leaf : (xs : List Shown) → ShowsLive c log xs
      → (p : List ℕ) → IsCell p → (hull : ℕ × ℕ) → (leaf_with (grid_under c) (population (grid_under c) log) p).hull ≡ Some hull → (span : Interval) (w v : NearestWorkState) (n k : ℕ)
      → ((key : ℕ) → is_within span key ≡ is_near (distances (space_of c) query) (worst_of w) c.levels p hull (parts_of key))
      → TakesNearest (metric_space c) query w n (offerings (within span xs)) v k → (before : List Row) → w.rows ≡ first_rows w.count before
      → (v.rows ≡ first_rows w.count (before ++ rows_in c query xs (leaf_with (grid_under c) (population (grid_under c) log) p))) × (k ≤ n + (leaf_with (grid_under c) (population (grid_under c) log) p).count)
  opened_leaf xs shows p cell hull has span w v n k reads takes before e =
      let g = grid_under c in
      let row = row_of (metric_space c) query in
      let leaf = leaf_with g (population g log) p in
      let rows = rows_in c query xs leaf in
      let sp = within span xs in
      let S = map row (map object_shown sp) in
      let parts = read_parts p cell hull has (worst_of w) span reads xs shows.stand (all_covered c log xs shows.same) in
      let offered : map (λ (o : Offering). row o.object) (offerings sp) ≡ S = offered_rows sp in
      let more : SameElements ((before ++ parts.far) ++ S) (before ++ rows) = record {
        sums = λ f.
            omega (arith, sum_by-append f (before ++ parts.far) S, sum_by-append f before parts.far, sum_by-append f before rows, parts.same.sums f, sum_by-append f parts.far S);
      } in
      let size = same_length rows (parts.far ++ S) parts.same in
      let many : length S ≡ length (offerings sp) = ap length (sym offered) ∙ length-map (offerings sp) (λ (o : Offering). row o.object) in (
        takes.rows_are (before ++ parts.far) (far_out w.count w.rows before parts.far e parts.all_far) ∙ ap (λ (xs : List Row). first_rows w.count ((before ++ parts.far) ++ xs)) offered
            ∙ first_of_same w.count ((before ++ parts.far) ++ S) (before ++ rows) more,
        omega (arith, takes.ticks, many, size, length-append parts.far S, rows_counted xs shows.same p),
      )

  -- the cell at a place
  pub cell_at : (i : ℕ) (leaf : Leaf) → slice_get (cells_of c log) i ≡ Some leaf → (p : List ℕ) × ((leaf ≡ leaf_with (grid_under c) (population (grid_under c) log) p) × IsCell p)
  cell_at i leaf at =
      let g = grid_under c in
      let ok = is_grid c limits log legal in
      let may = all_may c log legal in
      let F = Fits (length c.pivots) c.levels in
      let found = mapped_at (leaf_with g (population g log)) (leaves g log) i leaf at in (
        found.0,
        (
          found.1.1,
          record {
            fit = subst F (ap (λ (l : Leaf). l.prefix) found.1.1) (leaf_fits c limits log legal (cells_of c log) refl i leaf at);
            only = λ v.
                let perm = g.perm v in
                let own = leaf_of g log perm in
                let O : List ℕ → Type 0 = λ q. begins q perm ≡ true → q ≡ own in
                all_get O (leaves g log) i found.0 (one_passes (λ (q : List ℕ). begins q perm) own (leaves g log) (one_leaf g perm (ok.perms v).0 (ok.perms v).1 ok log may)) found.1.0;
          },
        ),
      )

  -- a walk that has ended has the answer, and took no more steps than the leaves that had to be opened have objects
  pub has_nearest : (xs : List Shown) → ShowsLive c log xs → (count : ℕ) (ranks done rest : List Rank) (rows : List Row)
      → IsRanked (distances (space_of c) query) (cells_of c log) ranks → ranks ≡ done ++ rest → KeepsFirst count (cells_of c log) (rows_in c query xs) done rows
      → AllByRecursion (λ r. StopsAt (kth_distance count rows) r.bound) rest
      → (opened steps : ℕ) → opened ≡ sum_by (λ (l : Leaf). 1) (leaves_at (cells_of c log) done) → steps ≤ sum_by (λ (l : Leaf). l.count) (leaves_at (cells_of c log) done)
      → HasNearest c log query count rows opened steps
  has_nearest xs shows count ranks done rest rows ranked parts walked stops opened steps opened_is few =
      let cells = cells_of c log in
      let dq = distances (space_of c) query in
      let all = map (row_of (metric_space c) query) (live (updates_of log)) in
      let ended = walk_ends dq count cells (rows_in c query xs) ranks done rest rows ranked parts (none_nearer_cells xs shows) stops walked in
      record {
        rows_are =
            ended.rows_are ∙ first_of_same count (flat_map (rows_in c query xs) (leaves_at cells ranks)) all
            (same_trans (same_flat (rows_in c query xs) (leaves_at cells ranks) (filter (λ (l : Leaf). is_some l.hull) cells) ranked.all) (all_rows xs shows.same));
        cells_are = opened_is ∙ sym (ended.sums (λ (l : Leaf). 1));
        few = omega (arith, few, ended.sums (λ (l : Leaf). l.count));
      }

  -- the prefixes of all cells are of pivots that there are
  pub cells_below : (n : ℕ) → n ≡ length c.pivots → (ls : List Leaf) → ls ≡ cells_of c log → AllByRecursion (λ leaf. IsTrue (all_below n leaf.prefix)) ls
  cells_below n n_is ls ls_are =
      let B : Leaf → Type 0 = λ leaf. IsTrue (all_below n leaf.prefix) in
      let F : Leaf → Type 0 = λ leaf. Fits (length c.pivots) c.levels leaf.prefix in
      subst (AllByRecursion B) (sym ls_are) (all_weaker F B (λ leaf f. subst (λ (k : ℕ). IsTrue (all_below k leaf.prefix)) (sym n_is) f.1) (cells_of c log) (cells_fit c limits log legal))

  -- one leaf more was opened
  pub walk_step : (xs : List Shown) → ShowsLive c log xs → (count : ℕ) → 1 ≤ count → (ranks done rest : List Rank) (r : Rank)
      → IsRanked (distances (space_of c) query) (cells_of c log) ranks → ranks ≡ done ++ r ∷ rest → (leaf : Leaf) → slice_get (cells_of c log) r.place ≡ Some leaf → (w v : NearestWorkState) (n k : ℕ) (span : Interval) → w.count ≡ count
      → KeepsFirst count (cells_of c log) (rows_in c query xs) done w.rows → IfSome (kth_distance count w.rows) (λ worst. r.bound ≤ worst)
      → IfSome leaf.hull (λ hull. (key : ℕ) → is_within span key ≡ is_near (distances (space_of c) query) (kth_distance count w.rows) c.levels leaf.prefix hull (parts_of key))
      → TakesNearest (metric_space c) query w n (offerings (within span xs)) v k → OpensLeaf count (cells_of c log) (rows_in c query xs) (done ++ r ∷ []) leaf v.rows n k
  walk_step xs shows count one ranks done rest r ranked parts leaf at w v n k span count_is walked next read takes =
      let g = grid_under c in
      let cells = cells_of c log in
      let dq = distances (space_of c) query in
      let apart = none_nearer_cells xs shows in
      let is : IsRank dq cells r = (all_later (IsRank dq cells) done (r ∷ rest) (subst (AllByRecursion (IsRank dq cells)) parts ranked.are)).0 in
      let found = cell_at r.place leaf at in
      let p = found.0 in
      let mine : is.leaf ≡ leaf = (let both = sym is.stands ∙ at in cc) in
      let low = below_next done r rest (subst (Ascends rank_cmp) parts ranked.ascend) in
      let before = rows_at cells (rows_in c query xs) done in
      let first : w.rows ≡ first_rows w.count before = walked.rows_are ∙ ap (λ (x : ℕ). first_rows x before) (sym count_is) in
      let R : Option (ℕ × ℕ) → Type 0 = λ o. leaf.hull ≡ o
      → IfSome o (λ hull. (key : ℕ) → is_within span key ≡ is_near dq (kth_distance count w.rows) c.levels leaf.prefix hull (parts_of key)) → OpensLeaf count (cells_of c log) (rows_in c query xs) (done ++ r ∷ []) leaf v.rows n k in
      let passed : hull_passes dq r.bound is.leaf.prefix is.leaf.hull ≡ true = is.bound_is.0 in
      let go : (o : Option (ℕ × ℕ)) → R o = elim [
        | None ↦ λ e reads. absurd (false≢true (ap (hull_passes dq r.bound is.leaf.prefix) (sym e ∙ ap (λ (l : Leaf). l.hull) (sym mine)) ∙ passed))
        | Some hull ↦ λ e reads.
            let has : (leaf_with g (population g log) p).hull ≡ Some hull = ap (λ (l : Leaf). l.hull) (sym found.1.0) ∙ e in
            let same_prefix : leaf.prefix ≡ p = ap (λ (l : Leaf). l.prefix) found.1.0 in
            let here : (key : ℕ) → is_within span key ≡ is_near dq (worst_of w) c.levels p hull (parts_of key) = λ key.
            reads key ∙ ap (λ (x : List ℕ). is_near dq (kth_distance count w.rows) c.levels x hull (parts_of key)) same_prefix
            ∙ ap (λ (x : ℕ). is_near dq (kth_distance x w.rows) c.levels p hull (parts_of key)) (sym count_is) in
            let opened = opened_leaf xs shows p found.1.1 hull has span w v n k here takes before first in
            let rows : v.rows ≡ first_rows count (before ++ rows_in c query xs is.leaf) =
            opened.0 ∙ ap (λ (x : ℕ). first_rows x (before ++ rows_in c query xs (leaf_with g (population g log) p))) count_is
            ∙ ap (λ (l : Leaf). first_rows count (before ++ rows_in c query xs l)) (sym found.1.0 ∙ sym mine) in
            record {
              walked = walked_more dq count cells (rows_in c query xs) done w.rows v.rows r is one (all_get (NoNearer dq (rows_in c query xs)) cells r.place is.leaf apart is.stands) low next walked rows;
              few = omega (arith, opened.1, ap (λ (l : Leaf). l.count) found.1.0);
            }
      ] in
      go leaf.hull refl read

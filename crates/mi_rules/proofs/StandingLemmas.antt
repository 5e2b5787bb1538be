-- Each object that the filter lets through is in the span of one leaf that passes.
use Rattle.std.proofs.Common.{◌≡◌, ℕ, suc, zero, ℤ, ◌+◌, ◌<◌, ◌≤◌, ◌^◌, List, [], ◌∷◌, map, length, take, Bool, true, false, cond, ◌&&◌, nat_eq, refl, sym, ap, ◌∙◌, subst, arith, min}
use Rattle.std.specs.List.{AllByRecursion, filter, fold}
use Rattle.std.proofs.Math.ListN.{length-take}
use Rattle.std.proofs.lemmas.Bool.{and_from, and_parts, eqb-true, false≢true, false_from_ne_true}
use Rattle.std.proofs.lemmas.List.{length-map, nil_from_length}
use Rattle.std.proofs.lemmas.List.Elements.{recursion_from_All}
use Rattle.mi_base.specs.declared.records.LogEvent.{LogEvent}
use Rattle.mi_base.specs.declared.records.LogEvent.TheVariants.{Update as Made, Split}
use Rattle.mi_base.specs.Configuration.{Configuration, IsDepth, IsWithinLimits, metric_space, space_of}
use Rattle.mi_base.specs.History.{Object, live, updates_of}
use Rattle.mi_base.specs.Permutations.{begins, distances, key_distance}
use Rattle.mi_base.specs.Sorting.{SameElements}
use Rattle.mi_base.proofs.HistoryLemmas.{same_all}
use Rattle.mi_base.proofs.SortingLemmas.{filter_keeps, same_filter}
use Rattle.mi_key.specs.declared.keys.KeyParts.{KeyParts}
use Rattle.mi_key.specs.Clusters.{cluster_of}
use Rattle.mi_key.specs.Keys.{FitKey, parts_of}
use Rattle.mi_key.proofs.ClusterLemmas.{cluster-exact, cluster-small}
use Rattle.mi_key.specs.Shown.{Shown, object_shown}
use Rattle.mi_key.proofs.FitLemmas.{distance_fits}
use Rattle.mi_key.proofs.KeyLemmas.{parts_of-key_of}
use Rattle.mi_rules.specs.Spans.{is_in_span}
use Rattle.mi_rules.specs.Standing.{StandsInLeaf}
use Rattle.mi_rules.proofs.BelowLemmas.{all_below-permutation}
use Rattle.mi_rules.proofs.RuleLemmas.{filter_passes, filter_spans}
use Rattle.mi_tree.proofs.CatalogLemmas.{depth_is}
use Rattle.mi_tree.proofs.GridLemmas.{space_is_grid}
use Rattle.mi_tree.specs.declared.outcomes.Leaf.{Leaf}
use Rattle.mi_tree.specs.Cells.{depth, depth_after, leaf_of, leaves}
use Rattle.mi_tree.specs.Counting.{belongs, population, in_hull, leaf_with}
use Rattle.mi_tree.specs.Legal.{LegalLog, cells_of}
use Rattle.mi_tree.specs.Placing.{grid_under}
use Rattle.mi_rules.specs.Passing.{lets_through, passes}
use Rattle.mi_tree.proofs.CoverLemmas.{live_covered}
use Rattle.mi_tree.proofs.FitLemmas.{Fits, leaves_fit}
use Rattle.mi_tree.proofs.LeafLemmas.{begins_take, one_leaf}
use Rattle.mi_tree.proofs.LegalLemmas.{all_may}
use Rattle.mi_tree.proofs.LimitLemmas.{is_grid}
use Rattle.mi_tree.proofs.ListLemmas.{all_weaker, filter_map, filter_same}
use Rattle.mi_tree.proofs.SumLemmas.{all_for, all_passed, all_two, one_passes}

-- the leaf passes, and its span has the object's key
abbrev pub is_read : List ℕ → ℕ → ℕ → Shown → Leaf → Bool
is_read dq radius levels s l = passes dq radius l && is_in_span dq radius levels l.prefix (parts_of s.key)

-- a split takes no permutation less deep
depth_grows : (perm : List ℕ) (d : ℕ) (log : List LogEvent) → d ≤ fold (depth_after perm) d log
depth_grows perm d [] = omega arith
depth_grows perm d (Made session op u ∷ log) = depth_grows perm d log
depth_grows perm d (Split p ∷ log) =
    let P : Bool → Type 0 = λ b. d ≤ fold (depth_after perm) (cond b (d + 1) d) log in
    elim (nat_eq (length p) d && begins p perm) as P [ true ↦ (let more = depth_grows perm (d + 1) log in omega arith) | false ↦ depth_grows perm d log ]

same_from : (a b : Bool) → (b ≡ true → a ≡ true) → (b ≡ false → a ≡ false) → a ≡ b
same_from a true h k = h refl
same_from a false h k = k refl

-- each leaf that the object belongs to has its distance in its hull
abbrev pub Covered : Configuration → List LogEvent → Shown → Type 0
Covered c log s = (p : List ℕ) → belongs (grid_under c) p (s.offering.object) ≡ true → in_hull ((grid_under c).distance s.offering.object.vector) (leaf_with (grid_under c) (population (grid_under c) log) p).hull ≡ true

-- so it is of the objects that are the live ones
pub all_covered : (c : Configuration) (log : List LogEvent) (xs : List Shown) → SameElements (map object_shown xs) (live (updates_of log)) → AllByRecursion (Covered c log) xs
all_covered c log xs same =
    let g = grid_under c in
    all_for (λ (p : List ℕ) (s : Shown). belongs g p (s.offering.object) ≡ true → in_hull (g.distance s.offering.object.vector) (leaf_with g (population g log) p).hull ≡ true) xs
    (λ p.
    let u : Object → Bool = λ o. in_hull (g.distance o.vector) (leaf_with g (population g log) p).hull in
    all_passed object_shown u (belongs g p) xs
    (same_all u (filter (belongs g p) (map object_shown xs)) (filter (belongs g p) (live (updates_of log))) (same_filter (belongs g p) (map object_shown xs) (live (updates_of log)) same) ∙ live_covered g log p))

module _ (c : Configuration) (limits : IsWithinLimits c) (log : List LogEvent) (legal : LegalLog c log) where
  -- the leaf that a vector belongs to
  abbrev pub home : List ℤ → List ℕ
  home v = leaf_of (grid_under c) log ((grid_under c).perm v)

  one : (v : List ℤ) → filter (λ p. begins p ((grid_under c).perm v)) (leaves (grid_under c) log) ≡ home v ∷ []
  one v =
      let g = grid_under c in
      let ok = is_grid c limits log legal in
      one_leaf g (g.perm v) (ok.perms v).0 (ok.perms v).1 ok log (all_may c log legal)

  all_fit : AllByRecursion (Fits (length c.pivots) c.levels) (leaves (grid_under c) log)
  all_fit = recursion_from_All (Fits (length c.pivots) c.levels) (leaves (grid_under c) log) (leaves_fit (grid_under c) (is_grid c limits log legal) log (all_may c log legal))

  pub home_fits : (v : List ℤ) → Fits (length c.pivots) c.levels (home v)
  home_fits v =
      let F = Fits (length c.pivots) c.levels in
      (subst (AllByRecursion F) (one v) (filter_keeps F (λ p. begins p ((grid_under c).perm v)) (leaves (grid_under c) log) all_fit)).0

  -- without a pivot in its prefix there are none
  pub home_empty : (v : List ℤ) → home v ≡ [] → length c.pivots ≡ 0
  home_empty v none =
      let g = grid_under c in
      let perm = g.perm v in
      let long : length perm ≡ length c.pivots = (((is_grid c limits log legal).perms v).1) in
      let size : length (take (depth g log perm) perm) ≡ min (depth g log perm) (length perm) = length-take {A = ℕ} (depth g log perm) perm in
      let deep : min 1 (length c.pivots) ≤ depth g log perm = depth_grows perm (min 1 (length c.pivots)) log in
      let zero : length (take (depth g log perm) perm) ≡ 0 = ap length none in
      omega (arith, long, size, deep, zero)

  module _ (query : List ℤ) (radius : ℕ) (s : Shown) (stands : StandsInLeaf c log s)
      (through : lets_through radius (distances (space_of c) query) s.offering.dists ≡ true) (covered : Covered c log s) where
    abbrev v : List ℤ
    v = s.offering.object.vector

    -- a leaf is read for the object where it is the object's
    read_where : (p : List ℕ) → Fits (length c.pivots) c.levels p → (begins p ((grid_under c).perm v) ≡ true → p ≡ home v)
        → is_read (distances (space_of c) query) radius c.levels s (leaf_with (grid_under c) (population (grid_under c) log) p) ≡ begins p ((grid_under c).perm v)
    read_where p fits only =
        let g = grid_under c in
        let dq = distances (space_of c) query in
        let dists = distances (space_of c) v in
        let perm = g.perm v in
        let leaf = leaf_with g (population g log) p in
        let parts = parts_of s.key in
        let n = length c.pivots in
        let long : length dq ≡ n = length-map c.pivots (λ (x : List ℤ). (metric_space c).d query x) in
        let same : length dq ≡ length dists = long ∙ sym (length-map c.pivots (λ (x : List ℤ). (metric_space c).d v x)) in
        let let_in : lets_through radius dq dists ≡ true = ap (lets_through radius dq) (sym stands.dists_are) ∙ through in
        let small : key_distance dists < 2 ^ 27 = subst (λ (x : ℕ). x < 2 ^ 27) stands.distance_is (distance_fits s.key) in
        let yes : begins p perm ≡ true → is_read dq radius c.levels s leaf ≡ true = λ b.
        let mine : p ≡ home v = only b in
        let cluster : parts.cluster ≡ cluster_of (length dq) c.levels p = stands.cluster_is ∙ ap (cluster_of n c.levels) (sym mine) ∙ ap (λ (k : ℕ). cluster_of k c.levels p) (sym long) in
        let empty : p ≡ [] → dq ≡ [] = λ none. nil_from_length dq (long ∙ home_empty v (sym mine ∙ none)) in
        and_from (passes dq radius leaf) (is_in_span dq radius c.levels p parts) (filter_passes dq dists radius leaf same let_in b (covered p b))
        (filter_spans dq dists radius c.levels p parts same let_in b empty small cluster stands.distance_is) in
        let no : begins p perm ≡ false → is_read dq radius c.levels s leaf ≡ false = λ b.
        false_from_ne_true (is_read dq radius c.levels s leaf) (λ t.
        let spans = (and_parts (passes dq radius leaf) (is_in_span dq radius c.levels p parts) t).1 in
        let equal : parts.cluster ≡ cluster_of (length dq) c.levels p = eqb-true parts.cluster (cluster_of (length dq) c.levels p) (and_parts (nat_eq parts.cluster (cluster_of (length dq) c.levels p)) _ spans).0 in
        let numbers : cluster_of n c.levels (home v) ≡ cluster_of n c.levels p = sym stands.cluster_is ∙ equal ∙ ap (λ (k : ℕ). cluster_of k c.levels p) long in
        let mine : home v ≡ p = cluster-exact n c.levels (home v) p (home_fits v).0 fits.0 (home_fits v).1 fits.1 numbers in
        false≢true (sym b ∙ subst (λ (x : List ℕ). begins x perm ≡ true) mine (begins_take (depth g log perm) perm))) in
        same_from (is_read dq radius c.levels s leaf) (begins p perm) yes no

    -- one leaf is read for it
    pub one_read : filter (is_read (distances (space_of c) query) radius c.levels s) (cells_of c log) ≡ leaf_with (grid_under c) (population (grid_under c) log) (home v) ∷ []
    one_read =
        let g = grid_under c in
        let t : List ℕ → Bool = λ p. begins p (g.perm v) in
        let T = is_read (distances (space_of c) query) radius c.levels s in
        let F = Fits (length c.pivots) c.levels in
        let facts = all_two F (λ (p : List ℕ). t p ≡ true → p ≡ home v) (leaves g log) all_fit (one_passes t (home v) (leaves g log) (one v)) in
        let tests : AllByRecursion (λ (p : List ℕ). T (leaf_with g (population g log) p) ≡ t p) (leaves g log) =
        all_weaker (λ (p : List ℕ). F p × (t p ≡ true → p ≡ home v)) (λ (p : List ℕ). T (leaf_with g (population g log) p) ≡ t p) (λ p h. read_where p h.0 h.1) (leaves g log) facts in
        sym (filter_map (leaf_with g (population g log)) T (leaves g log))
        ∙ ap (map (leaf_with g (population g log))) (filter_same (λ (p : List ℕ). T (leaf_with g (population g log) p)) t (leaves g log) tests ∙ one v)

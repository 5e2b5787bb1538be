-- A legal log shows its live objects, each in its leaf.
use Rattle.std.proofs.Common.{◌≡◌, ℕ, ℤ, ◌+◌, ◌<◌, ◌≤◌, ◌^◌, List, [], ◌∷◌, ◌++◌, map, length, not, IsTrue, refl, sym, ap, ◌∙◌, subst, arith}
use Rattle.std.specs.Prelude.{◌==◌}
use Rattle.std.specs.List.{AllByRecursion}
use Rattle.mi_base.specs.declared.records.LogEvent.{LogEvent}
use Rattle.mi_base.specs.declared.records.LogEvent.TheVariants.{Update as Made, Split}
use Rattle.mi_base.specs.declared.records.Update.{Update}
use Rattle.mi_base.specs.declared.records.Update.TheVariants.{Insert, Delete}
use Rattle.mi_base.specs.Configuration.{Configuration, IsWithinLimits, metric_space, space_of}
use Rattle.mi_base.specs.History.{Object, live, updates_of}
use Rattle.mi_base.specs.Sorting.{SameElements, sorted}
use Rattle.mi_base.specs.Space.{IsMetric}
use Rattle.mi_base.proofs.SortingLemmas.{filter_keeps, same_map, same_sorted}
use Rattle.mi_key.specs.declared.keys.KeyParts.{KeyParts}
use Rattle.mi_key.specs.Shown.{Shown, object_shown, shown_cmp}
use Rattle.mi_rules.specs.Standing.{ShowsLive, StandsInLeaf}
use Rattle.mi_world.specs.LeafKeys.{leaf_key, leaf_parts, shown, shown_as}
use Rattle.mi_rules.proofs.RuleLemmas.{distance_small}
use Rattle.mi_tree.specs.Births.{Born, born, born_after, born_from, object_born}
use Rattle.mi_tree.specs.Legal.{EachMayFollow, LegalLog}
use Rattle.mi_tree.specs.Placing.{grid_under}
use Rattle.mi_tree.proofs.BirthLemmas.{born_live}
use Rattle.mi_tree.proofs.ListLemmas.{all_map, all_put, all_weaker, map_twice}
use Rattle.mi_tree.proofs.SumLemmas.{all_two}
use Rattle.mi_key.specs.Keys.{FitKey, parts_of}
use Rattle.mi_key.proofs.ClusterLemmas.{cluster-small}
use Rattle.mi_key.proofs.KeyLemmas.{parts_of-key_of}
use Rattle.mi_rules.proofs.BelowLemmas.{all_below-permutation}
use Rattle.mi_tree.proofs.CatalogLemmas.{depth_is}
use Rattle.mi_tree.proofs.GridLemmas.{space_is_grid}
use Rattle.mi_tree.specs.Cells.{depth, leaf_of}

-- what the key of an object is made of in its leaf
pub leaf_key_parts : (c : Configuration) → IsWithinLimits c → (log : List LogEvent) (id : ℕ) (v : List ℤ) (birth : ℕ) → id < 2 ^ 40 → (grid_under c).distance v < 2 ^ 27 → birth ≤ c.updates
    → parts_of (leaf_key c log id v birth) ≡ leaf_parts c log id v birth
leaf_key_parts c limits log id v birth low near born =
    let g = grid_under c in
    let perms = (space_is_grid (space_of c) c.levels limits.few_pivots limits.levels).perms v in
    let below = all_below-permutation (length c.pivots) (depth g log (g.perm v)) (g.perm v) perms.1 perms.0 in
    parts_of-key_of (leaf_parts c log id v birth) (record {
      fit_cluster = omega (arith, cluster-small (length c.pivots) c.levels (leaf_of g log (g.perm v)) limits.few_pivots (depth_is (length c.pivots) c.levels limits.levels).0 below);
      fit_distance = near;
      fit_id = low;
      fit_birth = omega (arith, born, limits.updates.1);
    })

-- a live object was born by an update
aged : (n : ℕ) (bs : List Born) (us : List Update) → AllByRecursion (λ b. b.birth ≤ n) bs → AllByRecursion (λ b. b.birth ≤ n + length us) (born_from n bs us)
aged n bs [] h = let same : n ≡ n + 0 = omega arith in subst (λ (m : ℕ). AllByRecursion (λ (b : Born). b.birth ≤ m) bs) same h
aged n bs (Insert id v ∷ us) h =
    let older : AllByRecursion (λ (b : Born). b.birth ≤ n + 1) bs = all_weaker (λ (b : Born). b.birth ≤ n) (λ (b : Born). b.birth ≤ n + 1) (λ b le. omega (arith, le)) bs h in
    let next : n + 1 + length us ≡ n + length (Insert id v ∷ us) = omega arith in
    subst (λ (m : ℕ). AllByRecursion (λ (b : Born). b.birth ≤ m) (born_from n bs (Insert id v ∷ us))) next (aged (n + 1) (born_after (n + 1) bs (Insert id v)) us (omega arith, older))
aged n bs (Delete id ∷ us) h =
    let older : AllByRecursion (λ (b : Born). b.birth ≤ n + 1) bs = all_weaker (λ (b : Born). b.birth ≤ n) (λ (b : Born). b.birth ≤ n + 1) (λ b le. omega (arith, le)) bs h in
    let next : n + 1 + length us ≡ n + length (Delete id ∷ us) = omega arith in
    subst (λ (m : ℕ). AllByRecursion (λ (b : Born). b.birth ≤ m) (born_from n bs (Delete id ∷ us))) next
    (aged (n + 1) (born_after (n + 1) bs (Delete id)) us (filter_keeps (λ (b : Born). b.birth ≤ n + 1) (λ (b : Born). not (b.id == id)) bs older))

-- its vector is one that the metric is for, and its identifier has at most 40 bits
abbrev Allowed : Configuration → Born → Type 0
Allowed c b = IsTrue ((metric_space c).fits b.vector) × (b.id < 2 ^ 40)

allowed : (c : Configuration) (earlier events : List LogEvent) (n : ℕ) (bs : List Born) → EachMayFollow c earlier events → AllByRecursion (Allowed c) bs → AllByRecursion (Allowed c) (born_from n bs (updates_of events))
allowed c earlier [] n bs may h = h
allowed c earlier (Made session op (Insert id v) ∷ events) n bs may h =
    allowed c (earlier ++ Made session op (Insert id v) ∷ []) events (n + 1) (born_after (n + 1) bs (Insert id v)) may.1.1 ((may.0.0, may.0.2), h)
allowed c earlier (Made session op (Delete id) ∷ events) n bs may h =
    allowed c (earlier ++ Made session op (Delete id) ∷ []) events (n + 1) (born_after (n + 1) bs (Delete id)) may.1.1 (filter_keeps (Allowed c) (λ (b : Born). not (b.id == id)) bs h)
allowed c earlier (Split p ∷ events) n bs may h = allowed c (earlier ++ Split p ∷ []) events n bs may.1.1 h

all_sorted : (P : Shown → Type 0) (xs : List Shown) → AllByRecursion P xs → AllByRecursion P (sorted shown_cmp xs)
all_sorted P [] h = tt
all_sorted P (x ∷ xs) h = all_put shown_cmp P x (sorted shown_cmp xs) h.0 (all_sorted P xs h.1)

module _ (c : Configuration) (limits : IsWithinLimits c) (metric : IsMetric (metric_space c)) (log : List LogEvent) (legal : LegalLog c log) where
  stands : (b : Born) → (b.birth ≤ c.updates) × Allowed c b → StandsInLeaf c log (shown_as c log b)
  stands b h =
      let v = b.vector in
      let near : (grid_under c).distance v < 2 ^ 27 =
      distance_small (space_of c) v v ((metric_space c).d v v) (record { metric = metric; pivots_fit = limits.pivots; query_fits = h.1.0; object_fits = h.1.0; near = omega arith }) in
      let is = leaf_key_parts c limits log b.id v b.birth h.1.1 near h.0 in
      record { fits = h.1.0; dists_are = refl; cluster_is = ap (λ (p : KeyParts). p.cluster) is; distance_is = ap (λ (p : KeyParts). p.distance) is }

  pub shows_live : ShowsLive c log (shown c log)
  shows_live =
      let bs = born (updates_of log) in
      let kept = map (shown_as c log) bs in
      let few = legal.few in
      let old : AllByRecursion (λ (b : Born). b.birth ≤ c.updates) bs =
      all_weaker (λ (b : Born). b.birth ≤ 0 + length (updates_of log)) (λ (b : Born). b.birth ≤ c.updates) (λ b le. omega (arith, le, few)) bs (aged 0 [] (updates_of log) tt) in
      let each = all_two (λ (b : Born). b.birth ≤ c.updates) (Allowed c) bs old (allowed c [] log 0 [] legal.each tt) in
      let all : AllByRecursion (StandsInLeaf c log) kept =
      all_map (shown_as c log) (StandsInLeaf c log) bs (all_weaker (λ (b : Born). (b.birth ≤ c.updates) × Allowed c b) (λ b. StandsInLeaf c log (shown_as c log b)) stands bs each) in
      let objects : map object_shown kept ≡ live (updates_of log) = map_twice object_shown (shown_as c log) bs ∙ born_live (updates_of log) in
      record {
        stand = all_sorted (StandsInLeaf c log) kept all;
        same = subst (λ (os : List Object). SameElements (map object_shown (shown c log)) os) objects (same_map object_shown (shown c log) kept (same_sorted shown_cmp kept));
      }

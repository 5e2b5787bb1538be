-- Keys of objects under settings within their limits.
use Rattle.std.proofs.Common.{◌≡◌, ℕ, ℤ, suc, zero, ◌^◌, ◌<◌, ◌≤◌, List, [], ◌∷◌, length, take, true, IsTrue, ◌&&◌, nat_lt, nat_le, refl, ap, subst, arith}
use Rattle.std.proofs.lemmas.Bool.{and_parts}
use Rattle.std.proofs.lemmas.List.{length-take}
use Rattle.mi_base.specs.Configuration.{Configuration, IsWithinLimits, metric_space, space_of}
use Rattle.mi_base.specs.Space.{IsMetric}
use Rattle.mi_base.specs.Prefixes.{all_below, are_different}
use Rattle.mi_key.specs.declared.keys.KeyParts.{KeyParts}
use Rattle.mi_key.specs.Clusters.{cluster_of}
use Rattle.mi_key.specs.Keys.{key_of, parts_of}
use Rattle.mi_key.proofs.ClusterLemmas.{cluster-exact, cluster-small}
use Rattle.mi_key.proofs.KeyLemmas.{parts_of-key_of}
use Rattle.mi_tree.specs.Cells.{Grid, IsGrid}
use Rattle.mi_tree.proofs.CatalogLemmas.{depth_is}
use Rattle.mi_tree.proofs.DistanceLemmas.{key_distance_small}
use Rattle.mi_tree.proofs.GridLemmas.{space_is_grid}
use Rattle.mi_tree.specs.Births.{Born}
use Rattle.mi_entries.specs.Entries.{FitsKey, key_down, grid}
use Rattle.mi_entries.proofs.DepthLemmas.{IsKeyed}

below_take : (n d : ℕ) (ps : List ℕ) → all_below n ps ≡ true → all_below n (take d ps) ≡ true
below_take n zero ps h = refl
below_take n (suc d) [] h = refl
below_take n (suc d) (p ∷ ps) h = let both = and_parts (nat_lt p n) (all_below n ps) h in rw (both.0, below_take n d ps both.1) refl

module _ (c : Configuration) (limits : IsWithinLimits c) where
  abbrev g : Grid
  g = grid c

  pub is_grid : IsGrid g
  is_grid = space_is_grid (space_of c) c.levels limits.few_pivots limits.levels

  few_levels : (c.levels ≤ 6) × (c.levels ≤ length c.pivots)
  few_levels = depth_is (length c.pivots) c.levels limits.levels

  pub below : (v : List ℤ) (d : ℕ) → all_below (length c.pivots) (take d (g.perm v)) ≡ true
  below v d =
      let p = is_grid.perms v in
      let parts = and_parts (nat_le (length (g.perm v)) 32) (all_below (length (g.perm v)) (g.perm v) && are_different (g.perm v)) p.0 in
      below_take (length c.pivots) d (g.perm v) (subst (λ (n : ℕ). all_below n (g.perm v) ≡ true) p.1 (and_parts (all_below (length (g.perm v)) (g.perm v)) (are_different (g.perm v)) parts.1).0)

  pub short : (v : List ℤ) (d : ℕ) → d ≤ c.levels → length (take d (g.perm v)) ≡ d
  short v d le = let n = (is_grid.perms v).1 in let m = few_levels.1 in omega (arith, length-take d (g.perm v))

  pub parts : (o : Born) → FitsKey g o → (d : ℕ) → d ≤ g.levels → parts_of (key_down g d o) ≡ record { cluster = cluster_of g.pivots g.levels (take d (g.perm o.vector)); distance = g.distance o.vector; id = o.id; birth = o.birth }
  parts o fits d le = parts_of-key_of (record { cluster = cluster_of g.pivots g.levels (take d (g.perm o.vector)); distance = g.distance o.vector; id = o.id; birth = o.birth }) (record {
    fit_cluster = (let s = cluster-small (length c.pivots) c.levels (take d (g.perm o.vector)) limits.few_pivots few_levels.0 (below o.vector d) in omega arith);
    fit_distance = fits.distance;
    fit_id = fits.id;
    fit_birth = fits.birth;
  })

  apart : (o : Born) (a b : ℕ) → a ≤ g.levels → b ≤ g.levels → key_down g a o ≡ key_down g b o → a ≡ b
  unfolding key_of
  apart o a b la lb e =
      let clusters : cluster_of g.pivots g.levels (take a (g.perm o.vector)) ≡ cluster_of g.pivots g.levels (take b (g.perm o.vector)) = omega (arith, e) in
      let lengths : length (take a (g.perm o.vector)) ≡ length (take b (g.perm o.vector)) =
      ap length (cluster-exact (length c.pivots) c.levels (take a (g.perm o.vector)) (take b (g.perm o.vector)) (omega (arith, short o.vector a la)) (omega (arith, short o.vector b lb)) (below o.vector a) (below o.vector b) clusters) in
      omega (arith, short o.vector a la, short o.vector b lb, lengths)

  pub is_keyed : IsKeyed g
  is_keyed = record {
    grid = is_grid;
    named = λ o fits d le. ap (λ (p : KeyParts). p.id) (parts o fits d le);
    aged = λ o fits d le. ap (λ (p : KeyParts). p.birth) (parts o fits d le);
    apart = apart;
  }

-- the key distance of a vector that fits has room in a key
pub distance_small : (c : Configuration) → IsWithinLimits c → IsMetric (metric_space c) → (v : List ℤ) → IsTrue ((metric_space c).fits v) → (grid c).distance v < 2 ^ 27
distance_small c limits metric v fits = key_distance_small (space_of c) metric limits.pivots v fits

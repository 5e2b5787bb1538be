-- A leaf that was split in a log, and the keys of its cell.
use Rattle.std.proofs.Common.{◌≡◌, ℕ, ℤ, suc, zero, ◌+◌, ◌-◌, ◌<◌, ◌≤◌, List, [], ◌∷◌, ◌++◌, length, take, Bool, true, false, ◌||◌, nat_le, refl, sym, ap, ◌∙◌, subst, arith, append_assoc}
use Rattle.std.specs.List.{AllByRecursion, list_any}
use Rattle.std.proofs.lemmas.Bool.{and_parts, false≢true, leb-true}
use Rattle.std.proofs.lemmas.List.{take_all, take-append-le, take-take}
use Rattle.std.proofs.lemmas.List.Elements.{recursion_from_All}
use Rattle.mi_base.specs.declared.records.LogEvent.{LogEvent}
use Rattle.mi_base.specs.declared.records.LogEvent.TheVariants.{Update as Made, Split}
use Rattle.mi_base.specs.Configuration.{Configuration, IsWithinLimits}
use Rattle.mi_base.specs.Permutations.{begins}
use Rattle.mi_base.specs.Prefixes.{all_below}
use Rattle.mi_key.specs.Clusters.{cluster_of}
use Rattle.mi_key.specs.Keys.{key_of}
use Rattle.mi_key.specs.Ranges.{is_within}
use Rattle.mi_key.proofs.ClusterLemmas.{cluster-exact}
use Rattle.mi_tree.specs.Cells.{Grid, AllMaySplit, MaySplit, depth, is_leaf, leaves, same_cell}
use Rattle.mi_tree.specs.Legal.{EachMayFollow, LegalLog, MayFollow}
use Rattle.mi_tree.proofs.FitLemmas.{leaves_fit}
use Rattle.mi_tree.proofs.LeafLemmas.{begins_take, same_cell_is}
use Rattle.mi_tree.proofs.LegalLemmas.{may_split, wanted}
use Rattle.mi_tree.proofs.ListLemmas.{all_joined}
use Rattle.mi_tree.specs.Births.{Born, is_split_of, was_split}
use Rattle.mi_entries.specs.Marks.{cell_end, cell_range, cell_start}
use Rattle.mi_entries.specs.Entries.{key_in, FitsKey, key_down, grid}
use Rattle.mi_entries.proofs.DepthLemmas.{depth_take, depth_under, leaf_deep}
use Rattle.mi_entries.proofs.KeyedLemmas.{below, is_keyed, short}

-- the cell was above the greatest depth, is one of the pivots, and its permutations are deeper now
pub record IsPast (c : Configuration) (log : List LogEvent) (p : List ℕ) : Type 0 where
  pub above : length p < c.levels
  pub pivots : all_below (length c.pivots) p ≡ true
  pub deeper : (v : List ℤ) → begins p ((grid c).perm v) ≡ true → length p < depth (grid c) log ((grid c).perm v)

one_of : (P : List ℕ → Type 0) (p : List ℕ) (ls : List (List ℕ)) → AllByRecursion P ls → list_any (same_cell p) ls ≡ true → P p
one_of P p [] h t = absurd (false≢true t)
one_of P p (q ∷ ls) h t =
    let Q : Bool → Type 0 = λ b. same_cell p q ≡ b → (b || list_any (same_cell p) ls) ≡ true → P p in
    (elim (same_cell p q) as Q [ true ↦ λ e _. subst P (sym (same_cell_is p q e)) h.0 | false ↦ λ e r. one_of P p ls h.1 r ]) refl t

module _ (c : Configuration) (limits : IsWithinLimits c) (p : List ℕ) where
  abbrev g : Grid
  g = grid c

  past_from : (earlier es : List LogEvent) → AllMaySplit g earlier → EachMayFollow c earlier es → was_split p es ≡ true → IsPast c (earlier ++ es) p
  past_from earlier [] may each t = absurd (false≢true t)
  past_from earlier (e ∷ es) may each t =
      let joined : (earlier ++ e ∷ []) ++ es ≡ earlier ++ e ∷ es = append_assoc earlier (e ∷ []) es in
      let may' : AllMaySplit g (earlier ++ e ∷ []) = all_joined (MaySplit g) earlier (e ∷ []) may (may_split c earlier e each.0, tt) in
      let P : Bool → Type 0 = λ b. is_split_of p e ≡ b → (b || was_split p es) ≡ true → IsPast c (earlier ++ e ∷ es) p in
      (elim (is_split_of p e) as P [
        | true ↦ λ h _. first earlier e es may each.0 h
        | false ↦ λ h r. subst (λ (l : List LogEvent). IsPast c l p) joined (past_from (earlier ++ e ∷ []) es may' each.1.1 r)
      ]) refl t
    where
      first : (earlier : List LogEvent) (e : LogEvent) (es : List LogEvent) → AllMaySplit g earlier → MayFollow c earlier e → is_split_of p e ≡ true → IsPast c (earlier ++ e ∷ es) p
      first earlier (Made s o u) es may follow h = absurd (false≢true h)
      first earlier (Split q) es may follow h =
          let same : p ≡ q = same_cell_is p q h in
          let w = wanted c earlier q follow in
          let leaf : is_leaf g earlier p ≡ true = subst (λ (n : List ℕ). is_leaf g earlier n ≡ true) (sym same) w.0 in
          let fit = one_of (λ n. (length n ≤ c.levels) × (all_below (length c.pivots) n ≡ true)) p (leaves g earlier) (recursion_from_All _ (leaves g earlier) (leaves_fit g (is_keyed c limits).grid earlier may)) leaf in
          let above : length q < c.levels = w.1.0 in
          let lengths : length p ≡ length q = ap length same in
          record {
            above = omega arith;
            pivots = fit.1;
            deeper = λ v t.
                let d : depth g earlier (g.perm v) ≡ length p = leaf_deep g (is_keyed c limits) earlier may p v leaf t in
                let u : depth g (earlier ++ Split q ∷ []) (g.perm v) ≡ depth g earlier (g.perm v) + 1 = depth_under g earlier q (g.perm v) (subst (λ (n : List ℕ). begins n (g.perm v) ≡ true) same t) (d ∙ lengths) in
                let l : List LogEvent = earlier ++ Split q ∷ es in
                let cut : take (length (earlier ++ Split q ∷ [])) l ≡ earlier ++ Split q ∷ [] =
                ap (take (length (earlier ++ Split q ∷ []))) (sym (append_assoc earlier (Split q ∷ []) es))
                ∙ take-append-le (length (earlier ++ Split q ∷ [])) (earlier ++ Split q ∷ []) es (omega arith)
                ∙ take_all (length (earlier ++ Split q ∷ [])) (earlier ++ Split q ∷ []) (omega arith) in
                let n = depth_take g l (length (earlier ++ Split q ∷ [])) (g.perm v) in
                omega (arith, n, ap (λ (m : List LogEvent). depth g m (g.perm v)) cut);
          }

  each_take : (earlier es : List LogEvent) (n : ℕ) → EachMayFollow c earlier es → EachMayFollow c earlier (take n es)
  each_take earlier es zero h = tt
  each_take earlier [] (suc n) h = tt
  each_take earlier (e ∷ es) (suc n) h = (h.0, (h.1.0, each_take (earlier ++ e ∷ []) es n h.1.1))

  -- a leaf that was split by event n is past at each later position
  pub past_later : (log : List LogEvent) → LegalLog c log → (n k : ℕ) → n ≤ k → was_split p (take n log) ≡ true → IsPast c (take k log) p
  past_later log legal n k le t =
      let h = past_from [] (take n log) tt (each_take [] log n legal.each) t in
      record {
        above = h.above;
        pivots = h.pivots;
        deeper = λ v b.
            let m = h.deeper v b in
            let d = depth_take g (take k log) n (g.perm v) in
            let cut : take n (take k log) ≡ take n log = take-take n k log le in
            omega (arith, m, d, ap (λ (l : List LogEvent). depth g l (g.perm v)) cut);
      }

  -- a key of the cell is that of an object whose permutation the cell begins, at the cell's depth
  module _ (low : length p ≤ c.levels) (pivots : all_below (length c.pivots) p ≡ true) (o : Born) (fits : FitsKey g o) (down : ℕ) (deep : down ≤ c.levels) where
    pub in_cell : is_within (cell_range g p) (key_down g down o) ≡ true → (down ≡ length p) × (begins p (g.perm o.vector) ≡ true)
    unfolding key_of
    in_cell t =
        let both = and_parts (nat_le (cell_start g p) (key_down g down o)) (nat_le (key_down g down o) (cell_end g p - 1)) t in
        let from = leb-true (cell_start g p) (key_down g down o) both.0 in
        let to = leb-true (key_down g down o) (cell_end g p - 1) both.1 in
        let a = fits.id in
        let b = fits.distance in
        let d = fits.birth in
        let clusters : cluster_of g.pivots g.levels (take down (g.perm o.vector)) ≡ cluster_of g.pivots g.levels p = omega arith in
        let size = short c limits o.vector down deep in
        let same : take down (g.perm o.vector) ≡ p =
        cluster-exact (length c.pivots) c.levels (take down (g.perm o.vector)) p (omega (arith, size)) low (below c limits o.vector down) pivots clusters in
        (sym size ∙ ap length same, subst (λ (n : List ℕ). begins n (g.perm o.vector) ≡ true) same (begins_take down (g.perm o.vector)))

  -- a leaf is no deeper than the levels, and of the pivots
  pub leaf_fits : (log : List LogEvent) → AllMaySplit g log → is_leaf g log p ≡ true → (length p ≤ c.levels) × (all_below (length c.pivots) p ≡ true)
  leaf_fits log may leaf = one_of (λ n. (length n ≤ c.levels) × (all_below (length c.pivots) n ≡ true)) p (leaves g log) (recursion_from_All _ (leaves g log) (leaves_fit g (is_keyed c limits).grid log may)) leaf

-- the key of an object that fits lies before the end of its cell
pub below_end : (g : Grid) (q : List ℕ) (o : Born) → FitsKey g o → key_in g q o < cell_end g q
unfolding key_of
below_end g q o h = let a = h.id in let b = h.distance in let c = h.birth in omega arith

-- a key of a cell doesn't lie before it
pub from_start : (g : Grid) (p : List ℕ) (o : Born) → cell_start g p ≤ key_in g p o
unfolding key_of
from_start g p o = omega arith

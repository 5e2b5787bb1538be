-- The leaves that were split, each by one event.
use Rattle.std.proofs.Common.{◌≡◌, ℕ, suc, zero, ◌+◌, ◌<◌, ◌≤◌, List, [], ◌∷◌, ◌++◌, length, take, min, Bool, true, false, cond, ◌&&◌, ◌||◌, nat_lt, nat_eq, refl, sym, ap, ◌∙◌, subst, arith, append_assoc, length-append, is_some, Some, None, map}
use Rattle.std.specs.List.{AllByRecursion, filter, fold, list_any, slice_get}
use Rattle.std.proofs.Math.ListN.{length-take}
use Rattle.std.proofs.lemmas.Bool.{and_parts, false≢true, or_parts}
use Rattle.std.proofs.lemmas.Bool.Decides.{nat_tests}
use Rattle.std.proofs.lemmas.Grind.{fold-append}
use Rattle.std.proofs.lemmas.List.{take_all, take-append-le}
use Rattle.std.proofs.lemmas.List.Folds.{list_any-append}
use Rattle.mi_base.specs.declared.records.LogEvent.{LogEvent}
use Rattle.mi_base.specs.declared.records.LogEvent.TheVariants.{Update as Made, Split}
use Rattle.mi_base.specs.Configuration.{Configuration, IsWithinLimits}
use Rattle.mi_base.specs.History.{Object, live, updates_of}
use Rattle.mi_base.specs.Permutations.{begins}
use Rattle.mi_board.specs.declared.retired.RetiredLeaf.{RetiredLeaf}
use Rattle.mi_board.specs.Floors.{earliest_in}
use Rattle.mi_board.specs.Kept.{IsRetired}
use Rattle.mi_tree.specs.Births.{is_split_of, was_split}
use Rattle.mi_tree.specs.Cells.{AllMaySplit, Grid, IsGrid, MaySplit, depth, depth_after, is_leaf, same_cell}
use Rattle.mi_tree.specs.Counting.{belongs}
use Rattle.mi_tree.specs.Legal.{EachMayFollow, LegalLog, MayFollow}
use Rattle.mi_tree.proofs.LeafLemmas.{leaf_is, same_cell_is, same_self}
use Rattle.mi_tree.proofs.LegalLemmas.{all_may, grid, may_split, wanted}
use Rattle.mi_tree.proofs.LimitLemmas.{is_grid}
use Rattle.mi_tree.proofs.ListLemmas.{all_joined}
use Rattle.mi_tree.proofs.SplitsLemmas.{deeper, depth_within}

-- no event takes a permutation less deep
depth_rises : (perm : List ℕ) (d : ℕ) (e : LogEvent) → d ≤ depth_after perm d e
depth_rises perm d (Made session op u) = omega arith
depth_rises perm d (Split p) =
    let P : Bool → Type 0 = λ b. d ≤ cond b (d + 1) d in
    elim (nat_eq (length p) d && begins p perm) as P [ true ↦ omega arith | false ↦ omega arith ]

fold_rises : (perm : List ℕ) (d : ℕ) (es : List LogEvent) → d ≤ fold (depth_after perm) d es
fold_rises perm d [] = omega arith
fold_rises perm d (e ∷ es) = omega (arith, depth_rises perm d e, fold_rises perm (depth_after perm d e) es)

depth_more : (g : Grid) (log es : List LogEvent) (perm : List ℕ) → depth g log perm ≤ depth g (log ++ es) perm
depth_more g log es perm = omega (arith, fold_rises perm (depth g log perm) es, fold-append (depth_after perm) (min 1 g.pivots) log es)

module _ (c : Configuration) (limits : IsWithinLimits c) (p : List ℕ) (o : Object) (mine : belongs (grid c) p o ≡ true) where
  abbrev g : Grid
  g = grid c

  -- a leaf is as deep as its permutations
  leaf_deep : IsGrid g → (log : List LogEvent) → AllMaySplit g log → is_leaf g log p ≡ true → length p ≡ depth g log (g.perm o.vector)
  leaf_deep ok log may leaf =
      omega (arith, ap length (leaf_is g ok log may p o.vector leaf mine), length-take (depth g log (g.perm o.vector)) (g.perm o.vector), (ok.perms o.vector).1, ok.levels, depth_within g ok log may (g.perm o.vector))

  -- once a leaf was split, its permutations are deeper
  past : IsGrid g → (earlier es : List LogEvent) → AllMaySplit g earlier → EachMayFollow c earlier es → was_split p es ≡ true → length p < depth g (earlier ++ es) (g.perm o.vector)
  past ok earlier [] may each t = absurd (false≢true t)
  past ok earlier (e ∷ es) may each t =
      let joined : (earlier ++ e ∷ []) ++ es ≡ earlier ++ e ∷ es = append_assoc earlier (e ∷ []) es in
      let may' : AllMaySplit g (earlier ++ e ∷ []) = all_joined (MaySplit g) earlier (e ∷ []) may (may_split c earlier e each.0, tt) in
      let D : List LogEvent → Type 0 = λ l. length p < depth g l (g.perm o.vector) in
      let P : Bool → Type 0 = λ b. is_split_of p e ≡ b → (b || was_split p es) ≡ true → D (earlier ++ e ∷ es) in
      (elim (is_split_of p e) as P [
        | true ↦ λ h _. let here = first earlier e may each.0 h in subst D joined (omega (arith, here, depth_more g (earlier ++ e ∷ []) es (g.perm o.vector)))
        | false ↦ λ h r. subst D joined (past ok (earlier ++ e ∷ []) es may' each.1.1 r)
      ]) refl t
    where
      first : (earlier : List LogEvent) (e : LogEvent) → AllMaySplit g earlier → MayFollow c earlier e → is_split_of p e ≡ true → length p < depth g (earlier ++ e ∷ []) (g.perm o.vector)
      first earlier (Made session op u) may follow h = absurd (false≢true h)
      first earlier (Split q) may follow h =
          let same : p ≡ q = same_cell_is p q h in
          let leaf : is_leaf g earlier p ≡ true = subst (λ (x : List ℕ). is_leaf g earlier x ≡ true) (sym same) (wanted c earlier q follow).0 in
          let deep = subst (λ (x : List ℕ). depth g (earlier ++ Split x ∷ []) (g.perm o.vector) ≡ depth g earlier (g.perm o.vector) + cond (belongs g p o) 1 0) same (deeper g ok earlier may p o leaf) in
          let steps : Bool → ℕ = λ b. cond b 1 0 in
          let one : steps (belongs g p o) ≡ 1 = ap steps mine in
          omega (arith, deep, one, leaf_deep ok earlier may leaf)

some_kept : {X : Type 0} (t : X → Bool) (xs : List X) → 0 < length (filter t xs) → (x : X) × (t x ≡ true)
some_kept t [] h = absurd (omega arith)
some_kept {X = X} t (x ∷ xs) h =
    let P : Bool → Type 0 = λ b. t x ≡ b → 0 < length (cond b (x ∷ filter t xs) (filter t xs)) → (y : X) × (t y ≡ true) in
    (elim (t x) as P [ true ↦ λ e _. (x, e) | false ↦ λ e k. some_kept t xs k ]) refl h

-- a leaf that is to be split was not split before
pub not_before : (c : Configuration) (limits : IsWithinLimits c) (log : List LogEvent) → LegalLog c log → (p : List ℕ) → MayFollow c log (Split p) → was_split p log ≡ false
not_before c limits log legal p may =
    let w = wanted c log p may in
    let o = some_kept (belongs (grid c) p) (live (updates_of log)) (let n = w.1.1 in omega arith) in
    let ok = is_grid c limits log legal in
    let P : Bool → Type 0 = λ b. was_split p log ≡ b → was_split p log ≡ false in
    (elim (was_split p log) as P [
      | true ↦ λ t. absurd (let deep = past c limits p o.0 o.1 ok [] log tt legal.each t in omega (arith, deep, leaf_deep c limits p o.0 o.1 ok log (all_may c log legal) w.0))
      | false ↦ λ t. t
    ]) refl

any_front : {X : Type 0} (t : X → Bool) (xs : List X) (n : ℕ) → list_any t xs ≡ false → list_any t (take n xs) ≡ false
any_front t xs zero h = refl
any_front t [] (suc n) h = refl
any_front t (x ∷ xs) (suc n) h = let parts = or_parts (t x) (list_any t xs) h in rw (parts.0, any_front t xs n parts.1) refl

-- a front of a list that goes on is a front of it, or has it whole
front_more : {X : Type 0} (xs ys : List X) (n : ℕ) (P : List X → Type 0) → (n ≤ length xs → P (take n xs)) → ((m : ℕ) → n ≡ length xs + suc m → P (xs ++ take (suc m) ys)) → P (take n (xs ++ ys))
front_more [] ys zero P low high = low (omega arith)
front_more [] ys (suc n) P low high = high n (omega arith)
front_more (x ∷ xs) ys zero P low high = low (omega arith)
front_more {X = X} (x ∷ xs) ys (suc n) P low high = front_more xs ys n (λ (zs : List X). P (x ∷ zs)) (λ le. low (omega arith)) (λ m e. high m (omega arith))

-- a retired leaf stays so as the log goes on
retired_one : (log xs : List LogEvent) (r : RetiredLeaf) → IsRetired log r → IsRetired (log ++ xs) r
retired_one log xs r h = record {
  there = omega (arith, h.there, length-append log xs);
  split = λ n. front_more log xs n (λ (l : List LogEvent). was_split r.prefix l ≡ nat_lt r.event n) (λ le. h.split n) (λ m e.
      let all : was_split r.prefix log ≡ nat_lt r.event (length log) = sym (ap (was_split r.prefix) (take_all (length log) log (omega arith))) ∙ h.split (length log) in
      let yes : nat_lt r.event (length log) ≡ true = (let t = h.there in grind (arith, nat_tests)) in
      let later : nat_lt r.event n ≡ true = (let t = h.there in grind (arith, nat_tests)) in
      list_any-append (is_split_of r.prefix) log (take (suc m) xs) ∙ rw (all, yes, later) refl);
}

pub retired_more : (log xs : List LogEvent) (rs : List RetiredLeaf) → AllByRecursion (IsRetired log) rs → AllByRecursion (IsRetired (log ++ xs)) rs
retired_more log xs [] h = tt
retired_more log xs (r ∷ rs) h = (retired_one log xs r h.0, retired_more log xs rs h.1)

-- the leaf that is split now
retired_now : (log : List LogEvent) (p : List ℕ) → was_split p log ≡ false → IsRetired (log ++ Split p ∷ []) (record { prefix = p; event = length log })
retired_now log p none = record {
  there = omega (arith, length-append log (Split p ∷ []));
  split = λ n. front_more log (Split p ∷ []) n (λ (l : List LogEvent). was_split p l ≡ nat_lt (length log) n)
      (λ le. let early : nat_lt (length log) n ≡ false = grind (arith, nat_tests) in any_front (is_split_of p) log n none ∙ sym early)
      (λ m e. let late : nat_lt (length log) n ≡ true = grind (arith, nat_tests) in
      list_any-append (is_split_of p) log (take (suc m) (Split p ∷ [])) ∙ rw (none, same_self p, late) refl);
}

pub retired_last : (log : List LogEvent) (p : List ℕ) → was_split p log ≡ false → (rs : List RetiredLeaf) → AllByRecursion (IsRetired log) rs → AllByRecursion (IsRetired (log ++ Split p ∷ [])) (rs ++ record { prefix = p; event = length log } ∷ [])
retired_last log p none rs h = all_joined (IsRetired (log ++ Split p ∷ [])) rs (record { prefix = p; event = length log } ∷ []) (retired_more log (Split p ∷ []) rs h) (retired_now log p none, tt)

-- whether the floor has the split of the first
pub first_due : (log : List LogEvent) (n : ℕ) (rs : List RetiredLeaf) (r : RetiredLeaf) → AllByRecursion (IsRetired log) rs → slice_get rs 0 ≡ Some r → is_some (earliest_in (take n log) (map (λ x. x.prefix) rs)) ≡ nat_lt r.event n
first_due log n [] r h at = cc
first_due log n (q ∷ rs) r h at =
    let same : q ≡ r = cc in
    let P : Bool → Type 0 = λ b. is_some (cond b (Some q.prefix) None) ≡ b in
    let here : is_some (cond (was_split q.prefix (take n log)) (Some q.prefix) None) ≡ was_split q.prefix (take n log) = elim (was_split q.prefix (take n log)) as P [ true ↦ refl | false ↦ refl ] in
    here ∙ h.0.split n ∙ ap (λ (x : RetiredLeaf). nat_lt x.event n) same

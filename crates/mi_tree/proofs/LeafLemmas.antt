-- The leaves partition the permutations.
use Rattle.std.proofs.Common.{◌≡◌, ◌≢◌, ℕ, ℤ, suc, zero, ◌+◌, ◌<◌, ◌≤◌, List, [], ◌∷◌, ◌++◌, map, length, take, get_or, Bool, true, false, IsTrue, cond, not, ◌&&◌, ◌||◌, nat_eq, nat_lt, nat_le, refl, sym, ap, ◌∙◌, subst, arith, min, append-nil}
use Rattle.std.specs.List.{filter, fold, flat_map, range_with_len, list_any}
use Rattle.std.proofs.Math.Bool.{and-true, or-false}
use Rattle.std.proofs.Math.ListN.{length-take}
use Rattle.std.proofs.lemmas.List.{take_more, take_all}
use Rattle.std.proofs.lemmas.List.Folds.{list_all_at}
use Rattle.std.proofs.lemmas.Bool.{eqb-true, eq-eqb, and_parts, and_right, or_right, eqb-false, false≢true, false_from_ne_true, ltb-true}
use Rattle.mi_base.specs.declared.records.LogEvent.{LogEvent}
use Rattle.mi_base.specs.declared.records.LogEvent.TheVariants.{Update as Made, Split}
use Rattle.mi_base.specs.Prefixes.{has, all_below, are_different}
use Rattle.mi_base.specs.Permutations.{is_permutation, begins}
use Rattle.mi_base.proofs.PrefixLemmas.{are_different-repeat}
use Rattle.mi_tree.specs.Cells.{Grid, IsGrid, children, same_cell, split_cell, leaves_after, first_leaves, leaves, is_leaf, depth_after, leaf_of, MaySplit, AllMaySplit}
use Rattle.mi_tree.proofs.ListLemmas.{filter_twice, filter_same, filter_map, filter_none, all_any, filter_flat, flat_kept}

-- the numbers of n pivots, each once
pub record IsPerm (n : ℕ) (perm : List ℕ) : Type 0 where
  pub long : length perm ≡ n
  pub within : (k : ℕ) → k < n → get_or perm k 0 < n
  pub fresh : (k : ℕ) → k < n → has (get_or perm k 0) (take k perm) ≡ false

-- a permutation has each pivot once
pub perm_is : (n : ℕ) (perm : List ℕ) → IsTrue (is_permutation perm) → length perm ≡ n → IsPerm n perm
perm_is n perm h long =
    let parts = and_parts (nat_le (length perm) 32) (all_below (length perm) perm && are_different perm) h in
    let rest = and_parts (all_below (length perm) perm) (are_different perm) parts.1 in
    let low : (k : ℕ) → k < n → get_or perm k 0 < n = λ k lt.
    let inside : k < length perm = omega (arith, long) in
    let no : (nat_lt (get_or perm k 0) (length perm) ≡ false) → ⊥ = λ f. false≢true (sym (list_all_at (λ x. nat_lt x (length perm)) perm k 0 inside f) ∙ rest.0) in
    let Q : Bool → Type 0 = λ b. nat_lt (get_or perm k 0) (length perm) ≡ b → get_or perm k 0 < length perm in
    let small : get_or perm k 0 < length perm = (elim (nat_lt (get_or perm k 0) (length perm)) as Q [ true ↦ λ e. ltb-true _ _ e | false ↦ λ e. absurd (no e) ]) refl in
    omega (arith, long, small) in
    let new : (k : ℕ) → k < n → has (get_or perm k 0) (take k perm) ≡ false = λ k lt.
    let inside : k < length perm = omega (arith, long) in
    false_from_ne_true (has (get_or perm k 0) (take k perm)) (λ t. false≢true (sym (are_different-repeat perm k inside t) ∙ rest.1)) in
    record { long = long; within = low; fresh = new }

-- what begins a list is its front
pub begins_is : (p xs : List ℕ) → begins p xs ≡ true → p ≡ take (length p) xs
begins_is [] xs h = refl
begins_is (x ∷ p) [] h = cc
begins_is (x ∷ p) (y ∷ xs) h =
    let t = and_parts (nat_eq x y) (begins p xs) h in
    let e : x ≡ y = eqb-true x y t.0 in
    let r : p ≡ take (length p) xs = begins_is p xs t.1 in
    cc

-- a front begins its list
pub begins_take : (d : ℕ) (xs : List ℕ) → begins (take d xs) xs ≡ true
begins_take zero xs = refl
begins_take (suc d) [] = refl
begins_take (suc d) (x ∷ xs) = rw (eq-eqb x x refl) (begins_take d xs)

-- what begins a list begins its longer fronts
pub begins_within : (p : List ℕ) (d : ℕ) (xs : List ℕ) → length p ≤ d → begins p (take d xs) ≡ begins p xs
begins_within [] d xs le = refl
begins_within (x ∷ p) zero xs le = absurd (omega arith)
begins_within (x ∷ p) (suc d) [] le = refl
begins_within (x ∷ p) (suc d) (y ∷ xs) le = ap (λ b. nat_eq x y && b) (begins_within p d xs (omega arith))

-- three tests group either way
and_again : (a b c : Bool) → (a && (b && c)) ≡ ((a && b) && c)
and_again true b c = refl
and_again false b c = refl

-- one more pivot
begins_more : (p : List ℕ) (i n : ℕ) (xs : List ℕ) → length p < length xs → begins (p ++ i ∷ []) xs ≡ (begins p xs && nat_eq i (get_or xs (length p) n))
begins_more [] i n [] lt = absurd (omega arith)
begins_more [] i n (y ∷ xs) lt = and-true (nat_eq i y)
begins_more (x ∷ p) i n [] lt = absurd (omega arith)
begins_more (x ∷ p) i n (y ∷ xs) lt = ap (λ b. nat_eq x y && b) (begins_more p i n xs (omega arith)) ∙ and_again (nat_eq x y) (begins p xs) _

-- a number below a range stands nowhere in it
range_none : (x a n : ℕ) → x < a → filter (λ i. nat_eq i x) (range_with_len a n) ≡ []
range_none x a zero lt = refl
range_none x a (suc n) lt =
    let out : nat_eq a x ≡ false = false_from_ne_true (nat_eq a x) (λ t. omega (arith, eqb-true a x t)) in
    rw out (range_none x (a + 1) n (omega arith))

-- a number of a range stands in it once
range_one : (x a n : ℕ) → a ≤ x → x < a + n → filter (λ i. nat_eq i x) (range_with_len a n) ≡ x ∷ []
range_one x a zero le lt = absurd (omega arith)
range_one x a (suc n) le lt =
    let P : Bool → Type 0 = λ b. nat_eq a x ≡ b → cond b (a ∷ filter (λ i. nat_eq i x) (range_with_len (a + 1) n)) (filter (λ i. nat_eq i x) (range_with_len (a + 1) n)) ≡ x ∷ [] in
    (elim (nat_eq a x) as P [
      | true ↦ λ t. let e : a ≡ x = eqb-true a x t in rw (range_none x (a + 1) n (omega arith)) (ap (λ i. i ∷ []) e)
      | false ↦ λ f. let ne : a ≢ x = eqb-false a x f in range_one x (a + 1) n (omega arith) (omega arith)
    ]) refl

-- what a split takes one deeper is above the greatest depth
pub step_deep : (g : Grid) (perm : List ℕ) (d : ℕ) (e : LogEvent) → MaySplit g e → d ≤ g.levels → depth_after perm d e ≤ g.levels
step_deep g perm d (Made session op u) h le = le
step_deep g perm d (Split p) h le =
    let P : Bool → Type 0 = λ b. (nat_eq (length p) d && begins p perm) ≡ b → cond b (d + 1) d ≤ g.levels in
    (elim (nat_eq (length p) d && begins p perm) as P [
      | true ↦ λ e. omega (arith, eqb-true (length p) d (and_parts _ _ e).0)
      | false ↦ λ e. le
    ]) refl

-- prefixes that are one are equal
pub same_cell_is : (p q : List ℕ) → same_cell p q ≡ true → p ≡ q
same_cell_is p q h =
    let t = and_parts (nat_eq (length p) (length q)) (begins p q) h in
    let e : length p ≡ length q = eqb-true (length p) (length q) t.0 in
    begins_is p q t.1 ∙ take_all (length p) q (omega arith)

module _ (n : ℕ) (perm : List ℕ) (is : IsPerm n perm) where
  -- which child begins the permutation
  child_test : (p : List ℕ) (i : ℕ) → begins p perm ≡ true → length p < n → has (get_or perm (length p) 0) p ≡ false
      → (not (has i p) && begins (p ++ i ∷ []) perm) ≡ nat_eq i (get_or perm (length p) 0)
  child_test p i h lt new =
      let x = get_or perm (length p) 0 in
      let long : length perm ≡ n = is.long in
      let P : Bool → Type 0 = λ b. nat_eq i x ≡ b → (not (has i p) && b) ≡ b in
      rw (begins_more p i 0 perm (omega arith), h)
      ((elim (nat_eq i x) as P [
        | true ↦ λ t. let e : i ≡ x = eqb-true i x t in rw (e, new) refl
        | false ↦ λ f. and_right (not (has i p)) false refl
      ]) refl)

  -- of the children of a cell one begins a permutation that the cell begins, and none another
  child_in : (p : List ℕ) → length p < n → begins p perm ≡ true → filter (λ c. begins c perm) (children n p) ≡ take (length p + 1) perm ∷ []
  child_in p lt h =
      let x = get_or perm (length p) 0 in
      let front : p ≡ take (length p) perm = begins_is p perm h in
      let new : has x p ≡ false = subst (λ (q : List ℕ). has x q ≡ false) (sym front) (is.fresh (length p) lt) in
      let long : length perm ≡ n = is.long in
      let keep : (i : ℕ) → (not (has i p) && begins (p ++ i ∷ []) perm) ≡ nat_eq i x = λ i. child_test p i h lt new in
      let more : take (length p + 1) perm ≡ take (length p) perm ++ x ∷ [] = take_more perm (length p) 0 (omega arith) in
      sym (filter_map (λ i. p ++ i ∷ []) (λ c. begins c perm) (filter (λ i. not (has i p)) (range_with_len 0 n)))
      ∙ ap (map (λ i. p ++ i ∷ [])) (filter_twice (λ i. begins (p ++ i ∷ []) perm) (λ i. not (has i p)) (range_with_len 0 n)
      ∙ filter_same _ _ (range_with_len 0 n) (all_any _ keep (range_with_len 0 n))
      ∙ range_one x 0 n (omega arith) (let w = is.within (length p) lt in omega arith))
      ∙ ap (λ q. q ∷ []) (ap (λ (q : List ℕ). q ++ x ∷ []) front ∙ sym more)

  -- no child of another prefix begins the permutation
  child_out : (p : List ℕ) → length p < n → begins p perm ≡ false → filter (λ c. begins c perm) (children n p) ≡ []
  child_out p lt h =
      let long : length perm ≡ n = is.long in
      let out : (i : ℕ) → begins (p ++ i ∷ []) perm ≡ false = λ i. begins_more p i 0 perm (omega arith) ∙ (rw h refl) in
      sym (filter_map (λ i. p ++ i ∷ []) (λ c. begins c perm) (filter (λ i. not (has i p)) (range_with_len 0 n)))
      ∙ ap (map (λ i. p ++ i ∷ [])) (filter_none (λ i. begins (p ++ i ∷ []) perm) (filter (λ i. not (has i p)) (range_with_len 0 n)) (all_any _ out _))

  -- a split of another prefix gives none that begins it
  cell_out : (p q : List ℕ) → length p < n → begins q perm ≡ false → filter (λ c. begins c perm) (split_cell n p q) ≡ []
  cell_out p q lt out =
      let P : Bool → Type 0 = λ b. same_cell p q ≡ b → filter (λ c. begins c perm) (cond b (children n p) (q ∷ [])) ≡ [] in
      (elim (same_cell p q) as P [
        | true ↦ λ e. child_out p lt (subst (λ (x : List ℕ). begins x perm ≡ false) (sym (same_cell_is p q e)) out)
        | false ↦ λ e. rw out refl
      ]) refl

  -- a front is the prefix exactly where that has its length and begins the permutation
  same_test : (p : List ℕ) (d : ℕ) → length (take d perm) ≡ d → same_cell p (take d perm) ≡ (nat_eq (length p) d && begins p perm)
  same_test p d deep =
      let P : Bool → Type 0 = λ b. nat_eq (length p) d ≡ b → (b && begins p (take d perm)) ≡ (b && begins p perm) in
      rw deep ((elim (nat_eq (length p) d) as P [
        | true ↦ λ t. let e : length p ≡ d = eqb-true (length p) d t in begins_within p d perm (omega arith)
        | false ↦ λ t. refl
      ]) refl)

  -- a split of the front leaves one that begins the permutation
  cell_in : (p : List ℕ) (d : ℕ) → length p < n → d ≤ n → filter (λ c. begins c perm) (split_cell n p (take d perm)) ≡ take (depth_after perm d (Split p)) perm ∷ []
  cell_in p d lt le =
      let long : length perm ≡ n = is.long in
      let deep : length (take d perm) ≡ d = omega (arith, length-take {A = ℕ}) in
      let P : Bool → Type 0 = λ b. (nat_eq (length p) d && begins p perm) ≡ b → filter (λ c. begins c perm) (cond b (children n p) (take d perm ∷ [])) ≡ take (cond b (d + 1) d) perm ∷ [] in
      rw (same_test p d deep)
      ((elim (nat_eq (length p) d && begins p perm) as P [
        | true ↦ λ t.
            let both = and_parts (nat_eq (length p) d) (begins p perm) t in
            let same : length p ≡ d = eqb-true (length p) d both.0 in
            child_in p lt both.1 ∙ ap (λ n. take (n + 1) perm ∷ []) same
        | false ↦ λ t. rw (begins_take d perm) refl
      ]) refl)

  -- a split keeps one leaf that begins the permutation
  pub split_one : (d : ℕ) (ls : List (List ℕ)) (p : List ℕ) → length p < n → d ≤ n → filter (λ q. begins q perm) ls ≡ take d perm ∷ []
      → filter (λ q. begins q perm) (flat_map (split_cell n p) ls) ≡ take (depth_after perm d (Split p)) perm ∷ []
  split_one d ls p lt le h =
      let F : List ℕ → List (List ℕ) = λ q. filter (λ c. begins c perm) (split_cell n p q) in
      filter_flat (λ q. begins q perm) (split_cell n p) ls
      ∙ flat_kept (λ q. begins q perm) F (λ q out. cell_out p q lt out) ls
      ∙ ap (flat_map F) h
      ∙ append-nil (F (take d perm))
      ∙ cell_in p d lt le

  -- an event keeps one leaf that begins the permutation
  step_one : (g : Grid) → g.pivots ≡ n → g.levels ≤ g.pivots → (d : ℕ) (ls : List (List ℕ)) (e : LogEvent) → MaySplit g e → d ≤ g.levels → filter (λ q. begins q perm) ls ≡ take d perm ∷ []
      → filter (λ q. begins q perm) (leaves_after n ls e) ≡ take (depth_after perm d e) perm ∷ []
  step_one g is_n lp d ls (Made session op u) ev le h = h
  step_one g is_n lp d ls (Split p) ev le h = split_one d ls p (omega arith) (omega arith) h

  -- a log keeps one leaf that begins the permutation
  from_one : (g : Grid) → g.pivots ≡ n → g.levels ≤ g.pivots → (d : ℕ) (ls : List (List ℕ)) (log : List LogEvent) → AllMaySplit g log → d ≤ g.levels → filter (λ q. begins q perm) ls ≡ take d perm ∷ []
      → filter (λ q. begins q perm) (fold (leaves_after n) ls log) ≡ take (fold (depth_after perm) d log) perm ∷ []
  from_one g is_n lp d ls [] legal le h = h
  from_one g is_n lp d ls (e ∷ log) legal le h = from_one g is_n lp (depth_after perm d e) (leaves_after n ls e) log legal.1 (step_deep g perm d e legal.0 le) (step_one g is_n lp d ls e legal.0 le h)

  -- one of the first leaves begins it
  pub first_one : filter (λ q. begins q perm) (first_leaves n) ≡ take (min 1 n) perm ∷ []
  first_one =
      let P : Bool → Type 0 = λ b. nat_eq n 0 ≡ b → filter (λ q. begins q perm) (cond b ([] ∷ []) (children n [])) ≡ take (min 1 n) perm ∷ [] in
      (elim (nat_eq n 0) as P [
        | true ↦ λ t. let e : n ≡ 0 = eqb-true n 0 t in ap (λ n. take (min 1 n) perm ∷ []) (sym e)
        | false ↦ λ f.
            let ne : n ≢ 0 = eqb-false n 0 f in
            let one : 0 + 1 ≡ min 1 n = omega arith in
            child_in [] (omega arith) refl ∙ ap (λ n. take n perm ∷ []) one
      ]) refl

-- exactly one leaf begins a permutation
pub one_leaf : (g : Grid) (perm : List ℕ) → IsTrue (is_permutation perm) → length perm ≡ g.pivots → IsGrid g → (log : List LogEvent) → AllMaySplit g log
    → filter (λ q. begins q perm) (leaves g log) ≡ leaf_of g log perm ∷ []
one_leaf g perm h long ok log legal =
    let is : IsPerm g.pivots perm = perm_is g.pivots perm h long in
    from_one g.pivots perm is g refl ok.levels (min 1 g.pivots) (first_leaves g.pivots) log legal ok.first (first_one g.pivots perm is)

-- a list begins itself
begins_self : (p : List ℕ) → begins p p ≡ true
begins_self [] = refl
begins_self (x ∷ p) = rw (eq-eqb x x refl) (begins_self p)

-- a prefix is itself
pub same_self : (p : List ℕ) → same_cell p p ≡ true
same_self p = rw (eq-eqb (length p) (length p) refl) (begins_self p)

-- a test of what another test keeps
any_kept : {X : Type 0} (t p : X → Bool) → ((x : X) → t x ≡ true → p x ≡ true) → (xs : List X) → list_any t xs ≡ true → list_any t (filter p xs) ≡ true
any_kept t p imp [] h = h
any_kept {X = X} t p imp (x ∷ xs) h =
    let P : Bool → Type 0 = λ b. t x ≡ b → (b || list_any t xs) ≡ true → list_any t (cond (p x) (x ∷ filter p xs) (filter p xs)) ≡ true in
    let Q : Bool → Type 0 = λ b. list_any t (filter p xs) ≡ true → list_any t (cond b (x ∷ filter p xs) (filter p xs)) ≡ true in
    (elim (t x) as P [
      | true ↦ λ e _. rw (imp x e, e) refl
      | false ↦ λ e r. (elim (p x) as Q [ true ↦ λ k. rw k (or_right (t x) true refl) | false ↦ λ k. k ]) (any_kept t p imp xs r)
    ]) refl h

module _ (g : Grid) (ok : IsGrid g) (log : List LogEvent) (legal : AllMaySplit g log) where
  -- the leaf that begins a permutation is its leaf
  pub leaf_is : (p : List ℕ) (v : List ℤ) → is_leaf g log p ≡ true → begins p (g.perm v) ≡ true → p ≡ leaf_of g log (g.perm v)
  leaf_is p v l h =
      let there : list_any (same_cell p) (filter (λ q. begins q (g.perm v)) (leaves g log)) ≡ true =
      any_kept (same_cell p) (λ q. begins q (g.perm v)) (λ q t. subst (λ (x : List ℕ). begins x (g.perm v) ≡ true) (same_cell_is p q t) h) (leaves g log) l in
      same_cell_is p (leaf_of g log (g.perm v)) (sym (or-false (same_cell p (leaf_of g log (g.perm v)))) ∙ (rw (one_leaf g (g.perm v) (ok.perms v).0 (ok.perms v).1 ok log legal) at there))

  -- of two leaves one alone begins a permutation
  pub leaf_apart : (p q : List ℕ) (v : List ℤ) → is_leaf g log p ≡ true → is_leaf g log q ≡ true → same_cell p q ≡ false → begins q (g.perm v) ≡ true → begins p (g.perm v) ≡ false
  leaf_apart p q v lp lq ne h = false_from_ne_true (begins p (g.perm v)) (λ t.
      let same : p ≡ q = leaf_is p v lp t ∙ sym (leaf_is q v lq h) in
      false≢true (sym ne ∙ subst (λ (x : List ℕ). same_cell p x ≡ true) same (same_self p)))

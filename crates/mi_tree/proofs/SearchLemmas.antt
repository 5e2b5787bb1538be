-- Where the leaf of a permutation stands among leaves in order.
use Rattle.std.proofs.Common.{◌≡◌, ℕ, suc, zero, ◌<◌, ◌≤◌, List, [], ◌∷◌, map, length, drop, get_or, Bool, true, false, cond, ◌&&◌, ◌||◌, nat_eq, nat_lt, refl, sym, ap, ◌∙◌, subst, arith}
use Rattle.std.specs.List.{AllByRecursion, filter}
use Rattle.std.specs.Prelude.{slice_set, All}
use Rattle.std.proofs.lemmas.Bool.{and_parts, eqb-true, false≢true, false_from_ne_true, ltb-true}
use Rattle.std.proofs.lemmas.List.{nil_from_length}
use Rattle.std.proofs.lemmas.Bool.Decides.{nat_tests}
use Rattle.std.proofs.lemmas.List.Elements.{All-from_recursion}
use Rattle.mi_base.specs.Permutations.{begins}
use Rattle.mi_tree.specs.Order.{before, in_order}
use Rattle.mi_tree.proofs.OrderLemmas.{StandInOrder, order_from_test}

-- nothing comes before the empty list
before_nil : (xs : List ℕ) → before xs [] ≡ false
before_nil [] = refl
before_nil (x ∷ xs) = refl

-- nothing comes before what is past the end
pub before_end : (xs ys : List ℕ) (i : ℕ) → length ys ≤ i → before xs (drop i ys) ≡ false
before_end xs [] zero le = before_nil xs
before_end xs [] (suc i) le = before_nil xs
before_end xs (y ∷ ys) zero le = absurd (omega arith)
before_end xs (y ∷ ys) (suc i) le = before_end xs ys i (omega arith)

-- no number is below itself
not_below : (x : ℕ) → nat_lt x x ≡ false
not_below x = false_from_ne_true (nat_lt x x) (λ t. omega (arith, ltb-true x x t))

-- a list doesn't come before what begins it
pub before_begun : (p xs : List ℕ) → begins p xs ≡ true → before xs p ≡ false
before_begun [] xs h = before_nil xs
before_begun (x ∷ p) [] h = refl
before_begun (x ∷ p) (y ∷ xs) h =
    let parts = and_parts (nat_eq x y) (begins p xs) h in
    let e : x ≡ y = eqb-true x y parts.0 in
    let below : nat_lt y x ≡ false = ap (nat_lt y) e ∙ not_below y in
    let rest : before xs p ≡ false = before_begun p xs parts.1 in
    let Q : Bool → Type 0 = λ b. (b && before xs p) ≡ false in
    rw below (elim (nat_eq y x) as Q [ true ↦ rest | false ↦ refl ])

-- the first places agree where they do not decide
before_cases : (a b c : Bool) → (a || (b && c)) ≡ true → a ≡ false → (b ≡ true) × (c ≡ true)
before_cases true b c h e = absurd (false≢true (sym e))
before_cases false true c h e = (refl, h)
before_cases false false c h e = absurd (false≢true h)

-- nor before what comes before something that begins it
pub before_earlier : (p q xs : List ℕ) → before p q ≡ true → begins q xs ≡ true → before xs p ≡ false
before_earlier [] q xs h k = absurd (false≢true h)
before_earlier (x ∷ p) [] xs h k = absurd (false≢true h)
before_earlier (x ∷ p) (y ∷ q) [] h k = refl
before_earlier (x ∷ p) (y ∷ q) (z ∷ xs) h k =
    let parts = and_parts (nat_eq y z) (begins q xs) k in
    let e : y ≡ z = eqb-true y z parts.0 in
    let Q : Bool → Type 0 = λ b. nat_lt x y ≡ b → before (z ∷ xs) (x ∷ p) ≡ false in
    (elim (nat_lt x y) as Q [
      | true ↦ λ t.
          let lt : x < y = ltb-true x y t in
          let below : nat_lt z x ≡ false = false_from_ne_true (nat_lt z x) (λ w. let v = ltb-true z x w in omega arith) in
          let other : nat_eq z x ≡ false = false_from_ne_true (nat_eq z x) (λ w. let v = eqb-true z x w in omega arith) in
          rw (below, other) refl
      | false ↦ λ f.
          let both = before_cases (nat_lt x y) (nat_eq x y) (before p q) h f in
          let same : x ≡ y = eqb-true x y both.0 in
          let rest : before xs p ≡ false = before_earlier p q xs both.1 parts.1 in
          let below : nat_lt z x ≡ false = false_from_ne_true (nat_lt z x) (λ w. let v = ltb-true z x w in omega arith) in
          let R : Bool → Type 0 = λ b. (b && before xs p) ≡ false in
          rw below (elim (nat_eq z x) as R [ true ↦ rest | false ↦ refl ])
    ]) refl

-- it comes before what comes after something that begins it
pub before_later : (p q xs : List ℕ) → before p q ≡ true → begins p xs ≡ true → before xs q ≡ true
before_later [] q xs h k = absurd (false≢true h)
before_later (x ∷ p) [] xs h k = absurd (false≢true h)
before_later (x ∷ p) (y ∷ q) [] h k = absurd (false≢true k)
before_later (x ∷ p) (y ∷ q) (z ∷ xs) h k =
    let parts = and_parts (nat_eq x z) (begins p xs) k in
    let e : x ≡ z = eqb-true x z parts.0 in
    let Q : Bool → Bool → Type 0 = λ a b. (a || (b && before p q)) ≡ true → (a || (b && before xs q)) ≡ true in
    let go : (a b : Bool) → Q a b = elim [ true ↦ λ b w. refl | false ↦ elim [ true ↦ λ w. before_later p q xs w parts.1 | false ↦ λ w. w ] ] in
    subst (λ (n : ℕ). (nat_lt n y || (nat_eq n y && before xs q)) ≡ true) e (go (nat_lt x y) (nat_eq x y) h)

-- of two in order the earlier comes before the later
pub ordered_at : (ls : List (List ℕ)) → StandInOrder ls → (i j : ℕ) → i < j → j < length ls → before (get_or ls i []) (get_or ls j []) ≡ true
ordered_at [] h i j lt l = absurd (omega arith)
ordered_at (x ∷ ls) h i zero lt l = absurd (omega arith)
ordered_at (x ∷ ls) h zero (suc j) lt l = All-from_recursion (λ y. before x y ≡ true) ls h.0 j [] (omega arith)
ordered_at (x ∷ ls) h (suc i) (suc j) lt l = ordered_at ls h.1 i j (omega arith) (omega arith)

-- where each prefix that begins the list stands from low on and below high
abbrev pub Between : List (List ℕ) → List ℕ → ℕ → ℕ → Type 0
Between ls xs low high = (k : ℕ) → k < length ls → begins (get_or ls k []) xs ≡ true → (low ≤ k) × (k < high)

module _ (ls : List (List ℕ)) (xs : List ℕ) (order : in_order ls ≡ true) (low high middle : ℕ) (inside : middle < length ls) (within : Between ls xs low high) where
  -- a search goes on below what the list comes before
  pub search_below : before xs (get_or ls middle []) ≡ true → Between ls xs low middle
  search_below h k lt b =
      let here : (k ≡ middle) → ⊥ = λ e. false≢true (sym (before_begun (get_or ls k []) xs b) ∙ ap (λ (i : ℕ). before xs (get_or ls i [])) e ∙ h) in
      let above : middle < k → ⊥ = λ l. false≢true (sym (before_earlier (get_or ls middle []) (get_or ls k []) xs (ordered_at ls (order_from_test ls order) middle k l lt) b) ∙ h) in
      let Q : Bool → Type 0 = λ t. nat_lt k middle ≡ t → k < middle in
      let small : k < middle = (elim (nat_lt k middle) as Q [
        | true ↦ λ e. ltb-true k middle e
        | false ↦ λ e. let n : middle ≤ k = grind (arith, nat_tests) in
            let R : Bool → Type 0 = λ t. nat_lt middle k ≡ t → k < middle in
            (elim (nat_lt middle k) as R [ true ↦ λ w. absurd (above (ltb-true middle k w)) | false ↦ λ w. let m : k ≤ middle = grind (arith, nat_tests) in absurd (here (omega arith)) ]) refl
      ]) refl in
      ((within k lt b).0, small)

  -- and from there on else
  pub search_above : before xs (get_or ls middle []) ≡ false → Between ls xs middle high
  search_above h k lt b =
      let under : k < middle → ⊥ = λ l. false≢true (sym h ∙ before_later (get_or ls k []) (get_or ls middle []) xs (ordered_at ls (order_from_test ls order) k middle l inside) b) in
      let Q : Bool → Type 0 = λ t. nat_lt k middle ≡ t → middle ≤ k in
      let big : middle ≤ k = (elim (nat_lt k middle) as Q [ true ↦ λ e. absurd (under (ltb-true k middle e)) | false ↦ λ e. let n : middle ≤ k = grind (arith, nat_tests) in n ]) refl in
      (big, (within k lt b).1)

-- one of the list passes a test, where the test keeps one
pub some_passes : {X : Type 0} (t : X → Bool) (xs : List X) (d : X) → length (filter t xs) ≡ 1 → (k : ℕ) × (k < length xs) × (t (get_or xs k d) ≡ true)
some_passes t [] d h = absurd (omega arith)
some_passes {X = X} t (x ∷ xs) d h =
    let P : Bool → Type 0 = λ b. t x ≡ b → length (cond b (x ∷ filter t xs) (filter t xs)) ≡ 1 → (k : ℕ) × (k < length (x ∷ xs)) × (t (get_or (x ∷ xs) k d) ≡ true) in
    (elim (t x) as P [
      | true ↦ λ e _. (0, omega arith, e)
      | false ↦ λ e n. let r = some_passes t xs d n in (suc r.0, (let lt = r.1 in omega arith), r.2)
    ]) refl h

-- what passes a test is kept
passes_some : {X : Type 0} (t : X → Bool) (xs : List X) (k : ℕ) (d : X) → k < length xs → t (get_or xs k d) ≡ true → 0 < length (filter t xs)
passes_some t [] k d lt h = absurd (omega arith)
passes_some t (x ∷ xs) zero d lt h = rw h (omega arith)
passes_some t (x ∷ xs) (suc k) d lt h =
    let P : Bool → Type 0 = λ b. 0 < length (cond b (x ∷ filter t xs) (filter t xs)) in
    elim (t x) as P [ true ↦ omega arith | false ↦ passes_some t xs k d (omega arith) h ]

-- the one that a test keeps
pub only_one : {X : Type 0} (t : X → Bool) (xs : List X) (k : ℕ) (d : X) → k < length xs → t (get_or xs k d) ≡ true → length (filter t xs) ≡ 1 → filter t xs ≡ get_or xs k d ∷ []
only_one t [] k d lt h n = absurd (omega arith)
only_one t (x ∷ xs) zero d lt h n =
    let cut : filter t (x ∷ xs) ≡ x ∷ filter t xs = rw h refl in
    cut ∙ ap (λ ys. x ∷ ys) (nil_from_length (filter t xs) (let m = ap length cut in omega arith))
only_one {X = X} t (x ∷ xs) (suc k) d lt h n =
    let P : Bool → Type 0 = λ b. length (cond b (x ∷ filter t xs) (filter t xs)) ≡ 1 → cond b (x ∷ filter t xs) (filter t xs) ≡ get_or xs k d ∷ [] in
    (elim (t x) as P [
      | true ↦ λ m. let some = passes_some t xs k d (omega arith) h in absurd (omega arith)
      | false ↦ λ m. only_one t xs k d (omega arith) h m
    ]) n

-- a map that changes nothing of what a test drops
map_none : {X : Type 0} (t : X → Bool) (f : X → X) → ((x : X) → t x ≡ false → f x ≡ x) → (xs : List X) → filter t xs ≡ [] → map f xs ≡ xs
map_none t f keep [] h = refl
map_none {X = X} t f keep (x ∷ xs) h =
    let P : Bool → Type 0 = λ b. t x ≡ b → cond b (x ∷ filter t xs) (filter t xs) ≡ [] → f x ∷ map f xs ≡ x ∷ xs in
    (elim (t x) as P [
      | true ↦ λ e m. let n = ap length m in absurd (omega arith)
      | false ↦ λ e m. let a = keep x e in let r = map_none t f keep xs m in cc
    ]) refl h

-- a map that changes what a test keeps alone is a write at its place
pub map_one : {X : Type 0} (t : X → Bool) (f : X → X) → ((x : X) → t x ≡ false → f x ≡ x) → (xs : List X) (k : ℕ) (d : X) → k < length xs → t (get_or xs k d) ≡ true → length (filter t xs) ≡ 1
    → slice_set xs k (f (get_or xs k d)) ≡ map f xs
map_one t f keep [] k d lt h n = absurd (omega arith)
map_one t f keep (x ∷ xs) zero d lt h n =
    let cut : filter t (x ∷ xs) ≡ x ∷ filter t xs = rw h refl in
    ap (λ ys. f x ∷ ys) (sym (map_none t f keep xs (nil_from_length (filter t xs) (let m = ap length cut in omega arith))))
map_one {X = X} t f keep (x ∷ xs) (suc k) d lt h n =
    let P : Bool → Type 0 = λ b. t x ≡ b → length (cond b (x ∷ filter t xs) (filter t xs)) ≡ 1 → x ∷ slice_set xs k (f (get_or xs k d)) ≡ f x ∷ map f xs in
    (elim (t x) as P [
      | true ↦ λ e m. let some = passes_some t xs k d (omega arith) h in absurd (omega arith)
      | false ↦ λ e m. let a = keep x e in let r = map_one t f keep xs k d (omega arith) h m in cc
    ]) refl n

-- what holds of the one that a test keeps holds of each that passes it
kept_decides : {X : Type 0} (t : X → Bool) (P : X → Type 0) (xs : List X) → AllByRecursion P (filter t xs) → AllByRecursion (λ x. t x ≡ true → P x) xs
kept_decides t P [] h = tt
kept_decides {X = X} t P (x ∷ xs) h =
    let Q : Bool → Type 0 = λ b. t x ≡ b → AllByRecursion P (cond b (x ∷ filter t xs) (filter t xs)) → AllByRecursion (λ y. t y ≡ true → P y) (x ∷ xs) in
    (elim (t x) as Q [
      | true ↦ λ e k. ((λ _. k.0), kept_decides t P xs k.1)
      | false ↦ λ e k. ((λ m. absurd (false≢true (sym e ∙ m))), kept_decides t P xs k)
    ]) refl h

-- a fact of the one that a test keeps
pub one_decides : {X : Type 0} (t : X → Bool) (P : X → Type 0) (xs : List X) (y : X) → filter t xs ≡ y ∷ [] → P y → All (λ x. t x ≡ true → P x) xs
one_decides t P xs y e h = All-from_recursion (λ x. t x ≡ true → P x) xs (kept_decides t P xs (subst (AllByRecursion P) (sym e) (h, tt)))

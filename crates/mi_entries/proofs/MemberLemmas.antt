-- What stands in a list.
use Rattle.std.proofs.Common.{◌≡◌, ◌⊎◌, ℕ, suc, ◌<◌, List, [], ◌∷◌, map, Bool, true, false, cond, inl, inr, ⊎_elim, refl, sym, ap, ◌∙◌, subst, arith, Some}
use Rattle.std.specs.Prelude.{slice_get}
use Rattle.std.specs.List.{AllByRecursion, filter, find, sum_by}
use Rattle.std.proofs.lemmas.Bool.{false≢true}
use Rattle.std.proofs.lemmas.List.Sums.{sum_by-cons}
use Rattle.std.proofs.lemmas.Option.{same_Some}

-- one of a list
abbrev pub IsOne : {X : Type 0} → X → List X → Type 0
IsOne x [] = ⊥
IsOne x (y ∷ ys) = (y ≡ x) ⊎ IsOne x ys

module _ {X : Type 0} where
  pub all_one : (P : X → Type 0) (xs : List X) (x : X) → AllByRecursion P xs → IsOne x xs → P x
  all_one P [] x h i = absurd i
  all_one P (y ∷ xs) x h i = ⊎_elim (λ e. subst P e h.0) (λ t. all_one P xs x h.1 t) i

  pub find_in : (t : X → Bool) (xs : List X) (x : X) → find t xs ≡ Some x → (t x ≡ true) × IsOne x xs
  find_in t [] x e = absurd cc
  find_in t (y ∷ xs) x e =
      let P : Bool → Type 0 = λ b. t y ≡ b → cond b (Some y) (find t xs) ≡ Some x → (t x ≡ true) × IsOne x (y ∷ xs) in
      (elim (t y) as P [ true ↦ λ b e. let same : y ≡ x = same_Some y x e in (subst (λ (z : X). t z ≡ true) same b, inl same) | false ↦ λ b e. let r = find_in t xs x e in (r.0, inr r.1) ]) refl e

  pub filter_in : (t : X → Bool) (xs : List X) (x : X) → IsOne x (filter t xs) → IsOne x xs × (t x ≡ true)
  filter_in t [] x h = absurd h
  filter_in t (y ∷ xs) x h =
      let P : Bool → Type 0 = λ b. t y ≡ b → IsOne x (cond b (y ∷ filter t xs) (filter t xs)) → IsOne x (y ∷ xs) × (t x ≡ true) in
      (elim (t y) as P [
        | true ↦ λ b h. ⊎_elim (λ e. (inl e, subst (λ (z : X). t z ≡ true) e b)) (λ g. let r = filter_in t xs x g in (inr r.0, r.1)) h
        | false ↦ λ b h. let r = filter_in t xs x h in (inr r.0, r.1)
      ]) refl h

  pub in_filter : (t : X → Bool) (xs : List X) (x : X) → IsOne x xs → t x ≡ true → IsOne x (filter t xs)
  in_filter t [] x h p = absurd h
  in_filter t (y ∷ xs) x h p =
      let P : Bool → Type 0 = λ b. t y ≡ b → IsOne x (cond b (y ∷ filter t xs) (filter t xs)) in
      (elim (t y) as P [
        | true ↦ λ b. ⊎_elim (λ e. inl e) (λ g. inr (in_filter t xs x g p)) h
        | false ↦ λ b. ⊎_elim (λ e. absurd (false≢true (sym b ∙ ap t e ∙ p))) (λ g. in_filter t xs x g p) h
      ]) refl

  pub map_in : {Y : Type 0} (f : Y → X) (ys : List Y) (x : X) → IsOne x (map f ys) → (y : Y) × IsOne y ys × (f y ≡ x)
  map_in f [] x h = absurd h
  map_in f (y ∷ ys) x h = ⊎_elim (λ e. (y, inl refl, e)) (λ g. let r = map_in f ys x g in (r.0, inr r.1, r.2)) h

  pub one_at : (xs : List X) (x : X) → IsOne x xs → (i : ℕ) × (slice_get xs i ≡ Some x)
  one_at [] x h = absurd h
  one_at (y ∷ xs) x h = ⊎_elim (λ e. (0, ap Some e)) (λ g. let r = one_at xs x g in (suc r.0, r.1)) h

  abbrev pub passing : (X → Bool) → X → ℕ
  passing t x = cond (t x) 1 0

  pub some_pass : (t : X → Bool) (xs : List X) (x : X) → IsOne x xs → t x ≡ true → 0 < sum_by (passing t) xs
  some_pass t [] x h p = absurd h
  some_pass t (y ∷ xs) x h p = ⊎_elim
      (λ e. let one : passing t y ≡ 1 = ap (λ b. cond {A = ℕ} b 1 0) (ap t e ∙ p) in omega (arith, sum_by-cons (passing t) y xs, one))
      (λ g. omega (arith, sum_by-cons (passing t) y xs, some_pass t xs x g p)) h

  pub pass_some : (t : X → Bool) (xs : List X) → 0 < sum_by (passing t) xs → (x : X) × IsOne x xs × (t x ≡ true)
  pass_some t [] h = absurd (omega arith)
  pass_some t (y ∷ xs) h =
      let P : Bool → Type 0 = λ b. t y ≡ b → (x : X) × IsOne x (y ∷ xs) × (t x ≡ true) in
      (elim (t y) as P [
        | true ↦ λ e. (y, inl refl, e)
        | false ↦ λ e. let none : passing t y ≡ 0 = ap (λ b. cond {A = ℕ} b 1 0) e in let r = pass_some t xs (omega (arith, sum_by-cons (passing t) y xs, none, h)) in (r.0, inr r.1, r.2)
      ]) refl

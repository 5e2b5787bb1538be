-- Entries that a test keeps.
use Rattle.std.proofs.Common.{◌≡◌, ℕ, zero, suc, ◌<◌, List, [], ◌∷◌, length, get_or, Bool, true, false, cond, ◌&&◌, refl, sym, ap, ◌∙◌, subst, arith}
use Rattle.std.specs.List.{AllByRecursion, filter}
use Rattle.std.proofs.lemmas.Bool.{false≢true}

pub both : (a b : Bool) → a ≡ true → b ≡ true → (a && b) ≡ true
both a b h k = rw (h, k) refl

-- a fact of each element that a test keeps, at a place
kept_at : {X : Type 0} (P : X → Type 0) (t : X → Bool) (xs : List X) (i : ℕ) (d : X) → i < length xs → t (get_or xs i d) ≡ true → AllByRecursion P (filter t xs) → P (get_or xs i d)
kept_at P t [] i d lt h all = absurd (omega arith)
kept_at {X = X} P t (x ∷ xs) zero d lt h all =
    let Q : Bool → Type 0 = λ b. b ≡ true → AllByRecursion P (cond b (x ∷ filter t xs) (filter t xs)) → P x in
    (elim (t x) as Q [ true ↦ λ _ a. a.0 | false ↦ λ e _. absurd (false≢true e) ]) h all
kept_at {X = X} P t (x ∷ xs) (suc i) d lt h all =
    let Q : Bool → Type 0 = λ b. AllByRecursion P (cond b (x ∷ filter t xs) (filter t xs)) → AllByRecursion P (filter t xs) in
    kept_at P t xs i d (omega arith) h ((elim (t x) as Q [ true ↦ λ a. a.1 | false ↦ λ a. a ]) all)

pub taken_at : {X : Type 0} (P : X → Type 0) (t : X → Bool) (xs : List X) (i : ℕ) (x : X) → i < length xs → x ≡ get_or xs i x → t x ≡ true → AllByRecursion P (filter t xs) → P x
taken_at P t xs i x lt is h all = subst P (sym is) (kept_at P t xs i x lt (ap t (sym is) ∙ h) all)

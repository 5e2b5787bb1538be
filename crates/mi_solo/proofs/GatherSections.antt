-- Entries that are gathered one by one.
use Rattle.std.proofs.Common.{◌≡◌, ℕ, ◌+◌, List, [], ◌∷◌, ◌++◌, take, Bool, true, false, cond, refl, ap, ◌∙◌, Some}
use Rattle.std.specs.Prelude.{slice_get}
use Rattle.std.specs.List.{filter}
use Rattle.std.proofs.lemmas.List.{take_more}
use Rattle.std.proofs.lemmas.Option.{get_or_from_slice_get, slice_get_within}

-- a list up to the next element
pub one_more : {X : Type 0} (xs : List X) (i : ℕ) (x : X) → slice_get xs i ≡ Some x → take (i + 1) xs ≡ take i xs ++ x ∷ []
one_more xs i x at = take_more xs i x (slice_get_within xs i x at) ∙ ap (λ y. take i xs ++ y ∷ []) (get_or_from_slice_get xs i x x at)

-- what passes of a list with one element more
pub filter_one : {X : Type 0} (t : X → Bool) (xs : List X) (x : X) → filter t (xs ++ x ∷ []) ≡ filter t xs ++ cond (t x) (x ∷ []) []
filter_one t [] x = refl
filter_one t (y ∷ xs) x =
    let P : Bool → Type 0 = λ b. cond b (y ∷ filter t (xs ++ x ∷ [])) (filter t (xs ++ x ∷ [])) ≡ cond b (y ∷ filter t xs) (filter t xs) ++ cond (t x) (x ∷ []) [] in
    elim (t y) as P [ true ↦ ap (λ zs. y ∷ zs) (filter_one t xs x) | false ↦ filter_one t xs x ]

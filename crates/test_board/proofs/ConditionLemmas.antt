-- What a caller finds in a log and in its cells.
use Rattle.std.proofs.Common.{◌≡◌, ℕ, List, Bool, true, ap, ◌∙◌, Some}
use Rattle.std.specs.List.{list_any, slice_get}
use Rattle.std.proofs.lemmas.List.Folds.{list_any_at}
use Rattle.std.proofs.lemmas.Option.{slice_get_within, get_or_from_slice_get}

-- an element that passes a test is one that does
pub any_at : {X : Type 0} (p : X → Bool) (xs : List X) (i : ℕ) (x : X) → slice_get xs i ≡ Some x → p x ≡ true → list_any p xs ≡ true
any_at p xs i x at h = list_any_at p xs i x (slice_get_within xs i x at) (ap p (get_or_from_slice_get xs i x x at) ∙ h)

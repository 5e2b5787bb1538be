-- Contents by name.
use Rattle.std.specs.Prelude.{◌≡◌, ◌≢◌, ℕ, List, [], ◌∷◌, take, Option, None, Some, slice_get, if◌then◌else◌}
use Rattle.std.specs.Str.{bytes_eq}

-- what is held under a name
abbrev pub content_of : List (List ℕ × List ℕ) → List ℕ → Option (List ℕ)
content_of [] name = None
content_of (file ∷ files) name = if bytes_eq file.0 name then Some file.1 else content_of files name

-- the name was given this content, and every other name holds what it held
pub record SetsContent (old new : List (List ℕ × List ℕ)) (name content : List ℕ) : Type 0 where
  pub given : content_of new name ≡ Some content
  pub others : (n : List ℕ) → n ≢ name → content_of new n ≡ content_of old n

-- the first place of a name
pub record IsPlace (files : List (List ℕ × List ℕ)) (name : List ℕ) (place : ℕ) : Type 0 where
  pub content : List ℕ
  pub here : slice_get files place ≡ Some (name, content)
  pub first : content_of (take place files) name ≡ None

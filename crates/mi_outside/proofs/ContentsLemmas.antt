-- What a list of files holds after one of them was replaced, or one was added.
use Rattle.std.proofs.Common.{◌≡◌, ◌≢◌, length, get_or, ℕ, zero, suc, ◌<◌, arith, List, [], ◌∷◌, ◌++◌, take, set, Bool, true, false, cond, Option, None, Some, refl, sym, ◌∙◌, ap, subst}
use Rattle.std.specs.Prelude.{slice_get, map, option_map, string_bytes}
use Rattle.std.proofs.lemmas.Option.{slice_get-map, slice_get_read, slice_get_within}
use Rattle.std.proofs.lemmas.List.{length-map, map-set, map-append}
use Rattle.std.specs.Str.{bytes_eq}
use Rattle.std.proofs.lemmas.Slice.Eq.{bytes_eq-Decides}
use Rattle.mi_outside.specs.declared.folder.Held.{Held}
use Rattle.mi_outside.specs.Folders.{file_of}
use Rattle.mi_outside.specs.Contents.{content_of, SetsContent, IsPlace}

-- a name is itself
same_name : (name : List ℕ) → bytes_eq name name ≡ true
same_name name = (bytes_eq-Decides name name).1 refl

false_of : (b : Bool) → (b ≡ true → ⊥) → b ≡ false
false_of true never = absurd (never refl)
false_of false never = refl

-- another name isn't
other_name : (name n : List ℕ) → n ≢ name → bytes_eq name n ≡ false
other_name name n other = false_of (bytes_eq name n) (λ yes. other (sym ((bytes_eq-Decides name n).0 yes)))

-- nothing is held, so neither the first file nor the others are it
skips : (b : Bool) (x : List ℕ) (o : Option (List ℕ)) → cond b (Some x) o ≡ None → (b ≡ false) × (o ≡ None)
skips true x o none = let never : ⊥ = cc in absurd never
skips false x o none = (refl, none)

-- where the front holds nothing, the rest decides
held-append : (xs ys : List (List ℕ × List ℕ)) (name : List ℕ) → content_of xs name ≡ None → content_of (xs ++ ys) name ≡ content_of ys name
held-append [] ys name none = refl
held-append (x ∷ xs) ys name none =
    let s = skips (bytes_eq x.0 name) x.1 (content_of xs name) none in
    rw (s.0) (held-append xs ys name s.1)

-- what stands at the first place of the name is held
pub held_at : (files : List (List ℕ × List ℕ)) (place : ℕ) (name content : List ℕ) → slice_get files place ≡ Some (name, content) → content_of (take place files) name ≡ None → content_of files name ≡ Some content
held_at [] place name content here first = let never : ⊥ = cc in absurd never
held_at (x ∷ xs) zero name content here first =
    let is : x ≡ (name, content) = cc in
    rw is (rw (same_name name))
held_at (x ∷ xs) (suc k) name content here first =
    let s = skips (bytes_eq x.0 name) x.1 (content_of (take k xs) name) first in
    rw (s.0) (held_at xs k name content here s.1)

-- the first file of a name was replaced
pub gives_set : (files : List (List ℕ × List ℕ)) (place : ℕ) (name was content : List ℕ) → slice_get files place ≡ Some (name, was) → content_of (take place files) name ≡ None → SetsContent files (set files place (name, content)) name content
gives_set [] place name was content here first = let never : ⊥ = cc in absurd never
gives_set (x ∷ xs) zero name was content here first =
    let is : x ≡ (name, was) = cc in
    record {
      given = rw (same_name name);
      others = λ n other. rw (is, other_name name n other);
    }
gives_set (x ∷ xs) (suc k) name was content here first =
    let s = skips (bytes_eq x.0 name) x.1 (content_of (take k xs) name) first in
    let rest = gives_set xs k name was content here s.1 in
    record {
      given = rw (s.0) (rest.given);
      others = λ n other. ap (λ (o : Option (List ℕ)). cond (bytes_eq x.0 n) (Some x.1) o) (rest.others n other);
    }

others-append : (files : List (List ℕ × List ℕ)) (name content n : List ℕ) → n ≢ name → content_of (files ++ (name, content) ∷ []) n ≡ content_of files n
others-append [] name content n other = rw (other_name name n other)
others-append (x ∷ xs) name content n other =
    ap (λ (o : Option (List ℕ)). cond (bytes_eq x.0 n) (Some x.1) o) (others-append xs name content n other)

-- a file was added under a new name
pub gives_append : (files : List (List ℕ × List ℕ)) (name content : List ℕ) → content_of files name ≡ None → SetsContent files (files ++ (name, content) ∷ []) name content
gives_append files name content none =
    record {
      given = held-append files ((name, content) ∷ []) name none ∙ rw (same_name name);
      others = λ n other. others-append files name content n other;
    }

-- one more file isn't of the name
pub held_none_more : (files : List (List ℕ × List ℕ)) (place : ℕ) (name other content : List ℕ) → slice_get files place ≡ Some (other, content) → bytes_eq other name ≡ false → content_of (take place files) name ≡ None → content_of (take (suc place) files) name ≡ None
held_none_more [] place name other content here differs first = refl
held_none_more (x ∷ xs) zero name other content here differs first =
    let is : x ≡ (other, content) = cc in
    rw (is, differs)
held_none_more (x ∷ xs) (suc k) name other content here differs first =
    let s = skips (bytes_eq x.0 name) x.1 (content_of (take k xs) name) first in
    rw (s.0) (held_none_more xs k name other content here differs s.1)

-- a file that is read is seen at its place
pub here_from : (items seen : List Held) (files : List (List ℕ × List ℕ)) (place : ℕ) (x : Held) → seen ≡ items → map file_of items ≡ files → place < length seen → x ≡ get_or seen place x → slice_get files place ≡ Some (file_of x)
here_from items seen files place x same shown within is =
    subst (λ (v : List (List ℕ × List ℕ)). slice_get v place ≡ Some (file_of x)) (ap (λ (v : List Held). map file_of v) same ∙ shown)
    (slice_get-map file_of seen place ∙ ap (option_map file_of) (slice_get_read seen (length seen) place x refl within is))

-- a file whose name compares equal has that name
pub is_named : (files : List (List ℕ × List ℕ)) (place : ℕ) (other name content : List ℕ) → slice_get files place ≡ Some (other, content) → true ≡ bytes_eq other name → slice_get files place ≡ Some (name, content)
is_named files place other name content here same =
    here ∙ ap (λ (v : List ℕ). Some (v, content)) ((bytes_eq-Decides other name).0 (sym same))

-- what is read at the first place of the name is held
pub held_read : (items : List Held) (files : List (List ℕ × List ℕ)) (name : List ℕ) (place : ℕ) (x : Held) → map file_of items ≡ files → IsPlace files name place → x ≡ get_or items place x → content_of files name ≡ Some x.content.items
held_read items files name place x shown at is =
    let inside : place < length files = slice_get_within files place (name, at.content) at.here in
    let within : place < length items = omega (arith, inside, ap length shown, length-map items file_of) in
    let here : slice_get files place ≡ Some (file_of x) = here_from items items files place x refl shown within is in
    let same : file_of x ≡ (name, at.content) = let both : Some (file_of x) ≡ Some (name, at.content) = sym here ∙ at.here in cc in
    held_at files place name at.content at.here at.first ∙ ap Some (sym (ap (λ (v : List ℕ × List ℕ). v.1) same))

-- a file was put at the first place of its name
pub gives_put : (items : List Held) (files : List (List ℕ × List ℕ)) (name content : List ℕ) (place : ℕ) (x : Held) → map file_of items ≡ files → IsPlace files name place → string_bytes x.name ≡ name → x.content.items ≡ content → SetsContent files (map file_of (set items place x)) name content
gives_put items files name content place x shown at named holds =
    let there : map file_of (set items place x) ≡ set files place (name, content) =
    map-set file_of items place x ∙ ap (λ (v : List (List ℕ × List ℕ)). set v place (file_of x)) shown
    ∙ ap (λ (v : List ℕ). set files place (v, x.content.items)) named
    ∙ ap (λ (v : List ℕ). set files place (name, v)) holds
    in
    subst (λ (v : List (List ℕ × List ℕ)). SetsContent files v name content) (sym there)
    (gives_set files place name at.content content at.here at.first)

-- a file was pushed under a new name
pub gives_push : (items new : List Held) (files : List (List ℕ × List ℕ)) (name content : List ℕ) (x : Held) → map file_of items ≡ files → new ≡ items ++ x ∷ [] → content_of files name ≡ None → string_bytes x.name ≡ name → x.content.items ≡ content → SetsContent files (map file_of new) name content
gives_push items new files name content x shown pushed none named holds =
    let there : map file_of new ≡ files ++ (name, content) ∷ [] =
    ap (λ (v : List Held). map file_of v) pushed
    ∙ map-append file_of items (x ∷ [])
    ∙ ap (λ (v : List (List ℕ × List ℕ)). v ++ file_of x ∷ []) shown
    ∙ ap (λ (v : List ℕ). files ++ (v, x.content.items) ∷ []) named
    ∙ ap (λ (v : List ℕ). files ++ (name, v) ∷ []) holds
    in
    subst (λ (v : List (List ℕ × List ℕ)). SetsContent files v name content) (sym there)
    (gives_append files name content none)

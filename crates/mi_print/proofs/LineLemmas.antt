-- A line, told from the front of a text: its word, its fields, and the text behind it.
use Rattle.std.proofs.Common.{◌≡◌, ℕ, List, [], ◌∷◌, ◌++◌, map, Bool, false, not, ◌&&◌, ◌==◌, IsTrue, bytes_eq, refl, sym, ◌∙◌, arith, append_assoc, ne_eqb}
use Rattle.std.specs.Fmt.{decimal}
use Rattle.std.proofs.lemmas.Bool.Decides.{not_from_Decides}
use Rattle.std.proofs.lemmas.Slice.Eq.{bytes_eq-Decides}
use Rattle.std.specs.List.{list_all}
use Rattle.mi_print.specs.Render.{after_commas, line, number_line}
use Rattle.mi_print.specs.Meaning.{AreNumbers}
use Rattle.mi_print.proofs.CutLemmas.{joined, joined_is, AllPass, first_same, joined_same}
use Rattle.mi_print.proofs.NumberLemmas.{TakesDigits, decimals_pass, decimals_same}

-- neither a comma nor a line feed
abbrev pub is_inner : ℕ → Bool
is_inner b = not (b == 44) && not (b == 10)

abbrev pub IsField : List ℕ → Type 0
IsField s = IsTrue (list_all is_inner s)

abbrev pub AreFields : List (List ℕ) → Type 0
AreFields fields = AllPass is_inner fields

pub inner_digits : TakesDigits is_inner
inner_digits = record { takes = λ c low high. rw (ne_eqb c 44 (λ e. omega arith), ne_eqb c 10 (λ e. omega arith)) refl }

-- words that a test tells apart
pub words_differ : (v w : List ℕ) → bytes_eq v w ≡ false → v ≡ w → ⊥
words_differ v w e = not_from_Decides (bytes_eq v w) (bytes_eq-Decides v w) e

-- a line and what follows it
line_joined : (f : List ℕ) (fields : List (List ℕ)) (a : List ℕ) → line f fields ++ a ≡ joined 44 10 f fields a
line_joined f fields a = append_assoc (f ++ after_commas fields) (10 ∷ []) a ∙ append_assoc f (after_commas fields) (10 ∷ a) ∙ joined_is 44 10 f fields a

-- the first field of a line is told, whatever follows it
pub word_same : (f g : List ℕ) (xs ys : List (List ℕ)) (a b : List ℕ) → IsField f → IsField g → line f xs ++ a ≡ line g ys ++ b → f ≡ g
word_same f g xs ys a b hf hg e = first_same is_inner 44 10 refl refl f g xs ys a b hf hg (sym (line_joined f xs a) ∙ e ∙ line_joined g ys b)

-- a line of fields is told
pub line_same : (f g : List ℕ) (xs ys : List (List ℕ)) (a b : List ℕ) → IsField f → IsField g → AreFields xs → AreFields ys
    → line f xs ++ a ≡ line g ys ++ b → (f ≡ g) × (xs ≡ ys) × (a ≡ b)
line_same f g xs ys a b hf hg hx hy e =
    joined_same is_inner 44 10 refl refl (λ same. omega arith) f g xs ys a b hf hg hx hy (sym (line_joined f xs a) ∙ e ∙ line_joined g ys b)

-- a line of a word and numbers is told in decimals
number_line_cut : (f g : List ℕ) (ns ms : List ℕ) (a b : List ℕ) → IsField f → IsField g → number_line f ns ++ a ≡ number_line g ms ++ b → (f ≡ g) × (map decimal ns ≡ map decimal ms) × (a ≡ b)
number_line_cut f g ns ms a b hf hg e = line_same f g (map decimal ns) (map decimal ms) a b hf hg (decimals_pass is_inner inner_digits ns) (decimals_pass is_inner inner_digits ms) e

-- what follows a line of a word and numbers
pub after_line : (f g : List ℕ) (ns ms : List ℕ) (a b : List ℕ) → IsField f → IsField g → number_line f ns ++ a ≡ number_line g ms ++ b → a ≡ b
after_line f g ns ms a b hf hg e = (number_line_cut f g ns ms a b hf hg e).2

-- a line of a word and numbers of 64 bits is told
pub number_line_same : (f g : List ℕ) (ns ms : List ℕ) (a b : List ℕ) → IsField f → IsField g → AreNumbers ns → AreNumbers ms
    → number_line f ns ++ a ≡ number_line g ms ++ b → (f ≡ g) × (ns ≡ ms) × (a ≡ b)
number_line_same f g ns ms a b hf hg hn hm e =
    let told = number_line_cut f g ns ms a b hf hg e in
    (told.0, decimals_same ns ms hn hm told.1, told.2)

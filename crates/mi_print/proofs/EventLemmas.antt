-- Events and leaves, told from the front of a text, a line each.
use Rattle.std.proofs.Common.{◌≡◌, ℕ, List, [], ◌∷◌, ◌++◌, Bool, not, ◌&&◌, ◌==◌, map, refl, sym, ap, ap₂, ◌∙◌, append_assoc, arith, ne_eqb}
use Rattle.std.specs.Prelude.{codes}
use Rattle.std.specs.Fmt.{decimal, signed_decimal}
use Rattle.std.specs.List.{flat_map, list_all}
use Rattle.std.proofs.lemmas.Bool.{and_from}
use Rattle.std.proofs.lemmas.List.Folds.{flat_map-map, list_all-append}
use Rattle.mi_base.specs.declared.records.Update.TheVariants as update
use Rattle.mi_base.specs.declared.records.LogEvent.{LogEvent}
use Rattle.mi_base.specs.declared.records.LogEvent.TheVariants as event
use Rattle.mi_print.specs.Render.{line, number_line, prefix_text, event_line}
use Rattle.mi_print.specs.Meaning.{AreNumbers, IsPrintableEvent, Cell}
use Rattle.mi_print.proofs.CutLemmas.{joined, joined_is, joined_same}
use Rattle.mi_print.proofs.NumberLemmas.{TakesDigits, decimal_begins, decimal_passes, decimals_pass, signed_pass, decimals_same, coordinates_same}
use Rattle.mi_print.proofs.LineLemmas.{is_inner, IsField, AreFields, inner_digits, words_differ, word_same, line_same, number_line_same}
use Rattle.mi_print.proofs.RunLemmas.{Tells, BeginsNone}

both_inner : (s t : List ℕ) → IsField s → IsField t → IsField (s ++ t)
both_inner s t hs ht = list_all-append is_inner s t ∙ and_from (list_all is_inner s) (list_all is_inner t) hs ht

-- no point, and no line feed, which stands behind the prefix here
abbrev is_pivot_byte : ℕ → Bool
is_pivot_byte b = not (b == 46) && not (b == 10)

pivot_digits : TakesDigits is_pivot_byte
pivot_digits = record { takes = λ c low high. rw (ne_eqb c 46 (λ e. omega arith), ne_eqb c 10 (λ e. omega arith)) refl }

-- the pivots, with points between them
prefix_joined : (p : ℕ) (ps : List ℕ) → prefix_text (p ∷ ps) ++ 10 ∷ [] ≡ joined 46 10 (decimal p) (map decimal ps) []
prefix_joined p ps =
    ap (λ t. (decimal p ++ t) ++ 10 ∷ []) (sym (flat_map-map (λ (q : List ℕ). 46 ∷ q) decimal ps))
    ∙ append_assoc (decimal p) (flat_map (λ q. 46 ∷ q) (map decimal ps)) (10 ∷ []) ∙ joined_is 46 10 (decimal p) (map decimal ps) []

-- a dash is no pivot's number
no_dash : (p : ℕ) (ps : List ℕ) → prefix_text (p ∷ ps) ≡ codes "-" → ⊥
no_dash p ps e = decimal_begins p (flat_map (λ q. 46 ∷ decimal q) ps) 45 [] refl e

points_inner : (ps : List ℕ) → IsField (flat_map (λ q. 46 ∷ decimal q) ps)
points_inner [] = refl
points_inner (p ∷ ps) = both_inner (46 ∷ decimal p) (flat_map (λ q. 46 ∷ decimal q) ps) (decimal_passes is_inner inner_digits p) (points_inner ps)

-- a prefix is a field
prefix_inner : (p : List ℕ) → IsField (prefix_text p)
prefix_inner [] = refl
prefix_inner (p ∷ ps) = both_inner (decimal p) (flat_map (λ q. 46 ∷ decimal q) ps) (decimal_passes is_inner inner_digits p) (points_inner ps)

prefix_same : (p q : List ℕ) → AreNumbers p → AreNumbers q → prefix_text p ≡ prefix_text q → p ≡ q
prefix_same [] [] hp hq e = refl
prefix_same [] (y ∷ ys) hp hq e = absurd (no_dash y ys (sym e))
prefix_same (x ∷ xs) [] hp hq e = absurd (no_dash x xs e)
prefix_same (x ∷ xs) (y ∷ ys) hp hq e =
    let t = joined_same is_pivot_byte 46 10 refl refl (λ same. omega arith) (decimal x) (decimal y) (map decimal xs) (map decimal ys) [] []
    (decimal_passes is_pivot_byte pivot_digits x) (decimal_passes is_pivot_byte pivot_digits y) (decimals_pass is_pivot_byte pivot_digits xs) (decimals_pass is_pivot_byte pivot_digits ys)
    (sym (prefix_joined x xs) ∙ ap (λ s. s ++ 10 ∷ []) e ∙ prefix_joined y ys) in
    let first : decimal x ≡ decimal y = t.0 in
    let others : map decimal xs ≡ map decimal ys = t.1 in
    decimals_same (x ∷ xs) (y ∷ ys) hp hq cc

abbrev event_word : LogEvent → List ℕ
event_word (event.Update session op (update.Insert id vector)) = codes "insert"
event_word (event.Update session op (update.Delete id)) = codes "delete"
event_word (event.Split prefix) = codes "split"

abbrev event_fields : LogEvent → List (List ℕ)
event_fields (event.Update session op (update.Insert id vector)) = decimal session ∷ decimal op ∷ decimal id ∷ map signed_decimal vector
event_fields (event.Update session op (update.Delete id)) = map decimal (session ∷ op ∷ id ∷ [])
event_fields (event.Split prefix) = prefix_text prefix ∷ []

event_text : (e : LogEvent) → event_line e ≡ line (event_word e) (event_fields e)
event_text (event.Update session op (update.Insert id vector)) = refl
event_text (event.Update session op (update.Delete id)) = refl
event_text (event.Split prefix) = refl

event_word_inner : (e : LogEvent) → IsField (event_word e)
event_word_inner (event.Update session op (update.Insert id vector)) = refl
event_word_inner (event.Update session op (update.Delete id)) = refl
event_word_inner (event.Split prefix) = refl

event_fields_inner : (e : LogEvent) → AreFields (event_fields e)
event_fields_inner (event.Update session op (update.Insert id vector)) =
    let numbers = decimals_pass is_inner inner_digits (session ∷ op ∷ id ∷ []) in
    (numbers.0, (numbers.1.0, (numbers.1.1.0, signed_pass is_inner inner_digits refl vector)))
event_fields_inner (event.Update session op (update.Delete id)) = decimals_pass is_inner inner_digits (session ∷ op ∷ id ∷ [])
event_fields_inner (event.Split prefix) = (prefix_inner prefix, tt)

-- the word and the fields make the event
event_same : (d e : LogEvent) → IsPrintableEvent d → IsPrintableEvent e → event_word d ≡ event_word e → event_fields d ≡ event_fields e → d ≡ e
event_same (event.Update s o (update.Insert i v)) (event.Update t p (update.Insert j w)) hd he word fields =
    let numbers : map decimal (s ∷ o ∷ i ∷ []) ≡ map decimal (t ∷ p ∷ j ∷ []) = cc in
    let coordinates : map signed_decimal v ≡ map signed_decimal w = cc in
    let those : s ∷ o ∷ i ∷ [] ≡ t ∷ p ∷ j ∷ [] = decimals_same (s ∷ o ∷ i ∷ []) (t ∷ p ∷ j ∷ []) hd.0 he.0 numbers in
    let vectors : v ≡ w = coordinates_same v w hd.1 he.1 coordinates in
    cc
event_same (event.Update s o (update.Delete i)) (event.Update t p (update.Delete j)) hd he word fields =
    let those : s ∷ o ∷ i ∷ [] ≡ t ∷ p ∷ j ∷ [] = decimals_same (s ∷ o ∷ i ∷ []) (t ∷ p ∷ j ∷ []) hd he fields in
    cc
event_same (event.Split p) (event.Split q) hd he word fields =
    let texts : prefix_text p ≡ prefix_text q = cc in
    ap event.Split (prefix_same p q hd he texts)
event_same (event.Split p) (event.Update t o (update.Insert j w)) hd he word fields = absurd (words_differ (codes "split") (codes "insert") refl word)
event_same d e hd he word fields = absurd (words_differ (event_word d) (event_word e) refl word)

pub event_tells : Tells IsPrintableEvent event_line
event_tells = record {
  told = λ d e a b gd ge same.
      let t = line_same (event_word d) (event_word e) (event_fields d) (event_fields e) a b (event_word_inner d) (event_word_inner e) (event_fields_inner d) (event_fields_inner e)
      (sym (ap (λ s. s ++ a) (event_text d)) ∙ same ∙ ap (λ s. s ++ b) (event_text e)) in
      (event_same d e gd ge t.0 t.1, t.2);
}

abbrev pub IsPrintableCell : Cell → Type 0
IsPrintableCell c = AreNumbers (c.count ∷ c.prefix)

abbrev pub cell_line : Cell → List ℕ
cell_line c = number_line (prefix_text c.prefix) (c.count ∷ [])

abbrev cell_from : List ℕ → ℕ → Cell
cell_from prefix count = record { prefix = prefix; count = count }

pub cell_tells : Tells IsPrintableCell cell_line
cell_tells = record {
  told = λ x y a b gx gy e.
      let t = number_line_same (prefix_text x.prefix) (prefix_text y.prefix) (x.count ∷ []) (y.count ∷ []) a b (prefix_inner x.prefix) (prefix_inner y.prefix) (gx.0, tt) (gy.0, tt) e in
      let lists : x.count ∷ [] ≡ y.count ∷ [] = t.1 in
      let counts : x.count ≡ y.count = cc in
      (ap₂ cell_from (prefix_same x.prefix y.prefix gx.1 gy.1 t.0) counts, t.2);
}

-- the line of the number of cells begins no event
pub cells_begin_none : (ns a : List ℕ) → BeginsNone event_line (number_line (codes "cells") ns ++ a)
cells_begin_none ns a = record {
  none = λ e b same.
      differs e (word_same (event_word e) (codes "cells") (event_fields e) (map decimal ns) b a (event_word_inner e) refl (sym (ap (λ s. s ++ b) (event_text e)) ∙ same));
}
  where
    differs : (e : LogEvent) → event_word e ≡ codes "cells" → ⊥
    differs (event.Update session op (update.Insert id vector)) = words_differ (codes "insert") (codes "cells") refl
    differs (event.Update session op (update.Delete id)) = words_differ (codes "delete") (codes "cells") refl
    differs (event.Split prefix) = words_differ (codes "split") (codes "cells") refl

-- the line of the number of entries begins no cell
pub entries_begin_none : (ns a : List ℕ) → BeginsNone cell_line (number_line (codes "entries") ns ++ a)
entries_begin_none ns a = record {
  none = λ x b same.
      differs x.prefix (word_same (prefix_text x.prefix) (codes "entries") (map decimal (x.count ∷ [])) (map decimal ns) b a (prefix_inner x.prefix) refl same);
}
  where
    differs : (p : List ℕ) → prefix_text p ≡ codes "entries" → ⊥
    differs [] = words_differ (codes "-") (codes "entries") refl
    differs (p ∷ ps) = decimal_begins p (flat_map (λ q. 46 ∷ decimal q) ps) 101 (codes "ntries") refl

-- Replies, told from the front of a text: the word says which reply it is, and a number how many rows follow.
use Rattle.std.proofs.Common.{◌≡◌, ℕ, ◌+◌, List, [], ◌∷◌, ◌++◌, length, map, refl, sym, ap, ap₂, subst, ◌∙◌, append_assoc, append-nil}
use Rattle.std.specs.Prelude.{codes}
use Rattle.std.specs.List.{flat_map, AllByRecursion}
use Rattle.std.proofs.lemmas.List.{append_cancel_left}
use Rattle.mi_base.specs.declared.records.Reply.{Reply}
use Rattle.mi_base.specs.declared.records.Reply.TheVariants.{Stored, Removed, Present, Absent, Full, NoPages, Memory, Range, Nearest}
use Rattle.mi_base.specs.declared.records.Position.{Position}
use Rattle.mi_base.specs.declared.records.Row.{Row}
use Rattle.mi_print.specs.Render.{number_line, row_line, row_lines, reply_lines, session_lines}
use Rattle.mi_print.specs.Meaning.{IsPrintableRow, IsPrintableReply, reply_numbers, reply_rows}
use Rattle.mi_print.proofs.LineLemmas.{IsField, inner_digits, is_inner, words_differ, word_same, number_line_same}
use Rattle.mi_print.proofs.NumberLemmas.{decimal_passes}
use Rattle.mi_print.proofs.RunLemmas.{Tells, BeginsNone, counted, ended}
use Rattle.std.specs.Fmt.{decimal}
use Rattle.std.proofs.lemmas.Fmt.{decimal_injective}

abbrev row_from : ℕ → ℕ → Row
row_from distance id = record { distance = distance; id = id }

row_tells : Tells IsPrintableRow row_line
row_tells = record {
  told = λ x y a b gx gy e.
      let t = number_line_same (decimal x.distance) (decimal y.distance) (x.id ∷ []) (y.id ∷ []) a b
      (decimal_passes is_inner inner_digits x.distance) (decimal_passes is_inner inner_digits y.distance) gx.1 gy.1 e in
      let distances : x.distance ≡ y.distance = decimal_injective x.distance y.distance gx.0 gy.0 t.0 in
      let lists : x.id ∷ [] ≡ y.id ∷ [] = t.1 in
      let ids : x.id ≡ y.id = cc in
      (ap₂ row_from distances ids, t.2);
}

abbrev reply_word : Reply → List ℕ
reply_word (Stored n) = codes "stored"
reply_word (Removed n) = codes "removed"
reply_word (Present p) = codes "present"
reply_word (Absent p) = codes "absent"
reply_word (Full limit) = codes "full"
reply_word (NoPages limit) = codes "nopages"
reply_word Memory = codes "memory"
reply_word (Range p rows cells distances) = codes "range"
reply_word (Nearest p rows cells) = codes "nearest"

-- the word is a field
reply_word_inner : (y : Reply) → IsField (reply_word y)
reply_word_inner (Stored n) = refl
reply_word_inner y = refl

-- the first line and the rows
reply_text : (y : Reply) → reply_lines y ≡ number_line (reply_word y) (reply_numbers y) ++ row_lines (reply_rows y)
reply_text (Range p rows cells distances) = refl
reply_text (Nearest p rows cells) = refl
reply_text y = sym (append-nil (number_line (reply_word y) (reply_numbers y)))

-- how many rows the numbers of the first line tell
abbrev told_rows : List ℕ → ℕ
told_rows (updates ∷ splits ∷ rows ∷ more) = rows
told_rows ns = 0

rows_are_told : (y : Reply) → told_rows (reply_numbers y) ≡ length (reply_rows y)
rows_are_told (Stored n) = refl
rows_are_told y = refl

abbrev position_from : ℕ → ℕ → Position
position_from updates splits = record { updates = updates; splits = splits }

position_same : (p q : Position) (ps qs : List ℕ) → p.updates ∷ p.splits ∷ ps ≡ q.updates ∷ q.splits ∷ qs → p ≡ q
position_same p q ps qs e =
    let updates : p.updates ≡ q.updates = cc in
    let splits : p.splits ≡ q.splits = cc in
    ap₂ position_from updates splits

-- the word, the numbers and the rows make the reply
reply_same : (x y : Reply) → reply_word x ≡ reply_word y → reply_numbers x ≡ reply_numbers y → reply_rows x ≡ reply_rows y → x ≡ y
reply_same (Stored n) (Stored m) word numbers rows = cc
reply_same (Removed n) (Removed m) word numbers rows = cc
reply_same (Present p) (Present q) word numbers rows = ap Present (position_same p q [] [] numbers)
reply_same (Absent p) (Absent q) word numbers rows = ap Absent (position_same p q [] [] numbers)
reply_same (Full n) (Full m) word numbers rows = cc
reply_same (NoPages n) (NoPages m) word numbers rows = cc
reply_same Memory Memory word numbers rows = refl
reply_same (Range p rs c d) (Range q ss k l) word numbers rows =
    let at : p ≡ q = position_same p q (length rs ∷ c ∷ d ∷ []) (length ss ∷ k ∷ l ∷ []) numbers in
    cc
reply_same (Nearest p rs c) (Nearest q ss k) word numbers rows =
    let at : p ≡ q = position_same p q (length rs ∷ c ∷ []) (length ss ∷ k ∷ []) numbers in
    cc
reply_same x y word numbers rows = absurd (words_differ (reply_word x) (reply_word y) refl word)

pub reply_tells : Tells IsPrintableReply reply_lines
reply_tells = record {
  told = λ x y a b gx gy e.
      let line_of : (z : Reply) (c : List ℕ) → reply_lines z ++ c ≡ number_line (reply_word z) (reply_numbers z) ++ (row_lines (reply_rows z) ++ c) =
      λ z c. ap (λ t. t ++ c) (reply_text z) ∙ append_assoc (number_line (reply_word z) (reply_numbers z)) (row_lines (reply_rows z)) c in
      let first = number_line_same (reply_word x) (reply_word y) (reply_numbers x) (reply_numbers y) (row_lines (reply_rows x) ++ a) (row_lines (reply_rows y) ++ b)
      (reply_word_inner x) (reply_word_inner y) gx.0 gy.0 (sym (line_of x a) ∙ e ∙ line_of y b) in
      let rows = counted IsPrintableRow row_line row_tells (reply_rows x) (reply_rows y) a b gx.1 gy.1
      (sym (rows_are_told x) ∙ ap told_rows first.1 ∙ rows_are_told y) first.2 in
      (reply_same x y first.0 first.1 rows.0, rows.1);
}

-- no reply has the word of a session, nor that of the history
no_session : (y : Reply) → reply_word y ≡ codes "session" → ⊥
no_session (Stored n) = words_differ (codes "stored") (codes "session") refl
no_session y = words_differ (reply_word y) (codes "session") refl

no_history : (y : Reply) → reply_word y ≡ codes "history" → ⊥
no_history (Stored n) = words_differ (codes "stored") (codes "history") refl
no_history y = words_differ (reply_word y) (codes "history") refl

-- what follows the sessions
abbrev pub after_sessions : List ℕ → List ℕ → List ℕ
after_sessions counts a = number_line (codes "history") counts ++ a

-- a line of another word begins no reply
other_word : (w : List ℕ) (ns a : List ℕ) → IsField w → ((y : Reply) → reply_word y ≡ w → ⊥) → BeginsNone reply_lines (number_line w ns ++ a)
other_word w ns a inner differs = record {
  none = λ y b e.
      let first : number_line (reply_word y) (reply_numbers y) ++ (row_lines (reply_rows y) ++ b) ≡ number_line w ns ++ a =
      sym (append_assoc (number_line (reply_word y) (reply_numbers y)) (row_lines (reply_rows y)) b) ∙ sym (ap (λ t. t ++ b) (reply_text y)) ∙ e in
      differs y (word_same (reply_word y) w (map decimal (reply_numbers y)) (map decimal ns) (row_lines (reply_rows y) ++ b) a (reply_word_inner y) inner first);
}

-- one session's lines, then those of the others
session_split : (n : ℕ) (ys : List Reply) (others : List (List Reply)) (a : List ℕ)
    → session_lines n (ys ∷ others) ++ a ≡ number_line (codes "session") (n ∷ []) ++ (flat_map reply_lines ys ++ (session_lines (n + 1) others ++ a))
session_split n ys others a =
    append_assoc (number_line (codes "session") (n ∷ []) ++ flat_map reply_lines ys) (session_lines (n + 1) others) a
    ∙ append_assoc (number_line (codes "session") (n ∷ [])) (flat_map reply_lines ys) (session_lines (n + 1) others ++ a)

-- the sessions that are left, or the history
sessions_begin_none : (n : ℕ) (others : List (List Reply)) (counts a : List ℕ) → BeginsNone reply_lines (session_lines n others ++ after_sessions counts a)
sessions_begin_none n [] counts a = other_word (codes "history") counts a refl no_history
sessions_begin_none n (ys ∷ others) counts a =
    subst (BeginsNone reply_lines) (sym (session_split n ys others (after_sessions counts a)))
    (other_word (codes "session") (n ∷ []) (flat_map reply_lines ys ++ (session_lines (n + 1) others ++ after_sessions counts a)) refl no_session)

-- the sessions are told up to the history
pub sessions_same : (n : ℕ) (xs ys : List (List Reply)) (ns ms a b : List ℕ)
    → AllByRecursion (λ session. AllByRecursion IsPrintableReply session) xs → AllByRecursion (λ session. AllByRecursion IsPrintableReply session) ys
    → session_lines n xs ++ after_sessions ns a ≡ session_lines n ys ++ after_sessions ms b → (xs ≡ ys) × (after_sessions ns a ≡ after_sessions ms b)
sessions_same n [] [] ns ms a b gx gy e = (refl, e)
sessions_same n [] (y ∷ ys) ns ms a b gx gy e =
    absurd (words_differ (codes "history") (codes "session") refl
    (word_same (codes "history") (codes "session") (map decimal ns) (decimal n ∷ []) a (flat_map reply_lines y ++ (session_lines (n + 1) ys ++ after_sessions ms b)) refl refl
    (e ∙ session_split n y ys (after_sessions ms b))))
sessions_same n (x ∷ xs) [] ns ms a b gx gy e =
    absurd (words_differ (codes "session") (codes "history") refl
    (word_same (codes "session") (codes "history") (decimal n ∷ []) (map decimal ms) (flat_map reply_lines x ++ (session_lines (n + 1) xs ++ after_sessions ns a)) b refl refl
    (sym (session_split n x xs (after_sessions ns a)) ∙ e)))
sessions_same n (x ∷ xs) (y ∷ ys) ns ms a b gx gy e =
    let behind = append_cancel_left (number_line (codes "session") (n ∷ [])) _ _ (sym (session_split n x xs (after_sessions ns a)) ∙ e ∙ session_split n y ys (after_sessions ms b)) in
    let replies = ended IsPrintableReply reply_lines reply_tells x y (session_lines (n + 1) xs ++ after_sessions ns a) (session_lines (n + 1) ys ++ after_sessions ms b) gx.0 gy.0
    (sessions_begin_none (n + 1) xs ns a) (sessions_begin_none (n + 1) ys ms b) behind in
    let rest = sessions_same (n + 1) xs ys ns ms a b gx.1 gy.1 replies.1 in
    let first : x ≡ y = replies.0 in
    let others : xs ≡ ys = rest.0 in
    (cc, rest.1)

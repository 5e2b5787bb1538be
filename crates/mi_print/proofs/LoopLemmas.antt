-- Sending the text of each item of a list in turn.
use Rattle.std.proofs.Common.{◌≡◌, ℕ, suc, ◌+◌, ◌<◌, List, [], ◌∷◌, ◌++◌, length, take, drop, get_or, Result, Ok, Err, sym, ap, ◌∙◌, arith, append-nil, length-append}
use Rattle.std.specs.Prelude.{codes}
use Rattle.std.specs.List.{flat_map}
use Rattle.std.specs.Result.{IsErrAnd}
use Rattle.std.proofs.lemmas.List.{take_more, take-append-drop}
use Rattle.std.proofs.lemmas.Grind.{flat_map-append}
use Rattle.std.proofs.Math.Seq.{drop-cons}
use Rattle.mi_base.specs.declared.records.LogEvent.{LogEvent}
use Rattle.mi_base.specs.declared.records.LogEvent.TheVariants as event
use Rattle.mi_base.specs.declared.records.Update.{Update}
use Rattle.mi_base.specs.declared.records.Reply.{Reply}
use Rattle.mi_base.specs.History.{updates_of}
use Rattle.mi_base.proofs.HistoryLemmas.{updates_of-append}
use Rattle.mi_outside.specs.declared.writing.SinkFailed.{SinkFailed}
use Rattle.mi_outside.specs.Outside.{Sends}
use Rattle.mi_outside.specs.States.{SinkState}
use Rattle.mi_outside.proofs.SendingLemmas.{sends_then, sends_ended}
use Rattle.mi_print.specs.Render.{session_lines, reply_lines, number_line}

-- the items before a place, the one there, and those after it
parted : {X : Type 0} (f : X → List ℕ) (xs : List X) (i : ℕ) (x : X) → i < length xs → x ≡ get_or xs i x → flat_map f xs ≡ (flat_map f (take i xs) ++ f x) ++ flat_map f (drop (i + 1) xs)
parted f xs i x lt is =
    let front : flat_map f (take (i + 1) xs) ≡ flat_map f (take i xs) ++ f x =
    ap (flat_map f) (take_more xs i x lt) ∙ flat_map-append f (take i xs) (get_or xs i x ∷ []) ∙ ap (λ y. flat_map f (take i xs) ++ y) (append-nil (f (get_or xs i x)) ∙ ap f (sym is)) in
    ap (flat_map f) (sym (take-append-drop (i + 1) xs)) ∙ flat_map-append f (take (i + 1) xs) (drop (i + 1) xs) ∙ ap (λ y. y ++ flat_map f (drop (i + 1) xs)) front

-- where the text of one item failed, the texts of all have failed
pub sends_each_ended : {a b c : SinkState} {u : Unit {0}} {e : SinkFailed} {X : Type 0} (f : X → List ℕ) (xs : List X) (i : ℕ) (x : X) (P : SinkFailed → Type 0) (r : Result (Unit {0}) SinkFailed)
    → i < length xs → x ≡ get_or xs i x → IsErrAnd r P → Sends a b (flat_map f (take i xs)) (Ok u) → Sends b c (f x) (Err e) → Sends a c (flat_map f xs) r
sends_each_ended f xs i x P r lt is ended done stopped =
    sends_ended P r (flat_map f (take i xs) ++ f x) (flat_map f (drop (i + 1) xs)) (flat_map f xs) ended (parted f xs i x lt is) (sends_then (flat_map f (take i xs)) (f x) done stopped)

-- the text of one session
abbrev pub session_text : ℕ → List Reply → List ℕ
session_text n replies = number_line (codes "session") (n ∷ []) ++ flat_map reply_lines replies

-- what was sent, with what is left, is all
pub record Sent (before after : SinkState) (rest whole : List ℕ) : Type 0 where
  pub done : List ℕ
  pub joined : done ++ rest ≡ whole
  pub sends : Sends before after done (Ok tt)

-- one more session
pub session_lines-drop : (n : ℕ) (xs : List (List Reply)) (x : List Reply) → n < length xs → x ≡ get_or xs n x → session_lines n (drop n xs) ≡ session_text n x ++ session_lines (n + 1) (drop (n + 1) xs)
session_lines-drop n xs x lt is = ap (session_lines n) (drop-cons xs n x lt) ∙ ap (λ y. session_text n y ++ session_lines (n + 1) (drop (suc n) xs)) (sym is) ∙ (let next : suc n ≡ n + 1 = omega arith in ap (λ k. session_text n x ++ session_lines (n + 1) (drop k xs)) next)

pub updates_of-update : (log : List LogEvent) (session op : ℕ) (u : Update) → length (updates_of (log ++ event.Update session op u ∷ [])) ≡ length (updates_of log) + 1
updates_of-update log session op u = ap length (updates_of-append log (event.Update session op u ∷ [])) ∙ length-append (updates_of log) (u ∷ [])

pub updates_of-split : (log : List LogEvent) (p : List ℕ) → length (updates_of (log ++ event.Split p ∷ [])) ≡ length (updates_of log)
updates_of-split log p = ap length (updates_of-append log (event.Split p ∷ [])) ∙ ap length (append-nil (updates_of log))

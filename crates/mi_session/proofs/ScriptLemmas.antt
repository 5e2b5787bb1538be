-- What the replies to a script come to in a log that goes on.
use Rattle.std.proofs.Common.{◌≡◌, ℕ, ◌+◌, ◌≤◌, List, [], ◌∷◌, ◌++◌, length, Option, Some, None, refl, sym, ap, ◌∙◌, subst, arith, append-nil, append_assoc}
use Rattle.std.specs.Prelude.{IsTrue, MatchOption}
use Rattle.mi_base.specs.declared.records.LogEvent.{LogEvent}
use Rattle.mi_base.specs.declared.records.Op.{Op}
use Rattle.mi_base.specs.declared.records.Reply.{Reply}
use Rattle.mi_base.specs.Configuration.{Configuration}
use Rattle.mi_base.specs.History.{Entered, updates_of}
use Rattle.mi_job.specs.Claims.{ClaimsNone}
use Rattle.mi_legal.specs.Legal.{EachRight, NeverFalls, accepted_in, accepted_update, reach}
use Rattle.mi_legal.specs.Right.{Right}
use Rattle.mi_legal.proofs.ReplyLemmas.{full_stays, reach_grows, right_grows}
use Rattle.mi_session.specs.Scripts.{AnswersAll}
use Rattle.mi_session.specs.Sessions.{Answers}
use Rattle.mi_session.proofs.SessionLemmas.{actors_on, reach_within}
use Rattle.mi_tree.specs.Growing.{Grows}
use Rattle.mi_tree.proofs.GrowingLemmas.{grows_length, grows_on}
use Rattle.mi_world.specs.View.{Later, SameActors, View}
use Rattle.mi_world.proofs.ViewLemmas.{later_later, later_none}

-- one operation more, whose number is the next
pub answers_more : (n : ℕ) (v : View) (os : List Op) (ys : List Reply) (m : View) (o : Op) (y : Reply) (w : View) → AnswersAll n v os ys m → Answers o (n + length os) m y w
    → AnswersAll n v (os ++ o ∷ []) (ys ++ y ∷ []) w
answers_more n v [] [] m o y w all a =
    let same : n + 0 ≡ n = omega arith in
    let here : Answers o (n + 0) v y w = subst (λ (u : View). Answers o (n + 0) u y w) all a in
    (w, subst (λ (i : ℕ). Answers o i v y w) same here, refl)
answers_more n v (p ∷ os) (z ∷ ys) m o y w all a =
    let same : n + length (p ∷ os) ≡ n + 1 + length os = omega arith in
    (all.0, all.1, answers_more (n + 1) all.0 os ys m o y w all.2 (subst (λ (i : ℕ). Answers o i m y w) same a))
answers_more n v [] (z ∷ ys) m o y w all a = absurd all
answers_more n v (p ∷ os) [] m o y w all a = absurd all

pub all_length : (n : ℕ) (v : View) (os : List Op) (ys : List Reply) (w : View) → AnswersAll n v os ys w → length ys ≡ length os
all_length n v [] [] w all = refl
all_length n v (o ∷ os) (y ∷ ys) w all = omega (arith, all_length (n + 1) all.0 os ys w all.2)
all_length n v [] (y ∷ ys) w all = absurd all
all_length n v (o ∷ os) [] w all = absurd all

pub all_later : (n : ℕ) (v : View) (os : List Op) (ys : List Reply) (w : View) → AnswersAll n v os ys w → Later v w
all_later n v [] [] w all = subst (λ (u : View). Later v u) (sym all) (later_none v)
all_later n v (o ∷ os) (y ∷ ys) w all = later_later v all.0 w all.1.later (all_later (n + 1) all.0 os ys w all.2)
all_later n v [] (y ∷ ys) w all = absurd all
all_later n v (o ∷ os) [] w all = absurd all

pub all_actors : (n : ℕ) (v : View) (os : List Op) (ys : List Reply) (w : View) → AnswersAll n v os ys w → SameActors v w
all_actors n v [] [] w all = subst (λ (u : View). SameActors v u) (sym all) (record { absorbed = refl; forked = refl })
all_actors n v (o ∷ os) (y ∷ ys) w all = actors_on v all.0 w all.1.actors (all_actors (n + 1) all.0 os ys w all.2)
all_actors n v [] (y ∷ ys) w all = absurd all
all_actors n v (o ∷ os) [] w all = absurd all

pub all_claims : (n : ℕ) (v : View) (os : List Op) (ys : List Reply) (w : View) → AnswersAll n v os ys w → ClaimsNone v → ClaimsNone w
all_claims n v [] [] w all free = subst ClaimsNone (sym all) free
all_claims n v (o ∷ os) (y ∷ ys) w all free = all_claims (n + 1) all.0 os ys w all.2 all.1.ended.claims
all_claims n v [] (y ∷ ys) w all free = absurd all
all_claims n v (o ∷ os) [] w all free = absurd all

-- the actor's own updates are those of before and the accepted ones of the script
pub all_own : (n : ℕ) (v : View) (os : List Op) (ys : List Reply) (w : View) → AnswersAll n v os ys w → w.own ≡ v.own ++ accepted_in w.actor n os ys
all_own n v [] [] w all = ap (λ (u : View). u.own) all ∙ sym (append-nil v.own)
all_own n v (o ∷ os) (y ∷ ys) w all =
    let m = all.0 in
    let actor : w.actor ≡ m.actor = (all_later (n + 1) m os ys w all.2).actor in
    let rest = accepted_in w.actor (n + 1) os ys in
    let first : m.own ≡ v.own ++ accepted_update w.actor n o y = subst (λ (k : ℕ). m.own ≡ v.own ++ accepted_update k n o y) (sym actor) all.1.ended.own_is in
    all_own (n + 1) m os ys w all.2 ∙ ap (λ (es : List Entered). es ++ rest) first ∙ append_assoc v.own (accepted_update w.actor n o y) rest
all_own n v [] (y ∷ ys) w all = absurd all
all_own n v (o ∷ os) [] w all = absurd all

-- what is right in the log seen is right in one that goes on, where that has no more updates than it may
right_later : (c : Configuration) (log new : List LogEvent) (allotted k j : ℕ) (o : Op) (y : Reply) → Grows log new → length (updates_of new) ≤ c.updates → Right c log allotted k j o y
    → Right c new allotted k j o y
right_later c log new allotted k j o y g few right =
    let within : length (updates_of (log ++ g.by)) ≤ c.updates = subst (λ (l : List LogEvent). length (updates_of l) ≤ c.updates) g.is few in
    subst (λ (l : List LogEvent). Right c l allotted k j o y) (sym g.is) (right_grows c log g.by allotted k j o y (full_stays c log g.by within) right)

-- the same of one operation of a script, in the terms of the view at its end
answer_right : (o : Op) (n : ℕ) (v : View) (y : Reply) (m w : View) (log : List LogEvent) (allotted : ℕ) → Answers o n v y m → Later m w → Grows w.seen log
    → length (updates_of log) ≤ w.settings.updates → (IsTrue w.told → allotted ≡ w.settings.pages) → Right w.settings log allotted w.actor n o y
answer_right o n v y m w log allotted a l g few all =
    let told : IsTrue m.told → allotted ≡ m.settings.pages = λ so. all (l.told so) ∙ ap (λ (c : Configuration). c.pages) l.settings in
    let of : Right w.settings m.seen allotted m.actor n o y = subst (λ (c : Configuration). Right c m.seen allotted m.actor n o y) (sym l.settings) (a.ended.right allotted told) in
    let by : Right w.settings m.seen allotted w.actor n o y = subst (λ (k : ℕ). Right w.settings m.seen allotted k n o y) (sym l.actor) of in
    right_later w.settings m.seen log allotted w.actor n o y (grows_on m.seen w.seen log l.grows g) few by

pub all_right : (n : ℕ) (v : View) (os : List Op) (ys : List Reply) (w : View) (log : List LogEvent) (allotted : ℕ) → AnswersAll n v os ys w → Grows w.seen log
    → length (updates_of log) ≤ w.settings.updates → (IsTrue w.told → allotted ≡ w.settings.pages) → EachRight w.settings log allotted w.actor n os ys
all_right n v [] [] w log allotted all g few told = tt
all_right n v (o ∷ os) (y ∷ ys) w log allotted all g few told = (
  answer_right o n v y all.0 w log allotted all.1 (all_later (n + 1) all.0 os ys w all.2) g few told,
  all_right (n + 1) all.0 os ys w log allotted all.2 g few told,
)
all_right n v [] (y ∷ ys) w log allotted all g few told = absurd all
all_right n v (o ∷ os) [] w log allotted all g few told = absurd all

-- no reply falls behind, where one reaches no less than was seen before it and no more than was seen after it
falls_by : (log : List LogEvent) (low : ℕ) (ys : List Reply) (r : Option ℕ) (a b : ℕ) → low ≤ a → a ≤ b → MatchOption r (Unit {0}) (λ n. a ≤ n) → MatchOption r (Unit {0}) (λ n. n ≤ b)
    → ((m : ℕ) → m ≤ b → NeverFalls log m ys) → MatchOption r (NeverFalls log low ys) (λ n. (low ≤ n) × NeverFalls log n ys)
falls_by log low ys None a b le rises from to next = next low (omega (arith, le, rises))
falls_by log low ys (Some n) a b le rises from to next = (omega (arith, le, from), next n to)

pub all_forward : (n : ℕ) (v : View) (os : List Op) (ys : List Reply) (w : View) (log : List LogEvent) → AnswersAll n v os ys w → Grows w.seen log → (low : ℕ) → low ≤ length v.seen
    → NeverFalls log low ys
all_forward n v [] [] w log all g low le = tt
all_forward n v (o ∷ os) (y ∷ ys) w log all g low le =
    let m = all.0 in
    let a = all.1 in
    let on = grows_on m.seen w.seen log (all_later (n + 1) m os ys w all.2).grows g in
    let right : Right m.settings m.seen m.settings.pages m.actor n o y = a.ended.right m.settings.pages (λ told. refl) in
    let same : reach log y ≡ reach m.seen y = ap (λ (l : List LogEvent). reach l y) on.is ∙ reach_grows m.settings m.seen on.by m.settings.pages m.actor n o y right in
    let next : (k : ℕ) → k ≤ length m.seen → NeverFalls log k ys = λ k small. all_forward (n + 1) m os ys w log all.2 g k small in
    subst (λ (r : Option ℕ). MatchOption r (NeverFalls log low ys) (λ k. (low ≤ k) × NeverFalls log k ys)) (sym same)
    (falls_by log low ys (reach m.seen y) (length v.seen) (length m.seen) le (grows_length v.seen m.seen a.later.grows) a.ended.not_before
    (reach_within m.settings m.seen m.settings.pages m.actor n o y right) next)
all_forward n v [] (y ∷ ys) w log all g low le = absurd all
all_forward n v (o ∷ os) [] w log all g low le = absurd all

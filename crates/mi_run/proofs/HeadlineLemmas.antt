-- What a closed hall that was settled tells, once all its actors were absorbed, is the headline.
use Rattle.std.proofs.Common.{◌≡◌, ℕ, ◌+◌, ◌<◌, ◌≤◌, List, [], ◌∷◌, ◌++◌, length, Bool, true, false, IsTrue, ◌||◌, refl, sym, ap, ◌∙◌, subst, arith, inl, inr, length-append}
use Rattle.std.specs.Prelude.{Result, Ok, Err, is_err, ◌==◌}
use Rattle.std.specs.List.{AllByRecursion, filter, list_any}
use Rattle.std.proofs.lemmas.Bool.{false≢true, or_parts}
use Rattle.std.proofs.lemmas.Bool.Decides.{eqb_tells}
use Rattle.std.proofs.lemmas.List.{length-map}
use Rattle.mi_base.specs.declared.records.LogEvent.{LogEvent}
use Rattle.mi_base.specs.declared.records.Op.{Op}
use Rattle.mi_base.specs.declared.records.Reply.{Reply}
use Rattle.mi_base.specs.declared.refusals.NoMemory.{NoMemory}
use Rattle.mi_base.specs.Configuration.{Configuration}
use Rattle.mi_base.specs.History.{Entered, entered, updates_of}
use Rattle.mi_base.specs.Prefixes.{has}
use Rattle.mi_core.specs.Actors.{made_by}
use Rattle.mi_core.specs.State.{State}
use Rattle.mi_hall.specs.Closing.{Closes, IsLast}
use Rattle.mi_latch.specs.Views.{IsOne}
use Rattle.mi_legal.specs.Legal.{AllEntered, AllRight, EachRight, Legal, NeverFalls, accepted_in}
use Rattle.mi_legal.specs.Want.{has_memory}
use Rattle.mi_settle.specs.Headlines.{Headline}
use Rattle.mi_settle.specs.Outcomes.{IsOutcomeIn}
use Rattle.mi_settle.specs.Settling.{IsAtRest, IsSettled, is_refused}
use Rattle.mi_settle.proofs.LaterLemmas.{Later, later_all}
use Rattle.mi_settle.proofs.HeadlineLemmas.{headline_of, named_but, settled_at}
use Rattle.mi_session.proofs.ScriptLemmas.{all_forward, all_own, all_right}
use Rattle.mi_solo.specs.Solos.{SoloState}
use Rattle.mi_tree.specs.declared.outcomes.Outcome.{Outcome}
use Rattle.mi_tree.specs.Growing.{Grows}
use Rattle.mi_tree.specs.Legal.{LegalLog}
use Rattle.mi_tree.proofs.GrowingLemmas.{grows_on}
use Rattle.mi_world.specs.View.{Absorbed, View}
use Rattle.mi_run.specs.Crews.{AreAnswered, Ascends, HasAbsorbed, IsAnswered, Tells, absorbed_numbers, absorbed_own}
use Rattle.mi_run.proofs.NumberLemmas.{Counts, counted}

-- all that were made are the closer or absorbed
has_number : (k : ℕ) (xs : List Absorbed) → has k (absorbed_numbers xs) ≡ list_any (λ (x : Absorbed). x.actor == k) xs
has_number k [] = refl
has_number k (x ∷ xs) = ap (λ b. (x.actor == k) || b) (has_number k xs)

pub is_last : (scripts : List (List Op)) (v : View) (replies : List (List Reply)) → HasAbsorbed scripts v replies → IsLast v
is_last scripts v replies h = record {
  first = inl (sym h.zero);
  heirs = λ k made. inr (sym (has_number k v.absorbed) ∙ sym (ap (has k) h.forked) ∙ made);
}

-- each of the absorbed is one
one_of : (P : Absorbed → Type 0) (xs : List Absorbed) → ((x : Absorbed) → IsOne x xs → P x) → AllByRecursion P xs
one_of P [] each = tt
one_of P (x ∷ xs) each = (each x (inl refl), one_of P xs (λ y at. each y (inr at)))

front_of : (P : Absorbed → Type 0) (xs ys : List Absorbed) → AllByRecursion P (xs ++ ys) → AllByRecursion P xs
front_of P [] ys all = tt
front_of P (x ∷ xs) ys all = (all.0, front_of P xs ys all.1)

rest_of : (P : Absorbed → Type 0) (xs ys : List Absorbed) → AllByRecursion P (xs ++ ys) → AllByRecursion P ys
rest_of P [] ys all = all
rest_of P (x ∷ xs) ys all = rest_of P xs ys all.1

numbers_below : (m : ℕ) (xs : List Absorbed) → AllByRecursion (λ x. x.actor < m) xs → (a : ℕ) → has a (absorbed_numbers xs) ≡ true → a < m
numbers_below m [] all a h = absurd (false≢true h)
numbers_below m (x ∷ xs) all a h = elim (eqb_tells x.actor a) [
  | inl e ↦ omega (arith, e.1, all.0)
  | inr e ↦ numbers_below m xs all.1 a (sym (ap (λ b. b || has a (absorbed_numbers xs)) e.0) ∙ h)
]

-- the numbers of the others and the last one
counts_front : (k : ℕ) (xs : List Absorbed) (x : Absorbed) → Counts k (absorbed_numbers (xs ++ x ∷ [])) → Counts k (absorbed_numbers xs) × (x.actor ≡ k + length xs)
counts_front k [] x h = (tt, omega (arith, h.0))
counts_front k (y ∷ xs) x h = let next = counts_front (k + 1) xs x h.1 in ((h.0, next.0), omega (arith, next.1))

-- each own list is what the log has of its actor
abbrev AllMade : List LogEvent → List Absorbed → Type 0
AllMade log xs = AllByRecursion (λ x. made_by x.actor log ≡ x.own) xs

module _ (c : Configuration) (v : View) (log : List LogEvent) (allotted : ℕ) (of : v.settings ≡ c) (grows : Grows v.seen log) (few : length (updates_of log) ≤ c.updates)
    (full : IsTrue v.told → allotted ≡ c.pages) where
  each_answered : (k : ℕ) (s : List Op) (ys : List Reply) (own : List Entered) → IsAnswered v k s ys own → EachRight c log allotted k 1 s ys
  each_answered k s ys own a =
      let same : a.between.settings ≡ c = a.settings ∙ of in
      let right = all_right 1 a.first s ys a.between log allotted a.answers (grows_on a.between.seen v.seen log a.grows grows)
      (subst (λ (z : Configuration). length (updates_of log) ≤ z.updates) (sym same) few) (λ told. full (a.told told) ∙ ap (λ (z : Configuration). z.pages) (sym same)) in
      subst (λ n. EachRight c log allotted n 1 s ys) a.actor (subst (λ z. EachRight z log allotted a.between.actor 1 s ys) same right)

  each_own : (k : ℕ) (s : List Op) (ys : List Reply) (own : List Entered) → IsAnswered v k s ys own → own ≡ accepted_in k 1 s ys
  each_own k s ys own a = a.own_is ∙ all_own 1 a.first s ys a.between a.answers ∙ ap (λ es. es ++ accepted_in a.between.actor 1 s ys) a.none ∙ ap (λ n. accepted_in n 1 s ys) a.actor

  pub answered_right : (k : ℕ) (ks : List ℕ) (ss : List (List Op)) (yss : List (List Reply)) (owns : List (List Entered)) → AreAnswered v ks ss yss owns → Counts k ks
      → AllRight c log allotted k ss yss
  answered_right k [] [] [] [] h n = tt
  answered_right k (i ∷ ks) (s ∷ ss) (ys ∷ yss) (own ∷ owns) h n =
      (each_answered k s ys own (subst (λ j. IsAnswered v j s ys own) n.0 h.0), answered_right (k + 1) ks ss yss owns h.1 n.1)
  answered_right k [] (s ∷ ss) yss owns h n = absurd h
  answered_right k [] [] (ys ∷ yss) owns h n = absurd h
  answered_right k [] [] [] (own ∷ owns) h n = absurd h
  answered_right k (i ∷ ks) [] yss owns h n = absurd h
  answered_right k (i ∷ ks) (s ∷ ss) [] owns h n = absurd h
  answered_right k (i ∷ ks) (s ∷ ss) (ys ∷ yss) [] h n = absurd h

  pub answered_entered : (k : ℕ) (xs : List Absorbed) (ss : List (List Op)) (yss : List (List Reply)) → AreAnswered v (absorbed_numbers xs) ss yss (absorbed_own xs)
      → Counts k (absorbed_numbers xs) → AllMade log xs → AllEntered log k ss yss
  answered_entered k [] [] [] h n made = tt
  answered_entered k (x ∷ xs) (s ∷ ss) (ys ∷ yss) h n made = (
    ap (λ j. made_by j log) (sym n.0) ∙ made.0 ∙ each_own k s ys x.own (subst (λ j. IsAnswered v j s ys x.own) n.0 h.0),
    answered_entered (k + 1) xs ss yss h.1 n.1 made.1,
  )
  answered_entered k [] (s ∷ ss) yss h n made = absurd h
  answered_entered k [] [] (ys ∷ yss) h n made = absurd h
  answered_entered k (x ∷ xs) [] yss h n made = absurd h
  answered_entered k (x ∷ xs) (s ∷ ss) [] h n made = absurd h

  pub answered_forward : (ks : List ℕ) (ss : List (List Op)) (yss : List (List Reply)) (owns : List (List Entered)) → AreAnswered v ks ss yss owns → AllByRecursion (NeverFalls log 0) yss
  answered_forward [] [] [] [] h = tt
  answered_forward (i ∷ ks) (s ∷ ss) (ys ∷ yss) (own ∷ owns) h = (
    all_forward 1 h.0.first s ys h.0.between log h.0.answers (grows_on h.0.between.seen v.seen log h.0.grows grows) 0 (omega arith),
    answered_forward ks ss yss owns h.1,
  )
  answered_forward [] (s ∷ ss) yss owns h = absurd h
  answered_forward [] [] (ys ∷ yss) owns h = absurd h
  answered_forward [] [] [] (own ∷ owns) h = absurd h
  answered_forward (i ∷ ks) [] yss owns h = absurd h
  answered_forward (i ∷ ks) (s ∷ ss) [] owns h = absurd h
  answered_forward (i ∷ ks) (s ∷ ss) (ys ∷ yss) [] h = absurd h

  pub answered_count : (ks : List ℕ) (ss : List (List Op)) (yss : List (List Reply)) (owns : List (List Entered)) → AreAnswered v ks ss yss owns → length ks ≡ length ss
  answered_count [] [] [] [] h = refl
  answered_count (i ∷ ks) (s ∷ ss) (ys ∷ yss) (own ∷ owns) h = omega (arith, answered_count ks ss yss owns h.1)
  answered_count [] (s ∷ ss) yss owns h = absurd h
  answered_count [] [] (ys ∷ yss) owns h = absurd h
  answered_count [] [] [] (own ∷ owns) h = absurd h
  answered_count (i ∷ ks) [] yss owns h = absurd h
  answered_count (i ∷ ks) (s ∷ ss) [] owns h = absurd h
  answered_count (i ∷ ks) (s ∷ ss) (ys ∷ yss) [] h = absurd h

-- a closed core is at rest
pub closed_rest : (v : View) (s : SoloState) → Closes v s → IsAtRest s.state
closed_rest v s h b r at =
    let bare = h.bare b r at in
    record { shard = bare.shard; claim = bare.free.claim; sweep = bare.free.sweep; split = bare.split; pin = bare.pin }

pub refused_is : (r : Result (Unit {0}) NoMemory) → is_err r ≡ is_refused r
refused_is (Ok x) = refl
refused_is (Err e) = refl

module _ (c : Configuration) (scripts : List (List Op)) (v : View) (replies : List (List Reply)) (wanted : Bool) (o : Outcome) (of : v.settings ≡ c) (h : HasAbsorbed scripts v replies)
    (t : Tells v replies wanted c.pages o) where
  abbrev start : State
  start = t.core.state

  abbrev count : ℕ
  count = length start.actors

  later : Later start t.last
  later = later_all start t.settles.made t.last t.closes.kept t.settles.chained

  settings : t.last.board.settings ≡ c
  settings = later.settings ∙ t.closes.settings ∙ of

  abbrev log : List LogEvent
  log = t.last.board.log

  few : length (updates_of log) ≤ c.updates
  few = subst (λ (z : Configuration). length (updates_of log) ≤ z.updates) settings later.kept.sound.legal.few

  full : IsTrue v.told → t.last.board.allotted ≡ c.pages
  full told = later.full (t.closes.told told) ∙ ap (λ (z : Configuration). z.pages) settings

  grows : Grows v.seen log
  grows = grows_on v.seen start.board.log log t.closes.seen t.settles.grows.grows

  -- the log has of each what is its own
  made_now : (a : ℕ) → made_by a log ≡ made_by a start.board.log
  made_now a = ap (filter (λ (e : Entered). e.session == a)) t.settles.grows.enters

  all_absorbed : AllByRecursion (λ (x : Absorbed). (x.actor < count) × (made_by x.actor start.board.log ≡ x.own)) (h.others ++ h.tender ∷ [])
  all_absorbed = subst (AllByRecursion (λ (x : Absorbed). (x.actor < count) × (made_by x.actor start.board.log ≡ x.own))) h.absorbed
      (one_of (λ (x : Absorbed). (x.actor < count) × (made_by x.actor start.board.log ≡ x.own)) v.absorbed t.closes.absorbed)

  below : (xs : List Absorbed) → AllByRecursion (λ (x : Absorbed). (x.actor < count) × (made_by x.actor start.board.log ≡ x.own)) xs → AllByRecursion (λ (x : Absorbed). x.actor < count) xs
  below [] all = tt
  below (x ∷ xs) all = (all.0.0, below xs all.1)

  owned : (xs : List Absorbed) → AllByRecursion (λ (x : Absorbed). (x.actor < count) × (made_by x.actor start.board.log ≡ x.own)) xs → AllMade log xs
  owned [] all = tt
  owned (x ∷ xs) all = (made_now x.actor ∙ all.0.1, owned xs all.1)

  zero_there : 0 < count
  zero_there = omega (arith, t.closes.going.made, t.closes.turn, h.zero)

  -- their numbers leave none out
  cover : (a : ℕ) → 0 < a → a < count → has a (absorbed_numbers (h.others ++ h.tender ∷ [])) ≡ true
  cover a more less = elim (t.closes.all a less) [
    | inl e ↦ absurd (omega (arith, e, h.zero, more))
    | inr e ↦ subst (λ xs. has a (absorbed_numbers xs) ≡ true) h.absorbed (has_number a v.absorbed ∙ e)
  ]

  numbered : Counts 1 (absorbed_numbers (h.others ++ h.tender ∷ [])) × (1 + length (absorbed_numbers (h.others ++ h.tender ∷ [])) ≡ count)
  numbered = counted count 0 (absorbed_numbers (h.others ++ h.tender ∷ [])) zero_there (subst (λ xs. Ascends 0 (absorbed_numbers xs)) h.absorbed h.ascends)
      (numbers_below count (h.others ++ h.tender ∷ []) (below (h.others ++ h.tender ∷ []) all_absorbed)) cover

  front : Counts 1 (absorbed_numbers h.others) × (h.tender.actor ≡ 1 + length h.others)
  front = counts_front 1 h.others h.tender numbered.0

  abbrev first : Absorbed
  first = record { actor = 0; own = v.own }

  sessions : length scripts ≡ length h.others + 1
  sessions =
      let n = answered_count c v log t.last.board.allotted of grows few full (0 ∷ absorbed_numbers h.others) scripts replies (v.own ∷ absorbed_own h.others) h.answered in
      omega (arith, n, length-map h.others (λ (x : Absorbed). x.actor))

  count_is : count ≡ length scripts + 1
  count_is = omega (arith, numbered.1, length-map (h.others ++ h.tender ∷ []) (λ (x : Absorbed). x.actor), length-append h.others (h.tender ∷ []), sessions)

  made_all : AllMade log (first ∷ h.others)
  made_all = (
    made_now 0 ∙ ap (λ a. made_by a start.board.log) (sym h.zero) ∙ t.closes.own,
    owned h.others (front_of (λ (x : Absorbed). (x.actor < count) × (made_by x.actor start.board.log ≡ x.own)) h.others (h.tender ∷ []) all_absorbed),
  )

  last_none : made_by (length scripts) log ≡ []
  last_none =
      let one = rest_of (λ (x : Absorbed). (x.actor < count) × (made_by x.actor start.board.log ≡ x.own)) h.others (h.tender ∷ []) all_absorbed in
      ap (λ a. made_by a log) (omega (arith, sessions, front.1)) ∙ made_now h.tender.actor ∙ one.0.1 ∙ h.none

  named : AllByRecursion (λ (e : Entered). e.session < length scripts + 1) (entered log)
  named = subst (AllByRecursion (λ (e : Entered). e.session < length scripts + 1)) (sym t.settles.grows.enters)
      (subst (λ n. AllByRecursion (λ (e : Entered). e.session < n) (entered start.board.log)) count_is t.closes.kept.sound.made)

  legal : Legal c scripts replies log t.last.board.allotted
  legal = record {
    log_is = subst (λ (z : Configuration). LegalLog z log) settings later.kept.sound.legal;
    right = answered_right c v log t.last.board.allotted of grows few full 0 (0 ∷ absorbed_numbers h.others) scripts replies (v.own ∷ absorbed_own h.others) h.answered (refl, front.0);
    entered_are = answered_entered c v log t.last.board.allotted of grows few full 0 (first ∷ h.others) scripts replies h.answered (refl, front.0) made_all;
    named = named_but (length scripts) (entered log) named last_none;
    forward = answered_forward c v log t.last.board.allotted of grows few full (0 ∷ absorbed_numbers h.others) scripts replies (v.own ∷ absorbed_own h.others) h.answered;
  }

  short_parts : o.short ≡ false → (has_memory replies ≡ false) × (is_refused t.result ≡ false)
  short_parts e =
      let all = or_parts (has_memory replies) (wanted || is_refused t.result) (sym t.outcome.short_is ∙ e) in
      (all.0, (or_parts wanted (is_refused t.result) all.1).1)

  is_settled : o.short ≡ false → IsSettled t.last
  is_settled e = settled_at t.result t.last (short_parts e).1 t.settles.leaves

  pub headline : Headline c scripts o
  headline =
      let core = subst (λ (z : Configuration). IsOutcomeIn z o t.last) settings t.outcome.core in
      let told : Legal c scripts o.replies o.log o.allotted = subst (λ ys. Legal c scripts ys o.log o.allotted) (sym t.outcome.replies_are)
      (subst (λ l. Legal c scripts replies l o.allotted) (sym core.log_is) (subst (λ a. Legal c scripts replies log a) (sym core.allotted_is) legal)) in
      headline_of c scripts o t.last later.kept settings core t.outcome.limit_is told (λ e. ap has_memory t.outcome.replies_are ∙ (short_parts e).0) is_settled

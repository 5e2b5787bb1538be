-- What lists of entries show, and what calls change of it.
use Rattle.std.proofs.Common.{◌≡◌, ℕ, zero, suc, ◌<◌, ◌≤◌, List, [], ◌∷◌, ◌++◌, map, take, drop, Bool, true, false, cond, not, ◌&&◌, ◌||◌, nat_eq, nat_le, Option, Some, None, refl, sym, ap, ◌∙◌, subst, arith, IsTrue}
use Rattle.std.specs.Prelude.{slice_get, is_none}
use Rattle.std.specs.List.{AllByRecursion, filter}
use Rattle.std.specs.Ordering.{nat_cmp, is_lt, on}
use Rattle.std.specs.Cmp.{IsTotalOrder, on_total, nat_cmp_total}
use Rattle.std.proofs.lemmas.Bool.{and_parts, false≢true, ltb-true, eqb-true, eq-eqb, lt-ltb, le-ltb}
use Rattle.std.proofs.lemmas.Bool.Decides.{nat_tests}
use Rattle.std.proofs.lemmas.List.{take-append-drop}
use Rattle.std.proofs.lemmas.List.Elements.{filter-append}
use Rattle.mi_base.specs.Sorting.{put, Ascends}
use Rattle.mi_base.proofs.SortingLemmas.{filter_put_in, filter_put_out}
use Rattle.mi_key.specs.declared.entries.Entry.{Entry}
use Rattle.mi_key.specs.declared.ranges.Interval.{Interval}
use Rattle.mi_key.specs.Entries.{offering_of}
use Rattle.mi_key.specs.Ranges.{is_within}
use Rattle.mi_page.specs.Keys.{Ascending}
use Rattle.mi_page.specs.Entries.{entry_keys, entry_cmp, has_living, is_shown, outlives, shown_in, without_interval, without_dead, with_death, without_key}
use Rattle.mi_page.proofs.OrderLemmas.{is_lt-nat_cmp, absent, filter_ascends}
use Rattle.mi_page.proofs.NodeLemmas.{living_there}

-- a filter that was made before changes nothing
filter_within : {X : Type 0} (s t : X → Bool) → ((x : X) → s x ≡ true → t x ≡ true) → (xs : List X) → filter s (filter t xs) ≡ filter s xs
filter_within s t h [] = refl
filter_within {X = X} s t h (x ∷ xs) =
    let P : Bool → Type 0 = λ b. t x ≡ b → filter s (cond b (x ∷ filter t xs) (filter t xs)) ≡ cond (s x) (x ∷ filter s xs) (filter s xs) in
    let Q : Bool → Type 0 = λ b. s x ≡ b → t x ≡ false → filter s (filter t xs) ≡ cond b (x ∷ filter s xs) (filter s xs) in
    (elim (t x) as P [
      | true ↦ λ _. ap (λ ys. cond (s x) (x ∷ ys) ys) (filter_within s t h xs)
      | false ↦ λ f. (elim (s x) as Q [ true ↦ λ e g. absurd (false≢true (sym g ∙ h x e)) | false ↦ λ _ _. filter_within s t h xs ]) refl f
    ]) refl

-- two filters, in either order
filter_both : {X : Type 0} (s t : X → Bool) (xs : List X) → filter s (filter t xs) ≡ filter t (filter s xs)
filter_both s t [] = refl
filter_both s t (x ∷ xs) =
    let P : Bool → Type 0 = λ b. s x ≡ b → (c : Bool) → t x ≡ c → filter s (cond c (x ∷ filter t xs) (filter t xs)) ≡ filter t (cond b (x ∷ filter s xs) (filter s xs)) in
    (elim (s x) as P [
      | true ↦ λ e. elim [ true ↦ λ f. rw (e, f) (ap (λ ys. x ∷ ys) (filter_both s t xs)) | false ↦ λ f. rw f (filter_both s t xs) ]
      | false ↦ λ e. elim [ true ↦ λ f. rw e (filter_both s t xs) | false ↦ λ f. filter_both s t xs ]
    ]) refl (t x) refl

-- a filter of a filter is one
filter_twice : {X : Type 0} (s t : X → Bool) (xs : List X) → filter (λ x. s x && t x) xs ≡ filter s (filter t xs)
filter_twice s t [] = refl
filter_twice s t (x ∷ xs) =
    let P : Bool → Type 0 = λ b. s x ≡ b → (c : Bool) → cond (b && c) (x ∷ filter (λ y. s y && t y) xs) (filter (λ y. s y && t y) xs) ≡ filter s (cond c (x ∷ filter t xs) (filter t xs)) in
    (elim (s x) as P [
      | true ↦ λ e. elim [ true ↦ rw e (ap (λ ys. x ∷ ys) (filter_twice s t xs)) | false ↦ filter_twice s t xs ]
      | false ↦ λ e. elim [ true ↦ rw e (filter_twice s t xs) | false ↦ filter_twice s t xs ]
    ]) refl (t x)

filter_none : {X : Type 0} (s t : X → Bool) → ((x : X) → s x ≡ true → t x ≡ false) → (xs : List X) → filter s (filter t xs) ≡ []
filter_none s t h [] = refl
filter_none {X = X} s t h (x ∷ xs) =
    let P : Bool → Type 0 = λ b. t x ≡ b → filter s (cond b (x ∷ filter t xs) (filter t xs)) ≡ [] in
    let Q : Bool → Type 0 = λ b. s x ≡ b → t x ≡ true → cond b (x ∷ filter s (filter t xs)) (filter s (filter t xs)) ≡ [] in
    (elim (t x) as P [
      | true ↦ λ f. (elim (s x) as Q [ true ↦ λ e g. absurd (false≢true (sym (h x e) ∙ g)) | false ↦ λ _ _. filter_none s t h xs ]) refl f
      | false ↦ λ _. filter_none s t h xs
    ]) refl

pub halves_shown : (range : Interval) (u n : ℕ) (entries : List Entry) → shown_in range u (take n entries) ++ shown_in range u (drop n entries) ≡ shown_in range u entries
halves_shown range u n entries =
    sym (filter-append (λ e. is_within range e.key && is_shown u e) (take n entries) (drop n entries)) ∙ ap (shown_in range u) (take-append-drop n entries)

pub shown_filter : (range : Interval) (u : ℕ) (entries : List Entry) → shown_in range u entries ≡ filter (λ e. is_within range e.key) (filter (is_shown u) entries)
shown_filter range u entries = filter_twice (λ e. is_within range e.key) (is_shown u) entries

pub shown_order : (range : Interval) (u : ℕ) (entries : List Entry) → Ascending (entry_keys entries) → Ascending (entry_keys (shown_in range u entries))
shown_order range u entries a = filter_ascends (λ e. e.key) (λ e. is_within range e.key && is_shown u e) entries a

-- what outlives a position outlives an earlier one
outlives_earlier : (floor u : ℕ) (death : Option ℕ) → floor ≤ u → outlives death u ≡ true → outlives death floor ≡ true
outlives_earlier floor u None le h = refl
outlives_earlier floor u (Some d) le h = let l = ltb-true u d h in lt-ltb floor d (omega arith)

pub trim_shows : (floor u : ℕ) (range : Interval) (entries : List Entry) → floor ≤ u → shown_in range u (without_dead floor entries) ≡ shown_in range u entries
trim_shows floor u range entries le =
    filter_within (λ e. is_within range e.key && is_shown u e) (λ e. outlives e.death floor)
    (λ e h. outlives_earlier floor u e.death le (and_parts (nat_le e.birth u) (outlives e.death u) (and_parts (is_within range e.key) (is_shown u e) h).1).1) entries

not_of : (b : Bool) → b ≡ true → not b ≡ false
not_of true h = refl
not_of false h = absurd (false≢true h)

not_false : (b : Bool) → b ≡ false → not b ≡ true
not_false true h = absurd (false≢true (sym h))
not_false false h = refl

pub sweep_hides : (range : Interval) (u : ℕ) (entries : List Entry) → shown_in range u (without_interval range entries) ≡ []
sweep_hides range u entries =
    filter_none (λ e. is_within range e.key && is_shown u e) (λ e. not (is_within range e.key))
    (λ e h. not_of (is_within range e.key) (and_parts (is_within range e.key) (is_shown u e) h).0) entries

pub sweep_keeps : (range other : Interval) (u : ℕ) (entries : List Entry) → ((key : ℕ) → IsTrue (is_within other key) → is_within range key ≡ false)
    → shown_in other u (without_interval range entries) ≡ shown_in other u entries
sweep_keeps range other u entries apart =
    filter_within (λ e. is_within other e.key && is_shown u e) (λ e. not (is_within range e.key))
    (λ e h. not_false (is_within range e.key) (apart e.key (and_parts (is_within other e.key) (is_shown u e) h).0)) entries

pub remove_shows : (key u : ℕ) (range : Interval) (entries : List Entry) → shown_in range u (without_key key entries) ≡ without_key key (shown_in range u entries)
remove_shows key u range entries = filter_both (λ e. is_within range e.key && is_shown u e) (λ e. not (nat_eq e.key key)) entries

-- keys in order are entries in order
ascends_from : {X : Type 0} (f : X → ℕ) (xs : List X) → Ascending (map f xs) → Ascends (on f nat_cmp) xs
ascends_from f [] a = tt
ascends_from {X = X} f (x ∷ xs) a = (above xs a.0, ascends_from f xs a.1)
  where
    above : (ys : List X) → AllByRecursion (λ k. f x < k) (map f ys) → AllByRecursion (λ y. is_lt (nat_cmp (f y) (f x)) ≡ false) ys
    above [] h = tt
    above (y ∷ ys) h = ((is_lt-nat_cmp (f y) (f x) ∙ (let l = h.0 in grind (arith, nat_tests))), above ys h.1)

entry_total : IsTotalOrder entry_cmp
entry_total = on_total (λ e. e.key) nat_cmp_total

pub insert_shows : (e : Entry) (u : ℕ) (range : Interval) (entries : List Entry) → Ascending (entry_keys entries) → (is_within range e.key && is_shown u e) ≡ true
    → shown_in range u (put entry_cmp e entries) ≡ put entry_cmp e (shown_in range u entries)
insert_shows e u range entries a h = filter_put_in entry_cmp entry_total (λ x. is_within range x.key && is_shown u x) e h entries (ascends_from (λ x. x.key) entries a)

pub insert_hides : (e : Entry) (u : ℕ) (range : Interval) (entries : List Entry) → (is_within range e.key && is_shown u e) ≡ false
    → shown_in range u (put entry_cmp e entries) ≡ shown_in range u entries
insert_hides e u range entries h = filter_put_out entry_cmp entry_total (λ x. is_within range x.key && is_shown u x) e h entries

-- only the entry that gets a death has its key, and it had none
only_living : (key : ℕ) (entries : List Entry) → Ascending (entry_keys entries) → has_living key entries ≡ true → AllByRecursion (λ e. nat_eq e.key key ≡ true → e.death ≡ None) entries
only_living key [] a h = tt
only_living key (e ∷ es) a h =
    let Q : Bool → Type 0 = λ b. nat_eq e.key key ≡ b → ((b && is_none e.death) || has_living key es) ≡ true → AllByRecursion (λ x. nat_eq x.key key ≡ true → x.death ≡ None) (e ∷ es) in
    (elim (nat_eq e.key key) as Q [
      | true ↦ λ same w.
          let above : AllByRecursion (λ k. key < k) (entry_keys es) = subst (λ (n : ℕ). AllByRecursion (λ k. n < k) (entry_keys es)) (eqb-true e.key key same) a.0 in
          ((λ _. no_death e.death (has_living key es) w (λ l. false≢true (sym (absent key (entry_keys es) above) ∙ living_there key es l))), others es above)
      | false ↦ λ other w. ((λ same. absurd (false≢true (sym other ∙ same))), only_living key es a.1 w)
    ]) refl h
  where
    no_death : (d : Option ℕ) (b : Bool) → (is_none d || b) ≡ true → (b ≡ true → ⊥) → d ≡ None
    no_death None b w n = refl
    no_death (Some d) b w n = absurd (n w)

    others : (xs : List Entry) → AllByRecursion (λ k. key < k) (entry_keys xs) → AllByRecursion (λ x. nat_eq x.key key ≡ true → x.death ≡ None) xs
    others [] h = tt
    others (x ∷ xs) h = ((λ same. let l = h.0 in absurd (grind (arith, nat_tests))), others xs h.1)

-- changed elements that a test tells as before, and that are offered as before
same_offers : (s : Entry → Bool) (f : Entry → Entry) (entries : List Entry) → AllByRecursion (λ e. (s (f e) ≡ s e) × (offering_of (f e) ≡ offering_of e)) entries
    → map offering_of (filter s (map f entries)) ≡ map offering_of (filter s entries)
same_offers s f [] h = refl
same_offers s f (e ∷ es) h =
    let test = h.0.0 in
    let offer = h.0.1 in
    let rest = same_offers s f es h.1 in
    let P : Bool → Type 0 = λ b. map offering_of (cond b (f e ∷ filter s (map f es)) (filter s (map f es))) ≡ map offering_of (cond b (e ∷ filter s es) (filter s es)) in
    ap (λ b. map offering_of (cond b (f e ∷ filter s (map f es)) (filter s (map f es)))) test ∙ (elim (s e) as P [ true ↦ cc | false ↦ rest ])

module _ (key number u : ℕ) (range : Interval) where
  abbrev shown : Entry → Bool
  shown e = is_within range e.key && is_shown u e

  same_before : u < number → (e : Entry) → (nat_eq e.key key ≡ true → e.death ≡ None) → (shown (with_death key number e) ≡ shown e) × (offering_of (with_death key number e) ≡ offering_of e)
  same_before lt e living =
      let dead : Entry = record { key = e.key; vector = e.vector; dists = e.dists; birth = e.birth; death = Some number } in
      let P : Bool → Type 0 = λ b. (b ≡ true → e.death ≡ None) → (shown (cond b dead e) ≡ shown e) × (offering_of (cond b dead e) ≡ offering_of e) in
      (elim (nat_eq e.key key) as P [
        | true ↦ λ h. (ap (λ b. is_within range e.key && (nat_le e.birth u && b)) (lt-ltb u number lt ∙ sym (ap (λ d. outlives d u) (h refl))), refl)
        | false ↦ λ _. (refl, refl)
      ]) living

  all_before : u < number → (entries : List Entry) → AllByRecursion (λ e. nat_eq e.key key ≡ true → e.death ≡ None) entries
      → AllByRecursion (λ e. (shown (with_death key number e) ≡ shown e) × (offering_of (with_death key number e) ≡ offering_of e)) entries
  all_before lt [] h = tt
  all_before lt (e ∷ es) h = (same_before lt e h.0, all_before lt es h.1)

  pub death_before : (entries : List Entry) → Ascending (entry_keys entries) → has_living key entries ≡ true → u < number
      → map offering_of (shown_in range u (map (with_death key number) entries)) ≡ map offering_of (shown_in range u entries)
  death_before entries a h lt = same_offers shown (with_death key number) entries (all_before lt entries (only_living key entries a h))

  pub death_after : (entries : List Entry) → number ≤ u → shown_in range u (map (with_death key number) entries) ≡ without_key key (shown_in range u entries)
  death_after [] le = refl
  death_after (e ∷ es) le =
      let dead : Entry = record { key = e.key; vector = e.vector; dists = e.dists; birth = e.birth; death = Some number } in
      let rest : List Entry = map (with_death key number) es in
      let gone : shown dead ≡ false = ap (λ b. is_within range e.key && (nat_le e.birth u && b)) (le-ltb u number le) ∙ none (is_within range e.key) (nat_le e.birth u) in
      let P : Bool → Type 0 = λ b. nat_eq e.key key ≡ b → filter shown (cond b dead e ∷ rest) ≡ without_key key (filter shown (e ∷ es)) in
      let Q : Bool → Type 0 = λ b. filter shown rest ≡ without_key key (cond b (e ∷ filter shown es) (filter shown es)) in
      let R : Bool → Type 0 = λ b. cond b (e ∷ filter shown rest) (filter shown rest) ≡ without_key key (cond b (e ∷ filter shown es) (filter shown es)) in
      (elim (nat_eq e.key key) as P [
        | true ↦ λ same. rw gone (elim (shown e) as Q [ true ↦ rw same (death_after es le) | false ↦ death_after es le ])
        | false ↦ λ other. elim (shown e) as R [ true ↦ rw other (ap (λ ys. e ∷ ys) (death_after es le)) | false ↦ death_after es le ]
      ]) refl
    where
      none : (a b : Bool) → (a && (b && false)) ≡ false
      none true true = refl
      none true false = refl
      none false b = refl

-- an entry at a place that has the key and no death
pub found_lives : (key place : ℕ) (entries : List Entry) (e : Entry) → slice_get entries place ≡ Some e → e.key ≡ key → e.death ≡ None → has_living key entries ≡ true
found_lives key place [] e at same living = absurd (cc)
found_lives key zero (x ∷ xs) e at same living =
    let is : x ≡ e = cc in
    let eq : nat_eq x.key key ≡ true = eq-eqb x.key key (ap (λ (y : Entry). y.key) is ∙ same) in
    let lives : is_none x.death ≡ true = ap (λ (y : Entry). is_none y.death) is ∙ ap is_none living in
    ap (λ b. (b && is_none x.death) || has_living key xs) eq ∙ ap (λ b. b || has_living key xs) lives
found_lives key (suc place) (x ∷ xs) e at same living =
    let P : Bool → Type 0 = λ b. (b || has_living key xs) ≡ true in
    elim (nat_eq x.key key && is_none x.death) as P [ true ↦ refl | false ↦ found_lives key place xs e at same living ]

-- An object is copied at most once a level.
use Rattle.std.proofs.Common.{◌≡◌, ℕ, suc, ◌+◌, ◌≤◌, List, [], ◌∷◌, ◌++◌, length, Bool, true, false, cond, not, ◌&&◌, refl, sym, ap, ◌∙◌, subst, arith, Some, append_assoc, append-nil}
use Rattle.std.specs.Prelude.{◌==◌, slice_get}
use Rattle.std.specs.List.{filter, fold, sum_by}
use Rattle.std.proofs.Math.Bool.{and_comm}
use Rattle.std.proofs.lemmas.Grind.{fold-append}
use Rattle.std.proofs.lemmas.List.Sums.{sum_by-cons}
use Rattle.mi_base.specs.declared.records.Update.{Update}
use Rattle.mi_base.specs.declared.records.Update.TheVariants.{Insert, Delete}
use Rattle.mi_base.specs.declared.records.LogEvent.{LogEvent}
use Rattle.mi_base.specs.declared.records.LogEvent.TheVariants.{Update as Made, Split}
use Rattle.mi_base.specs.Configuration.{Configuration}
use Rattle.mi_base.specs.History.{Object, live, live_after, updates_of}
use Rattle.mi_base.proofs.HistoryLemmas.{updates_of-append}
use Rattle.mi_base.proofs.LiveLemmas.{length_filter}
use Rattle.mi_tree.specs.Cells.{Grid, IsGrid, AllMaySplit, MaySplit, depth, is_leaf}
use Rattle.mi_tree.specs.Counting.{belongs}
use Rattle.mi_tree.specs.Legal.{EachMayFollow, LegalLog, MayFollow}
use Rattle.mi_tree.proofs.ListLemmas.{all_joined, all_any, filter_same, filter_twice}
use Rattle.mi_tree.proofs.LegalLemmas.{may_split, updates_of_split, wanted}
use Rattle.mi_tree.proofs.SplitsLemmas.{deeper}
use Rattle.mi_core.specs.Counted.{carried, inserts, total}
use Rattle.mi_core.specs.State.{count_if}
use Rattle.mi_entries.specs.Entries.{grid}
use Rattle.mi_core.proofs.CountEvents.{carried_more, inserts_more}
use Rattle.mi_entries.proofs.DepthLemmas.{depth-append}

-- the objects that were ever put in
abbrev ever_after : List Object → Update → List Object
ever_after os (Insert id v) = record { id = id; vector = v } ∷ os
ever_after os (Delete id) = os

abbrev pub ever : List Update → List Object
ever history = fold ever_after [] history

fewer_both : (p q : Object → Bool) (os : List Object) → length (filter p (filter q os)) ≤ length (filter p os)
fewer_both p q os =
    let same : filter p (filter q os) ≡ filter q (filter p os) =
    filter_twice p q os ∙ filter_same (λ o. q o && p o) (λ o. p o && q o) os (all_any _ (λ o. and_comm (q o) (p o)) os) ∙ sym (filter_twice q p os) in
    omega (arith, ap length same, length_filter q (filter p os))

count_from : (p : Object → Bool) (os es : List Object) (us : List Update) → length (filter p os) ≤ length (filter p es) → length (filter p (fold live_after os us)) ≤ length (filter p (fold ever_after es us))
count_from p os es [] h = h
count_from p os es (Insert id v ∷ us) h =
    let o : Object = record { id = id; vector = v } in
    let P : Bool → Type 0 = λ b. length (cond b (o ∷ filter p os) (filter p os)) ≤ length (cond b (o ∷ filter p es) (filter p es)) in
    count_from p (o ∷ os) (o ∷ es) us (elim (p o) as P [ true ↦ omega (arith, h) | false ↦ h ])
count_from p os es (Delete id ∷ us) h = count_from p (live_after os (Delete id)) es us (omega (arith, h, fewer_both p (λ o. not (o.id == id)) os))

-- what is live was put in
pub count_live : (p : Object → Bool) (us : List Update) → length (filter p (live us)) ≤ length (filter p (ever us))
count_live p us = count_from p [] [] us (omega arith)

ever_few_from : (os : List Object) (us : List Update) → length (fold ever_after os us) ≤ length os + length us
ever_few_from os [] = omega arith
ever_few_from os (Insert id v ∷ us) = omega (arith, ever_few_from (ever_after os (Insert id v)) us)
ever_few_from os (Delete id ∷ us) = omega (arith, ever_few_from os us)

pub ever_few : (us : List Update) → length (ever us) ≤ length us
ever_few us = omega (arith, ever_few_from [] us)

abbrev pub depths : Grid → List LogEvent → List Object → ℕ
depths g log os = sum_by (λ o. depth g log (g.perm o.vector)) os

ever_updated : (log : List LogEvent) (session op : ℕ) (u : Update) → ever (updates_of (log ++ Made session op u ∷ [])) ≡ ever_after (ever (updates_of log)) u
ever_updated log session op u = ap ever (updates_of-append log (Made session op u ∷ [])) ∙ fold-append ever_after [] (updates_of log) (u ∷ [])

module _ (g : Grid) (ok : IsGrid g) (log : List LogEvent) (may : AllMaySplit g log) where
  kept : (session op : ℕ) (u : Update) (os : List Object) → depths g (log ++ Made session op u ∷ []) os ≡ depths g log os
  kept session op u [] = refl
  kept session op u (o ∷ os) =
      omega (
        arith,
        sum_by-cons (λ (x : Object). depth g (log ++ Made session op u ∷ []) (g.perm x.vector)) o os,
        sum_by-cons (λ (x : Object). depth g log (g.perm x.vector)) o os,
        kept session op u os,
        depth-append g log (Made session op u) (g.perm o.vector),
      )

  raised : (p : List ℕ) → is_leaf g log p ≡ true → (os : List Object) → depths g (log ++ Split p ∷ []) os ≡ depths g log os + length (filter (belongs g p) os)
  raised p leaf [] = refl
  raised p leaf (o ∷ os) =
      let P : Bool → Type 0 = λ b. length (cond b (o ∷ filter (belongs g p) os) (filter (belongs g p) os)) ≡ cond b 1 0 + length (filter (belongs g p) os) in
      let more : length (filter (belongs g p) (o ∷ os)) ≡ cond (belongs g p o) 1 0 + length (filter (belongs g p) os) = elim (belongs g p o) as P [ true ↦ omega arith | false ↦ omega arith ] in
      omega (
        arith,
        sum_by-cons (λ (x : Object). depth g (log ++ Split p ∷ []) (g.perm x.vector)) o os,
        sum_by-cons (λ (x : Object). depth g log (g.perm x.vector)) o os,
        raised p leaf os,
        deeper g ok log may p o leaf,
        more,
      )

-- inserts, and how much was carried by splits
abbrev Few : Grid → List LogEvent → Type 0
Few g log = (carried g [] log ≤ depths g log (ever (updates_of log))) × (inserts log ≡ length (ever (updates_of log)))

few_after : (c : Configuration) (ok : IsGrid (grid c)) (log : List LogEvent) (e : LogEvent) → AllMaySplit (grid c) log → MayFollow c log e → Few (grid c) log → Few (grid c) (log ++ e ∷ [])
few_after c ok log (Made session op (Insert id v)) may h few =
    let o : Object = record { id = id; vector = v } in
    let g = grid c in
    let next = log ++ Made session op (Insert id v) ∷ [] in
    let was = few.0 in
    let same = few.1 in (
      omega (
        arith,
        was,
        carried_more g [] log (Made session op (Insert id v)),
        ap (depths g next) (ever_updated log session op (Insert id v)),
        sum_by-cons (λ (x : Object). depth g next (g.perm x.vector)) o (ever (updates_of log)),
        kept g ok log may session op (Insert id v) (ever (updates_of log)),
      ),
      omega (arith, same, inserts_more log (Made session op (Insert id v)), ap (λ (os : List Object). length os) (ever_updated log session op (Insert id v))),
    )
few_after c ok log (Made session op (Delete id)) may h few =
    let g = grid c in
    let next = log ++ Made session op (Delete id) ∷ [] in
    let was = few.0 in
    let same = few.1 in (
      omega (arith, was, carried_more g [] log (Made session op (Delete id)), ap (depths g next) (ever_updated log session op (Delete id)), kept g ok log may session op (Delete id) (ever (updates_of log))),
      omega (arith, same, inserts_more log (Made session op (Delete id)), ap (λ (os : List Object). length os) (ever_updated log session op (Delete id))),
    )
few_after c ok log (Split p) may h few =
    let g = grid c in
    let next = log ++ Split p ∷ [] in
    let w = wanted c log p h in
    let was = few.0 in
    let same = few.1 in (
      omega (arith, was, carried_more g [] log (Split p), ap (λ us. depths g next (ever us)) (updates_of_split log p), raised g ok log may p w.0 (ever (updates_of log)), count_live (belongs g p) (updates_of log)),
      omega (arith, same, inserts_more log (Split p), ap (λ us. length (ever us)) (updates_of_split log p)),
    )

few_from : (c : Configuration) (ok : IsGrid (grid c)) (earlier es : List LogEvent) → AllMaySplit (grid c) earlier → EachMayFollow c earlier es → Few (grid c) earlier → Few (grid c) (earlier ++ es)
few_from c ok earlier [] may h few = subst (Few (grid c)) (sym (append-nil earlier)) few
few_from c ok earlier (e ∷ es) may h few =
    subst (Few (grid c)) (append_assoc earlier (e ∷ []) es)
    (few_from c ok (earlier ++ e ∷ []) es (all_joined (MaySplit (grid c)) earlier (e ∷ []) may (may_split c earlier e h.0, tt)) h.1.1 (few_after c ok earlier e may h.0 few))

-- a legal log has carried no more than its objects are deep
pub few_carried : (c : Configuration) (log : List LogEvent) → IsGrid (grid c) → LegalLog c log → (carried (grid c) [] log ≤ depths (grid c) log (ever (updates_of log))) × (inserts log ≡ length (ever (updates_of log)))
few_carried c log ok legal = few_from c ok [] log tt legal.each (omega arith, refl)

-- sums in either order
module _ {X : Type 0} (works : X → Object → Bool) where
  by_rows : (os : List Object) (xs : List X) → total (λ x. length (filter (works x) os)) xs ≡ sum_by (λ o. count_if (λ x. works x o) xs) os
  by_rows [] xs = none xs
    where
      none : (xs : List X) → total (λ x. length (filter (works x) [])) xs ≡ 0
      none [] = refl
      none (x ∷ xs) = omega (arith, none xs)
  by_rows (o ∷ os) xs = omega (arith, sum_by-cons (λ (o : Object). count_if (λ x. works x o) xs) o os, by_rows os xs, row xs)
    where
      row : (xs : List X) → total (λ x. length (filter (works x) (o ∷ os))) xs ≡ count_if (λ x. works x o) xs + total (λ x. length (filter (works x) os)) xs
      row [] = omega arith
      row (x ∷ xs) =
          let P : Bool → Type 0 = λ b. length (cond b (o ∷ filter (works x) os) (filter (works x) os)) ≡ cond b 1 0 + length (filter (works x) os) in
          let more : length (filter (works x) (o ∷ os)) ≡ cond (works x o) 1 0 + length (filter (works x) os) = elim (works x o) as P [ true ↦ omega arith | false ↦ omega arith ] in
          omega (arith, more, row xs)

pub swapped : {X : Type 0} (works : X → Object → Bool) (os : List Object) (xs : List X) → total (λ x. length (filter (works x) os)) xs ≡ sum_by (λ o. count_if (λ x. works x o) xs) os
swapped works os xs = by_rows works os xs

-- a test that passes at one place alone
pub at_one : {X : Type 0} (t : X → Bool) (xs : List X) → ((i j : ℕ) (x y : X) → slice_get xs i ≡ Some x → slice_get xs j ≡ Some y → t x ≡ true → t y ≡ true → i ≡ j) → count_if t xs ≤ 1
at_one t [] h = omega arith
at_one {X = X} t (x ∷ xs) h =
    let P : Bool → Type 0 = λ b. t x ≡ b → cond b 1 0 + count_if t xs ≤ 1 in
    (elim (t x) as P [
      | true ↦ λ e. let none = rest e xs (λ j y p q. let z = h 0 (suc j) x y refl p e q in absurd (omega arith)) in omega arith
      | false ↦ λ e. let r = at_one t xs (λ i j a b p q u v. let z = h (suc i) (suc j) a b p q u v in omega arith) in omega arith
    ]) refl
  where
    rest : t x ≡ true → (ys : List X) → ((j : ℕ) (y : X) → slice_get ys j ≡ Some y → t y ≡ true → ⊥) → count_if t ys ≡ 0
    rest e [] never = refl
    rest e (y ∷ ys) never =
        let Q : Bool → Type 0 = λ b. t y ≡ b → cond b 1 0 + count_if t ys ≡ 0 in
        let r = rest e ys (λ j z p q. never (suc j) z p q) in
        (elim (t y) as Q [ true ↦ λ u. absurd (never 0 y refl u) | false ↦ λ u. omega arith ]) refl

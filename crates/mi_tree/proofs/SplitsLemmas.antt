-- A legal log has few splits: each takes a live object one pivot deeper.
use Rattle.std.proofs.Common.{◌≡◌, ℕ, ◌+◌, ◌*◌, ◌≤◌, List, [], ◌∷◌, ◌++◌, length, take, Bool, true, false, cond, not, ◌&&◌, nat_eq, refl, sym, ap, ◌∙◌, subst, arith, append_assoc, append-nil, length-append, min}
use Rattle.std.specs.Prelude.{◌==◌}
use Rattle.std.specs.List.{filter, fold, sum_by}
use Rattle.std.proofs.Math.ListN.{length-take}
use Rattle.std.proofs.Math.Bool.{and_comm}
use Rattle.std.proofs.Math.Nat.{mul-le-mul_right}
use Rattle.std.proofs.lemmas.Bool.{eq-eqb}
use Rattle.std.proofs.lemmas.Grind.{fold-append}
use Rattle.std.proofs.lemmas.List.Sums.{sum_by-cons, sum_by-le}
use Rattle.std.proofs.lemmas.List.Elements.{All-from_recursion}
use Rattle.mi_base.specs.declared.records.Update.{Update}
use Rattle.mi_base.specs.declared.records.Update.TheVariants.{Insert, Delete}
use Rattle.mi_base.specs.declared.records.LogEvent.{LogEvent}
use Rattle.mi_base.specs.declared.records.LogEvent.TheVariants.{Update as Made, Split}
use Rattle.mi_base.specs.Permutations.{begins}
use Rattle.mi_base.specs.Configuration.{Configuration}
use Rattle.mi_base.specs.History.{Object, live, live_after, updates_of, splits_of}
use Rattle.mi_base.proofs.HistoryLemmas.{updates_of-append}
use Rattle.mi_base.proofs.LiveLemmas.{length_filter}
use Rattle.mi_tree.specs.Cells.{Grid, IsGrid, depth, depth_after, is_leaf, MaySplit, AllMaySplit}
use Rattle.mi_tree.specs.Counting.{belongs}
use Rattle.mi_tree.specs.Legal.{MayFollow, EachMayFollow, LegalLog}
use Rattle.mi_tree.proofs.ListLemmas.{all_any, filter_same, filter_twice, all_joined}
use Rattle.mi_tree.proofs.LeafLemmas.{leaf_is, step_deep}
use Rattle.mi_tree.proofs.LegalLemmas.{grid, wanted, may_split, all_may, updates_of_split}

-- the objects that were ever put in
abbrev ever_after : List Object → Update → List Object
ever_after os (Insert id v) = record { id = id; vector = v } ∷ os
ever_after os (Delete id) = os

abbrev ever : List Update → List Object
ever history = fold ever_after [] history

-- a second test keeps no more
fewer_both : (p q : Object → Bool) (os : List Object) → length (filter p (filter q os)) ≤ length (filter p os)
fewer_both p q os =
    let same : filter p (filter q os) ≡ filter q (filter p os) =
    filter_twice p q os ∙ filter_same (λ o. q o && p o) (λ o. p o && q o) os (all_any _ (λ o. and_comm (q o) (p o)) os) ∙ sym (filter_twice q p os) in
    omega (arith, ap length same, length_filter q (filter p os))

count_from : (p : Object → Bool) (os es : List Object) (us : List Update) → length (filter p os) ≤ length (filter p es) → length (filter p (fold live_after os us)) ≤ length (filter p (fold ever_after es us))
count_from p os es [] h = h
count_from p os es (Insert id v ∷ us) h =
    let o : Object = record { id = id; vector = v } in
    let P : Bool → Type 0 = λ b. length (cond b (o ∷ filter p os) (filter p os)) ≤ length (cond b (o ∷ filter p es) (filter p es)) in
    count_from p (o ∷ os) (o ∷ es) us (elim (p o) as P [ true ↦ omega (arith, h) | false ↦ h ])
count_from p os es (Delete id ∷ us) h = count_from p (live_after os (Delete id)) es us (omega (arith, h, fewer_both p (λ o. not (o.id == id)) os))

-- what is live was put in
count_live : (p : Object → Bool) (us : List Update) → length (filter p (live us)) ≤ length (filter p (ever us))
count_live p us = count_from p [] [] us (omega arith)

ever_few_from : (os : List Object) (us : List Update) → length (fold ever_after os us) ≤ length os + length us
ever_few_from os [] = omega arith
ever_few_from os (Insert id v ∷ us) = omega (arith, ever_few_from (ever_after os (Insert id v)) us)
ever_few_from os (Delete id ∷ us) = omega (arith, ever_few_from os us)

-- the leaf of a permutation after one more event
depth-append : (g : Grid) (log : List LogEvent) (e : LogEvent) (perm : List ℕ) → depth g (log ++ e ∷ []) perm ≡ depth_after perm (depth g log perm) e
depth-append g log e perm = fold-append (depth_after perm) (min 1 g.pivots) log (e ∷ [])

depth_from : (g : Grid) (perm : List ℕ) (d : ℕ) (log : List LogEvent) → AllMaySplit g log → d ≤ g.levels → fold (depth_after perm) d log ≤ g.levels
depth_from g perm d [] may h = h
depth_from g perm d (e ∷ log) may h = depth_from g perm (depth_after perm d e) log may.1 (step_deep g perm d e may.0 h)

-- no leaf is deeper than the greatest depth
pub depth_within : (g : Grid) (ok : IsGrid g) (log : List LogEvent) → AllMaySplit g log → (perm : List ℕ) → depth g log perm ≤ g.levels
depth_within g ok log may perm = depth_from g perm (min 1 g.pivots) log may ok.first

-- how deep all that were put in are together
abbrev depths : Grid → List LogEvent → List Object → ℕ
depths g log os = sum_by (λ o. depth g log (g.perm o.vector)) os

module _ (g : Grid) (ok : IsGrid g) (log : List LogEvent) (may : AllMaySplit g log) where
  -- an update takes none deeper
  kept : (session op : ℕ) (u : Update) (os : List Object) → depths g (log ++ Made session op u ∷ []) os ≡ depths g log os
  kept session op u [] = refl
  kept session op u (o ∷ os) =
      omega (
        arith,
        sum_by-cons (λ (x : Object). depth g (log ++ Made session op u ∷ []) (g.perm x.vector)) o os,
        sum_by-cons (λ (x : Object). depth g log (g.perm x.vector)) o os,
        kept session op u os,
        depth-append g log (Made session op u) (g.perm o.vector),
      )

  -- a split takes each that belongs to its leaf one deeper
  pub deeper : (p : List ℕ) (o : Object) → is_leaf g log p ≡ true → depth g (log ++ Split p ∷ []) (g.perm o.vector) ≡ depth g log (g.perm o.vector) + cond (belongs g p o) 1 0
  deeper p o leaf =
      let perm = g.perm o.vector in
      let d = depth g log perm in
      let P : Bool → Type 0 = λ b. begins p perm ≡ b → cond (nat_eq (length p) d && b) (d + 1) d ≡ d + cond b 1 0 in
      depth-append g log (Split p) perm
      ∙ (elim (begins p perm) as P [
        | true ↦ λ e.
            let front : p ≡ take d perm = leaf_is g ok log may p o.vector leaf e in
            let size : length p ≡ d = omega (arith, ap length front, length-take {A = ℕ}, (ok.perms o.vector).1, ok.levels, depth_within g ok log may perm) in
            rw (eq-eqb (length p) d size) refl
        | false ↦ λ e. let P2 : Bool → Type 0 = λ b. cond (b && false) (d + 1) d ≡ d + 0 in elim (nat_eq (length p) d) as P2 [ true ↦ omega arith | false ↦ omega arith ]
      ]) refl

  raised : (p : List ℕ) → is_leaf g log p ≡ true → (os : List Object) → depths g (log ++ Split p ∷ []) os ≡ depths g log os + length (filter (belongs g p) os)
  raised p leaf [] = refl
  raised p leaf (o ∷ os) =
      let P : Bool → Type 0 = λ b. length (cond b (o ∷ filter (belongs g p) os) (filter (belongs g p) os)) ≡ cond b 1 0 + length (filter (belongs g p) os) in
      let more : length (filter (belongs g p) (o ∷ os)) ≡ cond (belongs g p o) 1 0 + length (filter (belongs g p) os) = elim (belongs g p o) as P [ true ↦ omega arith | false ↦ omega arith ] in
      omega (
        arith,
        sum_by-cons (λ (x : Object). depth g (log ++ Split p ∷ []) (g.perm x.vector)) o os,
        sum_by-cons (λ (x : Object). depth g log (g.perm x.vector)) o os,
        raised p leaf os,
        deeper p o leaf,
        more,
      )

-- there are no more splits than all that were put in are deep
abbrev Few : Grid → List LogEvent → Type 0
Few g log = length log ≤ length (updates_of log) + depths g log (ever (updates_of log))

ever_updated : (log : List LogEvent) (session op : ℕ) (u : Update) → ever (updates_of (log ++ Made session op u ∷ [])) ≡ ever_after (ever (updates_of log)) u
ever_updated log session op u = ap ever (updates_of-append log (Made session op u ∷ [])) ∙ fold-append ever_after [] (updates_of log) (u ∷ [])

few_after : (c : Configuration) (ok : IsGrid (grid c)) (log : List LogEvent) (e : LogEvent) → AllMaySplit (grid c) log → MayFollow c log e → Few (grid c) log → Few (grid c) (log ++ e ∷ [])
few_after c ok log (Made session op (Insert id v)) may h few =
    let o : Object = record { id = id; vector = v } in
    let g = grid c in
    let next = log ++ Made session op (Insert id v) ∷ [] in
    omega (
      arith,
      few,
      length-append log (Made session op (Insert id v) ∷ []),
      ap length (updates_of-append log (Made session op (Insert id v) ∷ [])),
      length-append (updates_of log) (Insert id v ∷ []),
      ap (depths g next) (ever_updated log session op (Insert id v)),
      sum_by-cons (λ (x : Object). depth g next (g.perm x.vector)) o (ever (updates_of log)),
      kept g ok log may session op (Insert id v) (ever (updates_of log)),
    )
few_after c ok log (Made session op (Delete id)) may h few =
    let g = grid c in
    let next = log ++ Made session op (Delete id) ∷ [] in
    omega (
      arith,
      few,
      length-append log (Made session op (Delete id) ∷ []),
      ap length (updates_of-append log (Made session op (Delete id) ∷ [])),
      length-append (updates_of log) (Delete id ∷ []),
      ap (depths g next) (ever_updated log session op (Delete id)),
      kept g ok log may session op (Delete id) (ever (updates_of log)),
    )
few_after c ok log (Split p) may h few =
    let g = grid c in
    let next = log ++ Split p ∷ [] in
    let w = wanted c log p h in
    omega (
      arith,
      few,
      length-append log (Split p ∷ []),
      ap length (updates_of_split log p),
      ap (λ us. depths g next (ever us)) (updates_of_split log p),
      raised g ok log may p w.0 (ever (updates_of log)),
      count_live (belongs g p) (updates_of log),
      w.1.1,
    )

few_from : (c : Configuration) (ok : IsGrid (grid c)) (earlier es : List LogEvent) → AllMaySplit (grid c) earlier → EachMayFollow c earlier es → Few (grid c) earlier → Few (grid c) (earlier ++ es)
few_from c ok earlier [] may h few = subst (Few (grid c)) (sym (append-nil earlier)) few
few_from c ok earlier (e ∷ es) may h few =
    subst (Few (grid c)) (append_assoc earlier (e ∷ []) es)
    (few_from c ok (earlier ++ e ∷ []) es (all_joined (MaySplit (grid c)) earlier (e ∷ []) may (may_split c earlier e h.0, tt)) h.1.1 (few_after c ok earlier e may h.0 few))

-- a legal log has at most as many splits as updates times levels
pub few_splits : (c : Configuration) (log : List LogEvent) → IsGrid (grid c) → LegalLog c log → splits_of log ≤ c.updates * c.levels
few_splits c log ok legal =
    let g = grid c in
    let may = all_may c log legal in
    let few : Few g log = few_from c ok [] log tt legal.each (omega arith) in
    let most : depths g log (ever (updates_of log)) ≤ length (ever (updates_of log)) * g.levels =
    sum_by-le (λ (o : Object). depth g log (g.perm o.vector)) g.levels (ever (updates_of log)) (All-from_recursion _ _ (all_any _ (λ (o : Object). depth_within g ok log may (g.perm o.vector)) _)) in
    let size = ever_few_from [] (updates_of log) in
    let bound : length (ever (updates_of log)) * g.levels ≤ c.updates * c.levels = mul-le-mul_right c.levels (omega (arith, size, legal.few)) in
    omega (arith, few, most, bound)

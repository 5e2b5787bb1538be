-- Trims of one leaf page after another.
use Rattle.std.proofs.Common.{◌≡◌, ◌≢◌, ℕ, zero, suc, ◌<◌, ◌≤◌, ◌==◌, List, [], ◌∷◌, length, set, nat_le, Bool, true, false, cond, Option, Some, None, refl, sym, ap, ◌∙◌, subst, arith, inl, inr, eq-eqb, get_or-set_other, get_or-set_same}
use Rattle.std.specs.Prelude.{slice_get}
use Rattle.std.proofs.lemmas.Bool.{and_from, and_parts, cases_eq, cases_lt, le-leb, leb-true, lt-ltb, ltb-true}
use Rattle.std.proofs.lemmas.Bool.Decides.{nat_tests}
use Rattle.std.proofs.lemmas.Option.{none-some, same_Some, slice_get-get_or}
use Rattle.mi_base.specs.History.{updates_of}
use Rattle.mi_page.specs.Entries.{outlives}
use Rattle.mi_page.specs.Keys.{IsInside, is_below}
use Rattle.mi_page.specs.Nodes.{Node}
use Rattle.mi_forest.specs.Forests.{Follows, Forest, IsLinked}
use Rattle.mi_forest.proofs.LawLemmas.{one_page}
use Rattle.mi_forest.proofs.MoveLemmas.{right_of, stands}
use Rattle.mi_entries.proofs.FilterLemmas.{all_passes, and_no}
use Rattle.mi_core.specs.Effects.{trim_node}
use Rattle.mi_core.specs.Pages.{forest_of, node_or_fresh}
use Rattle.mi_core.specs.Sound.{Sound}
use Rattle.mi_core.specs.State.{State, count_if, node_at}
use Rattle.mi_core.proofs.ActorLemmas.{count_same}
use Rattle.mi_core.proofs.HalveEvents.{count_some}
use Rattle.mi_core.proofs.NamedLemmas.{first_page}
use Rattle.mi_core.proofs.PageLemmas.{within}
use Rattle.mi_solo.specs.Sections.{Trims}
use Rattle.mi_solo.specs.Seeking.{TrimsTo}
use Rattle.mi_solo.specs.States.{actor_in, node_in}
use Rattle.mi_world.specs.declared.answers.Visit.TheVariants.{Read}
use Rattle.mi_settle.specs.Entries.{HasTrimmedTo, HasNoDead, IsTrimmed, IsTrimmedBelow, is_leaf_from, pages_from}

-- a test that passes no more
test_few : {X : Type 0} (p q : X → Bool) (x : X) → (p x ≡ true → q x ≡ true) → cond {A = ℕ} (p x) 1 0 ≤ cond (q x) 1 0
test_few p q x h =
    let P : Bool → Type 0 = λ b. p x ≡ b → cond {A = ℕ} b 1 0 ≤ cond (q x) 1 0 in
    (elim (p x) as P [ true ↦ λ e. rw (h e) (omega arith) | false ↦ λ e. omega arith ]) refl

count_few : {X : Type 0} (p q : X → Bool) (xs : List X) → ((y : X) → p y ≡ true → q y ≡ true) → count_if p xs ≤ count_if q xs
count_few p q [] h = omega arith
count_few p q (x ∷ xs) h = omega (arith, test_few p q x (h x), count_few p q xs h)

-- a test that passes one element more
count_more : {X : Type 0} (p q : X → Bool) (xs : List X) (i : ℕ) (x : X) → slice_get xs i ≡ Some x → p x ≡ false → q x ≡ true → ((y : X) → p y ≡ true → q y ≡ true) → count_if p xs < count_if q xs
count_more p q [] i x e n o h = absurd (none-some x e)
count_more p q (y ∷ xs) zero x e n o h =
    let same : y ≡ x = same_Some y x e in
    let out : cond {A = ℕ} (p y) 1 0 ≡ 0 = ap (λ b. cond {A = ℕ} b 1 0) (ap p same ∙ n) in
    let one : cond {A = ℕ} (q y) 1 0 ≡ 1 = ap (λ b. cond {A = ℕ} b 1 0) (ap q same ∙ o) in
    omega (arith, count_few p q xs h, out, one)
count_more p q (y ∷ xs) (suc i) x e n o h = omega (arith, test_few p q y (h y), count_more p q xs i x e n o h)

-- the page of a number, as an element of the list
at_page : (pages : List (Option Node)) (p : ℕ) (n : Node) → node_at pages p ≡ Some n → slice_get pages p ≡ Some (Some n)
at_page pages p n e = slice_get-get_or pages p None (within pages p n e) ∙ ap Some e

-- a page that stands from a low key on stands from each lower one on
lower_from : (low high : ℕ) → low ≤ high → (o : Option Node) → is_leaf_from high o ≡ true → is_leaf_from low o ≡ true
lower_from low high le None h = h
lower_from low high le (Some n) h =
    let both = and_parts (n.level == 0) (nat_le high n.low) h in
    let from = leb-true high n.low both.1 in
    and_from (n.level == 0) (nat_le low n.low) both.0 (le-leb low n.low (omega arith))

own_from : (n : Node) → n.level ≡ 0 → is_leaf_from n.low (Some n) ≡ true
own_from n level = and_from (n.level == 0) (nat_le n.low n.low) (eq-eqb n.level 0 level) (le-leb n.low n.low (omega arith))

not_from : (high : ℕ) (n : Node) → n.low < high → is_leaf_from high (Some n) ≡ false
not_from high n lt = and_no (n.level == 0) (nat_le high n.low) (let out : nat_le high n.low ≡ false = grind (arith, nat_tests) in out)

first_below : (s : State) (updates : ℕ) → IsTrimmedBelow updates (Some 0) s
first_below s updates page n there level low = absurd (let lt : n.low < 0 = ltb-true n.low 0 low in omega arith)

pub trimmed_last : (s : State) → HasTrimmedTo (length (updates_of s.board.log)) None s → IsTrimmed s
trimmed_last s h page n there level = h page n there level refl

module _ (s : State) (k : Sound s) where
  abbrev f : Forest
  f = forest_of s.board s.pages s.actors k.chain

  pub trimmed_first : (updates : ℕ) → HasTrimmedTo updates (Some 0) s
  trimmed_first updates =
      let p = first_page s k in
      (p.0, p.1, p.2, subst (λ (low : ℕ). IsTrimmedBelow updates (Some low) s) (sym p.3) (first_below s updates))

  -- a linked page lies in its own range
  inside_own : (p : ℕ) → IsLinked f p → IsInside (f.node p).low (f.node p).high (f.node p).low
  inside_own p linked = record { from_low = omega arith; below_high = (stands f k.pages.forest p linked).stands.wide }

  module _ (page updates : ℕ) (node : Node) (there : node_at s.pages page ≡ Some node) (level : node.level ≡ 0) where
    abbrev trimmed : Node
    trimmed = trim_node updates node

    abbrev pages' : List (Option Node)
    pages' = set s.pages page (Some trimmed)

    here : f.node page ≡ node
    here = ap node_or_fresh there

    linked : IsLinked f page
    linked = k.pages.linked page node there

    now : node_at pages' page ≡ Some trimmed
    now = get_or-set_same s.pages page (Some trimmed) None (within s.pages page node there)

    -- another leaf page that is not to the left of it is to the right
    other_left : (p : ℕ) (x : Node) → p ≢ page → node_at s.pages p ≡ Some x → x.level ≡ 0 → is_below node.high x.low ≡ true → is_below (Some node.low) x.low ≡ true
    other_left p x apart e flat below = elim (cases_lt x.low node.low) [
      | inl lt ↦ lt-ltb x.low node.low lt
      | inr le ↦
          let own : f.node p ≡ x = ap node_or_fresh e in
          let l : IsLinked f p = k.pages.linked p x e in
          let low : (f.node p).low ≡ x.low = ap (λ (m : Node). m.low) own in
          let inner : IsInside (f.node page).low (f.node page).high x.low = subst (λ (m : Node). IsInside m.low m.high x.low) (sym here) (record { from_low = le; below_high = below }) in
          let levels : (f.node p).level ≡ (f.node page).level = ap (λ (m : Node). m.level) own ∙ flat ∙ sym (ap (λ (m : Node). m.level) here ∙ level) in
          absurd (apart (one_page f k.pages.forest p page x.low l linked levels (subst (IsInside (f.node p).low (f.node p).high) low (inside_own p l)) inner))
    ]

    module _ (t : State) (same : t.pages ≡ pages') where
      below_next : IsTrimmedBelow updates (Some node.low) s → IsTrimmedBelow updates node.high t
      below_next h p x e flat below =
          let e' : node_at pages' p ≡ Some x = ap (λ (xs : List (Option Node)). node_at xs p) (sym same) ∙ e in
          elim (cases_eq p page) [
            | inl own ↦
                let is : trimmed ≡ x = same_Some trimmed x (sym now ∙ ap (node_at pages') (sym own) ∙ e') in
                subst (HasNoDead updates) is (all_passes (λ z. outlives z.death updates) node.entries)
            | inr o ↦
                let was : node_at s.pages p ≡ Some x = sym (get_or-set_other s.pages page p (Some trimmed) None o) ∙ e' in
                h p x was flat (other_left p x o was flat below)
          ]

      -- the page to the right
      pub sibling : (m high : ℕ) → node.high ≡ Some high → node.right ≡ Some m → (x : Node) × (node_at t.pages m ≡ Some x) × (x.level ≡ 0) × (x.low ≡ high) × (node.low < high)
      sibling m high up right =
          let next : Follows f page m = right_of f k.pages.forest page m linked (ap (λ (y : Node). y.right) here ∙ right) in
          let there' = k.pages.there m next.linked in
          let is : f.node m ≡ there'.0 = ap node_or_fresh there'.1 in
          let low : there'.0.low ≡ high = ap (λ (y : Node). y.low) (sym is) ∙ same_Some (f.node m).low high (sym next.high ∙ ap (λ (y : Node). y.high) here ∙ up) in
          let low_here = ap (λ (y : Node). y.low) here in
          let low_there = ap (λ (y : Node). y.low) is in
          let far = next.farther in
          let apart : m ≢ page = λ e. let lows = ap (λ (n : ℕ). (f.node n).low) e in omega arith in (
            there'.0,
            ap (λ (xs : List (Option Node)). node_at xs m) same ∙ get_or-set_other s.pages page m (Some trimmed) None apart ∙ there'.1,
            ap (λ (y : Node). y.level) (sym is) ∙ next.height ∙ ap (λ (y : Node). y.level) here ∙ level,
            low,
            omega arith,
          )

      pub trimmed_next : (next : Option ℕ) → TrimsTo node next → IsTrimmedBelow updates (Some node.low) s → HasTrimmedTo updates next t
      trimmed_next None none h = subst (λ (o : Option ℕ). IsTrimmedBelow updates o t) none (below_next h)
      trimmed_next (Some m) some h =
          let x = sibling m some.0 some.1 some.2 in
          (x.0, x.1, x.2, subst (λ (o : Option ℕ). IsTrimmedBelow updates o t) (some.1 ∙ ap Some (sym x.3)) (below_next h))

      pub fewer_next : (next : Option ℕ) → TrimsTo node next → pages_from next t < pages_from (Some page) s
      fewer_next next to =
          let here_low : (node_or_fresh (node_at s.pages page)).low ≡ node.low = ap (λ (o : Option Node). (node_or_fresh o).low) there in
          subst (λ (low : ℕ). pages_from next t < count_if (is_leaf_from low) s.pages) (sym here_low) (go next to)
        where
          go : (next : Option ℕ) → TrimsTo node next → pages_from next t < count_if (is_leaf_from node.low) s.pages
          go None none = count_some (is_leaf_from node.low) s.pages page (Some node) (at_page s.pages page node there) (own_from node level)
          go (Some m) some =
              let x = sibling m some.0 some.1 some.2 in
              let low : (node_or_fresh (node_at t.pages m)).low ≡ some.0 = ap (λ (o : Option Node). (node_or_fresh o).low) x.1 ∙ x.3 in
              let stay : count_if (is_leaf_from some.0) t.pages ≡ count_if (is_leaf_from some.0) s.pages =
              ap (count_if (is_leaf_from some.0)) same ∙ count_same (is_leaf_from some.0) s.pages page (Some trimmed) (Some node) (at_page s.pages page node there) refl in
              subst (λ (l : ℕ). count_if (is_leaf_from l) t.pages < count_if (is_leaf_from node.low) s.pages) (sym low)
              (subst (λ (n : ℕ). n < count_if (is_leaf_from node.low) s.pages) (sym stay)
              (count_more (is_leaf_from some.0) (is_leaf_from node.low) s.pages page (Some node) (at_page s.pages page node there) (not_from some.0 node x.4) (own_from node level) (lower_from node.low some.0 (let lt = x.4 in omega arith))))

  pub trims_next : (t : State) (a page : ℕ) (next : Option ℕ) → HasTrimmedTo (actor_in s a).floor.updates (Some page) s → Trims s a page (Read next) t → HasTrimmedTo (actor_in s a).floor.updates next t
  trims_next t a page next h trims =
      let n = node_in s page in
      let same : n ≡ h.0 = ap node_or_fresh h.1 in
      let on = trims.0.can in
      trimmed_next page (actor_in s a).floor.updates n on.there on.level t (ap (λ (z : State). z.pages) trims.0.is) next trims.1
      (subst (λ (low : ℕ). IsTrimmedBelow (actor_in s a).floor.updates (Some low) s) (ap (λ (m : Node). m.low) (sym same)) h.3)

  pub trims_fewer : (t : State) (a page : ℕ) (next : Option ℕ) → Trims s a page (Read next) t → pages_from next t < pages_from (Some page) s
  trims_fewer t a page next trims =
      let on = trims.0.can in
      fewer_next page (actor_in s a).floor.updates (node_in s page) on.there on.level t (ap (λ (z : State). z.pages) trims.0.is) next trims.1

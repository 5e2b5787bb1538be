-- Owed routes, event by event.
use Rattle.std.proofs.Common.{◌≡◌, ◌≢◌, ℕ, zero, suc, ◌+◌, ◌<◌, List, [], ◌∷◌, map, take, drop, set, Bool, true, false, cond, ◌||◌, nat_eq, Option, Some, None, refl, sym, ap, ◌∙◌, subst, arith, inl, inr, ◌⊎◌, get_or-set_other, get_or-set_same, eq-eqb}
use Rattle.std.specs.Prelude.{slice_get}
use Rattle.std.specs.List.{AllByRecursion}
use Rattle.std.specs.declared.cmp.Ordering.{Ordering}
use Rattle.std.specs.Ordering.{is_lt}
use Rattle.std.proofs.lemmas.Bool.{cases_eq, false≢true}
use Rattle.mi_base.specs.Prefixes.{has}
use Rattle.mi_base.specs.Sorting.{put}
use Rattle.mi_page.specs.declared.routes.Route.{Route}
use Rattle.mi_page.specs.Nodes.{Node}
use Rattle.mi_forest.specs.Paths.{children_of}
use Rattle.mi_core.specs.Debts.{Debts, IsDebt, IsOwed, IsRouted}
use Rattle.mi_forest.specs.Forests.{IsChain}
use Rattle.mi_core.specs.Later.{IsStill}
use Rattle.mi_entries.specs.Actors.{Actor, Owed}
use Rattle.mi_core.specs.State.{node_at}
use Rattle.mi_core.proofs.ActorLemmas.{«is», each_set, set_else, set_there}
use Rattle.std.proofs.lemmas.Option.{same_Some}
use Rattle.mi_forest.proofs.ChainLemmas.{lows_rise}
use Rattle.mi_forest.proofs.NumberLemmas.{other}
use Rattle.mi_core.proofs.PageLemmas.{within}
use Rattle.mi_tree.proofs.ListLemmas.{all_weaker}

pub or_right : (a b : Bool) → b ≡ true → (a || b) ≡ true
or_right true b h = refl
or_right false b h = h

-- a child is in one of the halves
pub child_halves : (n i : ℕ) (rs : List Route) → has n (children_of rs) ≡ true → (has n (children_of (take i rs)) ≡ true) ⊎ (has n (children_of (drop i rs)) ≡ true)
child_halves n zero rs h = inr h
child_halves n (suc i) [] h = inr h
child_halves n (suc i) (r ∷ rs) h =
    let Q : Bool → Type 0 = λ b. nat_eq r.child n ≡ b → (b || has n (children_of rs)) ≡ true → (has n (children_of (take (suc i) (r ∷ rs))) ≡ true) ⊎ (has n (children_of (drop i rs)) ≡ true) in
    (elim (nat_eq r.child n) as Q [
      | true ↦ λ e _. inl (ap (λ b. b || has n (children_of (take i rs))) e)
      | false ↦ λ _ t. elim (child_halves n i rs t) [ inl a ↦ inl (or_right (nat_eq r.child n) (has n (children_of (take i rs))) a) | inr a ↦ inr a ]
    ]) refl h

pub child_put : (cmp : Route → Route → Ordering) (r : Route) (rs : List Route) → has r.child (children_of (put cmp r rs)) ≡ true
child_put cmp r [] = ap (λ b. b || false) (eq-eqb r.child r.child refl)
child_put cmp r (s ∷ rs) =
    let Q : Bool → Type 0 = λ b. has r.child (children_of (cond b (s ∷ put cmp r rs) (r ∷ s ∷ rs))) ≡ true in
    elim (is_lt (cmp s r)) as Q [
      | true ↦ or_right (nat_eq s.child r.child) (has r.child (children_of (put cmp r rs))) (child_put cmp r rs)
      | false ↦ ap (λ b. b || has r.child (children_of (s ∷ rs))) (eq-eqb r.child r.child refl)
    ]

pub child_kept : (cmp : Route → Route → Ordering) (r : Route) (n : ℕ) (rs : List Route) → has n (children_of rs) ≡ true → has n (children_of (put cmp r rs)) ≡ true
child_kept cmp r n [] h = absurd (false≢true h)
child_kept cmp r n (s ∷ rs) h =
    let Q : Bool → Type 0 = λ b. has n (children_of (cond b (s ∷ put cmp r rs) (r ∷ s ∷ rs))) ≡ true in
    let R : Bool → Type 0 = λ b. (b || has n (children_of rs)) ≡ true → (b || has n (children_of (put cmp r rs))) ≡ true in
    elim (is_lt (cmp s r)) as Q [
      | true ↦ (elim (nat_eq s.child n) as R [ true ↦ λ _. refl | false ↦ λ t. child_kept cmp r n rs t ]) h
      | false ↦ or_right (nat_eq r.child n) (has n (children_of (s ∷ rs))) h
    ]

-- pages of one level with one low key are one
pub same_low : (node : ℕ → Node) (level : ℕ) (ns : List ℕ) → IsChain node level ns → (n m : ℕ) → has n ns ≡ true → has m ns ≡ true → (node n).low ≡ (node m).low → n ≡ m
same_low node level [] c n m hn hm e = absurd (false≢true hn)
same_low node level (x ∷ xs) c n m hn hm e = elim (cases_eq x n) [
  | inl a ↦ elim (cases_eq x m) [
    | inl b ↦ sym a ∙ b
    | inr b ↦
        let low = rise xs (lows_rise node level x xs c) m (without b hm) in
        let here = ap (λ k. (node k).low) a in
        absurd (omega arith)
  ]
  | inr a ↦ elim (cases_eq x m) [
    | inl b ↦
        let low = rise xs (lows_rise node level x xs c) n (without a hn) in
        let here = ap (λ k. (node k).low) b in
        absurd (omega arith)
    | inr b ↦ same_low node level xs c.1 n m (without a hn) (without b hm) e
  ]
]
  where
    without : {k : ℕ} {rest : Bool} → x ≢ k → (nat_eq x k || rest) ≡ true → rest ≡ true
    without {k = k} {rest = rest} o t = sym (ap (λ b. b || rest) (other x k o)) ∙ t

    rise : (ys : List ℕ) → AllByRecursion (λ y. (node x).low < (node y).low) ys → (k : ℕ) → has k ys ≡ true → (node x).low < (node k).low
    rise [] h k t = absurd (false≢true t)
    rise (y ∷ ys) h k t = elim (cases_eq y k) [
      | inl q ↦ subst (λ (j : ℕ). (node x).low < (node j).low) q h.0
      | inr q ↦ rise ys h.1 k (sym (ap (λ b. b || has k ys) (other y k q)) ∙ t)
    ]

abbrev pub Goes : List (Option Node) → List (Option Node) → Type 0
Goes pages pages' = (n : ℕ) (p : Node) → node_at pages n ≡ Some p → IsStill pages' n p

abbrev pub Routes : List (Option Node) → List (Option Node) → Type 0
Routes pages pages' = (n level : ℕ) → IsRouted pages n level → IsRouted pages' n level

pub debt_stays : (pages pages' : List (Option Node)) → Goes pages pages' → (o : Owed) → IsDebt pages o → IsDebt pages' o
debt_stays pages pages' goes o h = let m = goes o.child h.below h.there in record {
  below = m.now;
  there = m.there;
  level = ap (λ n. n + 1) m.level ∙ h.level;
  low = m.low ∙ h.low;
  above = h.above;
}

pub same_node : (pages : List (Option Node)) (n : ℕ) (p q : Node) → node_at pages n ≡ Some p → node_at pages n ≡ Some q → p ≡ q
same_node pages n p q a b = same_Some p q (sym a ∙ b)

-- one page is another of its level and low key, with all its children_of
module _ (pages : List (Option Node)) (page : ℕ) (node y : Node) (on : node_at pages page ≡ Some node) (level : y.level ≡ node.level) (low : y.low ≡ node.low)
    (kept : (m : ℕ) → has m (children_of node.routes) ≡ true → has m (children_of y.routes) ≡ true) where
  abbrev one' : List (Option Node)
  one' = set pages page (Some y)

  here : node_at one' page ≡ Some y
  here = get_or-set_same pages page (Some y) None (within pages page node on)

  else : (n : ℕ) → n ≢ page → node_at one' n ≡ node_at pages n
  else n o = get_or-set_other pages page n (Some y) None o

  pub set_goes : Goes pages one'
  set_goes n p h = elim (cases_eq n page) [
    | inl e ↦
        let is : p ≡ node = same_node pages n p node h (ap (node_at pages) e ∙ on) in
        record { now = y; there = ap (node_at one') e ∙ here; level = level ∙ ap (λ (x : Node). x.level) (sym is); low = low ∙ ap (λ (x : Node). x.low) (sym is) }
    | inr o ↦ record { now = p; there = else n o ∙ h; level = refl; low = refl }
  ]

  pub set_routes : Routes pages one'
  set_routes n l r = elim (cases_eq r.parent page) [
    | inl e ↦
        let is : r.node ≡ node = same_node pages r.parent r.node node r.there (ap (node_at pages) e ∙ on) in
        record { parent = page; node = y; there = here; height = level ∙ ap (λ (x : Node). x.level) (sym is) ∙ r.height; child = kept n (ap (λ (x : Node). has n (children_of x.routes)) (sym is) ∙ r.child) }
    | inr o ↦ record { parent = r.parent; node = r.node; there = else r.parent o ∙ r.there; height = r.height; child = r.child }
  ]

  pub set_back : (n : ℕ) (q : Node) → node_at one' n ≡ Some q → (p : Node) × (node_at pages n ≡ Some p) × (q.level ≡ p.level) × (q.low ≡ p.low)
  set_back n q h = elim (cases_eq n page) [
    | inl e ↦
        let is : q ≡ y = same_node one' n q y h (ap (node_at one') e ∙ here) in
        (node, ap (node_at pages) e ∙ on, ap (λ (x : Node). x.level) is ∙ level, ap (λ (x : Node). x.low) is ∙ low)
    | inr o ↦ (q, sym (else n o) ∙ h, refl, refl)
  ]

  pub set_here : node_at one' page ≡ Some y
  set_here = here

-- an actor whose debts are as before
module _ (actors : List Actor) (a : ℕ) (r q : Actor) (there : slice_get actors a ≡ Some r) where
  pub owed_on : q.owed ≡ r.owed → (n : ℕ) → IsOwed actors n → IsOwed (set actors a q) n
  owed_on same n h =
      let m = «is» actors a r q there (λ t. t.owed) same h.by h.actor h.there in
      record { by = h.by; actor = m.0; there = m.1; owes = ap (λ (os : List Owed). has n (map (λ o. o.child) os)) m.2 ∙ h.owes }

  -- debts of the actor that the change keeps
  pub owed_part : (n : ℕ) → (has n (map (λ (o : Owed). o.child) r.owed) ≡ true → has n (map (λ (o : Owed). o.child) q.owed) ≡ true) → IsOwed actors n → IsOwed (set actors a q) n
  owed_part n keeps h = elim (cases_eq h.by a) [
    | inl e ↦
        let is : h.actor ≡ r = same_Some h.actor r (sym h.there ∙ ap (slice_get actors) e ∙ there) in
        record { by = a; actor = q; there = set_there actors a q r there; owes = keeps (ap (λ (t : Actor). has n (map (λ o. o.child) t.owed)) (sym is) ∙ h.owes) }
    | inr o ↦ record { by = h.by; actor = h.actor; there = set_other h.by o ∙ h.there; owes = h.owes }
  ]
    where
      set_other : (b : ℕ) → b ≢ a → slice_get (set actors a q) b ≡ slice_get actors b
      set_other b o = set_else actors a b q o

-- no debt changes
pub same_debts : (pages pages' : List (Option Node)) (actors : List Actor) → Debts pages actors → (a : ℕ) (r q : Actor) → slice_get actors a ≡ Some r → q.owed ≡ r.owed → Goes pages pages' → Routes pages pages'
    → ((n : ℕ) (q : Node) → node_at pages' n ≡ Some q → (p : Node) × (node_at pages n ≡ Some p) × (q.level ≡ p.level) × (q.low ≡ p.low)) → Debts pages' (set actors a q)
same_debts pages pages' actors d a r q there same goes routes back = record {
  stand = each_set actors a r q there (λ b t. AllByRecursion (IsDebt pages') t.owed)
      (subst (AllByRecursion (IsDebt pages')) (sym same) (all_weaker _ _ (debt_stays pages pages' goes) r.owed (d.stand a r there)))
      (λ b t n e. all_weaker _ _ (debt_stays pages pages' goes) t.owed (d.stand b t e));
  owed = λ n x h low.
      let b = back n x h in
      elim (d.owed n b.0 b.1 (let l = b.3 in omega arith)) [
        | inl z ↦ inl (subst (IsRouted pages' n) (sym b.2) (routes n b.0.level z))
        | inr z ↦ inr (owed_on actors a r q there same n z)
      ];
}

pub quiet_debts : (pages : List (Option Node)) (actors : List Actor) → Debts pages actors → (a : ℕ) (r q : Actor) → slice_get actors a ≡ Some r → q.owed ≡ r.owed → Debts pages (set actors a q)
quiet_debts pages actors d a r q there same = same_debts pages pages actors d a r q there same (λ n p h. record { now = p; there = h; level = refl; low = refl }) (λ n l h. h) (λ n x h. (x, h, refl, refl))

pub leaf_debts : (pages : List (Option Node)) (actors : List Actor) → Debts pages actors → (a : ℕ) (r q : Actor) → slice_get actors a ≡ Some r → q.owed ≡ r.owed
    → (page : ℕ) (node y : Node) → node_at pages page ≡ Some node → y.level ≡ node.level → y.low ≡ node.low → y.routes ≡ node.routes → Debts (set pages page (Some y)) (set actors a q)
leaf_debts pages actors d a r q there same page node y on level low routes =
    let kept : (m : ℕ) → has m (children_of node.routes) ≡ true → has m (children_of y.routes) ≡ true = λ m t. ap (λ rs. has m (children_of rs)) routes ∙ t in
    same_debts pages (set pages page (Some y)) actors d a r q there same (set_goes pages page node y on level low kept) (set_routes pages page node y on level low kept) (set_back pages page node y on level low kept)

-- Each level has at most a sixteenth of the pages of the one below.
use Rattle.std.proofs.Common.{◌≡◌, ℕ, ◌+◌, ◌-◌, ◌*◌, ◌<◌, ◌≤◌, List, [], ◌∷◌, map, length, length-append, Bool, true, false, ◌||◌, nat_eq, Some, refl, sym, ap, ◌∙◌, subst, arith, inl, inr}
use Rattle.std.specs.List.{AllByRecursion, flat_map, list_any, IsDistinct}
use Rattle.std.proofs.lemmas.Bool.{cases_eq, cases_lt, eq-eqb, false≢true}
use Rattle.std.proofs.lemmas.List.{length-map}
use Rattle.std.proofs.lemmas.Map.Steps.{length-le_from_distinct_below}
use Rattle.mi_base.specs.Prefixes.{has}
use Rattle.mi_base.proofs.PrefixLemmas.{nat_eq-symmetric}
use Rattle.mi_page.specs.declared.routes.Route.{Route}
use Rattle.mi_page.specs.Keys.{Ascending}
use Rattle.mi_page.specs.Routes.{route_keys}
use Rattle.mi_page.specs.Nodes.{Node}
use Rattle.mi_tree.proofs.ListLemmas.{all_weaker, all_joined, all_map}
use Rattle.mi_forest.specs.Forests.{Forest, IsForest, IsChain, LeadsDown, head}
use Rattle.mi_forest.proofs.ChainLemmas.{lows_rise, chain_ascends}
use Rattle.mi_forest.proofs.MoveLemmas.{linked_in, level_in}
use Rattle.mi_forest.proofs.NumberLemmas.{other, all_from_has}
use Rattle.mi_forest.proofs.HandLemmas.{allotted_below}

-- of two rising lists the one whose numbers the other has is no longer
pub no_longer : (xs ys : List ℕ) → Ascending xs → Ascending ys → AllByRecursion (λ x. has x ys ≡ true) xs → length xs ≤ length ys
no_longer [] ys a b h = omega arith
no_longer (x ∷ xs) [] a b h = absurd (false≢true h.0)
no_longer (x ∷ xs) (y ∷ ys) a b h = elim (cases_eq y x) [
  | inl e ↦ let r = no_longer xs ys a.1 b.1 (later xs x (omega arith) a.0 h.1) in omega arith
  | inr o ↦
      let here : has x ys ≡ true = without (other y x o) h.0 in
      let up : y < x = first_below x ys b.0 here in
      let r = no_longer (x ∷ xs) ys a b.1 (here, later xs x (omega arith) a.0 h.1) in
      omega arith
]
  where
    without : {b c : Bool} → b ≡ false → (b || c) ≡ true → c ≡ true
    without {c = c} e t = sym (ap (λ d. d || c) e) ∙ t

    first_below : (k : ℕ) (zs : List ℕ) → AllByRecursion (λ z. y < z) zs → has k zs ≡ true → y < k
    first_below k [] l t = absurd (false≢true t)
    first_below k (z ∷ zs) l t = elim (cases_eq z k) [
      | inl e ↦ let lt = l.0 in omega arith
      | inr o ↦ first_below k zs l.1 (without (other z k o) t)
    ]

    -- numbers above y are not y
    later : (zs : List ℕ) (k : ℕ) → y ≤ k → AllByRecursion (λ z. k < z) zs → AllByRecursion (λ z. has z (y ∷ ys) ≡ true) zs → AllByRecursion (λ z. has z ys ≡ true) zs
    later [] k le l t = tt
    later (z ∷ zs) k le l t = (without (other y z (λ e. let lt = l.0 in omega arith)) t.0, later zs k le l.1 t.1)

-- a number is among those of a map
has_map : (f : ℕ → ℕ) (n : ℕ) (ns : List ℕ) → has n ns ≡ true → has (f n) (map f ns) ≡ true
has_map f n [] h = h
has_map f n (m ∷ ms) h = elim (cases_eq m n) [
  | inl e ↦ ap (λ b. b || has (f n) (map f ms)) (eq-eqb (f m) (f n) (ap f e))
  | inr o ↦ right (nat_eq (f m) (f n)) (has (f n) (map f ms)) (has_map f n ms (sym (ap (λ b. b || has n ms) (other m n o)) ∙ h))
]
  where
    right : (a b : Bool) → b ≡ true → (a || b) ≡ true
    right true b e = refl
    right false b e = e

lows_ascend : (node : ℕ → Node) (level : ℕ) (ns : List ℕ) → IsChain node level ns → Ascending (map (λ n. (node n).low) ns)
lows_ascend node level [] c = tt
lows_ascend node level (n ∷ ns) c = (all_map (λ m. (node m).low) (λ k. (node n).low < k) ns (lows_rise node level n ns c), lows_ascend node level ns c.1)

-- many of each make many
many_of : (node : ℕ → Node) (ns : List ℕ) → AllByRecursion (λ n. 16 ≤ length (node n).routes) ns → 16 * length ns ≤ length (flat_map (λ n. route_keys (node n).routes) ns)
many_of node [] a = omega arith
many_of node (n ∷ ns) a =
    let r = many_of node ns a.1 in
    let here = a.0 in
    omega (arith, length-append (route_keys (node n).routes) (flat_map (λ m. route_keys (node m).routes) ns), length-map (node n).routes (λ (x : Route). x.key))

module _ (f : Forest) (h : IsForest f) where
  level_of : (level n : ℕ) → has n (f.chain level) ≡ true → (f.node n).level ≡ level
  level_of level n t = level_in f.node level n (f.chain level) (h.chains level) t

  leads_lower : (level : ℕ) (rs : List Route) → AllByRecursion (LeadsDown f (level + 1)) rs → AllByRecursion (λ k. has k (map (λ n. (f.node n).low) (f.chain level)) ≡ true) (route_keys rs)
  leads_lower level [] a = tt
  leads_lower level (r ∷ rs) a =
      let leads = a.0 in
      let height : (f.node r.child).level ≡ level = (let up = leads.height in omega arith) in
      let here : has r.child (f.chain level) ≡ true = sym (ap (λ l. has r.child (f.chain l)) height) ∙ leads.linked in
      (subst (λ (k : ℕ). has k (map (λ n. (f.node n).low) (f.chain level)) ≡ true) leads.low (has_map (λ n. (f.node n).low) r.child (f.chain level) here), leads_lower level rs a.1)

  routes_lower : (level : ℕ) (ns : List ℕ) → AllByRecursion (λ n. has n (f.chain (level + 1)) ≡ true) ns
      → AllByRecursion (λ k. has k (map (λ n. (f.node n).low) (f.chain level)) ≡ true) (flat_map (λ n. route_keys (f.node n).routes) ns)
  routes_lower level [] a = tt
  routes_lower level (n ∷ ns) a =
      all_joined (λ k. has k (map (λ m. (f.node m).low) (f.chain level)) ≡ true) (route_keys (f.node n).routes) (flat_map (λ m. route_keys (f.node m).routes) ns)
      (leads_lower level (f.node n).routes (subst (λ (l : ℕ). AllByRecursion (LeadsDown f l) (f.node n).routes) (level_of (level + 1) n a.0) (h.routes n (linked_in f h (level + 1) n a.0))))
      (routes_lower level ns a.1)

  -- a level with two pages or more has at most a sixteenth of the pages below
  pub sixteenth : (level : ℕ) → 1 < length (f.chain (level + 1)) → 16 * length (f.chain (level + 1)) ≤ length (f.chain level)
  sixteenth level many =
      let ns : List ℕ = f.chain (level + 1) in
      let each = all_from_has (λ n. has n ns ≡ true) ns (λ n t. t) in
      let full = all_from_has (λ n. 16 ≤ length (f.node n).routes) ns (λ n t.
      let height = level_of (level + 1) n t in
      let long : length (f.chain (f.node n).level) ≡ length (f.chain (level + 1)) = ap (λ l. length (f.chain l)) height in
      h.full n (linked_in f h (level + 1) n t) (omega arith) (omega arith)) in
      let all = many_of f.node ns full in
      let fit = no_longer (flat_map (λ n. route_keys (f.node n).routes) ns) (map (λ n. (f.node n).low) (f.chain level))
      (chain_ascends f.node (level + 1) (λ p. route_keys p.routes) (λ p i. i.routes) ns (h.chains (level + 1)))
      (lows_ascend f.node level (f.chain level) (h.chains level))
      (routes_lower level ns each) in
      omega (arith, length-map (f.chain level) (λ n. (f.node n).low))

  pub distinct : (level : ℕ) (ns : List ℕ) → IsChain f.node level ns → IsDistinct nat_eq ns
  unfolding IsDistinct
  distinct level [] c = tt
  distinct level (n ∷ ns) c = (all_weaker (λ m. (f.node n).low < (f.node m).low) (λ m. nat_eq n m ≡ false) (λ m l. other n m (λ e. let same = ap (λ k. (f.node k).low) e in omega arith)) ns (lows_rise f.node level n ns c), distinct level ns c.1)

  turned : (q : ℕ) (ns : List ℕ) → list_any (nat_eq q) ns ≡ true → has q ns ≡ true
  turned q [] t = t
  turned q (n ∷ ns) t =
      let P : Bool → Type 0 = λ b. (b || list_any (nat_eq q) ns) ≡ true → (b || has q ns) ≡ true in
      rw (nat_eq-symmetric n q) ((elim (nat_eq q n) as P [ true ↦ λ _. refl | false ↦ λ s. turned q ns s ]) t)

  -- no level has more pages than are allotted
  pub chain_bound : (level : ℕ) → length (f.chain level) ≤ f.allotted
  chain_bound level = length-le_from_distinct_below (f.chain level) f.allotted (distinct level (f.chain level) (h.chains level))
      (λ q t. allotted_below f h q (linked_in f h level q (turned q (f.chain level) t)))

  pub some_at_root : (level : ℕ) → (f.node f.root).level ≡ level → 0 < length (f.chain level)
  some_at_root level e = some (f.chain level) (ap (λ l. head (f.chain l)) (sym e) ∙ h.root)
    where
      some : (ns : List ℕ) → head ns ≡ Some f.root → 0 < length ns
      some [] e = absurd (cc)
      some (n ∷ ns) e = omega arith

  two_below : (a b : ℕ) → b ≡ a + 1 → 0 < length (f.chain b) → 1 < length (f.chain a)
  two_below a b e some = h.pairs a (subst (λ (l : ℕ). 0 < length (f.chain l)) e some)

  sixteen_below : (a b : ℕ) → b ≡ a + 1 → 1 < length (f.chain b) → 16 * length (f.chain b) ≤ length (f.chain a)
  sixteen_below a b e many =
      subst (λ (l : ℕ). 16 * length (f.chain l) ≤ length (f.chain a)) (sym e) (sixteenth a (subst (λ (l : ℕ). 1 < length (f.chain l)) e many))

  six_below : (t : ℕ) → (f.node f.root).level ≡ t + 6 → 200000 < f.allotted
  six_below t e =
      let s5 = two_below (t + 5) (t + 6) (omega arith) (some_at_root (t + 6) e) in
      let s4 = sixteen_below (t + 4) (t + 5) (omega arith) s5 in
      let s3 = sixteen_below (t + 3) (t + 4) (omega arith) (omega arith) in
      let s2 = sixteen_below (t + 2) (t + 3) (omega arith) (omega arith) in
      let s1 = sixteen_below (t + 1) (t + 2) (omega arith) (omega arith) in
      let s0 = sixteen_below t (t + 1) (omega arith) (omega arith) in
      let most = chain_bound t in
      omega arith

  -- the root of so many pages is at most on level 5
  pub height_bound : f.allotted ≤ 200000 → (f.node f.root).level ≤ 5
  height_bound few = elim (cases_lt 5 (f.node f.root).level) [
    | inl high ↦ let more = six_below ((f.node f.root).level - 6) (omega arith) in absurd (omega arith)
    | inr low ↦ low
  ]

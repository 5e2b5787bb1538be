-- How many pages there may be.
use Rattle.std.proofs.Common.{◌≡◌, ◌≢◌, ℕ, zero, suc, ◌+◌, ◌*◌, ◌<◌, ◌≤◌, List, [], ◌∷◌, ◌++◌, length, length-append, set, max, Bool, true, false, cond, nat_eq, ◌||◌, Option, Some, None, refl, sym, ap, ◌∙◌, subst, arith, inl, inr, get_or-set_other, take_all}
use Rattle.std.specs.Prelude.{◌==◌, slice_get}
use Rattle.std.specs.List.{AllByRecursion, filter, sum_by}
use Rattle.std.proofs.lemmas.Bool.{cases_lt, false≢true}
use Rattle.std.proofs.lemmas.List.Elements.{All-from_recursion}
use Rattle.std.proofs.lemmas.List.Sums.{sum_by-cons, sum_by-le}
use Rattle.std.proofs.Math.Nat.{mul-le-mul_right}
use Rattle.mi_base.specs.declared.records.LogEvent.{LogEvent}
use Rattle.mi_base.specs.Configuration.{Configuration}
use Rattle.mi_base.specs.History.{Object, updates_of}
use Rattle.mi_base.specs.Permutations.{begins}
use Rattle.mi_base.specs.Prefixes.{has}
use Rattle.mi_page.specs.Nodes.{Node}
use Rattle.mi_tree.specs.Cells.{Grid, AllMaySplit, depth}
use Rattle.mi_tree.specs.Counting.{belongs}
use Rattle.mi_tree.proofs.LeafLemmas.{leaf_is}
use Rattle.mi_tree.proofs.LegalLemmas.{all_may}
use Rattle.mi_core.specs.Counted.{Lifted, NoneUndone, copies_of, page_lift, total}
use Rattle.mi_entries.specs.Entries.{Shows, grid}
use Rattle.mi_core.specs.Events.{copied_of}
use Rattle.mi_forest.specs.Forests.{Forest, IsChain, all_entries}
use Rattle.mi_core.specs.Sound.{Sound}
use Rattle.mi_core.specs.Pages.{forest_of, has_page, is_page, node_or_fresh}
use Rattle.mi_core.specs.State.{count_if, State, node_at}
use Rattle.mi_entries.specs.Actors.{Actor, SplitWork}
use Rattle.mi_forest.proofs.ChainLemmas.{lows_rise}
use Rattle.mi_core.proofs.CountEvents.{gathered_few, total_page}
use Rattle.mi_forest.proofs.CountLemmas.{pages_bound}
use Rattle.mi_entries.proofs.DepthLemmas.{IsKeyed, depth_deep, leaf_deep}
use Rattle.mi_core.proofs.KeptLemmas.{floor_position}
use Rattle.mi_entries.proofs.KeyedLemmas.{is_keyed}
use Rattle.mi_forest.proofs.MoveLemmas.{level_in}
use Rattle.mi_forest.proofs.NumberLemmas.{all_from_has}
use Rattle.mi_core.proofs.PotentialLemmas.{at_one, count_live, depths, ever, ever_few, few_carried, swapped}
use Rattle.mi_entries.proofs.FilterLemmas.{all_both}
use Rattle.mi_tree.proofs.ListLemmas.{all_any, all_weaker}

-- the pages in hands
abbrev in_hand : Option ℕ → List ℕ
in_hand None = []
in_hand (Some p) = p ∷ []

abbrev hands_of : List Actor → List ℕ
hands_of [] = []
hands_of (r ∷ rs) = in_hand r.fresh ++ hands_of rs

hands_few : (rs : List Actor) → length (hands_of rs) ≤ length rs
hands_few [] = omega arith
hands_few (r ∷ rs) =
    let P : Option ℕ → Type 0 = λ o. length (in_hand o) ≤ 1 in
    let one : length (in_hand r.fresh) ≤ 1 = elim r.fresh as P [ None ↦ omega arith | Some p ↦ omega arith ] in
    omega (arith, one, length-append (in_hand r.fresh) (hands_of rs), hands_few rs)

or_right : (a b : Bool) → b ≡ true → (a || b) ≡ true
or_right true b h = refl
or_right false b h = h

hands_all : (n : ℕ) (rs : List Actor) → 0 < count_if (has_page n) rs → has n (hands_of rs) ≡ true
hands_all n [] h = absurd (omega arith)
hands_all n (r ∷ rs) h =
    let P : Option ℕ → Type 0 = λ o. 0 < cond {A = ℕ} (is_page n o) 1 0 + count_if (has_page n) rs → has n (in_hand o ++ hands_of rs) ≡ true in
    let Q : Bool → Type 0 = λ b. 0 < cond {A = ℕ} b 1 0 + count_if (has_page n) rs → (b || has n (hands_of rs)) ≡ true in
    let held : (p : ℕ) → P (Some p) = λ p. elim (nat_eq p n) as Q [ true ↦ λ _. refl | false ↦ λ z. hands_all n rs (omega arith) ] in
    (elim r.fresh as P [ None ↦ λ l. hands_all n rs (omega arith) | Some p ↦ held p ]) h

-- a page that counts is there
within_lift : (pages : List (Option Node)) (n : ℕ) → 0 < page_lift (node_at pages n) → n < length pages
within_lift [] n h = absurd (omega arith)
within_lift (x ∷ pages) zero h = omega arith
within_lift (x ∷ pages) (suc n) h = omega (arith, within_lift pages n h)

-- each leaf page counts for 16 or more
chain_lift : (node : ℕ → Node) (ns : List ℕ) → IsChain node 0 ns → (pages : List (Option Node)) → AllByRecursion (λ m. 16 ≤ page_lift (node_at pages m)) ns → 16 * length ns ≤ total page_lift pages
chain_lift node [] c pages a = omega arith
chain_lift node (n ∷ ns) c pages a =
    let here = a.0 in
    let t = total_page pages n None (within_lift pages n (omega arith)) in
    let r = chain_lift node ns c.1 (set pages n None) (all_weaker _ _ (λ m h.
    let low = h.0 in
    let apart : m ≢ n = λ e. let same = ap (λ k. (node k).low) e in omega arith in
    subst (λ (o : Option Node). 16 ≤ page_lift o) (sym (get_or-set_other pages n m None None apart)) h.1) ns (all_both (λ m. (node n).low < (node m).low) (λ m. 16 ≤ page_lift (node_at pages m)) ns (lows_rise node 0 n ns c) a.1)) in
    omega arith

total_le : {X : Type 0} (f h : X → ℕ) (xs : List X) → ((i : ℕ) (x : X) → slice_get xs i ≡ Some x → f x ≤ h x) → total f xs ≤ total h xs
total_le f h [] le = omega arith
total_le f h (x ∷ xs) le = let one = le 0 x refl in let r = total_le f h xs (λ i y e. le (suc i) y e) in omega arith

some_at : {X : Type 0} (t : X → Bool) (xs : List X) → 0 < count_if t xs → (i : ℕ) × (x : X) × (slice_get xs i ≡ Some x) × (t x ≡ true)
some_at t [] h = absurd (omega arith)
some_at {X = X} t (x ∷ xs) h =
    let P : Bool → Type 0 = λ b. t x ≡ b → 0 < cond {A = ℕ} b 1 0 + count_if t xs → (i : ℕ) × (y : X) × (slice_get (x ∷ xs) i ≡ Some y) × (t y ≡ true) in
    (elim (t x) as P [ true ↦ λ e _. (0, x, refl, e) | false ↦ λ e l. let r = some_at t xs (omega arith) in (suc r.0, r.1, r.2, r.3) ]) refl h

both_sums : (f h : Object → ℕ) (os : List Object) → sum_by (λ o. f o + h o) os ≡ sum_by f os + sum_by h os
both_sums f h [] = refl
both_sums f h (o ∷ os) = omega (arith, sum_by-cons (λ o. f o + h o) o os, sum_by-cons f o os, sum_by-cons h o os, both_sums f h os)

abbrev works_of : Grid → Option SplitWork → Object → Bool
works_of g None o = false
works_of g (Some w) o = belongs g w.leaf o

module _ (s : State) (k : Sound s) (lifted : Lifted s.board.settings s.board.log s.pages s.actors) (none : NoneUndone s.actors) where
  abbrev c : Configuration
  c = s.board.settings

  abbrev g : Grid
  g = grid s.board.settings

  abbrev log : List LogEvent
  log = s.board.log

  abbrev f : Forest
  f = forest_of s.board s.pages s.actors k.chain

  abbrev E : List Object
  E = ever (updates_of s.board.log)

  ok : IsKeyed g
  ok = is_keyed c k.limits

  may : AllMaySplit g log
  may = all_may c log k.legal

  -- a linked leaf page is there
  leaf_there : (n : ℕ) → has n (k.chain 0) ≡ true → 16 ≤ page_lift (node_at s.pages n)
  leaf_there n t =
      let level : (f.node n).level ≡ 0 = level_in f.node 0 n (k.chain 0) (k.pages.forest.chains 0) t in
      let x = k.pages.there n (ap (λ l. has n (k.chain l)) level ∙ t) in
      let leaf : x.0.level ≡ 0 = ap (λ (o : Option Node). (node_or_fresh o).level) (sym x.1) ∙ level in
      subst (λ (o : Option Node). 16 ≤ page_lift o) (sym x.1) (subst (λ (v : ℕ). 16 ≤ cond (v == 0) (max 16 (length x.0.entries)) 0) (sym leaf) (omega arith))

  leaves_lift : 16 * length (k.chain 0) ≤ total page_lift s.pages
  leaves_lift = chain_lift f.node (k.chain 0) (k.pages.forest.chains 0) s.pages (all_from_has (λ n. 16 ≤ page_lift (node_at s.pages n)) (k.chain 0) leaf_there)

  shows_end : Shows g log (all_entries f)
  shows_end = subst (λ (l : List LogEvent). Shows g l (all_entries f)) (take_all (length log) log (omega arith)) (k.entries.shows (length log) (floor_position s k).within (omega arith))

  -- a split's copies are of objects of its leaf
  one_few : (i : ℕ) (r : Actor) → slice_get s.actors i ≡ Some r → copies_of r ≤ length (filter (works_of g r.split) E)
  one_few i r e =
      let P : Option SplitWork → Type 0 = λ o. r.split ≡ o → copied_of o ≤ length (filter (works_of g o) E) in
      (elim r.split as P [
        | None ↦ λ h. omega arith
        | Some w ↦ λ h.
            let work = k.entries.works i r w e h in
            let few = work.few in
            omega (arith, few, gathered_few g log (all_entries f) w.gathered w.leaf w.mark shows_end work.gathered, count_live (belongs g w.leaf) (updates_of log))
      ]) refl

  its_leaf : (i : ℕ) (r : Actor) (o : Object) → slice_get s.actors i ≡ Some r → works_of g r.split o ≡ true → (w : SplitWork) × (r.split ≡ Some w) × (begins w.leaf (g.perm o.vector) ≡ true)
  its_leaf i r o e t =
      let P : Option SplitWork → Type 0 = λ z. r.split ≡ z → works_of g z o ≡ true → (w : SplitWork) × (r.split ≡ Some w) × (begins w.leaf (g.perm o.vector) ≡ true) in
      (elim r.split as P [ None ↦ λ h u. absurd (false≢true u) | Some w ↦ λ h u. (w, h, u) ]) refl t

  -- no two split the leaf of one object
  alone : (o : Object) → count_if (λ r. works_of g r.split o) s.actors ≤ 1
  alone o = at_one (λ r. works_of g r.split o) s.actors (λ i j r t ei ej ti tj.
      let x = its_leaf i r o ei ti in
      let y = its_leaf j t o ej tj in
      let hx = (k.each i r ei).holds in
      let hy = (k.each j t ej).holds in
      let same : x.0.leaf ≡ y.0.leaf = leaf_is g ok.grid log may x.0.leaf o.vector (hx.leaf x.0.leaf (hx.split x.0 x.1)) x.2 ∙ sym (leaf_is g ok.grid log may y.0.leaf o.vector (hy.leaf y.0.leaf (hy.split y.0 y.1)) y.2) in
      k.claims i j r t x.0.leaf ei ej (hx.split x.0 x.1) (hy.split y.0 y.1 ∙ ap Some (sym same)))

  -- and that leaf may go deeper
  deep : (o : Object) → depth g log (g.perm o.vector) + count_if (λ r. works_of g r.split o) s.actors ≤ g.levels
  deep o = elim (cases_lt 0 (count_if (λ r. works_of g r.split o) s.actors)) [
    | inl some ↦
        let one = alone o in
        let z = some_at (λ r. works_of g r.split o) s.actors some in
        let x = its_leaf z.0 z.1 o z.2 z.3 in
        let work = k.entries.works z.0 z.1 x.0 z.2 x.1 in
        let d = leaf_deep g ok log may x.0.leaf o.vector work.leaf x.2 in
        let up = work.above in
        omega arith
    | inr less ↦ let d = depth_deep g ok log may (g.perm o.vector) in omega arith
  ]

  abbrev hits : Object → ℕ
  hits o = count_if (λ r. works_of g r.split o) s.actors

  all_deep : depths g log E + sum_by hits E ≤ length E * g.levels
  all_deep =
      let most = sum_by-le (λ (o : Object). depth g log (g.perm o.vector) + hits o) g.levels E (All-from_recursion _ _ (all_any _ deep E)) in
      let both = both_sums (λ (o : Object). depth g log (g.perm o.vector)) hits E in
      omega arith

  copies_few : total copies_of s.actors ≤ sum_by hits E
  copies_few =
      let few = total_le copies_of (λ r. length (filter (works_of g r.split) E)) s.actors one_few in
      let turn = swapped (λ (r : Actor). works_of g r.split) E s.actors in
      omega arith

  pub bound_holds : 8 * s.board.allotted ≤ length (updates_of log) * (c.levels + 1) + 8 * (7 + length s.actors)
  bound_holds =
      let u = length (updates_of log) in
      let lift = lifted none in
      let carry = few_carried c log ok.grid k.legal in
      let carry0 = carry.0 in
      let carry1 = carry.1 in
      let many = ever_few (updates_of log) in
      let product : length E * c.levels ≤ u * c.levels = mul-le-mul_right c.levels many in
      let wide : u * (c.levels + 1) ≡ u * c.levels + u = wide_is u c.levels in
      let limit : s.board.allotted ≤ 200000 = (let m = k.pages.most in let l = k.limits.pages.1 in omega arith) in
      let pages = pages_bound f k.pages.forest limit (hands_of s.actors) (λ n h. hands_all n s.actors h) in
      let hands = hands_few s.actors in
      let leaves = leaves_lift in
      let copied = copies_few in
      let deepest = all_deep in
      omega arith
    where
      wide_is : (a b : ℕ) → a * (b + 1) ≡ a * b + a
      wide_is a b = omega arith

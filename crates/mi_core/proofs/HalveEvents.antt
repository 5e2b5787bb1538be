-- The halving of a page keeps what is kept.
use Rattle.std.specs.List.{filter}
use Rattle.std.proofs.lemmas.List.{length-map}
use Rattle.mi_key.specs.declared.entries.Entry.{Entry}
use Rattle.mi_page.specs.Entries.{outlives}
use Rattle.mi_page.specs.declared.routes.Route.{Route}
use Rattle.std.proofs.lemmas.Bool.Decides.{nat_tests}
use Rattle.mi_page.specs.Nodes.{IsNode, Node, item_count, lower_half, middle_key, upper_half}
use Rattle.std.proofs.Common.{◌⊎◌, ◌≡◌, ◌≢◌, ℕ, suc, zero, ◌+◌, ◌<◌, ◌≤◌, ◌==◌, List, [], ◌∷◌, ◌++◌, length, set, Bool, true, false, cond, refl, sym, ap, ◌∙◌, subst, arith, Option, Some, None, inl, inr, length-set, get_or-set_other, get_or-set_same, eq-eqb}
use Rattle.mi_forest.proofs.MoveLemmas.{stands}
use Rattle.std.specs.Prelude.{slice_get}
use Rattle.std.proofs.lemmas.Bool.{cases_eq, eqb-true}
use Rattle.mi_base.specs.History.{entered, events_at}
use Rattle.mi_core.specs.Actors.{Suits}
use Rattle.mi_board.specs.Boards.{floor_of}
use Rattle.mi_core.specs.Events.{after, hand, split_at}
use Rattle.mi_core.specs.Effects.{trim_leaf, trim_node}
use Rattle.mi_core.specs.Events.Event.{split_page}
use Rattle.mi_forest.specs.Forests.{Forest, all_entries, IsLinked, occurrence}
use Rattle.mi_core.specs.Sound.{Sound}
use Rattle.mi_core.specs.Pages.{ArePages, forest_of, has_page, node_or_fresh, is_page}
use Rattle.mi_entries.specs.Splits.{AreEntries}
use Rattle.mi_core.specs.State.{count_if, State, node_at, put_actor}
use Rattle.mi_entries.specs.Actors.{Actor}
use Rattle.mi_core.proofs.ActorLemmas.{count_set, claims_by, each_set, holders_by, retired_by, set_else, sweeps_by, works_by}
use Rattle.std.proofs.lemmas.Option.{none-some, same_Some}
use Rattle.mi_entries.proofs.ContentLemmas.{entries_stay}
use Rattle.mi_core.proofs.KeptLemmas.{some_none}
use Rattle.mi_tree.proofs.ListLemmas.{all_weaker}
use Rattle.mi_core.proofs.PageLemmas.{within}
use Rattle.mi_forest.specs.Changes.{HalvesPage, put_after as right_after}
use Rattle.mi_forest.proofs.HandLemmas.{hand_once}
use Rattle.mi_forest.proofs.SplitLemmas.{halves_flat, halves_grown, halves_keep, halves_level, halves_new, linked_back}

pub count_some : {X : Type 0} (t : X → Bool) (l : List X) (j : ℕ) (y : X) → slice_get l j ≡ Some y → t y ≡ true → 1 ≤ count_if t l
count_some t [] j y e h = absurd (none-some y e)
count_some t (x ∷ xs) zero y e h = let occurrence : cond {A = ℕ} (t x) 1 0 ≡ 1 = ap (λ b. cond {A = ℕ} b 1 0) (ap t (same_Some x y e) ∙ h) in omega arith
count_some t (x ∷ xs) (suc j) y e h = omega (arith, count_some t xs j y e h)

-- a full page is halved
module _ (s : State) (k : Sound s) (a : ℕ) (r : Actor) (there : slice_get s.actors a ≡ Some r) (page : ℕ) (node : Node) (f : ℕ) (has : r.fresh ≡ Some f) (on : node_at s.pages page ≡ Some node)
    (full : item_count node ≡ 32) where
  abbrev q : Actor
  q = record r { page = page; fresh = None; owed = r.owed ++ record { level = node.level + 1; key = middle_key node; child = f } ∷ [] }

  abbrev actors' : List Actor
  actors' = set s.actors a q

  abbrev first' : List (Option Node)
  first' = set s.pages page (Some (lower_half f node))

  abbrev pages' : List (Option Node)
  pages' = set first' f (Some (upper_half node))

  abbrev chain' : ℕ → List ℕ
  chain' level = right_after page f (k.chain level)

  abbrev old : Forest
  old = forest_of s.board s.pages s.actors k.chain

  abbrev new : Forest
  new = forest_of s.board pages' actors' chain'

  mine : Suits s.board s.shards s.pages a r
  mine = k.each a r there

  hand_is : (f < s.board.allotted) × (node_at s.pages f ≡ None)
  hand_is = mine.fresh f has

  apart : page ≢ f
  apart e = some_none node (sym on ∙ ap (node_at s.pages) e ∙ hand_is.1)

  low_page : page < length s.pages
  low_page = within s.pages page node on

  low_fresh : f < length first'
  low_fresh = let m = k.pages.most in let n = hand_is.0 in omega (arith, k.pages.length_is, length-set s.pages page (Some (lower_half f node)))

  node_is : old.node page ≡ node
  node_is = ap node_or_fresh on

  page_there : node_at pages' page ≡ Some (lower_half f node)
  page_there = get_or-set_other first' f page (Some (upper_half node)) None apart ∙ get_or-set_same s.pages page (Some (lower_half f node)) None low_page

  fresh_there : node_at pages' f ≡ Some (upper_half node)
  fresh_there = get_or-set_same first' f (Some (upper_half node)) None low_fresh

  other_there : (m : ℕ) → m ≢ page → m ≢ f → node_at pages' m ≡ node_at s.pages m
  other_there m n o = get_or-set_other first' f m (Some (upper_half node)) None o ∙ get_or-set_other s.pages page m (Some (lower_half f node)) None n

  held_is : (m : ℕ) → count_if (has_page m) actors' + occurrence m f ≡ count_if (has_page m) s.actors
  held_is m =
      let n = count_set (has_page m) s.actors a q r there in
      let was : cond {A = ℕ} (has_page m r) 1 0 ≡ occurrence m f = ap (λ (o : Option ℕ). cond {A = ℕ} (is_page m o) 1 0) has in
      omega (arith, n, was)

  some_held : 0 < old.held f
  some_held = count_some (has_page f) s.actors a r there (ap (is_page f) has ∙ eq-eqb f f refl)

  halves : HalvesPage old new page f
  halves = record {
    linked = k.pages.linked page node on;
    full = ap item_count node_is ∙ full;
    fresh = some_held;
    lower = ap node_or_fresh page_there ∙ ap (lower_half f) (sym node_is);
    upper = ap node_or_fresh fresh_there ∙ ap upper_half (sym node_is);
    others = λ m n o. ap node_or_fresh (other_there m n o);
    chains = λ level. refl;
    root = refl;
    allotted = refl;
    held = held_is;
  }

  pages_are : ArePages s.board pages' actors' chain'
  pages_are =
      let p = k.pages in
      record {
        forest = halves_keep old new p.forest page f halves;
        linked = linked;
        there = is_there;
        height = halves_level old new p.forest page f halves ∙ p.height;
        length_is = length-set first' f (Some (upper_half node)) ∙ length-set s.pages page (Some (lower_half f node)) ∙ p.length_is;
        most = p.most;
        passed_over = p.passed_over;
      }
    where
      linked : (m : ℕ) (n : Node) → node_at pages' m ≡ Some n → IsLinked new m
      linked m n e = elim (cases_eq m f) [
        | inl h ↦ subst (IsLinked new) (sym h) (halves_new old new k.pages.forest page f halves)
        | inr h ↦ elim (cases_eq m page) [
          | inl g ↦ subst (IsLinked new) (sym g) ((halves_grown old new k.pages.forest page f halves).linked page (k.pages.linked page node on))
          | inr g ↦ (halves_grown old new k.pages.forest page f halves).linked m (k.pages.linked m n (sym (other_there m g h) ∙ e))
        ]
      ]

      is_there : (m : ℕ) → IsLinked new m → (n : Node) × (node_at pages' m ≡ Some n)
      is_there m l = elim (cases_eq m f) [
        | inl h ↦ (upper_half node, ap (node_at pages') h ∙ fresh_there)
        | inr h ↦ elim (cases_eq m page) [
          | inl g ↦ (lower_half f node, ap (node_at pages') g ∙ page_there)
          | inr g ↦ let t = k.pages.there m (linked_back old new k.pages.forest page f halves m h l) in (t.0, other_there m g h ∙ t.1)
        ]
      ]

  -- another's fresh page is another one, and stays fresh
  fresh_on : (b : ℕ) (t : Actor) → b ≢ a → slice_get s.actors b ≡ Some t → (p : ℕ) → t.fresh ≡ Some p → node_at s.pages p ≡ None → node_at pages' p ≡ None
  fresh_on b t n e p h none =
      let other : p ≢ page = λ same. some_none node (sym on ∙ ap (node_at s.pages) (sym same) ∙ none) in
      let alone : p ≢ f = λ same.
      let all = (hand_once old k.pages.forest f some_held).0 in
      let left = held_is f in
      let more = count_some (has_page f) actors' b t (set_else s.actors a b q n ∙ e) (ap (is_page f) (h ∙ ap Some same) ∙ eq-eqb f f refl) in
      let here : occurrence f f ≡ 1 = ap (λ z. cond {A = ℕ} z 1 0) (eq-eqb f f refl) in
      omega arith in
      other_there p other alone ∙ none

  own' : Suits s.board s.shards pages' a q
  own' =
      let h = mine.holds in
      record {
        saw = (let v = mine.saw in record { seen = v.seen; floor = v.floor; low = v.low; pin = v.pin });
        own = mine.own;
        holds = record { claim = h.claim; reserved = h.reserved; pin = h.pin; shard = h.shard; leaf = h.leaf; split = h.split; room = h.room };
        sweep = mine.sweep;
        fresh = λ p e. absurd (none-some p e);
      }

  others' : (b : ℕ) (t : Actor) → b ≢ a → slice_get s.actors b ≡ Some t → Suits s.board s.shards pages' b t
  others' b t n e =
      let o = k.each b t e in
      record { saw = o.saw; own = o.own; holds = o.holds; sweep = o.sweep; fresh = λ p h. let m = o.fresh p h in (m.0, fresh_on b t n e p h m.1) }

  pub halved : Sound (put_actor a q (split_at page node f s))
  halved = record {
    limits = k.limits;
    metric = k.metric;
    chain = chain';
    pages = pages_are;
    entries = subst (AreEntries s.board.settings s.board.log (events_at (floor_of s.board)) actors' s.board.retired) (sym (halves_flat old new k.pages.forest page f halves))
        (entries_stay s.actors actors' (works_by s.actors a r q there refl refl) s.board.settings s.board.log (events_at (floor_of s.board)) s.board.retired (all_entries old) k.entries);
    each = each_set s.actors a r q there (λ b t. Suits s.board s.shards pages' b t) own' others';
    retired = retired_by s.actors a r q there refl s.board.log s.board.retired k.retired;
    order = k.order;
    sixteen = k.sixteen;
    holders = λ n b h. holders_by s.actors a r q there refl n b (k.holders n b h);
    claims = claims_by s.actors a r q there refl k.claims;
    sweeps = sweeps_by s.actors a r q there refl k.sweeps;
    records = k.records;
    counted = k.counted ∙ sym (length-set s.actors a q);
    made = all_weaker _ _ (λ m l. omega (arith, l, length-set s.actors a q)) (entered s.board.log) k.made;
    legal = k.legal;
  }

-- the record of one who halves a page
abbrev pub after_half : Actor → ℕ → Node → ℕ → Actor
after_half r page n f = record r { page = page; fresh = None; owed = r.owed ++ record { level = n.level + 1; key = middle_key n; child = f } ∷ [] }

at_most : {X : Type 0} (t : X → Bool) (xs : List X) → length (filter t xs) ≤ length xs
at_most t [] = omega arith
at_most t (x ∷ xs) =
    let P : Bool → Type 0 = λ b. length (cond b (x ∷ filter t xs) (filter t xs)) ≤ suc (length xs) in
    let r = at_most t xs in
    elim (t x) as P [ true ↦ omega arith | false ↦ omega arith ]

module _ (s : State) (k : Sound s) (page : ℕ) (node : Node) (on : node_at s.pages page ≡ Some node) where
  is_node : IsNode node
  is_node = subst IsNode (ap node_or_fresh on) (stands (forest_of s.board s.pages s.actors k.chain) k.pages.forest page (k.pages.linked page node on)).stands.page

  -- a page that is full after a trim was full before, and nothing was trimmed
  pub full_before : (u : ℕ) → item_count (trim_leaf u node) ≡ 32 → item_count node ≡ 32
  full_before u full =
      let P : Bool → Type 0 = λ b. (node.level == 0) ≡ b → item_count (cond b (trim_node u node) node) ≡ 32 → item_count node ≡ 32 in
      (elim (node.level == 0) as P [
        | true ↦ λ e h.
            let less = at_most (λ z. outlives z.death u) node.entries in
            let routes = ap (λ rs. length rs) (is_node.leaf (eqb-true node.level 0 e)) in
            let few = is_node.entries.few in
            let size = length-map node.entries (λ (z : Entry). z.key) in
            omega arith
        | false ↦ λ e h. h
      ]) refl full

  -- a page that is trimmed where it is a leaf page has at most 32 items
  at_most_32 : (u : ℕ) → item_count (trim_leaf u node) ≤ 32
  at_most_32 u =
      let P : Bool → Type 0 = λ b. (node.level == 0) ≡ b → item_count (cond b (trim_node u node) node) ≤ 32 in
      (elim (node.level == 0) as P [
        | true ↦ λ e.
            let less = at_most (λ z. outlives z.death u) node.entries in
            let routes = ap (λ rs. length rs) (is_node.leaf (eqb-true node.level 0 e)) in
            let few = is_node.entries.few in
            let size = length-map node.entries (λ (z : Entry). z.key) in
            omega arith
        | false ↦ λ e.
            let above : 0 < node.level = grind (arith, nat_tests) in
            let none = ap (λ es. length es) (is_node.inner above) in
            let few = is_node.routes.few in
            let size = length-map node.routes (λ (z : Route). z.key) in
            omega arith
      ]) refl

  pub roomy_or_full : (u : ℕ) → (item_count (trim_leaf u node) < 32) ⊎ (item_count (trim_leaf u node) ≡ 32)
  roomy_or_full u = elim (cases_eq (item_count (trim_leaf u node)) 32) [ inl e ↦ inr e | inr n ↦ inl (let m = at_most_32 u in omega arith) ]

module _ (s : State) (k : Sound s) (a : ℕ) (r : Actor) (there : slice_get s.actors a ≡ Some r) (page : ℕ) (node : Node) (f : ℕ) (has : r.fresh ≡ Some f) (on : node_at s.pages page ≡ Some node) where
  pub split_page_keeps : item_count (trim_leaf r.floor.updates node) ≡ 32 → Sound (after s a r (split_page page node))
  split_page_keeps full = subst (λ (o : Option ℕ). Sound (put_actor a (after_half r page node (hand o)) (split_at page node (hand o) s))) (sym has) (halved s k a r there page node f has on (full_before s k page node on r.floor.updates full))

-- A walk over the leaf pages: so far, and one page more.
use Rattle.std.proofs.Common.{◌≡◌, ℕ, zero, suc, ◌+◌, ◌-◌, ◌<◌, ◌≤◌, List, [], ◌∷◌, ◌++◌, length, Bool, true, false, cond, not, ◌&&◌, ◌||◌, nat_eq, nat_lt, nat_le, Option, Some, refl, sym, ap, ◌∙◌, subst, arith, inl, inr, append-nil}
use Rattle.std.specs.List.{AllByRecursion, filter}
use Rattle.std.proofs.lemmas.Bool.{false≢true, and_parts}
use Rattle.std.proofs.lemmas.Bool.Decides.{nat_tests}
use Rattle.std.proofs.lemmas.List.Elements.{filter-append}
use Rattle.mi_base.specs.Prefixes.{has}
use Rattle.mi_key.specs.declared.entries.Entry.{Entry}
use Rattle.mi_page.specs.Keys.{IsInside, is_below}
use Rattle.mi_page.specs.Nodes.{Node, in_range}
use Rattle.mi_tree.proofs.ListLemmas.{filter_same, filter_none, all_weaker, all_from_map}
use Rattle.mi_forest.specs.Forests.{Forest, IsForest, IsLinked, IsChain, head, all_entries, PageOf}
use Rattle.mi_forest.proofs.ChainLemmas.{below_less}
use Rattle.mi_forest.proofs.ListLemmas.{ChangesAt}
use Rattle.mi_forest.proofs.MoveLemmas.{Found, stands, linked_in, first_has}
use Rattle.mi_forest.proofs.FlatLemmas.{changes_at}
use Rattle.mi_forest.proofs.PathLemmas.{below_down}
use Rattle.mi_forest.proofs.BoundLemmas.{some_at_root}
use Rattle.mi_forest.proofs.HandLemmas.{bool_cases}

and_no : (a b : Bool) → b ≡ false → (a && b) ≡ false
and_no true b e = e
and_no false b e = refl

and_yes : (a b : Bool) → b ≡ true → (a && b) ≡ a
and_yes true b e = e
and_yes false b e = refl

module _ (f : Forest) (h : IsForest f) (n : ℕ) (linked : IsLinked f n) (leaf : (f.node n).level ≡ 0) where
  p : Node
  p = f.node n

  c : ChangesAt (f.node n) (f.node n).entries (all_entries f) (all_entries f)
  c = changes_at f h n linked leaf f refl (λ m o. refl)

  s : Found f.node (f.node n).level n (f.chain (f.node n).level)
  s = stands f h n linked

  own : AllByRecursion (λ (e : Entry). IsInside (f.node n).low (f.node n).high e.key) (f.node n).entries
  own = all_from_map (λ (e : Entry). e.key) (IsInside (f.node n).low (f.node n).high) (f.node n).entries s.stands.page.entries.inside

  -- what a test keeps below the page, and in it, is what it keeps below the page's end
  pub walk_on : (t : Entry → Bool) → filter (λ e. t e && nat_lt e.key (f.node n).low) (all_entries f) ++ filter t (f.node n).entries ≡ filter (λ e. t e && is_below (f.node n).high e.key) (all_entries f)
  walk_on t =
      let low : ℕ = (f.node n).low in
      let high : Option ℕ = (f.node n).high in
      let es : List Entry = (f.node n).entries in
      let a : Entry → Bool = λ e. t e && nat_lt e.key low in
      let b : Entry → Bool = λ e. t e && is_below high e.key in
      let a_before : filter a c.before ≡ filter t c.before = filter_same a t c.before (all_weaker (λ e. e.key < low) (λ e. a e ≡ t e) (λ e l. and_yes (t e) (nat_lt e.key low) (grind (arith, nat_tests))) c.before c.below) in
      let b_before : filter b c.before ≡ filter t c.before = filter_same b t c.before (all_weaker (λ e. e.key < low) (λ e. b e ≡ t e)
      (λ e l. and_yes (t e) (is_below high e.key) (below_down high e.key low (omega arith) s.stands.wide)) c.before c.below) in
      let a_own : filter a es ≡ [] = filter_none a es (all_weaker (λ e. IsInside low high e.key) (λ e. a e ≡ false) (λ e i. and_no (t e) (nat_lt e.key low) (let l = i.from_low in grind (arith, nat_tests))) es own) in
      let b_own : filter b es ≡ filter t es = filter_same b t es (all_weaker (λ e. IsInside low high e.key) (λ e. b e ≡ t e) (λ e i. and_yes (t e) (is_below high e.key) i.below_high) es own) in
      let a_behind : filter a c.behind ≡ [] = filter_none a c.behind (all_weaker (λ e. is_below high e.key ≡ false) (λ e. a e ≡ false)
      (λ e o. and_no (t e) (nat_lt e.key low) (let l = below_less high low e.key s.stands.wide o in grind (arith, nat_tests))) c.behind c.above) in
      let b_behind : filter b c.behind ≡ [] = filter_none b c.behind (all_weaker (λ e. is_below high e.key ≡ false) (λ e. b e ≡ false) (λ e o. and_no (t e) (is_below high e.key) o) c.behind c.above) in
      let left : filter a (all_entries f) ≡ filter t c.before =
      ap (filter a) c.was ∙ filter-append a c.before (es ++ c.behind) ∙ ap (λ zs. filter a c.before ++ zs) (filter-append a es c.behind ∙ ap (λ zs. zs ++ filter a c.behind) a_own ∙ a_behind)
      ∙ append-nil (filter a c.before) ∙ a_before in
      let right : filter b (all_entries f) ≡ filter t c.before ++ filter t es =
      ap (filter b) c.was ∙ filter-append b c.before (es ++ c.behind) ∙ ap (λ zs. filter b c.before ++ zs) (filter-append b es c.behind ∙ ap (λ zs. filter b es ++ zs) b_behind ∙ append-nil (filter b es) ∙ b_own)
      ∙ ap (λ zs. zs ++ filter t es) b_before in
      ap (λ zs. zs ++ filter t es) left ∙ sym right

-- what fails a test in a list fails a stronger one in what is left of it
none_left : (a b t : Entry → Bool) → ((e : Entry) → t e ≡ true → b e ≡ true → a e ≡ true) → (es : List Entry) → filter a es ≡ [] → filter b (filter t es) ≡ []
none_left a b t imp [] h = refl
none_left a b t imp (e ∷ es) h =
    let P : Bool → Type 0 = λ x. t e ≡ x → filter b (cond x (e ∷ filter t es) (filter t es)) ≡ [] in
    let Q : Bool → Type 0 = λ x. b e ≡ x → t e ≡ true → filter b (e ∷ filter t es) ≡ [] in
    let R : Bool → Type 0 = λ x. cond x (e ∷ filter a es) (filter a es) ≡ [] → (a e ≡ x) → (filter a es ≡ []) × (x ≡ false) in
    let parts : (filter a es ≡ []) × (a e ≡ false) = (elim (a e) as R [ true ↦ λ k _. absurd (cc) | false ↦ λ k _. (k, refl) ]) h refl in
    let rest = none_left a b t imp es parts.0 in
    (elim (t e) as P [
      | true ↦ λ k. (elim (bool_cases (b e)) [
        | inl y ↦ absurd (false≢true (sym parts.1 ∙ imp e k y))
        | inr o ↦ ap (λ x. cond x (e ∷ filter b (filter t es)) (filter b (filter t es))) o ∙ rest
      ])
      | false ↦ λ _. rest
    ]) refl

-- a filter that was made before changes nothing
filter_within : {X : Type 0} (s t : X → Bool) → ((x : X) → s x ≡ true → t x ≡ true) → (xs : List X) → filter s (filter t xs) ≡ filter s xs
filter_within s t h [] = refl
filter_within {X = X} s t h (x ∷ xs) =
    let P : Bool → Type 0 = λ b. t x ≡ b → filter s (cond b (x ∷ filter t xs) (filter t xs)) ≡ cond (s x) (x ∷ filter s xs) (filter s xs) in
    (elim (t x) as P [
      | true ↦ λ _. ap (λ ys. cond (s x) (x ∷ ys) ys) (filter_within s t h xs)
      | false ↦ λ f. elim (bool_cases (s x)) [
        | inl e ↦ absurd (false≢true (sym f ∙ h x e))
        | inr e ↦ filter_within s t h xs ∙ ap (λ b. cond b (x ∷ filter s xs) (filter s xs)) (sym e)
      ]
    ]) refl

-- what is lost of one page is lost of nothing that a test keeps, where the test keeps none of what is lost
pub lost_unseen : (p : Node) (t s : Entry → Bool) (old new : List Entry) → new ≡ filter (λ e. not (in_range p e.key) || t e) old → ((e : Entry) → s e ≡ true → t e ≡ true) → filter s new ≡ filter s old
lost_unseen p t s old new is imp = ap (filter s) is ∙ filter_within s (λ e. not (in_range p e.key) || t e) (λ e k. or_yes (not (in_range p e.key)) (t e) (imp e k)) old
  where
    or_yes : (a b : Bool) → b ≡ true → (a || b) ≡ true
    or_yes true b e = refl
    or_yes false b e = e

-- what goes page by page, and has gone up to a page, has gone up to its end once the page lost it
pub loss_on : (p : Node) (t d : Entry → Bool) (old new : List Entry) → new ≡ filter (λ e. not (in_range p e.key) || t e) old → ((e : Entry) → t e ≡ true → d e ≡ false)
    → filter (λ e. d e && nat_lt e.key p.low) old ≡ [] → filter (λ e. d e && is_below p.high e.key) new ≡ []
loss_on p t d old new is other none =
    ap (filter (λ e. d e && is_below p.high e.key)) is
    ∙ none_left (λ e. d e && nat_lt e.key p.low) (λ e. d e && is_below p.high e.key) (λ e. not (in_range p e.key) || t e) passes old none
  where
    passes : (e : Entry) → (not (in_range p e.key) || t e) ≡ true → (d e && is_below p.high e.key) ≡ true → (d e && nat_lt e.key p.low) ≡ true
    passes e k y =
        let parts = and_parts (d e) (is_below p.high e.key) y in
        let lost : t e ≡ false = lose (t e) refl in
        let gone : not (nat_le p.low e.key) ≡ true = only (nat_le p.low e.key) (is_below p.high e.key) (t e) lost parts.1 k in
        and_yes (d e) (nat_lt e.key p.low) (less (nat_le p.low e.key) refl gone) ∙ parts.0
      where
        lose : (x : Bool) → t e ≡ x → t e ≡ false
        lose true z = absurd (false≢true (sym (other e z) ∙ (and_parts (d e) (is_below p.high e.key) y).0))
        lose false z = z

        only : (a b x : Bool) → x ≡ false → b ≡ true → (not (a && b) || x) ≡ true → not a ≡ true
        only true b x z u k = sym (ap (λ v. not v || x) u ∙ z) ∙ k
        only false b x z u k = refl

        less : (a : Bool) → nat_le p.low e.key ≡ a → not a ≡ true → nat_lt e.key p.low ≡ true
        less true is k = absurd (false≢true k)
        less false is k = grind (arith, nat_tests)

module _ (f : Forest) (h : IsForest f) where
  or_right : (a b : Bool) → b ≡ true → (a || b) ≡ true
  or_right true b t = refl
  or_right false b t = t

  page_from : (level key m : ℕ) (ms : List ℕ) → IsChain f.node level (m ∷ ms) → ((k : ℕ) → has k (m ∷ ms) ≡ true → has k (f.chain level) ≡ true) → (f.node m).low ≤ key → PageOf f level key
  page_from level key m [] c w low = record {
    number = m;
    linked = linked_in f h level m (w m (first_has m []));
    height = c.0.height;
    inside = record { from_low = low; below_high = ap (λ o. is_below o key) c.0.high };
  }
  page_from level key m (k ∷ ks) c w low = elim (bool_cases (is_below (f.node m).high key)) [
    | inl t ↦ record { number = m; linked = linked_in f h level m (w m (first_has m (k ∷ ks))); height = c.0.height; inside = record { from_low = low; below_high = t } }
    | inr past ↦
        let far : is_below (Some (f.node k).low) key ≡ false = sym (ap (λ o. is_below o key) c.0.high) ∙ past in
        page_from level key k ks c.1 (λ j t. w j (or_right (nat_eq m j) (has j (k ∷ ks)) t)) (grind (arith, nat_tests))
  ]

  pub some_below : (d level : ℕ) → level + d ≡ (f.node f.root).level → 0 < length (f.chain level)
  some_below zero level e = some_at_root f h level (omega arith)
  some_below (suc d) level e = let up = some_below d (level + 1) (omega arith) in let two = h.pairs level up in omega arith

  -- each key has a page on each level up to the root's
  pub page_of : (level key : ℕ) → level ≤ (f.node f.root).level → PageOf f level key
  page_of level key le = go (f.chain level) refl (some_below ((f.node f.root).level - level) level (omega arith))
    where
      go : (ns : List ℕ) → f.chain level ≡ ns → 0 < length ns → PageOf f level key
      go [] e some = absurd (omega arith)
      go (n ∷ ns) e some =
          let low : (f.node n).low ≡ 0 = h.lowest level n (ap head e) in
          page_from level key n ns (subst (IsChain f.node level) e (h.chains level)) (λ k t. ap (has k) e ∙ t) (omega arith)

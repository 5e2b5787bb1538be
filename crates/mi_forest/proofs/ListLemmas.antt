-- A list of entries around those of one page.
use Rattle.std.proofs.Common.{drop, ◌≡◌, ℕ, zero, suc, ◌<◌, List, [], ◌∷◌, ◌++◌, map, Bool, true, false, cond, not, ◌&&◌, ◌||◌, nat_lt, nat_le, refl, sym, ap, ◌∙◌, arith, append-nil}
use Rattle.std.specs.List.{AllByRecursion, filter}
use Rattle.std.specs.Ordering.{nat_cmp, is_lt}
use Rattle.std.proofs.lemmas.Bool.Decides.{nat_tests}
use Rattle.std.proofs.lemmas.List.{map-append}
use Rattle.std.proofs.lemmas.List.Elements.{filter-append}
use Rattle.mi_base.specs.Sorting.{put}
use Rattle.mi_key.specs.declared.entries.Entry.{Entry}
use Rattle.mi_page.specs.Keys.{IsInside, is_below}
use Rattle.mi_page.specs.Entries.{entry_cmp}
use Rattle.mi_page.specs.Nodes.{Node, in_range}
use Rattle.mi_page.proofs.OrderLemmas.{is_lt-nat_cmp}
use Rattle.mi_tree.proofs.ListLemmas.{filter_all, filter_same, filter_none, all_weaker}
use Rattle.mi_forest.proofs.ChainLemmas.{below_less}

-- the entries of one leaf page are others, and those around it are outside its range
pub record ChangesAt (p : Node) (entries : List Entry) (old new : List Entry) : Type 0 where
  pub before : List Entry
  pub behind : List Entry
  pub was : old ≡ before ++ (p.entries ++ behind)
  pub is : new ≡ before ++ (entries ++ behind)
  pub below : AllByRecursion (λ e. e.key < p.low) before
  pub above : AllByRecursion (λ e. is_below p.high e.key ≡ false) behind

-- two facts of each element make a third
pub all_two : {X : Type 0} (P Q R : X → Type 0) → ((x : X) → P x → Q x → R x) → (xs : List X) → AllByRecursion P xs → AllByRecursion Q xs → AllByRecursion R xs
all_two P Q R f [] a b = tt
all_two P Q R f (x ∷ xs) a b = (f x a.0 b.0, all_two P Q R f xs a.1 b.1)

pub drop_all_of : {X : Type 0} (P : X → Type 0) (n : ℕ) (xs : List X) → AllByRecursion P xs → AllByRecursion P (drop n xs)
drop_all_of P zero xs h = h
drop_all_of P (suc n) [] h = tt
drop_all_of P (suc n) (x ∷ xs) h = drop_all_of P n xs h.1

map_all : {X : Type 0} (g : X → X) (xs : List X) → AllByRecursion (λ x. g x ≡ x) xs → map g xs ≡ xs
map_all g [] h = refl
map_all g (x ∷ xs) h = let a = h.0 in let r = map_all g xs h.1 in cc

and_no : (a b : Bool) → b ≡ false → (a && b) ≡ false
and_no true b e = e
and_no false b e = refl

both : (a b : Bool) → a ≡ true → b ≡ true → (a && b) ≡ true
both a b h k = rw (h, k) refl

pub inside_in : (p : Node) (key : ℕ) → IsInside p.low p.high key → in_range p key ≡ true
inside_in p key i =
    let l = i.from_low in
    let low : nat_le p.low key ≡ true = grind (arith, nat_tests) in
    both (nat_le p.low key) (is_below p.high key) low i.below_high

-- an element in its place, behind lesser ones and before greater ones
put_behind : (e : Entry) (xs ys : List Entry) → AllByRecursion (λ x. x.key < e.key) xs → put entry_cmp e (xs ++ ys) ≡ xs ++ put entry_cmp e ys
put_behind e [] ys h = refl
put_behind e (x ∷ xs) ys h =
    let lt : nat_lt x.key e.key ≡ true = (let l = h.0 in grind (arith, nat_tests)) in
    rw (is_lt-nat_cmp x.key e.key, lt) (ap (λ zs. x ∷ zs) (put_behind e xs ys h.1))

put_before : (e : Entry) (xs ys : List Entry) → AllByRecursion (λ y. e.key < y.key) ys → put entry_cmp e (xs ++ ys) ≡ put entry_cmp e xs ++ ys
put_before e [] [] h = refl
put_before e [] (y ∷ ys) h =
    let lt : nat_lt y.key e.key ≡ false = (let l = h.0 in grind (arith, nat_tests)) in
    rw (is_lt-nat_cmp y.key e.key, lt) refl
put_before e (x ∷ xs) ys h =
    let Q : Bool → Type 0 = λ b. cond b (x ∷ put entry_cmp e (xs ++ ys)) (e ∷ x ∷ (xs ++ ys)) ≡ cond b (x ∷ put entry_cmp e xs) (e ∷ x ∷ xs) ++ ys in
    elim (is_lt (nat_cmp x.key e.key)) as Q [ true ↦ ap (λ zs. x ∷ zs) (put_before e xs ys h) | false ↦ refl ]

module _ (p : Node) (entries old new : List Entry) (c : ChangesAt p entries old new) (own : AllByRecursion (λ e. IsInside p.low p.high e.key) p.entries) where
  out_before : AllByRecursion (λ e. in_range p e.key ≡ false) c.before
  out_before = all_weaker (λ e. e.key < p.low) (λ e. in_range p e.key ≡ false)
      (λ e l. let low : nat_le p.low e.key ≡ false = grind (arith, nat_tests) in ap (λ b. b && is_below p.high e.key) low) c.before c.below

  out_behind : AllByRecursion (λ e. in_range p e.key ≡ false) c.behind
  out_behind = all_weaker (λ e. is_below p.high e.key ≡ false) (λ e. in_range p e.key ≡ false) (λ e l. and_no (nat_le p.low e.key) (is_below p.high e.key) l) c.behind c.above

  own_in : AllByRecursion (λ e. in_range p e.key ≡ true) p.entries
  own_in = all_weaker (λ e. IsInside p.low p.high e.key) (λ e. in_range p e.key ≡ true) (λ e i. inside_in p e.key i) p.entries own

  -- a page has the entries of its range
  pub own_entries : filter (λ e. in_range p e.key) old ≡ p.entries
  own_entries =
      let t : Entry → Bool = λ e. in_range p e.key in
      ap (filter t) c.was
      ∙ filter-append t c.before (p.entries ++ c.behind)
      ∙ ap (λ zs. zs ++ filter t (p.entries ++ c.behind)) (filter_none t c.before out_before)
      ∙ filter-append t p.entries c.behind
      ∙ ap (λ zs. filter t p.entries ++ zs) (filter_none t c.behind out_behind)
      ∙ append-nil (filter t p.entries)
      ∙ filter_all t p.entries own_in

  pub filtered : (t : Entry → Bool) → entries ≡ filter t p.entries → new ≡ filter (λ e. not (in_range p e.key) || t e) old
  filtered t e =
      let s : Entry → Bool = λ x. not (in_range p x.key) || t x in
      let out : (xs : List Entry) → AllByRecursion (λ x. in_range p x.key ≡ false) xs → filter s xs ≡ xs =
      λ xs h. filter_all s xs (all_weaker (λ x. in_range p x.key ≡ false) (λ x. s x ≡ true) (λ x o. ap (λ b. not b || t x) o) xs h) in
      let mine : filter s p.entries ≡ entries =
      filter_same s t p.entries (all_weaker (λ x. in_range p x.key ≡ true) (λ x. s x ≡ t x) (λ x o. ap (λ b. not b || t x) o) p.entries own_in) ∙ sym e in
      c.is ∙ sym (ap (filter s) c.was
      ∙ filter-append s c.before (p.entries ++ c.behind)
      ∙ ap (λ zs. zs ++ filter s (p.entries ++ c.behind)) (out c.before out_before)
      ∙ ap (λ zs. c.before ++ zs) (filter-append s p.entries c.behind
      ∙ ap (λ zs. zs ++ filter s c.behind) mine
      ∙ ap (λ zs. entries ++ zs) (out c.behind out_behind)))

  pub mapped : (g : Entry → Entry) → ((x : Entry) → in_range p x.key ≡ false → g x ≡ x) → entries ≡ map g p.entries → new ≡ map g old
  mapped g fixed e =
      let out : (xs : List Entry) → AllByRecursion (λ x. in_range p x.key ≡ false) xs → map g xs ≡ xs =
      λ xs h. map_all g xs (all_weaker (λ x. in_range p x.key ≡ false) (λ x. g x ≡ x) fixed xs h) in
      c.is ∙ sym (ap (map g) c.was
      ∙ map-append g c.before (p.entries ++ c.behind)
      ∙ ap (λ zs. zs ++ map g (p.entries ++ c.behind)) (out c.before out_before)
      ∙ ap (λ zs. c.before ++ zs) (map-append g p.entries c.behind
      ∙ ap (λ zs. zs ++ map g c.behind) (sym e)
      ∙ ap (λ zs. entries ++ zs) (out c.behind out_behind)))

  pub placed : (e : Entry) → IsInside p.low p.high e.key → entries ≡ put entry_cmp e p.entries → new ≡ put entry_cmp e old
  placed e i is =
      let lower : AllByRecursion (λ x. x.key < e.key) c.before = all_weaker (λ x. x.key < p.low) (λ x. x.key < e.key) (λ x l. let m = i.from_low in omega arith) c.before c.below in
      let upper : AllByRecursion (λ y. e.key < y.key) c.behind =
      all_weaker (λ y. is_below p.high y.key ≡ false) (λ y. e.key < y.key) (λ y l. below_less p.high e.key y.key i.below_high l) c.behind c.above in
      c.is ∙ sym (ap (put entry_cmp e) c.was
      ∙ put_behind e c.before (p.entries ++ c.behind) lower
      ∙ ap (λ zs. c.before ++ zs) (put_before e p.entries c.behind upper ∙ ap (λ zs. zs ++ c.behind) (sym is)))

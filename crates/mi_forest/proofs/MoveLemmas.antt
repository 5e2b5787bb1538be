-- From page to page.
use Rattle.std.proofs.Common.{◌≡◌, ℕ, List, [], ◌∷◌, Bool, true, false, ◌||◌, nat_eq, Option, Some, None, refl, sym, ap, ◌∙◌, subst, arith}
use Rattle.std.proofs.lemmas.Bool.{eqb-true, eq-eqb, false≢true}
use Rattle.std.proofs.lemmas.Bool.Decides.{nat_tests}
use Rattle.mi_base.specs.Prefixes.{has}
use Rattle.mi_page.specs.Keys.{is_below}
use Rattle.mi_page.specs.Routes.{IsChild}
use Rattle.mi_page.specs.Nodes.{Node}
use Rattle.mi_forest.specs.Forests.{Forest, IsForest, IsLinked, IsChain, Stands, LeadsDown, Follows, MovesRight, MovesDown}
use Rattle.mi_forest.proofs.ChainLemmas.{in_front}
use Rattle.mi_tree.proofs.ListLemmas.{all_get}

-- a page and what stands to the right of it
pub record Found (node : ℕ → Node) (level n : ℕ) (ns : List ℕ) : Type 0 where
  pub rest : List ℕ
  pub stands : Stands node level n rest
  pub chain : IsChain node level rest
  pub within : (m : ℕ) → has m rest ≡ true → has m ns ≡ true

or_right : (a b : Bool) → b ≡ true → (a || b) ≡ true
or_right true b h = refl
or_right false b h = h

pub found : (node : ℕ → Node) (level n : ℕ) (ns : List ℕ) → IsChain node level ns → has n ns ≡ true → Found node level n ns
found node level n [] c h = absurd (false≢true h)
found node level n (m ∷ ms) c h =
    let Q : Bool → Type 0 = λ b. nat_eq m n ≡ b → (b || has n ms) ≡ true → Found node level n (m ∷ ms) in
    (elim (nat_eq m n) as Q [
      | true ↦ λ e _. subst (λ (k : ℕ). Found node level k (m ∷ ms)) (eqb-true m n e) (record { rest = ms; stands = c.0; chain = c.1; within = λ j t. or_right (nat_eq m j) (has j ms) t })
      | false ↦ λ _ t. let r = found node level n ms c.1 t in record { rest = r.rest; stands = r.stands; chain = r.chain; within = λ j w. or_right (nat_eq m j) (has j ms) (r.within j w) }
    ]) refl h

pub stands : (f : Forest) → IsForest f → (n : ℕ) → IsLinked f n → Found f.node (f.node n).level n (f.chain (f.node n).level)
stands f h n linked = found f.node (f.node n).level n (f.chain (f.node n).level) (h.chains (f.node n).level) linked

pub first_has : (n : ℕ) (ns : List ℕ) → has n (n ∷ ns) ≡ true
first_has n ns = ap (λ b. b || has n ns) (eq-eqb n n refl)

-- each page of a chain is of its level
pub level_in : (node : ℕ → Node) (level n : ℕ) (ns : List ℕ) → IsChain node level ns → has n ns ≡ true → (node n).level ≡ level
level_in node level n ns c h = (found node level n ns c h).stands.height

pub linked_in : (f : Forest) → IsForest f → (level n : ℕ) → has n (f.chain level) ≡ true → IsLinked f n
linked_in f h level n t = subst (λ (l : ℕ). has n (f.chain l) ≡ true) (sym (level_in f.node level n (f.chain level) (h.chains level) t)) t

-- the right sibling of a page
pub right_of : (f : Forest) → IsForest f → (n m : ℕ) → IsLinked f n → (f.node n).right ≡ Some m → Follows f n m
right_of f h n m linked e = go s.rest s.stands s.chain s.within
  where
    s : Found f.node (f.node n).level n (f.chain (f.node n).level)
    s = stands f h n linked

    go : (rest : List ℕ) → Stands f.node (f.node n).level n rest → IsChain f.node (f.node n).level rest → ((k : ℕ) → has k rest ≡ true → has k (f.chain (f.node n).level) ≡ true) → Follows f n m
    go [] t c w = let none : (f.node n).right ≡ None = t.right in absurd (cc)
    go (k ∷ ks) t c w =
        let some : (f.node n).right ≡ Some k = t.right in
        let is : k ≡ m = cc in
        subst (Follows f n) is (record {
          linked = linked_in f h (f.node n).level k (w k (first_has k ks));
          height = c.0.height;
          high = t.high;
          farther = in_front (f.node n).high (f.node n).low (f.node k).low t.high t.wide;
        })

-- a page without one has no end
pub last_of : (f : Forest) → IsForest f → (n : ℕ) → IsLinked f n → (f.node n).right ≡ None → (f.node n).high ≡ None
last_of f h n linked e = go s.rest s.stands
  where
    s : Found f.node (f.node n).level n (f.chain (f.node n).level)
    s = stands f h n linked

    go : (rest : List ℕ) → Stands f.node (f.node n).level n rest → (f.node n).high ≡ None
    go [] t = t.high
    go (k ∷ ks) t = let some : (f.node n).right ≡ Some k = t.right in absurd (cc)

pub move_right : (f : Forest) → IsForest f → (n key : ℕ) → IsLinked f n → is_below (f.node n).high key ≡ false → MovesRight f n key
move_right f h n key linked out = go (f.node n).right refl
  where
    go : (right : Option ℕ) → (f.node n).right ≡ right → MovesRight f n key
    go None e = absurd (false≢true (sym out ∙ ap (λ o. is_below o key) (last_of f h n linked e)))
    go (Some m) e =
        let r = right_of f h n m linked e in
        let past : is_below (Some (f.node m).low) key ≡ false = sym (ap (λ o. is_below o key) r.high) ∙ out in
        record { to = m; right = e; follows = r; reached = grind (arith, nat_tests) }

pub move_down : (f : Forest) → IsForest f → (n key child : ℕ) → IsLinked f n → IsChild key (f.node n).routes child → MovesDown f n key child
move_down f h n key child linked c =
    let leads = all_get (LeadsDown f (f.node n).level) (f.node n).routes c.place c.route (h.routes n linked) c.there in
    subst (λ (m : ℕ). MovesDown f n key m) (sym c.is) (record {
      linked = leads.linked;
      height = leads.height;
      reached = (let l = leads.low in let k = c.not_above in omega arith);
    })

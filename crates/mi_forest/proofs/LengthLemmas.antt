-- How many pages each level has after a halving.
use Rattle.std.proofs.Common.{◌≡◌, ◌≢◌, ℕ, suc, ◌+◌, List, [], ◌∷◌, length, Bool, true, false, cond, ◌||◌, nat_eq, sym, ap, ◌∙◌, arith, inl, inr}
use Rattle.std.proofs.lemmas.Bool.{false≢true}
use Rattle.mi_base.specs.Prefixes.{has}
use Rattle.mi_forest.specs.Forests.{Forest, IsForest}
use Rattle.mi_forest.specs.Changes.{HalvesPage, put_after}
use Rattle.mi_forest.proofs.NumberLemmas.{after_none}
use Rattle.mi_forest.proofs.MoveLemmas.{level_in}
use Rattle.mi_forest.proofs.HandLemmas.{bool_cases}

-- a halving makes its level one page longer, and no other
pub after_one : (n q : ℕ) (ns : List ℕ) → has n ns ≡ true → length (put_after n q ns) ≡ length ns + 1
after_one n q [] t = absurd (false≢true t)
after_one n q (m ∷ ms) t =
    let P : Bool → Type 0 = λ b. (b || has n ms) ≡ true → length (cond b (m ∷ q ∷ ms) (m ∷ put_after n q ms)) ≡ suc (length ms) + 1 in
    (elim (nat_eq m n) as P [ true ↦ λ _. omega arith | false ↦ λ k. let r = after_one n q ms k in omega arith ]) t

pub longer : (f g : Forest) → IsForest f → (n q : ℕ) → HalvesPage f g n q → length (g.chain (f.node n).level) ≡ length (f.chain (f.node n).level) + 1
longer f g h n q w = ap length (w.chains (f.node n).level) ∙ after_one n q (f.chain (f.node n).level) w.linked

pub others_same : (f g : Forest) → IsForest f → (n q : ℕ) → HalvesPage f g n q → (level : ℕ) → level ≢ (f.node n).level → g.chain level ≡ f.chain level
others_same f g h n q w level o = w.chains level ∙ elim (bool_cases (has n (f.chain level))) [
  | inl t ↦ absurd (o (sym (level_in f.node level n (f.chain level) (h.chains level) t)))
  | inr t ↦ after_none n q (f.chain level) t
]

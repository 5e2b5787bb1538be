-- What is read of a linked page.
use Rattle.std.proofs.Common.{◌≡◌, ℕ, suc, zero, List, [], ◌∷◌, get_or, Bool, true, IsTrue, sym, ap, ◌∙◌, Option, Some, None, is_some}
use Rattle.std.proofs.lemmas.Bool.{false≢true}
use Rattle.std.specs.Prelude.{cond, false}
use Rattle.std.specs.List.{AllByRecursion, filter}
use Rattle.mi_tree.proofs.ListLemmas.{all_weaker}
use Rattle.mi_core.specs.Effects.{trim_node}
use Rattle.mi_core.specs.Pages.{node_or_fresh}
use Rattle.mi_core.specs.State.{node_at}
use Rattle.mi_page.specs.Nodes.{Node}
use Rattle.mi_solo.specs.declared.cores.Core.{Core}
use Rattle.mi_solo.specs.Seeking.{TrimsTo}
use Rattle.mi_solo.specs.States.{is_linked, node_in, state_of}

read_at : {X : Type 0} (xs : List (Option X)) (i : ℕ) (x : Option X) → x ≡ get_or xs i x → IsTrue (is_some (get_or xs i None)) → get_or xs i None ≡ x
read_at [] i x e t = absurd (false≢true t)
read_at (y ∷ xs) zero x e t = sym e
read_at (y ∷ xs) (suc i) x e t = read_at xs i x e t

module _ (c : Core) (page : ℕ) (linked : IsTrue (is_linked (state_of c) page)) (read : Option Node) (at : read ≡ get_or c.pages.items page read) (node : Node) (is : read ≡ Some node) where
  pub page_here : node_at (state_of c).pages page ≡ Some node
  page_here = read_at c.pages.items page read at linked ∙ is

  pub node_here : node_in (state_of c) page ≡ node
  node_here = ap node_or_fresh page_here

-- what holds of all holds of those that pass a test
all_kept : {X : Type 0} (P : X → Type 0) (test : X → Bool) (xs : List X) → AllByRecursion P xs → AllByRecursion P (filter test xs)
all_kept P test [] h = tt
all_kept P test (x ∷ xs) h =
    let Q : Bool → Type 0 = λ b. AllByRecursion P (cond b (x ∷ filter test xs) (filter test xs)) in
    elim (test x) as Q [ true ↦ (h.0, all_kept P test xs h.1) | false ↦ all_kept P test xs h.1 ]

-- and so does what follows from it
pub all_follow : {X : Type 0} (P Q : X → Type 0) → ((x : X) → P x → Q x) → (test : X → Bool) (xs : List X) → AllByRecursion P xs → AllByRecursion Q (filter test xs)
all_follow P Q f test xs h = all_kept Q test xs (all_weaker P Q f xs h)

-- a trim leaves the end and the sibling
pub trims_alike : (n : Node) (floor : ℕ) (r : Option ℕ) → TrimsTo (trim_node floor n) r → TrimsTo n r
trims_alike n floor None h = h
trims_alike n floor (Some p) h = h

-- The pages that a page in hand names are linked, with these levels and low keys.
use Rattle.std.proofs.Common.{◌≡◌, ℕ, suc, zero, ◌-◌, ◌<◌, List, [], ◌∷◌, ◌++◌, map, Option, Some, None, inl, inr, ⊎_elim, ◌⊎◌, refl, sym, ap, ◌∙◌, subst, arith}
use Rattle.std.specs.Prelude.{slice_get}
use Rattle.std.proofs.lemmas.Option.{none-some}
use Rattle.mi_page.specs.declared.routes.Route.{Route}
use Rattle.mi_page.specs.Nodes.{Node}
use Rattle.mi_core.specs.Named.{IsNamed, Named}
use Rattle.mi_core.specs.Pages.{forest_of, node_or_fresh}
use Rattle.mi_core.specs.Sound.{Sound}
use Rattle.mi_core.specs.State.{State, node_at}
use Rattle.mi_core.proofs.NamedLemmas.{child_named, right_named}
use Rattle.mi_forest.proofs.MoveLemmas.{stands}
use Rattle.mi_latch.specs.Naming.{child_by, names_of, sibling_of}
use Rattle.mi_latch.specs.Views.{IsOne}

-- one of two lists
pub one_of_either : {X : Type 0} (xs ys : List X) (x : X) → IsOne x (xs ++ ys) → IsOne x xs ⊎ IsOne x ys
one_of_either [] ys x h = inr h
one_of_either (y ∷ xs) ys x h = ⊎_elim (λ e. inl (inl e)) (λ t. ⊎_elim (λ z. inl (inr z)) (λ z. inr z) (one_of_either xs ys x t)) h

-- one of a list is one of a longer list
pub one_more : {X : Type 0} (xs ys : List X) (x : X) → IsOne x ys → IsOne x (xs ++ ys)
one_more [] ys x h = h
one_more (y ∷ xs) ys x h = inr (one_more xs ys x h)

-- one of a list's images is the image of one at some place
one_mapped : {X Y : Type 0} (f : X → Y) (xs : List X) (y : Y) → IsOne y (map f xs) → (i : ℕ) × (x : X) × (slice_get xs i ≡ Some x) × (f x ≡ y)
one_mapped f [] y h = absurd h
one_mapped f (x ∷ xs) y h = ⊎_elim (λ e. (0, x, refl, e)) (λ t. let r = one_mapped f xs y t in (suc r.0, r.1, r.2, r.3)) h

module _ (c : State) (k : Sound c) (page : ℕ) (n : Node) (there : node_at c.pages page ≡ Some n) where
  sibling_stands : (right high : Option ℕ) → n.right ≡ right → n.high ≡ high → (x : Named) → IsOne x (sibling_of n.level right high) → IsNamed c.pages x
  sibling_stands None high r h x one = absurd one
  sibling_stands (Some q) None r h x one = absurd one
  sibling_stands (Some q) (Some key) r h x one = ⊎_elim (λ e. subst (IsNamed c.pages) e (right_named c k page q key n there r h)) (λ e. absurd e) one

  -- a page with a route is above the leaf pages
  above_leaves : (i : ℕ) (x : Route) → slice_get n.routes i ≡ Some x → 0 < n.level
  above_leaves i x e =
      let here : (forest_of c.board c.pages c.actors k.chain).node page ≡ n = ap node_or_fresh there in
      let leaf = (stands (forest_of c.board c.pages c.actors k.chain) k.pages.forest page (k.pages.linked page n there)).stands.page.leaf in
      go n.level refl (λ z. subst (λ (m : Node). m.level ≡ 0 → m.routes ≡ []) here leaf z)
    where
      go : (l : ℕ) → n.level ≡ l → (n.level ≡ 0 → n.routes ≡ []) → 0 < n.level
      go zero z none = absurd (none-some x (sym (ap (λ rs. slice_get rs i) (none z)) ∙ e))
      go (suc l) z none = omega arith

  pub names_stand : (x : Named) → IsOne x (names_of n) → IsNamed c.pages x
  names_stand x one = ⊎_elim
      (λ h. sibling_stands n.right n.high refl refl x h)
      (λ h.
      let r = one_mapped (child_by n.level) n.routes x h in
      let above = above_leaves r.0 r.1 r.2 in
      subst (IsNamed c.pages) r.3 (child_named c k page r.0 n r.1 (n.level - 1) there r.2 (omega arith)))
      (one_of_either (sibling_of n.level n.right n.high) (map (child_by n.level) n.routes) x one)

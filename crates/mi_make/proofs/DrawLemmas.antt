-- What is drawn one after another.
use Rattle.std.proofs.Common.{◌≡◌, ℕ, zero, suc, ℤ, ◌+◌, ◌-◌, ◌<◌, ◌≤◌, ◌++◌, List, [], ◌∷◌, length, true, Some, refl, sym, ap, ◌∙◌, subst, arith, inl, inr}
use Rattle.std.specs.Prelude.{slice_get}
use Rattle.std.proofs.lemmas.Bool.{and_from, false≢true, le-leb}
use Rattle.std.proofs.lemmas.List.{append_assoc, append-nil}
use Rattle.mi_base.specs.Vectors.{IsRefused, all_coordinates, is_coordinate}
use Rattle.mi_base.specs.declared.refusals.VectorRefusal.{VectorRefusal}
use Rattle.mi_base.specs.declared.refusals.VectorRefusal.TheVariants.{Length, Coordinate}
use Rattle.mi_make.specs.declared.draws.TheConstants.{COORDINATES}
use Rattle.mi_make.specs.Draws.{coordinate, drawn, left_by, next_state, number_below}

module _ {X : Type 0} (value : ℕ → X) (next : ℕ → ℕ) where
  -- so many are drawn
  pub drawn_length : (n x : ℕ) → length (drawn value next n x) ≡ n
  unfolding drawn
  drawn_length zero x = refl
  drawn_length (suc n) x = ap suc (drawn_length n (next x))

  -- what is left to draw before one more was drawn
  one_more : (n c x : ℕ) → c < n → drawn value next (n - c) x ≡ value x ∷ drawn value next (n - (c + 1)) (next x)
  unfolding drawn
  one_more n c x less = let same : n - c ≡ suc (n - (c + 1)) = omega (arith, less) in ap (λ (k : ℕ). drawn value next k x) same

  -- one more was drawn
  pub drawn_on : (n c x y : ℕ) (z : X) (all items more : List X) → c < n → y ≡ next x → z ≡ value x → more ≡ items ++ z ∷ []
      → all ≡ items ++ drawn value next (n - c) x → all ≡ more ++ drawn value next (n - (c + 1)) y
  drawn_on n c x y z all items more less on is put was =
      let rest = drawn value next (n - (c + 1)) (next x) in
      let now : all ≡ items ++ (value x ∷ rest) = was ∙ ap (λ (xs : List X). items ++ xs) (one_more n c x less) in
      let join : items ++ (value x ∷ rest) ≡ (items ++ value x ∷ []) ++ rest = sym (append_assoc items (value x ∷ []) rest) in
      let grown : (items ++ value x ∷ []) ≡ more = ap (λ (v : X). items ++ v ∷ []) (sym is) ∙ sym put in
      now ∙ join ∙ ap (λ (xs : List X). xs ++ rest) grown ∙ ap (λ (s : ℕ). more ++ drawn value next (n - (c + 1)) s) (sym on)

  -- nothing is left to draw
  pub all_drawn : (n c x : ℕ) (all items : List X) → n ≤ c → all ≡ items ++ drawn value next (n - c) x → items ≡ all
  unfolding drawn
  all_drawn n c x all items more was =
      let none : n - c ≡ 0 = omega (arith, more) in
      sym (was ∙ ap (λ (k : ℕ). items ++ drawn value next k x) none ∙ append-nil items)

-- the state that is left, while one more is drawn and where nothing is left to draw
module _ (next : ℕ → ℕ) where
  pub left_on : (n c x y all : ℕ) → c < n → y ≡ next x → all ≡ left_by next (n - c) x → all ≡ left_by next (n - (c + 1)) y
  unfolding left_by
  left_on n c x y all less on was =
      let same : n - c ≡ suc (n - (c + 1)) = omega (arith, less) in
      was ∙ ap (λ (k : ℕ). left_by next k x) same ∙ ap (left_by next (n - (c + 1))) (sym on)

  pub none_left : (n c x all : ℕ) → n ≤ c → all ≡ left_by next (n - c) x → x ≡ all
  unfolding left_by
  none_left n c x all more was =
      let none : n - c ≡ 0 = omega (arith, more) in
      sym (was ∙ ap (λ (k : ℕ). left_by next k x) none)

-- each is a coordinate
small : (x : ℕ) → is_coordinate (coordinate x) ≡ true
small x = le-leb (number_below COORDINATES (next_state x)) 1000000 (omega arith)

pub drawn_fit : (n x : ℕ) → all_coordinates (drawn coordinate next_state n x) ≡ true
unfolding drawn
drawn_fit zero x = refl
drawn_fit (suc n) x = and_from (is_coordinate (coordinate x)) _ (small x) (drawn_fit n (next_state x))

at_place : (n x place : ℕ) (value : ℤ) → slice_get (drawn coordinate next_state n x) place ≡ Some value → is_coordinate value ≡ true
unfolding drawn
at_place zero x place value at = cc
at_place (suc n) x zero value at = let same : coordinate x ≡ value = cc in subst (λ (z : ℤ). is_coordinate z ≡ true) same (small x)
at_place (suc n) x (suc place) value at = at_place n (next_state x) place value at

-- so these are a vector, where they are 1 to 64
pub is_vector : (n x : ℕ) (why : VectorRefusal) → 1 ≤ n → n ≤ 64 → IsRefused (drawn coordinate next_state n x) why → ⊥
is_vector n x (Length items) some few h =
    let long : items ≡ n = h.0 ∙ drawn_length coordinate next_state n x in
    elim h.1 [ inl none ↦ omega (arith, long, none, some) | inr many ↦ omega (arith, long, many, few) ]
is_vector n x (Coordinate place value) some few h = false≢true (sym h.3 ∙ at_place n x place value h.2)

-- Which slots change, a slot at a time.
use Rattle.std.proofs.Common.{◌≡◌, inl, inr, ⊎_elim, ℕ, ◌<◌, List, [], ◌∷◌, length, get_or, set, sym, refl, ◌∙◌, subst, get_or-set_same, get_or-set_other}
use mathlib.Core.Logic.{dite}
use native.Mathlib.Decide.{ℕ_discrete}
use Rattle.mi_latch.specs.Shows.{Has, HasKey, One, Writes}

module _ {S : Type 0} where
  pub writes_none : (f : ℕ → S) → Writes f f []
  writes_none f = record { values = λ i x h. absurd h; rest = λ i n. refl }

  -- one more slot is written
  pub writes_more : (f g h : ℕ → S) (i : ℕ) (x : S) (ys : List (ℕ × S)) → Writes f g ys → One g h i x → (HasKey ys i → ⊥) → Writes f h ((i, x) ∷ ys)
  writes_more f g h i x ys w o off = record {
    values = λ j y t. ⊎_elim (λ e. subst (λ (k : ℕ). h k ≡ y) e.0 (o.here ∙ e.1)) (λ t. o.others j (λ e. off (y, subst (λ (k : ℕ). Has ys k y) e t)) ∙ w.values j y t) t;
    rest = λ j n. o.others j (λ e. n (x, inl (sym e, refl))) ∙ w.rest j (λ t. n (t.0, inr t.1));
  }

  -- one more slot keeps what it had
  pub writes_kept : (f g : ℕ → S) (i : ℕ) (x : S) (ys : List (ℕ × S)) → Writes f g ys → f i ≡ x → (HasKey ys i → ⊥) → Writes f g ((i, x) ∷ ys)
  writes_kept f g i x ys w is off = record {
    values = λ j y t. ⊎_elim (λ e. subst (λ (k : ℕ). g k ≡ y) e.0 (w.rest i off ∙ (is ∙ e.1))) (λ t. w.values j y t) t;
    rest = λ j n. w.rest j (λ t. n (t.0, inr t.1));
  }

  pub one_set : (l : List S) (i : ℕ) (x d : S) → i < length l → One (λ j. get_or l j d) (λ j. get_or (set l i x) j d) i x
  one_set l i x d h = record { here = get_or-set_same l i x d h; others = λ j n. get_or-set_other l i j x d n }

  -- one slot is written, and others are known to have what they had
  pub writes_frame : (f g : ℕ → S) (i : ℕ) (y : S) (out : List (ℕ × S)) → One f g i y → ((j : ℕ) (x : S) → Has out j x → f j ≡ x) → (HasKey out i → ⊥) → Writes f g ((i, y) ∷ out)
  writes_frame f g i y out o known off = record {
    values = λ j x t. ⊎_elim (λ e. subst (λ (k : ℕ). g k ≡ x) e.0 (o.here ∙ e.1)) (λ t. o.others j (λ e. off (x, subst (λ (k : ℕ). Has out k x) e t)) ∙ known j x t) t;
    rest = λ j n. o.others j (λ e. n (y, inl (sym e, refl)));
  }

  -- a slot that keeps what it has is written with that
  pub one_same : (f g : ℕ → S) (i : ℕ) (y : S) → ((j : ℕ) → g j ≡ f j) → f i ≡ y → One f g i y
  one_same f g i y e h = record { here = e i ∙ h; others = λ j n. e j }

  pub one_to : (f g : ℕ → S) (i : ℕ) (x y : S) → x ≡ y → One f g i x → One f g i y
  one_to f g i x y e o = record { here = o.here ∙ e; others = o.others }

  -- the one slot that is written gets what it had
  pub writes_same : (f g : ℕ → S) (i : ℕ) (x : S) → One f g i x → f i ≡ x → Writes f g []
  writes_same f g i x o e = record {
    values = λ j y t. absurd t;
    rest = λ j n. dite (ℕ_discrete j i) (λ z. subst (λ (k : ℕ). g k ≡ f k) (sym z) (o.here ∙ sym e)) (λ ne. o.others j ne);
  }

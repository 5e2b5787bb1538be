-- One actor's record changes.
use Rattle.std.proofs.Common.{◌≡◌, ◌≢◌, ℕ, suc, zero, ◌+◌, List, [], ◌∷◌, Bool, cond, refl, sym, ap, ◌∙◌, subst, arith, Option, Some, None, inl, inr, ◌⊎◌}
use Rattle.std.specs.Prelude.{slice_get, slice_set}
use Rattle.std.proofs.lemmas.Bool.{cases_eq}
use Rattle.std.proofs.lemmas.Option.{none-some, same_Some}
use Rattle.mi_base.specs.declared.records.LogEvent.{LogEvent}
use Rattle.mi_core.specs.Claims.{AreRetired, ClaimAlone, HasHolder, SweepAlone}
use Rattle.mi_board.specs.declared.actors.ActorState.{ActorState}
use Rattle.mi_core.specs.Pages.{has_page, is_page}
use Rattle.mi_core.specs.State.{count_if}
use Rattle.mi_entries.specs.Actors.{Actor}
use Rattle.mi_entries.proofs.ContentLemmas.{EndsSplit, SameWorks}

module _ {A : Type 0} where
  pub at_set : (l : List A) (i j : ℕ) (a b : A) → slice_get (slice_set l i a) j ≡ Some b → ((j ≡ i) × (a ≡ b)) ⊎ ((j ≢ i) × (slice_get l j ≡ Some b))
  at_set [] i j a b e = absurd (none-some b e)
  at_set (x ∷ xs) zero zero a b e = inl (refl, same_Some a b e)
  at_set (x ∷ xs) zero (suc j) a b e = inr ((λ h. omega arith), e)
  at_set (x ∷ xs) (suc i) zero a b e = inr ((λ h. omega arith), e)
  at_set (x ∷ xs) (suc i) (suc j) a b e = elim (at_set xs i j a b e) [ inl t ↦ inl (ap suc t.0, t.1) | inr t ↦ inr ((λ h. t.0 (omega arith)), t.1) ]

  pub set_there : (l : List A) (i : ℕ) (a b : A) → slice_get l i ≡ Some b → slice_get (slice_set l i a) i ≡ Some a
  set_there [] i a b e = absurd (none-some b e)
  set_there (x ∷ xs) zero a b e = refl
  set_there (x ∷ xs) (suc i) a b e = set_there xs i a b e

  pub set_else : (l : List A) (i j : ℕ) (a : A) → j ≢ i → slice_get (slice_set l i a) j ≡ slice_get l j
  set_else [] i j a n = refl
  set_else (x ∷ xs) zero zero a n = absurd (n refl)
  set_else (x ∷ xs) zero (suc j) a n = refl
  set_else (x ∷ xs) (suc i) zero a n = refl
  set_else (x ∷ xs) (suc i) (suc j) a n = set_else xs i j a (λ e. n (ap suc e))

  pub set_twice : (l : List A) (i : ℕ) (a b : A) → slice_set (slice_set l i a) i b ≡ slice_set l i b
  set_twice [] i a b = refl
  set_twice (x ∷ xs) zero a b = refl
  set_twice (x ∷ xs) (suc i) a b = ap (λ ys. x ∷ ys) (set_twice xs i a b)

  -- how many pass, with one element changed
  pub count_set : (t : A → Bool) (l : List A) (i : ℕ) (a b : A) → slice_get l i ≡ Some b → count_if t (slice_set l i a) + cond (t b) 1 0 ≡ count_if t l + cond (t a) 1 0
  count_set t [] i a b e = absurd (none-some b e)
  count_set t (x ∷ xs) zero a b e =
      let same : cond {A = ℕ} (t x) 1 0 ≡ cond (t b) 1 0 = ap (λ (y : A). cond {A = ℕ} (t y) 1 0) (same_Some x b e) in
      omega arith
  count_set t (x ∷ xs) (suc i) a b e = omega (arith, count_set t xs i a b e)

  pub count_same : (t : A → Bool) (l : List A) (i : ℕ) (a b : A) → slice_get l i ≡ Some b → t a ≡ t b → count_if t (slice_set l i a) ≡ count_if t l
  count_same t l i a b e h =
      let same : cond {A = ℕ} (t a) 1 0 ≡ cond (t b) 1 0 = ap (λ c. cond {A = ℕ} c 1 0) h in
      omega (arith, count_set t l i a b e)

-- an actor holds the same
pub record SameHands (r q : Actor) : Type 0 where
  pub shard : q.shard ≡ r.shard
  pub claim : q.claim ≡ r.claim
  pub sweep : q.sweep ≡ r.sweep
  pub split : q.split ≡ r.split
  pub fresh : q.fresh ≡ r.fresh

module _ (actors : List Actor) (a : ℕ) (r q : Actor) (there : slice_get actors a ≡ Some r) where
  -- each actor, the one changed and the others
  pub each_set : (P : ℕ → Actor → Type 0) → P a q → ((b : ℕ) (t : Actor) → b ≢ a → slice_get actors b ≡ Some t → P b t) → (b : ℕ) (t : Actor) → slice_get (slice_set actors a q) b ≡ Some t → P b t
  each_set P own others b t e = elim (at_set actors a b q t e) [
    | inl h ↦ subst (λ (n : ℕ). P n t) (sym h.0) (subst (P a) h.1 own)
    | inr h ↦ others b t h.0 h.1
  ]

  -- what one field has of an actor, it has of the same number before
  pub was : {X : Type 0} (f : Actor → X) → f q ≡ f r → (b : ℕ) (t : Actor) → slice_get (slice_set actors a q) b ≡ Some t → (u : Actor) × (slice_get actors b ≡ Some u) × (f u ≡ f t)
  was {X = X} f same b t e = elim (at_set actors a b q t e) [
    | inl h ↦ (r, ap (slice_get actors) h.0 ∙ there, sym same ∙ ap f h.1)
    | inr h ↦ (t, h.1, refl)
  ]

  pub «is» : {X : Type 0} (f : Actor → X) → f q ≡ f r → (b : ℕ) (t : Actor) → slice_get actors b ≡ Some t → (u : Actor) × (slice_get (slice_set actors a q) b ≡ Some u) × (f u ≡ f t)
  «is» {X = X} f same b t e = elim (cases_eq b a) [
    | inl h ↦
        let mine : t ≡ r = same_Some t r (sym e ∙ ap (slice_get actors) h ∙ there) in
        (q, ap (slice_get (slice_set actors a q)) h ∙ set_there actors a q r there, same ∙ ap f (sym mine))
    | inr h ↦ (t, set_else actors a b q h ∙ e, refl)
  ]

  pub holders_by : q.shard ≡ r.shard → (k b : ℕ) → HasHolder actors k b → HasHolder (slice_set actors a q) k b
  holders_by same k b h = let n = «is» (λ t. t.shard) same b h.actor h.there in record { actor = n.0; there = n.1; shard = n.2 ∙ h.shard }

  pub claims_by : q.claim ≡ r.claim → ClaimAlone actors → ClaimAlone (slice_set actors a q)
  claims_by same h b c t u p eb ec cb cu =
      let x = was (λ t. t.claim) same b t eb in
      let y = was (λ t. t.claim) same c u ec in
      h b c x.0 y.0 p x.1 y.1 (x.2 ∙ cb) (y.2 ∙ cu)

  -- a claim that ended
  pub claims_end : q.claim ≡ None → ClaimAlone actors → ClaimAlone (slice_set actors a q)
  claims_end none h b c t u p eb ec cb cu =
      let old : (d : ℕ) (z : Actor) → slice_get (slice_set actors a q) d ≡ Some z → z.claim ≡ Some p → slice_get actors d ≡ Some z = λ d z e l. elim (at_set actors a d q z e) [
        | inl m ↦ absurd (none-some p (sym none ∙ ap (λ (z : Actor). z.claim) m.1 ∙ l))
        | inr m ↦ m.1
      ] in
      h b c t u p (old b t eb cb) (old c u ec cu) cb cu

  pub sweeps_by : q.sweep ≡ r.sweep → SweepAlone actors → SweepAlone (slice_set actors a q)
  sweeps_by same h b c t u v w eb ec cb cu =
      let x = was (λ t. t.sweep) same b t eb in
      let y = was (λ t. t.sweep) same c u ec in
      h b c x.0 y.0 v w x.1 y.1 (x.2 ∙ cb) (y.2 ∙ cu)

  pub retired_by : q.sweep ≡ r.sweep → (log : List LogEvent) (ps : List (List ℕ)) → AreRetired log actors ps → AreRetired log (slice_set actors a q) ps
  retired_by same log [] h = tt
  retired_by same log (p ∷ ps) h = (h.0, h.1, (λ b t w e s. let x = was (λ t. t.sweep) same b t e in h.2 b x.0 w x.1 (x.2 ∙ s)), retired_by same log ps h.3)

  pub held_by_all : q.fresh ≡ r.fresh → (p : ℕ) → count_if (has_page p) (slice_set actors a q) ≡ count_if (has_page p) actors
  held_by_all same p = count_same (has_page p) actors a q r there (ap (is_page p) same)

  -- the split of one actor is over
  pub ends_split : q.sweep ≡ r.sweep → q.split ≡ None → EndsSplit actors (slice_set actors a q) a
  ends_split sweep none = record {
    split = λ b w n h. record { actor = h.actor; there = set_else actors a b q n ∙ h.there; split = h.split };
    sweep = λ b w h. let n = «is» (λ t. t.sweep) sweep b h.actor h.there in record { actor = n.0; there = n.1; sweep = n.2 ∙ h.sweep };
    back = λ b w h. elim (at_set actors a b q h.actor h.there) [
      | inl m ↦ absurd (none-some w (sym none ∙ ap (λ (z : Actor). z.split) m.1 ∙ h.split))
      | inr m ↦ (record { actor = h.actor; there = m.1; split = h.split }, m.0)
    ];
  }

  pub works_by : q.split ≡ r.split → q.sweep ≡ r.sweep → SameWorks actors (slice_set actors a q)
  works_by split sweep = record {
    split = λ b w h. let n = «is» (λ t. t.split) split b h.actor h.there in record { actor = n.0; there = n.1; split = n.2 ∙ h.split };
    sweep = λ b w h. let n = «is» (λ t. t.sweep) sweep b h.actor h.there in record { actor = n.0; there = n.1; sweep = n.2 ∙ h.sweep };
    back = λ b w h. let n = was (λ t. t.split) split b h.actor h.there in record { actor = n.0; there = n.1; split = n.2 ∙ h.split };
  }

  module _ (same : SameHands r q) where
    pub holders_stay : (k b : ℕ) → HasHolder actors k b → HasHolder (slice_set actors a q) k b
    holders_stay = holders_by same.shard

    pub claims_stay : ClaimAlone actors → ClaimAlone (slice_set actors a q)
    claims_stay = claims_by same.claim

    pub sweeps_stay : SweepAlone actors → SweepAlone (slice_set actors a q)
    sweeps_stay = sweeps_by same.sweep

    pub retired_stay : (log : List LogEvent) (ps : List (List ℕ)) → AreRetired log actors ps → AreRetired log (slice_set actors a q) ps
    retired_stay = retired_by same.sweep

    pub held_stays : (p : ℕ) → count_if (has_page p) (slice_set actors a q) ≡ count_if (has_page p) actors
    held_stays = held_by_all same.fresh

    pub works_stay : SameWorks actors (slice_set actors a q)
    works_stay = works_by same.split same.sweep

-- a claim that is made or has ended
abbrev pub set_claim : Option (List ℕ) → ActorState → ActorState
set_claim claim x = record x { claim = claim }

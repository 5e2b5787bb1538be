-- Lists of turns that go on.
use Rattle.std.proofs.Common.{◌≡◌, ℕ, ◌+◌, List, [], ◌∷◌, ◌++◌, length, Bool, true, false, cond, not, ◌&&◌, ◌||◌, refl, sym, ap, ◌∙◌, subst, arith, length-append}
use Rattle.std.specs.Prelude.{◌==◌}
use Rattle.std.specs.List.{AllByRecursion, filter, fold}
use Rattle.std.proofs.lemmas.Bool.{false≢true}
use Rattle.std.proofs.lemmas.Bool.Decides.{Decides-eqb}
use Rattle.std.proofs.lemmas.Grind.{fold-append}
use Rattle.std.proofs.lemmas.List.Elements.{filter-append}
use Rattle.mi_settle.specs.Turns.{Turn, InTurn, busy, busy_after, ended, Chained}
use Rattle.mi_core.specs.State.{State}

pub chained_on : (s m t : State) (us vs : List Turn) → Chained s us m → Chained m vs t → Chained s (us ++ vs) t
chained_on s m t [] vs h k = subst (λ x. Chained x vs t) (sym h) k
chained_on s m t (u ∷ us) vs h k = (h.0, h.1, chained_on u.after m t us vs h.2 k)

-- what is under way and what has ended after more turns
pub busy-append : (k : ℕ) (turns ts : List Turn) → busy k (turns ++ ts) ≡ fold (busy_after k) (busy k turns) ts
busy-append k turns ts = fold-append (busy_after k) false turns ts

pub ended-append : (k : ℕ) (turns ts : List Turn) → ended k (turns ++ ts) ≡ ended k turns + ended k ts
ended-append k turns ts =
    let P : Turn → Bool = λ u. (u.actor == k) && u.ends in
    ap length (filter-append P turns ts) ∙ length-append (filter P turns) (filter P ts)

pub in_turn_on : (k : ℕ) (b : Bool) (turns ts : List Turn) → InTurn k b turns → InTurn k (fold (busy_after k) b turns) ts → InTurn k b (turns ++ ts)
in_turn_on k b [] ts h g = g
in_turn_on k b (t ∷ turns) ts h g = (h.0, in_turn_on k (busy_after k b t) turns ts h.1 g)

-- the turns of others
abbrev pub NotBy : ℕ → List Turn → Type 0
NotBy k ts = AllByRecursion (λ u. (u.actor == k) ≡ false) ts

busy_others : (k : ℕ) (b : Bool) (ts : List Turn) → NotBy k ts → fold (busy_after k) b ts ≡ b
busy_others k b [] h = refl
busy_others k b (t ∷ ts) h = ap (λ x. fold (busy_after k) (cond x (not t.ends && (t.begins || b)) b) ts) h.0 ∙ busy_others k b ts h.1

pub busy_on : (k : ℕ) (turns ts : List Turn) → NotBy k ts → busy k (turns ++ ts) ≡ busy k turns
busy_on k turns ts h = busy-append k turns ts ∙ busy_others k (busy k turns) ts h

ended_none : (k : ℕ) (ts : List Turn) → NotBy k ts → ended k ts ≡ 0
ended_none k [] h = refl
ended_none k (t ∷ ts) h =
    let P : Turn → Bool = λ u. (u.actor == k) && u.ends in
    ap (λ x. length (cond (x && t.ends) (t ∷ filter P ts) (filter P ts))) h.0 ∙ ended_none k ts h.1

pub ended_on : (k : ℕ) (turns ts : List Turn) → NotBy k ts → ended k (turns ++ ts) ≡ ended k turns
ended_on k turns ts h = omega (arith, ended-append k turns ts, ended_none k ts h)

in_turn_others : (k : ℕ) (b : Bool) (ts : List Turn) → NotBy k ts → InTurn k b ts
in_turn_others k b [] h = tt
in_turn_others k b (t ∷ ts) h = (λ is. absurd (false≢true (sym h.0 ∙ is)), in_turn_others k (busy_after k b t) ts h.1)

pub in_turn_still : (k : ℕ) (turns ts : List Turn) → InTurn k false turns → NotBy k ts → InTurn k false (turns ++ ts)
in_turn_still k turns ts h g = in_turn_on k false turns ts h (in_turn_others k (busy k turns) ts g)

-- one more turn of the actor
eqb_is : (a b : ℕ) → a ≡ b → (a == b) ≡ true
eqb_is a b e = (Decides-eqb a b).1 e

module _ (k : ℕ) (turns : List Turn) (u : Turn) (by : u.actor ≡ k) where
  pub busy_now : busy k (turns ++ u ∷ []) ≡ (not u.ends && (u.begins || busy k turns))
  busy_now = busy-append k turns (u ∷ []) ∙ ap (λ b. cond b (not u.ends && (u.begins || busy k turns)) (busy k turns)) (eqb_is u.actor k by)

  pub ended_now : ended k (turns ++ u ∷ []) ≡ ended k turns + cond u.ends 1 0
  ended_now =
      let P : Bool → Type 0 = λ b. length (cond b (u ∷ []) []) ≡ cond b 1 0 in
      ended-append k turns (u ∷ []) ∙ ap (λ n. ended k turns + n)
      (ap (λ b. length (cond (b && u.ends) (u ∷ []) [])) (eqb_is u.actor k by) ∙ (elim u.ends as P [ true ↦ refl | false ↦ refl ]))

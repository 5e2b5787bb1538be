-- The look of a post, and its growing.
use Rattle.std.proofs.Common.{is_some, ◌≡◌, ℕ, ◌<◌, ◌≤◌, ◌∙◌, Bool, true, false, cond, Some, ap, sym, refl, arith, inl, inr, nat_lt}
use Rattle.std.proofs.lemmas.Bool.Decides.{nat_tests}
use Rattle.mi_tree.specs.declared.answers.Look.{Look}
use Rattle.mi_world.specs.View.{View}
use Rattle.mi_world.specs.Boards.{Looks}
use Rattle.mi_blink.specs.declared.post.Post.{Post}
use Rattle.mi_blink.specs.declared.post.PostState.TheVariants.{Looking, Posting, Widening, Growing}
use Rattle.mi_blink.specs.declared.post.PostTurn.TheVariants.{More}
use Rattle.mi_blink.specs.Descents.{IsRoot}
use Rattle.mi_blink.specs.Posting.{Ready, Turned, after_look}
use Rattle.mi_blink.proofs.DescentLemmas.{descent_longest, falls_by}
use Rattle.mi_blink.proofs.PostLemmas.{goes_on, on}

below : (a b : ℕ) → a < b → nat_lt a b ≡ true
below a b h = grind (arith, nat_tests)

not_below : (a b : ℕ) → b ≤ a → nat_lt a b ≡ false
not_below a b h = grind (arith, nat_tests)

at_least : (b : Bool) → 2 ≤ cond b 4 2
at_least true = omega arith
at_least false = omega arith

-- where a look leads
stays_up : (look : Look) (level : ℕ) (w : View) → level ≤ look.height → Posting look.root ≡ after_look look level w
stays_up look level w h = ap (λ b. cond b (cond (is_some w.fresh) Growing Widening) (Posting look.root)) (sym (not_below look.height level h))

is_low : (look : Look) (level : ℕ) (w : View) → look.height < level → (b : Bool) → is_some w.fresh ≡ b → cond b Growing Widening ≡ after_look look level w
is_low look level w h b f = ap (λ b. cond b Growing Widening) (sym f) ∙ ap (λ b. cond b (cond (is_some w.fresh) Growing Widening) (Posting look.root)) (sym (below look.height level h))

module _ (op : Post) (v w : View) (look : Look) (ready : Ready op v) (state : op.state ≡ Looking) (k : Looks v w look) where
  root : IsRoot w look.root
  root = record { named = k.tells.named; low_is = k.tells.low_is; small = rw k.tells.level_is k.tells.low_height }

  pub looks_up : op.level ≤ look.height → Turned op v More (record { level = op.level; key = op.key; child = op.child; state = Posting look.root; waiting = op.waiting; root = Some look.root }) w
  looks_up h = goes_on op v w Looking (Posting look.root) (Some look.root) ready state k.later k.same.work k.same.owes root (ap Some k.tells.root_is)
      (record { named = k.tells.named; above = rw k.tells.level_is h; small = rw k.tells.level_is k.tells.low_height; low_is = rw k.tells.low_is (omega arith) }) tt
      (λ _. falls_by v w _ _ k.later k.same.fresh (omega (arith, descent_longest w look.root, at_least (nat_lt v.least op.level))))
      (ap Some k.tells.root_is, inl (ap Posting k.tells.root_is)) (look, k, on op (Posting look.root) (after_look look op.level w) (Some look.root) (stays_up look op.level w h))

  four : look.height < op.level → 4 ≤ cond (nat_lt v.least op.level) 4 2
  four h =
      let small : v.least < op.level = omega (arith, k.later.least, k.tells.least_height, h) in
      grind (arith, nat_tests)

  pub looks_wide : look.height < op.level → is_some w.fresh ≡ false → Turned op v More (record { level = op.level; key = op.key; child = op.child; state = Widening; waiting = op.waiting; root = Some look.root }) w
  looks_wide h f = goes_on op v w Looking Widening (Some look.root) ready state k.later k.same.work k.same.owes root (ap Some k.tells.root_is) f (rw (← k.tells.height_is) h, f)
      (λ _. falls_by v w _ _ k.later k.same.fresh (omega (arith, four h)))
      (ap Some k.tells.root_is, inr (rw (← k.tells.height_is) h))
      (look, k, on op Widening (after_look look op.level w) (Some look.root) (is_low look op.level w h false f))

  pub looks_grown : look.height < op.level → is_some w.fresh ≡ true → Turned op v More (record { level = op.level; key = op.key; child = op.child; state = Growing; waiting = op.waiting; root = Some look.root }) w
  looks_grown h f = goes_on op v w Looking Growing (Some look.root) ready state k.later k.same.work k.same.owes root (ap Some k.tells.root_is) f tt
      (λ _. falls_by v w _ _ k.later k.same.fresh (omega (arith, four h)))
      (ap Some k.tells.root_is, inr (rw (← k.tells.height_is) h))
      (look, k, on op Growing (after_look look op.level w) (Some look.root) (is_low look op.level w h true f))

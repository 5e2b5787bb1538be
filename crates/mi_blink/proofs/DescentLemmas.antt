-- Descents and budgets from section to section.
use Rattle.std.proofs.Common.{◌≡◌, ℕ, ◌+◌, ◌*◌, ◌<◌, ◌≤◌, true, false, IsTrue, Some, None, Option, refl, ap, ◌∙◌, arith, inl, inr}
use Rattle.std.specs.Prelude.{is_some, IfSome}
use Rattle.std.proofs.Math.Nat.{mul-le-mul_right}
use Rattle.mi_world.specs.View.{View, Later}
use Rattle.mi_world.specs.Pages.{GoesDown, GoesRight}
use Rattle.mi_blink.specs.Descents.{keys, descent, longest, budget, Falls, IsRoot, Stands, Reached}

pub descent_longest : (v : View) (p : ℕ) → descent v p ≤ longest
unfolding descent longest keys
descent_longest v p = omega arith

-- a section that leads down, or to the right, leaves less
pub down_less : (v w : View) (p q sought key : ℕ) → v.level p ≤ 5 → GoesDown v w p q sought key → descent w q < descent v p
unfolding descent keys
down_less v w p q sought key h d = omega (arith, h, d.level_is)

pub right_less : (v w : View) (p q sought key : ℕ) → GoesRight v w p q sought key → descent w q < descent v p
unfolding descent keys
right_less v w p q sought key d = rw d.level_is (omega (arith, d.after, d.small))

-- what was named stays as it was
pub descent_keeps : (v w : View) (p : ℕ) → Later v w → IsTrue (v.named p) → descent w p ≡ descent v p
unfolding descent
descent_keeps v w p l n = rw (l.level p n, l.low p n) refl

pub reached_keeps : (v w : View) (p sought key : ℕ) → Later v w → Reached v p sought key → Reached w p sought key
reached_keeps v w p sought key l h = record {
  named = l.named p h.named;
  level_is = l.level p h.named ∙ h.level_is;
  small = rw (l.level p h.named) h.small;
  low_is = rw (l.low p h.named) h.low_is;
}

pub stands_keeps : (v w : View) (p sought key : ℕ) → Later v w → Stands v p sought key → Stands w p sought key
stands_keeps v w p sought key l h = record {
  named = l.named p h.named;
  above = rw (l.level p h.named) h.above;
  small = rw (l.level p h.named) h.small;
  low_is = rw (l.low p h.named) h.low_is;
}

pub root_keeps : (v w : View) (p : ℕ) → Later v w → IsRoot v p → IsRoot w p
root_keeps v w p l h = record {
  named = l.named p h.named;
  low_is = l.low p h.named ∙ h.low_is;
  small = rw (l.level p h.named) h.small;
}

pub some_root_keeps : (v w : View) (r : Option ℕ) → Later v w → IfSome r (IsRoot v) → IfSome r (IsRoot w)
some_root_keeps v w None l h = tt
some_root_keeps v w (Some p) l h = root_keeps v w p l h

-- where an answer leads
pub stands_down : (v w : View) (p q sought key : ℕ) → v.level p ≤ 5 → GoesDown v w p q sought key → Stands w q sought key
stands_down v w p q sought key h d = record { named = d.named; above = omega (arith, d.above, d.level_is); small = omega (arith, h, d.level_is); low_is = d.low_is }

pub stands_right : (v w : View) (p q sought key : ℕ) → v.level p ≤ 5 → GoesRight v w p q sought key → Stands w q sought key
stands_right v w p q sought key h d = record {
  named = d.named;
  above = omega (arith, d.reached, d.level_is);
  small = omega (arith, h, d.level_is);
  low_is = d.low_is;
}

pub stands_at : (v : View) (p sought key : ℕ) → Reached v p sought key → Stands v p sought key
stands_at v p sought key h = record { named = h.named; above = omega (arith, h.level_is); small = h.small; low_is = h.low_is }

-- the budget never rises, and falls with each allot and each use of a fresh page
pub budget_stays : (v w : View) → Later v w → w.fresh ≡ v.fresh → budget w ≤ budget v
budget_stays v w l e = rw (e, ap (λ c. c.pages) l.settings) (omega (arith, l.allotted))

pub budget_allots : (v w : View) → Later v w → is_some v.fresh ≡ false → is_some w.fresh ≡ true → v.allotted < w.allotted → w.allotted ≤ w.settings.pages → budget w < budget v
budget_allots v w l e f less few =
    let same : w.settings.pages ≡ v.settings.pages = ap (λ c. c.pages) l.settings in
    rw (e, f) (omega (arith, same, less, few))

pub budget_uses : (v w : View) → Later v w → is_some v.fresh ≡ true → is_some w.fresh ≡ false → budget w < budget v
budget_uses v w l e f =
    let same : w.settings.pages ≡ v.settings.pages = ap (λ c. c.pages) l.settings in
    rw (e, f) (omega (arith, same, l.allotted))

pub falls_by : (v w : View) (x y : ℕ) → Later v w → w.fresh ≡ v.fresh → y < x → Falls v x w y
falls_by v w x y l e h = inr (budget_stays v w l e, h)

pub falls_beside : (v w : View) (x y k m : ℕ) → m ≤ k → Falls v x w y → Falls v (x + k) w (y + m)
falls_beside v w x y k m e (inl h) = inl h
falls_beside v w x y k m e (inr h) = inr (h.0, omega (arith, h.1, e))

-- so many times the budget outweighs what is less than that
times : (a b k : ℕ) → a < b → a * k + k ≤ b * k
times a b k h = let m : (a + 1) * k ≤ b * k = mul-le-mul_right k (omega (arith, h)) in omega (arith, m)

pub falls_pack : (v w : View) (x y most : ℕ) → Falls v x w y → y < most → budget w * most + y < budget v * most + x
falls_pack v w x y most (inl h) less = let t = times (budget w) (budget v) most h in omega (arith, t, less)
falls_pack v w x y most (inr h) less = let t : budget w * most ≤ budget v * most = mul-le-mul_right most h.0 in omega (arith, t, h.1)

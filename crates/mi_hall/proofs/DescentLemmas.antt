-- Where a section of a page leads on, as one has it who knows a part of what all share.
use Rattle.std.proofs.Common.{◌≡◌, ℕ, ◌+◌, ◌<◌, ◌≤◌, ◌^◌, IsTrue, sym, ap, ◌∙◌, subst, arith, Some, None}
use Rattle.std.proofs.lemmas.Bool.{false≢true}
use Rattle.mi_world.specs.View.{View}
use Rattle.mi_world.specs.Pages.{GoesDown, GoesRight, HasTaken, IsBelow, IsFullPage, IsReached, ReadsTo}
use Rattle.mi_hall.specs.Knowledge.{Knowledge, Knows, is_named, level_of, low_of, view_by}
use Rattle.mi_hall.proofs.KnowledgeLemmas.{known}

-- a known page, and the same page noted
module _ (v w : View) (n m : Knowledge) (k : Knows v n) (i : Knows w m) (high_is : m.high ≡ w.high) (page : ℕ) (here : IsTrue (is_named n.pages page)) where
  level_is : v.level page ≡ level_of n.pages page
  level_is = (known v n.pages k.pages page here).1

  low_is : v.low page ≡ low_of n.pages page
  low_is = (known v n.pages k.pages page here).2

  module _ (p : ℕ) (named : IsTrue (is_named m.pages p)) where
    level_now : w.level p ≡ level_of m.pages p
    level_now = (known w m.pages i.pages p named).1

    low_now : w.low p ≡ low_of m.pages p
    low_now = (known w m.pages i.pages p named).2

    pub goes_down : (sought key : ℕ) → GoesDown v w page p sought key → GoesDown (view_by n v) (view_by m w) page p sought key
    goes_down sought key x = record {
      above = subst (λ l. sought < l) level_is x.above;
      named = named;
      level_is = ap (λ l. l + 1) (sym level_now) ∙ x.level_is ∙ level_is;
      low_is = subst (λ l. l ≤ key) low_now x.low_is;
    }

    pub goes_right : (sought key : ℕ) → GoesRight v w page p sought key → GoesRight (view_by n v) (view_by m w) page p sought key
    goes_right sought key x = record {
      reached = sym level_is ∙ x.reached;
      named = named;
      level_is = sym level_now ∙ x.level_is ∙ level_is;
      low_is = subst (λ l. l ≤ key) low_now x.low_is;
      after = omega (arith, x.after, low_is, low_now);
      small = subst (λ l. l < 2 ^ 128) low_now x.small;
      high_is = high_is ∙ x.high_is ∙ ap Some low_now;
    }

    pub reads_some : (to : ℕ) → ReadsTo v w page to (Some p) → ReadsTo (view_by n v) (view_by m w) page to (Some p)
    reads_some to x = (
      named,
      sym level_now ∙ x.1,
      subst (λ l. l ≤ to) low_now x.2,
      omega (arith, x.3, low_is, low_now),
      subst (λ l. l < 2 ^ 128) low_now x.4,
      high_is ∙ x.5 ∙ ap Some low_now,
    )

  pub is_reached : (sought key : ℕ) → IsReached v w page sought key → IsReached (view_by n v) (view_by m w) page sought key
  is_reached sought key x = record { reached = sym level_is ∙ x.reached; below_high = subst (IsBelow key) (sym high_is) x.below_high }

  pub reads_none : (to : ℕ) → ReadsTo v w page to None → ReadsTo (view_by n v) (view_by m w) page to None
  reads_none to x = subst (IsBelow to) (sym high_is) x

-- which pages are full isn't told, but that of a page in hand
module _ (v w : View) (n m : Knowledge) (items_are : m.items ≡ w.items) (page : ℕ) where
  pub full_page : IsFullPage v w page → IsFullPage (view_by n v) (view_by m w) page
  full_page x = record { many = items_are ∙ x.many; was_full = λ e. absurd (false≢true e); told_full = λ e. absurd (false≢true e) }

  pub has_taken : HasTaken v w page → HasTaken (view_by n v) (view_by m w) page
  has_taken x = record { some = subst (λ l. 1 ≤ l) (sym items_are) x.some; few = subst (λ l. l ≤ 32) (sym items_are) x.few; was_roomy = λ e. absurd (false≢true e) }

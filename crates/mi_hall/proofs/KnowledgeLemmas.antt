-- What an actor knows lasts, and what a view tells of it.
use Rattle.std.proofs.Common.{◌≡◌, ℕ, ◌==◌, ◌||◌, ◌++◌, ◌∷◌, [], List, Bool, true, false, cond, IsTrue, refl, sym, ap, ◌∙◌, subst, arith, eqb-true}
use Rattle.std.specs.List.{AllByRecursion}
use Rattle.std.proofs.lemmas.Bool.{false≢true}
use Rattle.mi_core.specs.Named.{Named}
use Rattle.mi_tree.proofs.GrowingLemmas.{grows_none, grows_on}
use Rattle.mi_world.specs.View.{Later, SeesBoard, View}
use Rattle.mi_hall.specs.Knowledge.{IsShown, Knowledge, Knows, Learns, is_named, level_of, low_of, reading, seeing, view_by}

-- a known page, as it is
module _ (w : View) where
  pub known : (names : List Named) → AllByRecursion (IsShown w) names → (p : ℕ) → IsTrue (is_named names p)
      → IsTrue (w.named p) × (w.level p ≡ level_of names p) × (w.low p ≡ low_of names p)
  known [] h p e = absurd (false≢true e)
  known (x ∷ names) h p e =
      let P : Bool → Type 0 = λ b. x.page == p ≡ b → IsTrue (b || is_named names p) → IsTrue (w.named p) × (w.level p ≡ cond b x.level (level_of names p)) × (w.low p ≡ cond b x.low (low_of names p)) in
      (elim (x.page == p) as P [
        | true ↦ λ same _. let is = eqb-true x.page p same in (subst (λ i. IsTrue (w.named i)) is h.0.named, ap w.level (sym is) ∙ h.0.level, ap w.low (sym is) ∙ h.0.low)
        | false ↦ λ _ later. known names h.1 p later
      ]) refl e

-- pages that were named before are named
pub more_named : (names more : List Named) (p : ℕ) → IsTrue (is_named more p) → IsTrue (is_named (names ++ more) p)
more_named [] more p e = e
more_named (x ∷ names) more p e =
    let P : Bool → Type 0 = λ b. IsTrue (b || is_named (names ++ more) p) in
    elim (x.page == p) as P [ true ↦ refl | false ↦ more_named names more p e ]

pub first_named : (names more : List Named) (p : ℕ) → IsTrue (is_named names p) → IsTrue (is_named (names ++ more) p)
first_named [] more p e = absurd (false≢true e)
first_named (x ∷ names) more p e =
    let P : Bool → Type 0 = λ b. IsTrue (b || is_named names p) → IsTrue (b || is_named (names ++ more) p) in
    (elim (x.page == p) as P [ true ↦ λ _. refl | false ↦ λ later. first_named names more p later ]) e

pub all_named : (w : View) (names more : List Named) → AllByRecursion (IsShown w) names → AllByRecursion (IsShown w) more → AllByRecursion (IsShown w) (names ++ more)
all_named w [] more h i = i
all_named w (x ∷ names) more h i = (h.0, all_named w names more h.1 i)

pub still_named : (v w : View) → Later v w → (names : List Named) → AllByRecursion (IsShown v) names → AllByRecursion (IsShown w) names
still_named v w l [] h = tt
still_named v w l (x ∷ names) h =
    let i = h.0 in
    (record { named = l.named x.page i.named; level = l.level x.page i.named ∙ i.level; low = l.low x.page i.named ∙ i.low }, still_named v w l names h.1)

-- what is learned stays true
pub later_by : (v w : View) (n m : Knowledge) → Knows v n → Knows w m → Learns n m → Later v w → Later (view_by n v) (view_by m w)
later_by v w n m k i g l = record {
  settings = l.settings;
  actor = l.actor;
  grows = g.seen;
  few = λ _. i.few;
  lacked = l.lacked;
  told = g.told;
  named = g.pages;
  level = λ p e. let x = known v n.pages k.pages p e in let y = known w m.pages i.pages p (g.pages p e) in sym y.1 ∙ l.level p x.0 ∙ x.1;
  low = λ p e. let x = known v n.pages k.pages p e in let y = known w m.pages i.pages p (g.pages p e) in sym y.2 ∙ l.low p x.0 ∙ x.2;
  least = g.least;
  tells_full = refl;
  allotted = g.allotted;
  given = g.given;
}

module _ (v w : View) (n : Knowledge) (k : Knows v n) (l : Later v w) (names : List Named) (shown : AllByRecursion (IsShown w) names) where
  all_shown : AllByRecursion (IsShown w) (names ++ n.pages)
  all_shown = all_named w names n.pages shown (still_named v w l n.pages k.pages)

  -- a section of the board
  pub knows_seeing : SeesBoard w → (told : Bool) → (IsTrue told → IsTrue w.told) → Knows w (seeing w told names n)
  knows_seeing b told so = record {
    seen = grows_none w.seen;
    few = b.legal.few;
    told = so;
    pages = all_shown;
    first = more_named names n.pages 0 k.first;
    least = omega arith;
    allotted = omega arith;
    given = omega arith;
  }

  pub learns_seeing : (told : Bool) → (IsTrue n.told → IsTrue told) → Learns n (seeing w told names n)
  learns_seeing told so = record {
    seen = grows_on n.seen v.seen w.seen k.seen l.grows;
    told = so;
    pages = more_named names n.pages;
    least = omega (arith, k.least, l.least);
    allotted = omega (arith, k.allotted, l.allotted);
    given = omega (arith, k.given, l.given);
  }

  -- a section of a page
  pub knows_reading : Knows w (reading w names n)
  knows_reading = record {
    seen = grows_on n.seen v.seen w.seen k.seen l.grows;
    few = omega (arith, k.few, ap (λ c. c.updates) l.settings);
    told = λ e. l.told (k.told e);
    pages = all_shown;
    first = more_named names n.pages 0 k.first;
    least = omega (arith, k.least, l.least);
    allotted = omega (arith, k.allotted, l.allotted);
    given = omega (arith, k.given, l.given);
  }

  pub learns_reading : Learns n (reading w names n)
  learns_reading = record {
    seen = grows_none n.seen;
    told = λ e. e;
    pages = more_named names n.pages;
    least = omega arith;
    allotted = omega arith;
    given = omega arith;
  }

pub learns_on : (n m o : Knowledge) → Learns n m → Learns m o → Learns n o
learns_on n m o a b = record {
  seen = grows_on n.seen m.seen o.seen a.seen b.seen;
  told = λ e. b.told (a.told e);
  pages = λ p e. b.pages p (a.pages p e);
  least = omega (arith, a.least, b.least);
  allotted = omega (arith, a.allotted, b.allotted);
  given = omega (arith, a.given, b.given);
}

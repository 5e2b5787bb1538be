-- The replies of a run whose scripts have all ended, and its log, are legal.
use Rattle.std.proofs.Common.{◌≡◌, ◌≢◌, ℕ, zero, suc, ◌+◌, ◌<◌, ◌≤◌, List, [], ◌∷◌, ◌++◌, length, Option, Some, None, refl, sym, ap, ◌∙◌, subst, arith, inl, inr}
use Rattle.std.specs.Prelude.{slice_get, MatchOption}
use Rattle.std.specs.List.{AllByRecursion}
use Rattle.std.proofs.lemmas.Option.{none-some}
use Rattle.std.proofs.lemmas.Bool.Decides.{eqb_tells}
use Rattle.mi_base.specs.declared.records.LogEvent.{LogEvent}
use Rattle.mi_base.specs.declared.records.Op.{Op}
use Rattle.mi_base.specs.declared.records.Op.TheVariants.{Insert}
use Rattle.mi_base.specs.declared.records.Reply.{Reply}
use Rattle.mi_base.specs.declared.records.Reply.TheVariants as reply
use Rattle.mi_base.specs.Configuration.{Configuration}
use Rattle.mi_base.specs.History.{updates_of}
use Rattle.mi_core.specs.Actors.{made_by}
use Rattle.mi_core.specs.Kept.{Kept}
use Rattle.mi_core.specs.State.{State}
use Rattle.mi_legal.specs.Legal.{AllEntered, AllRight, EachRight, NeverFalls, accepted_in, reach}
use Rattle.mi_legal.specs.Right.{Right}
use Rattle.mi_legal.proofs.ReplyLemmas.{full_stays, reach_grows, right_grows}
use Rattle.mi_tree.specs.Growing.{Grows}
use Rattle.mi_tree.proofs.GrowingLemmas.{grows_length}
use Rattle.mi_settle.specs.Turns.{Chained, Turn}
use Rattle.mi_replay.specs.Operations.{Operations}
use Rattle.mi_replay.proofs.OrderLemmas.{later_after, later_between, some_turn}
use Rattle.mi_settle.proofs.LaterLemmas.{later_head}

-- what is right where so many pages are allotted is right where others are, if all are where all were
allotted_on : (c : Configuration) (log : List LogEvent) (few more k j : ℕ) (o : Op) (y : Reply) → (few ≡ c.pages → more ≡ c.pages) → Right c log few k j o y → Right c log more k j o y
allotted_on c log few more k j (Insert id vector) (reply.NoPages limit) all h = (h.0, all h.1)
allotted_on c log few more k j o y all h = h

right_now : (c : Configuration) (log new : List LogEvent) (few more k j : ℕ) (o : Op) (y : Reply) → Grows log new → length (updates_of new) ≤ c.updates → (few ≡ c.pages → more ≡ c.pages)
    → Right c log few k j o y → Right c new more k j o y
right_now c log new few more k j o y g within all right =
    let stays : Right c (log ++ g.by) few k j o y = right_grows c log g.by few k j o y (full_stays c log g.by (subst (λ (l : List LogEvent). length (updates_of l) ≤ c.updates) g.is within)) right in
    allotted_on c new few more k j o y all (subst (λ (l : List LogEvent). Right c l few k j o y) (sym g.is) stays)

within_turn : (s : State) (turns : List Turn) (t : State) (i : ℕ) (u : Turn) → Kept s → Chained s turns t → slice_get turns i ≡ Some u → length u.before.board.log ≤ length u.after.board.log
within_turn s [] t i u k h at = absurd (none-some u at)
within_turn s (v ∷ us) t zero u k h at =
    subst (λ (x : Turn). length x.before.board.log ≤ length x.after.board.log) (some_turn v u at)
    (omega (arith, grows_length s.board.log v.after.board.log (later_head s v us t k h).grows, ap (λ (x : State). length x.board.log) h.0))
within_turn s (v ∷ us) t (suc i) u k h at = within_turn v.after us t i u (later_head s v us t k h).kept h.2 at

below : (i j : ℕ) → i ≤ j → i ≢ j → i < j
below i j le apart = omega (arith, le, apart)

module _ (c : Configuration) (s t : State) (turns : List Turn) (kept : Kept s) (chained : Chained s turns t) where
  over_turns : (i j : ℕ) (u v : Turn) → slice_get turns i ≡ Some u → slice_get turns j ≡ Some v → i ≤ j → length u.before.board.log ≤ length v.after.board.log
  over_turns i j u v at_u at_v le = elim (eqb_tells i j) [
    | inl e ↦
        let same : u ≡ v = some_turn u v (sym at_u ∙ ap (slice_get turns) e.1 ∙ at_v) in
        subst (λ (x : Turn). length u.before.board.log ≤ length x.after.board.log) same (within_turn s turns t i u kept chained at_u)
    | inr e ↦
        let g = (later_between t s turns i j u v kept chained at_u at_v (below i j le e.1)).grows in
        omega (arith, within_turn s turns t i u kept chained at_u, within_turn s turns t j v kept chained at_v, grows_length u.after.board.log v.before.board.log g)
  ]

  pub each_right : t.board.settings ≡ c → length (updates_of t.board.log) ≤ c.updates → (k j from to : ℕ) (os : List Op) (ys : List Reply) → Operations c turns k j from to os ys → length ys ≡ length os
      → EachRight c t.board.log t.board.allotted k j os ys
  each_right of few k j from to [] [] ops same = tt
  each_right of few k j from to (o ∷ os) [] ops same = absurd (omega (arith, same))
  each_right of few k j from to [] (y ∷ ys) ops same = absurd ops
  each_right of few k j from to (o ∷ os) (y ∷ ys) ops same =
      let x = ops.0 in
      let a = x.end.turn.after.board in
      let l = later_after t s turns x.last x.end.turn kept chained x.end.at in
      let was : a.settings ≡ c = sym l.settings ∙ of in
      let all : a.allotted ≡ c.pages → t.board.allotted ≡ c.pages = λ e. l.full (e ∙ ap (λ (z : Configuration). z.pages) (sym was)) ∙ ap (λ (z : Configuration). z.pages) of in (
        right_now c a.log t.board.log a.allotted t.board.allotted k j o y l.grows few all x.right,
        each_right of few k (j + 1) (x.last + 1) to os ys ops.2 (omega (arith, same)),
      )

  falls_by : (log : List LogEvent) (low : ℕ) (ys : List Reply) (r : Option ℕ) (a b : ℕ) → low ≤ a → MatchOption r (Unit {0}) (λ n. (a ≤ n) × (n ≤ b))
      → ((m : ℕ) → m ≤ b → NeverFalls log m ys) → low ≤ b → MatchOption r (NeverFalls log low ys) (λ n. (low ≤ n) × NeverFalls log n ys)
  falls_by log low ys None a b le h next under = next low under
  falls_by log low ys (Some n) a b le h next under = (omega (arith, le, h.0), next n h.1)

  pub never_falls : (k j from to : ℕ) (os : List Op) (ys : List Reply) (low : ℕ) → Operations c turns k j from to os ys
      → ((i : ℕ) (u : Turn) → from ≤ i → slice_get turns i ≡ Some u → low ≤ length u.before.board.log) → NeverFalls t.board.log low ys
  never_falls k j from to os [] low ops under = tt
  never_falls k j from to [] (y ∷ ys) low ops under = absurd ops
  never_falls k j from to (o ∷ os) (y ∷ ys) low ops under =
      let x = ops.0 in
      let last = x.end.turn.after.board in
      let a = length x.begin.turn.before.board.log in
      let b = length last.log in
      let g = (later_after t s turns x.last x.end.turn kept chained x.end.at).grows in
      let same : reach t.board.log y ≡ reach last.log y = ap (λ l. reach l y) g.is ∙ reach_grows c last.log g.by last.allotted k j o y x.right in
      let le : low ≤ a = under x.first x.begin.turn ops.1 x.begin.at in
      let next : (m : ℕ) → m ≤ b → NeverFalls t.board.log m ys = λ m small. never_falls k (j + 1) (x.last + 1) to os ys m ops.2
      (λ i u later at.
      let d = (later_between t s turns x.last i x.end.turn u kept chained x.end.at at (omega (arith, later))).grows in
      omega (arith, small, grows_length last.log u.before.board.log d)) in
      subst (λ (r : Option ℕ). MatchOption r (NeverFalls t.board.log low ys) (λ n. (low ≤ n) × NeverFalls t.board.log n ys)) (sym same)
      (falls_by t.board.log low ys (reach last.log y) a b le x.tells next (omega (arith, le, over_turns x.first x.last x.begin.turn x.end.turn x.begin.at x.end.at x.order)))

-- facts of each session, as the definition of a legal outcome has them
pub all_right : (c : Configuration) (log : List LogEvent) (allotted n : ℕ) (scripts : List (List Op)) (yss : List (List Reply)) → length yss ≡ length scripts
    → ((j : ℕ) (os : List Op) (ys : List Reply) → slice_get scripts j ≡ Some os → slice_get yss j ≡ Some ys → EachRight c log allotted (n + j) 1 os ys) → AllRight c log allotted n scripts yss
all_right c log allotted n [] [] same each = tt
all_right c log allotted n (os ∷ scripts) [] same each = absurd (omega (arith, same))
all_right c log allotted n [] (ys ∷ yss) same each = absurd (omega (arith, same))
all_right c log allotted n (os ∷ scripts) (ys ∷ yss) same each = (
  subst (λ (m : ℕ). EachRight c log allotted m 1 os ys) (omega arith) (each 0 os ys refl refl),
  all_right c log allotted (n + 1) scripts yss (omega (arith, same)) (λ j p q a b. subst (λ (m : ℕ). EachRight c log allotted m 1 p q) (omega arith) (each (suc j) p q a b)),
)

pub all_entered : (log : List LogEvent) (n : ℕ) (scripts : List (List Op)) (yss : List (List Reply)) → length yss ≡ length scripts
    → ((j : ℕ) (os : List Op) (ys : List Reply) → slice_get scripts j ≡ Some os → slice_get yss j ≡ Some ys → made_by (n + j) log ≡ accepted_in (n + j) 1 os ys) → AllEntered log n scripts yss
all_entered log n [] yss same each = tt
all_entered log n (os ∷ scripts) [] same each = absurd (omega (arith, same))
all_entered log n (os ∷ scripts) (ys ∷ yss) same each = (
  subst (λ (m : ℕ). made_by m log ≡ accepted_in m 1 os ys) (omega arith) (each 0 os ys refl refl),
  all_entered log (n + 1) scripts yss (omega (arith, same)) (λ j p q a b. subst (λ (m : ℕ). made_by m log ≡ accepted_in m 1 p q) (omega arith) (each (suc j) p q a b)),
)

pub all_from : {X : Type 0} (P : X → Type 0) (xs : List X) → ((j : ℕ) (x : X) → slice_get xs j ≡ Some x → P x) → AllByRecursion P xs
all_from P [] each = tt
all_from P (x ∷ xs) each = (each 0 x refl, all_from P xs (λ j y at. each (suc j) y at))

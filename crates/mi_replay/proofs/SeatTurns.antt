-- Lists of turns that go on.
use Rattle.std.proofs.Common.{◌≡◌, ℕ, ◌+◌, ◌≤◌, List, [], ◌∷◌, ◌++◌, length, Option, Some, None, refl, sym, subst, arith, length-append}
use Rattle.std.specs.Prelude.{slice_get, MatchOption}
use Rattle.std.proofs.lemmas.Option.{slice_get_within}
use Rattle.mi_base.specs.declared.records.Op.{Op}
use Rattle.mi_base.specs.declared.records.Reply.{Reply}
use Rattle.mi_base.specs.Configuration.{Configuration}
use Rattle.mi_legal.proofs.ReplyLemmas.{slice_get-append}
use Rattle.mi_update.specs.Stepping.{number_told}
use Rattle.mi_settle.specs.Turns.{Turn}
use Rattle.mi_replay.specs.Operations.{EntersAt, EntersBetween, IsTurnOf, Operation, Operations}

pub at_last : {X : Type 0} (xs : List X) (x : X) → slice_get (xs ++ x ∷ []) (length xs) ≡ Some x
at_last [] x = refl
at_last (y ∷ ys) x = at_last ys x

pub not_past : (turns : List Turn) (u : Turn) (place : ℕ) (x : Turn) → slice_get (turns ++ u ∷ []) place ≡ Some x → place ≤ length turns
not_past turns u place x at = omega (arith, slice_get_within (turns ++ u ∷ []) place x at, length-append turns (u ∷ []))

pub match_weaker : {X : Type 0} (P Q : X → Type 0) → ((x : X) → P x → Q x) → (o : Option X) → MatchOption o (Unit {0}) P → MatchOption o (Unit {0}) Q
match_weaker P Q imp None h = tt
match_weaker P Q imp (Some x) h = imp x h

module _ (turns more : List Turn) where
  abbrev pub turn_on : (k place : ℕ) → IsTurnOf turns k place → IsTurnOf (turns ++ more) k place
  turn_on k place b = record { turn = b.turn; at = slice_get-append turns more place b.turn b.at; by = b.by }

  pub enters_on : (k j : ℕ) (o : Op) (n place : ℕ) → EntersAt turns k j o n place → EntersAt (turns ++ more) k j o n place
  enters_on k j o n place e = record { of = turn_on k place e.of; number = e.number; is = e.is }

  abbrev pub operation_on : (c : Configuration) (k j : ℕ) (o : Op) (y : Reply) → Operation c turns k j o y → Operation c (turns ++ more) k j o y
  operation_on c k j o y x = record {
    first = x.first;
    last = x.last;
    order = x.order;
    begin = turn_on k x.first x.begin;
    begins = x.begins;
    end = turn_on k x.last x.end;
    ends = x.ends;
    right = x.right;
    tells = x.tells;
    pinned = x.pinned;
    enters = match_weaker (λ n. EntersBetween turns k j o x.first x.last n) (λ n. EntersBetween (turns ++ more) k j o x.first x.last n)
        (λ n h. record { place = h.place; from = h.from; to = h.to; at = enters_on k j o n h.place h.at }) (number_told y) x.enters;
  }

  pub operations_on : (c : Configuration) (k j from to : ℕ) (os : List Op) (ys : List Reply) → Operations c turns k j from to os ys → Operations c (turns ++ more) k j from to os ys
  operations_on c k j from to os [] h = h
  operations_on c k j from to (o ∷ os) (y ∷ ys) h = (operation_on c k j o y h.0, h.1, operations_on c k (j + 1) (h.0.last + 1) to os ys h.2)
  operations_on c k j from to [] (y ∷ ys) h = absurd h

-- one more operation
pub operations_more : (c : Configuration) (turns : List Turn) (k j from to i : ℕ) (os : List Op) (ys : List Reply) (o : Op) (y : Reply)
    → Operations c turns k j from to os ys → slice_get os (length ys) ≡ Some o → i ≡ j + length ys → (x : Operation c turns k i o y) → to ≤ x.first
    → Operations c turns k j from (x.last + 1) os (ys ++ y ∷ [])
operations_more c turns k j from to i [] [] o y h at num x later = absurd (omega (arith, slice_get_within ([]) 0 o at))
operations_more c turns k j from to i (p ∷ os) [] o y h at num x later =
    let same : p ≡ o = cc in
    let place : i ≡ j = omega (arith, num) in
    let P : ℕ → Op → Type 0 = λ n q. (z : Operation c turns k n q y) × (z.first ≡ x.first) × (z.last ≡ x.last) in
    let z : P j p = subst (λ q. P j q) (sym same) (subst (λ n. P n o) place (x, refl, refl)) in
    (z.0, omega (arith, h, later, z.1), omega (arith, z.2))
operations_more c turns k j from to i (p ∷ os) (z ∷ ys) o y h at num x later =
    (h.0, h.1, operations_more c turns k (j + 1) (h.0.last + 1) to i os ys o y h.2 at (omega (arith, num)) x later)
operations_more c turns k j from to i [] (z ∷ ys) o y h at num x later = absurd h

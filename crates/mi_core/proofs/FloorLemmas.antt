-- Floors, as pins and the log change.
use Rattle.std.proofs.Common.{◌≡◌, ℕ, suc, zero, ◌≤◌, List, [], ◌∷◌, get_or, set, Bool, true, false, cond, nat_le, refl, ap, arith, Option, Some, None}
use Rattle.std.proofs.lemmas.Bool.{leb-true}
use Rattle.std.proofs.lemmas.Bool.Decides.{nat_tests}
use Rattle.mi_base.specs.declared.records.Position.{Position}
use Rattle.mi_base.specs.History.{events_at}
use Rattle.mi_board.specs.Floors.{earlier, least_pin}
use Rattle.mi_board.proofs.FloorLemmas.{earlier_low, least_low}
use Rattle.mi_board.specs.Actors.{idle}
use Rattle.mi_board.specs.declared.actors.ActorState.{ActorState}

earlier_is : (P : Position → Type 0) (o : Option Position) (q : Position) → ((p : Position) → o ≡ Some p → P p) → P q → P (earlier o q)
earlier_is P None q h k = k
earlier_is P (Some p) q h k =
    let Q : Bool → Type 0 = λ b. P (cond b p q) in
    elim (nat_le (events_at p) (events_at q)) as Q [ true ↦ h p refl | false ↦ k ]

pub least_is : (P : Position → Type 0) (end : Position) (actors : List ActorState) → P end → ((i : ℕ) (p : Position) → (get_or actors i idle).pin ≡ Some p → P p) → P (least_pin end actors)
least_is P end [] e h = e
least_is P end (a ∷ actors) e h = earlier_is P a.pin (least_pin end actors) (λ p s. h 0 p s) (least_is P end actors e (λ i p s. h (suc i) p s))

earlier_rises : (o : Option Position) (q r : Position) → events_at q ≤ events_at r → events_at (earlier o q) ≤ events_at (earlier o r)
earlier_rises None q r le = le
earlier_rises (Some p) q r le =
    let Q : Bool → Bool → Type 0 = λ b c. nat_le (events_at p) (events_at q) ≡ b → nat_le (events_at p) (events_at r) ≡ c → events_at (cond b p q) ≤ events_at (cond c p r) in
    let go : (b c : Bool) → Q b c = elim [
      | true ↦ elim [ true ↦ λ s t. omega arith | false ↦ λ s t. omega (arith, leb-true (events_at p) (events_at q) s) ]
      | false ↦ elim [ true ↦ λ s t. not_le s | false ↦ λ s t. le ]
    ] in
    go (nat_le (events_at p) (events_at q)) (nat_le (events_at p) (events_at r)) refl refl
  where
    not_le : nat_le (events_at p) (events_at q) ≡ false → events_at q ≤ events_at p
    not_le s = grind (arith, nat_tests)

pub least_rises : (end higher : Position) (actors : List ActorState) → events_at end ≤ events_at higher → events_at (least_pin end actors) ≤ events_at (least_pin higher actors)
least_rises end higher [] le = le
least_rises end higher (a ∷ actors) le = earlier_rises a.pin (least_pin end actors) (least_pin higher actors) (least_rises end higher actors le)

-- an actor's pin stays
pub least_same : (f : ActorState → ActorState) → ((x : ActorState) → (f x).pin ≡ x.pin) → (end : Position) (actors : List ActorState) (a : ℕ) → least_pin end (set actors a (f (get_or actors a idle))) ≡ least_pin end actors
least_same f same end [] a = refl
least_same f same end (x ∷ actors) zero = ap (λ o. earlier o (least_pin end actors)) (same x)
least_same f same end (x ∷ actors) (suc a) = ap (earlier x.pin) (least_same f same end actors a)

-- a pin that ends
pub least_unpin : (f : ActorState → ActorState) → ((x : ActorState) → (f x).pin ≡ None) → (end : Position) (actors : List ActorState) (a : ℕ) → events_at (least_pin end actors) ≤ events_at (least_pin end (set actors a (f (get_or actors a idle))))
least_unpin f none end [] a = omega arith
least_unpin f none end (x ∷ actors) zero = omega (arith, earlier_low x.pin (least_pin end actors), ap (λ o. events_at (earlier o (least_pin end actors))) (none x))
least_unpin f none end (x ∷ actors) (suc a) = earlier_rises x.pin (least_pin end actors) (least_pin end (set actors a (f (get_or actors a idle)))) (least_unpin f none end actors a)

-- a pin at the end
pub least_pinned : (f : ActorState → ActorState) (end : Position) → ((x : ActorState) → (f x).pin ≡ Some end) → (actors : List ActorState) (a : ℕ) → (get_or actors a idle).pin ≡ None
    → events_at (least_pin end actors) ≤ events_at (least_pin end (set actors a (f (get_or actors a idle))))
least_pinned f end some [] a none = omega arith
least_pinned f end some (x ∷ actors) zero none =
    let X : Position = least_pin end actors in
    let Q : Bool → Type 0 = λ b. events_at X ≤ events_at (cond b end X) in
    let low : events_at X ≤ events_at (earlier (Some end) X) = elim (nat_le (events_at end) (events_at X)) as Q [ true ↦ least_low end actors | false ↦ omega arith ] in
    omega (arith, low, ap (λ o. events_at (earlier o X)) none, ap (λ o. events_at (earlier o X)) (some x))
least_pinned f end some (x ∷ actors) (suc a) none = earlier_rises x.pin (least_pin end actors) (least_pin end (set actors a (f (get_or actors a idle)))) (least_pinned f end some actors a none)

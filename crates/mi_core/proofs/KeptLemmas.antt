-- What follows from what is kept.
use Rattle.std.proofs.Common.{◌≡◌, ℕ, suc, zero, ◌<◌, ◌≤◌, List, [], ◌∷◌, ◌++◌, length, get_or, ◌||◌, refl, sym, ap, ◌∙◌, subst, arith, Option, Some, None, inl, inr, length-append}
use Rattle.std.specs.Prelude.{slice_get}
use Rattle.std.specs.List.{AllByRecursion, list_any}
use Rattle.std.proofs.lemmas.Bool.{cases_lt}
use Rattle.std.proofs.lemmas.List.Folds.{list_any-append}
use Rattle.std.proofs.lemmas.Option.{slice_get_within, slice_get-get_or, same_Some}
use Rattle.mi_base.specs.declared.records.LogEvent.{LogEvent}
use Rattle.mi_base.specs.declared.records.Position.{Position}
use Rattle.mi_base.specs.Configuration.{Configuration}
use Rattle.mi_base.specs.History.{IsPosition, at_position, end_of, events_at}
use Rattle.mi_tree.specs.Legal.{cells_of}
use Rattle.mi_core.specs.Actors.{Saw, pinned_at}
use Rattle.mi_tree.specs.Births.{is_split_of}
use Rattle.mi_core.specs.Claims.{AreRetired}
use Rattle.mi_board.specs.Boards.{floor_of, BoardState}
use Rattle.mi_board.specs.Actors.{idle}
use Rattle.mi_board.specs.declared.actors.ActorState.{ActorState}
use Rattle.mi_core.specs.Events.{made_actor}
use Rattle.mi_core.specs.Sound.{Sound}
use Rattle.mi_core.specs.Pages.{forest_of}
use Rattle.mi_forest.specs.Forests.{Forest, all_entries}
use Rattle.mi_forest.proofs.FlatLemmas.{flat_ascends}
use Rattle.mi_entries.proofs.AbsentLemmas.{Rising, rising}
use Rattle.mi_entries.specs.Actors.{Actor, Pin}
use Rattle.mi_core.specs.State.{State}
use Rattle.mi_core.proofs.FloorLemmas.{least_is}
use Rattle.mi_board.proofs.FloorLemmas.{at_more, end_position, position_more}

pub some_none : {X : Type 0} (b : X) → Some b ≡ None → ⊥
some_none b h = cc

pub all_snoc : {X : Type 0} (P : X → Type 0) (xs : List X) (x : X) → AllByRecursion P xs → P x → AllByRecursion P (xs ++ x ∷ [])
all_snoc P [] x h p = (p, tt)
all_snoc P (z ∷ xs) x h p = (h.0, all_snoc P xs x h.1 p)

-- a pin that the board has is a position of the log
pub pins_stand : (s : State) → Sound s → (i : ℕ) (p : Position) → (get_or s.board.actors i idle).pin ≡ Some p → IsPosition s.board.log p
pins_stand s k i p h = elim (cases_lt i (length s.actors)) [
  | inl lt ↦
      let r : Actor = get_or s.actors i (made_actor s.board (floor_of s.board)) in
      let suits = k.each i r (slice_get-get_or s.actors i (made_actor s.board (floor_of s.board)) lt) in
      let at : pinned_at r.pin ≡ Some p = sym suits.holds.pin ∙ h in
      let pin = pin_of r.pin p at in
      subst (IsPosition s.board.log) pin.2 ((suits.saw.pin pin.0 pin.1).0)
  | inr le ↦
      let none : get_or s.board.actors i idle ≡ idle = get_or_past s.board.actors i idle (omega (arith, k.counted)) in
      absurd (none_some p (sym (ap (λ (z : ActorState). z.pin) none) ∙ h))
]
  where
    none_some : (p : Position) → None ≡ Some p → ⊥
    none_some p e = cc

    pin_of : (o : Option Pin) (p : Position) → pinned_at o ≡ Some p → (q : Pin) × (o ≡ Some q) × (q.at ≡ p)
    pin_of None p e = absurd (none_some p e)
    pin_of (Some q) p e = (q, refl, same_Some q.at p e)

    get_or_past : {X : Type 0} (xs : List X) (i : ℕ) (d : X) → length xs ≤ i → get_or xs i d ≡ d
    get_or_past [] i d h = refl
    get_or_past (x ∷ xs) zero d h = absurd (omega arith)
    get_or_past (x ∷ xs) (suc i) d h = get_or_past xs i d (omega arith)

-- the floor is a position of the log
pub floor_position : (s : State) → Sound s → IsPosition s.board.log (floor_of s.board)
floor_position s k = least_is (IsPosition s.board.log) (end_of s.board.log) s.board.actors (end_position s.board.log) (pins_stand s k)

-- an actor has its place on the board
pub on_board : (s : State) → Sound s → (a : ℕ) (r : Actor) → slice_get s.actors a ≡ Some r → a < length s.board.actors
on_board s k a r there = omega (arith, k.counted, slice_get_within s.actors a r there)

-- the retired leaves as the log grows
pub retired_more : (log : List LogEvent) (x : LogEvent) (actors : List Actor) (ps : List (List ℕ)) → AreRetired log actors ps → AreRetired (log ++ x ∷ []) actors ps
retired_more log x actors [] h = tt
retired_more log x actors (p ∷ ps) h = (list_any-append (is_split_of p) log (x ∷ []) ∙ ap (λ z. z || list_any (is_split_of p) (x ∷ [])) h.0, h.1, h.2, retired_more log x actors ps h.3)

-- one more event of the log, to an actor that makes no section
pub saw_more : (b b' : BoardState) (x : LogEvent) → b'.settings ≡ b.settings → b'.log ≡ b.log ++ x ∷ [] → events_at (floor_of b) ≤ events_at (floor_of b') → (t : Actor) → Saw b t → Saw b' t
saw_more b b' x settings is rises t h = record {
  seen = (let n = h.seen in omega (arith, ap length is, length-append b.log (x ∷ [])));
  floor = subst (λ (l : List LogEvent). IsPosition l t.floor) (sym is) (position_more b.log (x ∷ []) t.floor h.floor);
  low = (let n = h.low in omega (arith, rises));
  pin = λ p its.
      let old = h.pin p its in (
        subst (λ (l : List LogEvent). IsPosition l p.at) (sym is) (position_more b.log (x ∷ []) p.at old.0),
        old.1 ∙ ap (λ (d : Configuration). cells_of d (at_position b.log p.at)) (sym settings) ∙ ap (cells_of b'.settings) (sym (at_more b.log (x ∷ []) p.at old.0) ∙ ap (λ (l : List LogEvent). at_position l p.at) (sym is)),
      );
}

-- the keys of all entries ascend
pub keys_rise : (s : State) (k : Sound s) → Rising (all_entries (forest_of s.board s.pages s.actors k.chain))
keys_rise s k = let f : Forest = forest_of s.board s.pages s.actors k.chain in rising (all_entries f) (flat_ascends f k.pages.forest)

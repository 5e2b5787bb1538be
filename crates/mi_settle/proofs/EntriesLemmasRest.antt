-- Where there is nothing to do for a splitter, no leaf is retired, and none is to be split.
use Rattle.std.proofs.Common.{◌≡◌, ◌≢◌, ℕ, suc, List, [], ◌∷◌, length, get_or, ◌&&◌, ◌||◌, Bool, true, false, cond, not, Option, Some, None, refl, sym, ap, ◌∙◌, arith, inl, inr}
use Rattle.std.specs.Prelude.{slice_get}
use Rattle.std.specs.List.{find, list_any}
use Rattle.std.proofs.lemmas.Bool.{cases_lt}
use Rattle.std.proofs.lemmas.List.{get_or_past}
use Rattle.std.proofs.lemmas.Option.{slice_get-get_or}
use Rattle.mi_base.specs.declared.records.LogEvent.{LogEvent}
use Rattle.mi_base.specs.declared.records.Position.{Position}
use Rattle.mi_base.specs.History.{at_position, end_of}
use Rattle.mi_tree.specs.declared.outcomes.Leaf.{Leaf}
use Rattle.mi_tree.specs.Cells.{same_cell}
use Rattle.mi_tree.specs.Counting.{is_wanted}
use Rattle.mi_tree.specs.Legal.{Settled, cells_of}
use Rattle.mi_board.specs.declared.actors.ActorState.{ActorState}
use Rattle.mi_board.specs.Actors.{idle, is_claim, is_claimed}
use Rattle.mi_board.specs.Boards.{BoardState, floor_of, is_open, is_passed, next_split, next_sweep}
use Rattle.mi_board.specs.Floors.{earlier, earliest_in, least_pin}
use Rattle.mi_board.proofs.FloorLemmas.{at_end}
use Rattle.mi_entries.specs.Actors.{Actor}
use Rattle.mi_core.specs.Actors.{pinned_at}
use Rattle.mi_core.specs.Claims.{AreRetired}
use Rattle.mi_core.specs.Events.{made_actor}
use Rattle.mi_core.specs.Sound.{Sound}
use Rattle.mi_core.specs.State.{State, board_actor}
use Rattle.mi_core.proofs.KeptLemmas.{some_none}
use Rattle.mi_settle.specs.Entries.{NoClaims, NoPins}

unpinned : (end : Position) (actors : List ActorState) → ((i : ℕ) → (get_or actors i idle).pin ≡ None) → least_pin end actors ≡ end
unpinned end [] h = refl
unpinned end (a ∷ actors) h = ap (λ o. earlier o (least_pin end actors)) (h 0) ∙ unpinned end actors (λ i. h (suc i))

unclaimed : (p : List ℕ) (actors : List ActorState) → ((i : ℕ) → (get_or actors i idle).claim ≡ None) → is_claimed p actors ≡ false
unclaimed p [] h = refl
unclaimed p (a ∷ actors) h = ap (λ o. is_claim p o || is_claimed p actors) (h 0) ∙ unclaimed p actors (λ i. h (suc i))

none_retired : (log : List LogEvent) (actors : List Actor) (ps : List (List ℕ)) → AreRetired log actors ps → earliest_in log ps ≡ None → ps ≡ []
none_retired log actors [] h e = refl
none_retired log actors (p ∷ ps) h e = absurd (some_none p (sym (ap (λ b. cond b (Some p) None) h.0) ∙ e))

found_none : (x : Bool) (leaf : Leaf) (r : Option Leaf) → cond x (Some leaf) r ≡ None → (x ≡ false) × (r ≡ None)
found_none true leaf r e = absurd (some_none leaf e)
found_none false leaf r e = (refl, e)

open_is : (w claimed passed : Bool) → claimed ≡ false → passed ≡ false → (w && (not claimed && not passed)) ≡ w
open_is true claimed passed c p = rw (c, p) refl
open_is false claimed passed c p = refl

none_wanted : (b : BoardState) (ls : List Leaf) → ((p : List ℕ) → is_claimed p b.actors ≡ false) → ((p : List ℕ) → is_passed p b ≡ false)
    → find (is_open b) ls ≡ None → list_any (is_wanted b.settings.levels b.settings.cell) ls ≡ false
none_wanted b [] claims passed e = refl
none_wanted b (l ∷ ls) claims passed e =
    let w : Bool = is_wanted b.settings.levels b.settings.cell l in
    let parts = found_none (is_open b l) l (find (is_open b) ls) e in
    let here : w ≡ false = sym (open_is w (is_claimed l.prefix b.actors) (is_passed l.prefix b) (claims l.prefix) (passed l.prefix)) ∙ parts.0 in
    ap (λ x. x || list_any (is_wanted b.settings.levels b.settings.cell) ls) here ∙ none_wanted b ls claims passed parts.1

none_passed : (pages allotted : ℕ) (ps : List (List ℕ)) → ((q : List ℕ) (qs : List (List ℕ)) → ps ≡ q ∷ qs → allotted ≡ pages) → allotted ≢ pages → ps ≡ []
none_passed pages allotted [] h n = refl
none_passed pages allotted (p ∷ ps) h n = absurd (n (h p ps refl))

module _ (s : State) (k : Sound s) where
  -- what no actor has, the board has of none
  on_board : {X : Type 0} (field : ActorState → Option X) → field idle ≡ None → ((a : ℕ) (r : Actor) → slice_get s.actors a ≡ Some r → field (board_actor s.board a) ≡ None)
      → (i : ℕ) → field (get_or s.board.actors i idle) ≡ None
  on_board field none each i = elim (cases_lt i (length s.actors)) [
    | inl lt ↦
        let d : Actor = made_actor s.board (floor_of s.board) in
        each i (get_or s.actors i d) (slice_get-get_or s.actors i d lt)
    | inr le ↦ ap field (get_or_past s.board.actors i idle (omega (arith, k.counted))) ∙ none
  ]

  no_pins : NoPins s → (i : ℕ) → (get_or s.board.actors i idle).pin ≡ None
  no_pins pins = on_board (λ x. x.pin) refl (λ a r there. (k.each a r there).holds.pin ∙ ap pinned_at (pins a r there))

  no_claims : NoClaims s → (i : ℕ) → (get_or s.board.actors i idle).claim ≡ None
  no_claims claims = on_board (λ x. x.claim) refl (λ a r there. (k.each a r there).holds.claim ∙ claims a r there)

  -- without pins the floor is the end of the log
  pub floor_is_end : NoPins s → floor_of s.board ≡ end_of s.board.log
  floor_is_end pins = unpinned (end_of s.board.log) s.board.actors (no_pins pins)

  pub nothing_retired : NoPins s → next_sweep s.board ≡ None → s.board.retired ≡ []
  nothing_retired pins next =
      let whole : at_position s.board.log (floor_of s.board) ≡ s.board.log = ap (at_position s.board.log) (floor_is_end pins) ∙ at_end s.board.log in
      none_retired s.board.log s.actors s.board.retired k.retired (sym (ap (λ l. earliest_in l s.board.retired) whole) ∙ next)

  pub nothing_passed : s.board.allotted ≢ s.board.settings.pages → s.board.passed_over ≡ []
  nothing_passed = none_passed s.board.settings.pages s.board.allotted s.board.passed_over k.pages.passed_over

  pub all_settled : NoClaims s → s.board.passed_over ≡ [] → next_split s.board ≡ None → Settled s.board.settings s.board.log
  all_settled claims passed next = none_wanted s.board (cells_of s.board.settings s.board.log) (λ p. unclaimed p s.board.actors (no_claims claims)) (λ p. ap (list_any (same_cell p)) passed) next

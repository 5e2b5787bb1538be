-- The sections of the board alone: what the seat gives back, and what it knows then.
use Rattle.std.proofs.Common.{◌≡◌, ℕ, ◌+◌, List, Bool, drop, Some, None, true, refl, sym, ap, ◌∙◌}
use Rattle.std.specs.Prelude.{slice_get, slice_set}
use Rattle.atomic_table.specs.Table.{rest}
use Rattle.mi_base.specs.Configuration.{Configuration}
use Rattle.mi_base.specs.History.{end_of}
use Rattle.mi_tree.specs.Legal.{cells_of}
use Rattle.mi_board.specs.Actors.{gone, with_claim, without_claim, without_pin}
use Rattle.mi_board.specs.Boards.{BoardState, given_up, leaf_claimed, pinned, prefix_or, with_actor, with_split}
use Rattle.mi_core.specs.Effects.{looked, saw}
use Rattle.mi_core.specs.Events.{Can, Event, after, leaf_or}
use Rattle.mi_core.specs.Events.Event.{see, look, refuse, pin, unpin, claim_leaf, release_leaf, allot, lack, publish, give_up, take_sweep, take_split, no_work, depart}
use Rattle.mi_core.specs.Kept.{Kept}
use Rattle.mi_core.specs.Refusals.{Refusal}
use Rattle.mi_core.specs.State.{State}
use Rattle.mi_core.proofs.ActorLemmas.{set_there}
use Rattle.mi_entries.specs.Actors.{Actor}
use Rattle.mi_entries.specs.Entries.{grid}
use Rattle.mi_entries.specs.Marks.{cell_range}
use Rattle.mi_latch.specs.declared.slots.Slot.TheVariants.{OfBoard}
use Rattle.mi_latch.specs.Boards.{Telling, seeing}
use Rattle.mi_latch.specs.Decided.{IsDecided, SameCause}
use Rattle.mi_latch.specs.Found.{FoundBoard, MayTell}
use Rattle.mi_latch.specs.Views.{Doing, Fits, HoldsLast, Mine, Seated, now}
use Rattle.mi_latch.proofs.BoardGives.{board_does}
use Rattle.mi_latch.proofs.BoardTold.{board_makes}

module _ (settings : Configuration) (m : Seated) (was : BoardState) (l : HoldsLast m 0 (OfBoard was)) (found : FoundBoard settings m.0.actor m.0.mine (rest m.0.out) was) (t : Telling) where
  abbrev a : ℕ
  a = m.0.actor

  abbrev mine : Mine
  mine = m.0.mine

  abbrev r : Actor
  r = m.0.mine.part

  abbrev s : State
  s = found.core

  -- the event can be in the state that the take found
  abbrev May : Event → Type 0
  May e = Can s a r e

  -- what this section of the board may tell
  abbrev Tells : BoardState → Type 0
  Tells board = MayTell a mine was board t

  -- the board and this record of the actor come back
  abbrev Gives : Actor → BoardState → Type 0
  Gives to board = Doing settings m.0 (now m.0 (seeing to board t mine) (rest m.0.out)) 0 (OfBoard board)

  -- the event makes this record and this board of the one in hand
  gives : (f : BoardState → Actor) (g : BoardState → BoardState) (e : Event) → May e → ((c : State) → Kept c → Fits c a mine → c.board ≡ was → IsDecided e s c) → (after s a r e).actors ≡ slice_set s.actors a (f s.board) → (after s a r e).board ≡ g s.board
      → Tells (g was) → Gives (f was) (g was)
  gives f g e can beside actors board may =
      board_does settings m was (g was) (f was) t e l
      (board_makes settings a mine (rest m.0.out) was found e can (f was) (ap (λ l. slice_get l a) actors ∙ set_there s.actors a (f s.board) r found.fits.part ∙ ap (λ b. Some (f b)) found.board) (g was) (board ∙ ap g found.board) t may beside)

  -- a board that goes back as it was
  pub see_gives : Tells was → Gives (saw was r) was
  see_gives = gives (λ b. saw b r) (λ b. b) see tt (λ c k f is. tt) refl refl

  pub look_gives : Tells was → Gives (looked was r) was
  look_gives = gives (λ b. looked b r) (λ b. b) look tt (λ c k f is. tt) refl refl

  pub refuse_gives : (why : Refusal) → May (refuse why) → ((c : State) → SameCause why s c) → Tells was → Gives (saw was r) was
  refuse_gives why can cause = gives (λ b. saw b r) (λ b. b) (refuse why) can (λ c k f is. cause c) refl refl

  pub lack_gives : May lack → Tells was → Gives (record (saw was r) { lacked = true }) was
  lack_gives can = gives (λ b. record (saw b r) { lacked = true }) (λ b. b) lack can (λ c k f is. tt) refl refl

  pub no_work_gives : May no_work → Tells was → Gives (looked was r) was
  no_work_gives can = gives (λ b. looked b r) (λ b. b) no_work can (λ c k f is. tt) refl refl

  -- pins and claims
  pub pin_gives : May pin → Tells (pinned a was) → Gives (record (looked was r) { pin = Some (record { at = end_of was.log; cells = cells_of was.settings was.log }) }) (pinned a was)
  pin_gives can = gives (λ b. record (looked b r) { pin = Some (record { at = end_of b.log; cells = cells_of b.settings b.log }) }) (pinned a) pin can (λ c k f is. tt) refl refl

  pub unpin_gives : May unpin → Tells (with_actor without_pin a was) → Gives (record (saw was r) { pin = None }) (with_actor without_pin a was)
  unpin_gives can = gives (λ b. record (saw b r) { pin = None }) (with_actor without_pin a) unpin can (λ c k f is. tt) refl refl

  pub claim_gives : (p : List ℕ) → May (claim_leaf p) → Tells (with_actor (with_claim p) a was) → Gives (record (saw was r) { claim = Some p }) (with_actor (with_claim p) a was)
  claim_gives p can = gives (λ b. record (saw b r) { claim = Some p }) (with_actor (with_claim p) a) (claim_leaf p) can (λ c k f is. tt) refl refl

  pub release_gives : May release_leaf → Tells (with_actor without_claim a was) → Gives (record (saw was r) { claim = None }) (with_actor without_claim a was)
  release_gives can = gives (λ b. record (saw b r) { claim = None }) (with_actor without_claim a) release_leaf can (λ c k f is. tt) refl refl

  pub depart_gives : Tells (with_actor gone a was) → Gives (saw was r) (with_actor gone a was)
  depart_gives = gives (λ b. saw b r) (with_actor gone a) depart tt (λ c k f is. tt) refl refl

  -- a page is taken in hand
  pub allot_gives : May allot → Tells (record was { allotted = was.allotted + 1 }) → Gives (record (saw was r) { fresh = Some was.allotted }) (record was { allotted = was.allotted + 1 })
  allot_gives can = gives (λ b. record (saw b r) { fresh = Some b.allotted }) (λ b. record b { allotted = b.allotted + 1 }) allot can (λ c k f is. tt) refl refl

  -- the board has the claim that the record has
  claim_same : May publish → leaf_or r.claim ≡ leaf_claimed s.board a
  claim_same can =
      let holds = (found.held.kept.sound.each a r found.fits.part).holds in
      let claim = holds.split can.0 can.1.split in
      ap leaf_or claim ∙ sym (ap prefix_or (holds.claim ∙ claim))

  -- a split is published, or given up; work is taken
  pub publish_gives : May publish → Tells (with_split (leaf_claimed was a) a was) → Gives (record (saw (with_split (leaf_claimed was a) a was) r) { claim = None; split = None }) (with_split (leaf_claimed was a) a was)
  publish_gives can = gives (λ b. record (saw (with_split (leaf_claimed b a) a b) r) { claim = None; split = None }) (λ b. with_split (leaf_claimed b a) a b) publish can (λ c k f is. tt)
      (ap (λ p. slice_set s.actors a (record (saw (with_split p a s.board) r) { claim = None; split = None })) (claim_same can)) (ap (λ p. with_split p a s.board) (claim_same can))

  pub give_up_gives : (pages : Bool) → May (give_up pages) → Tells (given_up pages a was) → Gives (record (saw was r) { claim = None; split = None }) (given_up pages a was)
  give_up_gives pages can = gives (λ b. record (saw b r) { claim = None; split = None }) (given_up pages a) (give_up pages) can (λ c k f is. tt) refl refl

  pub take_sweep_gives : (p : List ℕ) → May (take_sweep p) → Tells (record was { retired = drop 1 was.retired })
      → Gives (record (looked was r) { sweep = Some (record { leaf = p; mark = (cell_range (grid was.settings) p).from }) }) (record was { retired = drop 1 was.retired })
  take_sweep_gives p can = gives (λ b. record (looked b r) { sweep = Some (record { leaf = p; mark = (cell_range (grid b.settings) p).from }) }) (λ b. record b { retired = drop 1 b.retired }) (take_sweep p) can (λ c k f is. tt) refl refl

  pub take_split_gives : (p : List ℕ) → May (take_split p) → Tells (with_actor (with_claim p) a was) → Gives (record (looked was r) { claim = Some p }) (with_actor (with_claim p) a was)
  take_split_gives p can = gives (λ b. record (looked b r) { claim = Some p }) (with_actor (with_claim p) a) (take_split p) can (λ c k f is. tt) refl refl

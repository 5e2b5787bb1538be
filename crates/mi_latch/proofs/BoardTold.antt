-- What a seat knows after an event of the board, from the state that its take found.
use Rattle.std.proofs.Common.{◌≡◌, ◌≤◌, ⊎_elim, ℕ, List, length, true, Some, inl, inr, refl, sym, ap, ◌∙◌, subst, arith}
use Rattle.std.specs.Prelude.{slice_get}
use Rattle.atomic_table.specs.Table.{rest}
use Rattle.mi_base.specs.Configuration.{Configuration}
use Rattle.mi_base.specs.History.{events_at}
use Rattle.mi_board.specs.Boards.{BoardState}
use Rattle.mi_core.specs.Events.{Can, Event, after}
use Rattle.mi_core.specs.Kept.{Kept}
use Rattle.mi_core.specs.Later.{IsLater}
use Rattle.mi_core.specs.Named.{IsNamed, Named}
use Rattle.mi_core.specs.State.{State, put_actor, put_board}
use Rattle.mi_core.proofs.FrameEvents.{told_stays}
use Rattle.mi_core.proofs.KeptEvents.{each_keeps}
use Rattle.mi_core.proofs.LaterEvents.{event_leads_on}
use Rattle.mi_core.proofs.NamedLemmas.{root_named}
use Rattle.mi_entries.specs.Actors.{Actor, Pin}
use Rattle.mi_latch.specs.declared.slots.Slot.{Slot}
use Rattle.mi_latch.specs.declared.slots.Slot.TheVariants.{OfBoard}
use Rattle.mi_latch.specs.Boards.{IsTold, MakesBoard, Telling, root_of, telling_same}
use Rattle.mi_latch.specs.Decided.{IsDecided}
use Rattle.mi_latch.specs.Found.{FoundBoard, MayTell}
use Rattle.mi_latch.specs.Takes.{Finds, see_none, took}
use Rattle.mi_latch.specs.Views.{Fits, IsOne, Mine, Seated, Sight}
use Rattle.mi_latch.proofs.BoardAgain.{decided}
use Rattle.mi_latch.proofs.Ones.{of_board}
use Rattle.mi_latch.proofs.Steps.{me}

-- a board names the root
pub root_there : (was : BoardState) (c : State) → Kept c → c.board ≡ was → (x : Named) → IsOne x (root_of was) → IsNamed c.pages x
root_there was c k is x h = ⊎_elim (λ e. subst (IsNamed c.pages) (ap (λ (b : BoardState). let z : Named = record { page = b.root; level = b.height; low = 0 } in z) is ∙ e) (root_named c k.sound)) (λ z. absurd z) h

-- what was known may be told still, and the root may be named beside it
pub tells_same : (a : ℕ) (m : Mine) (was board : BoardState) → MayTell a m was board (telling_same m)
tells_same a m was board = record { told = λ h. inl h; named = λ c k f is x h. absurd h }

pub tells_root : (a : ℕ) (m : Mine) (was board : BoardState) → MayTell a m was board (record (telling_same m) { names = root_of was })
tells_root a m was board = record { told = λ h. inl h; named = λ c k f is x h. root_there was c k is x h }

-- that all pages are allotted
pub tells_full : (a : ℕ) (m : Mine) (was board : BoardState) → board.allotted ≡ board.settings.pages → MayTell a m was board (record (telling_same m) { told = true; names = root_of was })
tells_full a m was board full = record { told = λ h. inr full; named = λ c k f is x h. root_there was c k is x h }

-- the take tells it
pub found_board : (settings : Configuration) (v : Sight) (was : BoardState) → v.live ≡ true → Finds settings v 0 (OfBoard was) → FoundBoard settings v.actor v.mine v.out was
found_board settings v was live x = record {
  core = x.core;
  held = x.held;
  fits = me settings x.core x.held v live x.backs;
  board = of_board x.core.board was x.value;
  values = x.backs.values;
  going = (x.backs.own.mine live).going;
}

-- and the seat has it once the board is out
pub found_taken : (settings : Configuration) (me m : Seated) (was : BoardState) → me.0.live ≡ true → m ≡ took see_none me 0 (OfBoard was) → Finds settings me.0 0 (OfBoard was) → FoundBoard settings m.0.actor m.0.mine (rest m.0.out) was
found_taken settings me m was live e x = subst (λ (y : Seated). FoundBoard settings y.0.actor y.0.mine (rest y.0.out) was) (sym e) (found_board settings me.0 was live x)

module _ (settings : Configuration) (a : ℕ) (m : Mine) (out : List (ℕ × Slot)) (was : BoardState) (found : FoundBoard settings a m out was) where
  abbrev s : State
  s = found.core

  abbrev r : Actor
  r = m.part

  module _ (e : Event) (can : Can s a r e) (to : Actor) (new : slice_get (after s a r e).actors a ≡ Some to) (board : BoardState) (makes : (after s a r e).board ≡ board) (t : Telling) (may : MayTell a m was board t) where
    abbrev d : State
    d = after s a r e

    next : Kept d
    next = each_keeps e s found.held.kept a r found.fits.part found.going can

    later : IsLater s d
    later = event_leads_on e s found.held.kept.sound a r found.fits.part can

    -- who has seen the whole log has seen what it has pinned
    pin_seen : to.seen ≡ length d.board.log → (p : Pin) → to.pin ≡ Some p → events_at p.at ≤ to.seen
    pin_seen seen p h = let w = ((next.sound.each a to new).saw.pin p h).0.within in omega (arith, w, seen)

    pub tells_so : to.seen ≡ length d.board.log → to.ended ≡ r.ended → IsTold a m was board to t
    tells_so seen over = record {
      told = λ c k f is h. ⊎_elim (λ g. subst (λ (b : BoardState). b.allotted ≡ b.settings.pages) makes (told_stays s d found.held.kept.sound next.sound later (found.fits.knows.told g))) (λ g. g) (may.told h);
      named = may.named;
      seen = seen ∙ ap (λ (b : BoardState). length b.log) makes;
      pin = inr (pin_seen seen);
      going = over;
    }

    -- an event that writes the board alone
    pub board_makes : ((c : State) → Kept c → Fits c a m → c.board ≡ was → IsDecided e s c) → MakesBoard a m was board to t e
    board_makes beside =
        let here = decided s s a r to found.fits.part e (beside s found.held.kept found.fits found.board) can new refl in
        record {
          does = λ c k f is.
              let y = decided s c a r to found.fits.part e (beside c k f is) can new (is ∙ sym found.board) in
              subst (λ b. Can c a r e × (after c a r e ≡ put_actor a to (put_board b c))) makes (y.0, y.1.is);
          tells = tells_so here.1.seen here.1.going;
        }

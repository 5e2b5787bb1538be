-- What one event makes of a core in the turn of an actor.
use Rattle.std.proofs.Common.{◌≡◌, ℕ, ◌<◌, length, refl, sym, ap, ◌∙◌, subst, arith, Some, inr}
use Rattle.std.specs.Prelude.{slice_get}
use Rattle.std.proofs.lemmas.Option.{get_or_from_slice_get, slice_get_within}
use Rattle.mi_core.proofs.KeptEvents.{each_keeps}
use Rattle.mi_core.specs.Events.{Event, after, first_actor}
use Rattle.mi_core.specs.Kept.{Kept}
use Rattle.mi_core.specs.State.{State}
use Rattle.mi_entries.specs.Actors.{Actor}
use Rattle.mi_solo.specs.declared.cores.Core.{Core}
use Rattle.mi_solo.specs.States.{Does, IsGoing, actor_in, state_of, view_in}
use Rattle.mi_solo.specs.Solos.{IsCall, MayTurn, Section, SoloState, view_of}
use Rattle.mi_solo.proofs.CoreLemmas.{length-actors_of, there}
use Rattle.mi_solo.proofs.OwnLemmas.{goes_on, mine}
use Rattle.mi_world.specs.View.{View}

abbrev pub solo_of : Core → ℕ → SoloState
solo_of c a = record { state = state_of c; turn = a }

-- one event led from the one to the other, of which this is told
pub record Answered (c d : Core) (a : ℕ) (told : View → View → Type 0) : Type 0 where
  pub event : Event
  pub call : IsCall event
  pub does : Does (state_of c) a event (state_of d)
  pub tells : told (view_of (solo_of c a)) (view_of (solo_of d a))

module _ (c : Core) (a : ℕ) where
  pub may_turn : IsGoing c a → MayTurn (state_of c) a
  may_turn g = record { made = omega (arith, g.known, length-actors_of c.board.settings c.board.log 0 c.actors.items); going = g.going }

  pub is_going : MayTurn (state_of c) a → IsGoing c a
  is_going m = record { known = omega (arith, m.made, length-actors_of c.board.settings c.board.log 0 c.actors.items); going = m.going }

module _ (c d : Core) (a : ℕ) (k : Kept (state_of c)) (g : IsGoing c a) (e : Event) (does : Does (state_of c) a e (state_of d)) where
  kept_then : Kept (state_of d)
  kept_then = subst Kept (sym does.is) (each_keeps e (state_of c) k a (actor_in (state_of c) a) (there c a g.known) g.going does.can)

  made_then : (q : Actor) × (slice_get (after (state_of c) a (actor_in (state_of c) a) e).actors a ≡ Some q)
  made_then = let m = mine (state_of c) k a (actor_in (state_of c) a) (there c a g.known) e does.can in (m.0, m.1)

  in_then : actor_in (state_of d) a ≡ made_then.0
  in_then = ap (λ (s : State). actor_in s a) does.is ∙ get_or_from_slice_get (after (state_of c) a (actor_in (state_of c) a) e).actors a made_then.0 first_actor made_then.1

  -- the state that it leads to is kept, and the actor may have its turn still
  pub stays : Kept (state_of d) × IsGoing d a
  stays = (
    kept_then,
    is_going d a (record {
      made = subst (λ (s : State). a < length s.actors) (sym does.is) (slice_get_within (after (state_of c) a (actor_in (state_of c) a) e).actors a made_then.0 made_then.1);
      going = ap (λ (x : Actor). x.ended) in_then ∙ goes_on (state_of c) k a (actor_in (state_of c) a) (there c a g.known) g.going e does.can made_then.0 made_then.1;
    }),
  )

  -- that was one section
  pub one_section : IsCall e → Section (solo_of c a) (solo_of d a)
  one_section call = inr (refl, record { call = call; leads = record { actor = actor_in (state_of c) a; there = there c a g.known; going = g.going; event = e; can = does.can; is = does.is } })

module _ (c d : Core) (a : ℕ) (k : Kept (state_of c)) (g : IsGoing c a) {e : Event} (does : Does (state_of c) a e (state_of d)) where
  -- the view after the event
  abbrev pub after_view : View
  after_view = view_in (after (state_of c) a (actor_in (state_of c) a) e) a

  -- its actor's record is there then
  pub now : slice_get (after (state_of c) a (actor_in (state_of c) a) e).actors a ≡ Some (actor_in (after (state_of c) a (actor_in (state_of c) a) e) a)
  now = let m = mine (state_of c) k a (actor_in (state_of c) a) (there c a g.known) e does.can in
      m.1 ∙ ap Some (sym (get_or_from_slice_get (after (state_of c) a (actor_in (state_of c) a) e).actors a m.0 first_actor m.1))

  -- what a law tells of it is the answer's meaning
  pub answered : {told : View → View → Type 0} → IsCall e → told (view_of (solo_of c a)) after_view → Answered c d a told
  answered {told} call h = record { event = e; call = call; does = does; tells = subst (λ (s : State). told (view_of (solo_of c a)) (view_in s a)) (sym does.is) h }

module _ (c d : Core) (a : ℕ) {told : View → View → Type 0} (x : Answered c d a told) where
  pub told_at : (v : SoloState) → solo_of c a ≡ v → told (view_of v) (view_of (solo_of d a))
  told_at v e = subst (λ (t : SoloState). told (view_of t) (view_of (solo_of d a))) e x.tells

  module _ (k : Kept (state_of c)) (g : IsGoing c a) where
    pub stays_so : Kept (state_of d) × IsGoing d a
    stays_so = stays c d a k g x.event x.does

    pub section_at : (v : SoloState) → solo_of c a ≡ v → Section v (solo_of d a)
    section_at v e = subst (λ (t : SoloState). Section t (solo_of d a)) e (one_section c d a k g x.event x.does x.call)

-- What any event makes of its own actor's view.
use Rattle.std.proofs.Common.{◌≡◌, ℕ, [], ◌∷◌, cond, true, false, IsTrue, refl, sym, ap, ◌∙◌, subst, Some, set}
use Rattle.std.specs.Prelude.{slice_get}
use Rattle.std.proofs.lemmas.Option.{same_Some}
use Rattle.mi_entries.specs.Actors.{Actor}
use Rattle.mi_entries.proofs.EntryLemmas.{get_more}
use Rattle.mi_core.specs.Effects.{saw}
use Rattle.mi_core.specs.Events.{Can, Event, after, ended, made_actor, more_seen}
use Rattle.mi_core.specs.Events.Event.{see, look, meet, refuse, refuse_at, visit, start, trim, miss_shard, claim_shard, release_shard, reserve, pin, unpin, claim_leaf, release_leaf, insert, delete, allot, lack, grow, split_page, post, gather, copy_in, uncopy, publish, give_up, take_sweep, take_split, no_work, sweep, fork, absorb, depart}
use Rattle.mi_core.specs.Kept.{Kept}
use Rattle.mi_core.specs.State.{State}
use Rattle.mi_core.proofs.ActorLemmas.{set_else, set_there}
use Rattle.mi_core.proofs.KeptEvents.{each_keeps}
use Rattle.mi_world.specs.View.{Later, SeesBoard, View}
use Rattle.mi_solo.specs.Onward.{Makes}
use Rattle.mi_solo.specs.Viewing.{shown_to}
use Rattle.mi_solo.proofs.BoardLemmas.{sees_board}
use Rattle.mi_solo.proofs.LaterLemmas.{later_from, onward}

module _ (s : State) (k : Kept s) (a : ℕ) (r : Actor) (there : slice_get s.actors a ≡ Some r) where
  -- the actor's record after an event
  pub mine : (e : Event) → Can s a r e → (q : Actor) × (slice_get (after s a r e).actors a ≡ Some q) × (IsTrue r.lacked → IsTrue q.lacked) × (q.ended ≡ r.ended)
  mine lack can = (_, set_there s.actors a _ r there, λ l. refl, refl)
  mine fork can = (saw s.board r, get_more (set s.actors a (saw s.board r)) (made_actor s.board r.floor ∷ []) a (saw s.board r) (set_there s.actors a (saw s.board r) r there), λ l. l, refl)
  mine (absorb b t) can =
      let q : Actor = more_seen t r in
      (q, set_else (set s.actors a q) b a (ended t) (λ e. can.0 (sym e)) ∙ set_there s.actors a q r there, λ l. ap (λ z. cond z true t.lacked) l, refl)
  mine see can = (_, set_there s.actors a _ r there, λ l. l, refl)
  mine look can = (_, set_there s.actors a _ r there, λ l. l, refl)
  mine (meet page) can = (_, set_there s.actors a _ r there, λ l. l, refl)
  mine (refuse why) can = (_, set_there s.actors a _ r there, λ l. l, refl)
  mine (refuse_at page why) can = (_, set_there s.actors a _ r there, λ l. l, refl)
  mine (visit page) can = (_, set_there s.actors a _ r there, λ l. l, refl)
  mine (start page) can = (_, set_there s.actors a _ r there, λ l. l, refl)
  mine (trim page node) can = (_, set_there s.actors a _ r there, λ l. l, refl)
  mine (miss_shard n) can = (_, set_there s.actors a _ r there, λ l. l, refl)
  mine (claim_shard n kept) can = (_, set_there s.actors a _ r there, λ l. l, refl)
  mine (release_shard n kept) can = (_, set_there s.actors a _ r there, λ l. l, refl)
  mine (reserve n kept room) can = (_, set_there s.actors a _ r there, λ l. l, refl)
  mine pin can = (_, set_there s.actors a _ r there, λ l. l, refl)
  mine unpin can = (_, set_there s.actors a _ r there, λ l. l, refl)
  mine (claim_leaf p) can = (_, set_there s.actors a _ r there, λ l. l, refl)
  mine release_leaf can = (_, set_there s.actors a _ r there, λ l. l, refl)
  mine (insert op id page node kept e) can = (_, set_there s.actors a _ r there, λ l. l, refl)
  mine (delete op id page node kept key) can = (_, set_there s.actors a _ r there, λ l. l, refl)
  mine allot can = (_, set_there s.actors a _ r there, λ l. l, refl)
  mine (grow level key child) can = (_, set_there s.actors a _ r there, λ l. l, refl)
  mine (split_page page node) can = (_, set_there s.actors a _ r there, λ l. l, refl)
  mine (post page node key child) can = (_, set_there s.actors a _ r there, λ l. l, refl)
  mine (gather page node) can = (_, set_there s.actors a _ r there, λ l. l, refl)
  mine (copy_in page node e) can = (_, set_there s.actors a _ r there, λ l. l, refl)
  mine (uncopy page node e told) can = (_, set_there s.actors a _ r there, λ l. l, refl)
  mine publish can = (_, set_there s.actors a _ r there, λ l. l, refl)
  mine (give_up pages) can = (_, set_there s.actors a _ r there, λ l. l, refl)
  mine (take_sweep p) can = (_, set_there s.actors a _ r there, λ l. l, refl)
  mine (take_split p) can = (_, set_there s.actors a _ r there, λ l. l, refl)
  mine no_work can = (_, set_there s.actors a _ r there, λ l. l, refl)
  mine (sweep page node) can = (_, set_there s.actors a _ r there, λ l. l, refl)
  mine depart can = (_, set_there s.actors a _ r there, λ l. l, refl)

  module _ (going : r.ended ≡ false) (e : Event) (can : Can s a r e) (q : Actor) (now : slice_get (after s a r e).actors a ≡ Some q) where
    pub later_own : Later (shown_to s a r) (shown_to (after s a r e) a q)
    later_own =
        let m = mine e can in
        later_from s (after s a r e) (each_keeps e s k a r there going can) (onward s k a r there e can) a r q
        (λ l. subst (λ (x : Actor). IsTrue x.lacked) (same_Some m.0 q (sym m.1 ∙ now)) (m.2 l))

    -- who makes an event of its own hasn't ended after it
    pub goes_on : q.ended ≡ false
    goes_on =
        let m = mine e can in
        ap (λ (x : Actor). x.ended) (same_Some q m.0 (sym now ∙ m.1)) ∙ m.3 ∙ going

    pub sees_own : SeesBoard (shown_to (after s a r e) a q)
    sees_own = sees_board (after s a r e) (each_keeps e s k a r there going can) a q now

pub event_later : (e : Event) → Makes e (λ s v w. Later v w)
event_later e s k a r q there going can now = later_own s k a r there going e can q now

-- the record that the actor has then is the one that the event gives
pub made : (e : Event) (relation : State → View → View → Type 0)
    → ((s : State) → Kept s → (a : ℕ) (r : Actor) → slice_get s.actors a ≡ Some r → r.ended ≡ false → (can : Can s a r e)
    → (q : Actor) × (slice_get (after s a r e).actors a ≡ Some q) × relation s (shown_to s a r) (shown_to (after s a r e) a q))
    → Makes e relation
made e relation h s k a r q there going can now =
    let m = h s k a r there going can in
    subst (λ (x : Actor). relation s (shown_to s a r) (shown_to (after s a r e) a x)) (same_Some m.0 q (sym m.1 ∙ now)) m.2

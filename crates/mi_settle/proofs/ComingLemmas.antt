-- An actor that comes to its turn.
use Rattle.std.proofs.Common.{◌≡◌, ℕ, Some, refl, sym, ap, ◌∙◌, subst, arith, inl, inr}
use Rattle.std.specs.Prelude.{slice_get, slice_index_or, slice_set}
use Rattle.std.proofs.lemmas.Option.{get_or_from_slice_get, slice_get_cases, slice_get_within}
use Rattle.mi_core.proofs.ActorLemmas.{set_there}
use Rattle.mi_core.specs.Effects.{saw}
use Rattle.mi_core.specs.Events.{Event, Leads, after, first_actor}
use Rattle.mi_core.specs.Events.Event.{see}
use Rattle.mi_core.specs.State.{State}
use Rattle.mi_entries.specs.Actors.{Actor}
use Rattle.mi_solo.specs.Solos.{MayTurn}
use Rattle.mi_solo.specs.States.{Does, actor_in, view_in}
use Rattle.mi_solo.specs.Viewing.{shown_to}
use Rattle.mi_world.specs.View.{Others}
use Rattle.mi_world.proofs.ViewLemmas.{others_none}
use Rattle.mi_settle.specs.Turns.{ComesTo}

module _ (s : State) (k : ℕ) (r : Actor) (there : slice_get s.actors k ≡ Some r) where
  -- the record that an event leaves its actor
  pub now : (x : Actor) → slice_index_or (slice_set s.actors k x) k first_actor ≡ x
  now x = get_or_from_slice_get (slice_set s.actors k x) k x first_actor (set_there s.actors k x r there)

  pub was : actor_in s k ≡ r
  was = get_or_from_slice_get s.actors k r first_actor there

  saw_same : view_in (after s k r see) k ≡ view_in s k
  saw_same = ap (shown_to (after s k r see) k) (now (saw s.board r)) ∙ sym (ap (shown_to s k) was)

-- coming to a turn changes nothing that is seen
pub record SameSeen (s : State) (k : ℕ) (m : State) : Type 0 where
  pub board : m.board ≡ s.board
  pub view : view_in m k ≡ view_in s k

pub comes_same : (s : State) (k : ℕ) (m : State) → ComesTo s k m → SameSeen s k m
comes_same s k m (inl e) = subst (SameSeen s k) (sym e) (record { board = refl; view = refl })
comes_same s k m (inr e) =
    let l : Leads s k m = e.0 in
    let is : m ≡ after s k l.actor see = subst (λ (x : Event). m ≡ after s k l.actor x) e.1 l.is in
    subst (SameSeen s k) (sym is) (record { board = refl; view = saw_same s k l.actor l.there })

pub same_others : (s : State) (k : ℕ) (m : State) → SameSeen s k m → Others (view_in s k) (view_in m k)
same_others s k m h = subst (Others (view_in s k)) (sym h.view) (others_none (view_in s k))

-- it comes to its turn
module _ (s : State) (k : ℕ) (m : State) (may : MayTurn s k) (does : Does s k see m) where
  is_there : slice_get s.actors k ≡ Some (actor_in s k)
  is_there = elim (slice_get_cases s.actors k).1 [
    | inl c ↦ c.2 ∙ ap Some (sym (get_or_from_slice_get s.actors k c.0 first_actor c.2))
    | inr c ↦ absurd (omega (arith, c.0, may.made))
  ]

  pub comes : ComesTo s k m
  comes = inr (record { actor = actor_in s k; there = is_there; going = may.going; event = see; can = does.can; is = does.is }, refl)

  pub may_still : MayTurn m k
  may_still = subst (λ (x : State). MayTurn x k) (sym does.is) (record {
    made = slice_get_within (slice_set s.actors k (saw s.board (actor_in s k))) k (saw s.board (actor_in s k)) (set_there s.actors k (saw s.board (actor_in s k)) (actor_in s k) is_there);
    going = ap (λ (x : Actor). x.ended) (now s k (actor_in s k) is_there (saw s.board (actor_in s k))) ∙ may.going;
  })

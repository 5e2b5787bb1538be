-- An actor that has ended holds nothing.
use Rattle.std.proofs.Common.{◌≡◌, ℕ, List, false, set, refl, sym, ap, ◌∙◌, subst, inl, inr}
use Rattle.std.specs.Prelude.{Some, slice_get}
use Rattle.std.proofs.lemmas.Bool.{false≢true}
use Rattle.mi_base.specs.Configuration.{Configuration}
use Rattle.mi_core.specs.Effects.{saw}
use Rattle.mi_core.specs.Events.{Can, Event, after, ended, first_actor, made_actor, more_seen, opened}
use Rattle.mi_core.specs.Events.Event.{see, look, meet, refuse, refuse_at, visit, start, trim, miss_shard, claim_shard, release_shard, reserve, pin, unpin, claim_leaf, release_leaf, insert, delete, allot, lack, grow, split_page, post, gather, copy_in, uncopy, publish, give_up, take_sweep, take_split, no_work, sweep, fork, absorb, depart}
use Rattle.mi_core.specs.Noted.{EndedHoldNothing, HoldsNothing}
use Rattle.mi_entries.specs.Actors.{Actor}
use Rattle.mi_core.specs.State.{State}
use Rattle.mi_core.proofs.ActorLemmas.{at_set}
use Rattle.mi_core.proofs.ForkEvents.{get_either}
use Rattle.mi_core.proofs.OpeningLemmas.{get_copy}

-- one that goes on
going : (actors : List Actor) → EndedHoldNothing actors → (a : ℕ) (q : Actor) → q.ended ≡ false → EndedHoldNothing (set actors a q)
going actors h a q on b t e over = elim (at_set actors a b q t e) [
  | inl m ↦ absurd (false≢true (sym on ∙ ap (λ (x : Actor). x.ended) m.1 ∙ over))
  | inr m ↦ h b t m.1 over
]

abbrev pub KeepsEnded : Event → Type 0
KeepsEnded e = (s : State) → EndedHoldNothing s.actors → (a : ℕ) (r : Actor) → slice_get s.actors a ≡ Some r → r.ended ≡ false → Can s a r e → EndedHoldNothing (after s a r e).actors

pub event_keeps_ended : (e : Event) → KeepsEnded e
event_keeps_ended see = λ s h a r there on can. going s.actors h a _ on
event_keeps_ended look = λ s h a r there on can. going s.actors h a _ on
event_keeps_ended no_work = λ s h a r there on can. going s.actors h a _ on
event_keeps_ended (meet page) = λ s h a r there on can. going s.actors h a _ on
event_keeps_ended (refuse why) = λ s h a r there on can. going s.actors h a _ on
event_keeps_ended (refuse_at page why) = λ s h a r there on can. going s.actors h a _ on
event_keeps_ended (visit page) = λ s h a r there on can. going s.actors h a _ on
event_keeps_ended (start page) = λ s h a r there on can. going s.actors h a _ on
event_keeps_ended (trim page node) = λ s h a r there on can. going s.actors h a _ on
event_keeps_ended (miss_shard n) = λ s h a r there on can. going s.actors h a _ on
event_keeps_ended (claim_shard n kept) = λ s h a r there on can. going s.actors h a _ on
event_keeps_ended (release_shard n kept) = λ s h a r there on can. going s.actors h a _ on
event_keeps_ended (reserve n kept room) = λ s h a r there on can. going s.actors h a _ on
event_keeps_ended pin = λ s h a r there on can. going s.actors h a _ on
event_keeps_ended unpin = λ s h a r there on can. going s.actors h a _ on
event_keeps_ended (claim_leaf p) = λ s h a r there on can. going s.actors h a _ on
event_keeps_ended release_leaf = λ s h a r there on can. going s.actors h a _ on
event_keeps_ended (insert op id page node kept e) = λ s h a r there on can. going s.actors h a _ on
event_keeps_ended (delete op id page node kept key) = λ s h a r there on can. going s.actors h a _ on
event_keeps_ended allot = λ s h a r there on can. going s.actors h a _ on
event_keeps_ended lack = λ s h a r there on can. going s.actors h a _ on
event_keeps_ended (grow level key child) = λ s h a r there on can. going s.actors h a _ on
event_keeps_ended (split_page page node) = λ s h a r there on can. going s.actors h a _ on
event_keeps_ended (post page node key child) = λ s h a r there on can. going s.actors h a _ on
event_keeps_ended (gather page node) = λ s h a r there on can. going s.actors h a _ on
event_keeps_ended (copy_in page node e) = λ s h a r there on can. going s.actors h a _ on
event_keeps_ended (uncopy page node e told) = λ s h a r there on can. going s.actors h a _ on
event_keeps_ended publish = λ s h a r there on can. going s.actors h a _ on
event_keeps_ended (give_up pages) = λ s h a r there on can. going s.actors h a _ on
event_keeps_ended (take_sweep p) = λ s h a r there on can. going s.actors h a _ on
event_keeps_ended (take_split p) = λ s h a r there on can. going s.actors h a _ on
event_keeps_ended (sweep page node) = λ s h a r there on can. going s.actors h a _ on
event_keeps_ended depart = λ s h a r there on can. going s.actors h a _ on
event_keeps_ended fork = λ s h a r there on can. λ b t e over. elim (get_either (set s.actors a (saw s.board r)) (made_actor s.board r.floor) b t e) [
  | inl m ↦ going s.actors h a (saw s.board r) on b t m over
  | inr m ↦ absurd (false≢true (ap (λ (x : Actor). x.ended) m.1 ∙ over))
]
event_keeps_ended (absorb o z) = λ s h a r there on can. λ b t e over. elim (at_set (set s.actors a (more_seen z r)) o b (ended z) t e) [
  | inl m ↦ subst HoldsNothing m.1 (record { shard = can.2; claim = can.3.claim; sweep = can.3.sweep; pin = can.5; split = can.4; owed = refl; undone = refl; early = refl })
  | inr m ↦ going s.actors h a (more_seen z r) on b t m.1 over
]

pub opened_ended : (c : Configuration) (count more : ℕ) → EndedHoldNothing (opened c count more).actors
opened_ended c count more a r e over = absurd (false≢true (ap (λ (x : Actor). x.ended) (get_copy count a first_actor r e) ∙ over))

-- What an event leaves as it was: the records of others, with what follows for the shards that they hold, and what later states have of earlier ones.
use Rattle.std.proofs.Common.{◌≡◌, ◌≢◌, ℕ, ◌≤◌, [], ◌∷◌, length, take, set, sym, ap, ◌∙◌, arith, Some}
use Rattle.std.proofs.lemmas.List.{take-append-le}
use Rattle.mi_core.specs.Effects.{saw}
use Rattle.mi_core.specs.Events.{Can, Event, after, ended, made_actor, more_seen}
use Rattle.mi_core.specs.Events.Event.{see, look, meet, refuse, refuse_at, visit, start, trim, miss_shard, claim_shard, release_shard, reserve, pin, unpin, claim_leaf, release_leaf, insert, delete, allot, lack, grow, split_page, post, gather, copy_in, uncopy, publish, give_up, take_sweep, take_split, no_work, sweep, fork, absorb, depart}
use Rattle.mi_core.specs.Later.{IsLater, Spares, SparesOthers}
use Rattle.mi_core.specs.Named.{IsNamed, Named}
use Rattle.mi_core.specs.Sound.{Sound}
use Rattle.mi_entries.specs.Actors.{Actor}
use Rattle.mi_core.specs.State.{State}
use Rattle.mi_entries.specs.Records.{shard_at}
use Rattle.mi_core.proofs.ActorLemmas.{set_else}
use Rattle.mi_entries.proofs.EntryLemmas.{get_more}

pub event_spares : (e : Event) → SparesOthers e
event_spares see = λ s a r can c t its apart out. set_else s.actors a c _ apart ∙ its
event_spares look = λ s a r can c t its apart out. set_else s.actors a c _ apart ∙ its
event_spares (meet page) = λ s a r can c t its apart out. set_else s.actors a c _ apart ∙ its
event_spares (refuse why) = λ s a r can c t its apart out. set_else s.actors a c _ apart ∙ its
event_spares (refuse_at page why) = λ s a r can c t its apart out. set_else s.actors a c _ apart ∙ its
event_spares (visit page) = λ s a r can c t its apart out. set_else s.actors a c _ apart ∙ its
event_spares (start page) = λ s a r can c t its apart out. set_else s.actors a c _ apart ∙ its
event_spares (trim page node) = λ s a r can c t its apart out. set_else s.actors a c _ apart ∙ its
event_spares (miss_shard n) = λ s a r can c t its apart out. set_else s.actors a c _ apart ∙ its
event_spares (claim_shard n kept) = λ s a r can c t its apart out. set_else s.actors a c _ apart ∙ its
event_spares (release_shard n kept) = λ s a r can c t its apart out. set_else s.actors a c _ apart ∙ its
event_spares (reserve n kept room) = λ s a r can c t its apart out. set_else s.actors a c _ apart ∙ its
event_spares pin = λ s a r can c t its apart out. set_else s.actors a c _ apart ∙ its
event_spares unpin = λ s a r can c t its apart out. set_else s.actors a c _ apart ∙ its
event_spares (claim_leaf p) = λ s a r can c t its apart out. set_else s.actors a c _ apart ∙ its
event_spares release_leaf = λ s a r can c t its apart out. set_else s.actors a c _ apart ∙ its
event_spares (insert op id page node kept e) = λ s a r can c t its apart out. set_else s.actors a c _ apart ∙ its
event_spares (delete op id page node kept key) = λ s a r can c t its apart out. set_else s.actors a c _ apart ∙ its
event_spares allot = λ s a r can c t its apart out. set_else s.actors a c _ apart ∙ its
event_spares lack = λ s a r can c t its apart out. set_else s.actors a c _ apart ∙ its
event_spares (grow level key child) = λ s a r can c t its apart out. set_else s.actors a c _ apart ∙ its
event_spares (split_page page node) = λ s a r can c t its apart out. set_else s.actors a c _ apart ∙ its
event_spares (post page node key child) = λ s a r can c t its apart out. set_else s.actors a c _ apart ∙ its
event_spares (gather page node) = λ s a r can c t its apart out. set_else s.actors a c _ apart ∙ its
event_spares (copy_in page node e) = λ s a r can c t its apart out. set_else s.actors a c _ apart ∙ its
event_spares (uncopy page node e told) = λ s a r can c t its apart out. set_else s.actors a c _ apart ∙ its
event_spares publish = λ s a r can c t its apart out. set_else s.actors a c _ apart ∙ its
event_spares (give_up pages) = λ s a r can c t its apart out. set_else s.actors a c _ apart ∙ its
event_spares (take_sweep p) = λ s a r can c t its apart out. set_else s.actors a c _ apart ∙ its
event_spares (take_split p) = λ s a r can c t its apart out. set_else s.actors a c _ apart ∙ its
event_spares no_work = λ s a r can c t its apart out. set_else s.actors a c _ apart ∙ its
event_spares (sweep page node) = λ s a r can c t its apart out. set_else s.actors a c _ apart ∙ its
event_spares depart = λ s a r can c t its apart out. set_else s.actors a c _ apart ∙ its
event_spares fork = λ s a r can c t its apart out. get_more (set s.actors a (saw s.board r)) (made_actor s.board r.floor ∷ []) c t (set_else s.actors a c (saw s.board r) apart ∙ its)
event_spares (absorb b o) = λ s a r can c t its apart out. set_else (set s.actors a (more_seen o r)) b c (ended o) out ∙ (set_else s.actors a c (more_seen o r) apart ∙ its)

-- whoever else holds a shard holds it still
pub shard_stays : (s : State) → Sound s → (a : ℕ) (r : Actor) (e : Event) → Can s a r e → Sound (after s a r e) → (n c : ℕ) → (shard_at s.shards n).holder ≡ Some c → c ≢ a → Spares e c
    → (shard_at (after s a r e).shards n).holder ≡ Some c
shard_stays s k a r e can k' n c h apart out =
    let o = k.holders n c h in
    ((k'.each c o.actor (event_spares e s a r can c o.actor o.there apart out)).holds.shard n o.shard).1

module _ (s t : State) (k : Sound s) (k' : Sound t) (l : IsLater s t) where
  -- as many pages
  pub as_many : length t.pages ≡ length s.pages
  as_many = k'.pages.length_is ∙ ap (λ c. c.pages) l.settings ∙ sym k.pages.length_is

  -- where all pages are allotted, they stay so
  pub told_stays : s.board.allotted ≡ s.board.settings.pages → t.board.allotted ≡ t.board.settings.pages
  told_stays all =
      let m = k'.pages.most in
      let n = l.allotted in
      omega (arith, all, ap (λ c. c.pages) l.settings)

  -- a page that was named is named
  pub named_stays : (x : Named) → IsNamed s.pages x → IsNamed t.pages x
  named_stays x h =
      let n = l.pages x.page h.node h.there in
      record { node = n.now; there = n.there; level = n.level ∙ h.level; low = n.low ∙ h.low }

  -- what was seen of the log is seen
  pub seen_stays : (n : ℕ) → n ≤ length s.board.log → take n t.board.log ≡ take n s.board.log
  seen_stays n le = ap (take n) l.log ∙ take-append-le n s.board.log l.more le

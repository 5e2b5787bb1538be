-- An event of the board that can be in one state can be in each other one with the same board, and makes the same board and record there.
use Rattle.std.proofs.Common.{◌≡◌, ℕ, List, length, set, refl, sym, ap, ◌∙◌, subst, Some}
use Rattle.std.specs.Prelude.{slice_get}
use Rattle.std.proofs.lemmas.Option.{same_Some}
use Rattle.mi_board.specs.Boards.{BoardState}
use Rattle.mi_core.specs.Events.{Can, Event, after}
use Rattle.mi_core.specs.Events.Event.{see, look, meet, refuse, refuse_at, visit, start, trim, miss_shard, claim_shard, release_shard, reserve, pin, unpin, claim_leaf, release_leaf, insert, delete, allot, lack, grow, split_page, post, gather, copy_in, uncopy, publish, give_up, take_sweep, take_split, no_work, sweep, fork, absorb, depart}
use Rattle.mi_core.specs.Refusals.{Because, Refusal}
use Rattle.mi_core.specs.Refusals.Refusal.{crowded, full, grown, held, page_full, pages_full}
use Rattle.mi_core.specs.State.{State, put_actor, put_board}
use Rattle.mi_core.proofs.ActorLemmas.{set_there}
use Rattle.mi_entries.specs.Actors.{Actor}
use Rattle.mi_latch.specs.Decided.{IsDecided, SameCause}

-- the record that was put in place of another
pub put_is : (actors : List Actor) (a : ℕ) (x r q : Actor) → slice_get actors a ≡ Some r → slice_get (set actors a x) a ≡ Some q → x ≡ q
put_is actors a x r q there new = same_Some x q (sym (set_there actors a x r there) ∙ new)

because_again : (why : Refusal) (s c : State) (a : ℕ) (r : Actor) → SameCause why s c → Because s a r why → Because (put_board s.board c) a r why
because_again full s c a r i h = h
because_again (crowded vector) s c a r i h = h
because_again pages_full s c a r i h = h
because_again (held leaf by) s c a r i h = h
because_again (page_full page) s c a r i h = record { node = h.node; there = i ∙ h.there; items = h.items }
because_again (grown level) s c a r i h = h

-- the event can be in c too, where the board is that of s
can_again : (e : Event) (s c : State) (a : ℕ) (r : Actor) → IsDecided e s c → Can s a r e → Can (put_board s.board c) a r e
can_again see s c a r i can = tt
can_again look s c a r i can = tt
can_again (meet page) s c a r i can = i
can_again (refuse why) s c a r i can = because_again why s c a r i can
can_again (refuse_at page why) s c a r i can = (i.0, because_again why s c a r i.1 can.1)
can_again pin s c a r i can = can
can_again unpin s c a r i can = can
can_again (claim_leaf p) s c a r i can = record { free = can.free; leaf = can.leaf; unclaimed = can.unclaimed }
can_again release_leaf s c a r i can = can
can_again allot s c a r i can = can
can_again lack s c a r i can = can
can_again publish s c a r i can = (can.0, record { split = can.1.split; whole = can.1.whole }, can.2, can.3)
can_again (give_up pages) s c a r i can = can
can_again (take_sweep p) s c a r i can = can
can_again (take_split p) s c a r i can = can
can_again no_work s c a r i can = can
can_again depart s c a r i can = tt
can_again (visit page) s c a r i can = absurd i
can_again (start page) s c a r i can = absurd i
can_again (trim page node) s c a r i can = absurd i
can_again (miss_shard k) s c a r i can = absurd i
can_again (claim_shard k kept) s c a r i can = absurd i
can_again (release_shard k kept) s c a r i can = absurd i
can_again (reserve k kept room) s c a r i can = absurd i
can_again (insert op id page node kept e) s c a r i can = absurd i
can_again (delete op id page node kept key) s c a r i can = absurd i
can_again (grow level key child) s c a r i can = absurd i
can_again (split_page page node) s c a r i can = absurd i
can_again (post page node key child) s c a r i can = absurd i
can_again (gather page node) s c a r i can = absurd i
can_again (copy_in page node e) s c a r i can = absurd i
can_again (uncopy page node e told) s c a r i can = absurd i
can_again (sweep page node) s c a r i can = absurd i
can_again fork s c a r i can = absurd i
can_again (absorb b t) s c a r i can = absurd i

-- the record q that an actor has after a section of the board: the event makes this state, the whole log is seen, and an actor goes on
pub record Comes (now : State) (a : ℕ) (r q : Actor) (board : BoardState) (mid : State) : Type 0 where
  pub is : now ≡ put_actor a q (put_board board mid)
  pub seen : q.seen ≡ length board.log
  pub going : q.ended ≡ r.ended

pub comes : (s mid : State) (a : ℕ) (r q x : Actor) (board : BoardState) → slice_get s.actors a ≡ Some r → slice_get (set s.actors a x) a ≡ Some q → x.seen ≡ length board.log → x.ended ≡ r.ended
    → Comes (put_actor a x (put_board board mid)) a r q board mid
comes s mid a r q x board there new seen going =
    let same = put_is s.actors a x r q there new in
    record { is = ap (λ y. put_actor a y (put_board board mid)) same; seen = ap (λ (y : Actor). y.seen) (sym same) ∙ seen; going = ap (λ (y : Actor). y.ended) (sym same) ∙ going }

module _ (s c : State) (a : ℕ) (r q : Actor) (there : slice_get s.actors a ≡ Some r) where
  -- what comes of it
  same_after : (e : Event) → IsDecided e s c → slice_get (after s a r e).actors a ≡ Some q → Comes (after (put_board s.board c) a r e) a r q (after s a r e).board c
  same_after see i new = comes s c a r q _ (after s a r see).board there new refl refl
  same_after look i new = comes s c a r q _ (after s a r look).board there new refl refl
  same_after (meet page) i new = comes s c a r q _ (after s a r (meet page)).board there new refl refl
  same_after (refuse why) i new = comes s c a r q _ (after s a r (refuse why)).board there new refl refl
  same_after (refuse_at page why) i new = comes s c a r q _ (after s a r (refuse_at page why)).board there new refl refl
  same_after lack i new = comes s c a r q _ (after s a r lack).board there new refl refl
  same_after no_work i new = comes s c a r q _ (after s a r no_work).board there new refl refl
  same_after pin i new = comes s c a r q _ (after s a r pin).board there new refl refl
  same_after unpin i new = comes s c a r q _ (after s a r unpin).board there new refl refl
  same_after (claim_leaf p) i new = comes s c a r q _ (after s a r (claim_leaf p)).board there new refl refl
  same_after release_leaf i new = comes s c a r q _ (after s a r release_leaf).board there new refl refl
  same_after allot i new = comes s c a r q _ (after s a r allot).board there new refl refl
  same_after publish i new = comes s c a r q _ (after s a r publish).board there new refl refl
  same_after (give_up pages) i new = comes s c a r q _ (after s a r (give_up pages)).board there new refl refl
  same_after (take_sweep p) i new = comes s c a r q _ (after s a r (take_sweep p)).board there new refl refl
  same_after (take_split p) i new = comes s c a r q _ (after s a r (take_split p)).board there new refl refl
  same_after depart i new = comes s c a r q _ (after s a r depart).board there new refl refl
  same_after (visit page) i new = absurd i
  same_after (start page) i new = absurd i
  same_after (trim page node) i new = absurd i
  same_after (miss_shard k) i new = absurd i
  same_after (claim_shard k kept) i new = absurd i
  same_after (release_shard k kept) i new = absurd i
  same_after (reserve k kept room) i new = absurd i
  same_after (insert op id page node kept e) i new = absurd i
  same_after (delete op id page node kept key) i new = absurd i
  same_after (grow level key child) i new = absurd i
  same_after (split_page page node) i new = absurd i
  same_after (post page node key child) i new = absurd i
  same_after (gather page node) i new = absurd i
  same_after (copy_in page node e) i new = absurd i
  same_after (uncopy page node e told) i new = absurd i
  same_after (sweep page node) i new = absurd i
  same_after fork i new = absurd i
  same_after (absorb b t) i new = absurd i

  -- what decides an event of the board is the board, and the event makes the same of it in each state
  pub decided : (e : Event) → IsDecided e s c → Can s a r e → slice_get (after s a r e).actors a ≡ Some q → c.board ≡ s.board
      → Can c a r e × Comes (after c a r e) a r q (after s a r e).board c
  decided e i can new is = subst (λ b. Can (put_board b c) a r e × Comes (after (put_board b c) a r e) a r q (after s a r e).board c) (sym is) (can_again e s c a r i can, same_after e i new)

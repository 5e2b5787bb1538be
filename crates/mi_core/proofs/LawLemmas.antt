-- The law of the core.
use Rattle.mi_core.specs.Events.{Can, Event, MayClaim, after}
use Rattle.mi_core.proofs.NextLemmas.{next_may, next_swept}
use Rattle.mi_base.specs.History.{at_position, events_at}
use Rattle.mi_board.specs.Boards.{floor_of}
use Rattle.std.proofs.Common.{◌≡◌, ℕ, Some, ◌∙◌, ◌-◌, refl, sym, subst}
use Rattle.std.specs.Prelude.{slice_get}
use Rattle.mi_entries.specs.Actors.{Actor}
use Rattle.mi_core.specs.State.{State}
use Rattle.mi_core.specs.Events.Event.{see, look, meet, refuse, refuse_at, visit, start, trim, miss_shard, claim_shard, release_shard, reserve, pin, unpin, claim_leaf, release_leaf, insert, delete, allot, lack, grow, split_page, post, gather, copy_in, uncopy, publish, give_up, take_sweep, take_split, no_work, sweep, fork, absorb, depart}
use Rattle.mi_core.proofs.BoardEvents.{claim_leaf_keeps, depart_keeps, pin_keeps, release_leaf_keeps, take_split_keeps, unpin_keeps}
use Rattle.mi_core.proofs.AllotEvents.{allot_event}
use Rattle.mi_core.proofs.InsertEvents.{insert_keeps}
use Rattle.mi_core.proofs.QuietEvents.{claim_shard_keeps, lack_keeps, look_keeps, meet_keeps, miss_keeps, release_shard_keeps, see_keeps, visit_keeps}
use Rattle.mi_core.proofs.ReserveEvents.{reserve_keeps}
use Rattle.mi_core.proofs.SplitEvents.{publish_keeps}
use Rattle.mi_core.proofs.SweepEvents.{sweep_keeps}
use Rattle.mi_core.proofs.TakeEvents.{take_sweep_keeps}
use Rattle.mi_core.proofs.HalveEvents.{split_page_keeps}
use Rattle.mi_entries.proofs.AbsentLemmas.{absent_copy}
use Rattle.mi_core.proofs.CopyEvents.{copy_is, copy_keeps}
use Rattle.mi_key.specs.declared.entries.Entry.{Entry}
use Rattle.mi_page.specs.Keys.{IsInside}
use Rattle.mi_core.specs.Sound.{Sound}
use Rattle.mi_core.proofs.KeptLemmas.{keys_rise}
use Rattle.mi_core.specs.Pages.{forest_of}
use Rattle.mi_forest.specs.Forests.{all_entries}
use Rattle.mi_core.proofs.TrimEvents.{trim_keeps}
use Rattle.mi_core.proofs.AbsorbEvents.{absorb_keeps}
use Rattle.mi_core.proofs.DeleteEvents.{delete_keeps}
use Rattle.mi_core.proofs.ForkEvents.{fork_keeps}
use Rattle.mi_core.proofs.GiveUpEvents.{give_up_keeps}
use Rattle.mi_core.proofs.GrowEvents.{grow_event}
use Rattle.mi_core.proofs.PostEvents.{post_keeps}
use Rattle.mi_core.proofs.UncopyEvents.{uncopy_keeps}
use Rattle.mi_core.proofs.WorkEvents.{gather_keeps, start_keeps}

abbrev pub KeepsSound : Event → Type 0
KeepsSound e = (s : State) → Sound s → (a : ℕ) (r : Actor) → slice_get s.actors a ≡ Some r → Can s a r e → Sound (after s a r e)

pub event_keeps : (e : Event) → KeepsSound e
event_keeps see = λ s k a r there can. see_keeps s k a r there
event_keeps look = λ s k a r there can. look_keeps s k a r there
event_keeps no_work = λ s k a r there can. look_keeps s k a r there
event_keeps (meet page) = λ s k a r there can. meet_keeps s k a r there page
event_keeps (refuse why) = λ s k a r there can. see_keeps s k a r there
event_keeps (refuse_at page why) = λ s k a r there can. meet_keeps s k a r there page
event_keeps (visit page) = λ s k a r there can. visit_keeps s k a r there page
event_keeps (miss_shard n) = λ s k a r there can. miss_keeps s k a r there n
event_keeps (claim_shard n kept) = λ s k a r there can. claim_shard_keeps s k a r there n kept can.0 can.1 can.2 can.3
event_keeps (release_shard n kept) = λ s k a r there can. release_shard_keeps s k a r there n kept can.0 can.1
event_keeps (reserve n kept room) = λ s k a r there can. reserve_keeps s k a r there n kept room can.0 can.1 can.2
event_keeps pin = λ s k a r there can. pin_keeps s k a r there can
event_keeps unpin = λ s k a r there can. unpin_keeps s k a r there
event_keeps (claim_leaf l) = λ s k a r there can. claim_leaf_keeps s k a r there l can
event_keeps release_leaf = λ s k a r there can. release_leaf_keeps s k a r there can.2
event_keeps (insert op id page node kept e) = λ s k a r there can. insert_keeps s k a r there op id page node kept e can
event_keeps lack = λ s k a r there can. lack_keeps s k a r there
event_keeps publish = λ s k a r there can. publish_keeps s k a r there can.0 can.1 can.2 can.3
event_keeps (sweep page node) = λ s k a r there can. sweep_keeps s k a r there page node can.0 can.1 can.2 can.3
event_keeps depart = λ s k a r there can. depart_keeps s k a r there
event_keeps (start page) = λ s k a r there can. start_keeps s k a r there can.0 can.1 can.2 page
event_keeps (trim page node) = λ s k a r there can. trim_keeps s k a r there page node can
event_keeps (delete op id page node kept key) = λ s k a r there can. delete_keeps s k a r there op id page node kept key can
event_keeps allot = λ s k a r there can. allot_event s k a r there can.0 can.1
event_keeps (grow level key child) = λ s k a r there can. grow_event s k a r there level key child can.0 can.1 can.2 can.3 can.4 can.5 can.6 can.7
event_keeps (split_page page node) = λ s k a r there can. split_page_keeps s k a r there page node can.0 can.1 can.2 can.3
event_keeps (post page node key child) = λ s k a r there can. post_keeps s k a r there page node key child can.0 can.1
event_keeps (gather page node) = λ s k a r there can. gather_keeps s k a r there can.1 can.2 can.3 page node can.0 can.4
event_keeps (copy_in page node e) = λ s k a r there can.
    let is = can.5 ∙ copy_is s k a r there can.1 can.2.split can.1.copied can.3 can.4 in
    subst (λ (y : Entry). Sound (after s a r (copy_in page node y))) (sym is)
    (copy_keeps s k a r there page node can.0 can.1 can.2 can.3 can.4 (subst (λ (y : Entry). IsInside node.low node.high y.key) is can.6) can.7
    (absent_copy s.board.settings k.limits s.board.log k.legal (events_at (floor_of s.board)) s.actors s.board.retired (all_entries (forest_of s.board s.pages s.actors k.chain)) k.entries (keys_rise s k) a r there can.1 can.2.split can.3 can.1.copied can.4 refl))
event_keeps (uncopy page node e told) = λ s k a r there can.
    uncopy_keeps s k a r there page node can.0 can.1 can.2 can.3 can.4 can.5 e (can.6 ∙ copy_is s k a r there can.1 can.2 (can.1.copied - 1) can.4 can.5) can.7 told
event_keeps (give_up pages) = λ s k a r there can. give_up_keeps s k a r there pages can.0 can.1 can.2 can.3
event_keeps (take_sweep l) = λ s k a r there can. let n = next_swept (at_position s.board.log (floor_of s.board)) s.board.retired l can.1 in take_sweep_keeps s k a r there l n.0 can.0 n.1 n.2
event_keeps (take_split l) = λ s k a r there can. take_split_keeps s k a r there l (subst (MayClaim s r) can.4 (next_may s can.2 can.3 r can.0))
event_keeps fork = λ s k a r there can. fork_keeps s k a r there
event_keeps (absorb b t) = λ s k a r there can. absorb_keeps s k a r there b t can.0 can.1

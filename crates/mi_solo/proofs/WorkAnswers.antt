-- The event that each section of a splitter is, by its answer, and what the trait tells of it.
use Rattle.std.proofs.Common.{◌≡◌, ◌≤◌, ◌∙◌, ℕ, Bool, ap, length, refl, subst, sym, Result, Ok, Err}
use Rattle.std.specs.Prelude.{IsSome}
use Rattle.std.proofs.lemmas.Option.{get_or_from_slice_get}
use Rattle.mi_base.specs.declared.refusals.NoMemory.{NoMemory}
use Rattle.mi_core.specs.Actors.{made_by}
use Rattle.mi_core.specs.Events.{Can, IsFree, after, first_actor, leaf_or}
use Rattle.mi_core.specs.Events.Event.{gather, give_up as give_up_event, publish, start}
use Rattle.mi_core.specs.Kept.{Kept}
use Rattle.mi_base.specs.declared.records.Position.{Position}
use Rattle.mi_base.specs.History.{end_of}
use Rattle.mi_core.specs.Pages.{node_or_fresh}
use Rattle.mi_core.specs.State.{State}
use Rattle.mi_entries.specs.Actors.{Actor}
use Rattle.mi_page.specs.Nodes.{Node}
use Rattle.mi_tree.specs.declared.answers.Work.{Work}
use Rattle.mi_tree.specs.declared.answers.Work.TheVariants as work
use Rattle.mi_world.specs.declared.answers.Visit.{Visit}
use Rattle.mi_world.specs.declared.answers.Visit.TheVariants.{Down, Read, Right}
use Rattle.mi_world.specs.Boards.{GivesWork}
use Rattle.mi_world.specs.LeafKeys.{greatest_key}
use Rattle.mi_world.specs.View.{prefix_or}
use Rattle.mi_world.specs.Splits.{Gathers, GivesUp, IsGathered, MayGather, Publishes, Sweeps, gather_key}
use Rattle.mi_solo.specs.declared.cores.Core.{Core}
use Rattle.mi_solo.specs.BoardRows.{PublishesRow, WorksRow}
use Rattle.mi_solo.specs.OnBoards.{OnBoard}
use Rattle.mi_solo.specs.LeafRows.{SweepsRow, swept_mark}
use Rattle.mi_solo.specs.OnPages.{OnPage}
use Rattle.mi_solo.specs.Seeking.{EndsAfter, PointsDown, PointsRight, ReadsOn}
use Rattle.mi_solo.specs.States.{Does, IsGoing, actor_in, actor_of, node_in, state_of, view_in}
use Rattle.mi_solo.specs.Viewing.{swept_leaf, swept_to}
use Rattle.mi_solo.specs.Solos.{view_of}
use Rattle.mi_solo.proofs.BoardTurns.{board_does, publish_event, publish_is, work_event, work_is}
use Rattle.mi_solo.proofs.CoreLemmas.{there}
use Rattle.mi_solo.specs.GatherRows.{GathersPage, row_work}
use Rattle.mi_solo.proofs.GatherRows.{gather_event, gather_is, row_last, row_mark}
use Rattle.mi_solo.proofs.GatherEvents.{can_gather, can_start, gathers_down, gathers_memory, gathers_on, gathers_right}
use Rattle.mi_solo.proofs.GatheredLemmas.{may_publish}
use Rattle.mi_solo.proofs.PageTurns.{page_does}
use Rattle.mi_solo.proofs.PublishSections.{leaf_enters}
use Rattle.mi_solo.proofs.SoloLemmas.{Answered, after_view, answered, now, solo_of}
use Rattle.mi_solo.proofs.SweepSections.{last_swept, row_sweeps, sweep_event, sweep_is}
use Rattle.mi_solo.proofs.SweepEvents.{sweeps_down, sweeps_on, sweeps_right}
use Rattle.mi_solo.proofs.WorkEvents.{gives_nothing, gives_split, gives_sweep, gives_up, publishes, publishes_none}

module _ (c d : Core) (a : ℕ) (k : Kept (state_of c)) (g : IsGoing c a) where
  pub answer_work : IsFree (actor_in (state_of c) a) → (r : Work) → OnBoard (state_of c) a (WorksRow a r) (state_of d) → Answered c d a (λ v w. GivesWork v w r)
  answer_work free r x =
      let s = state_of c in
      let its = get_or_from_slice_get s.actors a _ first_actor x.row_is in
      go r x.does (board_does s a (state_of d) x (work_event r) (work_is s a (made_by a c.board.log) x.row x.made x.board (subst IsFree its free) r x.does))
    where
      go : (r : Work) → WorksRow a r c.board x.row x.board x.made → Does (state_of c) a (work_event r) (state_of d) → Answered c d a (λ v w. GivesWork v w r)
      go (work.Sweep p) h y = answered c d a k g y tt (gives_sweep p (state_of c) k a (actor_in (state_of c) a) _ (there c a g.known) g.going y.can (now c d a k g y))
      go (work.Split leaf) h y = answered c d a k g y tt (gives_split leaf (state_of c) k a (actor_in (state_of c) a) _ (there c a g.known) g.going y.can (now c d a k g y) h.0.1.0)
      go work.Idle h y = answered c d a k g y tt (gives_nothing (state_of c) k a (actor_in (state_of c) a) _ (there c a g.known) g.going y.can (now c d a k g y))

  pub answer_up : (pages : Bool) → Does (state_of c) a (give_up_event pages) (state_of d) → Answered c d a (λ v w. GivesUp v w pages)
  answer_up pages x = answered c d a k g x tt ((gives_up pages) (state_of c) k a (actor_in (state_of c) a) _ (there c a g.known) g.going x.can (now c d a k g x))

  pub answer_publish : IsGathered (view_in (state_of c) a) → (view_in (state_of c) a).copied ≡ length (view_in (state_of c) a).copies
      → (r : Result Position NoMemory) → OnBoard (state_of c) a (PublishesRow a r) (state_of d) → Answered c d a (λ v w. Publishes v w r)
  answer_publish whole all r x =
      let s = state_of c in
      let q = actor_in s a in
      let its : q ≡ actor_of c.board.settings c.board.log a x.row = get_or_from_slice_get s.actors a _ first_actor x.row_is in
      let can = subst (λ (z : Actor). Can s a z publish) its (may_publish s k a q (there c a g.known) whole all) in
      let leaf = leaf_enters s k a q (there c a g.known) x.row (ap (λ (z : Actor). z.split) its) whole all ∙ ap (λ (z : Actor). leaf_or z.claim) its in
      go r x.does (board_does s a (state_of d) x (publish_event r) (publish_is s a (made_by a c.board.log) x.row x.made x.board can leaf r x.does))
    where
      go : (r : Result Position NoMemory) → PublishesRow a r c.board x.row x.board x.made → Does (state_of c) a (publish_event r) (state_of d) → Answered c d a (λ v w. Publishes v w r)
      go (Ok position) h y =
          let seen : position ≡ end_of (after (state_of c) a (actor_in (state_of c) a) publish).board.log = h.0.0 ∙ sym (ap (λ (s : State). end_of s.board.log) x.is) ∙ ap (λ (s : State). end_of s.board.log) y.is in
          answered c d a k g y tt (subst (λ z. Publishes (view_of (solo_of c a)) (after_view c d a k g y) (Ok z)) (sym seen)
          (publishes (state_of c) k a (actor_in (state_of c) a) _ (there c a g.known) g.going y.can (now c d a k g y)))
      go (Err e) h y = answered c d a k g y tt (publishes_none e (state_of c) k a (actor_in (state_of c) a) _ (there c a g.known) g.going y.can (now c d a k g y))

  -- a page is swept
  pub answer_sweep : (page : ℕ) → IsSome (view_in (state_of c) a).sweep → (node_in (state_of c) page).low ≤ (view_in (state_of c) a).swept → (r : Visit)
      → OnPage (state_of c) a page (SweepsRow c.board.settings page r) (state_of d) → Answered c d a (λ v w. Sweeps v w page r)
  answer_sweep page given low r x =
      let s = state_of c in
      let C = c.board.settings in
      let its = get_or_from_slice_get s.actors a _ first_actor x.row_is in
      let works = row_sweeps s k a _ x.row_is x.row refl (subst (λ (q : Actor). IsSome (swept_leaf q.sweep)) its given) in
      let from : x.was.low ≤ swept_mark x.row = subst (λ (q : Actor). x.was.low ≤ swept_to q.sweep) its (subst (λ (m : Node). m.low ≤ (view_in s a).swept) (ap node_or_fresh x.there) low) in
      let y = page_does s a page (state_of d) x (sweep_event page x.was r) (sweep_is s a page x.was x.new x.there C (made_by a s.board.log) x.row x.made refl works from r x.does) in
      go r x.does y
    where
      go : (r : Visit) → SweepsRow c.board.settings page r x.was x.row x.new x.made → Does (state_of c) a (sweep_event page x.was r) (state_of d) → Answered c d a (λ v w. Sweeps v w page r)
      go (Down p) h y = answered c d a k g y tt (sweeps_down page x.was p (state_of c) k a (actor_in (state_of c) a) _ (there c a g.known) g.going y.can (now c d a k g y) x.there
          (subst (λ (q : Actor). PointsDown x.was 0 (swept_to q.sweep) p) (sym (get_or_from_slice_get (state_of c).actors a _ first_actor x.row_is)) h.0))
      go (Right p) h y = answered c d a k g y tt (sweeps_right page x.was p (state_of c) k a (actor_in (state_of c) a) _ (there c a g.known) g.going y.can (now c d a k g y) x.there
          (subst (λ (q : Actor). PointsRight x.was 0 (swept_to q.sweep) p) (sym (get_or_from_slice_get (state_of c).actors a _ first_actor x.row_is)) h.0))
      go (Read next) h y = answered c d a k g y tt (sweeps_on page x.was next (state_of c) k a (actor_in (state_of c) a) _ (there c a g.known) g.going y.can (now c d a k g y)
          (subst (λ to. ReadsOn x.was to next) (last_swept c.board.settings x.row ∙ ap (λ (q : Actor). greatest_key c.board.settings (prefix_or (swept_leaf q.sweep))) (sym (get_or_from_slice_get (state_of c).actors a _ first_actor x.row_is))) h.0))

  -- a page is gathered
  pub answer_gather : (page : ℕ) → MayGather (view_in (state_of c) a) → (node_in (state_of c) page).low ≤ gather_key (view_in (state_of c) a) → (r : Result Visit NoMemory)
      → OnPage (state_of c) a page (GathersPage c.board.settings page r) (state_of d) → Answered c d a (λ v w. Gathers v w page r)
  answer_gather page ready low r x = go r x.does y
    where
      s : State
      s = state_of c

      q : Actor
      q = actor_in (state_of c) a

      its : actor_in (state_of c) a ≡ actor_of c.board.settings c.board.log a x.row
      its = get_or_from_slice_get (state_of c).actors a _ first_actor x.row_is

      mark : (row_work c.board.settings x.row).mark ≡ gather_key (view_in (state_of c) a)
      mark = row_mark s k a q (there c a g.known) g.going page x.row (ap (λ (z : Actor). z.claim) its) (ap (λ (z : Actor). z.split) its) ready.leaf ready.leaf_is

      low_shown : (view_in (state_of c) a).low page ≤ gather_key (view_in (state_of c) a)
      low_shown = low

      y : Does (state_of c) a (gather_event page x.was r) (state_of d)
      y = page_does s a page (state_of d) x (gather_event page x.was r) (gather_is s a page x.was x.new x.there c.board.settings (made_by a c.board.log) x.row x.made refl
          (subst (λ (z : Actor). Can s a z (start page)) its (can_start s k a q (there c a g.known) g.going ready page x.was x.there))
          (λ ends. subst (λ (z : Actor). Can s a z (gather page x.was)) its (can_gather s k a q (there c a g.known) g.going ready page x.was x.there low_shown (subst (EndsAfter x.was 0) mark ends))) r x.does)

      go : (r : Result Visit NoMemory) → GathersPage c.board.settings page r x.was x.row x.new x.made → Does (state_of c) a (gather_event page x.was r) (state_of d) → Answered c d a (λ v w. Gathers v w page r)
      go (Ok (Down p)) h y = answered c d a k g y tt (gathers_down page x.was p (state_of c) k a (actor_in (state_of c) a) _ (there c a g.known) g.going y.can (now c d a k g y) x.there (subst (λ m. PointsDown x.was 0 m p) mark h.1.0))
      go (Ok (Right p)) h y = answered c d a k g y tt (gathers_right page x.was p (state_of c) k a (actor_in (state_of c) a) _ (there c a g.known) g.going y.can (now c d a k g y) x.there (subst (λ m. PointsRight x.was 0 m p) mark h.1.0))
      go (Ok (Read next)) h y =
          let last = row_last (state_of c) k a (actor_in (state_of c) a) (there c a g.known) g.going page x.row (ap (λ (z : Actor). z.claim) its) (ap (λ (z : Actor). z.split) its) ready.leaf ready.leaf_is in
          answered c d a k g y tt (gathers_on page x.was next (state_of c) k a (actor_in (state_of c) a) _ (there c a g.known) g.going y.can (now c d a k g y) (subst (λ m. ReadsOn x.was m next) last h.1.0))
      go (Err e) h y = answered c d a k g y tt (gathers_memory page e (state_of c) k a (actor_in (state_of c) a) _ (there c a g.known) g.going y.can (now c d a k g y))

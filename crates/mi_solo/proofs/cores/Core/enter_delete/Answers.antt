use Rattle.std.proofs.Common.{◌≡◌, ◌∙◌, ◌%◌, inl, inr, ap, arith, get_or, length, set, subst, sym, Some}
use Rattle.std.proofs.lemmas.Option.{same_Some}
use Rattle.mi_base.specs.Configuration.{Configuration}
use Rattle.mi_base.specs.History.{updates_of}
use Rattle.mi_base.specs.Permutations.{permutation_of}
use Rattle.mi_board.specs.Boards.{HasRoom, MayCommit, MayDelete}
use Rattle.mi_core.proofs.RefusalLemmas.{room_or_full}
use Rattle.mi_core.specs.Effects.{noted, saw}
use Rattle.mi_core.specs.Events.Event.{delete}
use Rattle.mi_entries.specs.Actors.{Actor}
use Rattle.mi_entries.specs.Records.{home}
use Rattle.mi_tree.specs.declared.answers.Look.{Look}
use Rattle.mi_world.specs.declared.answers.Record.{Record}
use Rattle.mi_world.specs.Pages.{delete_key}
use Rattle.mi_solo.specs.Sections.{rows_at}
use Rattle.mi_solo.specs.States.{Does, actor_in, actor_of, actors_of, node_in, state_of, view_in}
use Rattle.mi_solo.proofs.CanLemmas.{delete_board, delete_commits}
use Rattle.mi_solo.proofs.CoreLemmas.{row_alone, there}
use Rattle.mi_solo.proofs.DeleteSection.{is_deleted, lives}
use Rattle.mi_solo.proofs.LaterLemmas.{linked_at}
use Rattle.mi_solo.proofs.PageLemmas.{page_here}
use Rattle.mi_solo.proofs.cores.Core.enter_delete.Goals as goal

pub returns-then-next-limit : goal.returns-then-next-limit
returns-then-next-limit c =
    let s = c.args.self.now in
    let a = c.args.actor in
    let limit : c.behind-self.inside.updates ≡ s.board.settings.updates = ap (λ (x : Configuration). x.updates) (c.behind-self.view_is ∙ c.settings.ensures) in
    let count : c.look-next.result.at.updates ≡ length (updates_of s.board.log) = ap (λ (l : Look). l.at.updates) c.look-next.ensures in
    let many : length (updates_of s.board.log) ≡ s.board.settings.updates =
    (elim (room_or_full (state_of s) c.requires.kept.sound a (actor_in (state_of s) a) (there s a c.requires.going.known)) as (λ _. length (updates_of s.board.log) ≡ s.board.settings.updates) [ inl h ↦ absurd (omega arith) | inr h ↦ h ]) in (
      record {
        can = (linked_at _ c.requires.linked, many);
        is = row_alone s a c.requires.going.known c.index_mut-me.result.now c.index_mut-me.ensures.value c.meet.new.self (λ (r : Actor). noted c.args.page (saw s.board r)) (ap (actor_of s.board.settings s.board.log a) c.meet.ensures);
      },
      limit,
    )

pub commit_delete-requires-clause-may : goal.commit_delete-requires-clause-may
commit_delete-requires-clause-may c =
    let s = c.args.self.now in
    let same : c.requires.ready.kept ≡ c.args.kept.now = same_Some c.requires.ready.kept c.args.kept.now (sym c.requires.ready.is ∙ c.requires.recorded) in
    let perm : permutation_of c.requires.ready.kept.dists.items ≡ c.permutation-perm.result = ap (λ (x : Record). permutation_of x.dists.items) same ∙ sym c.permutation-perm.ensures.value in
    subst (MayCommit s.board c.args.actor) perm
    (delete_commits (state_of s) c.requires.kept c.args.actor (actor_in (state_of s) c.args.actor) (there s c.args.actor c.requires.going.known) c.args.id c.requires.ready)

pub commit_delete-requires-clause-object : goal.commit_delete-requires-clause-object
commit_delete-requires-clause-object c =
    let s = c.args.self.now in
    let same : c.requires.ready.kept ≡ c.args.kept.now = same_Some c.requires.ready.kept c.args.kept.now (sym c.requires.ready.is ∙ c.requires.recorded) in
    let perm : permutation_of c.requires.ready.kept.dists.items ≡ c.permutation-perm.result = ap (λ (x : Record). permutation_of x.dists.items) same ∙ sym c.permutation-perm.ensures.value in
    subst (MayDelete s.board c.args.id) perm
    (delete_board (state_of s) c.requires.kept c.args.actor (actor_in (state_of s) c.args.actor) (there s c.args.actor c.requires.going.known) c.args.id c.requires.ready)

pub mark_death-requires-clause-living : goal.mark_death-requires-clause-living
mark_death-requires-clause-living c =
    let s = c.args.self.now in
    let a = c.args.actor in
    let limit : c.behind-self.inside.updates ≡ s.board.settings.updates = ap (λ (x : Configuration). x.updates) (c.behind-self.view_is ∙ c.settings.ensures) in
    let count : c.look-next.result.at.updates ≡ length (updates_of s.board.log) = ap (λ (l : Look). l.at.updates) c.look-next.ensures in
    let room : HasRoom s.board = omega arith in
    let here = page_here s c.args.page c.requires.linked c.index_mut.result.now c.index_mut.ensures.value c.in-Some.node c.in-Some.is in
    lives s a c.requires.going.known c.requires.kept c.index_mut-me.result.now c.index_mut-me.ensures.value c.args.page c.in-Some.node here c.args.id c.requires.ready c.args.key c.requires.key c.requires.low c.requires.ends room

pub returns : goal.returns
returns c =
    let s = c.args.self.now in
    let a = c.args.actor in
    let limit : c.behind-self.inside.updates ≡ s.board.settings.updates = ap (λ (x : Configuration). x.updates) (c.behind-self.view_is ∙ c.settings.ensures) in
    let count : c.look-next.result.at.updates ≡ length (updates_of s.board.log) = ap (λ (l : Look). l.at.updates) c.look-next.ensures in
    let room : HasRoom s.board = omega arith in
    let here = page_here s c.args.page c.requires.linked c.index_mut.result.now c.index_mut.ensures.value c.in-Some.node c.in-Some.is in
    let told = c.in-Ok.ensures in
    let n : c.get.result % 16 ≡ home c.args.id = ap home c.get.ensures.same in
    let does = is_deleted s a c.requires.going.known c.requires.kept c.index_mut-me.result.now c.index_mut-me.ensures.value c.args.page c.in-Some.node here c.args.id c.requires.ready c.args.key c.requires.key c.requires.low c.requires.ends room
    c.args.op c.commit_delete.new.self told.1.1.1 c.index_mut-2.result.now c.remove.new.self (subst (λ m. c.index_mut-2.result.now ≡ get_or s.shards.items m c.index_mut-2.result.now) n c.index_mut-2.ensures.value) c.remove.ensures
    c.in-Ok.number told.1.1.0 c.mark_death.new.self c.mark_death.ensures c.commit.new.self c.commit.ensures in (
      subst (λ m. Does (state_of s) a (delete c.args.op c.args.id c.args.page (node_in (state_of s) c.args.page) (rows_at (state_of s) (home c.args.id)) (delete_key (view_in (state_of s) a) c.args.id))
          (record { board = c.commit_delete.new.self; shards = set s.shards.items m c.remove.new.self; pages = set s.pages.items c.args.page (Some c.mark_death.new.self); actors = actors_of c.commit_delete.new.self.settings c.commit_delete.new.self.log 0 (set s.actors.items a c.commit.new.self) })) (sym n) does,
      told.1.1.0,
    )

use Rattle.std.proofs.Common.{◌≡◌, ◌∙◌, ◌<◌, ◌≤◌, ◌%◌, ◌^◌, ap, arith, subst, sym}
use Rattle.std.proofs.lemmas.Option.{same_Some}
use Rattle.mi_base.specs.Permutations.{key_distance}
use Rattle.mi_core.specs.Effects.{noted}
use Rattle.mi_entries.specs.Records.{home}
use Rattle.mi_page.specs.Nodes.{Node}
use Rattle.mi_world.specs.declared.answers.Record.{Record}
use Rattle.mi_world.specs.Pages.{delete_key, key_of_record}
use Rattle.mi_solo.specs.Seeking.{EndsAfter, PointsDown, PointsRight}
use Rattle.mi_solo.specs.States.{actor_in, actor_of, node_in, state_of, view_in}
use Rattle.mi_solo.proofs.CoreLemmas.{row_alone, there}
use Rattle.mi_solo.proofs.DeleteSection.{deletes, recorded}
use Rattle.mi_solo.proofs.DescentLemmas.{has_sibling}
use Rattle.mi_solo.proofs.KeyLemmas.{delete_fits}
use Rattle.mi_solo.proofs.PageLemmas.{node_here, page_here}
use Rattle.mi_solo.proofs.cores.Core.commit_delete.Goals as goal

pub key_in_claim-key-requires-clause-distance : goal.key_in_claim-key-requires-clause-distance
key_in_claim-key-requires-clause-distance c =
    let s = c.args.self.now in
    let a = c.args.actor in
    let told = recorded s a c.requires.going.known c.requires.kept c.args.id c.requires.ready (c.get.result % 16) (ap home c.get.ensures.same) c.index.result.now c.index.ensures c.record.result c.record.ensures ∙ c.in-Some.is in
    let same : c.requires.ready.kept ≡ c.in-Some.kept = same_Some c.requires.ready.kept c.in-Some.kept (sym c.requires.ready.is ∙ told) in
    let fits = delete_fits (state_of s) c.requires.kept a (actor_in (state_of s) a) (there s a c.requires.going.known) c.args.id c.requires.ready in
    subst (λ (x : Record). key_distance x.dists.items < 2 ^ 27) same fits.0

pub key_in_claim-key-requires-clause-birth : goal.key_in_claim-key-requires-clause-birth
key_in_claim-key-requires-clause-birth c =
    let s = c.args.self.now in
    let a = c.args.actor in
    let told = recorded s a c.requires.going.known c.requires.kept c.args.id c.requires.ready (c.get.result % 16) (ap home c.get.ensures.same) c.index.result.now c.index.ensures c.record.result c.record.ensures ∙ c.in-Some.is in
    let same : c.requires.ready.kept ≡ c.in-Some.kept = same_Some c.requires.ready.kept c.in-Some.kept (sym c.requires.ready.is ∙ told) in
    let fits = delete_fits (state_of s) c.requires.kept a (actor_in (state_of s) a) (there s a c.requires.going.known) c.args.id c.requires.ready in
    subst (λ (x : Record). x.birth < 2 ^ 30) same fits.1

pub seek-requires-clause-low : goal.seek-requires-clause-low
seek-requires-clause-low c h =
    let s = c.args.self.now in
    let a = c.args.actor in
    let told = recorded s a c.requires.going.known c.requires.kept c.args.id c.requires.ready (c.get.result % 16) (ap home c.get.ensures.same) c.index.result.now c.index.ensures c.record.result c.record.ensures ∙ c.in-Some.is in
    let v = view_in (state_of s) a in
    let key : c.key_in_claim-key.result ≡ delete_key v c.args.id = c.key_in_claim-key.ensures ∙ ap (key_of_record s.board.settings v.leaf c.args.id) (sym told) in
    let is = node_here s c.args.page c.requires.linked c.index-2.result.now c.index-2.ensures c.in-Some-index.node c.in-Some-index.is in
    let low = ap (λ (n : Node). n.low) is in
    omega (arith, low, key, c.requires.low)

pub seek-requires-clause-sibling : goal.seek-requires-clause-sibling
seek-requires-clause-sibling c =
    let s = c.args.self.now in
    let here = page_here s c.args.page c.requires.linked c.index-2.result.now c.index-2.ensures c.in-Some-index.node c.in-Some-index.is in
    has_sibling (state_of s) c.requires.kept c.args.page c.in-Some-index.node here

pub enter_delete-requires-clause-recorded : goal.enter_delete-requires-clause-recorded
enter_delete-requires-clause-recorded c =
    let s = c.args.self.now in
    let a = c.args.actor in
    let told = recorded s a c.requires.going.known c.requires.kept c.args.id c.requires.ready (c.get.result % 16) (ap home c.get.ensures.same) c.index.result.now c.index.ensures c.record.result c.record.ensures ∙ c.in-Some.is in
    told

pub enter_delete-requires-clause-key : goal.enter_delete-requires-clause-key
enter_delete-requires-clause-key c =
    let s = c.args.self.now in
    let a = c.args.actor in
    let told = recorded s a c.requires.going.known c.requires.kept c.args.id c.requires.ready (c.get.result % 16) (ap home c.get.ensures.same) c.index.result.now c.index.ensures c.record.result c.record.ensures ∙ c.in-Some.is in
    let v = view_in (state_of s) a in
    let key : c.key_in_claim-key.result ≡ delete_key v c.args.id = c.key_in_claim-key.ensures ∙ ap (key_of_record s.board.settings v.leaf c.args.id) (sym told) in
    let is = node_here s c.args.page c.requires.linked c.index-2.result.now c.index-2.ensures c.in-Some-index.node c.in-Some-index.is in
    key

pub enter_delete-requires-clause-low : goal.enter_delete-requires-clause-low
enter_delete-requires-clause-low c =
    let s = c.args.self.now in
    let a = c.args.actor in
    let told = recorded s a c.requires.going.known c.requires.kept c.args.id c.requires.ready (c.get.result % 16) (ap home c.get.ensures.same) c.index.result.now c.index.ensures c.record.result c.record.ensures ∙ c.in-Some.is in
    let v = view_in (state_of s) a in
    let key : c.key_in_claim-key.result ≡ delete_key v c.args.id = c.key_in_claim-key.ensures ∙ ap (key_of_record s.board.settings v.leaf c.args.id) (sym told) in
    let is = node_here s c.args.page c.requires.linked c.index-2.result.now c.index-2.ensures c.in-Some-index.node c.in-Some-index.is in
    subst (λ k. (node_in (state_of s) c.args.page).low ≤ k) (sym key) c.requires.low

pub enter_delete-requires-clause-ends : goal.enter_delete-requires-clause-ends
enter_delete-requires-clause-ends c =
    let s = c.args.self.now in
    let a = c.args.actor in
    let told = recorded s a c.requires.going.known c.requires.kept c.args.id c.requires.ready (c.get.result % 16) (ap home c.get.ensures.same) c.index.result.now c.index.ensures c.record.result c.record.ensures ∙ c.in-Some.is in
    let v = view_in (state_of s) a in
    let key : c.key_in_claim-key.result ≡ delete_key v c.args.id = c.key_in_claim-key.ensures ∙ ap (key_of_record s.board.settings v.leaf c.args.id) (sym told) in
    let is = node_here s c.args.page c.requires.linked c.index-2.result.now c.index-2.ensures c.in-Some-index.node c.in-Some-index.is in
    subst (λ n. EndsAfter n 0 c.key_in_claim-key.result) (sym is) c.in-Here.ensures

pub returns-in-Down : goal.returns-in-Down
returns-in-Down c =
    let s = c.args.self.now in
    let a = c.args.actor in
    let told = recorded s a c.requires.going.known c.requires.kept c.args.id c.requires.ready (c.get.result % 16) (ap home c.get.ensures.same) c.index.result.now c.index.ensures c.record.result c.record.ensures ∙ c.in-Some.is in
    let v = view_in (state_of s) a in
    let key : c.key_in_claim-key.result ≡ delete_key v c.args.id = c.key_in_claim-key.ensures ∙ ap (key_of_record s.board.settings v.leaf c.args.id) (sym told) in
    let is = node_here s c.args.page c.requires.linked c.index-2.result.now c.index-2.ensures c.in-Some-index.node c.in-Some-index.is in
    let here = page_here s c.args.page c.requires.linked c.index-2.result.now c.index-2.ensures c.in-Some-index.node c.in-Some-index.is in (
      record {
        can = (c.in-Some-index.node, here);
        is = row_alone s a c.requires.going.known c.index_mut.result.now c.index_mut.ensures.value c.note.new.self (noted c.args.page) (ap (actor_of s.board.settings s.board.log a) c.note.ensures);
      },
      subst (λ n. PointsDown n 0 (delete_key v c.args.id) c.in-Down.child) (sym is) (subst (λ k. PointsDown c.in-Some-index.node 0 k c.in-Down.child) key c.in-Down.ensures),
    )

pub returns-in-Right : goal.returns-in-Right
returns-in-Right c =
    let s = c.args.self.now in
    let a = c.args.actor in
    let told = recorded s a c.requires.going.known c.requires.kept c.args.id c.requires.ready (c.get.result % 16) (ap home c.get.ensures.same) c.index.result.now c.index.ensures c.record.result c.record.ensures ∙ c.in-Some.is in
    let v = view_in (state_of s) a in
    let key : c.key_in_claim-key.result ≡ delete_key v c.args.id = c.key_in_claim-key.ensures ∙ ap (key_of_record s.board.settings v.leaf c.args.id) (sym told) in
    let is = node_here s c.args.page c.requires.linked c.index-2.result.now c.index-2.ensures c.in-Some-index.node c.in-Some-index.is in
    let here = page_here s c.args.page c.requires.linked c.index-2.result.now c.index-2.ensures c.in-Some-index.node c.in-Some-index.is in (
      record {
        can = (c.in-Some-index.node, here);
        is = row_alone s a c.requires.going.known c.index_mut-in-Right.result.now c.index_mut-in-Right.ensures.value c.note-in-Right.new.self (noted c.args.page) (ap (actor_of s.board.settings s.board.log a) c.note-in-Right.ensures);
      },
      subst (λ n. PointsRight n 0 (delete_key v c.args.id) c.in-Right.next) (sym is) (subst (λ k. PointsRight c.in-Some-index.node 0 k c.in-Right.next) key c.in-Right.ensures),
    )

pub returns-in-Here : goal.returns-in-Here
returns-in-Here c =
    let s = c.args.self.now in
    let a = c.args.actor in
    let told = recorded s a c.requires.going.known c.requires.kept c.args.id c.requires.ready (c.get.result % 16) (ap home c.get.ensures.same) c.index.result.now c.index.ensures c.record.result c.record.ensures ∙ c.in-Some.is in
    let v = view_in (state_of s) a in
    let key : c.key_in_claim-key.result ≡ delete_key v c.args.id = c.key_in_claim-key.ensures ∙ ap (key_of_record s.board.settings v.leaf c.args.id) (sym told) in
    let is = node_here s c.args.page c.requires.linked c.index-2.result.now c.index-2.ensures c.in-Some-index.node c.in-Some-index.is in
    deletes (state_of s) a c.args.page c.args.op c.args.id c.enter_delete.result (state_of c.enter_delete.new.self)
    (subst (λ k. EndsAfter (node_in (state_of s) c.args.page) 0 k) key (subst (λ n. EndsAfter n 0 c.key_in_claim-key.result) (sym is) c.in-Here.ensures)) c.enter_delete.ensures

use Rattle.std.proofs.Common.{◌∙◌, Option, refl, ap, subst, sym}
use Rattle.atomic_table.specs.Seated.{TableId}
use Rattle.mi_base.specs.Configuration.{Configuration}
use Rattle.mi_entries.specs.Records.{Rows}
use Rattle.mi_solo.specs.declared.rows.ActorRow.{ActorRow}
use Rattle.mi_world.specs.declared.answers.Commit.{Commit}
use Rattle.mi_world.specs.Pages.{CommitsDelete}
use Rattle.mi_tree.specs.declared.answers.Look.{Look}
use Rattle.mi_hall.specs.Commits.{DeletesRow, FitsKey, MayEnterDelete, SeeksRow}
use Rattle.mi_hall.specs.Passes.{AreNear, IsPass}
use Rattle.mi_hall.proofs.AbsorbedLemmas.{kept_gone}
use Rattle.mi_hall.proofs.CommitGives.{commit_near, commit_pass, taken_both}
use Rattle.mi_hall.proofs.DeleteCall.{asked, asks_of, deletes_cells, deletes_does, deletes_keep, deletes_told, has_key, held, may_enter, seek_low, seeks_does, seeks_row, seeks_told}
use Rattle.mi_hall.proofs.PageSection.{named_before, named_here, sibling_here, turned_near, turned_pass}
use Rattle.mi_hall.proofs.PassLemmas.{given_at, told_of, turned_cells, word_stays}
use Rattle.mi_hall.proofs.passes.Pass.commit_delete.Goals as goal

pub take_page-node-requires-clause-table : goal.take_page-node-requires-clause-table
take_page-node-requires-clause-table g c = named_before c.self.inside.seat.me c.self.inside.seat.table_id c.args.latches.now.table.shared.table_id c.args.self.now _ c.args.latches.now.words c.self.invariant.1 c.self.view_is c.requires.table _ c.requires.named

pub take_page-node-requires-clause-named : goal.take_page-node-requires-clause-named
take_page-node-requires-clause-named g c = named_here c.self.inside.seat.me c.self.inside.seat.table_id c.args.self.now c.self.view_is _ c.requires.named

pub kept_key-key-requires : goal.kept_key-key-requires
kept_key-key-requires g c =
    let p = subst (λ (z : Option Rows). IsPass c.self.inside.seat.me c.self.inside.actor c.self.inside.row z c.self.inside.told) c.in-Some.is c.self.invariant.0 in
    let e = c.take_page-node.ensures in
    let start = asked c.self.inside.seat.me _ _ c.self.view_is c.args.page c.args.id c.requires.ready c.requires.named c.requires.low _ refl in
    subst (λ (z : Configuration). FitsKey z c.self.inside.row c.in-Some.rows c.args.id) (sym c.args.latches.now.same) (has_key _ _ _ _ _ _ _ _ _ p e.took e.told _ _ start)

pub seek_row-requires-clause-low : goal.seek_row-requires-clause-low
seek_row-requires-clause-low g c =
    let p = subst (λ (z : Option Rows). IsPass c.self.inside.seat.me c.self.inside.actor c.self.inside.row z c.self.inside.told) c.in-Some.is c.self.invariant.0 in
    let e = c.take_page-node.ensures in
    let start = asked c.self.inside.seat.me _ _ c.self.view_is c.args.page c.args.id c.requires.ready c.requires.named c.requires.low _ refl in
    let s = asks_of _ _ _ _ _ _ _ _ _ p e.took e.told _ _ start _ c.args.latches.now.same _ c.kept_key-key.ensures in
    seek_low _ _ _ _ _ _ _ _ _ p e.took e.told _ _ s

pub seek_row-requires-clause-sibling : goal.seek_row-requires-clause-sibling
seek_row-requires-clause-sibling g c =
    let p = subst (λ (z : Option Rows). IsPass c.self.inside.seat.me c.self.inside.actor c.self.inside.row z c.self.inside.told) c.in-Some.is c.self.invariant.0 in
    let e = c.take_page-node.ensures in
    let start = asked c.self.inside.seat.me _ _ c.self.view_is c.args.page c.args.id c.requires.ready c.requires.named c.requires.low _ refl in
    sibling_here _ _ _ _ _ _ _ _ _ p e.took e.told

pub give_page-requires-clause-table : goal.give_page-requires-clause-table
give_page-requires-clause-table g c =
    let x = named_before c.self.inside.seat.me c.self.inside.seat.table_id c.args.latches.now.table.shared.table_id c.args.self.now _ c.args.latches.now.words c.self.invariant.1 c.self.view_is c.requires.table _ c.requires.named in
    (c.take_page-node.ensures.table.0 ∙ x.0, x.1)

pub give_page-requires-clause-last : goal.give_page-requires-clause-last
give_page-requires-clause-last g c = (_, c.take_page-node.ensures.last)

pub give_page-requires-clause-does : goal.give_page-requires-clause-does
give_page-requires-clause-does g c =
    let p = subst (λ (z : Option Rows). IsPass c.self.inside.seat.me c.self.inside.actor c.self.inside.row z c.self.inside.told) c.in-Some.is c.self.invariant.0 in
    let e = c.take_page-node.ensures in
    let start = asked c.self.inside.seat.me _ _ c.self.view_is c.args.page c.args.id c.requires.ready c.requires.named c.requires.low _ refl in
    let s = asks_of _ _ _ _ _ _ _ _ _ p e.took e.told _ _ start _ c.args.latches.now.same _ c.kept_key-key.ensures in
    let d = subst (λ (o : Option Commit). SeeksRow c.args.page c.kept_key-key.result c.take_page-node.result c.self.inside.row o c.seek_row.new.row) c.in-Some-seek_row.is c.seek_row.ensures in
    seeks_does _ _ _ _ _ _ _ _ _ p e.took e.told _ _ s c.seek_row.new.row c.in-Some-seek_row.answer d e.last

pub invariant_of-self : goal.invariant_of-self
invariant_of-self g c =
    let p = subst (λ (z : Option Rows). IsPass c.self.inside.seat.me c.self.inside.actor c.self.inside.row z c.self.inside.told) c.in-Some.is c.self.invariant.0 in
    let e = c.take_page-node.ensures in
    let start = asked c.self.inside.seat.me _ _ c.self.view_is c.args.page c.args.id c.requires.ready c.requires.named c.requires.low _ refl in
    let s = asks_of _ _ _ _ _ _ _ _ _ p e.took e.told _ _ start _ c.args.latches.now.same _ c.kept_key-key.ensures in
    let d = subst (λ (o : Option Commit). SeeksRow c.args.page c.kept_key-key.result c.take_page-node.result c.self.inside.row o c.seek_row.new.row) c.in-Some-seek_row.is c.seek_row.ensures in
    let x = named_before c.self.inside.seat.me c.self.inside.seat.table_id c.args.latches.now.table.shared.table_id c.args.self.now _ c.args.latches.now.words c.self.invariant.1 c.self.view_is c.requires.table _ c.requires.named in
    let made = seeks_row c.args.page c.kept_key-key.result c.take_page-node.result c.self.inside.row c.seek_row.new.row c.in-Some-seek_row.answer d in (
      turned_pass _ _ _ _ _ _ _ _ _ p e.took e.told c.give_page.new.seat.me c.seek_row.new.row c.take_page-node.result c.give_page.ensures.gave (ap (λ (z : ActorRow). z.shard) made),
      subst (λ (i : TableId). AreNear i.words c.give_page.new.seat.me.0.mine.named) (sym (c.give_page.ensures.table.0 ∙ e.table.0))
          (turned_near _ _ _ _ _ _ _ _ _ p e.took e.told c.give_page.new.seat.me c.seek_row.new.row c.take_page-node.result c.give_page.ensures.gave _ (ap (λ (i : TableId). i.words) x.0 ∙ c.args.latches.now.words) c.self.invariant.1),
      turned_cells _ _ c.give_page.new.seat.me _ _ c.seek_row.new.row _ _ _ c.take_page-node.result c.take_page-node.result p c.self.invariant.2 e.took c.give_page.ensures.gave (ap (λ (z : ActorRow). z.pin) made),
      word_stays _ _ c.self.inside.row.hand.fresh c.seek_row.new.row.hand.fresh (c.give_page.ensures.table.0 ∙ e.table.0) (ap (λ (z : ActorRow). z.hand.fresh) made) c.self.invariant.3,
      given_at _ _ _ c.give_page.ensures.gave (given_at _ _ _ e.took c.self.invariant.4),
      kept_gone _ _ _ c.give_page.ensures.gave (kept_gone _ _ _ e.took c.self.invariant.5),
    )

pub returns-in-Some-seek_row-clause-told : goal.returns-in-Some-seek_row-clause-told
returns-in-Some-seek_row-clause-told g c =
    let p = subst (λ (z : Option Rows). IsPass c.self.inside.seat.me c.self.inside.actor c.self.inside.row z c.self.inside.told) c.in-Some.is c.self.invariant.0 in
    let e = c.take_page-node.ensures in
    let start = asked c.self.inside.seat.me _ _ c.self.view_is c.args.page c.args.id c.requires.ready c.requires.named c.requires.low _ refl in
    let s = asks_of _ _ _ _ _ _ _ _ _ p e.took e.told _ _ start _ c.args.latches.now.same _ c.kept_key-key.ensures in
    let d = subst (λ (o : Option Commit). SeeksRow c.args.page c.kept_key-key.result c.take_page-node.result c.self.inside.row o c.seek_row.new.row) c.in-Some-seek_row.is c.seek_row.ensures in
    told_of (λ v w. CommitsDelete v w c.args.page c.args.op c.args.id c.in-Some-seek_row.answer) c.self.inside.seat.me.0 c.give_page.new.seat.me.0 _ _ c.self.view_is
    (seeks_told _ _ _ _ _ _ _ _ _ p e.took e.told _ _ s c.seek_row.new.row c.give_page.new.seat.me c.give_page.ensures.gave c.args.op c.in-Some-seek_row.answer d)

pub delete_row-answer-requires : goal.delete_row-answer-requires
delete_row-answer-requires g c =
    let p = subst (λ (z : Option Rows). IsPass c.self.inside.seat.me c.self.inside.actor c.self.inside.row z c.self.inside.told) c.in-Some.is c.self.invariant.0 in
    let e = c.take_page-node.ensures in
    let start = asked c.self.inside.seat.me _ _ c.self.view_is c.args.page c.args.id c.requires.ready c.requires.named c.requires.low _ refl in
    let s = asks_of _ _ _ _ _ _ _ _ _ p e.took e.told _ _ start _ c.args.latches.now.same _ c.kept_key-key.ensures in
    let h = subst (λ (o : Option Commit). SeeksRow c.args.page c.kept_key-key.result c.take_page-node.result c.self.inside.row o c.seek_row.new.row) c.in_default-seek_row.is c.seek_row.ensures in
    let f = c.take_board-board.ensures in
    let t = taken_both _ c.self.inside.seat.me c.take_page-node.new.seat.me c.take_board-board.new.seat.me c.args.page c.take_page-node.result c.take_board-board.result e.took e.last f.took f.told f.last in
    subst (λ q. MayEnterDelete q c.args.id c.kept_key-key.result c.take_board-board.result c.take_page-node.result c.in-Some.rows) p.actor_is (may_enter _ _ _ _ _ _ _ _ _ _ p t _ _ s h.0)

pub give_both-requires-clause-table : goal.give_both-requires-clause-table
give_both-requires-clause-table g c =
    let x = named_before c.self.inside.seat.me c.self.inside.seat.table_id c.args.latches.now.table.shared.table_id c.args.self.now _ c.args.latches.now.words c.self.invariant.1 c.self.view_is c.requires.table _ c.requires.named in
    (c.take_board-board.ensures.table.0 ∙ c.take_page-node.ensures.table.0 ∙ x.0, x.1)

pub give_both-requires-clause-does : goal.give_both-requires-clause-does
give_both-requires-clause-does g c =
    let p = subst (λ (z : Option Rows). IsPass c.self.inside.seat.me c.self.inside.actor c.self.inside.row z c.self.inside.told) c.in-Some.is c.self.invariant.0 in
    let e = c.take_page-node.ensures in
    let start = asked c.self.inside.seat.me _ _ c.self.view_is c.args.page c.args.id c.requires.ready c.requires.named c.requires.low _ refl in
    let s = asks_of _ _ _ _ _ _ _ _ _ p e.took e.told _ _ start _ c.args.latches.now.same _ c.kept_key-key.ensures in
    let h = subst (λ (o : Option Commit). SeeksRow c.args.page c.kept_key-key.result c.take_page-node.result c.self.inside.row o c.seek_row.new.row) c.in_default-seek_row.is c.seek_row.ensures in
    let f = c.take_board-board.ensures in
    let t = taken_both _ c.self.inside.seat.me c.take_page-node.new.seat.me c.take_board-board.new.seat.me c.args.page c.take_page-node.result c.take_board-board.result e.took e.last f.took f.told f.last in
    let w = c.delete_row-answer.new in
    let d = subst (λ q. DeletesRow q c.args.page c.args.op c.args.id c.kept_key-key.result c.take_board-board.result c.take_page-node.result c.in-Some.rows c.self.inside.row c.delete_row-answer.result w.board w.node w.rows w.row) (sym p.actor_is)
    (subst (λ (z : ActorRow). DeletesRow c.self.inside.actor c.args.page c.args.op c.args.id c.kept_key-key.result c.take_board-board.result c.take_page-node.result c.in-Some.rows z c.delete_row-answer.result w.board w.node w.rows w.row) h.1 c.delete_row-answer.ensures) in
    deletes_does _ _ _ _ _ _ _ _ _ _ p t _ _ s h.0 _ w.row w.board w.node w.rows c.delete_row-answer.result d

pub invariant_of-self-2 : goal.invariant_of-self-2
invariant_of-self-2 g c =
    let p = subst (λ (z : Option Rows). IsPass c.self.inside.seat.me c.self.inside.actor c.self.inside.row z c.self.inside.told) c.in-Some.is c.self.invariant.0 in
    let e = c.take_page-node.ensures in
    let start = asked c.self.inside.seat.me _ _ c.self.view_is c.args.page c.args.id c.requires.ready c.requires.named c.requires.low _ refl in
    let s = asks_of _ _ _ _ _ _ _ _ _ p e.took e.told _ _ start _ c.args.latches.now.same _ c.kept_key-key.ensures in
    let h = subst (λ (o : Option Commit). SeeksRow c.args.page c.kept_key-key.result c.take_page-node.result c.self.inside.row o c.seek_row.new.row) c.in_default-seek_row.is c.seek_row.ensures in
    let f = c.take_board-board.ensures in
    let t = taken_both _ c.self.inside.seat.me c.take_page-node.new.seat.me c.take_board-board.new.seat.me c.args.page c.take_page-node.result c.take_board-board.result e.took e.last f.took f.told f.last in
    let w = c.delete_row-answer.new in
    let d = subst (λ q. DeletesRow q c.args.page c.args.op c.args.id c.kept_key-key.result c.take_board-board.result c.take_page-node.result c.in-Some.rows c.self.inside.row c.delete_row-answer.result w.board w.node w.rows w.row) (sym p.actor_is)
    (subst (λ (z : ActorRow). DeletesRow c.self.inside.actor c.args.page c.args.op c.args.id c.kept_key-key.result c.take_board-board.result c.take_page-node.result c.in-Some.rows z c.delete_row-answer.result w.board w.node w.rows w.row) h.1 c.delete_row-answer.ensures) in
    let keeps = deletes_keep c.self.inside.seat.me.0.actor c.args.page c.args.op c.args.id c.kept_key-key.result c.take_board-board.result w.board c.take_page-node.result w.node c.in-Some.rows w.rows c.self.inside.row w.row c.delete_row-answer.result d in
    let stays = c.give_both.ensures.table.0 ∙ f.table.0 ∙ e.table.0 in
    let mine = held _ _ _ _ _ _ _ _ _ _ p t _ _ s h.0 in (
      commit_pass _ _ _ _ _ _ _ _ _ _ _ p mine t w.row w.board w.node w.rows c.give_both.new.seat.me c.give_both.ensures.gave keeps.shard,
      subst (λ (i : TableId). AreNear i.words c.give_both.new.seat.me.0.mine.named) (sym stays) (commit_near _ _ _ _ _ _ _ _ _ _ _ p mine t w.row w.board w.node w.rows c.give_both.new.seat.me c.give_both.ensures.gave _ c.self.invariant.1),
      deletes_cells _ _ _ _ _ _ _ _ _ _ p t _ _ s h.0 _ w.row w.board w.node w.rows c.give_both.new.seat.me c.give_both.ensures.gave c.delete_row-answer.result d,
      word_stays _ _ c.self.inside.row.hand.fresh w.row.hand.fresh stays keeps.fresh c.self.invariant.3,
      given_at _ _ _ c.give_both.ensures.gave (ap (λ (z : Look). z.at) c.look.ensures),
      kept_gone _ _ _ c.give_both.ensures.gave (kept_gone _ _ _ f.took (kept_gone _ _ _ e.took c.self.invariant.5)),
    )

pub returns-clause-told : goal.returns-clause-told
returns-clause-told g c =
    let p = subst (λ (z : Option Rows). IsPass c.self.inside.seat.me c.self.inside.actor c.self.inside.row z c.self.inside.told) c.in-Some.is c.self.invariant.0 in
    let e = c.take_page-node.ensures in
    let start = asked c.self.inside.seat.me _ _ c.self.view_is c.args.page c.args.id c.requires.ready c.requires.named c.requires.low _ refl in
    let s = asks_of _ _ _ _ _ _ _ _ _ p e.took e.told _ _ start _ c.args.latches.now.same _ c.kept_key-key.ensures in
    let h = subst (λ (o : Option Commit). SeeksRow c.args.page c.kept_key-key.result c.take_page-node.result c.self.inside.row o c.seek_row.new.row) c.in_default-seek_row.is c.seek_row.ensures in
    let f = c.take_board-board.ensures in
    let t = taken_both _ c.self.inside.seat.me c.take_page-node.new.seat.me c.take_board-board.new.seat.me c.args.page c.take_page-node.result c.take_board-board.result e.took e.last f.took f.told f.last in
    let w = c.delete_row-answer.new in
    let d = subst (λ q. DeletesRow q c.args.page c.args.op c.args.id c.kept_key-key.result c.take_board-board.result c.take_page-node.result c.in-Some.rows c.self.inside.row c.delete_row-answer.result w.board w.node w.rows w.row) (sym p.actor_is)
    (subst (λ (z : ActorRow). DeletesRow c.self.inside.actor c.args.page c.args.op c.args.id c.kept_key-key.result c.take_board-board.result c.take_page-node.result c.in-Some.rows z c.delete_row-answer.result w.board w.node w.rows w.row) h.1 c.delete_row-answer.ensures) in
    told_of (λ v z. CommitsDelete v z c.args.page c.args.op c.args.id c.delete_row-answer.result) c.self.inside.seat.me.0 c.give_both.new.seat.me.0 _ _ c.self.view_is
    (deletes_told _ _ _ _ _ _ _ _ _ _ p t _ _ s h.0 _ w.row w.board w.node w.rows c.give_both.new.seat.me c.give_both.ensures.gave c.delete_row-answer.result d)

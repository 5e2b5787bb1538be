use Rattle.std.proofs.Common.{◌≡◌, ◌∙◌, ◌≤◌, ◌<◌, ◌%◌, ◌^◌, IsTrue, ap, arith, length, refl, subst, sym}
use Rattle.atomic_table.specs.Seated.{TableId}
use Rattle.atomic_table.specs.Table.{rest}
use Rattle.mi_base.specs.Configuration.{Configuration}
use Rattle.mi_base.specs.Prefixes.{all_below}
use Rattle.mi_entries.specs.Records.{home}
use Rattle.mi_latch.specs.Shows.{Returns}
use Rattle.mi_latch.specs.Views.{Doing, Seated}
use Rattle.mi_latch.specs.declared.slots.Slot.TheVariants.{OfBoard}
use Rattle.mi_page.specs.Routes.{IsChild}
use Rattle.mi_solo.specs.declared.rows.ActorRow.{ActorRow}
use Rattle.mi_world.specs.declared.answers.Commit.TheVariants as commit
use Rattle.mi_world.specs.Pages.{CommitsInsert, MayInsert, MaySeek}
use Rattle.mi_solo.specs.CommitRows.{InsertsRow, MayEnter, key_in_row, next_birth}
use Rattle.mi_hall.specs.CommitRows.{giving_beside}
use Rattle.mi_hall.specs.Passes.{AreNear, IsPass, PassState}
use Rattle.mi_hall.specs.Seats.{seat_view}
use Rattle.mi_hall.proofs.AbsorbedLemmas.{kept_gone}
use Rattle.mi_hall.proofs.CommitPasses.{beside_returns, both_end, ended_cells, ended_near, ended_pass, page_goes, page_last, taken}
use Rattle.mi_hall.proofs.InsertCall.{down_claims, down_distance, down_fits, down_low, down_told, inserts_does, inserts_keep, inserts_leave, inserts_told, may_hand}
use Rattle.mi_hall.proofs.PassLemmas.{given_at, told_of, turned_cells, word_stays}
use Rattle.mi_hall.proofs.PageSection.{named_before, named_here, noted_does, turned_near, turned_pass}
use Rattle.mi_hall.proofs.passes.Pass.commit_insert.Goals as goal

pub take_page-node-requires-clause-table : goal.take_page-node-requires-clause-table
take_page-node-requires-clause-table g c =
    named_before c.self.inside.seat.me c.self.inside.seat.table_id c.args.latches.now.table.shared.table_id c.args.self.now _ c.args.latches.now.words c.self.invariant.1 c.self.view_is c.requires.table _ c.requires.seeks.named

pub take_page-node-requires-clause-named : goal.take_page-node-requires-clause-named
take_page-node-requires-clause-named g c = named_here c.self.inside.seat.me c.self.inside.seat.table_id c.args.self.now c.self.view_is _ c.requires.seeks.named

pub key_of_row-key-requires-clause-claim : goal.key_of_row-key-requires-clause-claim
key_of_row-key-requires-clause-claim g c =
    let e = c.take_page-node.ensures in
    let may = subst (λ (z : PassState). MayInsert (seat_view z.sight) c.args.id c.args.vector.now c.args.dists.now.items) (sym c.self.view_is) c.requires.ready in
    let seeks = subst (λ (z : PassState). MaySeek (seat_view z.sight) c.args.page c.args.dists.now.items c.args.id) (sym c.self.view_is) c.requires.seeks in
    down_claims _ c.self.inside.seat.me c.take_page-node.new.seat.me c.args.page c.take_page-node.result _ c.self.inside.row _ _ c.self.invariant.0 e.took e.told c.args.id c.args.vector.now c.args.dists.now.items may seeks

pub key_of_row-key-requires-clause-depth : goal.key_of_row-key-requires-clause-depth
key_of_row-key-requires-clause-depth g c p h =
    let e = c.take_page-node.ensures in
    let may = subst (λ (z : PassState). MayInsert (seat_view z.sight) c.args.id c.args.vector.now c.args.dists.now.items) (sym c.self.view_is) c.requires.ready in
    let seeks = subst (λ (z : PassState). MaySeek (seat_view z.sight) c.args.page c.args.dists.now.items c.args.id) (sym c.self.view_is) c.requires.seeks in
    subst (λ (x : Configuration). length p ≤ x.levels) (sym c.args.latches.now.same) (down_fits _ c.self.inside.seat.me c.take_page-node.new.seat.me c.args.page c.take_page-node.result _ c.self.inside.row _ _ c.self.invariant.0 e.took e.told c.args.id c.args.vector.now c.args.dists.now.items may seeks p h).0

pub key_of_row-key-requires-clause-pivots : goal.key_of_row-key-requires-clause-pivots
key_of_row-key-requires-clause-pivots g c p h =
    let e = c.take_page-node.ensures in
    let may = subst (λ (z : PassState). MayInsert (seat_view z.sight) c.args.id c.args.vector.now c.args.dists.now.items) (sym c.self.view_is) c.requires.ready in
    let seeks = subst (λ (z : PassState). MaySeek (seat_view z.sight) c.args.page c.args.dists.now.items c.args.id) (sym c.self.view_is) c.requires.seeks in
    subst (λ (x : Configuration). IsTrue (all_below (length x.pivots) p)) (sym c.args.latches.now.same) (down_fits _ c.self.inside.seat.me c.take_page-node.new.seat.me c.args.page c.take_page-node.result _ c.self.inside.row _ _ c.self.invariant.0 e.took e.told c.args.id c.args.vector.now c.args.dists.now.items may seeks p h).1

pub key_of_row-key-requires-clause-distance : goal.key_of_row-key-requires-clause-distance
key_of_row-key-requires-clause-distance g c =
    let e = c.take_page-node.ensures in
    let may = subst (λ (z : PassState). MayInsert (seat_view z.sight) c.args.id c.args.vector.now c.args.dists.now.items) (sym c.self.view_is) c.requires.ready in
    let seeks = subst (λ (z : PassState). MaySeek (seat_view z.sight) c.args.page c.args.dists.now.items c.args.id) (sym c.self.view_is) c.requires.seeks in
    down_distance _ c.self.inside.seat.me c.take_page-node.new.seat.me c.args.page c.take_page-node.result _ c.self.inside.row _ _ c.self.invariant.0 e.took e.told c.args.id c.args.vector.now c.args.dists.now.items may seeks

pub child-child-requires-clause-from_low : goal.child-child-requires-clause-from_low
child-child-requires-clause-from_low g c =
    let e = c.take_page-node.ensures in
    let may = subst (λ (z : PassState). MayInsert (seat_view z.sight) c.args.id c.args.vector.now c.args.dists.now.items) (sym c.self.view_is) c.requires.ready in
    let seeks = subst (λ (z : PassState). MaySeek (seat_view z.sight) c.args.page c.args.dists.now.items c.args.id) (sym c.self.view_is) c.requires.seeks in
    let high : 0 < c.take_page-node.result.level = omega (arith, c.level.ensures, c.if-level-gt0.true) in
    let key : c.key_of_row-key.result ≡ key_in_row c.args.latches.now.table.shared.key c.self.inside.row c.args.dists.now.items c.args.id 0 =
    c.key_of_row-key.ensures ∙ ap (λ (x : Configuration). key_in_row x c.self.inside.row c.args.dists.now.items c.args.id 0) c.args.latches.now.same in
    let low = down_low _ c.self.inside.seat.me c.take_page-node.new.seat.me c.args.page c.take_page-node.result _ c.self.inside.row _ _ c.self.invariant.0 e.took e.told c.args.id c.args.vector.now c.args.dists.now.items may seeks high in
    omega (arith, low, key)

pub give_page-requires-clause-table : goal.give_page-requires-clause-table
give_page-requires-clause-table g c =
    let x = named_before c.self.inside.seat.me c.self.inside.seat.table_id c.args.latches.now.table.shared.table_id c.args.self.now _ c.args.latches.now.words c.self.invariant.1 c.self.view_is c.requires.table _ c.requires.seeks.named in
    (c.take_page-node.ensures.table.0 ∙ x.0, x.1)

pub give_page-requires-clause-does : goal.give_page-requires-clause-does
give_page-requires-clause-does g c =
    let e = c.take_page-node.ensures in
    noted_does _ c.self.inside.seat.me c.take_page-node.new.seat.me c.args.page c.take_page-node.result _ c.self.inside.row _ _ c.self.invariant.0 e.took e.told c.note.new.self c.note.ensures c.take_page-node.result refl e.last

pub invariant_of-self : goal.invariant_of-self
invariant_of-self g c =
    let e = c.take_page-node.ensures in
    let gave = c.give_page.ensures.gave in
    let x = named_before c.self.inside.seat.me c.self.inside.seat.table_id c.args.latches.now.table.shared.table_id c.args.self.now _ c.args.latches.now.words c.self.invariant.1 c.self.view_is c.requires.table _ c.requires.seeks.named in (
      turned_pass _ c.self.inside.seat.me c.take_page-node.new.seat.me c.args.page c.take_page-node.result _ c.self.inside.row _ _ c.self.invariant.0 e.took e.told c.give_page.new.seat.me c.note.new.self c.take_page-node.result gave (ap (λ (z : ActorRow). z.shard) c.note.ensures),
      subst (λ (t : TableId). AreNear t.words c.give_page.new.seat.me.0.mine.named) (sym (c.give_page.ensures.table.0 ∙ e.table.0))
          (turned_near _ c.self.inside.seat.me c.take_page-node.new.seat.me c.args.page c.take_page-node.result _ c.self.inside.row _ _ c.self.invariant.0 e.took e.told c.give_page.new.seat.me c.note.new.self c.take_page-node.result gave _ (ap (λ (t : TableId). t.words) x.0 ∙ c.args.latches.now.words) c.self.invariant.1),
      turned_cells c.self.inside.seat.me c.take_page-node.new.seat.me c.give_page.new.seat.me _ c.self.inside.row c.note.new.self _ _ c.args.page c.take_page-node.result c.take_page-node.result c.self.invariant.0 c.self.invariant.2 e.took gave (ap (λ (z : ActorRow). z.pin) c.note.ensures),
      word_stays _ _ _ _ (c.give_page.ensures.table.0 ∙ e.table.0) (ap (λ (z : ActorRow). z.hand.fresh) c.note.ensures) c.self.invariant.3,
      given_at _ _ _ gave (given_at _ _ _ e.took c.self.invariant.4),
      kept_gone _ _ _ gave (kept_gone _ _ _ e.took c.self.invariant.5),
    )

pub returns-then-level-gt0-clause-told : goal.returns-then-level-gt0-clause-told
returns-then-level-gt0-clause-told g c =
    let e = c.take_page-node.ensures in
    let may = subst (λ (z : PassState). MayInsert (seat_view z.sight) c.args.id c.args.vector.now c.args.dists.now.items) (sym c.self.view_is) c.requires.ready in
    let seeks = subst (λ (z : PassState). MaySeek (seat_view z.sight) c.args.page c.args.dists.now.items c.args.id) (sym c.self.view_is) c.requires.seeks in
    let high : 0 < c.take_page-node.result.level = omega (arith, c.level.ensures, c.if-level-gt0.true) in
    let key : c.key_of_row-key.result ≡ key_in_row c.args.latches.now.table.shared.key c.self.inside.row c.args.dists.now.items c.args.id 0 =
    c.key_of_row-key.ensures ∙ ap (λ (x : Configuration). key_in_row x c.self.inside.row c.args.dists.now.items c.args.id 0) c.args.latches.now.same in
    told_of (λ v w. CommitsInsert v w c.args.page c.args.op c.args.id c.args.vector.now c.args.dists.now.items (commit.Down c.child-child.result)) c.self.inside.seat.me.0 c.give_page.new.seat.me.0 _ _ c.self.view_is
    (down_told _ c.self.inside.seat.me c.take_page-node.new.seat.me c.args.page c.take_page-node.result _ c.self.inside.row _ _ c.self.invariant.0 e.took e.told c.args.id c.args.vector.now c.args.dists.now.items may seeks c.give_page.new.seat.me c.note.new.self c.take_page-node.result c.give_page.ensures.gave c.note.ensures refl c.args.op c.child-child.result high
    (subst (λ k. IsChild k c.take_page-node.result.routes c.child-child.result) key c.child-child.ensures))

pub insert_row-answer-requires : goal.insert_row-answer-requires
insert_row-answer-requires g c =
    let start = c.self.inside.seat.me in
    let e = c.take_page-node.ensures in
    let d = c.take_board-board.ensures in
    let had = c.take_page-node.result in
    let b = c.take_board-board.result in
    let p = subst (λ o. IsPass c.self.inside.seat.me c.self.inside.actor c.self.inside.row o c.self.inside.told) c.in-Some.is c.self.invariant.0 in
    let t = taken c.args.latches.now.table.shared.key start c.take_page-node.new.seat.me c.take_board-board.new.seat.me c.args.page had b e.took e.last d.took d.told in
    let may = subst (λ (z : PassState). MayInsert (seat_view z.sight) c.args.id c.args.vector.now c.args.dists.now.items) (sym c.self.view_is) c.requires.ready in
    let seeks = subst (λ (z : PassState). MaySeek (seat_view z.sight) c.args.page c.args.dists.now.items c.args.id) (sym c.self.view_is) c.requires.seeks in
    let leaf : had.level ≡ 0 = omega (arith, c.level.ensures, c.if-level-gt0.false) in
    let small : c.args.id < 2 ^ 40 = omega (arith, c.get.ensures.small, c.get.ensures.same) in
    let near : c.get.result % 16 ≡ home c.args.id = ap home c.get.ensures.same in
    subst (λ i. MayEnter i c.args.page c.args.id c.args.vector.now c.args.dists.now.items b had c.in-Some.rows c.self.inside.row) p.actor_is (may_hand c.args.latches.now.table.shared.key start c.args.page had b c.self.inside.actor c.self.inside.row c.in-Some.rows c.self.inside.told c.args.id p may.shard t.finds t.apart c.args.vector.now c.args.dists.now.items may seeks small leaf)

pub give_beside_page-requires-clause-returns : goal.give_beside_page-requires-clause-returns
give_beside_page-requires-clause-returns g c =
    let start = c.self.inside.seat.me in
    let e = c.take_page-node.ensures in
    let d = c.take_board-board.ensures in
    let had = c.take_page-node.result in
    let b = c.take_board-board.result in
    let p = subst (λ o. IsPass c.self.inside.seat.me c.self.inside.actor c.self.inside.row o c.self.inside.told) c.in-Some.is c.self.invariant.0 in
    let t = taken c.args.latches.now.table.shared.key start c.take_page-node.new.seat.me c.take_board-board.new.seat.me c.args.page had b e.took e.last d.took d.told in
    let may = subst (λ (z : PassState). MayInsert (seat_view z.sight) c.args.id c.args.vector.now c.args.dists.now.items) (sym c.self.view_is) c.requires.ready in
    let seeks = subst (λ (z : PassState). MaySeek (seat_view z.sight) c.args.page c.args.dists.now.items c.args.id) (sym c.self.view_is) c.requires.seeks in
    let leaf : had.level ≡ 0 = omega (arith, c.level.ensures, c.if-level-gt0.false) in
    let small : c.args.id < 2 ^ 40 = omega (arith, c.get.ensures.small, c.get.ensures.same) in
    let near : c.get.result % 16 ≡ home c.args.id = ap home c.get.ensures.same in
    subst (λ k. Returns c.take_board-board.new.seat.me.0 (giving_beside c.take_board-board.new.seat.me.0 c.insert_row-answer.new.row c.insert_row-answer.new.board c.args.page c.insert_row-answer.new.node k c.insert_row-answer.new.rows) 0) (sym near)
    (beside_returns c.args.latches.now.table.shared.key start c.args.page had b c.self.inside.actor c.self.inside.row c.in-Some.rows c.self.inside.told (home c.args.id) p may.shard t.finds t.apart c.insert_row-answer.new.board c.insert_row-answer.new.node c.insert_row-answer.new.rows c.insert_row-answer.new.row c.take_board-board.new.seat.me t.is d.last)

pub give_beside_page-requires-clause-does : goal.give_beside_page-requires-clause-does
give_beside_page-requires-clause-does g c =
    let start = c.self.inside.seat.me in
    let e = c.take_page-node.ensures in
    let d = c.take_board-board.ensures in
    let had = c.take_page-node.result in
    let b = c.take_board-board.result in
    let p = subst (λ o. IsPass c.self.inside.seat.me c.self.inside.actor c.self.inside.row o c.self.inside.told) c.in-Some.is c.self.invariant.0 in
    let t = taken c.args.latches.now.table.shared.key start c.take_page-node.new.seat.me c.take_board-board.new.seat.me c.args.page had b e.took e.last d.took d.told in
    let may = subst (λ (z : PassState). MayInsert (seat_view z.sight) c.args.id c.args.vector.now c.args.dists.now.items) (sym c.self.view_is) c.requires.ready in
    let seeks = subst (λ (z : PassState). MaySeek (seat_view z.sight) c.args.page c.args.dists.now.items c.args.id) (sym c.self.view_is) c.requires.seeks in
    let leaf : had.level ≡ 0 = omega (arith, c.level.ensures, c.if-level-gt0.false) in
    let small : c.args.id < 2 ^ 40 = omega (arith, c.get.ensures.small, c.get.ensures.same) in
    let near : c.get.result % 16 ≡ home c.args.id = ap home c.get.ensures.same in
    let made = subst (λ i. InsertsRow i c.args.page c.args.op c.args.id (key_in_row b.settings c.self.inside.row c.args.dists.now.items c.args.id (next_birth b)) c.args.vector.now c.args.dists.now.items c.insert_row-answer.result b had c.in-Some.rows c.self.inside.row c.insert_row-answer.new.board c.insert_row-answer.new.node c.insert_row-answer.new.rows c.insert_row-answer.new.row) (sym p.actor_is) c.insert_row-answer.ensures in
    let keeps = inserts_keep c.args.latches.now.table.shared.key start c.args.page had b c.self.inside.actor c.self.inside.row c.in-Some.rows c.self.inside.told c.args.id p may.shard t.finds t.apart c.args.vector.now c.args.dists.now.items may seeks c.insert_row-answer.new.board c.insert_row-answer.new.node c.insert_row-answer.new.rows c.insert_row-answer.new.row c.args.op leaf small c.insert_row-answer.result made in
    subst (λ k. Doing c.args.latches.now.table.shared.key c.take_board-board.new.seat.me.0 (giving_beside c.take_board-board.new.seat.me.0 c.insert_row-answer.new.row c.insert_row-answer.new.board c.args.page c.insert_row-answer.new.node k c.insert_row-answer.new.rows) 0 (OfBoard c.insert_row-answer.new.board)) (sym near)
    (inserts_does c.args.latches.now.table.shared.key start c.args.page had b c.self.inside.actor c.self.inside.row c.in-Some.rows c.self.inside.told c.args.id p may.shard t.finds t.apart c.args.vector.now c.args.dists.now.items may seeks c.insert_row-answer.new.board c.insert_row-answer.new.node c.insert_row-answer.new.rows c.insert_row-answer.new.row c.args.op leaf small c.insert_row-answer.result made c.take_board-board.new.seat.me t.is d.last)

pub give_page-requires-2-clause-table : goal.give_page-requires-2-clause-table
give_page-requires-2-clause-table g c =
    let x = named_before c.self.inside.seat.me c.self.inside.seat.table_id c.args.latches.now.table.shared.table_id c.args.self.now _ c.args.latches.now.words c.self.invariant.1 c.self.view_is c.requires.table _ c.requires.seeks.named in
    (c.give_beside_page.ensures.table.0 ∙ c.take_board-board.ensures.table.0 ∙ c.take_page-node.ensures.table.0 ∙ x.0, x.1)

pub give_page-requires-2-clause-last : goal.give_page-requires-2-clause-last
give_page-requires-2-clause-last g c =
    let start = c.self.inside.seat.me in
    let e = c.take_page-node.ensures in
    let d = c.take_board-board.ensures in
    let had = c.take_page-node.result in
    let b = c.take_board-board.result in
    let p = subst (λ o. IsPass c.self.inside.seat.me c.self.inside.actor c.self.inside.row o c.self.inside.told) c.in-Some.is c.self.invariant.0 in
    let t = taken c.args.latches.now.table.shared.key start c.take_page-node.new.seat.me c.take_board-board.new.seat.me c.args.page had b e.took e.last d.took d.told in
    let may = subst (λ (z : PassState). MayInsert (seat_view z.sight) c.args.id c.args.vector.now c.args.dists.now.items) (sym c.self.view_is) c.requires.ready in
    let seeks = subst (λ (z : PassState). MaySeek (seat_view z.sight) c.args.page c.args.dists.now.items c.args.id) (sym c.self.view_is) c.requires.seeks in
    let leaf : had.level ≡ 0 = omega (arith, c.level.ensures, c.if-level-gt0.false) in
    let small : c.args.id < 2 ^ 40 = omega (arith, c.get.ensures.small, c.get.ensures.same) in
    let near : c.get.result % 16 ≡ home c.args.id = ap home c.get.ensures.same in
    let gave = c.give_beside_page.ensures.gave ∙ ap (λ k. let y : Seated = (giving_beside c.take_board-board.new.seat.me.0 c.insert_row-answer.new.row c.insert_row-answer.new.board c.args.page c.insert_row-answer.new.node k c.insert_row-answer.new.rows, rest c.take_board-board.new.seat.me.1) in y) near in
    (c.insert_row-answer.new.node, page_last c.args.latches.now.table.shared.key start c.args.page had b c.self.inside.actor c.self.inside.row c.in-Some.rows c.self.inside.told (home c.args.id) p may.shard t.finds t.apart c.insert_row-answer.new.board c.insert_row-answer.new.node c.insert_row-answer.new.rows c.insert_row-answer.new.row c.take_board-board.new.seat.me c.give_beside_page.new.seat.me t.is gave)

pub give_page-requires-2-clause-does : goal.give_page-requires-2-clause-does
give_page-requires-2-clause-does g c =
    let start = c.self.inside.seat.me in
    let e = c.take_page-node.ensures in
    let d = c.take_board-board.ensures in
    let had = c.take_page-node.result in
    let b = c.take_board-board.result in
    let p = subst (λ o. IsPass c.self.inside.seat.me c.self.inside.actor c.self.inside.row o c.self.inside.told) c.in-Some.is c.self.invariant.0 in
    let t = taken c.args.latches.now.table.shared.key start c.take_page-node.new.seat.me c.take_board-board.new.seat.me c.args.page had b e.took e.last d.took d.told in
    let may = subst (λ (z : PassState). MayInsert (seat_view z.sight) c.args.id c.args.vector.now c.args.dists.now.items) (sym c.self.view_is) c.requires.ready in
    let seeks = subst (λ (z : PassState). MaySeek (seat_view z.sight) c.args.page c.args.dists.now.items c.args.id) (sym c.self.view_is) c.requires.seeks in
    let leaf : had.level ≡ 0 = omega (arith, c.level.ensures, c.if-level-gt0.false) in
    let small : c.args.id < 2 ^ 40 = omega (arith, c.get.ensures.small, c.get.ensures.same) in
    let near : c.get.result % 16 ≡ home c.args.id = ap home c.get.ensures.same in
    let made = subst (λ i. InsertsRow i c.args.page c.args.op c.args.id (key_in_row b.settings c.self.inside.row c.args.dists.now.items c.args.id (next_birth b)) c.args.vector.now c.args.dists.now.items c.insert_row-answer.result b had c.in-Some.rows c.self.inside.row c.insert_row-answer.new.board c.insert_row-answer.new.node c.insert_row-answer.new.rows c.insert_row-answer.new.row) (sym p.actor_is) c.insert_row-answer.ensures in
    let keeps = inserts_keep c.args.latches.now.table.shared.key start c.args.page had b c.self.inside.actor c.self.inside.row c.in-Some.rows c.self.inside.told c.args.id p may.shard t.finds t.apart c.args.vector.now c.args.dists.now.items may seeks c.insert_row-answer.new.board c.insert_row-answer.new.node c.insert_row-answer.new.rows c.insert_row-answer.new.row c.args.op leaf small c.insert_row-answer.result made in
    let gave = c.give_beside_page.ensures.gave ∙ ap (λ k. let y : Seated = (giving_beside c.take_board-board.new.seat.me.0 c.insert_row-answer.new.row c.insert_row-answer.new.board c.args.page c.insert_row-answer.new.node k c.insert_row-answer.new.rows, rest c.take_board-board.new.seat.me.1) in y) near in
    page_goes c.args.latches.now.table.shared.key start c.args.page had b c.self.inside.actor c.self.inside.row c.in-Some.rows c.self.inside.told (home c.args.id) p may.shard t.finds t.apart c.insert_row-answer.new.board c.insert_row-answer.new.node c.insert_row-answer.new.rows c.insert_row-answer.new.row keeps c.take_board-board.new.seat.me c.give_beside_page.new.seat.me t.is gave

pub invariant_of-self-2 : goal.invariant_of-self-2
invariant_of-self-2 g c =
    let start = c.self.inside.seat.me in
    let e = c.take_page-node.ensures in
    let d = c.take_board-board.ensures in
    let had = c.take_page-node.result in
    let b = c.take_board-board.result in
    let p = subst (λ o. IsPass c.self.inside.seat.me c.self.inside.actor c.self.inside.row o c.self.inside.told) c.in-Some.is c.self.invariant.0 in
    let t = taken c.args.latches.now.table.shared.key start c.take_page-node.new.seat.me c.take_board-board.new.seat.me c.args.page had b e.took e.last d.took d.told in
    let may = subst (λ (z : PassState). MayInsert (seat_view z.sight) c.args.id c.args.vector.now c.args.dists.now.items) (sym c.self.view_is) c.requires.ready in
    let seeks = subst (λ (z : PassState). MaySeek (seat_view z.sight) c.args.page c.args.dists.now.items c.args.id) (sym c.self.view_is) c.requires.seeks in
    let leaf : had.level ≡ 0 = omega (arith, c.level.ensures, c.if-level-gt0.false) in
    let small : c.args.id < 2 ^ 40 = omega (arith, c.get.ensures.small, c.get.ensures.same) in
    let near : c.get.result % 16 ≡ home c.args.id = ap home c.get.ensures.same in
    let made = subst (λ i. InsertsRow i c.args.page c.args.op c.args.id (key_in_row b.settings c.self.inside.row c.args.dists.now.items c.args.id (next_birth b)) c.args.vector.now c.args.dists.now.items c.insert_row-answer.result b had c.in-Some.rows c.self.inside.row c.insert_row-answer.new.board c.insert_row-answer.new.node c.insert_row-answer.new.rows c.insert_row-answer.new.row) (sym p.actor_is) c.insert_row-answer.ensures in
    let keeps = inserts_keep c.args.latches.now.table.shared.key start c.args.page had b c.self.inside.actor c.self.inside.row c.in-Some.rows c.self.inside.told c.args.id p may.shard t.finds t.apart c.args.vector.now c.args.dists.now.items may seeks c.insert_row-answer.new.board c.insert_row-answer.new.node c.insert_row-answer.new.rows c.insert_row-answer.new.row c.args.op leaf small c.insert_row-answer.result made in
    let gave = c.give_beside_page.ensures.gave ∙ ap (λ k. let y : Seated = (giving_beside c.take_board-board.new.seat.me.0 c.insert_row-answer.new.row c.insert_row-answer.new.board c.args.page c.insert_row-answer.new.node k c.insert_row-answer.new.rows, rest c.take_board-board.new.seat.me.1) in y) near in
    let ended = both_end c.args.latches.now.table.shared.key start c.args.page had b c.self.inside.actor c.self.inside.row c.in-Some.rows c.self.inside.told (home c.args.id) p may.shard t.finds t.apart c.insert_row-answer.new.board c.insert_row-answer.new.node c.insert_row-answer.new.rows c.insert_row-answer.new.row c.take_board-board.new.seat.me c.give_beside_page.new.seat.me c.give_page-2.new.seat.me t.is gave c.give_page-2.ensures.gave in
    let x = named_before c.self.inside.seat.me c.self.inside.seat.table_id c.args.latches.now.table.shared.table_id c.args.self.now _ c.args.latches.now.words c.self.invariant.1 c.self.view_is c.requires.table _ c.requires.seeks.named in
    let table = c.give_page-2.ensures.table.0 ∙ c.give_beside_page.ensures.table.0 ∙ d.table.0 ∙ e.table.0 in
    let event = inserts_leave c.args.latches.now.table.shared.key start c.args.page had b c.self.inside.actor c.self.inside.row c.in-Some.rows c.self.inside.told c.args.id p may.shard t.finds t.apart c.args.vector.now c.args.dists.now.items may seeks c.insert_row-answer.new.board c.insert_row-answer.new.node c.insert_row-answer.new.rows c.insert_row-answer.new.row c.args.op leaf small c.insert_row-answer.result made in (
      ended_pass c.args.latches.now.table.shared.key start c.args.page had b c.self.inside.actor c.self.inside.row c.in-Some.rows c.self.inside.told (home c.args.id) p may.shard t.finds t.apart c.insert_row-answer.new.board c.insert_row-answer.new.node c.insert_row-answer.new.rows c.insert_row-answer.new.row keeps c.give_page-2.new.seat.me ended,
      subst (λ (z : TableId). AreNear z.words c.give_page-2.new.seat.me.0.mine.named) (sym table) (ended_near c.args.latches.now.table.shared.key start c.args.page had b c.self.inside.actor c.self.inside.row c.in-Some.rows c.self.inside.told (home c.args.id) p may.shard t.finds t.apart c.insert_row-answer.new.board c.insert_row-answer.new.node c.insert_row-answer.new.rows c.insert_row-answer.new.row keeps c.give_page-2.new.seat.me ended _ (ap (λ (z : TableId). z.words) x.0 ∙ c.args.latches.now.words) c.self.invariant.1),
      ended_cells c.args.latches.now.table.shared.key start c.args.page had b c.self.inside.actor c.self.inside.row c.in-Some.rows c.self.inside.told (home c.args.id) p may.shard t.finds t.apart c.insert_row-answer.new.board c.insert_row-answer.new.node c.insert_row-answer.new.rows c.insert_row-answer.new.row event.0 event.1 c.give_page-2.new.seat.me ended,
      word_stays _ _ _ _ table keeps.fresh_is c.self.invariant.3,
      given_at _ _ _ ended c.give_beside_page.ensures.at,
      kept_gone _ _ _ c.give_page-2.ensures.gave (kept_gone _ _ _ c.give_beside_page.ensures.gave (kept_gone _ _ _ d.took (kept_gone _ _ _ e.took c.self.invariant.5))),
    )

pub returns-clause-told : goal.returns-clause-told
returns-clause-told g c =
    let start = c.self.inside.seat.me in
    let e = c.take_page-node.ensures in
    let d = c.take_board-board.ensures in
    let had = c.take_page-node.result in
    let b = c.take_board-board.result in
    let p = subst (λ o. IsPass c.self.inside.seat.me c.self.inside.actor c.self.inside.row o c.self.inside.told) c.in-Some.is c.self.invariant.0 in
    let t = taken c.args.latches.now.table.shared.key start c.take_page-node.new.seat.me c.take_board-board.new.seat.me c.args.page had b e.took e.last d.took d.told in
    let may = subst (λ (z : PassState). MayInsert (seat_view z.sight) c.args.id c.args.vector.now c.args.dists.now.items) (sym c.self.view_is) c.requires.ready in
    let seeks = subst (λ (z : PassState). MaySeek (seat_view z.sight) c.args.page c.args.dists.now.items c.args.id) (sym c.self.view_is) c.requires.seeks in
    let leaf : had.level ≡ 0 = omega (arith, c.level.ensures, c.if-level-gt0.false) in
    let small : c.args.id < 2 ^ 40 = omega (arith, c.get.ensures.small, c.get.ensures.same) in
    let near : c.get.result % 16 ≡ home c.args.id = ap home c.get.ensures.same in
    let made = subst (λ i. InsertsRow i c.args.page c.args.op c.args.id (key_in_row b.settings c.self.inside.row c.args.dists.now.items c.args.id (next_birth b)) c.args.vector.now c.args.dists.now.items c.insert_row-answer.result b had c.in-Some.rows c.self.inside.row c.insert_row-answer.new.board c.insert_row-answer.new.node c.insert_row-answer.new.rows c.insert_row-answer.new.row) (sym p.actor_is) c.insert_row-answer.ensures in
    let keeps = inserts_keep c.args.latches.now.table.shared.key start c.args.page had b c.self.inside.actor c.self.inside.row c.in-Some.rows c.self.inside.told c.args.id p may.shard t.finds t.apart c.args.vector.now c.args.dists.now.items may seeks c.insert_row-answer.new.board c.insert_row-answer.new.node c.insert_row-answer.new.rows c.insert_row-answer.new.row c.args.op leaf small c.insert_row-answer.result made in
    let gave = c.give_beside_page.ensures.gave ∙ ap (λ k. let y : Seated = (giving_beside c.take_board-board.new.seat.me.0 c.insert_row-answer.new.row c.insert_row-answer.new.board c.args.page c.insert_row-answer.new.node k c.insert_row-answer.new.rows, rest c.take_board-board.new.seat.me.1) in y) near in
    let ended = both_end c.args.latches.now.table.shared.key start c.args.page had b c.self.inside.actor c.self.inside.row c.in-Some.rows c.self.inside.told (home c.args.id) p may.shard t.finds t.apart c.insert_row-answer.new.board c.insert_row-answer.new.node c.insert_row-answer.new.rows c.insert_row-answer.new.row c.take_board-board.new.seat.me c.give_beside_page.new.seat.me c.give_page-2.new.seat.me t.is gave c.give_page-2.ensures.gave in
    told_of (λ v w. CommitsInsert v w c.args.page c.args.op c.args.id c.args.vector.now c.args.dists.now.items c.insert_row-answer.result) c.self.inside.seat.me.0 c.give_page-2.new.seat.me.0 _ _ c.self.view_is
    (inserts_told c.args.latches.now.table.shared.key start c.args.page had b c.self.inside.actor c.self.inside.row c.in-Some.rows c.self.inside.told c.args.id p may.shard t.finds t.apart c.args.vector.now c.args.dists.now.items may seeks c.insert_row-answer.new.board c.insert_row-answer.new.node c.insert_row-answer.new.rows c.insert_row-answer.new.row c.args.op leaf small c.give_page-2.new.seat.me ended c.insert_row-answer.result made)

use Rattle.std.proofs.Common.{◌≡◌, ◌∙◌, ◌<◌, ◌+◌, None, ap, arith, length, refl, subst, sym}
use Rattle.mi_base.specs.Configuration.{Configuration}
use Rattle.mi_base.specs.History.{updates_of}
use Rattle.mi_base.specs.Permutations.{distance_at_first, permutation_of}
use Rattle.mi_base.specs.Sorting.{put}
use Rattle.mi_base.specs.declared.records.Update.TheVariants.{Insert}
use Rattle.mi_board.specs.Boards.{HasRoom, MayCommit, MayInsert, crowded_at}
use Rattle.mi_core.specs.Effects.{trim_leaf}
use Rattle.mi_entries.specs.Records.{with_record}
use Rattle.mi_key.specs.declared.entries.Entry.{Entry}
use Rattle.mi_page.specs.Entries.{entry_cmp, has_entry, without_dead}
use Rattle.mi_page.specs.Nodes.{Node, item_count}
use Rattle.mi_solo.proofs.InsertSection.{commits_well, crowd_is, few_entries, trims_leaf}
use Rattle.mi_tree.specs.declared.answers.Look.{Look}
use Rattle.mi_solo.specs.CommitRows.{IsMade, next_birth}
use Rattle.mi_solo.proofs.InsertRow.{enter_commits, enter_measured, enter_object, enter_room, enter_whole, none_there}
use Rattle.mi_solo.proofs.insert_rows.enter_row.Goals as goal

pub returns-then-is_crowded : goal.returns-then-is_crowded
returns-then-is_crowded c =
    let b = c.args.board.now in
    let m = c.requires.may in
    let limit : c.behind-board.inside.updates ≡ b.settings.updates = ap (λ (x : Configuration). x.updates) (c.behind-board.view_is ∙ c.settings.ensures) in
    let count : c.look-birth.result.at.updates ≡ length (updates_of b.log) = ap (λ (l : Look). l.at.updates) c.look-birth.ensures in
    let room : HasRoom b = omega (arith, limit, count, c.if-birth-limit.false) in
    let measured = enter_measured c.args.actor c.args.page c.args.id c.args.vector.now c.args.dists.now.items b c.args.node.now c.args.rows.now c.args.row.now m in
    let crowd = crowd_is b c.args.vector.now c.args.dists.now.items c.permutation-perm.result c.permutation-perm.ensures.value measured _ c.catalog.ensures c.locate-leaf.result c.locate-leaf.ensures
    _ (c.settings-2.view_is ∙ c.settings-settings.ensures) c.is_crowded.result c.is_crowded.ensures in
    (room, crowd ∙ c.if-is_crowded.true, record { board_is = refl; page_is = refl; rows_are = refl; row_is = c.meet-then-is_crowded.ensures })

pub returns-then-len-eq-CAPACITY : goal.returns-then-len-eq-CAPACITY
returns-then-len-eq-CAPACITY c =
    let b = c.args.board.now in
    let m = c.requires.may in
    let limit : c.behind-board.inside.updates ≡ b.settings.updates = ap (λ (x : Configuration). x.updates) (c.behind-board.view_is ∙ c.settings.ensures) in
    let count : c.look-birth.result.at.updates ≡ length (updates_of b.log) = ap (λ (l : Look). l.at.updates) c.look-birth.ensures in
    let room : HasRoom b = omega (arith, limit, count, c.if-birth-limit.false) in
    let measured = enter_measured c.args.actor c.args.page c.args.id c.args.vector.now c.args.dists.now.items b c.args.node.now c.args.rows.now c.args.row.now m in
    let crowd = crowd_is b c.args.vector.now c.args.dists.now.items c.permutation-perm.result c.permutation-perm.ensures.value measured _ c.catalog.ensures c.locate-leaf.result c.locate-leaf.ensures
    _ (c.settings-2.view_is ∙ c.settings-settings.ensures) c.is_crowded.result c.is_crowded.ensures in
    let calm = crowd ∙ c.if-is_crowded.false in
    let trimmed : c.trim.new.self ≡ trim_leaf c.args.row.now.floor.updates c.args.node.now = c.trim.ensures ∙ sym (trims_leaf c.args.row.now.floor.updates c.args.node.now m.leaf) in
    let many : item_count (trim_leaf c.args.row.now.floor.updates c.args.node.now) ≡ 32 = ap item_count (sym trimmed) ∙ sym c.len.ensures.count ∙ c.if-len-eq-CAPACITY.true in (
      room,
      calm,
      many,
      record { board_is = refl; page_is = trimmed ∙ enter_whole c.args.actor c.args.page c.args.id c.args.vector.now c.args.dists.now.items c.args.board.now c.args.node.now c.args.rows.now c.args.row.now c.requires.may many; rows_are = refl; row_is = c.meet-then-len-eq-CAPACITY.ensures },
    )

pub insert_spare-requires-clause-absent : goal.insert_spare-requires-clause-absent
insert_spare-requires-clause-absent c =
    let b = c.args.board.now in
    let m = c.requires.may in
    let limit : c.behind-board.inside.updates ≡ b.settings.updates = ap (λ (x : Configuration). x.updates) (c.behind-board.view_is ∙ c.settings.ensures) in
    let count : c.look-birth.result.at.updates ≡ length (updates_of b.log) = ap (λ (l : Look). l.at.updates) c.look-birth.ensures in
    let room : HasRoom b = omega (arith, limit, count, c.if-birth-limit.false) in
    let measured = enter_measured c.args.actor c.args.page c.args.id c.args.vector.now c.args.dists.now.items b c.args.node.now c.args.rows.now c.args.row.now m in
    let crowd = crowd_is b c.args.vector.now c.args.dists.now.items c.permutation-perm.result c.permutation-perm.ensures.value measured _ c.catalog.ensures c.locate-leaf.result c.locate-leaf.ensures
    _ (c.settings-2.view_is ∙ c.settings-settings.ensures) c.is_crowded.result c.is_crowded.ensures in
    let calm = crowd ∙ c.if-is_crowded.false in
    let space : length (without_dead c.args.row.now.floor.updates c.args.node.now.entries) < 32 =
    subst (λ n. n < 32) (ap (λ (n : Node). length n.entries) c.trim.ensures)
    (few_entries c.trim.new.self c.len.ensures.node (ap (λ (n : Node). n.level) c.trim.ensures ∙ m.leaf) (λ h. c.if-len-eq-CAPACITY.false (c.len.ensures.count ∙ h))) in
    let e : Entry = record { key = c.args.key; vector = c.args.vector.now; dists = c.args.dists.now; birth = c.look-birth.result.at.updates + 1; death = None } in
    let made : IsMade c.args.key (next_birth b) c.args.vector.now c.args.dists.now.items e = record { key_is = refl; vector_is = refl; dists_are = refl; birth_is = ap (λ n. n + 1) count; death_is = refl } in
    ap (λ (x : Entry). has_entry x.key c.trim.new.self.entries) c.new_entry.ensures ∙ ap (λ (n : Node). has_entry c.args.key n.entries) c.trim.ensures
    ∙ none_there c.args.actor c.args.page c.args.id c.args.vector.now c.args.dists.now.items c.args.board.now c.args.node.now c.args.rows.now c.args.row.now c.requires.may c.args.key c.requires.key e made c.requires.ends room calm space

pub commit_insert-requires-clause-may : goal.commit_insert-requires-clause-may
commit_insert-requires-clause-may c = subst (MayCommit c.args.board.now c.args.actor) (sym c.permutation-perm.ensures.value) (enter_commits c.args.actor c.args.page c.args.id c.args.vector.now c.args.dists.now.items c.args.board.now c.args.node.now c.args.rows.now c.args.row.now c.requires.may)

pub commit_insert-requires-clause-object : goal.commit_insert-requires-clause-object
commit_insert-requires-clause-object c =
    let perm = c.permutation-perm.ensures.value in
    let distance = c.key_distance-distance.ensures.value ∙ ap (distance_at_first c.args.dists.now.items) perm in
    subst (λ p. MayInsert c.args.board.now c.args.id c.args.vector.now p c.key_distance-distance.result) (sym perm)
    (subst (λ d. MayInsert c.args.board.now c.args.id c.args.vector.now (permutation_of c.args.dists.now.items) d) (sym distance) (enter_object c.args.actor c.args.page c.args.id c.args.vector.now c.args.dists.now.items c.args.board.now c.args.node.now c.args.rows.now c.args.row.now c.requires.may))

pub unreachable-requires : goal.unreachable-requires
unreachable-requires c =
    let b = c.args.board.now in
    let m = c.requires.may in
    let limit : c.behind-board.inside.updates ≡ b.settings.updates = ap (λ (x : Configuration). x.updates) (c.behind-board.view_is ∙ c.settings.ensures) in
    let count : c.look-birth.result.at.updates ≡ length (updates_of b.log) = ap (λ (l : Look). l.at.updates) c.look-birth.ensures in
    let room : HasRoom b = omega (arith, limit, count, c.if-birth-limit.false) in
    let measured = enter_measured c.args.actor c.args.page c.args.id c.args.vector.now c.args.dists.now.items b c.args.node.now c.args.rows.now c.args.row.now m in
    let crowd = crowd_is b c.args.vector.now c.args.dists.now.items c.permutation-perm.result c.permutation-perm.ensures.value measured _ c.catalog.ensures c.locate-leaf.result c.locate-leaf.ensures
    _ (c.settings-2.view_is ∙ c.settings-settings.ensures) c.is_crowded.result c.is_crowded.ensures in
    let calm = crowd ∙ c.if-is_crowded.false in
    commits_well b c.args.actor c.args.op (Insert c.args.id c.args.vector.now) (crowded_at b c.permutation-perm.result) c.in_default.field-0 c.commit_insert.new.self c.in_default.ensures room
    (ap (crowded_at b) (c.permutation-perm.ensures.value ∙ ap permutation_of measured) ∙ calm)

pub insert-requires-clause-room : goal.insert-requires-clause-room
insert-requires-clause-room c = enter_room c.args.actor c.args.page c.args.id c.args.vector.now c.args.dists.now.items c.args.board.now c.args.node.now c.args.rows.now c.args.row.now c.requires.may

pub returns : goal.returns
returns c =
    let b = c.args.board.now in
    let m = c.requires.may in
    let limit : c.behind-board.inside.updates ≡ b.settings.updates = ap (λ (x : Configuration). x.updates) (c.behind-board.view_is ∙ c.settings.ensures) in
    let count : c.look-birth.result.at.updates ≡ length (updates_of b.log) = ap (λ (l : Look). l.at.updates) c.look-birth.ensures in
    let room : HasRoom b = omega (arith, limit, count, c.if-birth-limit.false) in
    let measured = enter_measured c.args.actor c.args.page c.args.id c.args.vector.now c.args.dists.now.items b c.args.node.now c.args.rows.now c.args.row.now m in
    let crowd = crowd_is b c.args.vector.now c.args.dists.now.items c.permutation-perm.result c.permutation-perm.ensures.value measured _ c.catalog.ensures c.locate-leaf.result c.locate-leaf.ensures
    _ (c.settings-2.view_is ∙ c.settings-settings.ensures) c.is_crowded.result c.is_crowded.ensures in
    let calm = crowd ∙ c.if-is_crowded.false in
    let space : length (without_dead c.args.row.now.floor.updates c.args.node.now.entries) < 32 =
    subst (λ n. n < 32) (ap (λ (n : Node). length n.entries) c.trim.ensures)
    (few_entries c.trim.new.self c.len.ensures.node (ap (λ (n : Node). n.level) c.trim.ensures ∙ m.leaf) (λ h. c.if-len-eq-CAPACITY.false (c.len.ensures.count ∙ h))) in
    let e : Entry = record { key = c.args.key; vector = c.args.vector.now; dists = c.args.dists.now; birth = c.look-birth.result.at.updates + 1; death = None } in
    let made : IsMade c.args.key (next_birth b) c.args.vector.now c.args.dists.now.items e = record { key_is = refl; vector_is = refl; dists_are = refl; birth_is = ap (λ n. n + 1) count; death_is = refl } in
    let entered = c.in-Ok.ensures in
    let birth : c.in-Ok.number ≡ e.birth = entered.1.1.0 ∙ ap (λ n. n + 1) (sym count) in (
      room,
      calm,
      space,
      e,
      made,
      birth,
      record {
        board_is = entered.1.1.1;
        page_is = c.insert_spare.ensures ∙ ap (λ (x : Entry). record c.trim.new.self { entries = put entry_cmp x c.trim.new.self.entries }) c.new_entry.ensures
            ∙ ap (λ (n : Node). record n { entries = put entry_cmp e n.entries }) c.trim.ensures;
        rows_are = c.insert.ensures ∙ ap (λ d. with_record (record { id = c.args.id; birth = c.in-Ok.number; dists = d.items }) c.args.rows.now) c.copy_dists.ensures
            ∙ ap (λ n. with_record (record { id = c.args.id; birth = n; dists = c.args.dists.now.items }) c.args.rows.now) birth;
        row_is = c.commit.ensures;
      },
    )

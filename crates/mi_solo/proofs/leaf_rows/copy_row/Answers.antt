use Rattle.std.proofs.Common.{◌≡◌, ◌≤◌, ◌∙◌, ap, arith, false, length, refl, subst, sym}
use Rattle.mi_page.specs.Entries.{has_entry, without_dead}
use Rattle.mi_solo.specs.LeafRows.{copy_key, gathered_of}
use Rattle.mi_solo.specs.Seeking.{EndsAfter, PointsDown, PointsRight}
use Rattle.mi_solo.specs.States.{split_of}
use Rattle.mi_solo.proofs.CopyRows.{copy_taken, next_row_key}
use Rattle.mi_solo.proofs.leaf_rows.copy_row.Goals as goal

pub key_at-key-requires-clause-place : goal.key_at-key-requires-clause-place
key_at-key-requires-clause-place c = let more = c.requires.more in omega (arith, more, c.copied-place.ensures)

pub copy_at-entry-requires-clause-place : goal.copy_at-entry-requires-clause-place
copy_at-entry-requires-clause-place c = let more = c.requires.more in omega (arith, more, c.copied-place.ensures)

pub seek-requires-clause-low : goal.seek-requires-clause-low
seek-requires-clause-low c above = subst (λ k. c.args.node.now.low ≤ k) (sym (c.key_at-key.ensures ∙ ap (copy_key c.args.settings.now c.args.row.now) c.copied-place.ensures)) c.requires.low

pub take_copy-requires-clause-few : goal.take_copy-requires-clause-few
take_copy-requires-clause-few c =
    let h = c.requires.splitting in
    let few = h.few in
    let more = c.requires.more in
    omega (arith, few, more, c.copied-place.ensures, ap (λ o. length (gathered_of (split_of o))) h.is)

pub take_copy-requires-clause-inside : goal.take_copy-requires-clause-inside
take_copy-requires-clause-inside c = record {
  from_low = subst (λ k. c.args.node.now.low ≤ k) (sym (next_row_key _ _ _ _ c.copied-place.ensures c.copy_at-entry.ensures)) c.requires.low;
  below_high = (subst (EndsAfter c.args.node.now 0) (c.key_at-key.ensures ∙ ap (copy_key c.args.settings.now c.args.row.now) c.copied-place.ensures ∙ sym (next_row_key _ _ _ _ c.copied-place.ensures c.copy_at-entry.ensures)) c.in-Here.ensures).under;
}

pub take_copy-requires-clause-leaf : goal.take_copy-requires-clause-leaf
take_copy-requires-clause-leaf c = c.in-Here.ensures.level

pub take_copy-requires-clause-absent : goal.take_copy-requires-clause-absent
take_copy-requires-clause-absent c =
    subst (λ k. has_entry k (without_dead c.args.row.now.floor.updates c.args.node.now.entries) ≡ false) (sym (next_row_key _ _ _ _ c.copied-place.ensures c.copy_at-entry.ensures)) (c.requires.absent c.in-Here.ensures.level)

pub returns-in-Down : goal.returns-in-Down
returns-in-Down c = (subst (λ k. PointsDown c.args.node.now 0 k c.in-Down.child) (c.key_at-key.ensures ∙ ap (copy_key c.args.settings.now c.args.row.now) c.copied-place.ensures) c.in-Down.ensures, record { same = refl; row_is = c.note.ensures })

pub returns-in-Right : goal.returns-in-Right
returns-in-Right c = (subst (λ k. PointsRight c.args.node.now 0 k c.in-Right.next) (c.key_at-key.ensures ∙ ap (copy_key c.args.settings.now c.args.row.now) c.copied-place.ensures) c.in-Right.ensures, record { same = refl; row_is = c.note-in-Right.ensures })

pub returns-in-Here : goal.returns-in-Here
returns-in-Here c =
    copy_taken c.args.settings.now c.args.page c.args.node.now c.take_copy.new.node c.args.row.now c.take_copy.new.row c.copied-place.result c.copy_at-entry.result c.copied-place.ensures c.copy_at-entry.ensures
    (subst (EndsAfter c.args.node.now 0) (c.key_at-key.ensures ∙ ap (copy_key c.args.settings.now c.args.row.now) c.copied-place.ensures) c.in-Here.ensures) c.take_copy.result c.take_copy.ensures

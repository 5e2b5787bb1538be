use Rattle.std.proofs.Common.{◌≡◌, ◌≤◌, ◌-◌, ◌∙◌, ap, arith, refl, subst, sym, true}
use Rattle.mi_page.specs.Entries.{has_entry}
use Rattle.mi_solo.specs.Seeking.{EndsAfter, PointsDown, PointsRight}
use Rattle.mi_solo.specs.States.{split_of}
use Rattle.mi_core.specs.Events.{copied_to}
use Rattle.mi_core.specs.Effects.{drop_entry}
use Rattle.mi_solo.specs.LeafRows.{copied_by, copy_key}
use Rattle.mi_solo.proofs.CopyRows.{has_copy, row_key}
use Rattle.mi_solo.proofs.leaf_rows.uncopy_row.Goals as goal

pub key_at-key-requires-clause-place : goal.key_at-key-requires-clause-place
key_at-key-requires-clause-place c = let some = c.requires.some in let few = c.requires.few in omega (arith, some, few, c.copied-left.ensures)

pub seek-requires-clause-low : goal.seek-requires-clause-low
seek-requires-clause-low c above = subst (λ k. c.args.node.now.low ≤ k) (sym (c.key_at-key.ensures ∙ ap (λ n. copy_key c.args.settings.now c.args.row.now (n - 1)) c.copied-left.ensures)) c.requires.low

pub remove-requires-clause-leaf : goal.remove-requires-clause-leaf
remove-requires-clause-leaf c = c.in-Here.ensures.level

pub remove-requires-clause-there : goal.remove-requires-clause-there
remove-requires-clause-there c =
    let key = c.key_at-key.ensures ∙ ap (λ n. copy_key c.args.settings.now c.args.row.now (n - 1)) c.copied-left.ensures in
    let ends = subst (EndsAfter c.args.node.now 0) key c.in-Here.ensures in
    subst (λ k. has_entry k c.args.node.now.entries ≡ true) (sym key) (c.requires.there ends.level (record { from_low = c.requires.low; below_high = ends.under }))

pub returns-in-Down : goal.returns-in-Down
returns-in-Down c = (subst (λ k. PointsDown c.args.node.now 0 k c.in-Down.child) (c.key_at-key.ensures ∙ ap (λ n. copy_key c.args.settings.now c.args.row.now (n - 1)) c.copied-left.ensures) c.in-Down.ensures, record { same = refl; row_is = c.note.ensures })

pub returns-in-Right : goal.returns-in-Right
returns-in-Right c = (subst (λ k. PointsRight c.args.node.now 0 k c.in-Right.next) (c.key_at-key.ensures ∙ ap (λ n. copy_key c.args.settings.now c.args.row.now (n - 1)) c.copied-left.ensures) c.in-Right.ensures, record { same = refl; row_is = c.note-in-Right.ensures })

pub returns-in-Here : goal.returns-in-Here
returns-in-Here c =
    let left = ap (λ n. n - 1) c.copied-left.ensures in
    let some = c.requires.some in
    let few = c.requires.few in
    let has = has_copy c.args.settings.now c.args.row.now c.requires.splitting (copied_by c.args.row.now - 1) (omega (arith, some, few)) in
    let key = c.key_at-key.ensures ∙ ap (λ n. copy_key c.args.settings.now c.args.row.now (n - 1)) c.copied-left.ensures in (
      subst (EndsAfter c.args.node.now 0) key c.in-Here.ensures,
      has.0,
      has.1,
      record {
        left = c.remove.ensures ∙ ap (λ k. drop_entry k c.args.node.now) (key ∙ sym (row_key c.args.settings.now c.args.row.now (copied_by c.args.row.now - 1) has.0 has.1));
        row_is = c.take_back.ensures.rest;
        count = c.take_back.ensures.split ∙ ap (λ k. copied_to k (split_of c.args.row.now.split)) left;
      },
    )

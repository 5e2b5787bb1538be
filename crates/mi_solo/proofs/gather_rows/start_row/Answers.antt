use Rattle.std.proofs.Common.{◌≡◌, refl, ◌≤◌, ◌∙◌, List, ℕ, IsTrue, Some, ap, length, subst, sym}
use Rattle.std.proofs.lemmas.Option.{none-some, same_Some}
use Rattle.mi_base.specs.Prefixes.{all_below}
use Rattle.mi_solo.specs.declared.rows.ActorRow.{ActorRow}
use Rattle.mi_solo.specs.GatherRows.{row_work}
use Rattle.mi_solo.specs.States.{split_of}
use Rattle.mi_solo.proofs.GatherRows.{row_open, row_opened}
use Rattle.mi_solo.proofs.gather_rows.start_row.Goals as goal

pub returns-then-is_some : goal.returns-then-is_some
returns-then-is_some c = record {
  row_is = subst (λ (z : ActorRow). z ≡ record c.args.row.now { page = c.args.page; split = z.split }) (sym c.note.ensures) refl;
  begun = subst (λ (z : ActorRow). split_of z.split ≡ Some (row_work c.args.settings.now c.args.row.now)) (sym c.note.ensures) (row_open c.args.settings.now c.args.row.now (sym c.is_some.ensures ∙ c.if-is_some.true));
}

pub unreachable-requires : goal.unreachable-requires
unreachable-requires c = let h = c.requires in none-some h.leaf (sym c.in_default.is ∙ h.is)

pub first_key-first-requires-clause-depth : goal.first_key-first-requires-clause-depth
first_key-first-requires-clause-depth c =
    let h = c.requires in
    subst (λ (l : List ℕ). length l ≤ c.args.settings.now.levels) (same_Some h.leaf c.copy-leaf.result (sym h.is ∙ c.in-Some.is ∙ ap Some (sym c.copy-leaf.ensures))) h.depth

pub first_key-first-requires-clause-pivots : goal.first_key-first-requires-clause-pivots
first_key-first-requires-clause-pivots c =
    let h = c.requires in
    subst (λ (l : List ℕ). IsTrue (all_below (length c.args.settings.now.pivots) l)) (same_Some h.leaf c.copy-leaf.result (sym h.is ∙ c.in-Some.is ∙ ap Some (sym c.copy-leaf.ensures))) h.pivots

pub returns : goal.returns
returns c = record {
  row_is = c.open_split.ensures.rest;
  begun = row_opened c.args.settings.now c.args.row.now c.open_split.new.self c.copy-leaf.result (c.in-Some.is ∙ ap Some (sym c.copy-leaf.ensures)) c.first_key-first.result c.first_key-first.ensures c.open_split.ensures.split;
}

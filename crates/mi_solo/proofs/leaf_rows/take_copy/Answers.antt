use Rattle.std.proofs.Common.{◌<◌, ◌∙◌, ap, length, subst, sym}
use Rattle.mi_base.specs.Sorting.{put}
use Rattle.mi_page.specs.Entries.{entry_cmp}
use Rattle.mi_page.specs.Nodes.{Node, item_count}
use Rattle.mi_solo.proofs.InsertSection.{few_entries}
use Rattle.mi_page.specs.Keys.{IsInside}
use Rattle.mi_solo.proofs.leaf_rows.take_copy.Goals as goal

pub insert_spare-requires-clause-inside : goal.insert_spare-requires-clause-inside
insert_spare-requires-clause-inside c = subst (λ (n : Node). IsInside n.low n.high c.args.entry.key) (sym c.trim.ensures) c.requires.inside

pub returns-then-len-eq-CAPACITY : goal.returns-then-len-eq-CAPACITY
returns-then-len-eq-CAPACITY c = record {
  many = ap item_count (sym c.trim.ensures) ∙ sym c.len.ensures.count ∙ c.if-len-eq-CAPACITY.true;
  trimmed = c.trim.ensures;
  row_is = c.note.ensures;
}

pub returns : goal.returns
returns c = record {
  space = subst (λ m. m < 32) (ap (λ (n : Node). length n.entries) c.trim.ensures)
      (few_entries c.trim.new.self c.len.ensures.node (ap (λ (n : Node). n.level) c.trim.ensures ∙ c.requires.leaf) (λ h. c.if-len-eq-CAPACITY.false (c.len.ensures.count ∙ h)));
  put_in = c.insert_spare.ensures ∙ ap (λ (n : Node). record n { entries = put entry_cmp c.args.entry n.entries }) c.trim.ensures;
  row_is = c.copy_up_to.ensures.rest;
  count = c.copy_up_to.ensures.split;
}

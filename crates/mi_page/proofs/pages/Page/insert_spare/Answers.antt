use Rattle.std.proofs.Common.{ap, ◌∙◌, sym, subst}
use Rattle.mi_base.specs.Sorting.{put}
use Rattle.mi_page.specs.Entries.{entry_cmp}
use Rattle.mi_page.specs.Nodes.{Node, IsNode}
use Rattle.mi_page.proofs.NodeLemmas.{insert_entry_keeps}
use Rattle.mi_page.proofs.pages.Page.insert_spare.Goals as goal

pub invariant_of-self : goal.invariant_of-self
invariant_of-self c = (
  subst (λ (n : Node). IsNode (record n { entries = c.insert.new.entries.items })) (sym c.self.view_is)
      (insert_entry_keeps c.args.self.now c.args.entry c.insert.new.entries.items (subst IsNode c.self.view_is c.self.invariant.0) c.requires.leaf c.requires.few c.requires.inside c.requires.absent
      (c.insert.ensures.items ∙ ap (λ n. put entry_cmp c.args.entry n.entries) c.self.view_is)),
  c.insert.ensures.capacity ∙ c.self.invariant.1,
  c.self.invariant.2,
)

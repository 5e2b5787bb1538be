use Rattle.std.proofs.Common.{ap, ◌∙◌, sym, subst, not}
use Rattle.mi_key.specs.Ranges.{is_within}
use Rattle.mi_page.specs.Entries.{without_interval}
use Rattle.mi_page.specs.Nodes.{Node, IsNode}
use Rattle.mi_page.proofs.NodeLemmas.{filter_keeps_leaf}
use Rattle.mi_page.proofs.pages.Page.sweep.Goals as goal

pub invariant_of-self : goal.invariant_of-self
invariant_of-self c = (
  subst (λ (n : Node). IsNode (record n { entries = c.sweep.new.entries.items })) (sym c.self.view_is)
      (filter_keeps_leaf c.args.self.now (λ e. not (is_within c.args.range.now e.key)) c.sweep.new.entries.items (subst IsNode c.self.view_is c.self.invariant.0) c.requires.leaf
      (c.sweep.ensures.items ∙ ap (λ n. without_interval c.args.range.now n.entries) c.self.view_is)),
  c.sweep.ensures.capacity ∙ c.self.invariant.1,
  c.self.invariant.2,
)

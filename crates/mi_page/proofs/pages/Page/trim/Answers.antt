use Rattle.std.proofs.Common.{ap, ◌∙◌, sym, subst}
use Rattle.mi_page.specs.Entries.{without_dead, outlives}
use Rattle.mi_page.specs.Nodes.{Node, IsNode}
use Rattle.mi_page.proofs.NodeLemmas.{filter_keeps_leaf}
use Rattle.mi_page.proofs.pages.Page.trim.Goals as goal

pub invariant_of-self : goal.invariant_of-self
invariant_of-self c = (
  subst (λ (n : Node). IsNode (record n { entries = c.trim.new.entries.items })) (sym c.self.view_is)
      (filter_keeps_leaf c.args.self.now (λ e. outlives e.death c.args.floor) c.trim.new.entries.items (subst IsNode c.self.view_is c.self.invariant.0) c.requires.leaf
      (c.trim.ensures.items ∙ ap (λ n. without_dead c.args.floor n.entries) c.self.view_is)),
  c.trim.ensures.capacity ∙ c.self.invariant.1,
  c.self.invariant.2,
)

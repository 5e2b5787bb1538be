use Rattle.std.proofs.Common.{ap, ◌∙◌, sym, subst, not, nat_eq}
use Rattle.mi_page.specs.Entries.{without_key}
use Rattle.mi_page.specs.Nodes.{Node, IsNode}
use Rattle.mi_page.proofs.NodeLemmas.{filter_keeps_leaf}
use Rattle.mi_page.proofs.pages.Page.remove.Goals as goal

pub invariant_of-self : goal.invariant_of-self
invariant_of-self c = (
  subst (λ (n : Node). IsNode (record n { entries = c.remove.new.entries.items })) (sym c.self.view_is)
      (filter_keeps_leaf c.args.self.now (λ e. not (nat_eq e.key c.args.key)) c.remove.new.entries.items (subst IsNode c.self.view_is c.self.invariant.0) c.requires.leaf
      (c.remove.ensures.items ∙ ap (λ n. without_key c.args.key n.entries) c.self.view_is)),
  c.remove.ensures.capacity ∙ c.self.invariant.1,
  c.self.invariant.2,
)

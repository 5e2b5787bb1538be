use Rattle.std.proofs.Common.{ap, ◌∙◌, sym, subst}
use Rattle.mi_base.specs.Sorting.{put}
use Rattle.mi_page.specs.Routes.{route_cmp}
use Rattle.mi_page.specs.Nodes.{Node, IsNode}
use Rattle.mi_page.proofs.NodeLemmas.{insert_route_keeps}
use Rattle.mi_page.proofs.pages.Page.insert_route.Goals as goal

pub invariant_of-self : goal.invariant_of-self
invariant_of-self c = (
  subst (λ (n : Node). IsNode (record n { routes = c.insert.new.routes.items })) (sym c.self.view_is)
      (insert_route_keeps c.args.self.now (record { key = c.args.key; child = c.args.child }) c.insert.new.routes.items (subst IsNode c.self.view_is c.self.invariant.0) c.requires.inner c.requires.few c.requires.inside c.requires.absent
      (c.insert.ensures.items ∙ ap (λ n. put route_cmp (record { key = c.args.key; child = c.args.child }) n.routes) c.self.view_is)),
  c.self.invariant.1,
  c.insert.ensures.capacity ∙ c.self.invariant.2,
)

use Rattle.std.proofs.Common.{ap, ◌∙◌, sym, subst, take, drop, Some, ◌++◌}
use Rattle.mi_page.specs.Nodes.{Node, IsNode}
use Rattle.mi_page.proofs.HalfLemmas.{lower_node, upper_node, lower_is, upper_is}
use Rattle.mi_page.proofs.pages.Page.split_into.Goals as goal

pub invariant_of-self : goal.invariant_of-self
invariant_of-self c =
    let entries = c.move_upper.new.from.items in
    let routes = c.move_upper-2.new.from.items in (
      subst (λ (n : Node). IsNode (record { level = n.level; low = n.low; high = Some c.middle-middle.result; right = Some c.args.number; entries = entries; routes = routes })) (sym c.self.view_is)
          (subst IsNode (sym (lower_is c.args.self.now c.args.number c.middle-middle.result entries routes c.middle-middle.ensures
          (c.move_upper.ensures.stay ∙ ap (λ n. take 16 n.entries) c.self.view_is)
          (c.move_upper-2.ensures.stay ∙ ap (λ n. take 16 n.routes) c.self.view_is)))
          (lower_node c.args.self.now (subst IsNode c.self.view_is c.self.invariant.0) c.requires.full c.args.number)),
      c.move_upper.ensures.from_capacity ∙ c.self.invariant.1,
      c.move_upper-2.ensures.from_capacity ∙ c.self.invariant.2,
    )

pub invariant_of-fresh : goal.invariant_of-fresh
invariant_of-fresh c =
    let entries = c.move_upper.new.to.items in
    let routes = c.move_upper-2.new.to.items in
    let empty = c.fresh.view_is ∙ c.requires.fresh in (
      subst (λ (n : Node). IsNode (record { level = n.level; low = c.middle-middle.result; high = n.high; right = n.right; entries = entries; routes = routes })) (sym c.self.view_is)
          (subst IsNode (sym (upper_is c.args.self.now c.middle-middle.result entries routes c.middle-middle.ensures
          (c.move_upper.ensures.moved ∙ ap (λ n. n.entries ++ drop 16 c.self.inside.entries.items) empty ∙ ap (λ n. drop 16 n.entries) c.self.view_is)
          (c.move_upper-2.ensures.moved ∙ ap (λ n. n.routes ++ drop 16 c.self.inside.routes.items) empty ∙ ap (λ n. drop 16 n.routes) c.self.view_is)))
          (upper_node c.args.self.now (subst IsNode c.self.view_is c.self.invariant.0) c.requires.full)),
      c.move_upper.ensures.to_capacity ∙ c.fresh.invariant.1,
      c.move_upper-2.ensures.to_capacity ∙ c.fresh.invariant.2,
    )

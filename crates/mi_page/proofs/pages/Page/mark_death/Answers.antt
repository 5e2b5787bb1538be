use Rattle.std.proofs.Common.{◌≡◌, ap, ◌∙◌, sym, subst, map, take, drop, length, ◌++◌}
use Rattle.std.proofs.lemmas.List.{take_at, length-map}
use Rattle.mi_page.specs.Entries.{with_death, has_entry}
use Rattle.mi_page.specs.Nodes.{Node, IsNode}
use Rattle.mi_page.proofs.NodeLemmas.{mark_keeps, living_there}
use Rattle.mi_page.proofs.pages.Page.mark_death.Goals as goal

pub mark_death-requires-clause-there : goal.mark_death-requires-clause-there
mark_death-requires-clause-there c =
    ap (has_entry c.args.key) (c.deref_mut.ensures.value ∙ ap (λ n. n.entries) c.self.view_is) ∙ living_there c.args.key c.args.self.now.entries c.requires.living

pub invariant_of-self : goal.invariant_of-self
invariant_of-self c =
    let entries = take c.self.inside.entries.len (c.mark_death.new.entries ++ drop (length c.mark_death.new.entries) c.self.inside.entries.items) in
    let long : length c.mark_death.new.entries ≡ c.self.inside.entries.len =
    ap length c.mark_death.ensures ∙ length-map c.deref_mut.result.now (with_death c.args.key c.args.number) ∙ c.deref_mut.ensures.len in (
      subst (λ (n : Node). IsNode (record n { entries = entries })) (sym c.self.view_is)
          (mark_keeps c.args.self.now c.args.key c.args.number entries (subst IsNode c.self.view_is c.self.invariant.0) c.requires.leaf
          (take_at c.mark_death.new.entries (drop (length c.mark_death.new.entries) c.self.inside.entries.items) c.self.inside.entries.len long
          ∙ c.mark_death.ensures
          ∙ ap (map (with_death c.args.key c.args.number)) (c.deref_mut.ensures.value ∙ ap (λ n. n.entries) c.self.view_is))),
      c.self.invariant.1,
      c.self.invariant.2,
    )

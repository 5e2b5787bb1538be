use Rattle.std.proofs.Common.{◌-◌, ◌∷◌, ◌≤◌, ◌∙◌, Some, None, ap, replicate, subst}
use Rattle.mi_base.specs.Configuration.{Configuration, IsWithinLimits}
use Rattle.mi_page.specs.Nodes.{fresh_node}
use Rattle.mi_solo.proofs.CoreLemmas.{core_opened}
use Rattle.mi_solo.proofs.cores.Core.open.Goals as goal

pub returns : goal.returns
returns c =
    let settings = c.args.settings.now in
    let limits = subst IsWithinLimits c.settings.view_is c.settings.invariant in
    let some : 1 ≤ settings.pages = limits.pages.0 in
    let now = core_opened (record { board = c.in_ok-open.field-0; shards = c.in_ok-first_shards.field-0; pages = c.in_ok-first_pages.field-0; actors = c.in_ok-first_rows.field-0 }) settings c.args.actors limits c.requires.metric some c.in_ok-open.ensures c.in_ok-first_shards.ensures
    (c.in_ok-first_pages.ensures ∙ ap (λ (x : Configuration). Some fresh_node ∷ replicate (x.pages - 1) None) c.settings.view_is) (c.in_ok-first_rows.ensures settings) in
    record { opened = now.0; kept = now.1 }

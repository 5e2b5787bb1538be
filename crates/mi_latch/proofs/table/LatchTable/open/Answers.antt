use Rattle.std.proofs.Common.{◌≡◌, ◌≤◌, ◌+◌, ◌-◌, ◌∙◌, ap, subst, arith, length, replicate}
use Rattle.mi_base.specs.Configuration.{Configuration, IsWithinLimits}
use Rattle.mi_latch.specs.Layout.{slot_count}
use Rattle.mi_latch.proofs.Parting.{as_many_cells, opens_rule}
use Rattle.mi_latch.proofs.table.LatchTable.open.Goals as goal

pub new-requires : goal.new-requires
new-requires c =
    let settings = c.args.settings.now in
    let limits = subst IsWithinLimits c.settings.view_is c.settings.invariant in
    let pages : 1 ≤ settings.pages = limits.pages.0 in
    let slots = c.in_ok-slots.ensures in
    opens_rule settings limits c.requires.metric _ _ (c.as_slice.ensures.value ∙ c.in_ok-words.ensures ∙ ap (λ (x : Configuration). replicate (x.pages + 17) 0) c.settings.view_is) slots
    (ap length slots ∙ as_many_cells settings (settings.pages - 1) ∙ (let e : settings.pages - 1 + 18 ≡ slot_count settings = omega (arith, pages) in e)) pages

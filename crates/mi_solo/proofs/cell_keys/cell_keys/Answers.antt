use Rattle.std.proofs.Common.{◌≡◌, ◌-◌, ◌^◌, ◌∙◌, arith, ap}
use Rattle.mi_base.specs.declared.limits.TheConstants.{MAX_ID}
use Rattle.mi_key.specs.Keys.{key_of}
use Rattle.mi_entries.specs.Entries.{grid}
use Rattle.mi_entries.specs.Marks.{cell_end, cell_start}
use Rattle.mi_world.specs.LeafKeys.{greatest_key}
use Rattle.mi_solo.proofs.MarkLemmas.{end_is}
use Rattle.mi_solo.proofs.cell_keys.cell_keys.Goals as goal

pub returns : goal.returns
returns c =
    let settings = c.args.settings.now in
    let leaf = c.args.leaf.now in
    let from : c.make.result ≡ cell_start (grid settings) leaf =
    c.make.ensures.number ∙ ap (λ i. key_of (record { cluster = c.cell_number-cell.result; distance = 0; id = i; birth = 0 })) c.first_id.ensures
    ∙ ap (λ n. key_of (record { cluster = n; distance = 0; id = 0; birth = 0 })) c.cell_number-cell.ensures.number in
    let last : c.make-2.result ≡ greatest_key settings leaf =
    c.make-2.ensures.number ∙ ap (λ i. key_of (record { cluster = c.cell_number-cell.result; distance = 2 ^ 27 - 1; id = i; birth = 2 ^ 30 - 1 })) c.in-Ok.ensures.ok.0
    ∙ ap (λ n. key_of (record { cluster = n; distance = 2 ^ 27 - 1; id = MAX_ID; birth = 2 ^ 30 - 1 })) c.cell_number-cell.ensures.number in
    let to : c.make-2.result ≡ cell_end (grid settings) leaf - 1 = omega (arith, last, end_is settings leaf) in
    ap (λ n. record { from = n; to = c.make-2.result }) from ∙ ap (λ n. record { from = cell_start (grid settings) leaf; to = n }) to

use Rattle.std.proofs.Common.{[], ◌∷◌, ◌++◌, sym, append_assoc}
use Rattle.std.specs.Prelude.{codes}
use Rattle.std.specs.List.{flat_map}
use Rattle.mi_choose.specs.Farthest.{objects_at}
use Rattle.mi_outside.proofs.SendingLemmas.{sends_ended, sends_then}
use Rattle.mi_print.specs.Render.{number_line}
use Rattle.mi_call.specs.Choosing.{choice_text, pivot_line}
use Rattle.mi_call.proofs.proposals.send_choice.Goals as goal

pub returns-in_err-send_numbers : goal.returns-in_err-send_numbers
returns-in_err-send_numbers g c =
    let choice = c.args.choice.now in
    let pivots = flat_map pivot_line (objects_at c.args.objects.now choice.chosen) in
    let cover = number_line (codes "cover") (choice.cover ∷ []) in
    let apart = number_line (codes "apart") (choice.apart ∷ []) in
    sends_ended _ c.from_residual-in_err-send_numbers.result (pivots ++ cover) apart (choice_text c.args.objects.now choice) c.from_residual-in_err-send_numbers.ensures.1
    (sym (append_assoc pivots cover apart)) (sends_then pivots cover c.in_ok-send_pivots.ensures c.in_err-send_numbers.ensures)

pub returns : goal.returns
returns g c =
    let choice = c.args.choice.now in
    let pivots = flat_map pivot_line (objects_at c.args.objects.now choice.chosen) in
    let cover = number_line (codes "cover") (choice.cover ∷ []) in
    let apart = number_line (codes "apart") (choice.apart ∷ []) in
    sends_then pivots (cover ++ apart) c.in_ok-send_pivots.ensures (sends_then cover apart c.in_ok-send_numbers.ensures c.send_numbers-2.ensures)

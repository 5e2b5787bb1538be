use Rattle.std.proofs.Common.{◌≡◌, [], ◌∷◌, ◌++◌, length, refl, sym, ap, ◌∙◌, subst, arith, length-append}
use Rattle.std.specs.Prelude.{Some, slice_get}
use Rattle.std.proofs.lemmas.Option.{slice_get_read}
use Rattle.mi_settle.specs.declared.splitters.SplitterSeat.{SplitterSeat}
use Rattle.mi_replay.specs.Seats.{IsEmpty}
use Rattle.mi_replay.specs.Tables.{Ran}
use Rattle.mi_replay.proofs.TableOpening.{AreEmpty, empty_more, empty_none, opened_table}
use Rattle.mi_replay.proofs.tables.Table.open.Goals as goal

pub loop-script-init : goal.loop-script-init
loop-script-init c =
    let none = c.in_ok-seats.ensures.items in
    record { count = ap length none; empty = subst (AreEmpty c.args.scripts.now) (sym none) (empty_none c.args.scripts.now) }

pub loop-script-preserved : goal.loop-script-preserved
loop-script-preserved c =
    let scripts = c.args.scripts.now in
    let seats = c.loop-script.seats.items in
    let script = c.script-item.result in
    let seat = c.in_ok-new.field-0 in
    let more : c.push.new.self.items ≡ seats ++ seat ∷ [] = c.in_ok-push.ensures.items in
    let at : slice_get scripts c.loop-script.script-index ≡ Some script = slice_get_read scripts (length scripts) c.loop-script.script-index script refl c.loop-script-test.true c.script-item.is in
    let here : slice_get scripts (length seats) ≡ Some script = ap (slice_get scripts) c.loop-script.invariant.count ∙ at in
    let one : IsEmpty (length script) seat = subst (λ n. IsEmpty n seat) c.len.ensures c.in_ok-new.ensures in
    record {
      count = omega (arith, ap length more, length-append seats (seat ∷ []), c.loop-script.invariant.count);
      empty = subst (AreEmpty scripts) (sym more) (empty_more scripts seats script seat c.loop-script.invariant.empty here one);
    }

pub returns : goal.returns
returns c =
    let settings = c.args.settings.now in
    let scripts = c.args.scripts.now in
    let s = c.in_ok-solo.solo.state in
    let seats = c.loop-script.seats.items in
    let count : length seats ≡ length scripts = omega (arith, c.loop-script.invariant.count, c.loop-script.auto.script-index-end, c.loop-script-test.false) in
    subst (λ (x : SplitterSeat). Ran settings scripts [] s seats x) (sym c.new-2.ensures)
    (opened_table settings scripts s seats (ap (λ t. t.state) c.in_ok-solo.ensures) c.log.ensures.kept count c.loop-script.invariant.empty c.requires.scripts)

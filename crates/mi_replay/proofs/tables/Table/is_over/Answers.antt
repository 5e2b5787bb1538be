use Rattle.std.proofs.Common.{◌≡◌, length, refl, sym, ◌∙◌, arith, inr}
use Rattle.std.specs.Prelude.{Some, slice_get}
use Rattle.std.proofs.lemmas.Option.{slice_get_read}
use Rattle.mi_replay.proofs.TableOpening.{all_over, none_under_way, over_more}
use Rattle.mi_replay.proofs.tables.Table.is_over.Goals as goal

pub loop-number-preserved : goal.loop-number-preserved
loop-number-preserved c =
    let scripts = c.args.scripts.now in
    let seats = c.args.self.now.seats.items in
    let n = c.loop-number.number in
    let script = c.index-scripts-number.result in
    let seat = c.index.result.now in
    let at_script : slice_get scripts n ≡ Some script = slice_get_read scripts (length scripts) n script refl c.loop-number-test.true c.index-scripts-number.is in
    let at_seat : slice_get seats n ≡ Some seat = slice_get_read seats (length seats) n seat refl (omega (arith, c.loop-number-test.true, c.requires)) c.index.ensures in
    over_more scripts seats n script seat c.loop-number.invariant at_script at_seat (sym c.is_over.ensures ∙ c.if-not-is_over.false)

pub returns-then-not-is_over-clause-not : goal.returns-then-not-is_over-clause-not
returns-then-not-is_over-clause-not c =
    let scripts = c.args.scripts.now in
    let seats = c.args.self.now.seats.items in
    let n = c.loop-number.number in
    let script = c.index-scripts-number.result in
    let seat = c.index.result.now in
    let at_script : slice_get scripts n ≡ Some script = slice_get_read scripts (length scripts) n script refl c.loop-number-test.true c.index-scripts-number.is in
    let at_seat : slice_get seats n ≡ Some seat = slice_get_read seats (length seats) n seat refl (omega (arith, c.loop-number-test.true, c.requires)) c.index.ensures in
    λ _. inr (n, script, seat, at_script, at_seat, sym c.is_over.ensures ∙ c.if-not-is_over.true)

pub returns-clause-over : goal.returns-clause-over
returns-clause-over c = λ _. (
  all_over c.args.scripts.now c.args.self.now.seats.items c.loop-number.number c.loop-number.invariant c.loop-number-test.false,
  none_under_way c.args.self.now.splitter.care.task (sym c.is_under_way.ensures ∙ c.if-is_under_way.false),
)

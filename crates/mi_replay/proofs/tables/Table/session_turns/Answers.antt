use Rattle.std.proofs.Common.{◌≡◌, length, refl, arith}
use Rattle.std.specs.Prelude.{Some, slice_get}
use Rattle.std.proofs.lemmas.Option.{slice_get_read}
use Rattle.mi_replay.proofs.TableBlocks.{item_turns}
use Rattle.mi_replay.proofs.SpendingTables.{turns_spend}
use Rattle.mi_replay.proofs.tables.Table.session_turns.Goals as goal

pub turns-requires-clause-waits : goal.turns-requires-clause-waits
turns-requires-clause-waits g c =
    let scripts = c.args.scripts.now in
    let seats = c.args.self.now.seats.items in
    let n = c.args.number in
    let script = c.index-scripts-number.result in
    let seat = c.index_mut-seat.result.now in
    let at_script : slice_get scripts n ≡ Some script = slice_get_read scripts (length scripts) n script refl c.requires.there c.index-scripts-number.is in
    let at_seat : slice_get seats n ≡ Some seat = slice_get_read seats (length seats) n seat refl (omega (arith, c.requires.there, c.requires.waits.count)) c.index_mut-seat.ensures.value in
    c.requires.waits.each n script seat at_script at_seat

pub returns-clause-made : goal.returns-clause-made
returns-clause-made g c =
    let scripts = c.args.scripts.now in
    let seats = c.args.self.now.seats.items in
    let n = c.args.number in
    let script = c.index-scripts-number.result in
    let seat = c.index_mut-seat.result.now in
    let at_script : slice_get scripts n ≡ Some script = slice_get_read scripts (length scripts) n script refl c.requires.there c.index-scripts-number.is in
    let at_seat : slice_get seats n ≡ Some seat = slice_get_read seats (length seats) n seat refl (omega (arith, c.requires.there, c.requires.waits.count)) c.index_mut-seat.ensures.value in
    item_turns scripts c.args.self.now.solo.state seats c.args.self.now.splitter n script seat c.args.count c.turns.new.solo.state c.turns.new.self c.requires.waits at_script at_seat c.turns.ensures.made

pub returns-clause-spends : goal.returns-clause-spends
returns-clause-spends g c =
    let scripts = c.args.scripts.now in
    let t = c.args.self.now in
    let n = c.args.number in
    let script = c.index-scripts-number.result in
    let seat = c.index_mut-seat.result.now in
    let at_script : slice_get scripts n ≡ Some script = slice_get_read scripts (length scripts) n script refl c.requires.there c.index-scripts-number.is in
    let at_seat : slice_get t.seats.items n ≡ Some seat = slice_get_read t.seats.items (length t.seats.items) n seat refl (omega (arith, c.requires.there, c.requires.waits.count)) c.index_mut-seat.ensures.value in
    λ first. turns_spend scripts t.solo.state t.seats.items t.splitter c.turns.new.solo.state c.requires.waits n script seat c.turns.new.self c.args.count c.args.steps.now c.turns.new.steps first at_script at_seat
    c.turns.ensures.made c.turns.ensures.spends

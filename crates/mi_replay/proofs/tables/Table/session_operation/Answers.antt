use Rattle.std.proofs.Common.{◌≡◌, length, refl, arith}
use Rattle.std.specs.Prelude.{Some, slice_get}
use Rattle.std.proofs.lemmas.Option.{slice_get_read}
use Rattle.mi_replay.proofs.TableBlocks.{item_operation}
use Rattle.mi_replay.proofs.TableRounds.{relieves_operation}
use Rattle.mi_replay.proofs.SpendingTables.{operation_spends}
use Rattle.mi_replay.proofs.tables.Table.session_operation.Goals as goal

pub operation-requires-clause-waits : goal.operation-requires-clause-waits
operation-requires-clause-waits g c =
    let scripts = c.args.scripts.now in
    let seats = c.args.self.now.seats.items in
    let n = c.args.number in
    let script = c.index-scripts-number.result in
    let seat = c.index_mut-seat.result.now in
    let at_script : slice_get scripts n ≡ Some script = slice_get_read scripts (length scripts) n script refl c.requires.there c.index-scripts-number.is in
    let at_seat : slice_get seats n ≡ Some seat = slice_get_read seats (length seats) n seat refl (omega (arith, c.requires.there, c.requires.waits.count)) c.index_mut-seat.ensures.value in
    c.requires.waits.each n script seat at_script at_seat

pub returns-clause-made : goal.returns-clause-made
returns-clause-made g c =
    let scripts = c.args.scripts.now in
    let seats = c.args.self.now.seats.items in
    let n = c.args.number in
    let script = c.index-scripts-number.result in
    let seat = c.index_mut-seat.result.now in
    let at_script : slice_get scripts n ≡ Some script = slice_get_read scripts (length scripts) n script refl c.requires.there c.index-scripts-number.is in
    let at_seat : slice_get seats n ≡ Some seat = slice_get_read seats (length seats) n seat refl (omega (arith, c.requires.there, c.requires.waits.count)) c.index_mut-seat.ensures.value in
    item_operation scripts c.args.self.now.solo.state seats c.args.self.now.splitter n script seat c.operation.new.solo.state c.operation.new.self c.requires.waits at_script at_seat c.operation.ensures.made

pub returns-clause-relieved : goal.returns-clause-relieved
returns-clause-relieved g c =
    let scripts = c.args.scripts.now in
    let seats = c.args.self.now.seats.items in
    let n = c.args.number in
    let script = c.index-scripts-number.result in
    let seat = c.index_mut-seat.result.now in
    let at_script : slice_get scripts n ≡ Some script = slice_get_read scripts (length scripts) n script refl c.requires.there c.index-scripts-number.is in
    let at_seat : slice_get seats n ≡ Some seat = slice_get_read seats (length seats) n seat refl (omega (arith, c.requires.there, c.requires.waits.count)) c.index_mut-seat.ensures.value in
    record {
      script = script;
      a = seat;
      b = c.operation.new.self;
      at_script = at_script;
      at_seat = at_seat;
      is = refl;
      relieves = relieves_operation n script c.args.self.now.solo.state seat c.operation.new.solo.state c.operation.new.self c.requires.waits.kept (c.requires.waits.each n script seat at_script at_seat) c.operation.ensures.made;
    }

pub returns-clause-spends : goal.returns-clause-spends
returns-clause-spends g c =
    let scripts = c.args.scripts.now in
    let t = c.args.self.now in
    let n = c.args.number in
    let script = c.index-scripts-number.result in
    let seat = c.index_mut-seat.result.now in
    let at_script : slice_get scripts n ≡ Some script = slice_get_read scripts (length scripts) n script refl c.requires.there c.index-scripts-number.is in
    let at_seat : slice_get t.seats.items n ≡ Some seat = slice_get_read t.seats.items (length t.seats.items) n seat refl (omega (arith, c.requires.there, c.requires.waits.count)) c.index_mut-seat.ensures.value in
    λ first. operation_spends scripts t.solo.state t.seats.items t.splitter c.operation.new.solo.state c.requires.waits n script seat c.operation.new.self c.args.steps.now c.operation.new.steps first at_script at_seat
    c.operation.ensures.made c.operation.ensures.spends

use Rattle.std.proofs.Common.{sym, ap, ◌∙◌, arith}
use Rattle.mi_entries.specs.Actors.{Actor}
use Rattle.mi_solo.specs.States.{actor_in, state_of}
use Rattle.mi_entries.specs.Records.{Shard, no_shard}
use Rattle.mi_solo.proofs.CoreLemmas.{holds_shard, on_board, read_is, row_is, some_of, suits}
use Rattle.mi_solo.proofs.ShardSections.{room_refused, room_reserved}
use Rattle.mi_solo.proofs.cores.Core.reserve.Goals as goal

pub unreachable-requires : goal.unreachable-requires
unreachable-requires c =
    let s = c.args.self.now in
    let a = c.args.actor in
    let some = some_of (actor_in (state_of s) a).shard c.requires.shard in
    c.in_default.not-Some some.0 (ap (λ (r : Actor). r.shard) (sym (row_is s a c.requires.going.known c.index_mut-me.result.now c.index_mut-me.ensures.value)) ∙ some.1)

pub index_mut-requires : goal.index_mut-requires
index_mut-requires c =
    let s = c.args.self.now in
    let a = c.args.actor in
    let low = holds_shard s a c.requires.going.known c.requires.kept c.in-Some.shard (ap (λ (r : Actor). r.shard) (row_is s a c.requires.going.known c.index_mut-me.result.now c.index_mut-me.ensures.value) ∙ c.in-Some.is) in
    omega arith

pub reserve-requires : goal.reserve-requires
reserve-requires c = on_board c.args.self.now c.args.actor c.requires.going.known c.requires.kept

pub returns-in-Ok : goal.returns-in-Ok
returns-in-Ok c =
    let s = c.args.self.now in
    let a = c.args.actor in
    let held = ap (λ (r : Actor). r.shard) (row_is s a c.requires.going.known c.index_mut-me.result.now c.index_mut-me.ensures.value) ∙ c.in-Some.is in
    let low = holds_shard s a c.requires.going.known c.requires.kept c.in-Some.shard held in
    let its = ap (λ (x : Shard). x.holder) (read_is s.shards.items c.in-Some.shard no_shard c.index_mut.result.now low c.index_mut.ensures.value) ∙ ((suits s a c.requires.going.known c.requires.kept).holds.shard c.in-Some.shard held).1 in
    room_reserved s a c.requires.going.known c.requires.kept c.index_mut-me.result.now c.index_mut-me.ensures.value c.reserve-in-Ok.new.self c.in-Some.shard low c.index_mut.result.now c.index_mut.ensures.value held c.reserve.new.board c.reserve.new.self
    c.in-Ok.look c.in-Ok.ensures its c.look.result c.look.ensures c.reserve-in-Ok.ensures

pub returns-in-Err : goal.returns-in-Err
returns-in-Err c =
    let s = c.args.self.now in
    let a = c.args.actor in
    let held = ap (λ (r : Actor). r.shard) (row_is s a c.requires.going.known c.index_mut-me.result.now c.index_mut-me.ensures.value) ∙ c.in-Some.is in
    let low = holds_shard s a c.requires.going.known c.requires.kept c.in-Some.shard held in
    room_refused s a c.requires.going.known c.requires.kept c.index_mut-me.result.now c.index_mut-me.ensures.value c.see.new.self c.in-Some.shard low c.index_mut.result.now c.index_mut.ensures.value held c.reserve.new.board c.reserve.new.self
    c.in-Err.refusal c.in-Err.ensures c.see.ensures

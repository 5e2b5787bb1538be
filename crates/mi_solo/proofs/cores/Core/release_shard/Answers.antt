use Rattle.std.proofs.Common.{◌≡◌, false, ◌<◌, None, Some, refl, sym, ap, ◌∙◌, length, arith, set}
use Rattle.mi_core.specs.Events.{hand}
use Rattle.mi_entries.specs.Actors.{Actor}
use Rattle.mi_entries.specs.Records.{Shard, held_by, no_shard, shard_at}
use Rattle.mi_solo.specs.States.{actor_in, actor_of, state_of}
use Rattle.mi_solo.proofs.CoreLemmas.{comes_to, holds_shard, read_is, row_is, some_of}
use Rattle.mi_solo.proofs.cores.Core.release_shard.Goals as goal

pub unreachable-requires : goal.unreachable-requires
unreachable-requires c =
    let s = c.args.self.now in
    let a = c.args.actor in
    let some = some_of (actor_in (state_of s) a).shard c.requires.held in
    c.in_default.not-Some some.0 (ap (λ (r : Actor). r.shard) (sym (row_is s a c.requires.going.known c.index_mut-me.result.now c.index_mut-me.ensures.value)) ∙ some.1)

pub index_mut-requires : goal.index_mut-requires
index_mut-requires c =
    let s = c.args.self.now in
    let a = c.args.actor in
    let low = holds_shard s a c.requires.going.known c.requires.kept c.in-Some.shard (ap (λ (r : Actor). r.shard) (row_is s a c.requires.going.known c.index_mut-me.result.now c.index_mut-me.ensures.value) ∙ c.in-Some.is) in
    omega arith

pub returns : goal.returns
returns c =
    let s = c.args.self.now in
    let a = c.args.actor in
    let held = ap (λ (r : Actor). r.shard) (row_is s a c.requires.going.known c.index_mut-me.result.now c.index_mut-me.ensures.value) ∙ c.in-Some.is in
    let low : c.in-Some.shard < length s.shards.items = holds_shard s a c.requires.going.known c.requires.kept c.in-Some.shard held in
    let kept : c.index_mut.result.now ≡ shard_at s.shards.items c.in-Some.shard = read_is s.shards.items c.in-Some.shard no_shard c.index_mut.result.now low c.index_mut.ensures.value in
    let k : hand (actor_in (state_of s) a).shard ≡ c.in-Some.shard = ap hand held in
    record {
      can = (held ∙ ap Some (sym k), refl);
      is = comes_to s a c.requires.going.known c.index_mut-me.result.now c.index_mut-me.ensures.value s.board s.board refl refl (λ m n. refl)
          (set s.shards.items c.in-Some.shard c.give.new.self) (set s.shards.items (hand (actor_in (state_of s) a).shard) (held_by None (shard_at s.shards.items (hand (actor_in (state_of s) a).shard)).rows)) (ap (set s.shards.items c.in-Some.shard) (c.give.ensures ∙ ap (λ (x : Shard). held_by None x.rows) kept) ∙ ap (λ n. set s.shards.items n (held_by None (shard_at s.shards.items n).rows)) (sym k)) s.pages.items s.pages.items refl c.leave_shard.new.self (λ (r : Actor). record r { shard = None; reserved_here = false })
          (ap (actor_of s.board.settings s.board.log a) c.leave_shard.ensures);
    }

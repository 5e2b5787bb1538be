use Rattle.std.proofs.Common.{◌≡◌, ◌<◌, ◌%◌, ◌∙◌, ap, arith, length, None, sym}
use Rattle.mi_entries.specs.Records.{Shard, home}
use Rattle.mi_solo.proofs.CoreLemmas.{none_of, same_at}
use Rattle.mi_solo.proofs.ShardSections.{shard_claimed, shard_missed}
use Rattle.mi_solo.proofs.cores.Core.claim_shard.Goals as goal

pub returns-then-is_some : goal.returns-then-is_some
returns-then-is_some c =
    let s = c.args.self.now in
    let k = c.get.result % 16 in
    let low : k < length s.shards.items = let many = c.requires.kept.sound.sixteen in omega arith in
    shard_missed s c.args.actor c.requires.going.known c.requires.kept c.index_mut.result.now c.index_mut.ensures.value c.miss_shard.new.self k low c.args.id (ap home c.get.ensures.same)
    c.requires.free c.index.result.now c.index.ensures c.holder-by.result c.holder-by.ensures (sym c.is_some.ensures ∙ c.if-is_some.true) c.miss_shard.ensures

pub returns : goal.returns
returns c =
    let s = c.args.self.now in
    let k = c.get.result % 16 in
    let low : k < length s.shards.items = let many = c.requires.kept.sound.sixteen in omega arith in
    let none : c.index_mut-shard.result.now.holder ≡ None =
    ap (λ (x : Shard). x.holder) (same_at s.shards.items k c.index_mut-shard.result.now c.index.result.now low c.index_mut-shard.ensures.value c.index.ensures)
    ∙ sym c.holder-by.ensures ∙ none_of c.holder-by.result (sym c.is_some.ensures ∙ c.if-is_some.false) in
    shard_claimed s c.args.actor c.requires.going.known c.requires.kept c.index_mut-2.result.now c.index_mut-2.ensures.value c.take_shard.new.self k low c.args.id (ap home c.get.ensures.same)
    c.requires.free c.index_mut-shard.result.now c.index_mut-shard.ensures.value none c.give.new.self c.give.ensures c.take_shard.ensures c.record.result c.record.ensures

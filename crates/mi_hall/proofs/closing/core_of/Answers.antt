use Rattle.std.proofs.Common.{drop, subst, sym}
use Rattle.std.specs.List.{AllByRecursion}
use Rattle.mi_latch.specs.Takes.{IsShard}
use Rattle.mi_hall.proofs.ClosingLemmas.{front_shards}
use Rattle.mi_hall.proofs.closing.core_of.Goals as goal

pub move_shards-requires-clause-shards : goal.move_shards-requires-clause-shards
move_shards-requires-clause-shards c = let v = c.requires.values in subst (λ l. AllByRecursion IsShard (drop 1 l)) (sym c.move_pages.ensures.stay) (front_shards v.0 c.args.values.items v.1 v.2)

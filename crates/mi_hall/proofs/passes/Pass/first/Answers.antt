use Rattle.std.proofs.Common.{refl}
use Rattle.mi_hall.proofs.AbsorbedLemmas.{first_gone}
use Rattle.mi_hall.proofs.NamedPages.{first_near}
use Rattle.mi_hall.proofs.PassLemmas.{first_cells, first_pass, first_word, given_at}
use Rattle.mi_hall.proofs.passes.Pass.first.Goals as goal

pub invariant_of-result : goal.invariant_of-result
invariant_of-result c = (first_pass c.requires.first.0 c.args.seat.me _ c.requires.first.1 c.first.ensures, first_near c.requires.first.0 c.args.seat.me _ c.requires.first.1 c.requires.near, first_cells c.requires.first.0 c.args.seat.me c.requires.first.1, first_word _ _ c.first.ensures c.requires.first.0, given_at _ _ _ c.requires.first.1 refl, first_gone c.requires.first.0 c.args.seat.me _ c.requires.first.1 c.requires.spare)

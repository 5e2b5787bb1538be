use Rattle.std.proofs.Common.{◌∙◌}
use Rattle.mi_key.proofs.KeyLemmas.{cmp-parts}
use Rattle.mi_key.proofs.keys.Key.compare.Goals as goal

pub returns-clause-parts : goal.returns-clause-parts
returns-clause-parts c = c.cmp.ensures ∙ cmp-parts c.args.self.now c.args.other.now

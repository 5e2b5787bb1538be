use Rattle.std.proofs.Common.{ap, ◌∙◌, arith}
use Rattle.mi_key.specs.Keys.{key_of, parts_of}
use Rattle.mi_key.proofs.KeyLemmas.{made_of, parts_of-key_of}
use Rattle.mi_key.proofs.keys.Key.make.Goals as goal

pub returns-clause-number : goal.returns-clause-number
unfolding key_of
returns-clause-number c = omega (arith, c.from.ensures, c.from-2.ensures, c.from-3.ensures, c.from-4.ensures, c.get.ensures.same, c.get.ensures.small, c.requires.cluster, c.requires.distance, c.requires.birth)

pub returns-clause-parts : goal.returns-clause-parts
returns-clause-parts c =
    ap parts_of (returns-clause-number c)
    ∙ parts_of-key_of (made_of c.args.cluster c.args.distance c.args.id c.args.birth)
    (record { fit_cluster = c.requires.cluster; fit_distance = c.requires.distance; fit_id = omega (arith, c.get.ensures.same, c.get.ensures.small); fit_birth = c.requires.birth })

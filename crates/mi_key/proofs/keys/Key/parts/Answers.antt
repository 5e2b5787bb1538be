use Rattle.std.proofs.Common.{ap, ◌∙◌, ◌/◌, ◌%◌, ◌^◌}
use Rattle.mi_key.specs.Keys.{key_of, parts_of}
use Rattle.mi_key.proofs.KeyLemmas.{made_of, parts-in_turn, key_of-parts_of}
use Rattle.mi_key.proofs.keys.Key.parts.Goals as goal

pub returns-clause-parts : goal.returns-clause-parts
returns-clause-parts c =
    let k = c.self.inside.value in
    ap (λ i. made_of (k / 2 ^ 30 / 2 ^ 40 / 2 ^ 27) (k / 2 ^ 30 / 2 ^ 40 % 2 ^ 27) i (k % 2 ^ 30)) c.in-Ok.ensures.ok.0 ∙ parts-in_turn k ∙ ap parts_of c.self.view_is

pub returns-clause-number : goal.returns-clause-number
returns-clause-number c = ap key_of (returns-clause-parts c) ∙ key_of-parts_of c.args.self.now

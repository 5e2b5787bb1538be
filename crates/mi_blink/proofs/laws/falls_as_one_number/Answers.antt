use Rattle.mi_blink.proofs.DescentLemmas.{falls_pack}
use Rattle.mi_blink.proofs.laws.falls_as_one_number.Goals as goal

pub returns : goal.returns
returns c = falls_pack

use Rattle.mi_blink.proofs.LiveLemmas.{shows_live}
use Rattle.mi_blink.proofs.laws.legal_logs_show_the_live.Goals as goal

pub returns : goal.returns
returns c = shows_live

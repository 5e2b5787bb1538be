use Rattle.mi_page.proofs.LawLemmas.{halves_shown}
use Rattle.mi_page.proofs.laws.halves_show_all.Goals as goal

pub returns : goal.returns
returns c = λ p number range updates. halves_shown range updates 16 p.entries

use Rattle.mi_page.proofs.LawLemmas.{found_lives}
use Rattle.mi_page.proofs.laws.found_entries_live.Goals as goal

pub returns : goal.returns
returns c = found_lives

use Rattle.mi_page.proofs.LawLemmas.{remove_shows}
use Rattle.mi_page.proofs.laws.removals_hide_one.Goals as goal

pub returns : goal.returns
returns c = remove_shows

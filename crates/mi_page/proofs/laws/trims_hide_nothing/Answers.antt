use Rattle.mi_page.proofs.LawLemmas.{trim_shows}
use Rattle.mi_page.proofs.laws.trims_hide_nothing.Goals as goal

pub returns : goal.returns
returns c = trim_shows

use Rattle.mi_core.proofs.RecordedLemmas.{page_shows}
use Rattle.mi_core.proofs.pages.pages_show_objects.Goals as goal

pub returns : goal.returns
returns c = λ s k. page_shows s k.sound

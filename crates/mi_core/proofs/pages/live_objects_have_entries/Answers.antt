use Rattle.mi_core.proofs.RecordedLemmas.{entry_of}
use Rattle.mi_core.proofs.pages.live_objects_have_entries.Goals as goal

pub returns : goal.returns
returns c = λ s k. entry_of s k.sound

use Rattle.mi_tree.proofs.LegalLemmas.{all_may}
use Rattle.mi_entries.proofs.KeyedLemmas.{is_keyed}
use Rattle.mi_entries.proofs.ContentLemmas.{entries_trim}
use Rattle.mi_entries.proofs.laws.trims_keep_entries.Goals as goal

pub returns : goal.returns
returns c = λ s limits log legal floor actors retired entries h low updates le inside. entries_trim s (is_keyed s limits) log (all_may s log legal) floor actors retired entries h low updates le inside

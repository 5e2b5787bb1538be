use Rattle.mi_tree.proofs.LegalLemmas.{all_may}
use Rattle.mi_tree.proofs.laws.legal_logs_may_split.Goals as goal

pub returns : goal.returns
returns c = all_may

use Rattle.mi_tree.proofs.CoverLemmas.{put_covered, live_covered}
use Rattle.mi_tree.proofs.laws.hulls_cover.Goals as goal

pub returns-clause-put : goal.returns-clause-put
returns-clause-put c = put_covered

pub returns-clause-live : goal.returns-clause-live
returns-clause-live c = live_covered

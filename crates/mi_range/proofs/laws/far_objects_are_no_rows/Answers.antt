use Rattle.mi_range.proofs.TakeLemmas.{hits_without}
use Rattle.mi_range.proofs.laws.far_objects_are_no_rows.Goals as goal

pub returns : goal.returns
returns c = hits_without

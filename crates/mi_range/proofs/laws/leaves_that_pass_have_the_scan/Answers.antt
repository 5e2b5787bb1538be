use Rattle.mi_range.proofs.ScanLemmas.{has_scan, leaves_more, span_offered}
use Rattle.mi_range.proofs.laws.leaves_that_pass_have_the_scan.Goals as goal

pub returns-clause-scan : goal.returns-clause-scan
returns-clause-scan c = has_scan

pub returns-clause-leaf : goal.returns-clause-leaf
returns-clause-leaf c = leaves_more

pub returns-clause-span : goal.returns-clause-span
returns-clause-span c = span_offered

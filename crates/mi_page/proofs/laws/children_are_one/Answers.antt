use Rattle.mi_page.proofs.RouteLemmas.{one_child}
use Rattle.mi_page.proofs.laws.children_are_one.Goals as goal

pub returns : goal.returns
returns c = one_child

use Rattle.std.proofs.Common.{◌≡◌, ◌∷◌, Some, None, replicate}
use Rattle.mi_page.specs.Nodes.{fresh_node}
use Rattle.mi_solo.proofs.cores.first_pages.Given as goal

abbrev pub invariant-loop : goal.invariant-loop
invariant-loop l = l.pages.items ≡ Some fresh_node ∷ replicate l.counter None

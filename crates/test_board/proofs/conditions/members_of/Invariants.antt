use Rattle.std.proofs.Common.{◌≡◌, map, take}
use Rattle.std.specs.List.{filter}
use Rattle.mi_board.specs.Boards.{grid_in}
use Rattle.mi_tree.specs.Counting.{belongs, placed_object}
use Rattle.test_board.proofs.conditions.members_of.Given as goal

-- the members among the objects so far
abbrev pub invariant-loop-object : goal.invariant-loop-object
invariant-loop-object g l = l.members.items ≡ map (placed_object (grid_in l.board)) (filter (belongs (grid_in l.board) l.prefix) (map (λ o. record { id = o.id; vector = o.vector }) (take l.object-index l.objects)))

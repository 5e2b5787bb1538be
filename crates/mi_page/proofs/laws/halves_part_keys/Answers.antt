use Rattle.mi_page.proofs.HalfLemmas.{lower_part, upper_part, middle_inside}
use Rattle.mi_page.proofs.laws.halves_part_keys.Goals as goal

pub returns-clause-lower : goal.returns-clause-lower
returns-clause-lower c = λ p number h full. lower_part p h full number

pub returns-clause-upper : goal.returns-clause-upper
returns-clause-upper c = upper_part

pub returns-clause-middle : goal.returns-clause-middle
returns-clause-middle c = middle_inside

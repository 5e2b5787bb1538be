use Rattle.mi_call.proofs.texts.send_table_fault.Goals as goal

pub returns-in-Asymmetric : goal.returns-in-Asymmetric
returns-in-Asymmetric g c = rw c.in-Asymmetric.is c.send_places-in-Asymmetric.ensures

use Rattle.mi_session.proofs.session.Session.delete.Given as goal

abbrev pub ghosts-update : goal.ghosts-update
ghosts-update g a = record { name = a.blank.name; parts = a.blank.parts }

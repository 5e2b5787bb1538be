use Rattle.mi_session.proofs.session.Session.insert.Given as goal

abbrev pub ghosts-update : goal.ghosts-update
ghosts-update g a = record { name = a.blank.name; parts = a.blank.parts }

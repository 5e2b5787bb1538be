use Rattle.mi_job.proofs.RefusedLemmas.{refused_then, told_then}
use Rattle.mi_job.proofs.WantingLemmas.{full_found}
use Rattle.mi_job.proofs.laws.pages_are_wanted.Goals as goal

pub returns-clause-full : goal.returns-clause-full
returns-clause-full c = λ old new v w answer page t h. full_found v w answer page old.operation new.operation t.makes h

pub returns-clause-refused : goal.returns-clause-refused
returns-clause-refused c = λ old new v w answer r t h. refused_then v w old.operation new.operation old.begun answer r.operation t.makes h

pub returns-clause-told : goal.returns-clause-told
returns-clause-told c = λ old new v w y t. told_then v w old.operation new.operation y t.makes t.outcome.right

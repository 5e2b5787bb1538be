use Rattle.csv.specs.Records.{fields_of}
use Rattle.mi_input.proofs.EachLemmas.{at_none, at_some}
use Rattle.mi_input.proofs.fields.field.Goals as goal

pub returns-in-Some : goal.returns-in-Some
returns-in-Some c = at_some (fields_of c.args.fields.now) c.args.place c.in-Some.field.now c.in-Some.ensures.value

pub returns-in-None : goal.returns-in-None
returns-in-None c = at_none (fields_of c.args.fields.now) c.args.place c.in-None.ensures.value

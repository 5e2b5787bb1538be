use Rattle.std.proofs.Common.{◌∙◌, sym}
use Rattle.csv.specs.Records.{fields_of}
use Rattle.mi_input.proofs.EachLemmas.{first_none, first_some}
use Rattle.mi_input.proofs.fields.begins.Goals as goal

pub returns-in-Some : goal.returns-in-Some
returns-in-Some c = c.eq.ensures ∙ first_some (fields_of c.args.fields.now) c.in-Some.first.now c.args.word.now c.in-Some.ensures.value

pub returns-in-None : goal.returns-in-None
returns-in-None c = sym (first_none (fields_of c.args.fields.now) c.args.word.now c.in-None.ensures.value)

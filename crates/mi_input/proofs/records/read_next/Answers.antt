use Rattle.csv.specs.Records.{fields_of}
use Rattle.mi_input.proofs.RecordLemmas.{took}
use Rattle.mi_input.proofs.records.read_next.Goals as goal

pub returns-in-Ok-clause-records : goal.returns-in-Ok-clause-records
returns-in-Ok-clause-records c =
    (took c.args.reader.now c.read_byte_record.new.self c.in-Ok.found (fields_of c.read_byte_record.new.row) c.requires.between c.in-Ok.ensures.flexible
    (c.in-Ok.ensures.reads c.requires.between.trim c.requires.ready)).0

pub returns-in-Ok-clause-goes_on : goal.returns-in-Ok-clause-goes_on
returns-in-Ok-clause-goes_on c =
    (took c.args.reader.now c.read_byte_record.new.self c.in-Ok.found (fields_of c.read_byte_record.new.row) c.requires.between c.in-Ok.ensures.flexible
    (c.in-Ok.ensures.reads c.requires.between.trim c.requires.ready)).1

use Rattle.mi_input.specs.Records.{records_in}
use Rattle.mi_input.specs.Schedules.{IsScheduleOf, schedule_in}
use Rattle.mi_input.proofs.CaseLemmas.{gives_law}
use Rattle.mi_input.proofs.ScheduleLemmas.{schedule_ok}
use Rattle.mi_input.proofs.schedules.read_schedule.Goals as goal

pub returns-clause-schedule : goal.returns-clause-schedule
returns-clause-schedule c =
    gives_law (λ schedule. schedule) (IsScheduleOf c.args.sessions) c.schedule_of.result (schedule_in c.args.sessions c.args.bytes.now) c.schedule_of.ensures
    (λ schedule read. schedule_ok c.args.sessions (records_in c.args.bytes.now) schedule read)

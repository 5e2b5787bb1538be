use Rattle.std.proofs.Common.{refl}
use Rattle.mi_print.specs.Render.{transcript}
use Rattle.mi_call.specs.declared.statuses.Status.TheVariants as status
use Rattle.mi_call.specs.Calls.{memory_line}
use Rattle.mi_call.proofs.CallLemmas.{ends_from}
use Rattle.mi_call.proofs.endings.tell.Goals as goal

pub returns-in-Ok : goal.returns-in-Ok
returns-in-Ok g c =
    let o = c.in-Ok.outcome in
    let text = transcript o.replies o.log o.cells o.entries o.allotted o.limit in
    record {
      said = c.status_of.result;
      text = text;
      says = rw c.in-Ok.is (c.status_of.ensures, refl);
      ends = ends_from c.status_of.result c.ended.result text (g.S.Sink.state c.args.out.now) (g.S.Sink.state c.render.new.out)
          c.render.result c.render.ensures c.ended.ensures.ok c.ended.ensures.err;
    }

pub returns-in-Err : goal.returns-in-Err
returns-in-Err g c =
    record {
      said = status.NoMemory;
      text = memory_line;
      says = rw c.in-Err.is record { said_is = refl; text_is = refl };
      ends = ends_from status.NoMemory c.ended-in-Err.result memory_line (g.S.Sink.state c.args.out.now) (g.S.Sink.state c.send_memory.new.out)
          c.send_memory.result c.send_memory.ensures c.ended-in-Err.ensures.ok c.ended-in-Err.ensures.err;
    }

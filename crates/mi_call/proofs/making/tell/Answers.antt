use Rattle.std.proofs.Common.{refl, inl, inr}
use Rattle.mi_print.specs.Summary.{summary}
use Rattle.mi_call.specs.declared.statuses.Status.TheVariants as status
use Rattle.mi_call.specs.Calls.{memory_line}
use Rattle.mi_call.proofs.CallLemmas.{ends_from}
use Rattle.mi_call.proofs.making.tell.Goals as goal

pub returns-in-Ok : goal.returns-in-Ok
returns-in-Ok g c =
    let text = summary c.args.seed c.in-Ok.outcome in
    record {
      said = c.status_of.result;
      text = text;
      says = inl (record { outcome = c.in-Ok.outcome; is_outcome = c.in-Ok.ensures; said_is = c.status_of.ensures; text_is = refl });
      ends = ends_from c.status_of.result c.ended.result text (g.S.Sink.state c.args.out.now) (g.S.Sink.state c.summary.new.out)
          c.summary.result c.summary.ensures c.ended.ensures.ok c.ended.ensures.err;
    }

pub returns-in-Err : goal.returns-in-Err
returns-in-Err g c =
    record {
      said = status.NoMemory;
      text = memory_line;
      says = inr (record { said_is = refl; text_is = refl });
      ends = ends_from status.NoMemory c.ended-in-Err.result memory_line (g.S.Sink.state c.args.out.now) (g.S.Sink.state c.send_memory.new.out)
          c.send_memory.result c.send_memory.ensures c.ended-in-Err.ensures.ok c.ended-in-Err.ensures.err;
    }

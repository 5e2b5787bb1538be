use Rattle.std.proofs.Common.{refl, subst}
use Rattle.mi_call.specs.declared.statuses.Status.TheVariants as status
use Rattle.mi_call.specs.Calls.{usage_line}
use Rattle.mi_call.specs.Making.{Made}
use Rattle.mi_call.proofs.CallLemmas.{ends_from}
use Rattle.mi_call.proofs.making.answer_make.Goals as goal

pub returns-in-Some : goal.returns-in-Some
returns-in-Some g c =
    subst (λ w. Made w (g.S.Sink.state c.args.out.now) (g.S.Sink.state c.tell.new.out) c.tell.result) c.in-Some.ensures c.tell.ensures

pub returns-in-None : goal.returns-in-None
returns-in-None g c =
    subst (λ w. Made w (g.S.Sink.state c.args.out.now) (g.S.Sink.state c.send_usage.new.out) c.ended.result) c.in-None.ensures
    (record {
      said = status.Usage;
      text = usage_line;
      says = (refl, refl);
      ends = ends_from status.Usage c.ended.result usage_line (g.S.Sink.state c.args.out.now) (g.S.Sink.state c.send_usage.new.out)
          c.send_usage.result c.send_usage.ensures c.ended.ensures.ok c.ended.ensures.err;
    })

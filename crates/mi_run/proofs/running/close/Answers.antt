use Rattle.std.proofs.Common.{◌≡◌, ◌||◌, ◌∙◌, sym, ap, subst}
use Rattle.std.proofs.lemmas.Result.{IfOk-weaker}
use Rattle.mi_hall.specs.Passes.{place_view}
use Rattle.mi_settle.specs.Outcomes.{IsOutcomeOf}
use Rattle.mi_settle.specs.Settling.{is_refused}
use Rattle.mi_run.specs.Crews.{Tells}
use Rattle.mi_run.proofs.HeadlineLemmas.{closed_rest, is_last, refused_is}
use Rattle.mi_run.proofs.running.close.Goals as goal

pub close-requires-clause-hall : goal.close-requires-clause-hall
close-requires-clause-hall c = c.requires.table

pub close-requires-clause-idle : goal.close-requires-clause-idle
close-requires-clause-idle c = c.requires.absorbed.1.claims.nothing

pub close-requires-clause-last : goal.close-requires-clause-last
close-requires-clause-last c = is_last c.requires.absorbed.0 (place_view c.args.left.pass) c.args.left.replies c.requires.absorbed.1

pub settle-requires : goal.settle-requires
settle-requires c = record { rest = closed_rest (place_view c.args.left.pass) c.in-Ok.solo c.in-Ok.ensures.ok }

pub returns : goal.returns
returns c =
    let v = place_view c.args.left.pass in
    let left = c.args.left in
    let more : (left.wanted || c.is_err-unsettled.result) ≡ (left.wanted || is_refused c.settle.result) = ap (λ b. left.wanted || b) (c.is_err-unsettled.ensures.value ∙ refused_is c.settle.result) in
    IfOk-weaker c.outcome_of.result (IsOutcomeOf c.settle.new.solo.state left.replies (left.wanted || c.is_err-unsettled.result) c.args.pages) (Tells v left.replies left.wanted c.args.pages)
    (λ o h. record {
      core = c.in-Ok.solo;
      closes = c.in-Ok.ensures.ok;
      result = c.settle.result;
      last = c.settle.new.solo.state;
      settles = c.settle.ensures.settles;
      outcome = subst (λ b. IsOutcomeOf c.settle.new.solo.state left.replies b c.args.pages o) more h;
    }) c.outcome_of.ensures

use Rattle.std.proofs.Common.{◌≡◌, ◌∙◌, ap, sym, refl, subst, inl, inr}
use Rattle.mi_base.specs.Configuration.{metric_space}
use Rattle.mi_base.specs.Scripts.{IsScriptOver}
use Rattle.mi_choose.specs.Farthest.{IsFarthestFirst}
use Rattle.mi_table.specs.Any.{any_space}
use Rattle.mi_call.specs.declared.statuses.Status.TheVariants as status
use Rattle.mi_call.specs.Calls.{memory_line}
use Rattle.mi_call.specs.Choosing.{choice_text, objects_of, only_script}
use Rattle.mi_call.proofs.CallLemmas.{ends_from}
use Rattle.mi_call.proofs.ChooseLemmas.{first_script_is, only_over}
use Rattle.mi_call.proofs.choosing.propose.Goals as goal

pub choice_of-requires-clause-objects : goal.choice_of-requires-clause-objects
choice_of-requires-clause-objects g c =
    let from = c.args.inputs.now in
    c.in-Ok.ensures.fit (any_space from.metric)
    (subst (λ m. IsScriptOver m c.at.result.now) (sym c.requires.may.space) (only_over (metric_space from.settings) from.scripts c.at.result.now c.at.ensures c.requires.may.scripts))

pub choice_of-requires-clause-few : goal.choice_of-requires-clause-few
choice_of-requires-clause-few g c =
    let from = c.args.inputs.now in
    c.in-Ok.ensures.few (metric_space from.settings) (only_over (metric_space from.settings) from.scripts c.at.result.now c.at.ensures c.requires.may.scripts)

pub returns-in_default : goal.returns-in_default
returns-in_default g c =
    record {
      said = status.NoMemory;
      text = memory_line;
      says = inr (record { said_is = refl; text_is = refl });
      ends = ends_from status.NoMemory c.ended.result memory_line (g.S.Sink.state c.args.out.now) (g.S.Sink.state c.send_memory.new.out)
          c.send_memory.result c.send_memory.ensures c.ended.ensures.ok c.ended.ensures.err;
    }

pub returns-in-Ok-choice_of : goal.returns-in-Ok-choice_of
returns-in-Ok-choice_of g c =
    let from = c.args.inputs.now in
    let objects = c.in-Ok.objects in
    let are : objects ≡ objects_of (only_script from.scripts) = c.in-Ok.ensures.value ∙ ap objects_of (first_script_is from.scripts c.at.result.now c.at.ensures) in
    let choice = c.in-Ok-choice_of.choice in
    let text = choice_text objects choice in
    let among : IsFarthestFirst (metric_space from.settings) objects c.args.count choice = subst (λ m. IsFarthestFirst m objects c.args.count choice) c.requires.may.space c.in-Ok-choice_of.ensures.choice in
    record {
      said = status.Done;
      text = text;
      says = inl (
        refl,
        record {
          choice = choice;
          farthest_first = subst (λ os. IsFarthestFirst (metric_space from.settings) os c.args.count choice) are among;
          text_is = ap (λ os. choice_text os choice) are;
        },
      );
      ends = ends_from status.Done c.ended-in-Ok-choice_of.result text (g.S.Sink.state c.args.out.now) (g.S.Sink.state c.send_choice.new.out)
          c.send_choice.result c.send_choice.ensures c.ended-in-Ok-choice_of.ensures.ok c.ended-in-Ok-choice_of.ensures.err;
    }

pub returns : goal.returns
returns g c =
    record {
      said = status.NoMemory;
      text = memory_line;
      says = inr (record { said_is = refl; text_is = refl });
      ends = ends_from status.NoMemory c.ended-in-Err.result memory_line (g.S.Sink.state c.args.out.now) (g.S.Sink.state c.send_memory-in-Err.new.out)
          c.send_memory-in-Err.result c.send_memory-in-Err.ensures c.ended-in-Err.ensures.ok c.ended-in-Err.ensures.err;
    }

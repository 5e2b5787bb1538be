-- What a call that makes a workload runs, says and sends.
use Rattle.std.proofs.Common.{◌≡◌, ℕ, List, [], ◌∷◌, length, Bool, true, false, Option, None, Some, Result, IfOk, refl, sym, ap, ◌∙◌, subst, arith, inl, inr}
use Rattle.std.specs.List.{AllByRecursion}
use Rattle.std.proofs.lemmas.Result.{IfOk-weaker}
use Rattle.mi_base.specs.declared.records.Actor.{Actor}
use Rattle.mi_base.specs.declared.records.Actor.TheVariants.{Session, Splitter}
use Rattle.mi_base.specs.declared.records.ScheduleItem.{ScheduleItem}
use Rattle.mi_base.specs.declared.records.Take.{Take}
use Rattle.mi_base.specs.declared.records.Take.TheVariants.{Turns, Operation}
use Rattle.mi_base.specs.declared.refusals.NoMemory.{NoMemory}
use Rattle.mi_base.specs.declared.records.Op.{Op}
use Rattle.mi_make.specs.declared.workload.Workload.{Workload}
use Rattle.mi_make.specs.Workloads.{IsMade, IsOneOfThree, IsUpToTwenty, MayBeRun}
use Rattle.mi_outside.specs.States.{FilesState, SinkState}
use Rattle.mi_replay.specs.Outcomes.{Played}
use Rattle.mi_replay.specs.Tables.{ActorIsOver, IsItemOver, TakeIsOver}
use Rattle.mi_tree.specs.declared.outcomes.Outcome.{Outcome}
use Rattle.mi_call.specs.declared.commands.Command.TheVariants.{Make}
use Rattle.mi_call.specs.declared.statuses.Status.{Status}
use Rattle.mi_call.specs.Statuses.{status_number}
use Rattle.mi_call.specs.Calls.{Answered, IsRunNumber, transcript_status}
use Rattle.mi_call.specs.Commands.{CommandSays}
use Rattle.mi_call.specs.Making.{IsOutcomeOf, MakeAnswered, MakeCompletes, MakeSays, seed_in}

actor_over : (a : Actor) → IsOneOfThree a → ActorIsOver 2 a
actor_over (Session k) h = h
actor_over Splitter h = tt

take_over : (t : Take) → IsUpToTwenty t → TakeIsOver t
take_over (Turns n) h = h.0
take_over Operation h = tt

items_over : (items : List ScheduleItem) → AllByRecursion (λ i. IsOneOfThree i.actor × IsUpToTwenty i.take) items → AllByRecursion (IsItemOver 2) items
items_over [] all = tt
items_over (i ∷ items) all = ((actor_over i.actor all.0.0, take_over i.take all.0.1), items_over items all.1)

-- the records of a schedule that was made are of the sessions of its scripts
pub made_items : (seed : ℕ) (w : Workload) (scripts : List (List Op)) → scripts ≡ w.scripts → IsMade seed w → MayBeRun w → AllByRecursion (IsItemOver (length scripts)) w.schedule
made_items seed w scripts same made runs =
    let two : length scripts ≡ 2 = ap length (same ∙ made.scripts) in
    subst (λ (n : ℕ). AllByRecursion (IsItemOver n) w.schedule) (sym two) (items_over w.schedule runs.schedule)

-- the workload was replayed
pub outcome_made : (seed : ℕ) (v w : Workload) (scripts : List (List Op)) (r : Result Outcome NoMemory) → v ≡ w → IsMade seed w → scripts ≡ v.scripts → IfOk r (Played v.settings scripts v.schedule) → IfOk r (IsOutcomeOf seed)
outcome_made seed v w scripts r is made same played =
    IfOk-weaker r (Played v.settings scripts v.schedule) (IsOutcomeOf seed) (λ o p. record {
      workload = w;
      made = made;
      played = subst (λ (x : Workload). Played x.settings x.scripts x.schedule o) is (subst (λ (ss : List (List Op)). Played v.settings ss v.schedule o) same p);
    }) played

said_when_asked : (seed : ℕ) (said : Status) (text : List ℕ) → MakeSays (Some seed) said text → IsRunNumber (status_number said)
said_when_asked seed said text (inl told) =
    let P : Bool → Type 0 = λ short. said ≡ transcript_status short → IsRunNumber (status_number said) in
    (elim told.outcome.short as P [ true ↦ λ e. inr (inl (ap status_number e)) | false ↦ λ e. inl (ap status_number e) ]) told.said_is
said_when_asked seed said text (inr want) = inr (inr (ap status_number want.said_is))

-- a workload that is asked for is replayed, unless memory is wanted or a fault is counted
pub make_completes : (seed : Option ℕ) (old new : SinkState) (number : ℕ) → MakeAnswered seed old new number → MakeCompletes seed old new number
make_completes None old new number a = tt
make_completes (Some seed) old new number a = λ unfailed.
    elim a.made.ends.sent [
      | inl sent ↦ subst IsRunNumber (sym (a.number_is ∙ ap status_number sent.0)) (said_when_asked seed a.made.said a.made.text a.made.says)
      | inr failed ↦ absurd (unfailed failed.1.1)
    ]

-- no file is read
pub command_made : (words : List (List ℕ)) (files : FilesState) (old new : SinkState) (number : ℕ) → MakeAnswered (seed_in words) old new number → Answered (CommandSays Make words) files files old new number
command_made words files old new number a = record {
  ended = a.ended;
  number_is = a.number_is;
  answers = record { said = a.made.said; text = a.made.text; says = (a.made.says, refl); ends = a.made.ends; grows = omega arith };
}

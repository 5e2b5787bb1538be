-- What a call says and sends.
use Rattle.std.proofs.Common.{◌≡◌, ◌&&◌, ℕ, zero, suc, ◌+◌, ◌<◌, ◌≤◌, List, [], ◌∷◌, length, map, drop, get_or, Bool, true, false, cond, Option, None, Some, Result, Ok, Err, refl, sym, ap, ◌∙◌, subst, arith, inl, inr}
use Rattle.std.specs.List.{AllByRecursion}
use Rattle.std.specs.Prelude.{bytes_eq, codes, is_some, IfOk, OnOk, OnErr, IsOk}
use Rattle.mi_base.specs.declared.limits.TheConstants.{MAX_SESSIONS}
use Rattle.mi_base.specs.declared.records.Actor.{Actor}
use Rattle.mi_base.specs.declared.records.Actor.TheVariants.{Session, Splitter}
use Rattle.mi_base.specs.declared.records.Op.{Op}
use Rattle.mi_base.specs.declared.records.ScheduleItem.{ScheduleItem}
use Rattle.mi_base.specs.declared.records.Take.{Take}
use Rattle.mi_base.specs.declared.records.Take.TheVariants as take
use Rattle.mi_base.specs.declared.refusals.NoMemory.{NoMemory}
use Rattle.mi_base.specs.Configuration.{Configuration, metric_space}
use Rattle.mi_input.specs.Faults.{◌>>=◌}
use Rattle.mi_input.specs.Settings.{settings_in}
use Rattle.mi_input.specs.Schedules.{IsActorOf, IsItemOf, IsTake, schedule_in}
use Rattle.mi_outside.specs.declared.writing.SinkFailed.{SinkFailed}
use Rattle.mi_outside.specs.Outside.{KeepsContents, Rose, Sends}
use Rattle.mi_outside.specs.States.{FilesState, SinkState}
use Rattle.mi_tree.specs.declared.outcomes.Outcome.{Outcome}
use Rattle.mi_tree.specs.Legal.{cells_of}
use Rattle.mi_print.specs.Render.{transcript}
use Rattle.mi_table.specs.declared.any.AnyMetric.{AnyMetric}
use Rattle.mi_table.specs.declared.faults.TableFault.{TableFault}
use Rattle.mi_table.specs.Any.{any_space}
use Rattle.mi_table.specs.Faults.{first_fault}
use Rattle.mi_call.specs.declared.refusals.Refusal.{Refusal}
use Rattle.mi_call.specs.declared.refusals.Refusal.TheVariants.{Record, Table}
use Rattle.mi_call.specs.declared.refusals.Stop.{Stop}
use Rattle.mi_call.specs.declared.refusals.Stop.TheVariants.{Refused, Unread, Memory}
use Rattle.mi_call.specs.Calls.{Answered, Answers, Completes, Ends, IsRunNumber, KeepsSchedule, OutcomeSays, RunSays, RunsTo, Says, SaysOf, Serves, Spoken, Tells, transcript_status, usage_line}
use Rattle.mi_call.specs.declared.statuses.Status.{Status}
use Rattle.mi_call.specs.declared.statuses.Status.TheVariants as status
use Rattle.mi_call.specs.Statuses.{status_number}
use Rattle.mi_call.specs.Inputs.{AreGoodBefore, AreScriptTexts, AreTextsOf, EachHas, IsTextOf, GoodBefore, Inputs, MayHave, Names, ScriptsGoodBefore, Texts, are_sessions, first_script, settings_or_fault, in_file, inputs_of, replay_names_in, run_names_in, schedule_from, schedule_of, scripts_from, settings_from, settings_of}
use Rattle.mi_call.specs.Loading.{Finds, FindsAll, FindsScripts, HasMetric, Loads, LoadsAll, LoadsScripts, MayRun, stop_line, stop_status}
use Rattle.mi_settle.specs.Headlines.{Headline}
use Rattle.mi_replay.specs.Tables.{ActorIsOver, IsItemOver, TakeIsOver}
use Rattle.mi_call.proofs.LoadingLemmas.{LoadsAt, some_text, some_text_is}
use Rattle.mi_call.proofs.ScriptsLemmas.{scripts_counted, some_texts, some_texts_are, texts_as_many, texts_then}
use Rattle.mi_tree.proofs.ListLemmas.{all_weaker}

-- a text that was sent, and the status beside it
pub ends_from : (said ended : Status) (text : List ℕ) (old new : SinkState) (sent : Result (Unit {0}) SinkFailed)
    → Sends old new text sent → OnOk sent (ended ≡ said) → OnErr sent (ended ≡ status.Unwritten) → Ends said text old new ended
ends_from said ended text old new (Ok u) sends ok err = record { sent = inl (ok, sends.ok); grows = sends.grows }
ends_from said ended text old new (Err e) sends ok err = record { sent = inr (err, sends.err); grows = sends.grows }

-- an outcome's text is the transcript
runs_to : (inputs : Inputs) (o : Outcome) (said : Status) (text : List ℕ) → Headline inputs.settings inputs.scripts o → KeepsSchedule inputs.settings inputs.scripts inputs.schedule o
    → OutcomeSays (Ok o) said text → RunsTo inputs said text
runs_to inputs o said text headline order says =
    let c = inputs.settings in
    record {
      short = o.short;
      ran = record {
        outcome = o;
        headline = headline;
        short_is = refl;
        text_is = says.1 ∙ ap (λ cells. transcript o.replies o.log cells o.entries o.allotted o.limit) headline.cells_are
            ∙ ap (λ n. transcript o.replies o.log (cells_of c o.log) o.entries o.allotted n) headline.limit_is;
      };
      order = order;
      said_is = says.0;
    }

-- what is said of an outcome is said of the inputs that were run
says_of : (inputs : Inputs) (r : Result Outcome NoMemory) (said : Status) (text : List ℕ)
    → IfOk r (λ o. Headline inputs.settings inputs.scripts o × KeepsSchedule inputs.settings inputs.scripts inputs.schedule o) → OutcomeSays r said text → RunSays inputs said text
says_of inputs (Ok o) said text is says = inl (runs_to inputs o said text is.0 is.1 says)
says_of inputs (Err e) said text is says = inr says

pub spoken_of : (inputs : Inputs) (r : Result Outcome NoMemory) (old new : SinkState) (ended : Status)
    → IfOk r (λ o. Headline inputs.settings inputs.scripts o × KeepsSchedule inputs.settings inputs.scripts inputs.schedule o)
    → Spoken (OutcomeSays r) old new ended → Spoken (RunSays inputs) old new ended
spoken_of inputs r old new ended is s = record { said = s.said; text = s.text; says = says_of inputs r s.said s.text is s.says; ends = s.ends }

-- each item of a schedule that was read is one of its sessions or of the splitter
pub items_over : (n : ℕ) (items : List ScheduleItem) → AllByRecursion (IsItemOf n) items → AllByRecursion (IsItemOver n) items
items_over n items h = all_weaker (IsItemOf n) (IsItemOver n) (λ item is. (over item.actor is.actor, taken item.take is.take)) items h
  where
    over : (actor : Actor) → IsActorOf n actor → ActorIsOver n actor
    over (Session k) h = h
    over Splitter h = tt

    taken : (take : Take) → IsTake take → TakeIsOver take
    taken (take.Turns count) h = h
    taken take.Operation h = tt

-- settings without a fault, and with one
pub good_settings : (text : List ℕ) (c : Configuration) → in_file 0 settings_in text ≡ Ok c → first_fault c.rows ≡ None → settings_from text ≡ Ok c
good_settings text c found none = ap (λ r. r >>= λ d. settings_or_fault d (first_fault d.rows)) found ∙ ap (settings_or_fault c) none

pub bad_settings : (text : List ℕ) (refusal : Refusal) → in_file 0 settings_in text ≡ Err refusal → settings_from text ≡ Err refusal
bad_settings text refusal found = ap (λ r. r >>= λ d. settings_or_fault d (first_fault d.rows)) found

pub bad_table : (text : List ℕ) (c : Configuration) (fault : TableFault) → in_file 0 settings_in text ≡ Ok c → first_fault c.rows ≡ Some fault → settings_from text ≡ Err (Table fault)
bad_table text c fault found first = ap (λ r. r >>= λ d. settings_or_fault d (first_fault d.rows)) found ∙ ap (settings_or_fault c) first

-- the settings were read and measured, as far as that went

finds_settings : (f0 f1 : FilesState) (text : List ℕ) (s : Stop) → Finds {X = Configuration} 0 f0 f1 (in_file 0 settings_in text) (Err s) → Finds {X = Configuration} 0 f0 f1 (settings_from text) (Err s)
finds_settings f0 f1 text (Refused refusal) found = (bad_settings text refusal found.0, found.1)
finds_settings f0 f1 text (Unread file) found = found
finds_settings f0 f1 text Memory found = found

finds_table : (f0 f1 : FilesState) (text : List ℕ) (c : Configuration) (s : Stop) → Finds 0 f0 f1 (in_file 0 settings_in text) (Ok c) → HasMetric c (Err s)
    → Finds {X = Configuration} 0 f0 f1 (settings_from text) (Err s)
finds_table f0 f1 text c (Refused (Table fault)) found h = (bad_table text c fault found.0 h, found.1)
finds_table f0 f1 text c (Refused (Record file number why)) found h = absurd h
finds_table f0 f1 text c (Unread file) found h = absurd h
finds_table f0 f1 text c Memory found h = found.1

module _ (f0 f1 : FilesState) (name : List ℕ) where
  pub unmeasured : (s : Stop) → Loads {X = Configuration} f0 f1 name 0 (in_file 0 settings_in) (Err s) → Loads {X = Configuration} f0 f1 name 0 settings_from (Err s)
  unmeasured s l = record { text = l.text; told_is = l.told_is; finds = finds_settings f0 f1 l.text s l.finds; grows = l.grows }

  pub without_metric : (c : Configuration) (s : Stop) → Loads f0 f1 name 0 (in_file 0 settings_in) (Ok c) → HasMetric c (Err s) → Loads {X = Configuration} f0 f1 name 0 settings_from (Err s)
  without_metric c s l h = record { text = l.text; told_is = l.told_is; finds = finds_table f0 f1 l.text c s l.finds h; grows = l.grows }

  pub measured : (c : Configuration) → Loads f0 f1 name 0 (in_file 0 settings_in) (Ok c) → first_fault c.rows ≡ None → Loads f0 f1 name 0 settings_from (Ok c)
  measured c l none = record { text = l.text; told_is = l.told_is; finds = (good_settings l.text c l.finds.0 none, l.finds.1); grows = l.grows }

-- the files after the settings
abbrev after_schedule : Texts → Configuration → Option (List ScheduleItem) → Result Inputs Refusal
after_schedule texts c items = scripts_from c (first_script texts.schedule) texts.scripts >>= λ scripts. Ok (record { settings = c; schedule = items; scripts = scripts })

abbrev after_settings : Texts → Configuration → Result Inputs Refusal
after_settings texts c = schedule_of texts >>= λ items. after_schedule texts c items

abbrev after_scripts : Configuration → Option (List ScheduleItem) → Result (List (List Op)) Refusal → Result Inputs Refusal
after_scripts c items read = read >>= λ scripts. Ok (record { settings = c; schedule = items; scripts = scripts })

abbrev some_items : Result (List ScheduleItem) Refusal → Result (Option (List ScheduleItem)) Refusal
some_items read = read >>= λ items. Ok (Some items)

good_inputs : (texts : Texts) (c : Configuration) → settings_of texts ≡ Ok c → inputs_of texts ≡ after_settings texts c
good_inputs texts c good = ap (λ r. r >>= after_settings texts) good

pub is_ok_from : {X : Type 0} (r : Result X Refusal) (x : X) → r ≡ Ok x → IsOk r
is_ok_from {X} r x e = subst (λ (q : Result X Refusal). IsOk q) (sym e) refl

-- scripts that are good stand behind files that are
good_behind : (schedule : Option (List ℕ)) (count : ℕ) (texts : Texts) → ScriptsGoodBefore count texts → AreGoodBefore (first_script schedule + count) schedule texts
good_behind None count texts h = let e : suc count ≡ 1 + count = omega arith in subst (λ n. AreGoodBefore n None texts) e h
good_behind (Some text) count texts h = let e : suc (suc count) ≡ 2 + count = omega arith in subst (λ n. AreGoodBefore n (Some text) texts) e h

finds_scripts : (texts : Texts) (f0 f2 f3 : FilesState) (c : Configuration) (items : Option (List ScheduleItem)) (s : Stop) → settings_of texts ≡ Ok c → schedule_of texts ≡ Ok items → f2.faults ≡ f0.faults
    → FindsScripts c (first_script texts.schedule) texts.scripts f2 f3 (Err s) → FindsAll texts f0 f3 (Err s)
finds_scripts texts f0 f2 f3 c items (Refused refusal) good scheduled stands found =
    (good_inputs texts c good ∙ ap (λ r. r >>= after_schedule texts c) scheduled ∙ ap (after_scripts c items) found.0, found.1 ∙ stands)
finds_scripts texts f0 f2 f3 c items (Unread file) good scheduled stands found =
    let before : ScriptsGoodBefore found.0 texts = record { more = found.2; settings = c; settings_are = good; schedule = is_ok_from (schedule_of texts) items scheduled; scripts = found.3 } in
    (subst (λ n. GoodBefore n texts) (sym found.1) (good_behind texts.schedule found.0 texts before), subst (λ n. Rose n f3.faults) stands found.4)
finds_scripts texts f0 f2 f3 c items Memory good scheduled stands found = found ∙ stands

-- a text that a schedule may have
abbrev some_schedule : FilesState → Option (List ℕ) → Option (List ℕ)
some_schedule files None = None
some_schedule files (Some name) = Some (some_text (files.content name))

some_schedule_is : (files : FilesState) (name : Option (List ℕ)) → MayHave (λ name text. IsTextOf (files.content name) text) name (some_schedule files name)
some_schedule_is files None = tt
some_schedule_is files (Some name) = some_text_is (files.content name)

-- a schedule was read where there is one: a text that its file has, and what is in it
pub record ScheduleRead (files : FilesState) (name : Option (List ℕ)) (sessions : ℕ) (items : Option (List ScheduleItem)) : Type 0 where
  pub text : Option (List ℕ)
  pub told : MayHave (λ name text. IsTextOf (files.content name) text) name text
  pub good : schedule_from sessions text ≡ Ok items

pub no_schedule : (files : FilesState) (sessions : ℕ) → ScheduleRead files None sessions None
no_schedule files sessions = record { text = None; told = tt; good = refl }

pub schedule_read : (f0 f1 f2 : FilesState) (name : List ℕ) (sessions : ℕ) (items : List ScheduleItem) → LoadsAt f0 f1 f2 name 1 (in_file 1 (schedule_in sessions)) (Ok items)
    → ScheduleRead f0 (Some name) sessions (Some items)
schedule_read f0 f1 f2 name sessions items k = record { text = Some k.text; told = k.told_is; good = ap some_items k.finds.0 }

first_told : (its : List ℕ → List ℕ → Type 0) (name text : Option (List ℕ)) → MayHave its name text → first_script name ≡ first_script text
first_told its None None h = refl
first_told its (Some name) (Some text) h = refl
first_told its (Some name) None h = absurd h
first_told its None (Some text) h = absurd h

-- there are as many texts of scripts as names
texts_for : (files : FilesState) (names texts : List (List ℕ)) (sessions : ℕ) → sessions ≡ length names → AreScriptTexts files names texts → sessions ≡ length texts
texts_for files names texts sessions as_many told = as_many ∙ sym (texts_as_many (λ name text. IsTextOf (files.content name) text) names texts told)

module _ (names : Names) (f0 : FilesState) where
  finds_none : (f1 : FilesState) (texts : Texts) (s : Stop) → Finds {X = Configuration} 0 f0 f1 (settings_of texts) (Err s) → FindsAll texts f0 f1 (Err s)
  finds_none f1 texts (Refused refusal) found = (ap (λ r. r >>= after_settings texts) found.0, found.1)
  finds_none f1 texts (Unread file) found = (subst (λ n. GoodBefore n texts) (sym found.0) tt, found.1)
  finds_none f1 texts Memory found = found

  -- the settings could not be read, or are refused
  pub stopped_at_settings : (f1 : FilesState) (s : Stop) → Loads {X = Configuration} f0 f1 names.settings 0 settings_from (Err s) → LoadsAll names f0 f1 (Err s)
  stopped_at_settings f1 s l =
      let texts : Texts = record { settings = l.text; schedule = some_schedule f0 names.schedule; scripts = some_texts f0 names.scripts } in
      record {
        texts = texts;
        told = record { settings = l.told_is; schedule = some_schedule_is f0 names.schedule; scripts = some_texts_are f0 names.scripts };
        finds = finds_none f1 texts s l.finds;
        grows = l.grows;
      }

  module _ (sessions : ℕ) (as_many : sessions ≡ length names.scripts) (f1 f2 f3 : FilesState) (c : Configuration) (items : Option (List ScheduleItem))
      (l : Loads f0 f1 names.settings 0 settings_from (Ok c)) (k : ScheduleRead f0 names.schedule sessions items) (stands : f2.faults ≡ f1.faults) (same : KeepsContents f0 f2) where
    -- what all files say, where these are the texts of the scripts
    abbrev texts_with : List (List ℕ) → Texts
    texts_with scripts = record { settings = l.text; schedule = k.text; scripts = scripts }

    told_with : (scripts : List (List ℕ)) → AreScriptTexts f2 names.scripts scripts → AreTextsOf f0 names (texts_with scripts)
    told_with scripts told = record { settings = l.told_is; schedule = k.told; scripts = texts_then f0 f2 names.scripts scripts same told }

    scheduled : (scripts : List (List ℕ)) → AreScriptTexts f2 names.scripts scripts → schedule_from (length scripts) k.text ≡ Ok items
    scheduled scripts told =
        subst (λ n. schedule_from n k.text ≡ Ok items) (texts_for f0 names.scripts scripts sessions as_many (texts_then f0 f2 names.scripts scripts same told)) k.good

    placed : (result : Result (List (List Op)) Stop) → LoadsScripts c (first_script names.schedule) names.scripts f2 f3 result → LoadsScripts c (first_script k.text) names.scripts f2 f3 result
    placed result m =
        subst (λ n. LoadsScripts c n names.scripts f2 f3 result) (first_told (λ name text. IsTextOf (f0.content name) text) names.schedule k.text k.told) m

    -- a script could not be read, or is refused
    pub stopped_at_scripts : (s : Stop) → LoadsScripts c (first_script names.schedule) names.scripts f2 f3 (Err s) → LoadsAll names f0 f3 (Err s)
    stopped_at_scripts s m =
        let p = placed (Err s) m in
        record {
          texts = texts_with p.texts;
          told = told_with p.texts p.told;
          finds = finds_scripts (texts_with p.texts) f0 f2 f3 c items s l.finds.0 (scheduled p.texts p.told) (stands ∙ l.finds.1) p.finds;
          grows = omega (arith, l.grows, stands, p.grows);
        }

    -- all were read
    pub loaded_all : (scripts : List (List Op)) → LoadsScripts c (first_script names.schedule) names.scripts f2 f3 (Ok scripts)
        → LoadsAll names f0 f3 (Ok (record { settings = c; schedule = items; scripts = scripts }))
    loaded_all scripts m =
        let p = placed (Ok scripts) m in
        let texts = texts_with p.texts in
        record {
          texts = texts;
          told = told_with p.texts p.told;
          finds = (
            good_inputs texts c l.finds.0 ∙ ap (λ r. r >>= after_schedule texts c) (scheduled p.texts p.told) ∙ ap (after_scripts c items) p.finds.0,
            p.finds.2 ∙ stands ∙ l.finds.1,
          );
          grows = omega (arith, l.grows, stands, p.grows);
        }

module _ (settings schedule : List ℕ) (scripts : List (List ℕ)) (f0 f1 f2 : FilesState) (c : Configuration) where
  abbrev scheduled_names : Names
  scheduled_names = record { settings = settings; schedule = Some schedule; scripts = scripts }

  finds_schedule : (text words : List ℕ) (others : List (List ℕ)) (s : Stop) → settings_from text ≡ Ok c → f1.faults ≡ f0.faults
      → Finds {X = List ScheduleItem} 1 f1 f2 (in_file 1 (schedule_in (length others)) words) (Err s) → FindsAll (record { settings = text; schedule = Some words; scripts = others }) f0 f2 (Err s)
  finds_schedule text words others (Refused refusal) good stands found =
      let texts : Texts = record { settings = text; schedule = Some words; scripts = others } in
      (good_inputs texts c good ∙ ap (λ r. r >>= after_schedule texts c) (ap some_items found.0), found.1 ∙ stands)
  finds_schedule text words others (Unread file) good stands found =
      let texts : Texts = record { settings = text; schedule = Some words; scripts = others } in
      (subst (λ n. GoodBefore n texts) (sym found.0) (is_ok_from (settings_from text) c good), subst (λ n. Rose n f2.faults) stands found.1)
  finds_schedule text words others Memory good stands found = found ∙ stands

  -- the schedule could not be read, or is refused
  pub stopped_at_schedule : (sessions : ℕ) → sessions ≡ length scripts → (s : Stop) → Loads f0 f1 settings 0 settings_from (Ok c)
      → LoadsAt {X = List ScheduleItem} f0 f1 f2 schedule 1 (in_file 1 (schedule_in sessions)) (Err s) → LoadsAll scheduled_names f0 f2 (Err s)
  stopped_at_schedule sessions as_many s l k =
      let others : List (List ℕ) = some_texts f0 scripts in
      let told : AreScriptTexts f0 scripts others = some_texts_are f0 scripts in
      record {
        texts = record { settings = l.text; schedule = Some k.text; scripts = others };
        told = record { settings = l.told_is; schedule = k.told_is; scripts = told };
        finds = finds_schedule l.text k.text others s l.finds.0 l.finds.1
            (subst (λ n. Finds {X = List ScheduleItem} 1 f1 f2 (in_file 1 (schedule_in n) k.text) (Err s)) (texts_for f0 scripts others sessions as_many told) k.finds);
        grows = omega (arith, l.grows, k.grows);
      }

-- what was read may be run
pub may_run : (c : Configuration) (metric : AnyMetric) (first : ℕ) (names : List (List ℕ)) (old new : FilesState) (scripts : List (List Op)) → any_space metric ≡ metric_space c
    → 1 ≤ length names → length names ≤ MAX_SESSIONS → LoadsScripts c first names old new (Ok scripts) → MayRun (record { settings = c; metric = metric; scripts = scripts })
may_run c metric first names old new scripts space some few m =
    let count = scripts_counted c first names old new scripts m in
    record { space = space; some = omega (arith, some, count); few = omega (arith, few, count); scripts = m.finds.1 }

-- the words aren't served
pub says_usage : (names : Option Names) (files : FilesState) (old new : SinkState) (ended : Status) → is_some names ≡ false
    → Ends status.Usage usage_line old new ended → Answers (Says names) files files old new ended
says_usage None files old new ended none ends = record { said = status.Usage; text = usage_line; says = (refl, refl, refl); ends = ends; grows = omega arith }
says_usage (Some names) files old new ended none ends = cc

serves_stop : (names : Names) (f0 f1 : FilesState) (s : Stop) → LoadsAll names f0 f1 (Err s) → Serves names f0 f1 (stop_status s) (stop_line s)
serves_stop names f0 f1 (Refused refusal) l =
    record { texts = l.texts; told = l.told; says = inr (l.finds.1, inl (record { refusal = refusal; first = l.finds.0; said_is = refl; text_is = refl })) }
serves_stop names f0 f1 (Unread file) l =
    record { texts = l.texts; told = l.told; says = inl (record { file = file; good = l.finds.0; counted = l.finds.1; said_is = refl; text_is = refl }) }
serves_stop names f0 f1 Memory l = record { texts = l.texts; told = l.told; says = inr (l.finds, inr (inr (record { said_is = refl; text_is = refl }))) }

-- there are no inputs
pub says_stop : (words : Option Names) (names : Names) (f0 f1 : FilesState) (old new : SinkState) (ended : Status) (s : Stop) → words ≡ Some names
    → LoadsAll names f0 f1 (Err s) → Ends (stop_status s) (stop_line s) old new ended → Answers (Says words) f0 f1 old new ended
says_stop words names f0 f1 old new ended s is l ends =
    subst (λ w. Answers (Says w) f0 f1 old new ended) (sym is)
    (record { said = stop_status s; text = stop_line s; says = serves_stop names f0 f1 s l; ends = ends; grows = l.grows })

serves_run : (names : Names) (f0 f1 : FilesState) (inputs : Inputs) (said : Status) (text : List ℕ) → LoadsAll names f0 f1 (Ok inputs) → RunSays inputs said text → Serves names f0 f1 said text
serves_run names f0 f1 inputs said text all (inl runs) =
    record { texts = all.texts; told = all.told; says = inr (all.finds.1, inr (inl (record { inputs = inputs; read = all.finds.0; runs = runs }))) }
serves_run names f0 f1 inputs said text all (inr want) = record { texts = all.texts; told = all.told; says = inr (all.finds.1, inr (inr want)) }

-- the inputs were run
pub says_run : (words : Option Names) (names : Names) (f0 f1 : FilesState) (old new : SinkState) (ended : Status) (inputs : Inputs) → words ≡ Some names
    → LoadsAll names f0 f1 (Ok inputs) → Spoken (RunSays inputs) old new ended → Answers (Says words) f0 f1 old new ended
says_run words names f0 f1 old new ended inputs is all ran =
    subst (λ w. Answers (Says w) f0 f1 old new ended) (sym is)
    (record { said = ran.said; text = ran.text; says = serves_run names f0 f1 inputs ran.said ran.text all ran.says; ends = ran.ends; grows = all.grows })

-- the words are served where they are a command and enough names
served_as : (test : Bool) (names : Names) → is_some {T = Names} (cond test (Some names) None) ≡ true → cond {A = Option Names} test (Some names) None ≡ Some names
served_as true names h = refl
served_as false names h = cc

-- the word at a place
pub word_at : {W : Type 0} (f : W → List ℕ) (words : List W) (i : ℕ) (w : W) → i < length words → w ≡ get_or words i w → get_or (map f words) i [] ≡ f w
word_at f [] i w lt is = absurd (omega arith)
word_at f (x ∷ words) zero w lt is = ap f (sym is)
word_at f (x ∷ words) (suc i) w lt is = word_at f words i w (omega arith) is

-- the words from a place on
words_from : {W : Type 0} (f : W → List ℕ) (n : ℕ) (words : List W) → drop n (map f words) ≡ map f (drop n words)
words_from f zero words = refl
words_from f (suc n) [] = refl
words_from f (suc n) (w ∷ words) = words_from f n words

-- the names among the words of a replay, and of a run in threads
replay_served : (words : List (List ℕ)) → is_some (replay_names_in words) ≡ true
    → replay_names_in words ≡ Some (record { settings = get_or words 1 []; schedule = Some (get_or words 2 []); scripts = drop 3 words })
replay_served [] h = cc
replay_served (a ∷ []) h = cc
replay_served (a ∷ b ∷ []) h = cc
replay_served (a ∷ b ∷ d ∷ scripts) h = served_as (bytes_eq a (codes "replay") && are_sessions scripts) (record { settings = b; schedule = Some d; scripts = scripts }) h

run_served : (words : List (List ℕ)) → is_some (run_names_in words) ≡ true → run_names_in words ≡ Some (record { settings = get_or words 1 []; schedule = None; scripts = drop 2 words })
run_served [] h = cc
run_served (a ∷ []) h = cc
run_served (a ∷ b ∷ scripts) h = served_as (bytes_eq a (codes "run") && are_sessions scripts) (record { settings = b; schedule = None; scripts = scripts }) h

-- the words that are served have these names
pub replay_named : {W : Type 0} (f : W → List ℕ) (words : List W) (a b : W) (settings schedule : List ℕ) (scripts : List (List ℕ)) → is_some (replay_names_in (map f words)) ≡ true → 4 ≤ length words
    → a ≡ get_or words 1 a → b ≡ get_or words 2 b → settings ≡ f a → schedule ≡ f b → scripts ≡ map f (drop 3 words)
    → replay_names_in (map f words) ≡ Some (record { settings = settings; schedule = Some schedule; scripts = scripts })
replay_named f words a b settings schedule scripts served some first second named scheduled behind =
    replay_served (map f words) served
    ∙ ap (λ w. Some (record { settings = w; schedule = Some (get_or (map f words) 2 []); scripts = drop 3 (map f words) })) (word_at f words 1 a (omega arith) first ∙ sym named)
    ∙ ap (λ w. Some (record { settings = settings; schedule = Some w; scripts = drop 3 (map f words) })) (word_at f words 2 b (omega arith) second ∙ sym scheduled)
    ∙ ap (λ ws. Some (record { settings = settings; schedule = Some schedule; scripts = ws })) (words_from f 3 words ∙ sym behind)

pub run_named : {W : Type 0} (f : W → List ℕ) (words : List W) (a : W) (settings : List ℕ) (scripts : List (List ℕ)) → is_some (run_names_in (map f words)) ≡ true → 3 ≤ length words
    → a ≡ get_or words 1 a → settings ≡ f a → scripts ≡ map f (drop 2 words) → run_names_in (map f words) ≡ Some (record { settings = settings; schedule = None; scripts = scripts })
run_named f words a settings scripts served some first named behind =
    run_served (map f words) served
    ∙ ap (λ w. Some (record { settings = w; schedule = None; scripts = drop 2 (map f words) })) (word_at f words 1 a (omega arith) first ∙ sym named)
    ∙ ap (λ ws. Some (record { settings = settings; schedule = None; scripts = ws })) (words_from f 2 words ∙ sym behind)

pub told_text : (told : Option (List ℕ)) (text other : List ℕ) → told ≡ Some text → IsTextOf told other → other ≡ text
told_text told text other is h = subst (λ o. IsTextOf o other) is h

told_texts : (files : FilesState) (names texts others : List (List ℕ)) → EachHas (λ name text. files.content name ≡ Some text) names texts → AreScriptTexts files names others → others ≡ texts
told_texts files [] [] [] t h = refl
told_texts files (name ∷ names) (text ∷ texts) (other ∷ others) t h =
    ap (λ w. w ∷ others) (told_text (files.content name) text other t.0 h.0) ∙ ap (λ ws. text ∷ ws) (told_texts files names texts others t.1 h.1)
told_texts files [] (text ∷ texts) others t h = absurd t
told_texts files (name ∷ names) [] others t h = absurd t
told_texts files [] texts (other ∷ others) t h = absurd h
told_texts files (name ∷ names) texts [] t h = absurd h

told_schedule : (files : FilesState) (name text other : Option (List ℕ)) → MayHave (λ name text. files.content name ≡ Some text) name text
    → MayHave (λ name text. IsTextOf (files.content name) text) name other → other ≡ text
told_schedule files None None None t h = refl
told_schedule files (Some name) (Some text) (Some other) t h = ap (λ w. Some w) (told_text (files.content name) text other t h)
told_schedule files None (Some text) other t h = absurd t
told_schedule files (Some name) None other t h = absurd t
told_schedule files None text (Some other) t h = absurd h
told_schedule files (Some name) text None t h = absurd h

pub told_inputs : (files : FilesState) (names : Names) (texts others : Texts) → Tells files names texts → AreTextsOf files names others → inputs_of others ≡ inputs_of texts
told_inputs files names texts others t h =
    ap (λ w. inputs_of (record { settings = w; schedule = others.schedule; scripts = others.scripts })) (told_text (files.content names.settings) texts.settings others.settings t.settings h.settings)
    ∙ ap (λ w. inputs_of (record { settings = texts.settings; schedule = w; scripts = others.scripts })) (told_schedule files names.schedule texts.schedule others.schedule t.schedule h.schedule)
    ∙ ap (λ ws. inputs_of (record { settings = texts.settings; schedule = texts.schedule; scripts = ws })) (told_texts files names.scripts texts.scripts others.scripts t.scripts h.scripts)

-- the status of a call that ran its inputs, or that wanted memory
abbrev RanOrWanted : Status → Type 0
RanOrWanted said = IsRunNumber (status_number said)

said_when_good : (texts : Texts) (inputs : Inputs) (said : Status) (text : List ℕ) → inputs_of texts ≡ Ok inputs → SaysOf texts said text → RanOrWanted said
said_when_good texts inputs said text good (inl refused) = let both : Ok inputs ≡ Err refused.refusal = sym good ∙ refused.first in cc
said_when_good texts inputs said text good (inr (inl run)) =
    let P : Bool → Type 0 = λ short. said ≡ transcript_status short → RanOrWanted said in
    (elim run.runs.short as P [ true ↦ λ e. inr (inl (ap status_number e)) | false ↦ λ e. inl (ap status_number e) ]) run.runs.said_is
said_when_good texts inputs said text good (inr (inr want)) = inr (inr (ap status_number want.said_is))

-- good inputs are run, unless memory is wanted or a fault is counted
pub completes : (words : Option Names) (f0 f1 : FilesState) (old new : SinkState) (number : ℕ) → Answered (Says words) f0 f1 old new number → Completes words f0 f1 old new number
completes None f0 f1 old new number a = tt
completes (Some names) f0 f1 old new number a = λ texts inputs tells good still unfailed.
    let says = a.answers.says in
    let good_texts = told_inputs f0 names texts says.texts tells says.told ∙ good in
    let said : RanOrWanted a.answers.said = elim says.says [
      | inl unread ↦ absurd (still unread.counted)
      | inr others ↦ said_when_good says.texts inputs a.answers.said a.answers.text good_texts others.1
    ] in
    elim a.answers.ends.sent [
      | inl sent ↦ subst IsRunNumber (sym (a.number_is ∙ ap status_number sent.0)) said
      | inr failed ↦ absurd (unfailed failed.1.1)
    ]

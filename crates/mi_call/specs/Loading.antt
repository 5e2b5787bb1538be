-- How the files of a call are read and found good or not.
use Rattle.std.specs.Prelude.{◌≡◌, ℕ, ◌+◌, ◌<◌, ◌≤◌, List, length, take, None, Some, Result, Ok, Err, IsOk}
use Rattle.std.specs.List.{AllByRecursion}
use Rattle.mi_base.specs.declared.limits.TheConstants.{MAX_SESSIONS}
use Rattle.mi_base.specs.declared.records.Op.{Op}
use Rattle.mi_base.specs.Configuration.{Configuration, metric_space}
use Rattle.mi_base.specs.Scripts.{IsScriptOver}
use Rattle.mi_input.specs.declared.faults.Reason.TheVariants as reason
use Rattle.mi_input.specs.declared.faults.InputFault.{InputFault}
use Rattle.mi_input.specs.declared.faults.InputFault.TheVariants as input
use Rattle.mi_input.specs.Schedules.{IsScheduleOf}
use Rattle.mi_outside.specs.declared.reading.ReadRefusal.{ReadRefusal}
use Rattle.mi_outside.specs.declared.reading.ReadRefusal.TheVariants as read
use Rattle.mi_outside.specs.Outside.{Rose}
use Rattle.mi_outside.specs.States.{FilesState}
use Rattle.mi_table.specs.declared.any.AnyMetric.{AnyMetric}
use Rattle.mi_table.specs.Any.{any_space}
use Rattle.mi_table.specs.Faults.{first_fault}
use Rattle.mi_call.specs.declared.refusals.Refusal.{Refusal}
use Rattle.mi_call.specs.declared.refusals.Refusal.TheVariants.{Record, Table}
use Rattle.mi_call.specs.declared.refusals.Stop.{Stop}
use Rattle.mi_call.specs.declared.refusals.Stop.TheVariants.{Refused, Unread, Memory}
use Rattle.mi_call.specs.declared.loading.Loaded.{Loaded}
use Rattle.mi_call.specs.declared.loading.Measured.{Measured}
use Rattle.mi_call.specs.declared.loading.Scheduled.{Scheduled}
use Rattle.mi_call.specs.declared.statuses.Status.{Status}
use Rattle.mi_call.specs.declared.statuses.Status.TheVariants as status
use Rattle.mi_call.specs.Calls.{memory_line, refusal_line, refusal_status, unread_line}
use Rattle.mi_call.specs.Inputs.{Names, Texts, Inputs, IsTextOf, AreScriptTexts, AreTextsOf, GoodBefore, inputs_of, scripts_from}

-- one file was read, and this was found in it; file is its place
abbrev pub Finds : {X : Type 0} → ℕ → FilesState → FilesState → Result X Refusal → Result X Stop → Type 0
Finds file old new found (Ok x) = (found ≡ Ok x) × (new.faults ≡ old.faults)
Finds file old new found (Err (Refused refusal)) = (found ≡ Err refusal) × (new.faults ≡ old.faults)
Finds file old new found (Err (Unread at)) = (at ≡ file) × Rose old.faults new.faults
Finds file old new found (Err Memory) = new.faults ≡ old.faults

-- the file of a name was read: a text that it has, where it tells its content, and what was found in that
pub record Loads {X : Type 0} (old new : FilesState) (name : List ℕ) (file : ℕ) (looks : List ℕ → Result X Refusal) (result : Result X Stop) : Type 0 where
  pub text : List ℕ
  pub told_is : IsTextOf (old.content name) text
  pub finds : Finds file old new (looks text) result
  pub grows : old.faults ≤ new.faults

-- what was read, seen in another way
abbrev pub seen_as : {X Y : Type 0} → (X → Y) → Result X Stop → Result Y Stop
seen_as view (Ok x) = Ok (view x)
seen_as view (Err stop) = Err stop

-- the metric of settings, or why there is none
abbrev pub HasMetric : Configuration → Result AnyMetric Stop → Type 0
HasMetric c (Ok m) = (any_space m ≡ metric_space c) × (first_fault c.rows ≡ None)
HasMetric c (Err (Refused (Table fault))) = first_fault c.rows ≡ Some fault
HasMetric c (Err (Refused (Record file number why))) = ⊥
HasMetric c (Err (Unread file)) = ⊥
HasMetric c (Err Memory) = Unit {0}

-- settings whose metric is there
abbrev pub measured_settings : Measured → Configuration
measured_settings m = m.settings

abbrev pub HasItsMetric : Measured → Type 0
HasItsMetric m = any_space m.metric ≡ metric_space m.settings

-- the inputs of a run in threads, and of a replay, as contracts see them
abbrev pub inputs_in : Loaded → Inputs
inputs_in l = record { settings = l.settings; schedule = None; scripts = l.scripts }

abbrev pub scheduled_in : Scheduled → Inputs
scheduled_in s = record { settings = s.loaded.settings; schedule = Some s.schedule; scripts = s.loaded.scripts }

-- settings and scripts that may be run
pub record MayRun (l : Loaded) : Type 0 where
  pub space : any_space l.metric ≡ metric_space l.settings
  pub some : 1 ≤ length l.scripts
  pub few : length l.scripts ≤ MAX_SESSIONS
  pub scripts : AllByRecursion (IsScriptOver (metric_space l.settings)) l.scripts

-- those that may be run after their schedule
pub record MayReplay (s : Scheduled) : Type 0 where
  pub loaded : MayRun s.loaded
  pub schedule : IsScheduleOf (length s.loaded.scripts) s.schedule

-- what the texts of scripts are, as far as they were read; the first is the file at this place
abbrev pub FindsScripts : Configuration → ℕ → List (List ℕ) → FilesState → FilesState → Result (List (List Op)) Stop → Type 0
FindsScripts c first texts old new (Ok scripts) =
    (scripts_from c first texts ≡ Ok scripts) × AllByRecursion (IsScriptOver (metric_space c)) scripts × (new.faults ≡ old.faults)
FindsScripts c first texts old new (Err (Refused refusal)) = (scripts_from c first texts ≡ Err refusal) × (new.faults ≡ old.faults)
FindsScripts c first texts old new (Err (Unread file)) =
    (count : ℕ) × (file ≡ first + count) × (count < length texts) × IsOk (scripts_from c first (take count texts)) × Rose old.faults new.faults
FindsScripts c first texts old new (Err Memory) = new.faults ≡ old.faults

-- the scripts of these names were read one after another, as far as needed
pub record LoadsScripts (c : Configuration) (first : ℕ) (names : List (List ℕ)) (old new : FilesState) (result : Result (List (List Op)) Stop) : Type 0 where
  pub texts : List (List ℕ)
  pub told : AreScriptTexts old names texts
  pub finds : FindsScripts c first texts old new result
  pub grows : old.faults ≤ new.faults

-- what the texts are, as far as they were read
abbrev pub FindsAll : Texts → FilesState → FilesState → Result Inputs Stop → Type 0
FindsAll texts old new (Ok inputs) = (inputs_of texts ≡ Ok inputs) × (new.faults ≡ old.faults)
FindsAll texts old new (Err (Refused refusal)) = (inputs_of texts ≡ Err refusal) × (new.faults ≡ old.faults)
FindsAll texts old new (Err (Unread file)) = GoodBefore file texts × Rose old.faults new.faults
FindsAll texts old new (Err Memory) = new.faults ≡ old.faults

-- all files were read, as far as needed
pub record LoadsAll (names : Names) (old new : FilesState) (result : Result Inputs Stop) : Type 0 where
  pub texts : Texts
  pub told : AreTextsOf old names texts
  pub finds : FindsAll texts old new result
  pub grows : old.faults ≤ new.faults

-- why reading a file or its bytes stops the call
abbrev pub refusal_stop : ℕ → ReadRefusal → Stop
refusal_stop file read.Failed = Unread file
refusal_stop file read.TooLarge = Refused (Record file 0 reason.Large)
refusal_stop file read.Memory = Memory

abbrev pub fault_stop : ℕ → InputFault → Stop
fault_stop file (input.Bad number why) = Refused (Record file number why)
fault_stop file input.Memory = Memory

-- what is said where there are no inputs
abbrev pub stop_status : Stop → Status
stop_status (Refused refusal) = refusal_status refusal
stop_status (Unread file) = status.Unread
stop_status Memory = status.NoMemory

abbrev pub stop_line : Stop → List ℕ
stop_line (Refused refusal) = refusal_line refusal
stop_line (Unread file) = unread_line file
stop_line Memory = memory_line

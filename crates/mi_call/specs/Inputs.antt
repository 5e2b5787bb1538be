-- What the words and the files of a call say.
use Rattle.std.specs.Prelude.{◌≡◌, ◌+◌, ◌<◌, ◌&&◌, ℕ, zero, suc, List, [], ◌∷◌, length, take, bytes_eq, codes, Bool, Option, Some, None, IfSome, Result, Ok, Err, IsOk, nat_le, if◌then◌else◌}
use Rattle.mi_base.specs.declared.limits.TheConstants.{MAX_FILE_SIZE, MAX_SESSIONS}
use Rattle.mi_base.specs.declared.records.Op.{Op}
use Rattle.mi_base.specs.declared.records.ScheduleItem.{ScheduleItem}
use Rattle.mi_base.specs.Configuration.{Configuration}
use Rattle.mi_input.specs.declared.faults.Reason.TheVariants.{Large}
use Rattle.mi_input.specs.Faults.{Fault, ◌>>=◌}
use Rattle.mi_input.specs.Settings.{settings_in}
use Rattle.mi_input.specs.Schedules.{schedule_in}
use Rattle.mi_input.specs.Scripts.{script_in}
use Rattle.mi_outside.specs.States.{FilesState}
use Rattle.mi_table.specs.declared.faults.TableFault.{TableFault}
use Rattle.mi_table.specs.Faults.{first_fault}
use Rattle.mi_call.specs.declared.refusals.Refusal.{Refusal}
use Rattle.mi_call.specs.declared.refusals.Refusal.TheVariants.{Record, Table}

-- the names of the settings, of the schedule where there is one, and of the scripts
pub record Names : Type 0 where
  pub settings : List ℕ
  pub schedule : Option (List ℕ)
  pub scripts : List (List ℕ)

-- a script for each of 1 to 16 sessions
abbrev pub are_sessions : List (List ℕ) → Bool
are_sessions scripts = nat_le 1 (length scripts) && nat_le (length scripts) MAX_SESSIONS

-- the names are served where they stand behind the word of the command, and name scripts for sessions
abbrev pub served : Bool → Names → Option Names
served is_command names = if is_command && are_sessions names.scripts then Some names else None

-- the words of a replay are the command, the names of the settings and the schedule, and those of the scripts
abbrev pub replay_names_in : List (List ℕ) → Option Names
replay_names_in (command ∷ settings ∷ schedule ∷ scripts) =
    served (bytes_eq command (codes "replay")) (record { settings = settings; schedule = Some schedule; scripts = scripts })
replay_names_in [] = None
replay_names_in (a ∷ []) = None
replay_names_in (a ∷ b ∷ []) = None

-- those of a run in threads have no schedule
abbrev pub run_names_in : List (List ℕ) → Option Names
run_names_in (command ∷ settings ∷ scripts) = served (bytes_eq command (codes "run")) (record { settings = settings; schedule = None; scripts = scripts })
run_names_in [] = None
run_names_in (a ∷ []) = None

-- the texts of the files
pub record Texts : Type 0 where
  pub settings : List ℕ
  pub schedule : Option (List ℕ)
  pub scripts : List (List ℕ)

-- each name has its text
abbrev pub EachHas : (List ℕ → List ℕ → Type 0) → List (List ℕ) → List (List ℕ) → Type 0
EachHas its [] [] = Unit {0}
EachHas its (name ∷ names) (text ∷ texts) = its name text × EachHas its names texts
EachHas its (name ∷ names) [] = ⊥
EachHas its [] (text ∷ texts) = ⊥

-- the name of a schedule has its text
abbrev pub MayHave : (List ℕ → List ℕ → Type 0) → Option (List ℕ) → Option (List ℕ) → Type 0
MayHave its None None = Unit {0}
MayHave its (Some name) (Some text) = its name text
MayHave its (Some name) None = ⊥
MayHave its None (Some text) = ⊥

-- a text is that of a file, where the file tells its content
abbrev pub IsTextOf : Option (List ℕ) → List ℕ → Type 0
IsTextOf told text = IfSome told (λ content. text ≡ content)

abbrev pub AreScriptTexts : FilesState → List (List ℕ) → List (List ℕ) → Type 0
AreScriptTexts files names texts = EachHas (λ name text. IsTextOf (files.content name) text) names texts

pub record AreTextsOf (files : FilesState) (names : Names) (texts : Texts) : Type 0 where
  pub settings : IsTextOf (files.content names.settings) texts.settings
  pub schedule : MayHave (λ name text. IsTextOf (files.content name) text) names.schedule texts.schedule
  pub scripts : AreScriptTexts files names.scripts texts.scripts

-- a fault with the place of its file
abbrev pub at_file : {X : Type 0} → ℕ → Result X Fault → Result X Refusal
at_file file (Ok x) = Ok x
at_file file (Err fault) = Err (Record file fault.number fault.why)

-- what is found in a file: nothing is looked for in one that is too large
abbrev pub in_file : {X : Type 0} → ℕ → (List ℕ → Result X Fault) → List ℕ → Result X Refusal
in_file file read text =
    if nat_le (length text) MAX_FILE_SIZE then at_file file (read text) else Err (Record file 0 Large)

-- settings have a metric, unless their table has a fault
abbrev pub settings_or_fault : Configuration → Option TableFault → Result Configuration Refusal
settings_or_fault c None = Ok c
settings_or_fault c (Some fault) = Err (Table fault)

abbrev pub settings_from : List ℕ → Result Configuration Refusal
settings_from text = in_file 0 settings_in text >>= λ c. settings_or_fault c (first_fault c.rows)

abbrev pub settings_of : Texts → Result Configuration Refusal
settings_of texts = settings_from texts.settings

-- a schedule that there is gives turns to so many sessions
abbrev pub schedule_from : ℕ → Option (List ℕ) → Result (Option (List ScheduleItem)) Refusal
schedule_from sessions None = Ok None
schedule_from sessions (Some text) = in_file 1 (schedule_in sessions) text >>= λ items. Ok (Some items)

-- they are as many as there are scripts
abbrev pub schedule_of : Texts → Result (Option (List ScheduleItem)) Refusal
schedule_of texts = schedule_from (length texts.scripts) texts.schedule

-- the scripts that texts are, the first of which is the file at this place, or the first refusal
abbrev pub scripts_from : Configuration → ℕ → List (List ℕ) → Result (List (List Op)) Refusal
scripts_from c file [] = Ok []
scripts_from c file (text ∷ texts) = do
  script ← in_file file (script_in c) text
  scripts ← scripts_from c (file + 1) texts
  Ok (script ∷ scripts)

-- the place of the first script, behind the settings and the schedule
abbrev pub first_script : Option (List ℕ) → ℕ
first_script None = 1
first_script (Some schedule) = 2

-- what a call runs, after a schedule or in threads
pub record Inputs : Type 0 where
  pub settings : Configuration
  pub schedule : Option (List ScheduleItem)
  pub scripts : List (List Op)

-- the inputs that the texts are, or the first refusal in the order of the files
abbrev pub inputs_of : Texts → Result Inputs Refusal
inputs_of texts = do
  c ← settings_of texts
  items ← schedule_of texts
  scripts ← scripts_from c (first_script texts.schedule) texts.scripts
  Ok (record { settings = c; schedule = items; scripts = scripts })

-- so many scripts are good, and there is one more
pub record ScriptsGoodBefore (count : ℕ) (texts : Texts) : Type 0 where
  pub more : count < length texts.scripts
  pub settings : Configuration
  pub settings_are : settings_of texts ≡ Ok settings
  pub schedule : IsOk (schedule_of texts)
  pub scripts : IsOk (scripts_from settings (first_script texts.schedule) (take count texts.scripts))

-- each file before this one is good: behind the settings comes the schedule, where there is one, and then come the scripts
abbrev pub AreGoodBefore : ℕ → Option (List ℕ) → Texts → Type 0
AreGoodBefore zero schedule texts = Unit {0}
AreGoodBefore (suc count) None texts = ScriptsGoodBefore count texts
AreGoodBefore (suc zero) (Some schedule) texts = IsOk (settings_of texts)
AreGoodBefore (suc (suc count)) (Some schedule) texts = ScriptsGoodBefore count texts

abbrev pub GoodBefore : ℕ → Texts → Type 0
GoodBefore file texts = AreGoodBefore file texts.schedule texts

-- What a call may answer, and the text beside it.
use Rattle.std.specs.Prelude.{◌≡◌, ℕ, zero, suc, ◌≤◌, Bool, true, false, List, [], ◌∷◌, codes, Option, Some, None, Result, Ok, Err, ◌⊎◌}
use Rattle.std.specs.Fmt.{decimal}
use Rattle.mi_base.specs.declared.records.Op.{Op}
use Rattle.mi_base.specs.declared.records.ScheduleItem.{ScheduleItem}
use Rattle.mi_base.specs.declared.refusals.NoMemory.{NoMemory}
use Rattle.mi_base.specs.Configuration.{Configuration}
use Rattle.mi_input.specs.declared.faults.Reason.{Reason}
use Rattle.mi_input.specs.declared.faults.Reason.TheVariants as reason
use Rattle.mi_outside.specs.Outside.{Rose, SendsPart, SendsWhole}
use Rattle.mi_outside.specs.States.{FilesState, SinkState}
use Rattle.mi_settle.specs.Headlines.{Headline}
use Rattle.mi_replay.specs.InOrder.{InOrder}
use Rattle.mi_replay.specs.Outcomes.{is_short_of}
use Rattle.mi_tree.specs.declared.outcomes.Outcome.{Outcome}
use Rattle.mi_print.specs.Render.{line, number_line, rendering, transcript}
use Rattle.mi_table.specs.declared.faults.TableFault.{TableFault}
use Rattle.mi_table.specs.declared.faults.TableFault.TheVariants as table
use Rattle.mi_call.specs.declared.refusals.Refusal.{Refusal}
use Rattle.mi_call.specs.declared.refusals.Refusal.TheVariants.{Record, Table}
use Rattle.mi_call.specs.declared.statuses.Status.{Status}
use Rattle.mi_call.specs.declared.statuses.Status.TheVariants as status
use Rattle.mi_call.specs.Statuses.{status_number}
use Rattle.mi_call.specs.Inputs.{Names, Texts, Inputs, AreTextsOf, EachHas, MayHave, inputs_of, GoodBefore}

abbrev pub usage_line : List ℕ
usage_line = line (codes "usage: mindex replay SETTINGS SCHEDULE SCRIPT... | run SETTINGS SCRIPT... | make SEED | choose SETTINGS SCRIPT COUNT") []

abbrev pub memory_line : List ℕ
memory_line = line (codes "memory") []

abbrev pub unread_line : ℕ → List ℕ
unread_line file = number_line (codes "unread") (file ∷ [])

abbrev pub reason_word : Reason → List ℕ
reason_word reason.Word = codes "word"
reason_word reason.Fields = codes "fields"
reason_word reason.Number = codes "number"
reason_word reason.Range = codes "range"
reason_word reason.Limit = codes "limit"
reason_word reason.End = codes "end"
reason_word reason.Extra = codes "extra"
reason_word reason.Large = codes "large"

-- a fault's file and record, its reason, and the places that show it
abbrev pub fault_line : ℕ → ℕ → List ℕ → List (List ℕ) → List ℕ
fault_line file number word places = line (codes "fault") (decimal file ∷ decimal number ∷ word ∷ places)

abbrev pub table_line : TableFault → List ℕ
table_line (table.NotSquare row) = fault_line 0 0 (codes "notsquare") (decimal row ∷ [])
table_line (table.Diagonal i) = fault_line 0 0 (codes "diagonal") (decimal i ∷ [])
table_line (table.Zero i j) = fault_line 0 0 (codes "zero") (decimal i ∷ decimal j ∷ [])
table_line (table.Asymmetric i j) = fault_line 0 0 (codes "asymmetric") (decimal i ∷ decimal j ∷ [])
table_line (table.Triangle i j k) = fault_line 0 0 (codes "triangle") (decimal i ∷ decimal j ∷ decimal k ∷ [])
table_line table.Memory = memory_line

abbrev pub refusal_line : Refusal → List ℕ
refusal_line (Record file number why) = fault_line file number (reason_word why) []
refusal_line (Table fault) = table_line fault

abbrev pub refusal_status : Refusal → Status
refusal_status (Record zero number why) = status.BadSettings
refusal_status (Record (suc file) number why) = status.BadFile
refusal_status (Table fault) = status.BadSettings

-- THE HEADLINE. The text is the transcript of an outcome of the scripts, whoever ran them and in whatever order.
pub record IsTranscript (c : Configuration) (scripts : List (List Op)) (short : Bool) (text : List ℕ) : Type 0 where
  pub outcome : Outcome
  pub headline : Headline c scripts outcome
  pub short_is : short ≡ outcome.short
  pub text_is : text ≡ rendering c outcome.replies outcome.log outcome.entries outcome.allotted

-- Where there is a schedule, the outcome is of a run in its order, and is short only where memory was wanted.
abbrev pub KeepsSchedule : Configuration → List (List Op) → Option (List ScheduleItem) → Outcome → Type 0
KeepsSchedule c scripts None o = Unit {0}
KeepsSchedule c scripts (Some items) o = (order : InOrder c scripts items o) × (o.short ≡ is_short_of c scripts items o order)

-- a file isn't of its form: the first in the order of the words, by what was found in the files
pub record IsRefusal {X : Type 0} (found : Result X Refusal) (said : Status) (text : List ℕ) : Type 0 where
  pub refusal : Refusal
  pub first : found ≡ Err refusal
  pub said_is : said ≡ refusal_status refusal
  pub text_is : text ≡ refusal_line refusal

-- A file could not be read: the count of faults of the files rose, and each file before the one that is named is good. The count is
-- one for all files, so that the name is pinned no further: where a file is good, its own failed read may be told of a later one.
pub record IsUnread (GoodUpTo : ℕ → Type 0) (old new : FilesState) (said : Status) (text : List ℕ) : Type 0 where
  pub file : ℕ
  pub good : GoodUpTo file
  pub counted : Rose old.faults new.faults
  pub said_is : said ≡ status.Unread
  pub text_is : text ≡ unread_line file

-- the status of a transcript: it is short where memory was wanted
abbrev pub transcript_status : Bool → Status
transcript_status true = status.Short
transcript_status false = status.Done

-- inputs were run
pub record RunsTo (inputs : Inputs) (said : Status) (text : List ℕ) : Type 0 where
  pub short : Bool
  pub ran : IsTranscript inputs.settings inputs.scripts short text
  pub order : KeepsSchedule inputs.settings inputs.scripts inputs.schedule ran.outcome
  pub said_is : said ≡ transcript_status short

-- the inputs that the texts are were run
pub record IsRun (texts : Texts) (said : Status) (text : List ℕ) : Type 0 where
  pub inputs : Inputs
  pub read : inputs_of texts ≡ Ok inputs
  pub runs : RunsTo inputs said text

-- memory was wanted before there was a whole outcome
pub record IsWant (said : Status) (text : List ℕ) : Type 0 where
  pub said_is : said ≡ status.NoMemory
  pub text_is : text ≡ memory_line

-- what is said of inputs
abbrev pub RunSays : Inputs → Status → List ℕ → Type 0
RunSays inputs said text = RunsTo inputs said text ⊎ IsWant said text

-- what is said of an outcome, or of the want of memory in its place
abbrev pub OutcomeSays : Result Outcome NoMemory → Status → List ℕ → Type 0
OutcomeSays (Ok o) said text = (said ≡ transcript_status o.short) × (text ≡ transcript o.replies o.log o.cells o.entries o.allotted o.limit)
OutcomeSays (Err e) said text = IsWant said text

-- what is said where no read failed
abbrev pub SaysOf : Texts → Status → List ℕ → Type 0
SaysOf texts said text = IsRefusal (inputs_of texts) said text ⊎ (IsRun texts said text ⊎ IsWant said text)

-- what a call of served words says, for texts that its files have: a fault of reading is told, and is counted where it is told alone
pub record Serves (names : Names) (old new : FilesState) (said : Status) (text : List ℕ) : Type 0 where
  pub texts : Texts
  pub told : AreTextsOf old names texts
  pub says : IsUnread (λ file. GoodBefore file texts) old new said text ⊎ ((new.faults ≡ old.faults) × SaysOf texts said text)

-- what a call says, whichever words it is given
abbrev pub Says : Option Names → FilesState → FilesState → Status → List ℕ → Type 0
Says None old new said text = (said ≡ status.Usage) × (text ≡ usage_line) × (new.faults ≡ old.faults)
Says (Some names) old new said text = Serves names old new said text

-- A text goes out whole beside its status. Or a write fails, which is counted, and a front of the text went out.
pub record Ends (said : Status) (text : List ℕ) (old new : SinkState) (ended : Status) : Type 0 where
  pub sent : ((ended ≡ said) × SendsWhole old new text) ⊎ ((ended ≡ status.Unwritten) × SendsPart old new text)
  pub grows : old.faults ≤ new.faults

-- a call says something, of what its command may say, and sends it
pub record Answers (Saying : FilesState → FilesState → Status → List ℕ → Type 0) (old new : FilesState) (out out' : SinkState) (ended : Status) : Type 0 where
  pub said : Status
  pub text : List ℕ
  pub says : Saying old new said text
  pub ends : Ends said text out out' ended
  pub grows : old.faults ≤ new.faults

-- a call answers the number of the status that it ends with
pub record Answered (Saying : FilesState → FilesState → Status → List ℕ → Type 0) (old new : FilesState) (out out' : SinkState) (number : ℕ) : Type 0 where
  pub ended : Status
  pub number_is : number ≡ status_number ended
  pub answers : Answers Saying old new out out' ended

-- something is said, of what may be said, and sent
pub record Spoken (Saying : Status → List ℕ → Type 0) (old new : SinkState) (ended : Status) : Type 0 where
  pub said : Status
  pub text : List ℕ
  pub says : Saying said text
  pub ends : Ends said text old new ended

-- the files tell these texts
pub record Tells (files : FilesState) (names : Names) (texts : Texts) : Type 0 where
  pub settings : files.content names.settings ≡ Some texts.settings
  pub schedule : MayHave (λ name text. files.content name ≡ Some text) names.schedule texts.schedule
  pub scripts : EachHas (λ name text. files.content name ≡ Some text) names.scripts texts.scripts

-- the number of a call that ran its inputs, or that wanted memory
abbrev pub IsRunNumber : ℕ → Type 0
IsRunNumber number = (number ≡ status_number status.Done) ⊎ ((number ≡ status_number status.Short) ⊎ (number ≡ status_number status.NoMemory))

-- Where the words are served, the files tell inputs that are good, and no fault was counted, the scripts were run, unless memory was wanted.
abbrev pub Completes : Option Names → FilesState → FilesState → SinkState → SinkState → ℕ → Type 0
Completes None old new out out' number = Unit {0}
Completes (Some names) old new out out' number =
    (texts : Texts) (inputs : Inputs) → Tells old names texts → inputs_of texts ≡ Ok inputs → ¬ Rose old.faults new.faults → ¬ Rose out.faults out'.faults
    → IsRunNumber number

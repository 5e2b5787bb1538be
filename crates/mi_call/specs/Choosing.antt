-- A call that chooses pivots: its words, what its files say, and what it may answer.
use Rattle.std.specs.Prelude.{◌≡◌, ℕ, ℤ, List, [], ◌∷◌, ◌++◌, map, bytes_eq, codes, Option, Some, None, Result, Ok, Err, ◌⊎◌, if◌then◌else◌}
use Rattle.std.specs.Fmt.{signed_decimal}
use Rattle.std.specs.List.{filter_map, flat_map}
use Rattle.mi_base.specs.declared.limits.TheConstants.{MAX_PIVOTS}
use Rattle.mi_base.specs.declared.records.Op.{Op}
use Rattle.mi_base.specs.declared.records.Op.TheVariants.{Insert, Delete, Range, Nearest}
use Rattle.mi_base.specs.Configuration.{metric_space}
use Rattle.mi_choose.specs.declared.choosing.Choice.{Choice}
use Rattle.mi_choose.specs.Farthest.{IsFarthestFirst, objects_at}
use Rattle.mi_input.specs.declared.faults.Reason.{Reason}
use Rattle.mi_input.specs.Numbers.{count_in}
use Rattle.mi_outside.specs.Outside.{Rose}
use Rattle.mi_outside.specs.States.{FilesState, SinkState}
use Rattle.mi_print.specs.Render.{line, number_line}
use Rattle.mi_call.specs.declared.statuses.Status.{Status}
use Rattle.mi_call.specs.declared.statuses.Status.TheVariants as status
use Rattle.mi_call.specs.Statuses.{status_number}
use Rattle.mi_call.specs.Inputs.{AreTextsOf, GoodBefore, Inputs, Names, Texts, inputs_of}
use Rattle.mi_call.specs.Calls.{Ends, IsRefusal, IsUnread, IsWant, Tells, usage_line}

-- the names, those of the settings and of one script, and how many pivots are wanted at most
pub record ChooseWords : Type 0 where
  pub names : Names
  pub count : ℕ

abbrev pub words_with_count : List ℕ → List ℕ → Result ℕ Reason → Option ChooseWords
words_with_count settings script (Ok count) =
    Some (record { names = record { settings = settings; schedule = None; scripts = script ∷ [] }; count = count })
words_with_count settings script (Err why) = None

-- the words of the form are the command, two names, and a number from 1 to 32
abbrev pub choose_words_in : List (List ℕ) → Option ChooseWords
choose_words_in (command ∷ settings ∷ script ∷ count ∷ []) =
    if bytes_eq command (codes "choose") then words_with_count settings script (count_in 1 MAX_PIVOTS count) else None
choose_words_in [] = None
choose_words_in (a ∷ []) = None
choose_words_in (a ∷ b ∷ []) = None
choose_words_in (a ∷ b ∷ c ∷ []) = None
choose_words_in (a ∷ b ∷ c ∷ d ∷ e ∷ words) = None

-- the vector that an operation inserts
abbrev pub inserted_vector : Op → Option (List ℤ)
inserted_vector (Insert id vector) = Some vector
inserted_vector (Delete id) = None
inserted_vector (Range radius query) = None
inserted_vector (Nearest count query) = None

-- the objects are the vectors of the insert records in their order
abbrev pub objects_of : List Op → List (List ℤ)
objects_of ops = filter_map inserted_vector ops

-- the one script of a call that chooses pivots
abbrev pub only_script : List (List Op) → List Op
only_script [] = []
only_script (ops ∷ scripts) = ops

abbrev pub objects_in : Inputs → List (List ℤ)
objects_in inputs = objects_of (only_script inputs.scripts)

abbrev pub pivot_line : List ℤ → List ℕ
pivot_line vector = line (codes "pivot") (map signed_decimal vector)

-- a line for each chosen object, and the two numbers of the choice
abbrev pub choice_text : List (List ℤ) → Choice → List ℕ
choice_text objects choice =
    flat_map pivot_line (objects_at objects choice.chosen) ++ (number_line (codes "cover") (choice.cover ∷ []) ++ number_line (codes "apart") (choice.apart ∷ []))

-- the text is that of the choice, farthest first, of up to so many of the script's objects
pub record IsChoiceText (inputs : Inputs) (count : ℕ) (text : List ℕ) : Type 0 where
  pub choice : Choice
  pub farthest_first : IsFarthestFirst (metric_space inputs.settings) (objects_in inputs) count choice
  pub text_is : text ≡ choice_text (objects_in inputs) choice

-- the inputs that the texts are were chosen from
pub record IsChoosing (texts : Texts) (count : ℕ) (said : Status) (text : List ℕ) : Type 0 where
  pub inputs : Inputs
  pub read : inputs_of texts ≡ Ok inputs
  pub chosen : IsChoiceText inputs count text
  pub said_is : said ≡ status.Done

-- what is said where no read failed
abbrev pub ChooseSaysOf : Texts → ℕ → Status → List ℕ → Type 0
ChooseSaysOf texts count said text = IsRefusal (inputs_of texts) said text ⊎ (IsChoosing texts count said text ⊎ IsWant said text)

-- what a call of words of the form says, for texts that its files have
pub record ServesChoose (words : ChooseWords) (old new : FilesState) (said : Status) (text : List ℕ) : Type 0 where
  pub texts : Texts
  pub told : AreTextsOf old words.names texts
  pub says : IsUnread (λ file. GoodBefore file texts) old new said text ⊎ ((new.faults ≡ old.faults) × ChooseSaysOf texts words.count said text)

-- what a call says, whichever words it is given
abbrev pub ChooseSays : Option ChooseWords → FilesState → FilesState → Status → List ℕ → Type 0
ChooseSays None old new said text = (said ≡ status.Usage) × (text ≡ usage_line) × (new.faults ≡ old.faults)
ChooseSays (Some words) old new said text = ServesChoose words old new said text

-- Where the words have the form, the files tell inputs that are good, and no fault was counted, the choice was told, unless memory was wanted.
abbrev pub ChooseCompletes : Option ChooseWords → FilesState → FilesState → SinkState → SinkState → ℕ → Type 0
ChooseCompletes None old new out out' number = Unit {0}
ChooseCompletes (Some words) old new out out' number =
    (texts : Texts) (inputs : Inputs) → Tells old words.names texts → inputs_of texts ≡ Ok inputs → ¬ Rose old.faults new.faults → ¬ Rose out.faults out'.faults
    → (number ≡ status_number status.Done) ⊎ (number ≡ status_number status.NoMemory)

-- the choice was told, or memory was wanted
pub record Proposed (inputs : Inputs) (count : ℕ) (old new : SinkState) (ended : Status) : Type 0 where
  pub said : Status
  pub text : List ℕ
  pub says : ((said ≡ status.Done) × IsChoiceText inputs count text) ⊎ IsWant said text
  pub ends : Ends said text old new ended

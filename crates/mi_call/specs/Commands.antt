-- The commands by their first words, and what each may answer.
use Rattle.std.specs.Prelude.{◌≡◌, ℕ, List, [], ◌∷◌, bytes_eq, codes, Bool, false, if◌then◌else◌}
use Rattle.mi_outside.specs.States.{FilesState, SinkState}
use Rattle.mi_call.specs.declared.commands.Command.{Command}
use Rattle.mi_call.specs.declared.commands.Command.TheVariants.{Choose, Make, Replay, Run}
use Rattle.mi_call.specs.declared.statuses.Status.{Status}
use Rattle.mi_call.specs.Inputs.{replay_names_in, run_names_in}
use Rattle.mi_call.specs.Calls.{Completes, Says}
use Rattle.mi_call.specs.Choosing.{ChooseCompletes, ChooseSays, choose_words_in}
use Rattle.mi_call.specs.Making.{MakeCompletes, MakeSays, seed_in}

abbrev pub begins_with : List ℕ → List (List ℕ) → Bool
begins_with command [] = false
begins_with command (word ∷ words) = bytes_eq word command

-- the command that the first word names: words that name none of the others are told what they are by the one that replays
abbrev pub command_in : List (List ℕ) → Command
command_in words =
    if begins_with (codes "choose") words then Choose
    else if begins_with (codes "make") words then Make
    else if begins_with (codes "run") words then Run
    else Replay

-- what the command says; the one that makes a workload reads no file
abbrev pub CommandSays : Command → List (List ℕ) → FilesState → FilesState → Status → List ℕ → Type 0
CommandSays Choose words = ChooseSays (choose_words_in words)
CommandSays Make words = λ old new said text. MakeSays (seed_in words) said text × (new.faults ≡ old.faults)
CommandSays Replay words = Says (replay_names_in words)
CommandSays Run words = Says (run_names_in words)

-- whether the command ran what was good
abbrev pub CommandCompletes : Command → List (List ℕ) → FilesState → FilesState → SinkState → SinkState → ℕ → Type 0
CommandCompletes Choose words = ChooseCompletes (choose_words_in words)
CommandCompletes Make words = λ old new. MakeCompletes (seed_in words)
CommandCompletes Replay words = Completes (replay_names_in words)
CommandCompletes Run words = Completes (run_names_in words)

-- What a read, a write and a whole text that is written mean.
use Rattle.std.specs.Prelude.{◌≡◌, ℕ, ◌+◌, ◌-◌, ◌^◌, ◌<◌, ◌≤◌, List, ◌++◌, length, take, min, Option, Some, IfSome, Result, OnOk, OnErr}
use Rattle.mi_base.specs.declared.limits.TheConstants.{MAX_FILE_SIZE}
use Rattle.mi_outside.specs.declared.reading.ReadRefusal.{ReadRefusal}
use Rattle.mi_outside.specs.declared.reading.ReadRefusal.TheVariants.{Failed, TooLarge, Memory}
use Rattle.mi_outside.specs.declared.writing.SinkFailed.{SinkFailed}
use Rattle.mi_outside.specs.States.{FilesState, SinkState}

-- a count rose, or stands at the end of its type
abbrev pub Rose : ℕ → ℕ → Type 0
Rose before now = min (before + 1) (2 ^ 64 - 1) ≤ now

-- a count raised by one; at the end of its type it stands still
abbrev pub raised_count : ℕ → ℕ
raised_count count = min (count + 1) (2 ^ 64 - 1)

-- a read gained what the file holds, where that is told, and never more than a file may hold
pub record Reads (told : Option (List ℕ)) (before after : List ℕ) : Type 0 where
  pub bytes : List ℕ
  pub gained : after ≡ before ++ bytes
  pub few : length bytes ≤ MAX_FILE_SIZE
  pub same : IfSome told (λ content. bytes ≡ content)

-- why a read was refused: a counted fault; with no fault a file that is too large, or want of memory
abbrev pub RefusesRead : Option (List ℕ) → ℕ → ℕ → ReadRefusal → Type 0
RefusesRead told count count' Failed = Rose count count'
RefusesRead told count count' TooLarge = IfSome told (λ content. MAX_FILE_SIZE < length content) × (count' ≡ count)
RefusesRead told count count' Memory = count' ≡ count

-- each file holds what it held
abbrev pub KeepsContents : FilesState → FilesState → Type 0
KeepsContents old new = (name : List ℕ) → new.content name ≡ old.content name

-- this went out, where what goes out is told
abbrev pub Adds : SinkState → SinkState → List ℕ → Type 0
Adds old new text = IfSome old.written (λ before. new.written ≡ Some (before ++ text))

-- a front of the text went out
abbrev pub AddsFront : SinkState → SinkState → List ℕ → Type 0
AddsFront old new text = IfSome old.written (λ before. (front : List ℕ) × (rest : List ℕ) × (front ++ rest ≡ text) × (new.written ≡ Some (before ++ front)))

-- A write took the first n bytes of the piece. To take none of a piece that isn't empty is a counted fault; else no fault is counted.
pub record Writes (old new : SinkState) (n : ℕ) (piece : List ℕ) : Type 0 where
  pub within : n ≤ length piece
  pub front : Adds old new (take n piece)
  pub some : 0 < n → new.faults ≡ old.faults
  pub empty : length piece ≡ 0 → new.faults ≡ old.faults
  pub nothing : n ≡ 0 → 0 < length piece → Rose old.faults new.faults

-- a write failed: the fault is counted, and nothing went out
pub record Fails (old new : SinkState) : Type 0 where
  pub counted : Rose old.faults new.faults
  pub same : IfSome old.written (λ before. new.written ≡ Some before)

-- the text went out whole, and no fault was counted
abbrev pub SendsWhole : SinkState → SinkState → List ℕ → Type 0
SendsWhole old new text = Adds old new text × (new.faults ≡ old.faults)

-- at a counted fault a front of the text went out
abbrev pub SendsPart : SinkState → SinkState → List ℕ → Type 0
SendsPart old new text = AddsFront old new text × Rose old.faults new.faults

-- sending a text: all of it, or a part
pub record Sends (old new : SinkState) (text : List ℕ) (result : Result (Unit {0}) SinkFailed) : Type 0 where
  pub grows : old.faults ≤ new.faults
  pub ok : OnOk result (SendsWhole old new text)
  pub err : OnErr result (SendsPart old new text)

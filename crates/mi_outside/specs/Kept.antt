-- What files and a sink in memory keep, and what a call makes of it.
use Rattle.std.specs.Prelude.{ℕ, ◌-◌, ◌==◌, ◌||◌, ◌&&◌, List, ◌++◌, length, take, min, Bool, nat_lt, nat_le, is_none, if◌then◌else◌, Some}
use Rattle.std.specs.List.{list_any}
use Rattle.mi_outside.specs.Contents.{content_of}
use Rattle.mi_outside.specs.Outside.{raised_count}
use Rattle.mi_outside.specs.States.{FilesState, SinkState}

-- files: the contents by name, the numbers of the calls that fail, and how many calls and faults there were
pub record KeptFiles : Type 0 where
  pub files : List (List ℕ × List ℕ)
  pub fails : List ℕ
  pub calls : ℕ
  pub faults : ℕ

-- how they stand for a caller
abbrev pub files_state : KeptFiles → FilesState
files_state kept = record { content = content_of kept.files; faults = kept.faults }

-- the next read fails: its number is listed, or the name has no content
abbrev pub read_fails : KeptFiles → List ℕ → Bool
read_fails kept name = list_any (λ k. k == raised_count kept.calls) kept.fails || is_none (content_of kept.files name)

-- what is kept after a read of the name
abbrev pub after_read : KeptFiles → List ℕ → KeptFiles
after_read kept name = record kept {
  calls = raised_count kept.calls;
  faults = if read_fails kept name then raised_count kept.faults else kept.faults;
}

-- a sink: the bytes it took, how many it takes at most a call and in all, the numbers of the calls that fail, and how many calls and faults there were
pub record KeptBytes : Type 0 where
  pub bytes : List ℕ
  pub most : ℕ
  pub room : ℕ
  pub fails : List ℕ
  pub calls : ℕ
  pub faults : ℕ

-- how it stands for a caller
abbrev pub sink_state : KeptBytes → SinkState
sink_state kept = record { written = Some kept.bytes; faults = kept.faults }

-- the next write fails: its number is listed, or no room is left for a piece that isn't empty
abbrev pub write_fails : KeptBytes → List ℕ → Bool
write_fails kept piece = list_any (λ k. k == raised_count kept.calls) kept.fails || (nat_le kept.room (length kept.bytes) && nat_lt 0 (length piece))

-- how many bytes of a piece are taken: at most so many a call, and as there is room
abbrev pub taken_of : KeptBytes → List ℕ → ℕ
taken_of kept piece = min kept.most (min (kept.room - length kept.bytes) (length piece))

-- what is kept after a write of the piece
abbrev pub after_write : KeptBytes → List ℕ → KeptBytes
after_write kept piece = record kept {
  bytes = if write_fails kept piece then kept.bytes else kept.bytes ++ take (taken_of kept piece) piece;
  calls = raised_count kept.calls;
  faults = if write_fails kept piece then raised_count kept.faults else kept.faults;
}

-- How files and a sink stand between two calls.
use Rattle.std.specs.Prelude.{ℕ, List, Option}

-- files: what the file of a name holds, where it is told, and how often reading failed so far, kept as a u64
pub record FilesState : Type 0 where
  pub content : List ℕ → Option (List ℕ)
  pub faults : ℕ

-- a sink: what went out so far, where it is told, and how often writing failed so far, kept as a u64
pub record SinkState : Type 0 where
  pub written : Option (List ℕ)
  pub faults : ℕ

-- What a folder shows of a file.
use Rattle.std.specs.Prelude.{ℕ, List, string_bytes}
use Rattle.mi_outside.specs.declared.folder.Held.{Held}

-- its name and its content
abbrev pub file_of : Held → List ℕ × List ℕ
file_of file = (string_bytes file.name, file.content.items)

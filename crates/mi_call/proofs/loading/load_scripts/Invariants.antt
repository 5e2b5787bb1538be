use Rattle.std.proofs.Common.{◌≡◌, length, map, take}
use Rattle.std.specs.String.{string_bytes}
use Rattle.mi_call.proofs.ScriptsLemmas.{Front}
use Rattle.mi_call.proofs.loading.load_scripts.Given as goal

-- the scripts of the names so far were read
abbrev pub invariant-loop-name : goal.invariant-loop-name
invariant-loop-name g l = record {
  so_far : Front l.settings l.first (g.F.Files.state l.fn.files) (g.F.Files.state l.files) (map string_bytes (take l.name-index l.names)) l.scripts;
  count : length l.scripts ≡ l.name-index;
}

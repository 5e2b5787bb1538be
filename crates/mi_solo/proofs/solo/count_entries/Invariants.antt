use Rattle.std.proofs.Common.{◌≡◌, ◌≤◌, ◌+◌, ◌*◌, drop}
use Rattle.mi_core.specs.Counted.{total}
use Rattle.mi_solo.specs.Solos.{entries_on}
use Rattle.mi_solo.proofs.solo.count_entries.Given as goal

abbrev pub invariant-loop-page : goal.invariant-loop-page
invariant-loop-page l = record {
  told : l.count + total entries_on (drop l.page-index l.pages) ≡ total entries_on l.fn.pages;
  few : l.count ≤ 32 * l.page-index;
}

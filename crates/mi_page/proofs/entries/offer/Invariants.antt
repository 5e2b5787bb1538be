use Rattle.std.proofs.Common.{◌+◌, ◌≤◌, length, map, take}
use Rattle.mi_key.specs.Entries.{offering_of}
use Rattle.mi_page.specs.Entries.{shown_in}
use Rattle.mi_page.proofs.entries.offer.Given as goal

abbrev pub invariant-loop-entry : goal.invariant-loop-entry
invariant-loop-entry g l = record {
  offered : g.S.Sieve.offered l.fn.sieve (map offering_of (shown_in l.range l.updates (take l.entry-index l.entries))) l.sieve;
  used : g.S.Sieve.spare l.fn.sieve ≤ g.S.Sieve.spare l.sieve + length (shown_in l.range l.updates (take l.entry-index l.entries));
  few : length (shown_in l.range l.updates (take l.entry-index l.entries)) ≤ l.entry-index;
}

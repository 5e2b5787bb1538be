use Rattle.std.proofs.Common.{sym, ◌∙◌, ◌&&◌, take, map}
use Rattle.mi_key.specs.Entries.{offering_of}
use Rattle.mi_key.specs.Ranges.{is_within}
use Rattle.mi_page.specs.Entries.{is_shown, shown_in}
use Rattle.mi_page.proofs.ShownLemmas.{taken_at, both}
use Rattle.mi_page.proofs.entries.offer.Goals as goal

pub offer-requires-clause-taken : goal.offer-requires-clause-taken
offer-requires-clause-taken g c =
    let range = c.args.range.now in
    g.met.S.Sieve.takes_on c.args.sieve.now c.loop-entry.sieve (map offering_of (shown_in range c.args.updates (take c.loop-entry.entry-index c.args.entries.now))) c.entry-item.result c.loop-entry.invariant.offered
    (taken_at (g.S.Sieve.takes c.args.sieve.now) (λ e. is_within range e.key && is_shown c.args.updates e) c.args.entries.now c.loop-entry.entry-index c.entry-item.result c.loop-entry-test.true c.entry-item.is
    (both _ _ (sym c.has.ensures ∙ c.if-has.true) (sym c.is_shown.ensures ∙ c.if-is_shown.true)) c.requires.takes)

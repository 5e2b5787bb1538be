use Rattle.std.proofs.Common.{◌||◌, length, sym, ap, ◌∙◌, subst}
use Rattle.mi_legal.specs.Want.{has_memory}
use Rattle.mi_replay.specs.Outcomes.{lacks_page}
use Rattle.mi_settle.specs.Settling.{Settles}
use Rattle.mi_settle.specs.Turns.{ComesTo}
use Rattle.mi_replay.proofs.OutcomeLemmas.{all_going, at_rest, short_parted}
use Rattle.mi_settle.proofs.ComingLemmas.{comes}
use Rattle.mi_replay.proofs.outcomes.outcome.Goals as goal

pub settle-settled-requires : goal.settle-settled-requires
settle-settled-requires c =
    let scripts = c.args.scripts.now in
    let t = c.args.table in
    let s = t.solo.state in
    let n = length scripts in
    let m = c.turn_to.new.self.state in
    let came : ComesTo s n m = comes s n m c.requires.waits.splitter.may c.turn_to.ensures.seen in
    record { rest = at_rest scripts s t.seats.items t.splitter c.requires.waits m c.requires.over.0 c.requires.over.1 came }

pub lacks_page-requires-clause-all : goal.lacks_page-requires-clause-all
lacks_page-requires-clause-all c =
    let scripts = c.args.scripts.now in
    let t = c.args.table in
    let s = t.solo.state in
    let n = length scripts in
    let m = c.turn_to.new.self.state in
    let came : ComesTo s n m = comes s n m c.requires.waits.splitter.may c.turn_to.ensures.seen in
    let settles : Settles n m c.settle-settled.result c.settle-settled.new.solo.state =
    subst (λ a. Settles a m c.settle-settled.result c.settle-settled.new.solo.state) c.turn_to.ensures.turn c.settle-settled.ensures.settles in
    sym (all_going scripts s t.seats.items t.splitter c.requires.waits m c.settle-settled.result c.settle-settled.new.solo.state came settles).0

pub lacks_page-requires-clause-going : goal.lacks_page-requires-clause-going
lacks_page-requires-clause-going c =
    let scripts = c.args.scripts.now in
    let t = c.args.table in
    let s = t.solo.state in
    let n = length scripts in
    let m = c.turn_to.new.self.state in
    let came : ComesTo s n m = comes s n m c.requires.waits.splitter.may c.turn_to.ensures.seen in
    let settles : Settles n m c.settle-settled.result c.settle-settled.new.solo.state =
    subst (λ a. Settles a m c.settle-settled.result c.settle-settled.new.solo.state) c.turn_to.ensures.turn c.settle-settled.ensures.settles in
    (all_going scripts s t.seats.items t.splitter c.requires.waits m c.settle-settled.result c.settle-settled.new.solo.state came settles).1

pub returns : goal.returns
returns c =
    let scripts = c.args.scripts.now in
    let t = c.args.table in
    let s = t.solo.state in
    let n = length scripts in
    let m = c.turn_to.new.self.state in
    let came : ComesTo s n m = comes s n m c.requires.waits.splitter.may c.turn_to.ensures.seen in
    let settles : Settles n m c.settle-settled.result c.settle-settled.new.solo.state =
    subst (λ a. Settles a m c.settle-settled.result c.settle-settled.new.solo.state) c.turn_to.ensures.turn c.settle-settled.ensures.settles in
    record {
      before = m;
      comes = came;
      result = c.settle-settled.result;
      last = c.settle-settled.new.solo.state;
      settles = settles;
      core = record {
        log_is = c.in_ok-outcome.ensures.core.log_is;
        cells_are = c.in_ok-outcome.ensures.core.cells_are;
        entries_are = c.in_ok-outcome.ensures.core.entries_are;
        allotted_is = c.in_ok-outcome.ensures.core.allotted_is;
      };
      limit_is = c.in_ok-outcome.ensures.limit_is;
      replies_are = c.in_ok-outcome.ensures.replies_are ∙ c.in_ok-replies.ensures;
      short_is = ap (λ b. b || c.lacks_page.result) c.in_ok-outcome.ensures.short_is
          ∙ short_parted (has_memory c.in_ok-replies.replies) c.lacks_page.result c.lacks_split-unsettled.result
          ∙ ap (λ ys. has_memory ys || (c.lacks_page.result || c.lacks_split-unsettled.result)) (sym c.in_ok-outcome.ensures.replies_are)
          ∙ ap (λ b. has_memory c.in_ok-outcome.outcome.replies || (b || c.lacks_split-unsettled.result)) c.lacks_page.ensures.result
          ∙ ap (λ b. has_memory c.in_ok-outcome.outcome.replies || (lacks_page c.settle-settled.new.solo.state || b)) c.lacks_split-unsettled.ensures;
    }

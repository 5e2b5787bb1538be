use Rattle.std.proofs.Common.{◌≡◌, sym, ap, ◌∙◌, subst}
use Rattle.mi_base.specs.Configuration.{IsWithinLimits}
use Rattle.mi_hall.specs.Passes.{PassState, place_view}
use Rattle.mi_latch.specs.Views.{Sight}
use Rattle.test_threads.proofs.opening.seated.Goals as goal

pub new-requires-clause-limits : goal.new-requires-clause-limits
new-requires-clause-limits g c =
    let opened : (place_view c.args.pass).settings ≡ c.args.settings.now = ap (λ (s : Sight). s.mine.note.board.settings) c.requires.new in
    subst IsWithinLimits (c.settings.view_is ∙ sym (ap (λ (p : PassState). (place_view p).settings) c.place.ensures ∙ opened)) c.settings.invariant

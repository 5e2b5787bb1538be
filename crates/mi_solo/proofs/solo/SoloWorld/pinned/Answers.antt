use Rattle.std.proofs.Common.{◌∙◌, ap, subst, sym}
use Rattle.std.proofs.lemmas.Option.{none-some}
use Rattle.std.specs.Prelude.{IsSome}
use Rattle.mi_board.specs.Boards.{cells_in}
use Rattle.mi_entries.specs.Actors.{Actor}
use Rattle.mi_world.specs.Pages.{pinned}
use Rattle.mi_solo.specs.Solos.{SoloState, view_of}
use Rattle.mi_solo.specs.States.{actor_in, pin_of, state_of}
use Rattle.mi_solo.proofs.CoreLemmas.{row_is, some_of}
use Rattle.mi_solo.proofs.HandLemmas.{pin_shown}
use Rattle.mi_solo.proofs.PageAnswers.{pinned_is}
use Rattle.mi_solo.proofs.solo.SoloWorld.pinned.Goals as goal

pub unreachable-requires : goal.unreachable-requires
unreachable-requires c =
    let s = c.self.inside in
    let view_pin = subst (λ (t : SoloState). IsSome (view_of t).pin) (sym c.self.view_is) c.requires in
    let some = some_of (actor_in (state_of s.core) s.turn).pin (sym (pin_shown (state_of s.core) s.turn (actor_in (state_of s.core) s.turn)) ∙ view_pin) in
    none-some some.0 (sym (ap (λ (r : Actor). r.pin) (row_is s.core s.turn c.self.invariant.1.known c.index.result.now c.index.ensures) ∙ ap (pin_of s.core.board.settings) c.in_default.is) ∙ some.1)

pub returns : goal.returns
returns c =
    let s = c.self.inside in
    let view_pin = subst (λ (t : SoloState). IsSome (view_of t).pin) (sym c.self.view_is) c.requires in
    c.deref.ensures ∙ pinned_is s.core s.turn c.self.invariant.0 c.self.invariant.1.known c.index.result.now c.index.ensures view_pin c.in-Some.pin c.in-Some.is
    ∙ ap (λ (t : SoloState). cells_in (view_of t).settings (pinned (view_of t))) c.self.view_is

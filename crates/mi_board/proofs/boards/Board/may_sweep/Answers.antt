use Rattle.std.proofs.Common.{◌≡◌, ◌∙◌, sym, ap, subst, refl, length, nat_lt, take, ℕ, List, Some, is_some}
use Rattle.std.specs.List.{slice_get}
use Rattle.std.proofs.lemmas.Option.{slice_get_read}
use Rattle.mi_base.specs.History.{events_at}
use Rattle.mi_base.specs.declared.records.LogEvent.{LogEvent}
use Rattle.mi_board.specs.Boards.{BoardState, floor_of}
use Rattle.mi_board.specs.Floors.{earliest_in}
use Rattle.mi_board.proofs.RetiredLemmas.{first_due}
use Rattle.mi_board.proofs.boards.Board.may_sweep.Goals as goal

pub returns-in-Some : goal.returns-in-Some
returns-in-Some c =
    let b = c.self.inside in
    let leaf = c.in-Some.leaf.now in
    let s = c.args.self.now in
    let at = slice_get_read b.retired.items (length b.retired.items) 0 leaf refl c.in-Some.ensures.item.3.0 c.in-Some.ensures.lookup in
    let n = events_at (floor_of s) in
    let due = first_due b.events.items n b.retired.items leaf c.self.invariant.retired_are at in
    ap (λ (m : ℕ). nat_lt m c.events_at.result) c.from.ensures ∙ ap (nat_lt leaf.event) (c.events_at.ensures ∙ ap events_at c.floor.ensures) ∙ sym due
    ∙ ap (λ (rs : List (List ℕ)). is_some (earliest_in (take n b.events.items) rs)) (ap (λ (x : BoardState). x.retired) c.self.view_is)
    ∙ ap (λ (l : List LogEvent). is_some (earliest_in (take n l) s.retired)) (ap (λ (x : BoardState). x.log) c.self.view_is)

use Rattle.std.proofs.Common.{◌∙◌, None, Some, arith, length-set, refl, set, subst, sym}
use Rattle.std.specs.Prelude.{IsSome}
use Rattle.mi_core.proofs.NamedLemmas.{few_levels}
use Rattle.mi_solo.specs.PageRows.{HalvesRow}
use Rattle.mi_solo.specs.States.{actor_in, actors_of, state_of}
use Rattle.mi_solo.proofs.CoreLemmas.{some_of}
use Rattle.mi_solo.proofs.PageLemmas.{page_here}
use Rattle.mi_solo.proofs.PageTurns.{on_page}
use Rattle.mi_solo.proofs.RouteEvents.{not_higher}
use Rattle.mi_solo.proofs.RouteSections.{fresh_is, has_fresh, has_place}
use Rattle.mi_solo.proofs.cores.Core.split_page.Goals as goal

pub unreachable-requires-in_default-fresh_number : goal.unreachable-requires-in_default-fresh_number
unreachable-requires-in_default-fresh_number c =
    let s = c.args.self.now in
    let some = some_of (actor_in (state_of s) c.args.actor).fresh c.requires.fresh in
    c.in_default-fresh_number.not-Some some.0
    (c.fresh_number.ensures ∙ sym (fresh_is s c.args.actor c.requires.going.known c.requires.kept c.index_mut-me.result.now c.index_mut-me.ensures.value) ∙ some.1)

pub halve_row-requires-clause-fresh : goal.halve_row-requires-clause-fresh
halve_row-requires-clause-fresh c = subst IsSome (sym c.in-Some-fresh_number.is ∙ c.fresh_number.ensures) refl

pub halve_row-requires-clause-level : goal.halve_row-requires-clause-level
halve_row-requires-clause-level c =
    let s = c.args.self.now in
    let here = page_here s c.args.page c.requires.linked c.index_mut.result.now c.index_mut.ensures.value c.in-Some.node c.in-Some.is in
    let low = not_higher (state_of s) c.requires.kept c.args.page c.in-Some.node here in
    let few = few_levels (state_of s) c.requires.kept.sound in
    omega (arith, low, few)

pub link-requires : goal.link-requires
link-requires c =
    let s = c.args.self.now in
    let place = has_place s c.args.actor c.requires.going.known c.requires.kept c.index_mut-me.result.now c.index_mut-me.ensures.value c.in-Some-fresh_number.child (sym c.in-Some-fresh_number.is ∙ c.fresh_number.ensures) in
    omega (arith, place, length-set s.pages.items c.args.page (Some c.halve_row.new.node))

pub returns-in_default-halve_row : goal.returns-in_default-halve_row
returns-in_default-halve_row c =
    on_page c.args.self.now c.args.actor c.requires.going.known c.index_mut-me.result.now c.index_mut-me.ensures.value c.args.page c.requires.linked c.index_mut.result.now c.index_mut.ensures.value c.in-Some.node c.in-Some.is
    (HalvesRow c.args.page None) c.halve_row.new.node c.halve_row.new.row
    (subst (λ o. HalvesRow c.args.page o c.in-Some.node c.index_mut-me.result.now c.halve_row.new.node c.halve_row.new.row) c.in_default-halve_row.is c.halve_row.ensures)

pub returns : goal.returns
returns c =
    let s = c.args.self.now in
    let a = c.args.actor in
    let row = c.index_mut-me.result.now in
    record {
      upper = c.in-Some-halve_row.upper;
      between = record { board = s.board; shards = s.shards.items; pages = set s.pages.items c.args.page (Some c.halve_row.new.node); actors = actors_of s.board.settings s.board.log 0 (set s.actors.items a c.halve_row.new.row) };
      halved = on_page s a c.requires.going.known row c.index_mut-me.ensures.value c.args.page c.requires.linked c.index_mut.result.now c.index_mut.ensures.value c.in-Some.node c.in-Some.is
          (HalvesRow c.args.page (Some c.in-Some-halve_row.upper)) c.halve_row.new.node c.halve_row.new.row
          (subst (λ o. HalvesRow c.args.page o c.in-Some.node row c.halve_row.new.node c.halve_row.new.row) c.in-Some-halve_row.is c.halve_row.ensures);
      fresh = has_fresh s a c.requires.going.known c.requires.kept row c.index_mut-me.ensures.value c.in-Some-fresh_number.child (sym c.in-Some-fresh_number.is ∙ c.fresh_number.ensures);
      low = c.low-key.ensures;
      is = c.link.ensures;
    }

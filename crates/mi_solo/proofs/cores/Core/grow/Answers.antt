use Rattle.std.proofs.Common.{◌∙◌, ap, refl, subst, sym}
use Rattle.mi_board.specs.Boards.{Grows}
use Rattle.mi_core.specs.Effects.{saw}
use Rattle.mi_core.specs.Events.Event.{grow}
use Rattle.mi_page.specs.Nodes.{root_node}
use Rattle.mi_tree.specs.declared.answers.Look.{Look}
use Rattle.mi_solo.specs.States.{Does, actor_in, actor_of, state_of}
use Rattle.mi_solo.proofs.CoreLemmas.{comes_to, log_of, some_of}
use Rattle.mi_solo.proofs.RouteEvents.{can_grow, grown_already}
use Rattle.mi_solo.proofs.RouteSections.{fresh_is, has_fresh, has_place, root_is_grown}
use Rattle.mi_solo.proofs.cores.Core.grow.Goals as goal

pub unreachable-requires : goal.unreachable-requires
unreachable-requires c =
    let s = c.args.self.now in
    let some = some_of (actor_in (state_of s) c.args.actor).fresh c.requires.fresh in
    c.in_default.not-Some some.0 (c.fresh_number.ensures ∙ sym (fresh_is s c.args.actor c.requires.going.known c.requires.kept c.index_mut-me.result.now c.index_mut-me.ensures.value) ∙ some.1)

pub returns-then-not-grow : goal.returns-then-not-grow
returns-then-not-grow c =
    let s = c.args.self.now in
    let a = c.args.actor in
    let told = subst (λ r. Grows s.board c.args.level c.in-Some.root r c.grow.new.self) c.if-not-grow.true c.grow.ensures in (
      record {
        can = grown_already (state_of s) a (actor_in (state_of s) a) c.args.level c.args.key c.args.child c.requires.route c.requires.kept told.0;
        is = comes_to s a c.requires.going.known c.index_mut-me.result.now c.index_mut-me.ensures.value c.grow.new.self s.board told.1 refl (λ m n. refl)
            s.shards.items s.shards.items refl s.pages.items s.pages.items refl c.see.new.self (saw s.board)
            (ap (actor_of s.board.settings s.board.log a) c.see.ensures ∙ log_of s.board.settings s.board.log c.grow.new.self s.board told.1 a (λ n. record c.index_mut-me.result.now { seen = n }));
      },
      told.0,
    )

pub link-requires : goal.link-requires
link-requires c =
    let s = c.args.self.now in
    has_place s c.args.actor c.requires.going.known c.requires.kept c.index_mut-me.result.now c.index_mut-me.ensures.value c.in-Some.root (sym c.in-Some.is ∙ c.fresh_number.ensures)

pub returns : goal.returns
returns c =
    let s = c.args.self.now in
    let a = c.args.actor in
    let told = subst (λ r. Grows s.board c.args.level c.in-Some.root r c.grow.new.self) c.if-not-grow.false c.grow.ensures in
    let in_hand = sym c.in-Some.is ∙ c.fresh_number.ensures in
    let fresh = has_fresh s a c.requires.going.known c.requires.kept c.index_mut-me.result.now c.index_mut-me.ensures.value c.in-Some.root in_hand in
    let can = can_grow (state_of s) a (actor_in (state_of s) a) c.args.level c.args.key c.args.child c.requires.route c.in-Some.root fresh told.0 in
    let root = c.raise-page.ensures.root ∙ ap (λ (l : Look). root_node c.args.level l.root c.args.key c.args.child) c.look-left.ensures in
    let does = root_is_grown s a c.requires.going.known c.requires.kept c.index_mut-me.result.now c.index_mut-me.ensures.value c.in-Some.root in_hand c.args.level c.args.key c.args.child can c.grow.new.self told.1
    c.raise-page.result root c.raise-page.new.self c.raise-page.ensures.hand c.see-2.new.self c.see-2.ensures in
    subst (Does (state_of s) a (grow c.args.level c.args.key c.args.child)) (sym c.link.ensures) does

use Rattle.std.proofs.Common.{◌∙◌, sym}
use Rattle.std.proofs.lemmas.Bool.{eqb-true}
use Rattle.std.proofs.lemmas.Option.{none-some}
use Rattle.mi_solo.specs.States.{actor_in, state_of}
use Rattle.mi_solo.proofs.CoreLemmas.{on_board, some_of, suits}
use Rattle.mi_solo.proofs.WorkSections.{given_back}
use Rattle.mi_solo.proofs.cores.Core.give_up.Goals as goal

pub give_up-requires-clause-known : goal.give_up-requires-clause-known
give_up-requires-clause-known c = on_board c.args.self.now c.args.actor c.requires.going.known c.requires.kept

pub give_up-requires-clause-claims : goal.give_up-requires-clause-claims
give_up-requires-clause-claims c e =
    let s = c.args.self.now in
    let some = some_of (actor_in (state_of s) c.args.actor).claim c.requires.claimed in
    none-some some.0 (sym e ∙ (suits s c.args.actor c.requires.going.known c.requires.kept).holds.claim ∙ some.1)

pub give_up-requires-clause-pages : goal.give_up-requires-clause-pages
give_up-requires-clause-pages c t = eqb-true c.args.self.now.board.allotted c.args.self.now.board.settings.pages (c.requires.told t)

pub returns : goal.returns
returns c = given_back c.args.self.now c.args.actor c.requires.going.known c.index_mut.result.now c.index_mut.ensures.value c.give_up.new.self c.end_split.new.self
    c.requires.kept c.args.pages c.requires.claimed c.requires.uncopied c.requires.told c.give_up.ensures c.end_split.ensures

use Rattle.std.proofs.Common.{None, refl, sym, ap, ◌∙◌}
use Rattle.std.proofs.lemmas.Option.{none-some}
use Rattle.mi_core.specs.Effects.{saw}
use Rattle.mi_entries.specs.Actors.{Actor}
use Rattle.mi_board.specs.Actors.{without_claim}
use Rattle.mi_board.specs.Boards.{with_actor}
use Rattle.mi_solo.specs.States.{actor_in, actor_of, state_of}
use Rattle.mi_solo.proofs.CoreLemmas.{comes_to, log_of, some_of, suits}
use Rattle.mi_solo.proofs.cores.Core.release_leaf.Goals as goal

pub release_leaf-requires-clause-claims : goal.release_leaf-requires-clause-claims
release_leaf-requires-clause-claims c e =
    let s = c.args.self.now in
    let r = actor_in (state_of s) c.args.actor in
    let some = some_of r.claim c.requires.claimed in
    none-some some.0 (sym e ∙ (suits s c.args.actor c.requires.going.known c.requires.kept).holds.claim ∙ some.1)

pub returns : goal.returns
returns c =
    let s = c.args.self.now in
    let a = c.args.actor in
    let some = some_of (actor_in (state_of s) a).claim c.requires.claimed in
    let to = with_actor without_claim a s.board in
    record {
      can = (some.0, some.1, c.requires.whole);
      is = comes_to s a c.requires.going.known c.index_mut.result.now c.index_mut.ensures.value c.release_leaf.new.self to c.release_leaf.ensures refl (λ m n. refl)
          s.shards.items s.shards.items refl s.pages.items s.pages.items refl c.leave_leaf.new.self (λ (r : Actor). record (saw s.board r) { claim = None })
          (ap (actor_of s.board.settings s.board.log a) c.leave_leaf.ensures ∙ log_of s.board.settings s.board.log c.release_leaf.new.self to c.release_leaf.ensures a (λ b. record c.index_mut.result.now { seen = b; claim = None }));
    }

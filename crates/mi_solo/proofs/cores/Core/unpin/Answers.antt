use Rattle.std.proofs.Common.{None, refl, sym, ap, ◌∙◌}
use Rattle.std.proofs.lemmas.Option.{none-some}
use Rattle.mi_board.specs.Actors.{without_pin}
use Rattle.mi_board.specs.Boards.{with_actor}
use Rattle.mi_core.specs.Actors.{pinned_at}
use Rattle.mi_core.specs.Effects.{saw}
use Rattle.mi_entries.specs.Actors.{Actor}
use Rattle.mi_solo.specs.States.{actor_in, actor_of, state_of}
use Rattle.mi_solo.proofs.CoreLemmas.{comes_to, log_of, some_of, suits}
use Rattle.mi_solo.proofs.cores.Core.unpin.Goals as goal

pub unpin-requires-clause-pins : goal.unpin-requires-clause-pins
unpin-requires-clause-pins c e =
    let s = c.args.self.now in
    let some = some_of (actor_in (state_of s) c.args.actor).pin c.requires.pinned in
    none-some some.0.at (sym e ∙ (suits s c.args.actor c.requires.going.known c.requires.kept).holds.pin ∙ ap pinned_at some.1)

pub returns : goal.returns
returns c =
    let s = c.args.self.now in
    let a = c.args.actor in
    let some = some_of (actor_in (state_of s) a).pin c.requires.pinned in
    let to = with_actor without_pin a s.board in
    record {
      can = (some.0, some.1);
      is = comes_to s a c.requires.going.known c.index_mut.result.now c.index_mut.ensures.value c.unpin.new.self to c.unpin.ensures refl (λ m n. refl)
          s.shards.items s.shards.items refl s.pages.items s.pages.items refl c.unpin-2.new.self (λ (r : Actor). record (saw s.board r) { pin = None })
          (ap (actor_of s.board.settings s.board.log a) c.unpin-2.ensures ∙ log_of s.board.settings s.board.log c.unpin.new.self to c.unpin.ensures a (λ n. record c.index_mut.result.now { seen = n; pin = None }));
    }

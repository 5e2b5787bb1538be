use Rattle.std.proofs.Common.{ap}
use Rattle.mi_core.specs.Effects.{saw}
use Rattle.mi_solo.specs.States.{actor_of}
use Rattle.mi_solo.proofs.CoreLemmas.{row_alone}
use Rattle.mi_solo.proofs.cores.Core.see.Goals as goal

pub returns : goal.returns
returns c =
    let s = c.args.self.now in
    record {
      can = tt;
      is = row_alone s c.args.actor c.requires.known c.index_mut.result.now c.index_mut.ensures.value c.see.new.self (saw s.board) (ap (actor_of s.board.settings s.board.log c.args.actor) c.see.ensures);
    }

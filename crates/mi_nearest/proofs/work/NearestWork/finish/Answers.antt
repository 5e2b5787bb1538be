use Rattle.std.proofs.Common.{ap, ◌∙◌}
use Rattle.mi_base.specs.declared.records.Reply.TheVariants as reply
use Rattle.mi_base.proofs.HistoryLemmas.{sorted_rows}
use Rattle.mi_nearest.proofs.work.NearestWork.finish.Goals as goal

pub returns : goal.returns
returns c =
    let out = c.into_sorted_vec.ensures in
    ap (λ rows. reply.Nearest c.args.at rows c.args.cells)
    (c.from_vec-rows.ensures ∙ sorted_rows c.self.inside.rows.data.items c.into_sorted_vec.result.items out.permutation (out.sorted c.self.invariant.0) ∙ ap (λ w. w.rows) c.self.view_is)

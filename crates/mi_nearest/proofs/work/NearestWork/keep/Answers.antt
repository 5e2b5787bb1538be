use Rattle.std.proofs.Common.{◌≤◌, ◌<◌, ap, ◌∙◌, take, length, arith}
use Rattle.mi_base.specs.History.{row_cmp}
use Rattle.mi_base.specs.Sorting.{put}
use Rattle.mi_nearest.proofs.HeapLemmas.{kept_all, kept_popped}
use Rattle.mi_nearest.proofs.work.NearestWork.keep.Goals as goal

pub returns-else-len-self-clause-rows : goal.returns-else-len-self-clause-rows
returns-else-len-self-clause-rows c =
    let items = c.self.inside.rows.data.items in
    let pushed = c.push.new.self.data.items in
    let few : length pushed ≤ c.self.inside.count = omega (arith, c.len.ensures, c.push.new.self.data.ok) in
    kept_all items pushed c.args.row c.self.inside.count c.in-Ok.ensures.permutation few ∙ ap (λ w. take w.count (put row_cmp c.args.row w.rows)) c.self.view_is

pub returns-then-len-self-clause-rows : goal.returns-then-len-self-clause-rows
returns-then-len-self-clause-rows c =
    let items = c.self.inside.rows.data.items in
    let pushed = c.push.new.self.data.items in
    let rest = c.pop.new.self.data.items in
    let p = c.pop.ensures in
    let many : c.self.inside.count < length pushed = omega (arith, c.len.ensures, c.push.new.self.data.ok) in
    kept_popped items pushed rest c.args.row c.self.inside.count c.push.new.self.data.len c.pop.result c.in-Ok.ensures.permutation (c.in-Ok.ensures.heap_order c.self.invariant.0) c.self.invariant.1 many
    p.none c.push.new.self.data.ok.0 p.permutation p.below_top
    ∙ ap (λ w. take w.count (put row_cmp c.args.row w.rows)) c.self.view_is

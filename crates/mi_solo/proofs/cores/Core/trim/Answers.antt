use Rattle.std.proofs.Common.{◌∙◌, ap, sym}
use Rattle.mi_page.specs.Nodes.{Node}
use Rattle.mi_solo.specs.PageRows.{TrimsRow}
use Rattle.mi_solo.specs.States.{state_of}
use Rattle.mi_solo.proofs.DescentLemmas.{has_sibling}
use Rattle.mi_solo.proofs.PageLemmas.{node_here, page_here}
use Rattle.mi_solo.proofs.PageTurns.{on_page}
use Rattle.mi_solo.proofs.cores.Core.trim.Goals as goal

pub trim_row-requires-clause-leaf : goal.trim_row-requires-clause-leaf
trim_row-requires-clause-leaf c = ap (λ (n : Node). n.level) (sym (node_here c.args.self.now c.args.page c.requires.linked c.index_mut.result.now c.index_mut.ensures.value c.in-Some.node c.in-Some.is)) ∙ c.requires.leaf

pub trim_row-requires-clause-sibling : goal.trim_row-requires-clause-sibling
trim_row-requires-clause-sibling c =
    let s = c.args.self.now in
    has_sibling (state_of s) c.requires.kept c.args.page c.in-Some.node (page_here s c.args.page c.requires.linked c.index_mut.result.now c.index_mut.ensures.value c.in-Some.node c.in-Some.is)

pub returns : goal.returns
returns c = on_page c.args.self.now c.args.actor c.requires.going.known c.index_mut-me.result.now c.index_mut-me.ensures.value c.args.page c.requires.linked c.index_mut.result.now c.index_mut.ensures.value c.in-Some.node c.in-Some.is
    (TrimsRow c.args.page c.trim_row.result) c.trim_row.new.node c.trim_row.new.row c.trim_row.ensures

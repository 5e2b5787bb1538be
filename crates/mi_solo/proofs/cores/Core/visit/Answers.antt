use Rattle.std.proofs.Common.{◌∙◌, ◌&&◌, ap, sym, subst}
use Rattle.std.proofs.lemmas.Option.{none-some}
use Rattle.mi_core.specs.Effects.{noted}
use Rattle.mi_entries.specs.Actors.{Actor}
use Rattle.mi_key.specs.declared.entries.Entry.{Entry}
use Rattle.mi_page.specs.Entries.{is_shown}
use Rattle.mi_key.specs.Ranges.{is_within}
use Rattle.mi_solo.specs.Sections.{updates_pinned}
use Rattle.mi_solo.specs.Seeking.{AnswersVisit, IsMeasured, offered_of}
use Rattle.mi_solo.specs.States.{actor_in, actor_of, pin_of, state_of}
use Rattle.mi_solo.proofs.CoreLemmas.{pin_is, row_alone, row_is, some_of}
use Rattle.mi_solo.proofs.DescentLemmas.{has_sibling}
use Rattle.mi_solo.proofs.PageLemmas.{all_follow, node_here, page_here}
use Rattle.mi_solo.proofs.ReaderLemmas.{measured_page}
use Rattle.mi_solo.proofs.cores.Core.visit.Goals as goal

pub unreachable-requires-in_default-pin : goal.unreachable-requires-in_default-pin
unreachable-requires-in_default-pin g c =
    let s = c.args.self.now in
    let some = some_of (actor_in (state_of s) c.args.actor).pin c.requires.pin in
    none-some some.0 (sym (ap (λ (r : Actor). r.pin) (row_is s c.args.actor c.requires.going.known c.index-2.result.now c.index-2.ensures) ∙ ap (pin_of s.board.settings) c.in_default-pin.is) ∙ some.1)

pub visit_page-answer-requires-clause-sibling : goal.visit_page-answer-requires-clause-sibling
visit_page-answer-requires-clause-sibling g c =
    has_sibling (state_of c.args.self.now) c.requires.kept c.args.page c.in-Some.node (page_here c.args.self.now c.args.page c.requires.linked c.index.result.now c.index.ensures c.in-Some.node c.in-Some.is)

pub visit_page-answer-requires-clause-takes : goal.visit_page-answer-requires-clause-takes
visit_page-answer-requires-clause-takes g c leaf =
    let measured = measured_page (state_of c.args.self.now) c.requires.kept c.args.page c.in-Some.node (page_here c.args.self.now c.args.page c.requires.linked c.index.result.now c.index.ensures c.in-Some.node c.in-Some.is) leaf in
    all_follow (IsMeasured c.args.self.now.board.settings) (g.S.Sieve.takes c.args.sieve.now) c.requires.takes (λ (e : Entry). is_within c.args.range.now e.key && is_shown c.in-Some-pin.pin.at.updates e) c.in-Some.node.entries measured

pub returns-clause-told : goal.returns-clause-told
returns-clause-told g c =
    let s = c.args.self.now in
    let a = c.args.actor in
    let here = page_here s c.args.page c.requires.linked c.index.result.now c.index.ensures c.in-Some.node c.in-Some.is in
    record {
      does = record {
        can = (c.in-Some.node, here);
        is = row_alone s a c.requires.going.known c.index_mut.result.now c.index_mut.ensures.value c.note.new.self (noted c.args.page) (ap (actor_of s.board.settings s.board.log a) c.note.ensures);
      };
      answer = subst (λ n. AnswersVisit n c.args.range.now c.visit_page-answer.result) (sym (node_here s c.args.page c.requires.linked c.index.result.now c.index.ensures c.in-Some.node c.in-Some.is)) c.visit_page-answer.ensures.told;
    }

pub returns-clause-offered : goal.returns-clause-offered
returns-clause-offered g c =
    let s = c.args.self.now in
    let node_is = node_here s c.args.page c.requires.linked c.index.result.now c.index.ensures c.in-Some.node c.in-Some.is in
    let pin = pin_is s c.args.actor c.requires.going.known c.index-2.result.now c.index-2.ensures c.requires.pin c.in-Some-pin.pin c.in-Some-pin.is in
    let count = ap updates_pinned pin.1 in
    subst (λ n. g.S.Sieve.offered c.args.sieve.now (offered_of n c.args.range.now (updates_pinned (actor_in (state_of s) c.args.actor).pin) c.visit_page-answer.result) c.visit_page-answer.new.sieve) (sym node_is)
    (subst (λ u. g.S.Sieve.offered c.args.sieve.now (offered_of c.in-Some.node c.args.range.now u c.visit_page-answer.result) c.visit_page-answer.new.sieve) (sym count) c.visit_page-answer.ensures.offered)

use Rattle.std.proofs.Common.{◌≡◌, ◌+◌, ◌≤◌, List, [], ◌∷◌, ◌++◌, length, refl, sym, ap, ◌∙◌, subst, arith, length-append}
use Rattle.std.specs.Prelude.{Some, slice_get, take, vec_capacity}
use Rattle.std.specs.List.{AllByRecursion}
use Rattle.std.proofs.lemmas.List.{length-take-le}
use Rattle.std.proofs.lemmas.Option.{slice_get_read, slice_get_within}
use Rattle.mi_base.specs.declared.records.Op.{Op}
use Rattle.mi_base.specs.Configuration.{Configuration, metric_space}
use Rattle.mi_base.specs.Scripts.{IsOpOver}
use Rattle.mi_base.specs.Space.{MetricSpace}
use Rattle.mi_hall.specs.Passes.{place_view}
use Rattle.mi_tree.proofs.ListLemmas.{all_get}
use Rattle.mi_session.specs.Scripts.{AnswersAll}
use Rattle.mi_session.specs.Sessions.{Answers}
use Rattle.mi_session.proofs.ScriptLemmas.{all_later, answers_more}
use Rattle.mi_tree.proofs.SumLemmas.{taken_more}
use Rattle.mi_run.proofs.workers.serve.Goals as goal

pub drive-reply-requires-clause-fits : goal.drive-reply-requires-clause-fits
drive-reply-requires-clause-fits g c =
    let l = c.loop-op in
    let ops = c.as_slice-ops.result.now in
    let o = c.op-item.result in
    let at : slice_get ops l.op-index ≡ Some o = slice_get_read ops (length ops) l.op-index o refl c.loop-op-test.true c.op-item.is in
    let v = place_view c.args.place in
    let later = all_later 1 v (take l.op-index ops) l.replies.items (place_view l.session.world) l.invariant.answers in
    λ κs outlives. subst (λ (m : MetricSpace). IsOpOver m o) (c.requires.seated.space_is ∙ ap metric_space (sym later.settings)) (all_get (IsOpOver (g.M.Metric.space c.args.metric.now)) ops l.op-index o (subst (AllByRecursion (IsOpOver (g.M.Metric.space c.args.metric.now))) (sym c.as_slice-ops.ensures) c.requires.fits.each) at)

pub loop-op-preserved : goal.loop-op-preserved
loop-op-preserved g c =
    let l = c.loop-op in
    let ops = c.as_slice-ops.result.now in
    let i = l.op-index in
    let o = c.op-item.result in
    let at : slice_get ops i ≡ Some o = slice_get_read ops (length ops) i o refl c.loop-op-test.true c.op-item.is in
    let v = place_view c.args.place in
    let w = place_view l.session.world in
    let u = place_view c.drive-reply.new.self.world in
    let y = c.drive-reply.result in
    let number : l.session.operations + 1 ≡ 1 + length (take i ops) = omega (arith, l.invariant.operations, length-take-le i ops (omega (arith, slice_get_within ops i o at))) in
    let answer : Answers o (1 + length (take i ops)) w y u = subst (λ n. Answers o n w y u) number c.drive-reply.ensures.answers in
    let more = answers_more 1 v (take i ops) l.replies.items w o y u l.invariant.answers answer in
    let pushed = c.push_reserved.ensures.items in
    record {
      answers = subst (λ ys. AnswersAll 1 v (take (i + 1) ops) ys u) (sym pushed) (subst (λ os. AnswersAll 1 v os (l.replies.items ++ y ∷ []) u) (sym (taken_more ops i o at)) more);
      count = ap length pushed ∙ length-append l.replies.items (y ∷ []) ∙ ap (λ n. n + 1) l.invariant.count;
      operations = c.drive-reply.ensures.operations ∙ ap (λ n. n + 1) l.invariant.operations;
      room = omega (arith, l.invariant.room, c.push_reserved.ensures.capacity);
      table = sym c.drive-reply.ensures.kin ∙ l.invariant.table;
    }

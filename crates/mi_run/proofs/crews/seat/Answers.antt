use Rattle.std.proofs.Common.{◌≡◌, ◌++◌, ◌∷◌, ◌+◌, [], false, List, Some, length, refl, sym, ap, ◌∙◌, subst, arith}
use Rattle.std.specs.Prelude.{slice_get, take}
use Rattle.std.proofs.lemmas.List.{take_all}
use Rattle.std.proofs.lemmas.Option.{slice_get_read}
use Rattle.mi_hall.specs.Passes.{place_view}
use Rattle.mi_run.specs.declared.workers.Task.TheVariants.{Tend}
use Rattle.mi_run.specs.declared.workers.Worker.{Worker}
use Rattle.mi_run.specs.Crews.{AreToServe, HasMade, IsCrew}
use Rattle.mi_run.proofs.CrewLemmas.{crew_of, made_more, serve_more}
use Rattle.mi_run.proofs.crews.seat.Goals as goal

pub loop-other-preserved : goal.loop-other-preserved
loop-other-preserved g c =
    let l = c.loop-other in
    let others = c.in-Some.others.now in
    let s = c.other-item.result in
    let i = l.other-index in
    let at : slice_get others i ≡ Some s = slice_get_read others (length others) i s refl c.loop-other-test.true c.other-item.is in
    let w = c.in_ok-client.field-0 in
    let settings = (place_view c.args.first).settings in
    let made = made_more settings c.args.first.table l.first c.fork.new.self c.in_ok-fork.field-0 l.workers.items w l.invariant.made c.in_ok-fork.ensures.ok c.in_ok-fork.ensures.section
    c.in_ok-fork.ensures.kin c.in_ok-client.ensures.place in
    record {
      made = subst (HasMade settings c.args.first.table c.fork.new.self) (sym c.in_ok-push.ensures.items) made;
      serve = subst (AreToServe (take (i + 1) others)) (sym c.in_ok-push.ensures.items) (serve_more others i s l.workers.items w at l.invariant.serve c.in_ok-client.ensures.task);
    }

pub returns : goal.returns
returns g c =
    let l = c.loop-other in
    let script = c.in-Some.script.now in
    let others = c.in-Some.others.now in
    let settings = (place_view c.args.first).settings in
    let t = c.args.first.table in
    let tender : Worker g.row.R.Denot = record { place = Some c.in_ok-fork-2.field-0; task = Tend false } in
    let client = c.in_ok-client-2.field-0 in
    let made = made_more settings t l.first c.fork-2.new.self c.in_ok-fork-2.field-0 l.workers.items tender l.invariant.made c.in_ok-fork-2.ensures.ok c.in_ok-fork-2.ensures.section
    c.in_ok-fork-2.ensures.kin refl in
    let all : take l.other-index others ≡ others = take_all l.other-index others (omega (arith, c.loop-other-test.false, l.auto.other-index-end)) in
    let serve = subst (λ ss. AreToServe ss l.workers.items) all l.invariant.serve in
    let items = c.in_ok-insert.ensures.items ∙ ap (λ ws. client ∷ ws) c.in_ok-push-2.ensures.items in
    subst (λ ss. IsCrew settings t ss c.insert.new.self.items) (sym c.in-Some.ensures.cases.0)
    (crew_of settings t script others c.fork-2.new.self client tender l.workers.items c.insert.new.self.items made c.in_ok-client-2.ensures.place c.in_ok-client-2.ensures.task serve tt items)

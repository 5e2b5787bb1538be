use Rattle.std.proofs.Common.{◌≡◌, ◌++◌, Some, drop, length, refl, sym, take, ap, ◌∙◌, subst}
use Rattle.std.proofs.lemmas.List.{take_at}
use Rattle.std.specs.List.{AllByRecursion}
use Rattle.std.proofs.lemmas.Result.{IfOk-weaker}
use Rattle.mi_hall.specs.Passes.{PassState, place_view}
use Rattle.mi_run.specs.Crews.{HaveWorked, IsCrew, IsDone, IsGathered, IsNew, first_place}
use Rattle.mi_run.specs.Workers.{HasWorked, MayWork}
use Rattle.mi_run.proofs.CrewLemmas.{zip_length}
use Rattle.mi_run.proofs.GatherLemmas.{crew_may, gathered_from}
use Rattle.mi_run.proofs.running.in_hall.Goals as goal

pub place-requires : goal.place-requires
place-requires g c = c.requires.table

pub seat-requires-clause-new : goal.seat-requires-clause-new
seat-requires-clause-new g c = subst (λ (p : PassState). IsNew (place_view p).settings (place_view p)) (sym c.place.ensures) c.requires.new

pub seat-requires-clause-zero : goal.seat-requires-clause-zero
seat-requires-clause-zero g c = ap (λ p. (place_view p).actor) c.place.ensures ∙ c.requires.zero

pub seat-requires-clause-some : goal.seat-requires-clause-some
seat-requires-clause-some g c = c.requires.some

pub work_all-requires-clause-may : goal.work_all-requires-clause-may
work_all-requires-clause-may g c =
    let p = c.args.pass in
    let v = place_view p in
    let crew : IsCrew v.settings p.table c.args.scripts.now c.in_ok-workers.workers.items
    = subst (λ (q : PassState). IsCrew (place_view q).settings q.table c.args.scripts.now c.in_ok-workers.workers.items) c.place.ensures c.in_ok-workers.ensures in
    λ κs outlives. subst (AllByRecursion (MayWork (g.M.Metric.space c.args.metric.now) c.args.pivots.now)) (sym c.deref_mut.ensures.value) (crew_may v.settings p.table (g.M.Metric.space c.args.metric.now) c.args.pivots.now c.requires.space c.requires.pivots c.requires.limits c.args.scripts.now c.in_ok-workers.workers.items
    c.requires.scripts crew)

pub gather-requires-clause-none : goal.gather-requires-clause-none
gather-requires-clause-none g c = c.in_ok-replies.ensures

pub gather-requires-clause-done : goal.gather-requires-clause-done
gather-requires-clause-done g c =
    let p = c.args.pass in
    let v = place_view p in
    let scripts = c.args.scripts.now in
    let old = c.in_ok-workers.workers in
    let news = c.work_all.new.workers in
    let crew : IsCrew v.settings p.table scripts old.items
    = subst (λ (q : PassState). IsCrew (place_view q).settings q.table scripts old.items) c.place.ensures c.in_ok-workers.ensures in
    let worked : HaveWorked old.items news = subst (λ ws. HaveWorked ws news) c.deref_mut.ensures.value c.work_all.ensures in
    let whole : take old.len (news ++ drop (length news) old.items) ≡ news
    = take_at news (drop (length news) old.items) old.len (zip_length HasWorked old.items news worked ∙ sym old.ok.0) in
    subst (IsDone scripts) (sym whole) (record { settings = v.settings; table = p.table; olds = old.items; crew = crew; worked = worked })

pub returns : goal.returns
returns g c =
    let p = c.args.pass in
    let v = place_view p in
    let scripts = c.args.scripts.now in
    let old = c.in_ok-workers.workers in
    let news = c.work_all.new.workers in
    let after = take old.len (news ++ drop (length news) old.items) in
    let crew : IsCrew v.settings p.table scripts old.items
    = subst (λ (q : PassState). IsCrew (place_view q).settings q.table scripts old.items) c.place.ensures c.in_ok-workers.ensures in
    let worked : HaveWorked old.items news = subst (λ ws. HaveWorked ws news) c.deref_mut.ensures.value c.work_all.ensures in
    let whole : after ≡ news = take_at news (drop (length news) old.items) old.len (zip_length HasWorked old.items news worked ∙ sym old.ok.0) in
    let done : IsDone scripts news = record { settings = v.settings; table = p.table; olds = old.items; crew = crew; worked = worked } in
    IfOk-weaker c.gather.result (λ left. IsGathered (first_place after) scripts left.pass left.replies) (λ left. IsGathered (Some p) scripts left.pass left.replies)
    (λ left h. gathered_from scripts news p left.pass left.replies done refl refl (subst (λ ws. IsGathered (first_place ws) scripts left.pass left.replies) whole h)) c.gather.ensures

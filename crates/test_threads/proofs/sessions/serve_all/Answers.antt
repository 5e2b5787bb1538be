use Rattle.std.proofs.Common.{subst, arith}
use Rattle.std.specs.Prelude.{slice_index_or}
use Rattle.mi_run.proofs.CrewLemmas.{zip_from}
use Rattle.test_threads.proofs.sessions.serve_all.Goals as goal

pub returns : goal.returns
returns g c =
    let news = c.for_each_mut.new.s in
    zip_from (λ x y. g.W.Forks.kin x.session.world y.session.world) c.args.visitors.now news (omega (arith, c.for_each_mut.auto.s)) (λ i d lt.
    let at = (c.for_each_mut.ensures i d lt).1 in
    subst (λ x. g.W.Forks.kin x.session.world (slice_index_or news i d).session.world) at.argument_is (subst (λ y. g.W.Forks.kin at.argument.now.session.world y.session.world) at.left at.call))

use Rattle.std.proofs.Common.{◌++◌, option_to_list, sym, ap, ◌∙◌, subst}
use Rattle.std.specs.List.{AllByRecursion}
use Rattle.test_threads.proofs.TestLemmas.{all_last, all_on}
use Rattle.test_threads.proofs.sessions.absorb_last.Goals as goal

pub absorb-requires : goal.absorb-requires
absorb-requires g c =
    let e = c.pop.ensures.items ∙ ap (λ r. c.pop.new.self.items ++ option_to_list r) c.unwrap.ensures in
    let kin = g.W.Forks.kin c.args.session.now.world in
    let parts = all_last (λ x. kin x.session.world) c.pop.new.self.items c.unwrap.result (subst (AllByRecursion (λ x. kin x.session.world)) e c.requires.kin) in
    record { kin = subst (λ s. kin s.world) (sym c.into_session-other.ensures) parts.1 }

pub returns-then-made-eq160-clause-kin : goal.returns-then-made-eq160-clause-kin
returns-then-made-eq160-clause-kin g c =
    let e = c.pop.ensures.items ∙ ap (λ r. c.pop.new.self.items ++ option_to_list r) c.unwrap.ensures in
    let old = c.args.session.now.world in
    let new = c.absorb.new.self.world in
    let parts = all_last (λ x. g.W.Forks.kin old x.session.world) c.pop.new.self.items c.unwrap.result (subst (AllByRecursion (λ x. g.W.Forks.kin old x.session.world)) e c.requires.kin) in
    all_on (λ x. g.W.Forks.kin old x.session.world) (λ x. g.W.Forks.kin new x.session.world)
    (λ x k. g.met.W.Forks.on new old x.session.world (g.met.W.Forks.back old new c.absorb.ensures.kin) k) c.pop.new.self.items parts.0

pub returns-else-made-eq160-clause-kin : goal.returns-else-made-eq160-clause-kin
returns-else-made-eq160-clause-kin g c =
    let e = c.pop.ensures.items ∙ ap (λ r. c.pop.new.self.items ++ option_to_list r) c.unwrap.ensures in
    let old = c.args.session.now.world in
    let new = c.absorb.new.self.world in
    let parts = all_last (λ x. g.W.Forks.kin old x.session.world) c.pop.new.self.items c.unwrap.result (subst (AllByRecursion (λ x. g.W.Forks.kin old x.session.world)) e c.requires.kin) in
    all_on (λ x. g.W.Forks.kin old x.session.world) (λ x. g.W.Forks.kin new x.session.world)
    (λ x k. g.met.W.Forks.on new old x.session.world (g.met.W.Forks.back old new c.absorb.ensures.kin) k) c.pop.new.self.items parts.0

use Rattle.std.proofs.Common.{◌≡◌, ◌++◌, ◌∷◌, [], drop, length, take, sym, ap, ◌∙◌, subst}
use Rattle.std.proofs.lemmas.List.{take_at}
use Rattle.std.specs.List.{AllByRecursion, AllZip}
use Rattle.test_threads.specs.declared.sessions.Visitor.{Visitor}
use Rattle.mi_run.proofs.CrewLemmas.{zip_length}
use Rattle.test_threads.proofs.TestLemmas.{all_zip}
use Rattle.test_threads.proofs.sessions.use_two.Goals as goal

pub absorb_last-one-requires-clause-kin : goal.absorb_last-one-requires-clause-kin
absorb_last-one-requires-clause-kin g c =
    let here = g.met.W.Forks g.world.𝓛 g.world.𝓜 g.world.𝓡 (λ n ok. ok, λ patient. patient, λ lone. lone, λ cut. cut) in
    let s = c.fork.new.self.world in
    let t = c.fork-2.new.self.world in
    let old = c.push-2.new.self in
    let news = c.serve_all.new.visitors in
    let one : Visitor g.row.W.Denot g.row.M.Denot = record { session = c.in_ok-first.first } in
    let other : Visitor g.row.W.Denot g.row.M.Denot = record { session = c.in_ok-second.second } in
    let P : Visitor g.row.W.Denot g.row.M.Denot → Type 0 = λ x. g.W.Forks.kin t x.session.world in
    let R : Visitor g.row.W.Denot g.row.M.Denot → Visitor g.row.W.Denot g.row.M.Denot → Type 0 = λ x y. g.W.Forks.kin x.session.world y.session.world in
    let items : old.items ≡ one ∷ other ∷ []
    = c.in_ok-push-2.ensures.items ∙ ap (λ xs. xs ++ other ∷ []) (c.in_ok-push.ensures.items ∙ ap (λ xs. xs ++ one ∷ []) c.new-visitors.ensures.items) in
    let first : P one = here.on t s one.session.world (here.back s t c.fork-2.ensures.kin) c.in_ok-first.ensures.child in
    let all : AllByRecursion P old.items = subst (AllByRecursion P) (sym items) (first, (c.in_ok-second.ensures.child, tt)) in
    let worked : AllZip R old.items news = subst (λ xs. AllZip R xs news) c.deref_mut.ensures.value c.serve_all.ensures in
    let whole : take old.len (news ++ drop (length news) old.items) ≡ news
    = take_at news (drop (length news) old.items) old.len (zip_length R old.items news worked ∙ sym old.ok.0) in
    subst (AllByRecursion P) (sym whole) (all_zip P R (λ x y a b. here.on t x.session.world y.session.world a b) old.items news all worked)

use Rattle.std.proofs.Common.{◌≡◌, ◌++◌, ◌∷◌, [], ◌<◌, List, Some, length, option_to_list, refl, sym, ap, ◌∙◌, subst, arith}
use Rattle.std.specs.Prelude.{◌==◌}
use Rattle.mi_hall.specs.Passes.{place_view}
use Rattle.mi_run.specs.Crews.{IsGathered, first_place, replied}
use Rattle.mi_run.proofs.GatherLemmas.{Absorbing, absorbing_first, absorbing_last, absorbing_more, cons_of, first_is, front_is, is_tender, last_member, next_client, next_member, none_of, some_of}
use Rattle.mi_run.proofs.crews.gather.Goals as goal

pub tended-tender-requires : goal.tended-tender-requires
tended-tender-requires g c =
    let e = c.pop.ensures.items ∙ ap (λ r. c.pop.new.self.items ++ option_to_list r) c.unwrap.ensures in
    is_tender c.args.scripts.now c.args.workers.items c.pop.new.self.items c.unwrap.result c.requires.done e

pub remove-requires : goal.remove-requires
remove-requires g c =
    let e = c.pop.ensures.items ∙ ap (λ r. c.pop.new.self.items ++ option_to_list r) c.unwrap.ensures in
    omega (arith, front_is c.args.scripts.now c.args.workers.items c.pop.new.self.items c.unwrap.result c.requires.done e, c.pop.new.self.ok.0)

pub leave-requires : goal.leave-requires
leave-requires g c =
    let e = c.pop.ensures.items ∙ ap (λ r. c.pop.new.self.items ++ option_to_list r) c.unwrap.ensures in
    let some : 0 < length c.pop.new.self.items = front_is c.args.scripts.now c.args.workers.items c.pop.new.self.items c.unwrap.result c.requires.done e in
    let f = cons_of c.pop.new.self.items c.remove.new.self.items c.remove.result some c.remove.ensures.value c.remove.ensures.by_index.2 in
    first_is c.args.scripts.now c.args.workers.items c.pop.new.self.items c.unwrap.result c.remove.result c.remove.new.self.items c.requires.done e f

pub loop-place-init : goal.loop-place-init
loop-place-init g c =
    let e = c.pop.ensures.items ∙ ap (λ r. c.pop.new.self.items ++ option_to_list r) c.unwrap.ensures in
    let some : 0 < length c.pop.new.self.items = front_is c.args.scripts.now c.args.workers.items c.pop.new.self.items c.unwrap.result c.requires.done e in
    let f = cons_of c.pop.new.self.items c.remove.new.self.items c.remove.result some c.remove.ensures.value c.remove.ensures.by_index.2 in
    let p = c.in_ok-place.place in
    let replies = c.in_ok-place.ensures.1 ∙ ap (λ ys. ys ++ replied c.remove.result.task ∷ []) c.requires.none in
    subst (Absorbing c.args.scripts.now c.args.workers.items c.remove.new.self.items p) (sym replies)
    (absorbing_first c.args.scripts.now c.args.workers.items c.pop.new.self.items c.unwrap.result c.remove.result c.remove.new.self.items p c.requires.done e f c.in_ok-place.ensures.0)

pub leave-requires-in-loop-place : goal.leave-requires-in-loop-place
leave-requires-in-loop-place g c =
    let l = c.loop-place in
    let x = c.remove-in-loop-place.result in
    let xs = c.remove-in-loop-place.new.self.items in
    let f = cons_of l.clients.items xs x (some_of l.clients.items c.is_empty.result (c.is_empty.ensures ∙ ap (λ n. n == 0) l.clients.ok.0) c.loop-place-test.true) c.remove-in-loop-place.ensures.value c.remove-in-loop-place.ensures.by_index.2 in
    next_client c.args.scripts.now c.args.workers.items xs x l.place l.replies (subst (λ ws. Absorbing c.args.scripts.now c.args.workers.items ws l.place l.replies) f l.invariant)

pub absorb-requires-clause-kin : goal.absorb-requires-clause-kin
absorb-requires-clause-kin g c =
    let l = c.loop-place in
    let x = c.remove-in-loop-place.result in
    let xs = c.remove-in-loop-place.new.self.items in
    let f = cons_of l.clients.items xs x (some_of l.clients.items c.is_empty.result (c.is_empty.ensures ∙ ap (λ n. n == 0) l.clients.ok.0) c.loop-place-test.true) c.remove-in-loop-place.ensures.value c.remove-in-loop-place.ensures.by_index.2 in
    let a = subst (λ ws. Absorbing c.args.scripts.now c.args.workers.items ws l.place l.replies) f l.invariant in
    (next_member c.args.scripts.now c.args.workers.items xs x l.place l.replies a c.in_ok-leave.field-0 c.in_ok-leave.ensures.0).0

pub absorb-requires-clause-idle : goal.absorb-requires-clause-idle
absorb-requires-clause-idle g c =
    let l = c.loop-place in
    let x = c.remove-in-loop-place.result in
    let xs = c.remove-in-loop-place.new.self.items in
    let f = cons_of l.clients.items xs x (some_of l.clients.items c.is_empty.result (c.is_empty.ensures ∙ ap (λ n. n == 0) l.clients.ok.0) c.loop-place-test.true) c.remove-in-loop-place.ensures.value c.remove-in-loop-place.ensures.by_index.2 in
    let a = subst (λ ws. Absorbing c.args.scripts.now c.args.workers.items ws l.place l.replies) f l.invariant in
    (next_member c.args.scripts.now c.args.workers.items xs x l.place l.replies a c.in_ok-leave.field-0 c.in_ok-leave.ensures.0).1.nothing

pub loop-place-preserved : goal.loop-place-preserved
loop-place-preserved g c =
    let l = c.loop-place in
    let x = c.remove-in-loop-place.result in
    let xs = c.remove-in-loop-place.new.self.items in
    let f = cons_of l.clients.items xs x (some_of l.clients.items c.is_empty.result (c.is_empty.ensures ∙ ap (λ n. n == 0) l.clients.ok.0) c.loop-place-test.true) c.remove-in-loop-place.ensures.value c.remove-in-loop-place.ensures.by_index.2 in
    let a = subst (λ ws. Absorbing c.args.scripts.now c.args.workers.items ws l.place l.replies) f l.invariant in
    subst (Absorbing c.args.scripts.now c.args.workers.items xs c.absorb.new.self) (sym c.in_ok-leave.ensures.1)
    (absorbing_more c.args.scripts.now c.args.workers.items xs x l.place l.replies a c.in_ok-leave.field-0 c.absorb.new.self c.in_ok-leave.ensures.0 c.absorb.ensures.told c.absorb.ensures.section)

pub absorb-requires-2-clause-kin : goal.absorb-requires-2-clause-kin
absorb-requires-2-clause-kin g c =
    let l = c.loop-place in
    let e = c.pop.ensures.items ∙ ap (λ r. c.pop.new.self.items ++ option_to_list r) c.unwrap.ensures in
    let a = subst (λ ws. Absorbing c.args.scripts.now c.args.workers.items ws l.place l.replies) (none_of l.clients.items c.is_empty.result (c.is_empty.ensures ∙ ap (λ n. n == 0) l.clients.ok.0) c.loop-place-test.false) l.invariant in
    (last_member c.args.scripts.now c.args.workers.items c.pop.new.self.items c.unwrap.result l.place l.replies a e c.tended-tender.result.0 c.tended-tender.ensures).0

pub absorb-requires-2-clause-idle : goal.absorb-requires-2-clause-idle
absorb-requires-2-clause-idle g c =
    let l = c.loop-place in
    let e = c.pop.ensures.items ∙ ap (λ r. c.pop.new.self.items ++ option_to_list r) c.unwrap.ensures in
    let a = subst (λ ws. Absorbing c.args.scripts.now c.args.workers.items ws l.place l.replies) (none_of l.clients.items c.is_empty.result (c.is_empty.ensures ∙ ap (λ n. n == 0) l.clients.ok.0) c.loop-place-test.false) l.invariant in
    (last_member c.args.scripts.now c.args.workers.items c.pop.new.self.items c.unwrap.result l.place l.replies a e c.tended-tender.result.0 c.tended-tender.ensures).1.nothing

pub returns : goal.returns
returns g c =
    let l = c.loop-place in
    let e = c.pop.ensures.items ∙ ap (λ r. c.pop.new.self.items ++ option_to_list r) c.unwrap.ensures in
    let a = subst (λ ws. Absorbing c.args.scripts.now c.args.workers.items ws l.place l.replies) (none_of l.clients.items c.is_empty.result (c.is_empty.ensures ∙ ap (λ n. n == 0) l.clients.ok.0) c.loop-place-test.false) l.invariant in
    subst (λ q. IsGathered (first_place c.args.workers.items) c.args.scripts.now q l.replies) (sym c.into_pass.ensures)
    (absorbing_last c.args.scripts.now c.args.workers.items c.pop.new.self.items c.unwrap.result l.place l.replies a e c.tended-tender.result.0 c.tended-tender.ensures c.absorb-2.new.self
    c.absorb-2.ensures.told c.absorb-2.ensures.section)

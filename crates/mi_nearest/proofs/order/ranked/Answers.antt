use Rattle.std.proofs.Common.{◌≤◌, ◌+◌, List, Vec, Global, sym, subst, length, arith}
use Rattle.mi_nearest.specs.declared.order.Rank.{Rank}
use Rattle.mi_nearest.proofs.RankLemmas.{RankedTo, to_more, to_none, to_same, to_sorted}
use Rattle.mi_nearest.proofs.order.ranked.Goals as goal
use Rattle.mi_nearest.proofs.order.ranked.Goals.{in-Some+in_ok-push, in_default}

pub loop-place-init : goal.loop-place-init
loop-place-init c = to_none c.args.query.now.items c.args.catalog.now.leaves c.new-ranks.result.items c.new-ranks.ensures.items

pub loop-place-preserved : goal.loop-place-preserved
loop-place-preserved c =
    let dq = c.args.query.now.items in
    let leaves = c.args.catalog.now.leaves in
    let place = c.loop-place.place in
    let leaf = c.leaf.result.now in
    let found = c.loop-place.ranks.items in
    let Next : List Rank → Type 0 = RankedTo dq leaves (place + 1) in
    elim c.match-bound.branch [
      | in-Some+in_ok-push w ↦
          let rank : Rank = record { bound = w.in-Some.bound; place = place } in
          subst (λ (v : Vec Rank Global). Next v.items) (sym w.ranks-is)
          (to_more dq leaves found w.push.new.self.items rank leaf c.loop-place.invariant c.leaf.ensures w.in-Some.ensures.least w.in_ok-push.ensures.items)
      | in_default w ↦ subst (λ (v : Vec Rank Global). Next v.items) (sym w.ranks-is) (to_same dq leaves found place leaf c.loop-place.invariant c.leaf.ensures w.in_default.ensures.least)
    ]

pub returns : goal.returns
returns c =
    let leaves = c.args.catalog.now.leaves in
    let past : length leaves ≤ c.loop-place.place = omega (arith, c.len-place-end.ensures) in
    to_sorted c.args.query.now.items leaves c.loop-place.ranks.items c.sort_unstable.new.self.items c.loop-place.place c.loop-place.invariant past c.sort_unstable.ensures.permutation c.sort_unstable.ensures.sorted

use Rattle.std.proofs.Common.{arith, ap, ◌∙◌, set, get_or, Some}
use Rattle.mi_key.specs.declared.entries.Entry.{Entry}
use Rattle.mi_page.proofs.PlaceLemmas.{set_at, place_within}
use Rattle.mi_page.proofs.entries.mark_death.Goals as goal

pub bounds-entries-place : goal.bounds-entries-place
bounds-entries-place c = omega (arith, place_within (λ e. e.key) c.args.key c.args.entries.now c.requires.order c.requires.there, c.place_of-place.ensures.place)

pub bounds-entries-place-2 : goal.bounds-entries-place-2
bounds-entries-place-2 c = omega (arith, place_within (λ e. e.key) c.args.key c.args.entries.now c.requires.order c.requires.there, c.place_of-place.ensures.place)

pub returns : goal.returns
returns c =
    let entries = c.args.entries.now in
    let g : Entry → Entry = λ e. record { key = e.key; vector = e.vector; dists = e.dists; birth = e.birth; death = Some c.args.number } in
    ap (λ n. set entries n (g (get_or entries n c.index-entries-place.result))) c.place_of-place.ensures.place
    ∙ set_at (λ e. e.key) c.args.key g entries c.index-entries-place.result c.requires.order c.requires.there

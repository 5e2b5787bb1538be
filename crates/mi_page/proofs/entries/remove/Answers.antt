use Rattle.std.proofs.Common.{arith, ap, ◌∙◌, nat_lt}
use Rattle.std.specs.List.{remove, prefix_len}
use Rattle.mi_page.proofs.PlaceLemmas.{remove_at, place_within}
use Rattle.mi_page.proofs.entries.remove.Goals as goal

pub remove-requires : goal.remove-requires
remove-requires c =
    let entries = c.args.entries.now.items in
    let e = c.place_of-place.ensures.place ∙ ap (prefix_len (λ e. nat_lt e.key c.args.key)) c.deref.ensures.value in
    omega (arith, place_within (λ e. e.key) c.args.key entries c.requires.order c.requires.there, c.deref.ensures, e)

pub returns-clause-items : goal.returns-clause-items
returns-clause-items c =
    c.remove.ensures.items
    ∙ ap (remove c.args.entries.now.items) (c.place_of-place.ensures.place ∙ ap (prefix_len (λ e. nat_lt e.key c.args.key)) c.deref.ensures.value)
    ∙ remove_at (λ e. e.key) c.args.key c.args.entries.now.items c.requires.order c.requires.there

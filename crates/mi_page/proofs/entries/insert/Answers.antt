use Rattle.std.proofs.Common.{arith, ap, ◌∙◌, nat_lt}
use Rattle.std.specs.List.{insert, prefix_len}
use Rattle.mi_page.proofs.PlaceLemmas.{insert_put}
use Rattle.mi_page.proofs.entries.insert.Goals as goal

pub insert-requires : goal.insert-requires
insert-requires c = omega (arith, c.place_of-place.ensures.within, c.deref.ensures.len)

pub returns-clause-items : goal.returns-clause-items
returns-clause-items c =
    c.in-Ok.ensures.items
    ∙ ap (λ n. insert c.args.entries.now.items n c.args.entry) (c.place_of-place.ensures.place ∙ ap (prefix_len (λ e. nat_lt e.key c.args.entry.key)) c.deref.ensures.value)
    ∙ insert_put (λ e. e.key) c.args.entry c.args.entries.now.items

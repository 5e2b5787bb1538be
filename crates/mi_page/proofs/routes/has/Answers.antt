use Rattle.std.proofs.Common.{◌≡◌, ℕ, ◌≤◌, nat_lt, false, ◌∙◌, sym, arith, length}
use Rattle.std.proofs.lemmas.Bool.Decides.{nat_tests}
use Rattle.mi_page.proofs.PlaceLemmas.{has_here, past_all}
use Rattle.mi_page.proofs.routes.has.Goals as goal

past : (i n : ℕ) → n ≤ i → nat_lt i n ≡ false
past i n le = grind (arith, nat_tests)

pub returns-then-place-routes : goal.returns-then-place-routes
returns-then-place-routes c =
    c.eq.ensures
    ∙ has_here (λ r. r.key) c.args.key c.args.routes.now c.place_of-place.result c.index-routes-place.result c.requires c.place_of-place.ensures.place c.if-place-routes.true

pub returns-else-place-routes : goal.returns-else-place-routes
returns-else-place-routes c =
    past c.place_of-place.result (length c.args.routes.now) c.if-place-routes.false
    ∙ sym (past_all (λ r. r.key) c.args.key c.args.routes.now c.place_of-place.result c.requires c.place_of-place.ensures.place c.if-place-routes.false)

use Rattle.std.proofs.Common.{◌≡◌, ◌∙◌, ◌+◌, ap, arith, inl, inr, refl, subst, sym, ⊎_elim}
use Rattle.atomic_table.specs.Table.{rest}
use Rattle.mi_entries.specs.Records.{home}
use Rattle.mi_latch.specs.declared.slots.Slot.TheVariants.{OfPage}
use Rattle.mi_latch.specs.Views.{HoldsLast, Seated, now}
use Rattle.mi_latch.proofs.BoardReturns.{returned_commit}
use Rattle.mi_hall.specs.Commits.{committing}
use Rattle.mi_hall.proofs.commit_gives.give_both.Goals as goal

pub give-requires-clause-held : goal.give-requires-clause-held
give-requires-clause-held g c = c.requires.held.3.last.held

pub give-requires-clause-returns : goal.give-requires-clause-returns
give-requires-clause-returns g c = let h = c.requires.held in rw c.requires.aim (returned_commit c.args.seat.now.me h.0 c.args.page h.1 _ _ h.2 _ _ h.3)

pub give-requires-clause-does : goal.give-requires-clause-does
give-requires-clause-does g c = rw c.requires.aim c.requires.does

pub give-requires-clause-notes : goal.give-requires-clause-notes
give-requires-clause-notes g c = rw c.requires.aim (inr (refl, refl, inr (_, _, inl (refl, refl), refl, refl)))

pub give_page_back-requires-clause-last : goal.give_page_back-requires-clause-last
give_page_back-requires-clause-last g c =
    let m : Seated = c.args.seat.now.me in
    let next : Seated = (committing m.0 c.args.row.now c.args.board c.args.page c.args.node (home c.args.id) c.args.rows.now, rest m.1) in
    let is : c.give.new.seat.me ≡ next = c.give.ensures.gave ∙ ap (λ z. let y : Seated = (z, rest m.1) in y) c.requires.aim in
    subst (λ z. HoldsLast z (c.args.page + 17) (OfPage c.args.node)) (sym is) (record {
      held = c.requires.also;
      live = refl;
      out = refl;
      others = λ h. ⊎_elim (λ e. absurd (omega (arith, e.0))) (λ z. z) h.1;
    })

pub returns-clause-gave : goal.returns-clause-gave
returns-clause-gave g c =
    let m : Seated = c.args.seat.now.me in
    let next : Seated = (committing m.0 c.args.row.now c.args.board c.args.page c.args.node (home c.args.id) c.args.rows.now, rest m.1) in
    let is : c.give.new.seat.me ≡ next = c.give.ensures.gave ∙ ap (λ z. let y : Seated = (z, rest m.1) in y) c.requires.aim in
    c.give_page_back.ensures.gave ∙ ap (λ (z : Seated). let y : Seated = (now z.0 z.0.mine (rest z.0.out), rest z.1) in y) is

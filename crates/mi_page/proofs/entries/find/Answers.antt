use Rattle.std.proofs.Common.{◌≡◌, ◌≢◌, ℕ, sym, false, ◌∙◌, subst, Option, nat_eq, arith}
use Rattle.std.specs.Option.{IsSomeAnd}
use Rattle.std.proofs.lemmas.Bool.{eqb-true}
use Rattle.std.proofs.lemmas.Bool.Decides.{nat_tests}
use Rattle.std.proofs.lemmas.Option.{slice_get-get_or}
use Rattle.mi_key.specs.declared.entries.Entry.{Entry}
use Rattle.mi_page.proofs.PlaceLemmas.{is_there, is_other, past_all}
use Rattle.mi_page.proofs.entries.find.Goals as goal
use Rattle.mi_page.proofs.entries.find.Goals.{else-place-entries-via-then-place-entries+else-eq, else-place-entries-via-else-place-entries}

differs : (a b : ℕ) → nat_eq a b ≡ false → a ≢ b
differs a b f = grind (arith, nat_tests)

pub returns-then-eq-clause-some : goal.returns-then-eq-clause-some
returns-then-eq-clause-some c =
    sym (is_there (λ e. e.key) c.args.key c.args.entries.now c.place_of-place.result c.index-entries-place.result c.requires c.place_of-place.ensures.place c.if-place-entries.true
    (eqb-true _ _ (sym c.eq.ensures ∙ c.if-eq.true)))

pub returns-then-eq-clause-place : goal.returns-then-eq-clause-place
returns-then-eq-clause-place c =
    subst (λ (o : Option Entry). IsSomeAnd o (λ e. e.key ≡ c.args.key)) (sym (slice_get-get_or c.args.entries.now c.place_of-place.result c.index-entries-place.result c.if-place-entries.true))
    (eqb-true _ _ (sym c.eq.ensures ∙ c.if-eq.true))

pub returns-else-place-entries-clause-some : goal.returns-else-place-entries-clause-some
returns-else-place-entries-clause-some c = elim c.else-place-entries.branch [
  | else-place-entries-via-then-place-entries+else-eq w ↦
      sym (is_other (λ e. e.key) c.args.key c.args.entries.now c.place_of-place.result w.index-entries-place.result c.requires c.place_of-place.ensures.place
      (differs _ _ (sym w.eq.ensures ∙ w.if-eq.false)))
  | else-place-entries-via-else-place-entries w ↦ sym (past_all (λ e. e.key) c.args.key c.args.entries.now c.place_of-place.result c.requires c.place_of-place.ensures.place w.if-place-entries.false)
]

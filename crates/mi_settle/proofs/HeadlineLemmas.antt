-- What a settled core tells is the headline.
use Rattle.std.proofs.Common.{◌≡◌, ℕ, ◌+◌, ◌<◌, List, [], ◌∷◌, length, true, false, cond, Bool, sym, ap, ◌∙◌, subst, arith, inl, inr}
use Rattle.std.specs.Prelude.{Result, Ok, Err, ◌==◌}
use Rattle.std.specs.List.{AllByRecursion, filter}
use Rattle.std.proofs.lemmas.Bool.{false≢true}
use Rattle.std.proofs.lemmas.Bool.Decides.{eqb_tells}
use Rattle.mi_base.specs.declared.records.Op.{Op}
use Rattle.mi_base.specs.declared.refusals.NoMemory.{NoMemory}
use Rattle.mi_base.specs.Configuration.{Configuration}
use Rattle.mi_base.specs.History.{Entered, live, updates_of}
use Rattle.mi_core.specs.Kept.{Kept}
use Rattle.mi_core.specs.State.{State}
use Rattle.mi_legal.specs.Legal.{Legal}
use Rattle.mi_legal.specs.Want.{has_memory}
use Rattle.mi_settle.specs.Headlines.{Headline}
use Rattle.mi_settle.specs.Outcomes.{IsOutcomeIn}
use Rattle.mi_settle.specs.Settling.{IsSettled, LeavesSettled, is_refused}
use Rattle.mi_settle.proofs.EntriesLemmas.{enough, entries_few}
use Rattle.mi_tree.specs.declared.outcomes.Outcome.{Outcome}
use Rattle.mi_tree.specs.Legal.{Settled, cells_of}

-- where the last actor has made no update, the others have made all
pub named_but : (n : ℕ) (es : List Entered) → AllByRecursion (λ e. e.session < n + 1) es → filter (λ (e : Entered). e.session == n) es ≡ [] → AllByRecursion (λ e. e.session < n) es
named_but n [] h none = tt
named_but n (e ∷ es) h none =
    let P : Bool → Type 0 = λ b. cond b (e ∷ filter (λ (x : Entered). x.session == n) es) (filter (λ (x : Entered). x.session == n) es) ≡ [] in
    elim (eqb_tells e.session n) [
      | inl is ↦ let wrong : P true = subst P is.0 none in absurd (cons_nil e _ wrong)
      | inr apart ↦ (omega (arith, h.0, apart.1), named_but n es h.1 (subst P apart.0 none))
    ]
  where
    cons_nil : (x : Entered) (xs : List Entered) → x ∷ xs ≡ [] → ⊥
    cons_nil x xs e = cc

-- settling that was not refused leaves a settled core
pub settled_at : (r : Result (Unit {0}) NoMemory) (t : State) → is_refused r ≡ false → LeavesSettled r t → IsSettled t
settled_at (Ok x) t e h = h
settled_at (Err x) t e h = absurd (false≢true (sym e))

-- the headline of what a core tells with legal replies, where it is settled if nothing was wanted
pub headline_of : (c : Configuration) (scripts : List (List Op)) (o : Outcome) (s : State) → Kept s → s.board.settings ≡ c → IsOutcomeIn c o s → o.limit ≡ c.pages
    → Legal c scripts o.replies o.log o.allotted → (o.short ≡ false → has_memory o.replies ≡ false) → (o.short ≡ false → IsSettled s) → Headline c scripts o
headline_of c scripts o s k of is limit legal answered settled =
    let live_in : length (live (updates_of o.log)) ≡ length (live (updates_of s.board.log)) = ap (λ l. length (live (updates_of l))) is.log_is in
    let pages : s.board.settings.pages ≡ c.pages = ap (λ (z : Configuration). z.pages) of in
    record {
      legal = legal;
      cells_are = is.cells_are ∙ ap (cells_of c) (sym is.log_is);
      limit_is = limit;
      allotted_within = omega (arith, is.allotted_is, pages, k.sound.pages.most);
      entries_within = omega (arith, is.entries_are, is.allotted_is, entries_few s k.sound);
      answered = answered;
      no_fewer = omega (arith, live_in, is.entries_are, enough s k.sound);
      whole = λ e. is.entries_are ∙ (settled e).entries ∙ sym live_in;
      settled = λ e less.
          let below : s.board.allotted < s.board.settings.pages = omega (arith, less, is.allotted_is, pages) in
          subst (Settled c) (sym is.log_is) (subst (λ (z : Configuration). Settled z s.board.log) of ((settled e).settled below));
    }

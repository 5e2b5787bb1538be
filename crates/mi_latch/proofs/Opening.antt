-- The table at the start: one actor, an empty log, and page 0.
use Rattle.std.proofs.Common.{◌≡◌, inl, ⊎_elim, ℕ, suc, zero, ◌<◌, List, [], ◌∷◌, length, get_or, refl, sym, ap, subst, arith}
use Rattle.std.proofs.lemmas.Option.{none-some}
use mathlib.Core.Option.{some}
use lib.ListN.{get_elem?}
use Rattle.mi_base.specs.Configuration.{Configuration, IsWithinLimits, metric_space}
use Rattle.mi_base.specs.Space.{IsMetric}
use Rattle.mi_page.specs.Nodes.{fresh_node}
use Rattle.mi_entries.specs.Records.{Shard, no_shard}
use Rattle.mi_core.specs.Events.{opened}
use Rattle.mi_core.specs.Named.{IsNamed}
use Rattle.mi_core.specs.State.{State}
use Rattle.mi_core.proofs.KeptEvents.{opened_kept}
use Rattle.mi_core.proofs.OpeningLemmas.{or_copy}
use Rattle.mi_latch.specs.declared.slots.Slot.TheVariants.{Vacant}
use Rattle.mi_latch.specs.Layout.{at, cells}
use Rattle.mi_latch.specs.Shows.{Opens}
use Rattle.mi_latch.specs.Views.{Fits, Held, Marks, Own, first_mine, holder_word, made}

elem_or : {X : Type 0} (l : List X) (i : ℕ) (d : X) → i < length l → get_elem? l i ≡ some (get_or l i d)
elem_or [] i d h = absurd (omega arith)
elem_or (x ∷ l) zero d h = refl
elem_or (x ∷ l) (suc i) d h = elem_or l i d (omega arith)

pub opens_so : (c : Configuration) → IsWithinLimits c → IsMetric (metric_space c) → (more : ℕ) → c.pages ≡ suc more
    → Opens at Fits Own Marks made (Held c) (cells (opened c 1 more)) (first_mine c)
opens_so c limits metric more pages_are = let s : State = opened c 1 more in record {
  core = s;
  kept = record { kept = opened_kept c limits metric 1 more pages_are; same = refl };
  marks = λ i k e near. ap (λ (x : Shard). holder_word x.holder) (sym (or_copy 16 k no_shard));
  one = refl;
  fits = record {
    part = refl;
    knows = record {
      log = refl;
      named = λ x h. ⊎_elim (λ e. subst (IsNamed s.pages) e (record { node = fresh_node; there = refl; level = refl; low = refl })) (λ z. absurd z) h;
      told = λ h. absurd cc;
      wanted = refl;
      least = omega arith;
      first = inl refl;
      pin = λ p h. absurd (none-some p h);
      count = omega arith;
      note = record { settings = refl; allotted = omega arith; given = omega arith };
      passed = λ p h. refl;
    };
  };
  own = record {
    mine = λ h. record { small = omega arith; going = refl };
    born = λ a m h. absurd h;
    over = λ a m h. absurd h;
    forked = λ k h. absurd h;
  };
  values = λ i h. elem_or (cells s) i Vacant h;
}

-- States that come later in a run.
use Rattle.std.proofs.Common.{◌≡◌, ℕ, List, [], ◌∷◌, Option, Some, None, refl, sym, ◌∙◌, subst, inl, inr}
use Rattle.mi_core.specs.Events.{Event, after}
use Rattle.mi_core.specs.Events.Event.{see}
use Rattle.mi_core.specs.Kept.{Kept}
use Rattle.mi_core.specs.State.{State}
use Rattle.mi_core.proofs.FrameEvents.{told_stays}
use Rattle.mi_core.proofs.KeptEvents.{each_keeps}
use Rattle.mi_core.proofs.LaterEvents.{event_leads_on}
use Rattle.mi_tree.specs.Growing.{Grows}
use Rattle.mi_tree.proofs.GrowingLemmas.{grows_none, grows_on}
use Rattle.mi_settle.specs.Turns.{Chained, ComesTo, Goes, LeadsBy, Makes, Turn}

-- what is so of a state that comes later in a run
pub record Later (s t : State) : Type 0 where
  pub kept : Kept t
  pub settings : t.board.settings ≡ s.board.settings
  pub grows : Grows s.board.log t.board.log
  pub full : s.board.allotted ≡ s.board.settings.pages → t.board.allotted ≡ t.board.settings.pages

pub later_none : (s : State) → Kept s → Later s s
later_none s k = record { kept = k; settings = refl; grows = grows_none s.board.log; full = λ e. e }

pub later_on : (s m t : State) → Later s m → Later m t → Later s t
later_on s m t h k = record {
  kept = k.kept;
  settings = k.settings ∙ h.settings;
  grows = grows_on s.board.log m.board.log t.board.log h.grows k.grows;
  full = λ e. k.full (h.full e);
}

pub later_led : (e : Event) (s : State) (a : ℕ) (t : State) → Kept s → LeadsBy e s a t → Later s t
later_led e s a t k m =
    let l = m.0 in
    let on = event_leads_on l.event s k.sound a l.actor l.there l.can in
    let kept = each_keeps l.event s k a l.actor l.there l.going l.can in
    subst (Later s) (sym l.is) (record {
      kept = kept;
      settings = on.settings;
      grows = record { by = on.more; is = on.log };
      full = told_stays s (after s a l.actor l.event) k.sound kept.sound on;
    })

pub later_come : (s : State) (a : ℕ) (m : State) → Kept s → ComesTo s a m → Later s m
later_come s a m k h = elim h [ inl same ↦ subst (Later s) (sym same) (later_none s k) | inr sees ↦ later_led see s a m k sees ]

pub later_gone : (e : Option Event) (s : State) (a : ℕ) (t : State) → Kept s → Goes e s a t → Later s t
later_gone None s a t k m = subst (Later s) (sym m) (later_none s k)
later_gone (Some e) s a t k m = later_led e s a t k m

pub later_turn : (e : Option Event) (s : State) (a : ℕ) (t : State) → Kept s → Makes e s a t → Later s t
later_turn e s a t k m =
    let come = later_come s a m.between k m.comes in
    later_on s m.between t come (later_gone e m.between a t come.kept m.goes)

pub later_head : (s : State) (u : Turn) (us : List Turn) (t : State) → Kept s → Chained s (u ∷ us) t → Later s u.after
later_head s u us t k h = later_turn u.event s u.actor u.after k (subst (λ x. Makes u.event x u.actor u.after) h.0 h.1)

pub later_all : (s : State) (us : List Turn) (t : State) → Kept s → Chained s us t → Later s t
later_all s [] t k h = subst (Later s) h (later_none s k)
later_all s (u ∷ us) t k h =
    let l = later_head s u us t k h in
    later_on s u.after t l (later_all u.after us t l.kept h.2)

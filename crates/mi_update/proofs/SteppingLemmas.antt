-- What a section of an update says, over all its sections.
use Rattle.std.proofs.Common.{◌≡◌, ℕ, ◌+◌, ◌≤◌, List, [], ◌∷◌, ◌++◌, length, Bool, Some, None, Option, refl, sym, ap, ◌∙◌, arith, inl, inr, length-append, append-nil}
use Rattle.std.specs.Prelude.{◌⊎◌}
use Rattle.mi_base.specs.declared.records.LogEvent.{LogEvent}
use Rattle.mi_base.specs.declared.records.LogEvent.TheVariants.{Update as Made}
use Rattle.mi_base.specs.declared.records.Op.{Op}
use Rattle.mi_base.specs.declared.records.Reply.{Reply}
use Rattle.mi_base.specs.declared.records.Reply.TheVariants as reply
use Rattle.mi_base.specs.declared.records.Update.{Update}
use Rattle.mi_base.specs.History.{Entered, updates_of}
use Rattle.mi_base.proofs.HistoryLemmas.{updates_of-append}
use Rattle.mi_legal.specs.Legal.{events_to}
use Rattle.mi_legal.specs.Right.{Right}
use Rattle.mi_legal.proofs.GainedLemmas.{events_gained}
use Rattle.mi_legal.proofs.ReplyLemmas.{full_stays, reach_grows, right_grows}
use Rattle.mi_world.specs.Pages.{Enters}
use Rattle.mi_world.specs.View.{View, Later}
use Rattle.mi_update.specs.declared.endings.Ending.{Ending}
use Rattle.mi_update.specs.declared.endings.Ending.TheVariants.{Stored, Removed, Present, Absent, Full, NoPages, Memory}
use Rattle.mi_update.specs.Endings.{Answered, events_of, reply_of}
use Rattle.mi_update.specs.Stepping.{Advances, EntersLast, EntersNone, added, entry_of}

pub seen_more : (v w : View) → Later v w → length v.seen ≤ length w.seen
seen_more v w l = omega (arith, ap length l.grows.is, length-append v.seen l.grows.by)

updates_more : (log : List LogEvent) (session op : ℕ) (u : Update) → length (updates_of (log ++ Made session op u ∷ [])) ≡ length (updates_of log) + 1
updates_more log session op u = ap length (updates_of-append log (Made session op u ∷ [])) ∙ length-append (updates_of log) (u ∷ [])

-- a commit enters the last update, and reaches to the end of the log
pub enters_last : (v w : View) (op id : ℕ) (u : Update) (live : Bool) (number : ℕ) → Enters v w op id u live number → EntersLast op u None (Some number) v w
enters_last v w op id u live number e = record {
  before = refl;
  after = ap Some (e.number_is ∙ sym (updates_more e.before w.actor op u) ∙ ap (λ l. length (updates_of l)) (sym e.seen));
  own = e.own;
}

pub reaches_last : (v w : View) (op id : ℕ) (u : Update) (live : Bool) (number : ℕ) → Enters v w op id u live number → length v.seen ≤ events_to number w.seen
reaches_last v w op id u live number e =
    rw e.seen (omega (arith, events_gained e.before number w.actor op u e.number_is, ap length e.grows.is, length-append v.seen e.grows.by))

-- a section that enters none
pub advances_none : (op : ℕ) (u : Update) (n : Option ℕ) (from to : ℕ) (v w : View) → w.own ≡ v.own → from ≤ to → Advances op u n n from to v w
advances_none op u n from to v w own h = record { enters = inr (record { number = refl; own = own }); not_before = h }

-- the updates of the actor are those at the first section and what was added since
pub own_kept : (op : ℕ) (u : Update) (old new : Option ℕ) (v w : View) (own : List Entered) → w.actor ≡ v.actor → EntersLast op u old new v w ⊎ EntersNone old new v w
    → v.own ≡ own ++ added old (entry_of v op u) → w.own ≡ own ++ added new (entry_of w op u)
own_kept op u old new v w own actor (inl e) h =
    let o : v.own ≡ own ++ [] = rw e.before at h in
    rw e.after (e.own ∙ ap (λ es. es ++ entry_of w op u ∷ []) (o ∙ append-nil own))
own_kept op u old new v w own actor (inr e) h =
    rw (e.number, actor) (e.own ∙ h)

-- what is right stays right
right_later : (v w : View) (allotted op : ℕ) (asked : Op) (y : Reply) → Later v w → length (updates_of v.seen) ≤ v.settings.updates
    → Right v.settings v.seen allotted v.actor op asked y → Right w.settings w.seen allotted w.actor op asked y
right_later v w allotted op asked y l few h =
    let few' : length (updates_of (v.seen ++ l.grows.by)) ≤ v.settings.updates = rw (← l.grows.is, ← l.settings) (l.few few) in
    rw (l.settings, l.actor, l.grows.is) (right_grows v.settings v.seen l.grows.by allotted v.actor op asked y (full_stays v.settings v.seen l.grows.by few') h)

pub answered_stays : (asked : Op) (op : ℕ) (v w : View) (e : Ending) → Later v w → Answered asked op v e → Answered asked op w e
answered_stays asked op v w e l h = record {
  right = λ allotted all. right_later v w allotted op asked (reply_of e) l h.few (h.right allotted (λ told. all (l.told told) ∙ ap (λ c. c.pages) l.settings));
  few = l.few h.few;
}

module _ (asked : Op) (op : ℕ) (v w : View) (l : Later v w) where
  -- a number stands where it stood
  stored_stays : (n : ℕ) → Answered asked op v (Stored n) → events_to n w.seen ≡ events_to n v.seen
  stored_stays n a =
      let same : Some (events_to n (v.seen ++ l.grows.by)) ≡ Some (events_to n v.seen) =
      reach_grows v.settings v.seen l.grows.by v.settings.pages v.actor op asked (reply.Stored n) (a.right v.settings.pages (λ t. refl)) in
      let e : events_to n (v.seen ++ l.grows.by) ≡ events_to n v.seen = cc in
      rw l.grows.is e

  removed_stays : (n : ℕ) → Answered asked op v (Removed n) → events_to n w.seen ≡ events_to n v.seen
  removed_stays n a =
      let same : Some (events_to n (v.seen ++ l.grows.by)) ≡ Some (events_to n v.seen) =
      reach_grows v.settings v.seen l.grows.by v.settings.pages v.actor op asked (reply.Removed n) (a.right v.settings.pages (λ t. refl)) in
      let e : events_to n (v.seen ++ l.grows.by) ≡ events_to n v.seen = cc in
      rw l.grows.is e

  -- the position of a reply stays where it was
  pub ends_stay : (e : Ending) → Answered asked op v e → events_of e v.seen ≤ events_of e w.seen
  ends_stay (Stored n) a = omega (arith, stored_stays n a)
  ends_stay (Removed n) a = omega (arith, removed_stays n a)
  ends_stay (Present p) a = omega arith
  ends_stay (Absent p) a = omega arith
  ends_stay (Full n) a = seen_more v w l
  ends_stay (NoPages n) a = seen_more v w l
  ends_stay Memory a = seen_more v w l

-- What the absorbing of another seat makes of a seat's view.
use Rattle.std.proofs.Common.{◌≡◌, ℕ, ◌≤◌, List, ◌∷◌, ◌++◌, length, take, drop, Bool, true, false, cond, nat_le, max, ◌||◌, IsTrue, refl, sym, ap, ◌∙◌, subst, arith, inl, inr, ◌⊎◌}
use Rattle.std.specs.List.{AllByRecursion}
use Rattle.std.proofs.lemmas.List.{map-append, take-append-drop}
use Rattle.mi_base.specs.Configuration.{Configuration}
use Rattle.mi_base.specs.declared.records.LogEvent.{LogEvent}
use Rattle.mi_base.specs.History.{updates_of}
use Rattle.mi_core.specs.Events.{more_seen}
use Rattle.mi_core.specs.Kept.{Kept}
use Rattle.mi_core.specs.State.{State}
use Rattle.mi_entries.specs.Actors.{Actor}
use Rattle.mi_latch.specs.Ends.{blend, over}
use Rattle.mi_latch.specs.Views.{Fits, Knows as IsKnown, Mine, Sight}
use Rattle.mi_latch.proofs.PageNames.{one_more}
use Rattle.mi_solo.specs.Viewing.{pinned_log, shown_to}
use Rattle.mi_tree.specs.Growing.{Grows}
use Rattle.mi_world.specs.Families.{Absorbs}
use Rattle.mi_world.specs.View.{View}
use Rattle.mi_hall.specs.Knowledge.{IsShown, Knows}
use Rattle.mi_hall.specs.Places.{absorbing}
use Rattle.mi_hall.specs.Seats.{knowledge, seat_view}
use Rattle.mi_hall.proofs.KnowledgeLemmas.{first_named, known, more_named}
use Rattle.mi_hall.proofs.SeatLemmas.{pinned_seen, seat_knows, shows_named, take_take}

-- parts of one log
take_grows : (i j : ℕ) (l : List LogEvent) → i ≤ j → Grows (take i l) (take j l)
take_grows i j l h = record { by = drop i (take j l); is = sym (take-append-drop i (take j l)) ∙ ap (λ z. z ++ drop i (take j l)) (take_take i j l h) }

one_of_both : (z : Bool) (x y : List LogEvent) → (cond z y x ≡ x) ⊎ (cond z y x ≡ y)
one_of_both true x y = inr refl
one_of_both false x y = inl refl

pub either : (x y : Bool) → cond x true y ≡ (x || y)
either true y = refl
either false y = refl

more_told : (x y : Bool) → IsTrue x → IsTrue (cond x true y)
more_told x y e = ap (λ z. cond z true y) e

-- The first state has the log that the staying seat saw a part of; the second is one after the join, with the same log
module _ (c d : State) (v y : Sight) (same : c.board.log ≡ d.board.log) (kept : Kept d) (before : IsKnown c v.mine) (now : Fits d v.actor (blend v.mine y.mine)) (gone : IsKnown d (over y.mine)) where
  abbrev r : Actor
  r = v.mine.part

  abbrev u : Actor
  u = y.mine.part

  abbrev log : List LogEvent
  log = d.board.log

  abbrev seen : List LogEvent
  seen = (blend v.mine y.mine).log

  mine_is : v.mine.log ≡ take v.mine.part.seen d.board.log
  mine_is = before.log ∙ ap (take v.mine.part.seen) same

  whole : (blend v.mine y.mine).log ≡ take (max v.mine.part.seen y.mine.part.seen) d.board.log
  whole = now.knows.log

  mine_grows : Grows v.mine.log (blend v.mine y.mine).log
  mine_grows = subst (λ l. Grows l seen) (sym mine_is) (subst (Grows (take r.seen log)) (sym whole) (take_grows r.seen (max r.seen u.seen) log (omega arith)))

  its_grows : Grows y.mine.log (blend v.mine y.mine).log
  its_grows = subst (λ l. Grows l seen) (sym gone.log) (subst (Grows (take u.seen log)) (sym whole) (take_grows u.seen (max r.seen u.seen) log (omega arith)))

  abbrev w : View
  w = shown_to d v.actor (more_seen y.mine.part v.mine.part)

  knows : Knows (shown_to d v.actor (more_seen y.mine.part v.mine.part)) (knowledge (absorbing v y))
  knows = seat_knows d kept (absorbing v y) now

  mine_shown : AllByRecursion (IsShown (shown_to d v.actor (more_seen y.mine.part v.mine.part))) v.mine.named
  mine_shown = shows_named d v.actor (more_seen u r) v.mine.named (λ x h. now.knows.named x (one_more y.mine.named v.mine.named x h))

  its_shown : AllByRecursion (IsShown (shown_to d v.actor (more_seen y.mine.part v.mine.part))) y.mine.named
  its_shown = shows_named d v.actor (more_seen u r) y.mine.named gone.named

  pins : pinned_log (blend v.mine y.mine).log v.mine.part.pin ≡ pinned_log v.mine.log v.mine.part.pin
  pins = pinned_seen (max r.seen u.seen) log seen r.pin whole (λ p e. let l = before.pin p e in omega arith) ∙ sym (pinned_seen r.seen log v.mine.log r.pin mine_is before.pin)

  pub absorbs_so : Absorbs (seat_view v) (seat_view y) (seat_view (absorbing v y))
  absorbs_so = record {
    later = record {
      settings = refl;
      actor = refl;
      grows = mine_grows;
      few = λ _. subst (λ (s : Configuration). length (updates_of seen) ≤ s.updates) now.knows.note.settings knows.few;
      lacked = more_told r.lacked u.lacked;
      told = more_told v.mine.told y.mine.told;
      named = more_named y.mine.named v.mine.named;
      level = λ p e. sym (known w (y.mine.named ++ v.mine.named) knows.pages p (more_named y.mine.named v.mine.named p e)).1 ∙ (known w v.mine.named mine_shown p e).1;
      low = λ p e. sym (known w (y.mine.named ++ v.mine.named) knows.pages p (more_named y.mine.named v.mine.named p e)).2 ∙ (known w v.mine.named mine_shown p e).2;
      least = omega arith;
      tells_full = refl;
      allotted = omega arith;
      given = omega arith;
    };
    others_log = its_grows;
    seen = one_of_both (nat_le r.seen u.seen) v.mine.log y.mine.log;
    update = record { own = refl; shard = refl; records = refl; reserved = refl };
    leaf = record { leaf = refl; wanted = refl };
    sweep = record { sweep = refl; swept = refl };
    split = record { splitting = refl; mark = refl; whole = refl; copies = refl; copied = refl };
    pin = pins;
    floor = refl;
    fresh = refl;
    owes = refl;
    undone = either r.undone u.undone;
    early = either r.early u.early;
    told = either v.mine.told y.mine.told;
    lacked = either r.lacked u.lacked;
    pages = record {
      named = first_named y.mine.named v.mine.named;
      level = λ p e. sym (known w (y.mine.named ++ v.mine.named) knows.pages p (first_named y.mine.named v.mine.named p e)).1 ∙ (known w y.mine.named its_shown p e).1;
      low = λ p e. sym (known w (y.mine.named ++ v.mine.named) knows.pages p (first_named y.mine.named v.mine.named p e)).2 ∙ (known w y.mine.named its_shown p e).2;
      least = omega arith;
    };
    note = record { allotted = refl; holder = refl; pins = refl; given = refl; retired = refl; passed = refl; root = refl; height = refl };
    page = record { page = refl; high = refl; items = λ e. refl };
    tries = record { tried = refl; found = refl };
    absorbed = map-append (λ (x : ℕ × Mine). record { actor = x.0; own = x.1.part.own }) v.absorbed ((y.actor, over y.mine) ∷ y.absorbed);
    forked = refl;
  }

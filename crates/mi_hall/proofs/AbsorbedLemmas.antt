-- The rows that a pass keeps of actors that were absorbed.
use Rattle.std.proofs.Common.{◌≡◌, ℕ, List, [], ◌∷◌, ◌++◌, drop, sym, ap, subst}
use Rattle.mi_base.specs.Configuration.{Configuration}
use Rattle.mi_core.specs.Events.{ended}
use Rattle.mi_latch.specs.Ends.{over}
use Rattle.mi_latch.specs.Views.{Mine, Seated, newcomer}
use Rattle.mi_solo.specs.declared.rows.ActorRow.{ActorRow}
use Rattle.mi_hall.specs.declared.absorbed.Gone.{Gone}
use Rattle.mi_hall.specs.Absorbed.{AreGone, HasGone, IsSpare, ended_row}
use Rattle.mi_hall.specs.Passes.{row_actor}

-- a section leaves them
pub same_gone : (old new : Seated) (gone : List Gone) → new.0.absorbed ≡ old.0.absorbed → HasGone old.0.absorbed gone → HasGone new.0.absorbed gone
same_gone old new gone same h = subst (λ x. HasGone x gone) (sym same) h

pub kept_gone : (new next : Seated) (gone : List Gone) → new ≡ next → HasGone next.0.absorbed gone → HasGone new.0.absorbed gone
kept_gone new next gone is h = subst (λ (z : Seated). HasGone z.0.absorbed gone) (sym is) h

-- nothing was absorbed at first
pub first_gone : (settings : Configuration) (me : Seated) (gone : List Gone) → me ≡ (newcomer settings, []) → IsSpare gone → HasGone me.0.absorbed gone
first_gone settings me gone is spare = subst (λ (z : Seated). HasGone z.0.absorbed gone) (sym is) spare

are_append : (xs ys : List (ℕ × Mine)) (gs hs : List Gone) → AreGone xs gs → AreGone ys hs → AreGone (xs ++ ys) (gs ++ hs)
are_append [] ys [] hs a b = b
are_append [] ys (g ∷ gs) hs a b = absurd a
are_append (x ∷ xs) ys [] hs a b = absurd a
are_append (x ∷ xs) ys (g ∷ gs) hs a b = (a.0, a.1, are_append xs ys gs hs a.2 b)

-- the row of one more, and those that it kept
pub more_gone : (xs ys : List (ℕ × Mine)) (gone other : List Gone) (o actor : ℕ) (m : Mine) (row : ActorRow) → actor ≡ o → m.part ≡ row_actor m.note.board.settings m.part row → HasGone xs gone → HasGone ys other
    → HasGone (xs ++ (o, over m) ∷ ys) (gone ++ record { actor = actor; row = ended_row row } ∷ drop 1 other)
more_gone xs ys [] other o actor m row is row_is a b = absurd a
more_gone xs ys (own ∷ gone) [] o actor m row is row_is a b = absurd b
more_gone xs ys (own ∷ gone) (its ∷ other) o actor m row is row_is a b =
    (a.0, are_append xs ((o, over m) ∷ ys) gone (record { actor = actor; row = ended_row row } ∷ other) a.1 (is, ap ended row_is, b.1))

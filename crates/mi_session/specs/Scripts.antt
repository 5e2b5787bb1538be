-- What a script leaves: operations of one session, one after another.
use Rattle.std.specs.Prelude.{◌≡◌, ℕ, ◌+◌, List, [], ◌∷◌}
use Rattle.mi_base.specs.declared.records.Op.{Op}
use Rattle.mi_base.specs.declared.records.Reply.{Reply}
use Rattle.mi_session.specs.Sessions.{Answers}
use Rattle.mi_world.specs.View.{View}

-- Each operation has one reply, and begins at the view that the one before it left. The first has this number.
abbrev pub AnswersAll : ℕ → View → List Op → List Reply → View → Type 0
AnswersAll number v [] [] w = w ≡ v
AnswersAll number v (o ∷ os) (y ∷ ys) w = (m : View) × Answers o number v y m × AnswersAll (number + 1) m os ys w
AnswersAll number v [] (y ∷ ys) w = ⊥
AnswersAll number v (o ∷ os) [] w = ⊥

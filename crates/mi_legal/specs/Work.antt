-- What an operation costs.
use Rattle.std.specs.Prelude.{◌≡◌, ℕ, ℤ, ◌+◌, ◌≤◌, ◌||◌, List, [], ◌∷◌, Bool, true, false, length}
use Rattle.mi_base.specs.declared.records.LogEvent.{LogEvent}
use Rattle.mi_base.specs.declared.records.Op.{Op}
use Rattle.mi_base.specs.declared.records.Op.TheVariants as op
use Rattle.mi_base.specs.declared.records.Reply.{Reply}
use Rattle.mi_base.specs.declared.records.Reply.TheVariants.{Stored, Removed, Present, Absent, Full, NoPages, Memory, Range, Nearest}
use Rattle.mi_base.specs.Configuration.{Configuration, space_of}
use Rattle.mi_base.specs.History.{at_position}
use Rattle.mi_legal.specs.Want.{is_memory}
use Rattle.mi_rules.specs.Passing.{kth_distance, reached_objects}

-- a range query takes one step for each distance that its reply tells
abbrev pub Works : ℕ → Reply → ℕ → Type 0
Works steps (Stored n) steps' = Unit {0}
Works steps (Removed n) steps' = Unit {0}
Works steps (Present p) steps' = Unit {0}
Works steps (Absent p) steps' = Unit {0}
Works steps (Full limit) steps' = Unit {0}
Works steps (NoPages limit) steps' = Unit {0}
Works steps Memory steps' = Unit {0}
Works steps (Range p rows cells distances) steps' = steps' ≡ steps + distances
Works steps (Nearest p rows cells) steps' = Unit {0}

-- how many live objects the cells have that have to be opened for the nearest at a position
abbrev pub objects_reached : Configuration → List LogEvent → ℕ → List ℤ → Reply → ℕ
objects_reached c log count query (Stored n) = 0
objects_reached c log count query (Removed n) = 0
objects_reached c log count query (Present p) = 0
objects_reached c log count query (Absent p) = 0
objects_reached c log count query (Full limit) = 0
objects_reached c log count query (NoPages limit) = 0
objects_reached c log count query Memory = 0
objects_reached c log count query (Range p rows cells distances) = 0
objects_reached c log count query (Nearest p rows cells) = reached_objects (space_of c) c.levels (at_position log p) query (kth_distance count rows)

-- a query for the nearest takes one step for each pivot, and at most one for each of these objects
abbrev pub WorksNearest : Configuration → List LogEvent → ℕ → List ℤ → ℕ → Reply → ℕ → Type 0
WorksNearest c log count query steps (Stored n) steps' = Unit {0}
WorksNearest c log count query steps (Removed n) steps' = Unit {0}
WorksNearest c log count query steps (Present p) steps' = Unit {0}
WorksNearest c log count query steps (Absent p) steps' = Unit {0}
WorksNearest c log count query steps (Full limit) steps' = Unit {0}
WorksNearest c log count query steps (NoPages limit) steps' = Unit {0}
WorksNearest c log count query steps Memory steps' = Unit {0}
WorksNearest c log count query steps (Range p rows cells distances) steps' = Unit {0}
WorksNearest c log count query steps (Nearest p rows cells) steps' = (steps + length c.pivots ≤ steps') × (steps' ≤ steps + length c.pivots + objects_reached c log count query (Nearest p rows cells))

-- an answer is missing, so that its steps aren't told
abbrev pub lacks_answer : Op → Reply → Bool
lacks_answer (op.Insert id vector) y = false
lacks_answer (op.Delete id) y = false
lacks_answer (op.Range radius query) y = is_memory y
lacks_answer (op.Nearest count query) y = is_memory y

-- The least and the greatest number of steps of an operation with such a reply, where they are told: each operation stands here by name, and
-- each reply where it tells. An insert's vector may have been measured whatever the reply.
abbrev pub least_steps : Configuration → Op → Reply → ℕ
least_steps c (op.Insert id vector) (Stored n) = length c.pivots
least_steps c (op.Insert id vector) (Removed n) = 0
least_steps c (op.Insert id vector) (Present p) = 0
least_steps c (op.Insert id vector) (Absent p) = 0
least_steps c (op.Insert id vector) (Full limit) = 0
least_steps c (op.Insert id vector) (NoPages limit) = 0
least_steps c (op.Insert id vector) Memory = 0
least_steps c (op.Insert id vector) (Range p rows cells distances) = 0
least_steps c (op.Insert id vector) (Nearest p rows cells) = 0
least_steps c (op.Delete id) y = 0
least_steps c (op.Range radius query) (Stored n) = 0
least_steps c (op.Range radius query) (Removed n) = 0
least_steps c (op.Range radius query) (Present p) = 0
least_steps c (op.Range radius query) (Absent p) = 0
least_steps c (op.Range radius query) (Full limit) = 0
least_steps c (op.Range radius query) (NoPages limit) = 0
least_steps c (op.Range radius query) Memory = 0
least_steps c (op.Range radius query) (Range p rows cells distances) = distances
least_steps c (op.Range radius query) (Nearest p rows cells) = 0
least_steps c (op.Nearest count query) (Stored n) = 0
least_steps c (op.Nearest count query) (Removed n) = 0
least_steps c (op.Nearest count query) (Present p) = 0
least_steps c (op.Nearest count query) (Absent p) = 0
least_steps c (op.Nearest count query) (Full limit) = 0
least_steps c (op.Nearest count query) (NoPages limit) = 0
least_steps c (op.Nearest count query) Memory = 0
least_steps c (op.Nearest count query) (Range p rows cells distances) = 0
least_steps c (op.Nearest count query) (Nearest p rows cells) = length c.pivots

abbrev pub most_steps : Configuration → List LogEvent → Op → Reply → ℕ
most_steps c log (op.Insert id vector) y = length c.pivots
most_steps c log (op.Delete id) y = 0
most_steps c log (op.Range radius query) (Stored n) = 0
most_steps c log (op.Range radius query) (Removed n) = 0
most_steps c log (op.Range radius query) (Present p) = 0
most_steps c log (op.Range radius query) (Absent p) = 0
most_steps c log (op.Range radius query) (Full limit) = 0
most_steps c log (op.Range radius query) (NoPages limit) = 0
most_steps c log (op.Range radius query) Memory = 0
most_steps c log (op.Range radius query) (Range p rows cells distances) = distances
most_steps c log (op.Range radius query) (Nearest p rows cells) = 0
most_steps c log (op.Nearest count query) (Stored n) = 0
most_steps c log (op.Nearest count query) (Removed n) = 0
most_steps c log (op.Nearest count query) (Present p) = 0
most_steps c log (op.Nearest count query) (Absent p) = 0
most_steps c log (op.Nearest count query) (Full limit) = 0
most_steps c log (op.Nearest count query) (NoPages limit) = 0
most_steps c log (op.Nearest count query) Memory = 0
most_steps c log (op.Nearest count query) (Range p rows cells distances) = 0
most_steps c log (op.Nearest count query) (Nearest p rows cells) = length c.pivots + objects_reached c log count query (Nearest p rows cells)

-- the same of operations one after another, and of scripts
abbrev pub lacks_some : List Op → List Reply → Bool
lacks_some (o ∷ os) (y ∷ ys) = lacks_answer o y || lacks_some os ys
lacks_some os ys = false

abbrev pub least_sum : Configuration → List Op → List Reply → ℕ
least_sum c (o ∷ os) (y ∷ ys) = least_steps c o y + least_sum c os ys
least_sum c os ys = 0

abbrev pub most_sum : Configuration → List LogEvent → List Op → List Reply → ℕ
most_sum c log (o ∷ os) (y ∷ ys) = most_steps c log o y + most_sum c log os ys
most_sum c log os ys = 0

abbrev pub lacks_any : List (List Op) → List (List Reply) → Bool
lacks_any (os ∷ scripts) (ys ∷ replies) = lacks_some os ys || lacks_any scripts replies
lacks_any scripts replies = false

abbrev pub least_of_all : Configuration → List (List Op) → List (List Reply) → ℕ
least_of_all c (os ∷ scripts) (ys ∷ replies) = least_sum c os ys + least_of_all c scripts replies
least_of_all c scripts replies = 0

abbrev pub most_of_all : Configuration → List LogEvent → List (List Op) → List (List Reply) → ℕ
most_of_all c log (os ∷ scripts) (ys ∷ replies) = most_sum c log os ys + most_of_all c log scripts replies
most_of_all c log scripts replies = 0

-- An operation took no fewer and no more steps than its reply tells.
abbrev pub TakesSteps : Configuration → List LogEvent → Op → Reply → ℕ → ℕ → Type 0
TakesSteps c log o y steps steps' = lacks_answer o y ≡ false → (steps + least_steps c o y ≤ steps') × (steps' ≤ steps + most_steps c log o y)

-- the scripts of a run took no fewer and no more than the sums
abbrev pub AllTakeSteps : Configuration → List LogEvent → List (List Op) → List (List Reply) → ℕ → ℕ → Type 0
AllTakeSteps c log scripts replies steps steps' =
    lacks_any scripts replies ≡ false → (steps + least_of_all c scripts replies ≤ steps') × (steps' ≤ steps + most_of_all c log scripts replies)

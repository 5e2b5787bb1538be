-- The steps of one session's section, and while others act.
use Rattle.std.proofs.Common.{◌≡◌, ℕ, ℤ, ◌+◌, ◌≤◌, List, [], ◌∷◌, ◌++◌, length, Bool, false, ◌||◌, Option, Some, None, refl, sym, ap, ◌∙◌, subst, arith, inl, inr}
use Rattle.std.specs.Prelude.{slice_get}
use Rattle.std.proofs.lemmas.Bool.{false≢true, or_parts}
use Rattle.std.proofs.lemmas.Option.{none-some, same_Some}
use Rattle.mi_base.specs.declared.records.LogEvent.{LogEvent}
use Rattle.mi_base.specs.declared.records.Op.{Op}
use Rattle.mi_base.specs.declared.records.Op.TheVariants as op
use Rattle.mi_base.specs.declared.records.Reply.{Reply}
use Rattle.mi_base.specs.declared.records.Reply.TheVariants as reply
use Rattle.mi_base.specs.Configuration.{Configuration, space_of}
use Rattle.mi_base.specs.Space.{Space}
use Rattle.mi_core.specs.State.{State}
use Rattle.mi_job.specs.declared.job.Job.{Job}
use Rattle.mi_job.specs.declared.job.Operation.{Operation}
use Rattle.mi_job.specs.declared.job.Operation.TheVariants.{Insert, Delete, Range, Nearest}
use Rattle.mi_job.specs.declared.turns.JobTurn.{JobTurn}
use Rattle.mi_job.specs.declared.turns.JobTurn.TheVariants as job
use Rattle.mi_job.specs.Claims.{IsHeld}
use Rattle.mi_job.specs.Jobs.{OperationIsBegun, TellsSpent, Ticks, Turned, asked, asked_by, least_spent, measured_for, most_spent, op_number}
use Rattle.mi_job.proofs.OthersLemmas.{spent_same}
use Rattle.mi_legal.specs.Right.{Right}
use Rattle.mi_legal.specs.Work.{lacks_answer, lacks_some, least_steps, least_sum, most_steps, most_sum}
use Rattle.mi_legal.proofs.StepLemmas.{most_grows}
use Rattle.mi_solo.specs.Solos.{Section, SoloState}
use Rattle.mi_solo.specs.States.{view_in}
use Rattle.mi_tree.specs.Growing.{Grows}
use Rattle.mi_tree.proofs.GrowingLemmas.{grows_none, grows_on}
use Rattle.mi_world.specs.View.{Others, View}
use Rattle.mi_replay.specs.declared.seats.Seat.{Seat}
use Rattle.mi_replay.specs.declared.seats.Taken.{Taken}
use Rattle.mi_replay.specs.Seats.{AsksAt, IsNext, Leaves, WaitsAt}
use Rattle.mi_replay.specs.Spending.{SeatSpends, least_by, least_under, measured_from, most_by, most_under}
use Rattle.mi_replay.proofs.SeatQueries.{next_asked}
use Rattle.mi_settle.proofs.ComingLemmas.{SameSeen}

-- the replies of a script, and one more
pub least_none : (c : Configuration) (os : List Op) → least_sum c os [] ≡ 0
least_none c [] = refl
least_none c (o ∷ os) = refl

most_none : (c : Configuration) (log : List LogEvent) (os : List Op) → most_sum c log os [] ≡ 0
most_none c log [] = refl
most_none c log (o ∷ os) = refl

lacks_none : (os : List Op) → lacks_some os [] ≡ false
lacks_none [] = refl
lacks_none (o ∷ os) = refl

least_more : (c : Configuration) (os : List Op) (ys : List Reply) (o : Op) (y : Reply) → slice_get os (length ys) ≡ Some o → least_sum c os (ys ++ y ∷ []) ≡ least_sum c os ys + least_steps c o y
least_more c [] ys o y at = absurd (none-some o at)
least_more c (p ∷ os) [] o y at = omega (arith, least_none c os, ap (λ q. least_steps c q y) (same_Some p o at))
least_more c (p ∷ os) (x ∷ ys) o y at = omega (arith, least_more c os ys o y at)

most_more : (c : Configuration) (log : List LogEvent) (os : List Op) (ys : List Reply) (o : Op) (y : Reply) → slice_get os (length ys) ≡ Some o → most_sum c log os (ys ++ y ∷ []) ≡ most_sum c log os ys + most_steps c log o y
most_more c log [] ys o y at = absurd (none-some o at)
most_more c log (p ∷ os) [] o y at = omega (arith, most_none c log os, ap (λ q. most_steps c log q y) (same_Some p o at))
most_more c log (p ∷ os) (x ∷ ys) o y at = omega (arith, most_more c log os ys o y at)

pub or_both : (x y : Bool) → x ≡ false → y ≡ false → (x || y) ≡ false
or_both x y e f = ap (λ b. b || y) e ∙ f

lacks_more : (os : List Op) (ys : List Reply) (o : Op) (y : Reply) → slice_get os (length ys) ≡ Some o → lacks_some os (ys ++ y ∷ []) ≡ false → (lacks_some os ys ≡ false) × (lacks_answer o y ≡ false)
lacks_more [] ys o y at lacks = absurd (none-some o at)
lacks_more (p ∷ os) [] o y at lacks = (refl, ap (λ q. lacks_answer q y) (sym (same_Some p o at)) ∙ (or_parts (lacks_answer p y) (lacks_some os []) lacks).0)
lacks_more (p ∷ os) (x ∷ ys) o y at lacks =
    let parts = or_parts (lacks_answer p x) (lacks_some os (ys ++ y ∷ [])) lacks in
    let rest = lacks_more os ys o y at parts.1 in
    (or_both (lacks_answer p x) (lacks_some os ys) parts.0 rest.0, rest.1)

-- nothing is spent before the first section, nor by what is held up
none_spent : (x : Operation) (o : Op) (number : ℕ) (space : Space) (v : View) → OperationIsBegun x o number space → (least_spent x v ≡ 0) × (most_spent x v ≡ 0)
none_spent (Insert i) o number space v h = (refl, refl)
none_spent (Delete delete) o number space v h = (refl, refl)
none_spent (Range range k) (op.Range radius query) number space v h = (rw h.0.work_is refl, rw h.0.work_is refl)
none_spent (Range range k) (op.Insert id vector) number space v h = absurd h
none_spent (Range range k) (op.Delete id) number space v h = absurd h
none_spent (Range range k) (op.Nearest count query) number space v h = absurd h
none_spent (Nearest nearest k) (op.Nearest count query) number space v h = (rw h.0.state_is refl, rw h.0.state_is refl)
none_spent (Nearest nearest k) (op.Insert id vector) number space v h = absurd h
none_spent (Nearest nearest k) (op.Delete id) number space v h = absurd h
none_spent (Nearest nearest k) (op.Range radius query) number space v h = absurd h

held_spent : (x : Operation) (v w : View) → IsHeld (asked_by x) w → (least_spent x v ≡ 0) × (most_spent x v ≡ 0)
held_spent (Insert i) v w h = (refl, refl)
held_spent (Delete delete) v w h = (refl, refl)
held_spent (Range range k) v w h = absurd h
held_spent (Nearest nearest k) v w h = absurd h

-- the operation whose section is next is the script's, and takes on the steps of the one under way
record Next (script : List Op) (a : Seat) (c : Configuration) (v : View) (i m : ℕ) (old : Job) : Type 0 where
  asks : slice_get script (length a.replies.items) ≡ Some (asked old)
  least : i + (measured_for (asked old) c.pivots + least_spent old.operation v) ≡ m + least_under c a.job v
  most : i + (measured_for (asked old) c.pivots + most_spent old.operation v) ≡ m + most_under c a.job v

-- what the last reply of an operation tells of its steps
stored_least : (c : Configuration) (id : ℕ) (vector : List ℤ) (y : Reply) → least_steps c (op.Insert id vector) y ≤ length c.pivots
stored_least c id vector (reply.Stored n) = omega arith
stored_least c id vector y = omega arith

record Told (c : Configuration) (log : List LogEvent) (x : Operation) (v : View) (y : Reply) : Type 0 where
  least : least_steps c (asked_by x) y ≤ measured_for (asked_by x) c.pivots + least_spent x v
  most : (more : List LogEvent) → measured_for (asked_by x) c.pivots + most_spent x v ≤ most_steps c (log ++ more) (asked_by x) y

told : (x : Operation) (v w : View) (allotted n : ℕ) (y : Reply) → Right w.settings w.seen allotted w.actor n (asked_by x) y → TellsSpent x v w y → lacks_answer (asked_by x) y ≡ false → Told w.settings w.seen x v y
told (Insert i) v w allotted n y r h lacks = record { least = omega (arith, stored_least w.settings i.insert.id i.insert.vector y); most = λ more. omega arith }
told (Delete delete) v w allotted n y r h lacks = record { least = omega arith; most = λ more. omega arith }
told (Range range k) v w allotted n (reply.Range p rows cells distances) r h lacks = record { least = omega (arith, h); most = λ more. omega (arith, h) }
told (Range range k) v w allotted n reply.Memory r h lacks = absurd (false≢true (sym lacks))
told (Range range k) v w allotted n y r h lacks = absurd r
told (Nearest nearest k) v w allotted n (reply.Nearest p rows cells) r h lacks = record {
  least = omega (arith, h.0);
  most = λ more. omega (arith, h.1, most_grows w.settings w.seen more allotted w.actor n (op.Nearest nearest.count nearest.query) (reply.Nearest p rows cells) r);
}
told (Nearest nearest k) v w allotted n reply.Memory r h lacks = absurd (false≢true (sym lacks))
told (Nearest nearest k) v w allotted n y r h lacks = absurd r

-- one section of a session
module _ (k : ℕ) (script : List Op) (s : State) (a : Seat) (i m n : ℕ) (old new : Job) (r : Taken) (b : Seat) (t : State) where
  abbrev c : Configuration
  c = s.board.settings

  abbrev v : View
  v = view_in s k

  abbrev w : View
  w = view_in t k

  next_of : (o : Option Job) → a.job ≡ o → AsksAt script (length a.replies.items) o → IsNext (space_of c) script a o old → m ≡ i + measured_from o (Some old) c.pivots → Next script a c v i m old
  next_of None is asks next measured =
      let none = none_spent old.operation next.0 (length a.replies.items + 1) (space_of c) v next.2.operation in
      record {
        asks = next_asked script a None old (space_of c) v asks next;
        least = omega (arith, none.0, ap (λ o. least_under c o v) is, measured);
        most = omega (arith, none.1, ap (λ o. most_under c o v) is, measured);
      }
  next_of (Some j) is asks next measured = record {
    asks = next_asked script a (Some j) old (space_of c) v asks next;
    least = omega (arith, ap (λ (x : Job). measured_for (asked x) c.pivots + least_spent x.operation v) next, ap (λ o. least_under c o v) is, measured);
    most = omega (arith, ap (λ (x : Job). measured_for (asked x) c.pivots + most_spent x.operation v) next, ap (λ o. most_under c o v) is, measured);
  }

  -- what the session has taken after it
  least_now : t.board.settings ≡ c → (ys : List Reply) (o : Option Job) → b.replies.items ≡ ys → b.job ≡ o → least_by t k script b ≡ least_sum c script ys + least_under c o w
  least_now e ys o replies is =
      ap (λ (z : Configuration). least_sum z script b.replies.items + least_under z b.job w) e ∙ ap (λ (zs : List Reply). least_sum c script zs + least_under c b.job w) replies
      ∙ ap (λ (x : Option Job). least_sum c script ys + least_under c x w) is

  most_now : (log : List LogEvent) → t.board.settings ≡ c → (ys : List Reply) (o : Option Job) → b.replies.items ≡ ys → b.job ≡ o → most_by log t k script b ≡ most_sum c log script ys + most_under c o w
  most_now log e ys o replies is =
      ap (λ (z : Configuration). most_sum z log script b.replies.items + most_under z b.job w) e ∙ ap (λ (zs : List Reply). most_sum c log script zs + most_under c b.job w) replies
      ∙ ap (λ (x : Option Job). most_sum c log script ys + most_under c x w) is

  spends_by : (answer : JobTurn) → Next script a c v i m old → Turned old v answer new w → Ticks old v m answer new w n → Leaves a answer r (Some new) b → SeatSpends k script s a i t b n
  spends_by job.More next x ticks l =
      let same = ap (λ (o : Op). measured_for o c.pivots) x.asked_is in
      record {
        grows = x.later.grows;
        lacks = λ none. ap (λ (ys : List Reply). lacks_some script ys) (sym l.2) ∙ none;
        least = λ none. omega (arith, least_now x.later.settings a.replies.items (Some new) l.2 l.1, same, next.least, ticks.0);
        most = λ none log g. omega (arith, most_now log x.later.settings a.replies.items (Some new) l.2 l.1, same, next.most, ticks.1);
      }
  spends_by job.Held next x ticks l =
      let same = ap (λ (o : Op). measured_for o c.pivots) x.asked_is in
      let was = held_spent old.operation v w x.outcome.2 in
      let now = held_spent old.operation w w x.outcome.2 in
      let least : least_spent new.operation w ≡ 0 = ap (λ o. least_spent o w) x.outcome.1 ∙ now.0 in
      let most : most_spent new.operation w ≡ 0 = ap (λ o. most_spent o w) x.outcome.1 ∙ now.1 in
      record {
        grows = x.later.grows;
        lacks = λ none. ap (λ (ys : List Reply). lacks_some script ys) (sym l.2) ∙ none;
        least = λ none. omega (arith, least_now x.later.settings a.replies.items (Some new) l.2 l.1, same, next.least, ticks, was.0, least);
        most = λ none log g. omega (arith, most_now log x.later.settings a.replies.items (Some new) l.2 l.1, same, next.most, ticks, was.1, most);
      }
  spends_by (job.Done y) next x ticks l =
      let parts : lacks_some script b.replies.items ≡ false → (lacks_some script a.replies.items ≡ false) × (lacks_answer (asked old) y ≡ false) =
      λ none. lacks_more script a.replies.items (asked old) y next.asks (ap (λ (ys : List Reply). lacks_some script ys) (sym l.2) ∙ none) in
      let tells : lacks_some script b.replies.items ≡ false → Told c w.seen old.operation v y =
      λ none. subst (λ (z : Configuration). Told z w.seen old.operation v y) x.later.settings
      (told old.operation v w w.settings.pages (op_number old) y (x.outcome.right w.settings.pages (λ h. refl)) x.outcome.spent (parts none).1) in
      record {
        grows = x.later.grows;
        lacks = λ none. (parts none).0;
        least = λ none.
            omega (
              arith,
              least_now x.later.settings (a.replies.items ++ y ∷ []) None l.2 l.1,
              least_more c script a.replies.items (asked old) y next.asks,
              next.least,
              ticks,
              (tells none).least,
            );
        most = λ none log g.
            let here : measured_for (asked old) c.pivots + most_spent old.operation v ≤ most_steps c log (asked old) y =
            subst (λ (z : List LogEvent). measured_for (asked old) c.pivots + most_spent old.operation v ≤ most_steps c z (asked old) y) (sym g.is) ((tells none).most g.by) in
            omega (
              arith,
              most_now log x.later.settings (a.replies.items ++ y ∷ []) None l.2 l.1,
              most_more c log script a.replies.items (asked old) y next.asks,
              next.most,
              ticks,
              here,
            );
      }

  pub section_spends : (answer : JobTurn) → AsksAt script (length a.replies.items) a.job → IsNext (space_of c) script a a.job old → m ≡ i + measured_from a.job (Some old) c.pivots
      → Turned old v answer new w → Ticks old v m answer new w n → Leaves a answer r (Some new) b → SeatSpends k script s a i t b n
  section_spends answer asks next measured x ticks l = spends_by answer (next_of a.job refl asks next measured) x ticks l

-- what a section leaves is told of the replies before it, and it stays its actor's turn
pub leaves_on : (d a : Seat) (answer : JobTurn) (r : Taken) (o : Option Job) (b : Seat) → d.replies ≡ a.replies → Leaves d answer r o b → Leaves a answer r o b
leaves_on d a job.More r o b same l = (l.0, l.1, l.2 ∙ ap (λ ys. ys.items) same)
leaves_on d a job.Held r o b same l = (l.0, l.1, l.2 ∙ ap (λ ys. ys.items) same)
leaves_on d a (job.Done y) r o b same l = (l.0, l.1, l.2 ∙ ap (λ ys. ys.items ++ y ∷ []) same)

pub same_turn : (x y : SoloState) → Section x y → y.turn ≡ x.turn
same_turn x y (inl same) = ap (λ (z : SoloState). z.turn) same
same_turn x y (inr moved) = moved.0

-- no turn, and turns after turns
pub spends_none : (k : ℕ) (script : List Op) (s : State) (a : Seat) (n : ℕ) → SeatSpends k script s a n s a n
spends_none k script s a n = record { grows = grows_none s.board.log; lacks = λ none. none; least = λ none. omega arith; most = λ none log g. omega arith }

pub spends_on : (k : ℕ) (script : List Op) (s m t : State) (a d b : Seat) (i j n : ℕ) → SeatSpends k script s a i m d j → SeatSpends k script m d j t b n → SeatSpends k script s a i t b n
spends_on k script s m t a d b i j n h g = record {
  grows = grows_on s.board.log m.board.log t.board.log h.grows g.grows;
  lacks = λ none. h.lacks (g.lacks none);
  least = λ none. omega (arith, g.least none, h.least (g.lacks none));
  most = λ none log more. omega (arith, g.most none log more, h.most (g.lacks none) log (grows_on m.board.log t.board.log log g.grows more));
}

-- the session comes to its turn
pub spends_from : (k : ℕ) (script : List Op) (s m t : State) (a b : Seat) (i n : ℕ) → SameSeen s k m → SeatSpends k script m a i t b n → SeatSpends k script s a i t b n
spends_from k script s m t a b i n same h =
    let board = same.board in
    record {
      grows = subst (λ x. Grows x.log t.board.log) board h.grows;
      lacks = h.lacks;
      least = λ none. omega (
        arith,
        h.least none,
        ap (λ x. least_sum x.settings script a.replies.items + least_under x.settings a.job (view_in m k)) board,
        ap (λ x. least_under s.board.settings a.job x) same.view,
      );
      most = λ none log g. omega (
        arith,
        h.most none log g,
        ap (λ x. most_sum x.settings log script a.replies.items + most_under x.settings a.job (view_in m k)) board,
        ap (λ x. most_under s.board.settings a.job x) same.view,
      );
    }

-- while others act
module _ (s t : State) (k : ℕ) (script : List Op) (a : Seat) (o : Others (view_in s k) (view_in t k)) where
  under_same : (x : Option Job) → WaitsAt x (view_in s k)
      → (least_under s.board.settings x (view_in t k) ≡ least_under s.board.settings x (view_in s k)) × (most_under s.board.settings x (view_in t k) ≡ most_under s.board.settings x (view_in s k))
  under_same None h = (refl, refl)
  under_same (Some j) h =
      let same = spent_same (view_in s k) (view_in t k) o j.operation j.begun h.operation in
      (omega (arith, same.1), omega (arith, same.0))

  pub least_stays : WaitsAt a.job (view_in s k) → least_by t k script a ≡ least_by s k script a
  least_stays h =
      ap (λ (c : Configuration). least_sum c script a.replies.items + least_under c a.job (view_in t k)) o.later.settings
      ∙ ap (λ n. least_sum s.board.settings script a.replies.items + n) (under_same a.job h).0

  pub most_stays : (log : List LogEvent) → WaitsAt a.job (view_in s k) → most_by log t k script a ≡ most_by log s k script a
  most_stays log h =
      ap (λ (c : Configuration). most_sum c log script a.replies.items + most_under c a.job (view_in t k)) o.later.settings
      ∙ ap (λ n. most_sum s.board.settings log script a.replies.items + n) (under_same a.job h).1

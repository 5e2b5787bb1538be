-- A crew that has worked, as its workers are absorbed one after another.
use Rattle.std.proofs.Common.{◌≡◌, ℕ, ℤ, suc, ◌+◌, ◌<◌, ◌≤◌, List, [], ◌∷◌, ◌++◌, map, length, Bool, true, false, IsTrue, ◌||◌, Option, Some, None, refl, sym, ap, ◌∙◌, subst, arith, append_assoc, append-nil, length-append, inl, inr}
use Rattle.std.specs.Prelude.{◌==◌, drop, slice_index_or, take, vec_capacity}
use Rattle.std.specs.List.{AllByRecursion, AllZip}
use Rattle.std.proofs.lemmas.Bool.{false≢true}
use Rattle.std.proofs.lemmas.Bool.Decides.{eqb_tells}
use Rattle.std.proofs.lemmas.Option.{same_Some}
use Rattle.atomic_table.specs.Seated.{TableId}
use Rattle.mi_base.specs.declared.records.Op.{Op}
use Rattle.mi_base.specs.declared.records.Reply.{Reply}
use Rattle.mi_base.specs.Configuration.{Configuration, IsWithinLimits, metric_space}
use Rattle.mi_base.specs.History.{Entered}
use Rattle.mi_base.specs.Scripts.{IsScriptOver}
use Rattle.mi_base.specs.Space.{MetricSpace}
use Rattle.mi_hall.specs.Families.{Sees}
use Rattle.mi_hall.specs.Passes.{PassState, place_view}
use Rattle.mi_job.specs.Claims.{ClaimsNone}
use Rattle.mi_session.specs.Scripts.{AnswersAll}
use Rattle.mi_session.specs.Sessions.{IsSeated}
use Rattle.mi_session.proofs.ScriptLemmas.{all_actors, all_claims, all_later}
use Rattle.mi_session.proofs.SessionLemmas.{absorb_leaves}
use Rattle.mi_tree.specs.Growing.{Grows}
use Rattle.mi_tree.proofs.GrowingLemmas.{grows_none, grows_on}
use Rattle.mi_world.specs.Families.{Absorbs}
use Rattle.mi_world.specs.View.{Absorbed, View}
use Rattle.mi_run.specs.declared.workers.Task.{Task}
use Rattle.mi_run.specs.declared.workers.Task.TheVariants.{Script, Tend}
use Rattle.mi_run.specs.declared.workers.Worker.{Worker}
use Rattle.mi_run.specs.Crews.{AreAnswered, AreToServe, Ascends, HasAbsorbed, HasMade, HasScript, HaveWorked, IsAnswered, IsClient, IsCrew, IsDone, IsGathered, IsNew, IsTender, Starts, ToTend, absorbed_numbers, absorbed_own, first_place, number_at, numbers, replied}
use Rattle.mi_run.proofs.CrewLemmas.{numbers_more}
use Rattle.mi_run.specs.Workers.{Does, HasWorked, MayDo, MayWork, Serves, Tends, ToServe}

-- what an actor is to one who absorbs it
pub record IsMember (c : Configuration) (t : TableId) (made : List ℕ) (p : PassState) : Type 0 where
  pub table : p.table ≡ t
  pub settings : (place_view p).settings ≡ c
  pub claims : ClaimsNone (place_view p)
  pub absorbed : (place_view p).absorbed ≡ []
  pub forked : (place_view p).forked ≡ made

-- a client that has served its script
pub record HasServed {R : Type 0} (c : Configuration) (t : TableId) (made : List ℕ) (s : List Op) (w : Worker R) : Type 0 where
  pub at : PassState
  pub place : w.place ≡ Some at
  pub task : HasScript w.task
  pub member : IsMember c t made at
  pub first : View
  pub none : first.own ≡ []
  pub between : View
  pub answers : AnswersAll 1 first s (replied w.task) between
  pub settings : between.settings ≡ c
  pub leaves : Sees between (place_view at)

pub claims_same : (v w : View) → Sees v w → ClaimsNone v → ClaimsNone w
claims_same v w h free = record {
  nothing = record {
    shard = h.same.work.update.shard ∙ free.nothing.shard;
    leaf = h.same.work.leaf.leaf ∙ free.nothing.leaf;
    sweep = h.same.work.apart.sweep.sweep ∙ free.nothing.sweep;
    pin = h.same.work.apart.pin ∙ free.nothing.pin;
  };
  unsplit = h.same.work.apart.split.splitting ∙ free.unsplit;
}

module _ {R : Type 0} (c : Configuration) (t : TableId) (made : List ℕ) (s : List Op) (old new : Worker R) (p : PassState) (was : old.place ≡ Some p) (table : p.table ≡ t) (settings : (place_view p).settings ≡ c)
    (claims : ClaimsNone (place_view p)) (own : (place_view p).own ≡ []) (absorbed : (place_view p).absorbed ≡ []) (forked : (place_view p).forked ≡ made) (to : ToServe s old.task)
    (h : HasWorked old new) where
  before_is : h.before ≡ p
  before_is = same_Some h.before p (sym h.was ∙ was)

  done_by : (x y : Task) → ToServe s x → Does x h.before y h.after → HasScript y × Serves s p (replied y) h.after
  done_by (Script a replies) (Script b done) to does =
      (tt, subst (λ q. Serves s q done.items h.after) before_is (subst (λ os. Serves os h.before done.items h.after) to.0 does.1))
  done_by (Script a replies) (Tend wanted) to does = absurd does
  done_by (Tend wanted) y to does = absurd to

  pub served_by : HasServed c t made s new
  served_by =
      let d = done_by old.task new.task to h.does in
      let serves = d.1 in
      let later = all_later 1 (place_view p) s (replied new.task) serves.between serves.answers in
      let actors = all_actors 1 (place_view p) s (replied new.task) serves.between serves.answers in
      let free : ClaimsNone serves.between = all_claims 1 (place_view p) s (replied new.task) serves.between serves.answers claims in
      record {
        at = h.after;
        place = h.place;
        task = d.0;
        member = record {
          table = serves.table ∙ table;
          settings = serves.leaves.later.settings ∙ later.settings ∙ settings;
          claims = claims_same serves.between (place_view h.after) serves.leaves free;
          absorbed = serves.leaves.same.work.apart.actors.absorbed ∙ actors.absorbed ∙ absorbed;
          forked = serves.leaves.same.work.apart.actors.forked ∙ actors.forked ∙ forked;
        };
        first = place_view p;
        none = own;
        between = serves.between;
        answers = serves.answers;
        settings = later.settings ∙ settings;
        leaves = serves.leaves;
      }

  pub served_number : number_at new.place ≡ number_at old.place
  served_number =
      let serves = (done_by old.task new.task to h.does).1 in
      ap number_at h.place ∙ serves.leaves.later.actor ∙ (all_later 1 (place_view p) s (replied new.task) serves.between serves.answers).actor ∙ sym (ap number_at was)

-- the worker that splits and sweeps, when it has ended
pub record HasTended {R : Type 0} (c : Configuration) (t : TableId) (w : Worker R) : Type 0 where
  pub at : PassState
  pub place : w.place ≡ Some at
  pub task : ToTend w.task
  pub member : IsMember c t [] at
  pub own : (place_view at).own ≡ []

module _ {R : Type 0} (c : Configuration) (t : TableId) (old new : Worker R) (start : Starts c t old) (to : ToTend old.task) (h : HasWorked old new) where
  tended_as : (x y : Task) → ToTend x → Does x h.before y h.after → ToTend y × Tends h.before h.after
  tended_as (Script a replies) y to does = absurd to
  tended_as (Tend wanted) (Script b made) to does = absurd does
  tended_as (Tend wanted) (Tend now) to does = (tt, does)

  tends : Tends start.at h.after
  tends = subst (λ q. Tends q h.after) (same_Some h.before start.at (sym h.was ∙ start.place)) (tended_as old.task new.task to h.does).1

  pub tended_by : HasTended c t new
  tended_by = record {
    at = h.after;
    place = h.place;
    task = (tended_as old.task new.task to h.does).0;
    member = record {
      table = tends.table ∙ start.table;
      settings = tends.later.settings ∙ start.new.settings;
      claims = tends.claims;
      absorbed = tends.actors.absorbed ∙ start.new.absorbed;
      forked = tends.actors.forked ∙ start.new.forked;
    };
    own = tends.own ∙ start.new.own;
  }

  pub tended_number : number_at new.place ≡ number_at old.place
  tended_number = ap number_at h.place ∙ tends.later.actor ∙ sym (ap number_at start.place)

-- the clients behind the first
pub all_served : {R : Type 0} → (c : Configuration) (t : TableId) (ss : List (List Op)) (olds news : List (Worker R)) → AllByRecursion (Starts c t) olds → AreToServe ss olds → HaveWorked olds news
    → AllZip (HasServed c t []) ss news × (numbers news ≡ numbers olds)
all_served c t [] [] [] start to worked = (tt, refl)
all_served c t (s ∷ ss) (o ∷ olds) (n ∷ news) start to worked =
    let x = start.0 in
    let more = all_served c t ss olds news start.1 to.1 worked.1 in (
      (served_by c t [] s o n x.at x.place x.table x.new.settings x.new.claims x.new.own x.new.absorbed x.new.forked to.0 worked.0, more.0),
      ap (λ k. k ∷ numbers news) (served_number c t [] s o n x.at x.place x.table x.new.settings x.new.claims x.new.own x.new.absorbed x.new.forked to.0 worked.0)
          ∙ ap (λ ks. number_at o.place ∷ ks) more.1,
    )
all_served c t [] [] (n ∷ news) start to worked = absurd worked
all_served c t [] (o ∷ olds) news start to worked = absurd to
all_served c t (s ∷ ss) [] news start to worked = absurd to
all_served c t (s ∷ ss) (o ∷ olds) [] start to worked = absurd worked

-- the last of two lists that belong together
record Ends {X Y : Type 0} (R : X → Y → Type 0) (xs : List X) (x : X) (zs : List Y) : Type 0 where
  front : List Y
  last : Y
  is : zs ≡ front ++ last ∷ []
  fronts : AllZip R xs front
  lasts : R x last

ends : {X Y : Type 0} (R : X → Y → Type 0) (xs : List X) (x : X) (zs : List Y) → AllZip R (xs ++ x ∷ []) zs → Ends R xs x zs
ends R [] x [] h = absurd h
ends R [] x (z ∷ []) h = record { front = []; last = z; is = refl; fronts = tt; lasts = h.0 }
ends R [] x (z ∷ (y ∷ zs)) h = absurd h.1
ends R (w ∷ xs) x [] h = absurd h
ends R (w ∷ xs) x (z ∷ zs) h =
    let e = ends R xs x zs h.1 in
    record { front = z ∷ e.front; last = e.last; is = ap (λ ys. z ∷ ys) e.is; fronts = (h.0, e.fronts); lasts = e.lasts }

front_all : {X : Type 0} (P : X → Type 0) (xs : List X) (x : X) → AllByRecursion P (xs ++ x ∷ []) → AllByRecursion P xs × P x
front_all P [] x h = (tt, h.0)
front_all P (y ∷ xs) x h = let more = front_all P xs x h.1 in ((h.0, more.0), more.1)

-- the workers of a crew that has worked
pub record HasParts {R : Type 0} (c : Configuration) (t : TableId) (scripts : List (List Op)) (workers : List (Worker R)) : Type 0 where
  pub client : Worker R
  pub others : List (Worker R)
  pub tender : Worker R
  pub all : workers ≡ client ∷ (others ++ tender ∷ [])
  pub script : List Op
  pub more : List (List Op)
  pub scripts_are : scripts ≡ script ∷ more
  pub first : HasServed c t (numbers (others ++ tender ∷ [])) script client
  pub zero : number_at client.place ≡ 0
  pub served : AllZip (HasServed c t []) more others
  pub tended : HasTended c t tender
  pub ascends : Ascends 0 (numbers (others ++ tender ∷ []))

parts_of : {R : Type 0} → (c : Configuration) (t : TableId) (scripts : List (List Op)) (olds workers : List (Worker R)) → IsCrew c t scripts olds → HaveWorked olds workers → HasParts c t scripts workers
parts_of {R = R} c t scripts olds workers crew worked = by scripts workers crew.serve (subst (λ os. HaveWorked os workers) crew.all worked)
  where
    m : HasMade c t crew.first (crew.others ++ crew.tender ∷ [])
    m = crew.made

    by : (scripts : List (List Op)) (workers : List (Worker R)) → AreToServe scripts (crew.client ∷ crew.others) → HaveWorked (crew.client ∷ (crew.others ++ crew.tender ∷ [])) workers
        → HasParts c t scripts workers
    by [] workers to worked = absurd to
    by (s ∷ ss) [] to worked = absurd worked
    by (s ∷ ss) (w ∷ ws) to worked =
        let e = ends HasWorked crew.others crew.tender ws worked.1 in
        let start = front_all (Starts c t) crew.others crew.tender m.starts in
        let served = all_served c t ss crew.others e.front start.0 to.1 e.fronts in
        let last = tended_number c t crew.tender e.last start.1 crew.tends e.lasts in
        let same : numbers (e.front ++ e.last ∷ []) ≡ numbers (crew.others ++ crew.tender ∷ [])
        = numbers_more e.front e.last ∙ ap (λ ks. ks ++ number_at e.last.place ∷ []) served.1 ∙ ap (λ k. numbers crew.others ++ k ∷ []) last ∙ sym (numbers_more crew.others crew.tender) in
        record {
          client = w;
          others = e.front;
          tender = e.last;
          all = ap (λ ys. w ∷ ys) e.is;
          script = s;
          more = ss;
          scripts_are = refl;
          first = served_by c t (numbers (e.front ++ e.last ∷ [])) s crew.client w crew.first crew.place m.table m.settings m.claims m.own m.absorbed (m.forked ∙ sym same) to.0 worked.0;
          zero = served_number c t (numbers (e.front ++ e.last ∷ [])) s crew.client w crew.first crew.place m.table m.settings m.claims m.own m.absorbed (m.forked ∙ sym same) to.0 worked.0
              ∙ ap number_at crew.place ∙ m.zero;
          served = served.0;
          tended = tended_by c t crew.tender e.last start.1 crew.tends e.lasts;
          ascends = subst (Ascends 0) (sym same) m.ascends;
        }

pub has_parts : {R : Type 0} → (scripts : List (List Op)) (workers : List (Worker R)) (d : IsDone scripts workers) → HasParts d.settings d.table scripts workers
has_parts scripts workers d = parts_of d.settings d.table scripts d.olds workers d.crew d.worked

-- an actor that was absorbed, with its updates
pub record Gathering {R : Type 0} (c : Configuration) (t : TableId) (made : List ℕ) (script : List Op) (more : List (List Op)) (done : List (Worker R)) (p : PassState) (replies : List (List Reply)) : Type 0 where
  pub member : (p.table ≡ t) × ((place_view p).settings ≡ c) × ClaimsNone (place_view p)
  pub zero : (place_view p).actor ≡ 0
  pub forked : (place_view p).forked ≡ made
  pub numbers_are : absorbed_numbers (place_view p).absorbed ≡ numbers done
  pub answered : AreAnswered (place_view p) (0 ∷ absorbed_numbers (place_view p).absorbed) (script ∷ more) replies ((place_view p).own ∷ absorbed_own (place_view p).absorbed)

-- what one has seen, one who has seen more has seen
answered_later : (v w : View) (k : ℕ) (s : List Op) (ys : List Reply) (own : List Entered) → Grows v.seen w.seen → w.settings ≡ v.settings → (IsTrue v.told → IsTrue w.told)
    → IsAnswered v k s ys own → IsAnswered w k s ys own
answered_later v w k s ys own grows same told h = record {
  first = h.first;
  none = h.none;
  between = h.between;
  answers = h.answers;
  settings = h.settings ∙ sym same;
  actor = h.actor;
  own_is = h.own_is;
  grows = grows_on h.between.seen v.seen w.seen h.grows grows;
  told = λ x. told (h.told x);
}

all_answered_later : (v w : View) (ks : List ℕ) (ss : List (List Op)) (yss : List (List Reply)) (owns : List (List Entered)) → Grows v.seen w.seen → w.settings ≡ v.settings
    → (IsTrue v.told → IsTrue w.told) → AreAnswered v ks ss yss owns → AreAnswered w ks ss yss owns
all_answered_later v w [] [] [] [] grows same told h = tt
all_answered_later v w (k ∷ ks) (s ∷ ss) (ys ∷ yss) (own ∷ owns) grows same told h =
    (answered_later v w k s ys own grows same told h.0, all_answered_later v w ks ss yss owns grows same told h.1)
all_answered_later v w [] (s ∷ ss) yss owns grows same told h = absurd h
all_answered_later v w [] [] (ys ∷ yss) owns grows same told h = absurd h
all_answered_later v w [] [] [] (own ∷ owns) grows same told h = absurd h
all_answered_later v w (k ∷ ks) [] yss owns grows same told h = absurd h
all_answered_later v w (k ∷ ks) (s ∷ ss) [] owns grows same told h = absurd h
all_answered_later v w (k ∷ ks) (s ∷ ss) (ys ∷ yss) [] grows same told h = absurd h

answered_more : (v : View) (ks : List ℕ) (ss : List (List Op)) (yss : List (List Reply)) (owns : List (List Entered)) (k : ℕ) (s : List Op) (ys : List Reply) (own : List Entered)
    → AreAnswered v ks ss yss owns → IsAnswered v k s ys own → AreAnswered v (ks ++ k ∷ []) (ss ++ s ∷ []) (yss ++ ys ∷ []) (owns ++ own ∷ [])
answered_more v [] [] [] [] k s ys own h one = (one, tt)
answered_more v (i ∷ ks) (r ∷ ss) (zs ∷ yss) (es ∷ owns) k s ys own h one = (h.0, answered_more v ks ss yss owns k s ys own h.1 one)
answered_more v [] (r ∷ ss) yss owns k s ys own h one = absurd h
answered_more v [] [] (zs ∷ yss) owns k s ys own h one = absurd h
answered_more v [] [] [] (es ∷ owns) k s ys own h one = absurd h
answered_more v (i ∷ ks) [] yss owns k s ys own h one = absurd h
answered_more v (i ∷ ks) (r ∷ ss) [] owns k s ys own h one = absurd h
answered_more v (i ∷ ks) (r ∷ ss) (zs ∷ yss) [] k s ys own h one = absurd h

numbers_on : (xs : List Absorbed) (x : Absorbed) → absorbed_numbers (xs ++ x ∷ []) ≡ absorbed_numbers xs ++ x.actor ∷ []
numbers_on [] x = refl
numbers_on (y ∷ xs) x = ap (λ ks. y.actor ∷ ks) (numbers_on xs x)

own_on : (xs : List Absorbed) (x : Absorbed) → absorbed_own (xs ++ x ∷ []) ≡ absorbed_own xs ++ x.own ∷ []
own_on [] x = refl
own_on (y ∷ xs) x = ap (λ es. y.own ∷ es) (own_on xs x)

-- what a client replied, by one who has seen all that it saw
served_answer : {R : Type 0} → (c : Configuration) (t : TableId) (made : List ℕ) (s : List Op) (w : Worker R) (p : PassState) (v : View) → HasServed c t made s w → w.place ≡ Some p → v.settings ≡ c
    → Grows (place_view p).seen v.seen → (IsTrue (place_view p).told → IsTrue v.told) → IsAnswered v (place_view p).actor s (replied w.task) (place_view p).own
served_answer c t made s w p v h at same grows told =
    let here : h.at ≡ p = same_Some h.at p (sym h.place ∙ at) in
    let leaves : Sees h.between (place_view p) = subst (λ q. Sees h.between (place_view q)) here h.leaves in
    record {
      first = h.first;
      none = h.none;
      between = h.between;
      answers = h.answers;
      settings = h.settings ∙ sym same;
      actor = sym leaves.later.actor;
      own_is = leaves.same.work.update.own;
      grows = grows_on h.between.seen (place_view p).seen v.seen leaves.later.grows grows;
      told = λ x. told (leaves.later.told x);
    }

at_place : {R : Type 0} → (c : Configuration) (t : TableId) (made : List ℕ) (s : List Op) (w : Worker R) (p : PassState) → HasServed c t made s w → w.place ≡ Some p → IsMember c t made p
at_place c t made s w p h at = subst (IsMember c t made) (same_Some h.at p (sym h.place ∙ at)) h.member

pub gather_first : {R : Type 0} → (c : Configuration) (t : TableId) (made : List ℕ) (s : List Op) (w : Worker R) (p : PassState) → HasServed c t made s w → number_at w.place ≡ 0 → w.place ≡ Some p
    → Gathering {R = R} c t made s [] [] p (replied w.task ∷ [])
gather_first c t made s w p h zero at =
    let m = at_place c t made s w p h at in
    let actor : (place_view p).actor ≡ 0 = sym (ap number_at at) ∙ zero in
    record {
      member = (m.table, m.settings, m.claims);
      zero = actor;
      forked = m.forked;
      numbers_are = ap absorbed_numbers m.absorbed;
      answered = subst (λ xs. AreAnswered (place_view p) (0 ∷ absorbed_numbers xs) (s ∷ []) (replied w.task ∷ []) ((place_view p).own ∷ absorbed_own xs)) (sym m.absorbed) (
        subst (λ k. IsAnswered (place_view p) k s (replied w.task) (place_view p).own) actor
            (served_answer c t made s w p (place_view p) h at m.settings (grows_none (place_view p).seen) (λ x. x)),
        tt,
      );
    }

module _ {R : Type 0} (c : Configuration) (t : TableId) (made : List ℕ) (script : List Op) (more : List (List Op)) (done : List (Worker R)) (p q r : PassState) (replies : List (List Reply))
    (g : Gathering c t made script more done p replies) (a : Absorbs (place_view p) (place_view r) (place_view q)) (same : q.table ≡ p.table) where
  absorbed_is : (place_view r).absorbed ≡ [] → (place_view q).absorbed ≡ (place_view p).absorbed ++ record { actor = (place_view r).actor; own = (place_view r).own } ∷ []
  absorbed_is none = a.absorbed ∙ ap (λ xs. (place_view p).absorbed ++ record { actor = (place_view r).actor; own = (place_view r).own } ∷ xs) none

  forked_is : (place_view r).forked ≡ [] → (place_view q).forked ≡ made
  forked_is none = a.forked ∙ ap (λ ks. (place_view p).forked ++ ks) none ∙ append-nil (place_view p).forked ∙ g.forked

  member_is : (q.table ≡ t) × ((place_view q).settings ≡ c) × ClaimsNone (place_view q)
  member_is = (same ∙ g.member.0, a.later.settings ∙ g.member.1, absorb_leaves (place_view p) (place_view r) (place_view q) a g.member.2)

  -- the earlier answers
  kept_answers : AreAnswered (place_view q) (0 ∷ absorbed_numbers (place_view p).absorbed) (script ∷ more) replies ((place_view q).own ∷ absorbed_own (place_view p).absorbed)
  kept_answers = subst (λ es. AreAnswered (place_view q) (0 ∷ absorbed_numbers (place_view p).absorbed) (script ∷ more) replies (es ∷ absorbed_own (place_view p).absorbed)) (sym a.update.own)
      (all_answered_later (place_view p) (place_view q) (0 ∷ absorbed_numbers (place_view p).absorbed) (script ∷ more) replies ((place_view p).own ∷ absorbed_own (place_view p).absorbed)
      a.later.grows a.later.settings a.later.told g.answered)

  told_of : IsTrue (place_view r).told → IsTrue (place_view q).told
  told_of x = a.told ∙ or_right (place_view p).told (place_view r).told x
    where
      or_right : (a b : Bool) → b ≡ true → (a || b) ≡ true
      or_right true b e = refl
      or_right false b e = e

  pub gather_more : (s : List Op) (w : Worker R) → HasServed c t [] s w → w.place ≡ Some r → Gathering c t made script (more ++ s ∷ []) (done ++ w ∷ []) q (replies ++ replied w.task ∷ [])
  gather_more s w h at =
      let m = at_place c t [] s w r h at in
      let is = absorbed_is m.absorbed in
      let x : Absorbed = record { actor = (place_view r).actor; own = (place_view r).own } in
      let xs = (place_view p).absorbed in
      let one : IsAnswered (place_view q) x.actor s (replied w.task) x.own = served_answer c t [] s w r (place_view q) h at member_is.1 a.others_log told_of in
      record {
        member = member_is;
        zero = a.later.actor ∙ g.zero;
        forked = forked_is m.forked;
        numbers_are = ap absorbed_numbers is ∙ numbers_on xs x ∙ ap (λ ks. ks ++ x.actor ∷ []) g.numbers_are ∙ ap (λ k. numbers done ++ k ∷ []) (sym (ap number_at at)) ∙ sym (numbers_more done w);
        answered = subst (λ ys. AreAnswered (place_view q) (0 ∷ absorbed_numbers ys) (script ∷ (more ++ s ∷ [])) (replies ++ replied w.task ∷ []) ((place_view q).own ∷ absorbed_own ys)) (sym is)
            (subst (λ ks. AreAnswered (place_view q) (0 ∷ ks) (script ∷ (more ++ s ∷ [])) (replies ++ replied w.task ∷ []) ((place_view q).own ∷ absorbed_own (xs ++ x ∷ []))) (sym (numbers_on xs x))
            (subst (λ es. AreAnswered (place_view q) (0 ∷ (absorbed_numbers xs ++ x.actor ∷ [])) (script ∷ (more ++ s ∷ [])) (replies ++ replied w.task ∷ []) ((place_view q).own ∷ es)) (sym (own_on xs x))
            (answered_more (place_view q) (0 ∷ absorbed_numbers xs) (script ∷ more) replies ((place_view q).own ∷ absorbed_own xs) x.actor s (replied w.task) x.own kept_answers one)));
      }

  pub gather_last : (w : Worker R) → HasTended c t w → w.place ≡ Some r → made ≡ numbers (done ++ w ∷ []) → Ascends 0 made → HasAbsorbed (script ∷ more) (place_view q) replies
  gather_last w h at all up =
      let here : h.at ≡ r = same_Some h.at r (sym h.place ∙ at) in
      let m : IsMember c t [] r = subst (IsMember c t []) here h.member in
      let is = absorbed_is m.absorbed in
      let x : Absorbed = record { actor = (place_view r).actor; own = (place_view r).own } in
      let xs = (place_view p).absorbed in
      let numbers_are : absorbed_numbers (place_view q).absorbed ≡ made
      = ap absorbed_numbers is ∙ numbers_on xs x ∙ ap (λ ks. ks ++ x.actor ∷ []) g.numbers_are ∙ ap (λ k. numbers done ++ k ∷ []) (sym (ap number_at at)) ∙ sym (numbers_more done w) ∙ sym all in
      record {
        zero = a.later.actor ∙ g.zero;
        claims = member_is.2;
        others = xs;
        tender = x;
        absorbed = is;
        forked = forked_is m.forked ∙ sym numbers_are;
        ascends = subst (Ascends 0) (sym numbers_are) up;
        none = subst (λ q. (place_view q).own ≡ []) here h.own;
        answered = kept_answers;
      }

-- one less of two lists with a last item
unsnoc : {X : Type 0} (xs ys : List X) (x y : X) → xs ++ x ∷ [] ≡ ys ++ y ∷ [] → (xs ≡ ys) × (x ≡ y)
unsnoc [] [] x y e = (refl, ap (λ zs. slice_index_or zs 0 x) e)
unsnoc [] (b ∷ []) x y e = absurd (omega (arith, ap length e))
unsnoc [] (b ∷ (d ∷ ys)) x y e = absurd (omega (arith, ap length e))
unsnoc (a ∷ []) [] x y e = absurd (omega (arith, ap length e))
unsnoc (a ∷ (d ∷ xs)) [] x y e = absurd (omega (arith, ap length e))
unsnoc (a ∷ xs) (b ∷ ys) x y e =
    let more = unsnoc xs ys x y (ap (drop 1) e) in
    (ap (λ z. z ∷ xs) (ap (λ zs. slice_index_or zs 0 a) e) ∙ ap (λ zs. b ∷ zs) more.0, more.1)

-- what belongs to an item of the second list
zip_at : {X Y : Type 0} (R : X → Y → Type 0) (ss : List X) (done : List Y) (y : Y) (ys : List Y) → AllZip R ss (done ++ y ∷ ys) → (s : X) × R s y × (take (suc (length done)) ss ≡ take (length done) ss ++ s ∷ [])
zip_at R [] [] y ys h = absurd h
zip_at R [] (d ∷ done) y ys h = absurd h
zip_at R (s ∷ ss) [] y ys h = (s, h.0, refl)
zip_at R (s ∷ ss) (d ∷ done) y ys h = let more = zip_at R ss done y ys h.1 in (more.0, more.1, ap (λ zs. s ∷ zs) more.2)

zip_all : {X Y : Type 0} (R : X → Y → Type 0) (ss : List X) (ys : List Y) → AllZip R ss ys → take (length ys) ss ≡ ss
zip_all R [] [] h = refl
zip_all R (s ∷ ss) (y ∷ ys) h = ap (λ zs. s ∷ zs) (zip_all R ss ys h.1)
zip_all R [] (y ∷ ys) h = absurd h
zip_all R (s ∷ ss) [] h = absurd h

-- a crew that has worked, of whose clients these are left to be absorbed
pub record Absorbing {R : Type 0} (scripts : List (List Op)) (workers clients : List (Worker R)) (p : PassState) (replies : List (List Reply)) : Type 0 where
  pub settings : Configuration
  pub table : TableId
  pub parts : HasParts settings table scripts workers
  pub done : List (Worker R)
  pub others_are : parts.others ≡ done ++ clients
  pub gathering : Gathering settings table (numbers (parts.others ++ parts.tender ∷ [])) parts.script (take (length done) parts.more) done p replies

-- the last of a crew that has worked, and those before it
pub parted : {R : Type 0} → (c : Configuration) (t : TableId) (scripts : List (List Op)) (workers front : List (Worker R)) (last : Worker R) (parts : HasParts c t scripts workers)
    → workers ≡ front ++ last ∷ [] → (front ≡ parts.client ∷ parts.others) × (last ≡ parts.tender)
parted c t scripts workers front last parts e = unsnoc front (parts.client ∷ parts.others) last parts.tender (sym e ∙ parts.all)

pub is_tender : {R : Type 0} → (scripts : List (List Op)) (workers front : List (Worker R)) (last : Worker R) → IsDone scripts workers → workers ≡ front ++ last ∷ [] → IsTender last
is_tender scripts workers front last d e =
    let parts = has_parts scripts workers d in
    subst IsTender (sym (parted d.settings d.table scripts workers front last parts e).1) (record { at = parts.tended.at; place = parts.tended.place; task = parts.tended.task })

pub front_is : {R : Type 0} → (scripts : List (List Op)) (workers front : List (Worker R)) (last : Worker R) → IsDone scripts workers → workers ≡ front ++ last ∷ [] → 0 < length front
front_is scripts workers front last d e =
    let parts = has_parts scripts workers d in
    subst (λ ws. 0 < length ws) (sym (parted d.settings d.table scripts workers front last parts e).0) (omega arith)

-- the first of the crew
pub first_is : {R : Type 0} → (scripts : List (List Op)) (workers front : List (Worker R)) (last x : Worker R) (xs : List (Worker R)) → IsDone scripts workers → workers ≡ front ++ last ∷ [] → front ≡ x ∷ xs → IsClient x
first_is scripts workers front last x xs d e f =
    let parts = has_parts scripts workers d in
    let same : x ≡ parts.client = ap (λ zs. slice_index_or zs 0 x) (sym f ∙ (parted d.settings d.table scripts workers front last parts e).0) in
    subst IsClient (sym same) (record { at = parts.first.at; place = parts.first.place; task = parts.first.task })

pub absorbing_first : {R : Type 0} → (scripts : List (List Op)) (workers front : List (Worker R)) (last x : Worker R) (xs : List (Worker R)) (p : PassState) → IsDone scripts workers
    → workers ≡ front ++ last ∷ [] → front ≡ x ∷ xs → x.place ≡ Some p → Absorbing scripts workers xs p (replied x.task ∷ [])
absorbing_first scripts workers front last x xs p d e f at =
    let parts = has_parts scripts workers d in
    let all : x ∷ xs ≡ parts.client ∷ parts.others = sym f ∙ (parted d.settings d.table scripts workers front last parts e).0 in
    let same : x ≡ parts.client = ap (λ zs. slice_index_or zs 0 x) all in
    let others : parts.others ≡ xs = sym (ap (drop 1) all) in
    let first = subst (HasServed d.settings d.table (numbers (parts.others ++ parts.tender ∷ [])) parts.script) (sym same) parts.first in
    record {
      settings = d.settings;
      table = d.table;
      parts = parts;
      done = [];
      others_are = others;
      gathering = gather_first d.settings d.table (numbers (parts.others ++ parts.tender ∷ [])) parts.script x p first (ap (λ (w : Worker _). number_at w.place) same ∙ parts.zero) at;
    }

module _ {R : Type 0} (scripts : List (List Op)) (workers xs : List (Worker R)) (x : Worker R) (p : PassState) (replies : List (List Reply)) (a : Absorbing scripts workers (x ∷ xs) p replies) where
  next_served : (s : List Op) × HasServed a.settings a.table [] s x × (take (suc (length a.done)) a.parts.more ≡ take (length a.done) a.parts.more ++ s ∷ [])
  next_served = zip_at (HasServed a.settings a.table []) a.parts.more a.done x xs (subst (AllZip (HasServed a.settings a.table []) a.parts.more) a.others_are a.parts.served)

  pub next_client : IsClient x
  next_client = record { at = next_served.1.at; place = next_served.1.place; task = next_served.1.task }

  pub next_member : (r : PassState) → x.place ≡ Some r → (p.table ≡ r.table) × ClaimsNone (place_view r)
  next_member r at =
      let m = at_place a.settings a.table [] next_served.0 x r next_served.1 at in
      (a.gathering.member.0 ∙ sym m.table, m.claims)

  pub absorbing_more : (r q : PassState) → x.place ≡ Some r → Absorbs (place_view p) (place_view r) (place_view q) → q.table ≡ p.table
      → Absorbing scripts workers xs q (replies ++ replied x.task ∷ [])
  absorbing_more r q at absorbs same =
      let made = numbers (a.parts.others ++ a.parts.tender ∷ []) in
      let more = gather_more a.settings a.table made a.parts.script (take (length a.done) a.parts.more) a.done p q r replies a.gathering absorbs same next_served.0 x next_served.1 at in
      let count : length (a.done ++ x ∷ []) ≡ suc (length a.done) = omega (arith, length-append a.done (x ∷ [])) in
      record {
        settings = a.settings;
        table = a.table;
        parts = a.parts;
        done = a.done ++ x ∷ [];
        others_are = a.others_are ∙ sym (append_assoc a.done (x ∷ []) xs);
        gathering = subst (λ ss. Gathering a.settings a.table made a.parts.script ss (a.done ++ x ∷ []) q (replies ++ replied x.task ∷ []))
            (sym next_served.2 ∙ ap (λ n. take n a.parts.more) (sym count)) more;
      }

module _ {R : Type 0} (scripts : List (List Op)) (workers front : List (Worker R)) (last : Worker R) (p : PassState) (replies : List (List Reply)) (a : Absorbing scripts workers [] p replies)
    (e : workers ≡ front ++ last ∷ []) (r : PassState) (at : last.place ≡ Some r) where
  last_tended : HasTended a.settings a.table last
  last_tended = subst (HasTended a.settings a.table) (sym (parted a.settings a.table scripts workers front last a.parts e).1) a.parts.tended

  pub last_member : (p.table ≡ r.table) × ClaimsNone (place_view r)
  last_member =
      let m : IsMember a.settings a.table [] r = subst (IsMember a.settings a.table []) (same_Some last_tended.at r (sym last_tended.place ∙ at)) last_tended.member in
      (a.gathering.member.0 ∙ sym m.table, m.claims)

  pub absorbing_last : (q : PassState) → Absorbs (place_view p) (place_view r) (place_view q) → q.table ≡ p.table → IsGathered (first_place workers) scripts q replies
  absorbing_last q absorbs same =
      let made = numbers (a.parts.others ++ a.parts.tender ∷ []) in
      let done : a.parts.others ≡ a.done = a.others_are ∙ append-nil a.done in
      let all : take (length a.done) a.parts.more ≡ a.parts.more
      = ap (λ ws. take (length ws) a.parts.more) (sym done) ∙ zip_all (HasServed a.settings a.table []) a.parts.more a.parts.others a.parts.served in
      let g = subst (λ ss. Gathering a.settings a.table made a.parts.script ss a.done p replies) all a.gathering in
      let tender : last ≡ a.parts.tender = (parted a.settings a.table scripts workers front last a.parts e).1 in
      let numbered : made ≡ numbers (a.done ++ last ∷ []) = ap (λ ws. numbers (ws ++ a.parts.tender ∷ [])) done ∙ ap (λ w. numbers (a.done ++ w ∷ [])) (sym tender) in
      let absorbed = gather_last a.settings a.table made a.parts.script a.parts.more a.done p q r replies g absorbs same last last_tended at numbered a.parts.ascends in
      let first : first_place workers ≡ Some a.parts.first.at = ap first_place a.parts.all ∙ a.parts.first.place in
      record {
        stays = λ o origin.
            let is : a.parts.first.at ≡ o = same_Some a.parts.first.at o (sym first ∙ origin) in (
              same ∙ g.member.0 ∙ sym a.parts.first.member.table ∙ ap (λ (z : PassState). z.table) is,
              absorbs.later.settings ∙ g.member.1 ∙ sym a.parts.first.member.settings ∙ ap (λ z. (place_view z).settings) is,
            );
        absorbed = subst (λ ss. HasAbsorbed ss (place_view q) replies) (sym a.parts.scripts_are) absorbed;
      }

-- what is left, as seen from the place that the first actor had
pub gathered_from : {R : Type 0} → (scripts : List (List Op)) (workers : List (Worker R)) (p q : PassState) (replies : List (List Reply)) (d : IsDone scripts workers) → p.table ≡ d.table
    → (place_view p).settings ≡ d.settings → IsGathered (first_place workers) scripts q replies → IsGathered (Some p) scripts q replies
gathered_from scripts workers p q replies d table settings h =
    let parts = has_parts scripts workers d in
    let at = parts.first.at in
    let stays = h.stays at (ap first_place parts.all ∙ parts.first.place) in
    record {
      stays = λ o origin.
          let is : p ≡ o = same_Some p o origin in (
            stays.0 ∙ parts.first.member.table ∙ sym table ∙ ap (λ (z : PassState). z.table) is,
            stays.1 ∙ parts.first.member.settings ∙ sym settings ∙ ap (λ z. (place_view z).settings) is,
          );
      absorbed = h.absorbed;
    }

-- a crew may work
module _ (c : Configuration) (t : TableId) (space : MetricSpace) (pivots : List (List ℤ)) (same : space ≡ metric_space c) (pivots_are : pivots ≡ c.pivots) (limits : IsWithinLimits c) where
  seated_at : (v : View) → v.settings ≡ c → ClaimsNone v → IsSeated space pivots v
  seated_at v of claims = record {
    space_is = same ∙ ap metric_space (sym of);
    pivots_are = pivots_are ∙ ap (λ (z : Configuration). z.pivots) (sym of);
    limits = subst IsWithinLimits (sym of) limits;
    claims = claims;
  }

  may_serve : (s : List Op) (task : Task) → IsScriptOver (metric_space c) s → ToServe s task → MayDo space task
  may_serve s (Script a replies) over to = (subst (λ m. IsScriptOver m a.now) (sym same) (subst (IsScriptOver (metric_space c)) (sym to.0) over), to.1, subst (λ os. length os ≤ vec_capacity replies) (sym to.0) to.2)
  may_serve s (Tend wanted) over to = absurd to

  may_tend : (task : Task) → ToTend task → MayDo space task
  may_tend (Script s replies) to = absurd to
  may_tend (Tend wanted) to = tt

  may_all : {R : Type 0} → (ss : List (List Op)) (ws : List (Worker R)) (w : Worker R) → AllByRecursion (IsScriptOver (metric_space c)) ss → AreToServe ss ws → AllByRecursion (Starts c t) (ws ++ w ∷ [])
      → ToTend w.task → AllByRecursion (MayWork space pivots) (ws ++ w ∷ [])
  may_all [] [] w over to starts last =
      (record { at = starts.0.at; place = starts.0.place; seated = seated_at (place_view starts.0.at) starts.0.new.settings starts.0.new.claims; task = may_tend w.task last }, tt)
  may_all (s ∷ ss) (x ∷ ws) w over to starts last = (
    record { at = starts.0.at; place = starts.0.place; seated = seated_at (place_view starts.0.at) starts.0.new.settings starts.0.new.claims; task = may_serve s x.task over.0 to.0 },
    may_all ss ws w over.1 to.1 starts.1 last,
  )
  may_all [] (x ∷ ws) w over to starts last = absurd to
  may_all (s ∷ ss) [] w over to starts last = absurd to

  pub crew_may : {R : Type 0} → (scripts : List (List Op)) (workers : List (Worker R)) → AllByRecursion (IsScriptOver (metric_space c)) scripts → IsCrew c t scripts workers → AllByRecursion (MayWork space pivots) workers
  crew_may scripts workers over crew = subst (AllByRecursion (MayWork space pivots)) (sym crew.all) (by scripts over crew.serve)
    where
      by : (ss : List (List Op)) → AllByRecursion (IsScriptOver (metric_space c)) ss → AreToServe ss (crew.client ∷ crew.others) → AllByRecursion (MayWork space pivots) (crew.client ∷ (crew.others ++ crew.tender ∷ []))
      by [] over to = absurd to
      by (s ∷ ss) over to = (
        record {
          at = crew.first;
          place = crew.place;
          seated = seated_at (place_view crew.first) crew.made.settings crew.made.claims;
          task = may_serve s crew.client.task over.0 to.0;
        },
        may_all ss crew.others crew.tender over.1 to.1 crew.made.starts crew.tends,
      )

-- the first of a list and the others
pub cons_of : {X : Type 0} → (front xs : List X) (x : X) → 0 < length front → x ≡ slice_index_or front 0 x → xs ≡ take 0 front ++ drop 1 front → front ≡ x ∷ xs
cons_of [] xs x some first rest = absurd (omega (arith, some))
cons_of (y ∷ front) xs x some first rest = ap (λ z. z ∷ front) (sym first) ∙ ap (λ zs. x ∷ zs) (sym rest)

pub some_of : {X : Type 0} → (xs : List X) (empty : Bool) → empty ≡ (length xs == 0) → empty ≡ false → 0 < length xs
some_of [] empty is h = absurd (false≢true (sym h ∙ is))
some_of (x ∷ xs) empty is h = omega arith

pub none_of : {X : Type 0} → (xs : List X) (empty : Bool) → empty ≡ (length xs == 0) → empty ≡ true → xs ≡ []
none_of [] empty is h = refl
none_of (x ∷ xs) empty is h = elim (eqb_tells (length (x ∷ xs)) 0) [
  | inl e ↦ absurd (omega (arith, e.1))
  | inr e ↦ absurd (false≢true (sym e.0 ∙ sym is ∙ h))
]

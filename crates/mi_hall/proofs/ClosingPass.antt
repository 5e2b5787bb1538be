-- A pass that closes its hall.
use Rattle.std.proofs.Common.{◌≡◌, ◌⊎◌, ⊎_elim, inl, inr, ℕ, ◌+◌, ◌-◌, ◌<◌, ◌==◌, ◌||◌, max, List, [], ◌∷◌, ◌++◌, length, map, take, drop, get_or, set, Bool, true, false, refl, sym, ap, ◌∙◌, subst, arith, Option, Some, None, eqb-true, eq-eqb, length-set, get_or-set_same, get_or-set_other}
use mathlib.Core.Logic.{dite}
use native.Mathlib.Decide.{ℕ_discrete}
use Rattle.std.specs.Prelude.{slice_get}
use Rattle.std.specs.List.{list_any}
use Rattle.std.proofs.lemmas.Bool.{false≢true}
use Rattle.std.proofs.lemmas.Option.{none-some, same_Some, slice_get-get_or, slice_get_within}
use Rattle.mi_base.specs.Configuration.{Configuration}
use Rattle.mi_base.specs.Prefixes.{has}
use Rattle.mi_core.specs.Actors.{made_by}
use Rattle.mi_core.specs.Events.{first_actor}
use Rattle.mi_core.specs.Kept.{Kept}
use Rattle.mi_core.specs.State.{State}
use Rattle.mi_entries.specs.Actors.{Actor, SplitWork}
use Rattle.mi_entries.specs.Records.{Rows, held_by, shard_at}
use Rattle.mi_latch.specs.declared.slots.Slot.{Slot}
use Rattle.mi_latch.specs.declared.slots.Slot.TheVariants.{Vacant}
use Rattle.mi_latch.specs.Ends.{IsBare, Leaves}
use Rattle.mi_latch.specs.Shows.{Covers, Has, HasKey, In, stands, stands_if}
use Rattle.mi_latch.specs.Views.{Fits, IsOne, Mine, Seated, Sight}
use Rattle.mi_latch.proofs.EndingDoings.{left_bare, left_free}
use Rattle.mi_solo.specs.declared.cores.Core.{Core}
use Rattle.mi_solo.specs.declared.rows.ActorRow.{ActorRow}
use Rattle.mi_solo.specs.Solos.{SoloState}
use Rattle.mi_solo.specs.States.{IsGoing, actor_in, actor_of, actors_of, state_of}
use Rattle.mi_solo.specs.Viewing.{shown_to}
use Rattle.mi_world.specs.Families.{ClaimsNothing}
use Rattle.mi_world.specs.View.{Absorbed, View}
use Rattle.mi_hall.specs.declared.absorbed.Gone.{Gone}
use Rattle.mi_hall.specs.Absorbed.{HasGone, most, placed}
use Rattle.mi_hall.specs.Closing.{Closes, IsLast, SameActor, Stands, page_in}
use Rattle.mi_hall.specs.Families.{board_in}
use Rattle.mi_hall.specs.Knowledge.{Knowledge, view_by}
use Rattle.mi_hall.specs.Passes.{IsPass}
use Rattle.mi_hall.specs.Seats.{knowledge, rows_in, seat_view}
use Rattle.mi_hall.proofs.AbsorbPasses.{no_sweep, none_out}
use Rattle.mi_hall.proofs.ClosingLemmas.{IsFor, actors_are, core_is, left_cells, length-placed, most_few, most_has, most_up, placed_for, row_for}
use Rattle.mi_solo.proofs.BoardTurns.{shown_bare}
use Rattle.mi_hall.proofs.SeatLemmas.{seat_is, seat_knows}

-- who is shown to be absorbed was
abbrev shown : ℕ × Mine → Absorbed
shown x = record { actor = x.0; own = x.1.part.own }

absorbed_key : (l : List (ℕ × Mine)) (k : ℕ) → list_any (λ (x : Absorbed). x.actor == k) (map shown l) ≡ true → HasKey l k
absorbed_key [] k h = absurd (false≢true h)
absorbed_key (x ∷ l) k h =
    let P : Bool → Type 0 = λ z. (x.0 == k) ≡ z → (z || list_any (λ (y : Absorbed). y.actor == k) (map shown l)) ≡ true → HasKey (x ∷ l) k in
    (elim (x.0 == k) as P [ true ↦ λ e _. (x.1, inl (eqb-true x.0 k e, refl)) | false ↦ λ e g. (let q = absorbed_key l k g in (q.0, inr q.1)) ]) refl h

key_absorbed : (l : List (ℕ × Mine)) (k : ℕ) → HasKey l k → list_any (λ (x : Absorbed). x.actor == k) (map shown l) ≡ true
key_absorbed [] k h = absurd h.1
key_absorbed (x ∷ l) k (m, inl e) = ap (λ z. z || list_any (λ (y : Absorbed). y.actor == k) (map shown l)) (eq-eqb x.0 k e.0)
key_absorbed (x ∷ l) k (m, inr e) =
    let P : Bool → Type 0 = λ z. (z || list_any (λ (y : Absorbed). y.actor == k) (map shown l)) ≡ true in
    elim (x.0 == k) as P [ true ↦ refl | false ↦ key_absorbed l k (m, e) ]

in_has : (k : ℕ) (xs : List ℕ) → In k xs → has k xs ≡ true
in_has k [] h = absurd h
in_has k (x ∷ xs) (inl e) = ap (λ z. z || has k xs) (eq-eqb x k e)
in_has k (x ∷ xs) (inr e) =
    let P : Bool → Type 0 = λ z. (z || has k xs) ≡ true in
    elim (x == k) as P [ true ↦ refl | false ↦ in_has k xs e ]

-- a seat stands for those that its view stands for
stands_key : (v : Sight) → v.live ≡ true → v.born ≡ [] → (k : ℕ) → Stands (seat_view v) k → HasKey (stands v) k
stands_key v live unborn k h =
    subst (λ z. HasKey (stands_if z ((v.actor, v.mine) ∷ v.born ++ v.absorbed)) k) (sym live)
    (subst (λ (l : List (ℕ × Mine)). HasKey ((v.actor, v.mine) ∷ l ++ v.absorbed) k) (sym unborn)
    (⊎_elim (λ e. (v.mine, inl (sym e, refl))) (λ e. (let q = absorbed_key v.absorbed k e in (q.0, inr q.1))) h))

pub covers : (v : Sight) → v.live ≡ true → v.born ≡ [] → IsLast (seat_view v) → Covers v
covers v live unborn last = record { first = stands_key v live unborn 0 last.first; heirs = λ k h. stands_key v live unborn k (last.heirs k (in_has k v.forked h)) }

record WasAbsorbed (l : List (ℕ × Mine)) (x : Absorbed) : Type 0 where
  mine : Mine
  has : Has l x.actor mine
  own : mine.part.own ≡ x.own

one_absorbed : (l : List (ℕ × Mine)) (x : Absorbed) → IsOne x (map shown l) → WasAbsorbed l x
one_absorbed [] x h = absurd h
one_absorbed (y ∷ l) x (inl e) = record { mine = y.1; has = inl (ap (λ (z : Absorbed). z.actor) e, refl); own = ap (λ (z : Absorbed). z.own) e }
one_absorbed (y ∷ l) x (inr e) = (let q = one_absorbed l x e in record { mine = q.mine; has = inr q.has; own = q.own })

-- what is known of all shared changes nothing of its actor's own
same_by : (n : Knowledge) (w : View) → SameActor (view_by n w) w
same_by n w = record {
  update = record { own = refl; shard = refl; records = refl; reserved = refl };
  leaf = record { leaf = refl; wanted = refl };
  sweep = record { sweep = refl; swept = refl };
  split = record { splitting = refl; mark = refl; whole = refl; copies = refl; copied = refl };
  flags = record { undone = refl; early = refl };
  pin = refl;
  floor = refl;
  fresh = refl;
  owes = refl;
  lacked = refl;
}

module _ (key : Configuration) (me : Seated) (a : ℕ) (row : ActorRow) (rows : Option Rows) (told : Bool) (gone : List Gone) (p : IsPass me a row rows told) (h : HasGone me.0.absorbed gone) (idle : ClaimsNothing (seat_view me.0)) where
  pub nothing_out : me.0.out ≡ []
  nothing_out = (none_out me.0.mine.part.shard rows me.0.out me.1 idle.shard p.out).0

  module _ (homes : ℕ → Slot) (l : Leaves key homes me.0) where
    abbrev c : State
    c = l.core

    abbrev r : Actor
    r = me.0.mine.part

    no_split : (o : Option SplitWork) → r.split ≡ o → r.split ≡ None
    no_split None e = e
    no_split (Some w) e = absurd (none-some w.leaf (sym idle.leaf ∙ (l.held.kept.sound.each me.0.actor r l.mine.part).holds.split w e))

    bare : IsBare r
    bare = record {
      shard = idle.shard;
      free = record { claim = idle.leaf; sweep = no_sweep r.sweep idle.sweep };
      split = no_split r.split refl;
      pin = shown_bare me.0.mine.log r.pin idle.pin;
    }

    pub nobody_holds : (k : ℕ) → (shard_at l.core.shards k).holder ≡ None
    nobody_holds = left_free key homes me.0 l bare

    own_is : (b : ℕ) (x : Actor) → slice_get c.actors b ≡ Some x → made_by b c.board.log ≡ x.own
    own_is b x at = (l.held.kept.sound.each b x at).own

    within : (b : ℕ) → HasKey me.0.absorbed b → b < length c.actors
    within b q = slice_get_within c.actors b q.0.part (l.absorbed b q.0 q.1).part

    here : me.0.actor < length c.actors
    here = slice_get_within c.actors me.0.actor r l.mine.part

    -- so many actors there are
    pub count_is : most (a + 1) gone ≡ length l.core.actors
    count_is = go gone h
      where
        go : (xs : List Gone) → HasGone me.0.absorbed xs → most (a + 1) xs ≡ length l.core.actors
        go [] k = absurd k
        go (own ∷ xs) k =
            let few = most_few me.0.absorbed xs (max (a + 1) (own.actor + 1)) (length c.actors) k.1 within (omega (arith, here, p.actor_is, k.0)) in
            let up = most_up (max (a + 1) (own.actor + 1)) xs in
            let all : (b : ℕ) → b < length c.actors → b < most (max (a + 1) (own.actor + 1)) xs = λ b less. ⊎_elim
            (λ e. omega (arith, e, p.actor_is, up)) (λ q. most_has me.0.absorbed xs (max (a + 1) (own.actor + 1)) b k.1 q) (l.all b less) in
            let top = all (length c.actors - 1) (omega (arith, here)) in
            omega (arith, few, top, here)

    -- each row stands for its actor's record
    pub rows_are : (firsts : List ActorRow) → length firsts ≡ most (a + 1) gone → actors_of l.core.board.settings l.core.board.log 0 (set (placed gone firsts) a row) ≡ l.core.actors
    rows_are firsts long = actors_are c.board.settings c.board.log 0 (set (placed gone firsts) a row) c.actors row
        (length-set (placed gone firsts) a row ∙ length-placed gone firsts ∙ long ∙ count_is)
        (λ i less. ap (λ j. actor_of c.board.settings c.board.log j (get_or (set (placed gone firsts) a row) i row)) (let e : 0 + i ≡ i = omega arith in e) ∙ each i (let n = length-set (placed gone firsts) a row in let m = length-placed gone firsts in omega (arith, less, n, m)))
      where
        go : (xs : List Gone) → HasGone me.0.absorbed xs → (i : ℕ) → i < length firsts → HasKey me.0.absorbed i → IsFor c i (get_or (placed xs firsts) i row)
        go [] k i less q = absurd k
        go (own ∷ xs) k i less q = placed_for c own_is me.0.absorbed xs (set firsts own.actor own.row) row k.1 l.absorbed i (let n = length-set firsts own.actor own.row in omega (arith, n, less)) (inl q)

        each : (i : ℕ) → i < length firsts → IsFor c i (get_or (set (placed gone firsts) a row) i row)
        each i less = dite (ℕ_discrete i a)
            (λ e. subst (λ (z : ActorRow). IsFor c i z)
            (sym (ap (λ j. get_or (set (placed gone firsts) j row) i row) (sym e) ∙ get_or-set_same (placed gone firsts) i row row (let m = length-placed gone firsts in omega (arith, m, less))))
            (row_for c own_is i me.0.mine row (subst (λ b. Fits c b me.0.mine) (p.actor_is ∙ sym e) l.mine) p.row_is))
            (λ ne. subst (λ (z : ActorRow). IsFor c i z) (sym (get_or-set_other (placed gone firsts) a i row row (λ e. ne e)))
            (⊎_elim (λ e. absurd (ne (e ∙ p.actor_is))) (λ q. go gone h i less q) (l.all i (omega (arith, less, long, count_is)))))

    mine_is : actor_in l.core me.0.actor ≡ r
    mine_is = same_Some (actor_in c me.0.actor) r (sym (slice_get-get_or c.actors me.0.actor first_actor here) ∙ l.mine.part)

    mine_there : (b : ℕ) (x : Actor) → slice_get c.actors b ≡ Some x → (x ≡ r) ⊎ (x.ended ≡ true)
    mine_there b x at = dite (ℕ_discrete b me.0.actor)
        (λ e. inl (same_Some x r (sym at ∙ ap (slice_get c.actors) e ∙ l.mine.part)))
        (λ ne. inr (l.others b x at ne))

    flag : (f : Actor → Bool) → ((b : ℕ) (x : Actor) → slice_get c.actors b ≡ Some x → x.ended ≡ true → f x ≡ false) → (b : ℕ) (x : Actor) → slice_get c.actors b ≡ Some x → f x ≡ true → f r ≡ true
    flag f none b x at up = ⊎_elim (λ e. ap f (sym e) ∙ up) (λ e. absurd (false≢true (sym (none b x at e) ∙ up))) (mine_there b x at)

    pub closes_so : (s : SoloState) → s ≡ record { state = l.core; turn = a } → Closes (seat_view me.0) s
    closes_so s is = subst (Closes (seat_view me.0)) (sym is) (subst (λ b. Closes (seat_view me.0) (record { state = l.core; turn = b })) p.actor_is (record {
      kept = l.held.kept;
      settings = l.mine.knows.note.settings;
      turn = refl;
      going = record { made = here; going = ap (λ (x : Actor). x.ended) mine_is ∙ l.going };
      seen = (seat_knows c l.held.kept me.0 l.mine).seen;
      told = l.mine.knows.told;
      same = subst (λ (x : Actor). SameActor (seat_view me.0) (shown_to c me.0.actor x)) (sym mine_is)
          (subst (λ (w : View). SameActor w (shown_to c me.0.actor r)) (sym (seat_is c me.0 l.mine (λ n e. absurd (none-some n (sym idle.shard ∙ e))))) (same_by (knowledge me.0) (shown_to c me.0.actor r)));
      bare = left_bare key homes me.0 l bare;
      free = nobody_holds;
      undone = flag (λ x. x.undone) (λ b x at e. (l.held.kept.ended b x at e).undone);
      early = flag (λ x. x.early) (λ b x at e. (l.held.kept.ended b x at e).early);
      others = λ b x at. dite (ℕ_discrete b me.0.actor) (λ e. inl e) (λ ne. inr (l.others b x at ne));
      all = λ b less. ⊎_elim (λ e. inl e) (λ q. inr (key_absorbed me.0.absorbed b q)) (l.all b less);
      own = own_is me.0.actor r l.mine.part;
      absorbed = λ x one. (let q = one_absorbed me.0.absorbed x one in (within x.actor (q.mine, q.has), own_is x.actor q.mine.part (l.absorbed x.actor q.mine q.has).part ∙ q.own));
    }))

  module _ (xs : List Slot) (l : Leaves key (λ i. get_or xs i Vacant) me.0) (count : length xs ≡ key.pages + 17) (firsts : List ActorRow) (long : length firsts ≡ most (a + 1) gone) (core : Core) (board : core.board ≡ board_in (get_or xs 0 Vacant))
      (shards : core.shards.items ≡ map (λ x. held_by None (rows_in x)) (take 16 (drop 1 xs))) (pages : core.pages.items ≡ map page_in (drop 17 xs)) (actors : core.actors.items ≡ set (placed gone firsts) a row) where
    pub closed_is : state_of core ≡ l.core
    closed_is = core_is l.core core xs (left_cells key me.0 xs l count) l.held.kept.sound.sixteen (nobody_holds (λ i. get_or xs i Vacant) l) board shards pages
        (ap (actors_of l.core.board.settings l.core.board.log 0) actors ∙ rows_are (λ i. get_or xs i Vacant) l firsts long)

    pub closed_kept : Kept (state_of core)
    closed_kept = subst Kept (sym closed_is) l.held.kept

    pub closed_going : IsGoing core a
    closed_going = record {
      known = (let n = ap length actors in let m = length-set (placed gone firsts) a row in let k = length-placed gone firsts in let u = most_up (a + 1) gone in omega (arith, n, m, k, u, long));
      going = ap (λ (s : State). (actor_in s a).ended) closed_is ∙ ap (λ b. (actor_in l.core b).ended) (sym p.actor_is) ∙ ap (λ (x : Actor). x.ended) (mine_is (λ i. get_or xs i Vacant) l) ∙ l.going;
    }

    pub closed_so : (s : SoloState) → s ≡ record { state = state_of core; turn = a } → Closes (seat_view me.0) s
    closed_so s is = closes_so (λ i. get_or xs i Vacant) l s (is ∙ ap (λ (z : State). let y : SoloState = record { state = z; turn = a } in y) closed_is)

-- The core of a hall that is closed.
use Rattle.std.proofs.Common.{◌≡◌, ◌⊎◌, ⊎_elim, inl, inr, ℕ, zero, suc, ◌+◌, ◌<◌, ◌≤◌, max, List, [], ◌∷◌, ◌++◌, length, map, take, drop, get_or, set, refl, sym, ap, ◌∙◌, subst, arith, Option, Some, None, length-append, length-set, get_or-set_same, get_or-set_other, ext_get_or}
use mathlib.Core.Logic.{dite}
use native.Mathlib.Decide.{ℕ_discrete}
use Rattle.std.specs.Prelude.{slice_get, slice_range}
use Rattle.std.proofs.lemmas.List.Edits.{length-between}
use Rattle.std.specs.List.{AllByRecursion}
use Rattle.std.proofs.lemmas.List.{length-map}
use Rattle.std.proofs.lemmas.Option.{same_Some, slice_get-get_or, slice_get_within}
use Rattle.mi_base.specs.Configuration.{Configuration}
use Rattle.mi_base.specs.declared.records.LogEvent.{LogEvent}
use Rattle.mi_board.specs.Boards.{BoardState}
use Rattle.mi_core.specs.Actors.{made_by}
use Rattle.mi_core.specs.Events.{first_actor}
use Rattle.mi_core.specs.State.{State}
use Rattle.mi_entries.specs.Actors.{Actor}
use Rattle.mi_entries.specs.Records.{Shard, held_by, shard_at}
use Rattle.mi_latch.specs.declared.slots.Slot.{Slot}
use Rattle.mi_latch.specs.declared.slots.Slot.TheVariants.{OfBoard, Vacant}
use Rattle.mi_latch.specs.Ends.{Leaves}
use Rattle.mi_latch.specs.Layout.{at, cells, of_shard, slot_of}
use Rattle.mi_latch.specs.Takes.{IsShard}
use Rattle.mi_latch.specs.Shows.{Has, HasKey}
use Rattle.mi_latch.specs.Views.{Fits, Mine, Sight}
use Rattle.mi_page.specs.Nodes.{Node}
use Rattle.mi_solo.specs.declared.cores.Core.{Core}
use Rattle.mi_solo.specs.declared.rows.ActorRow.{ActorRow}
use Rattle.mi_solo.specs.States.{actor_of, actors_of, state_of}
use Rattle.mi_hall.specs.declared.absorbed.Gone.{Gone}
use Rattle.mi_hall.specs.Absorbed.{AreGone, most, placed}
use Rattle.mi_hall.specs.Closing.{page_in}
use Rattle.mi_hall.specs.Families.{board_in}
use Rattle.mi_hall.specs.Passes.{row_actor}
use Rattle.mi_hall.specs.Seats.{rows_in}

-- how many actors there are
pub most_up : (n : ℕ) (gone : List Gone) → n ≤ most n gone
most_up n [] = omega arith
most_up n (g ∷ gone) = (let h = most_up (max n (g.actor + 1)) gone in omega (arith, h))

pub most_has : (absorbed : List (ℕ × Mine)) (gone : List Gone) (n a : ℕ) → AreGone absorbed gone → HasKey absorbed a → a < most n gone
most_has [] gone n a h k = absurd k.1
most_has (x ∷ absorbed) [] n a h k = absurd h
most_has (x ∷ absorbed) (g ∷ gone) n a h (m, inl e) = (let u = most_up (max n (g.actor + 1)) gone in omega (arith, u, h.0, e.0))
most_has (x ∷ absorbed) (g ∷ gone) n a h (m, inr e) = most_has absorbed gone (max n (g.actor + 1)) a h.2 (m, e)

pub most_few : (absorbed : List (ℕ × Mine)) (gone : List Gone) (n few : ℕ) → AreGone absorbed gone → ((a : ℕ) → HasKey absorbed a → a < few) → n ≤ few → most n gone ≤ few
most_few [] [] n few h k le = le
most_few [] (g ∷ gone) n few h k le = absurd h
most_few (x ∷ absorbed) [] n few h k le = absurd h
most_few (x ∷ absorbed) (g ∷ gone) n few h k le =
    let here = k x.0 (x.1, inl (refl, refl)) in
    most_few absorbed gone (max n (g.actor + 1)) few h.2 (λ a q. k a (q.0, inr q.1)) (omega (arith, here, h.0, le))

pub most_within : (gone : List Gone) (n few : ℕ) → most n gone ≤ few → AllByRecursion (λ g. g.actor < few) gone
most_within [] n few le = tt
most_within (g ∷ gone) n few le = (let u = most_up (max n (g.actor + 1)) gone in omega (arith, u, le), most_within gone (max n (g.actor + 1)) few le)

pub length-placed : (gone : List Gone) (rows : List ActorRow) → length (placed gone rows) ≡ length rows
length-placed [] rows = refl
length-placed (g ∷ gone) rows = length-placed gone (set rows g.actor g.row) ∙ length-set rows g.actor g.row

-- a row stands for the record of the actor of a number
abbrev pub IsFor : State → ℕ → ActorRow → Type 0
IsFor c a row = actor_of c.board.settings c.board.log a row ≡ get_or c.actors a first_actor

module _ (c : State) (each : (a : ℕ) (r : Actor) → slice_get c.actors a ≡ Some r → made_by a c.board.log ≡ r.own) where
  pub row_for : (a : ℕ) (m : Mine) (row : ActorRow) → Fits c a m → m.part ≡ row_actor m.note.board.settings m.part row → IsFor c a row
  row_for a m row f is =
      ap (λ own. record (actor_of c.board.settings c.board.log a row) { own = own }) (each a m.part f.part)
      ∙ ap (λ s. row_actor s m.part row) f.knows.note.settings ∙ sym is ∙ same_Some m.part (get_or c.actors a first_actor) (sym f.part ∙ slice_get-get_or c.actors a first_actor (slice_get_within c.actors a m.part f.part))

  -- each row in its place
  pub placed_for : (absorbed : List (ℕ × Mine)) (gone : List Gone) (rows : List ActorRow) (d : ActorRow) → AreGone absorbed gone → ((a : ℕ) (m : Mine) → Has absorbed a m → Fits c a m)
      → (a : ℕ) → a < length rows → HasKey absorbed a ⊎ IsFor c a (get_or rows a d) → IsFor c a (get_or (placed gone rows) a d)
  placed_for [] [] rows d h fits a less (inl k) = absurd k.1
  placed_for [] [] rows d h fits a less (inr k) = k
  placed_for [] (g ∷ gone) rows d h fits a less k = absurd h
  placed_for (x ∷ absorbed) [] rows d h fits a less k = absurd h
  placed_for (x ∷ absorbed) (g ∷ gone) rows d h fits a less k =
      let long : a < length (set rows g.actor g.row) = (let l = length-set rows g.actor g.row in omega (arith, l, less)) in
      let later = placed_for absorbed gone (set rows g.actor g.row) d h.2 (λ b m q. fits b m (inr q)) a long in
      dite (ℕ_discrete a g.actor)
      (λ e.
      let here : IsFor c a g.row = row_for a x.1 g.row (subst (λ b. Fits c b x.1) (sym (e ∙ h.0)) (fits x.0 x.1 (inl (refl, refl)))) h.1 in
      later (inr (subst (IsFor c a) (sym (ap (λ i. get_or (set rows i g.row) a d) (sym e) ∙ get_or-set_same rows a g.row d less)) here)))
      (λ ne. ⊎_elim
      (λ (q : HasKey (x ∷ absorbed) a). ⊎_elim (λ z. absurd (ne (sym z.0 ∙ sym h.0))) (λ z. later (inl (q.0, z))) q.1)
      (λ z. later (inr (subst (IsFor c a) (sym (get_or-set_other rows g.actor a g.row d (λ e. ne e))) z))) k)

-- rows that are each for their actor
pub actors_are : (settings : Configuration) (log : List LogEvent) (n : ℕ) (rows : List ActorRow) (actors : List Actor) (d : ActorRow) → length rows ≡ length actors
    → ((i : ℕ) → i < length rows → actor_of settings log (n + i) (get_or rows i d) ≡ get_or actors i first_actor) → actors_of settings log n rows ≡ actors
actors_are settings log n [] [] d long h = refl
actors_are settings log n [] (x ∷ actors) d long h = absurd (omega (arith, long))
actors_are settings log n (r ∷ rows) [] d long h = absurd (omega (arith, long))
actors_are settings log n (r ∷ rows) (x ∷ actors) d long h =
    ap (λ y. y ∷ actors_of settings log (n + 1) rows) (ap (λ m. actor_of settings log m r) (let e : n ≡ n + 0 = omega arith in e) ∙ h 0 (omega arith))
    ∙ ap (λ ys. x ∷ ys) (actors_are settings log (n + 1) rows actors d (omega (arith, long)) (λ i less. ap (λ m. actor_of settings log m (get_or rows i d)) (let e : n + 1 + i ≡ n + suc i = omega arith in e) ∙ h (suc i) (omega (arith, less))))

-- the values in their slots are the parts of the core
pub cells_read : (c : State) (xs : List Slot) → length xs ≡ length c.pages + 17 → length c.shards ≡ 16 → ((i : ℕ) → i < length xs → get_or xs i Vacant ≡ at c i) → xs ≡ cells c
cells_read c xs long sixteen h =
    ext_get_or Vacant xs (cells c)
    (let a = length-append (map of_shard c.shards) (map slot_of c.pages) in let s = length-map c.shards of_shard in let p = length-map c.pages slot_of in omega (arith, a, s, p, long, sixteen)) h

take_front : {X : Type 0} (xs ys : List X) (n : ℕ) → length xs ≡ n → take n (xs ++ ys) ≡ xs
take_front [] ys zero e = refl
take_front [] ys (suc n) e = absurd (omega (arith, e))
take_front (x ∷ xs) ys zero e = absurd (omega (arith, e))
take_front (x ∷ xs) ys (suc n) e = ap (λ l. x ∷ l) (take_front xs ys n (omega (arith, e)))

drop_front : {X : Type 0} (xs ys : List X) (n : ℕ) → length xs ≡ n → drop n (xs ++ ys) ≡ ys
drop_front [] ys zero e = refl
drop_front [] ys (suc n) e = absurd (omega (arith, e))
drop_front (x ∷ xs) ys zero e = absurd (omega (arith, e))
drop_front (x ∷ xs) ys (suc n) e = drop_front xs ys n (omega (arith, e))

shards_back : (shards : List Shard) → ((k : ℕ) → (shard_at shards k).holder ≡ None) → map (λ x. held_by None (rows_in x)) (map of_shard shards) ≡ shards
shards_back [] free = refl
shards_back (s ∷ shards) free = ap (λ h. record s { holder = h } ∷ map (λ x. held_by None (rows_in x)) (map of_shard shards)) (sym (free 0)) ∙ ap (λ l. s ∷ l) (shards_back shards (λ k. free (suc k)))

page_back : (o : Option Node) → page_in (slot_of o) ≡ o
page_back None = refl
page_back (Some n) = refl

pages_back : (pages : List (Option Node)) → map page_in (map slot_of pages) ≡ pages
pages_back [] = refl
pages_back (o ∷ pages) = ap (λ x. x ∷ map page_in (map slot_of pages)) (page_back o) ∙ ap (λ l. o ∷ l) (pages_back pages)

shard_slots : (c : State) → length c.shards ≡ 16 → take 16 (drop 1 (cells c)) ≡ map of_shard c.shards
shard_slots c sixteen = take_front (map of_shard c.shards) (map slot_of c.pages) 16 (length-map c.shards of_shard ∙ sixteen)

page_slots : (c : State) → length c.shards ≡ 16 → drop 17 (cells c) ≡ map slot_of c.pages
page_slots c sixteen = drop_front (map of_shard c.shards) (map slot_of c.pages) 16 (length-map c.shards of_shard ∙ sixteen)

-- how many values there are, and those before the pages
pub length-cells : (c : State) → length c.shards ≡ 16 → length (cells c) ≡ length c.pages + 17
length-cells c sixteen = (let a = length-append (map of_shard c.shards) (map slot_of c.pages) in let s = length-map c.shards of_shard in let p = length-map c.pages slot_of in omega (arith, a, s, p, sixteen))

pub front_is : (c : State) (xs : List Slot) → xs ≡ cells c → length c.shards ≡ 16 → take 17 xs ≡ OfBoard c.board ∷ map of_shard c.shards
front_is c xs is sixteen = ap (take 17) is ∙ ap (λ l. OfBoard c.board ∷ l) (shard_slots c sixteen)

are_shards : (shards : List Shard) → AllByRecursion IsShard (map of_shard shards)
are_shards [] = tt
are_shards (s ∷ shards) = ((s.rows, refl), are_shards shards)

pub front_shards : (c : State) (xs : List Slot) → xs ≡ cells c → length c.shards ≡ 16 → AllByRecursion IsShard (drop 1 (take 17 xs))
front_shards c xs is sixteen = subst (λ l. AllByRecursion IsShard (drop 1 l)) (sym (front_is c xs is sixteen)) (are_shards c.shards)

pub front_drop : (c : State) (xs : List Slot) → xs ≡ cells c → drop 1 (take 17 xs) ≡ take 16 (drop 1 xs)
front_drop c xs is = ap (λ l. drop 1 (take 17 l)) is ∙ ap (λ l. take 16 (drop 1 l)) (sym is)

-- the values that are left are those of the core
pub left_cells : (key : Configuration) (v : Sight) (xs : List Slot) (l : Leaves key (λ i. get_or xs i Vacant) v) → length xs ≡ key.pages + 17 → xs ≡ cells l.core
left_cells key v xs l count =
    let p = l.held.kept.sound.pages.length_is in
    let q = ap (λ (s : Configuration). s.pages) l.held.same in
    cells_read l.core xs (omega (arith, count, p, q)) l.held.kept.sound.sixteen (λ i less. l.values i (omega (arith, less, count)))

-- one that is still to be moved has room
pub room_left : {X Y : Type 0} (f : X → Y) (moved : List Y) (rest drained all : List X) (x : X) (start : ℕ) → moved ++ map f (x ∷ rest) ≡ map f drained → drained ≡ slice_range all start (length all) → length moved + start < length all
room_left f moved rest drained all x start e d =
    omega (arith, length-append moved (map f (x ∷ rest)), ap length e, ap length d, length-map drained f, length-between all start (length all))

-- the core in code is that core
pub core_is : (c : State) (core : Core) (xs : List Slot) → xs ≡ cells c → length c.shards ≡ 16 → ((k : ℕ) → (shard_at c.shards k).holder ≡ None) → core.board ≡ board_in (get_or xs 0 Vacant)
    → core.shards.items ≡ map (λ x. held_by None (rows_in x)) (take 16 (drop 1 xs)) → core.pages.items ≡ map page_in (drop 17 xs) → actors_of c.board.settings c.board.log 0 core.actors.items ≡ c.actors → state_of core ≡ c
core_is c core xs is sixteen free board shards pages actors =
    let b : core.board ≡ c.board = board ∙ ap (λ l. board_in (get_or l 0 Vacant)) is in
    let s : core.shards.items ≡ c.shards = shards ∙ ap (λ l. map (λ x. held_by None (rows_in x)) (take 16 (drop 1 l))) is ∙ ap (map (λ x. held_by None (rows_in x))) (shard_slots c sixteen) ∙ shards_back c.shards free in
    let p : core.pages.items ≡ c.pages = pages ∙ ap (λ l. map page_in (drop 17 l)) is ∙ ap (map page_in) (page_slots c sixteen) ∙ pages_back c.pages in
    ap (λ (z : BoardState). let y : State = record { board = z; shards = core.shards.items; pages = core.pages.items; actors = actors_of z.settings z.log 0 core.actors.items } in y) b
    ∙ ap (λ (z : List Shard). let y : State = record { board = c.board; shards = z; pages = core.pages.items; actors = actors_of c.board.settings c.board.log 0 core.actors.items } in y) s
    ∙ ap (λ (z : List (Option Node)). let y : State = record { board = c.board; shards = c.shards; pages = z; actors = actors_of c.board.settings c.board.log 0 core.actors.items } in y) p
    ∙ ap (λ (z : List Actor). let y : State = record { board = c.board; shards = c.shards; pages = c.pages; actors = z } in y) actors

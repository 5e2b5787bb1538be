-- Takes and gives at the table.
use Rattle.std.proofs.Common.{◌≡◌, ◌≢◌, inl, inr, ⊎_elim, ℕ, ◌+◌, ◌-◌, ◌<◌, eqb, true, List, [], ◌∷◌, ◌++◌, Option, Some, None, get_or, set, sym, refl, ap, ◌∙◌, subst, arith, length, length-set, get_or-set_same, get_or-set_other}
use Rattle.std.specs.Prelude.{slice_get, slice_set, take}
use prog.Atomic.{either}
use Rattle.atomic_table.specs.Table.{Allows, rest}
use Rattle.mi_base.specs.Configuration.{Configuration}
use Rattle.mi_entries.specs.Actors.{Actor}
use Rattle.mi_entries.specs.Records.{Rows, Shard, held_by, no_shard, shard_at}
use Rattle.mi_core.specs.Events.{after}
use Rattle.mi_core.specs.Events.Event.{claim_shard, miss_shard, release_shard}
use Rattle.mi_core.specs.Named.{Named}
use Rattle.mi_core.specs.State.{State, put_actor, put_shard}
use Rattle.mi_latch.specs.declared.slots.Slot.{Slot}
use Rattle.mi_latch.specs.declared.slots.Slot.TheVariants.{OfShard, Vacant}
use Rattle.mi_latch.specs.Acts.{GivesBy, TakesShard}
use Rattle.mi_latch.specs.Layout.{at, slot_count, slot_of}
use Rattle.mi_latch.specs.Shows.{Backs, Changes, Has, HasKey, Returns, Took, stands_if, with_out}
use Rattle.mi_latch.specs.Takes.{Finds, IsPage, IsPlain, IsShard, claimed, miss_none, miss_shard_at, missed_none, missed_shard_at, missing, released, see_none, see_shard, took}
use Rattle.mi_latch.specs.Wanting.{leaf_wanted}
use Rattle.mi_latch.specs.Views.{Doing, Fits, Held, HoldsLast, IsOne, Knows, Latched, Marks, Mine, Next, Own, Seated, Sight, holder_word, made, now, with_part}
use Rattle.mi_latch.proofs.Ones.{and_actor, at_shard, of_rows, read_page, read_shard}
use Rattle.mi_latch.proofs.Rules.{Misses, Sees, returns, tries}
use Rattle.mi_latch.proofs.Steps.{changes, fits_made, held_keeps, marks_on, me, out_has, rest_has}
use Rattle.mi_latch.proofs.Writing.{writes_frame, writes_same}

pub plain_board : IsPlain 0
plain_board c word k e near = absurd (omega arith)

pub plain_page : (p : ℕ) → IsPlain (p + 17)
plain_page p c word k e near = absurd (omega arith)

-- a live view, by its parts
pub lives : (v : Sight) (q : Mine) (next : List (ℕ × Slot)) → v.live ≡ true → now v q next ≡ record { live = v.live; actor = v.actor; mine = q; out = next; born = v.born; absorbed = v.absorbed; forked = v.forked }
lives v q next live i = record { live = sym live i; actor = v.actor; mine = q; out = next; born = v.born; absorbed = v.absorbed; forked = v.forked }

-- a step that is no event
nothing : (settings : Configuration) (c : State) (held : Held settings c) (v : Sight) (live : v.live ≡ true) → Backs at Fits Own c v → (next : List (ℕ × Slot)) (j new : ℕ) → ((word : ℕ) → Marks c j word → Marks c j new)
    → Changes at Fits Own Marks made Next c c v (now v v.mine next) [] j new
nothing settings c held v live b next j new mark = record {
  next = inr refl;
  own = record { mine = λ h. b.own.mine live; born = b.own.born; over = b.own.over; forked = b.own.forked };
  records = λ x t h. b.records x t (subst (λ z. Has (stands_if z ((v.actor, v.mine) ∷ v.born ++ v.absorbed)) x t) (sym live) h);
  others = λ x t f n. f;
  values = λ i x h. absurd h;
  rest = λ i h. refl;
  mark = mark;
  marks = λ k word ne h. h;
}

sees : (i : ℕ) (settings : Configuration) (v : Sight) → IsPlain i → v.live ≡ true → Sees at Fits Own Marks made (Held settings) Next (held_keeps settings) fits_made see_none (Finds settings) v i
sees i settings v plain live c held b free = let next = (i, at c i) ∷ v.out in
    (c, subst (λ (w : Sight). Changes at Fits Own Marks made Next c c v w [] i (v.actor + 1)) (lives v v.mine next live) (nothing settings c held v live b next i (v.actor + 1) (λ word h. plain c (v.actor + 1))), refl, record { core = c; held = held; backs = b; value = refl })

misses : (i : ℕ) (settings : Configuration) (v : Sight) → v.live ≡ true → Misses at Fits Own Marks made (Held settings) Next (held_keeps settings) fits_made miss_none missed_none v i
misses i settings v live word c held b u l live' w h apart mark =
    (c, subst (λ (w : Sight). Changes at Fits Own Marks made Next c c v w [] i word) (lives v v.mine v.out live) (nothing settings c held v live b v.out i word (λ w h. mark)), refl, tt)

-- a try to take a page or the board
pub tries_open : (slots id i a : ℕ) (settings : Configuration) (m : Seated) → IsPlain i → i < slot_count settings → m.0.live ≡ true → m.0.actor ≡ a
    → Allows (Latched settings) slots id m i (λ x. either (eqb x 0) (a + 1) x) (Took see_none (Finds settings) miss_none missed_none m i)
tries_open slots id i a settings m plain near live e = subst (λ (k : ℕ). Allows (Latched settings) slots id m i (λ x. either (eqb x 0) (k + 1) x) (Took see_none (Finds settings) miss_none missed_none m i)) e
    (tries at Fits Own Marks made (Held settings) Next (held_keeps settings) fits_made (slot_count settings) slots id i m see_none (Finds settings) miss_none missed_none near live (sees i settings m.0 plain live) (misses i settings m.0 live))

none_of : (o : Option ℕ) → 0 ≡ holder_word o → o ≡ None
none_of None e = refl
none_of (Some a) e = absurd (omega arith)

some_of : (o : Option ℕ) (word : ℕ) → word ≡ holder_word o → 0 < word → o ≡ Some (word - 1)
some_of None word e h = absurd (omega arith)
some_of (Some b) word e h = ap Some (let z : b ≡ word - 1 = omega arith in z)

-- the words of shards but one stay right where that one alone is written
others_right : (c d : State) (k : ℕ) (s : Shard) → d.shards ≡ slice_set c.shards k s → (i word : ℕ) → i ≢ k + 1 → Marks c i word → Marks d i word
others_right c d k s is i word ne h = marks_on c d i word (λ j e near. ap (λ (l : List Shard). (get_or l j no_shard).holder) is ∙ ap (λ (x : Shard). x.holder) (get_or-set_other c.shards k j s no_shard (λ z. ne (e ∙ ap (λ (x : ℕ). x + 1) z)))) h

here_right : (c d : State) (k word : ℕ) (s : Shard) → d.shards ≡ slice_set c.shards k s → k < length c.shards → word ≡ holder_word s.holder → Marks d (k + 1) word
here_right c d k word s is near e j z l = let same : j ≡ k = omega arith in
    e ∙ ap (λ (x : Shard). holder_word x.holder) (sym (ap (λ (l : List Shard). get_or l j no_shard) is ∙ ap (λ (m : ℕ). get_or (set c.shards k s) m no_shard) same ∙ get_or-set_same c.shards k s no_shard near))

-- what an actor knows where its record has the same claim, the same pin and has seen as much, and the board, the pages and the number of actors are the same
knows_part : (c : State) (shards : List Shard) (actors : List Actor) (m : Mine) (r : Actor) → length actors ≡ length c.actors → r.seen ≡ m.part.seen → r.claim ≡ m.part.claim → r.pin ≡ m.part.pin → Knows c m
    → Knows (record { board = c.board; shards = shards; pages = c.pages; actors = actors }) (with_part r m)
knows_part c shards actors m r many seen claim pin k = record {
  log = k.log ∙ ap (λ n. take n c.board.log) (sym seen);
  named = k.named;
  told = k.told;
  wanted = k.wanted ∙ ap (λ o. leaf_wanted c.board.settings c.board.log o) (sym claim);
  least = k.least;
  first = k.first;
  pin = λ p h. (let z = k.pin p (sym pin ∙ h) in omega (arith, z, seen));
  count = (let n = k.count in omega (arith, n, many));
  note = record { settings = k.note.settings; allotted = k.note.allotted; given = k.note.given };
  passed = λ p h. k.passed p (sym claim ∙ h);
}

-- a shard that nobody holds is claimed by its take
pub claim_is : (k : ℕ) (settings : Configuration) (v : Sight) → k < 16 → v.live ≡ true → v.mine.part.shard ≡ None → TakesShard settings k v
claim_is k settings v near live idle c held b none =
    let a : ℕ = v.actor in
    let r : Actor = v.mine.part in
    let q : Mine = with_part (claimed k r) v.mine in
    let kept : Rows = (shard_at c.shards k).rows in
    let f = me settings c held v live b in
    let s : Shard = held_by (Some a) kept in
    let d : State = after c a r (claim_shard k kept) in
    let sixteen = held.kept.sound.sixteen in
    let long : k < length c.shards = omega arith in
    let next : List (ℕ × Slot) = (k + 1, OfShard kept) ∷ v.out in
    let t = changes settings c held v live b (claim_shard k kept) (near, idle, refl, none) q next [] (k + 1) (a + 1) refl
    (knows_part c (slice_set c.shards k s) (slice_set c.actors a (claimed k r)) v.mine (claimed k r) (length-set c.actors a (claimed k r)) refl refl refl f.knows) refl (omega arith)
    (writes_same (at c) (at d) (k + 1) (OfShard kept) (and_actor c (put_shard k s c) a (claimed k r) (k + 1) (OfShard kept) (at_shard c k s sixteen near)) (read_shard c k sixteen near))
    (λ word h. here_right c d k (a + 1) s refl long refl)
    (λ i word ne h. others_right c d k s refl i word ne h) in
    record {
      can = (near, idle, refl, none);
      changes = subst (λ (w : Sight). Changes at Fits Own Marks made Next c d v w [] (k + 1) (a + 1)) (lives v q next live) t.0;
    }

-- the event of the take of a shard
sees_shard : (k : ℕ) (settings : Configuration) (v : Sight) → k < 16 → v.live ≡ true → v.mine.part.shard ≡ None → Sees at Fits Own Marks made (Held settings) Next (held_keeps settings) fits_made (see_shard k) (Finds settings) v (k + 1)
sees_shard k settings v near live idle c held b free =
    let kept : Rows = (shard_at c.shards k).rows in
    let d : State = after c v.actor v.mine.part (claim_shard k kept) in
    let none : (shard_at c.shards k).holder ≡ None = none_of (shard_at c.shards k).holder (free k refl near) in
    let is = claim_is k settings v near live idle c held b none in (
      d,
      subst (λ (y : Slot). Changes at Fits Own Marks made Next c d v (with_out (see_shard k) v (k + 1) y) [] (k + 1) (v.actor + 1))
          (sym (read_shard c k held.kept.sound.sixteen near)) is.changes,
      length-set c.actors v.actor (claimed k v.mine.part),
      record { core = c; held = held; backs = b; value = refl },
    )

-- a shard that is held is noted with its holder: an event of the actor's record alone
misses_shard : (k : ℕ) (settings : Configuration) (v : Sight) → k < 16 → v.live ≡ true → v.mine.part.shard ≡ None
    → Misses at Fits Own Marks made (Held settings) Next (held_keeps settings) fits_made (miss_shard_at k) missed_shard_at v (k + 1)
misses_shard k settings v near live idle word c held b u l live' is has far mark =
    let a : ℕ = v.actor in
    let r : Actor = v.mine.part in
    let q : Mine = miss_shard_at k word v.mine in
    let f = me settings c held v live b in
    let holder : (shard_at c.shards k).holder ≡ Some (word - 1) = some_of (shard_at c.shards k).holder word (mark k refl near) (omega arith) in
    let d : State = after c a r (miss_shard k) in
    let new : Actor = record r { tried = k; found = (shard_at c.shards k).holder } in
    let is_new : d ≡ put_actor a q.part c = ap (λ (o : Option ℕ). put_actor a (record r { tried = k; found = o }) c) holder in
    let small = (l.own.mine live').small in
    let t = changes settings c held v live b (miss_shard k) (near, idle, word - 1, holder) q v.out [] (k + 1) word (ap (λ (s : State). s.actors) is_new)
    (knows_part c c.shards (slice_set c.actors a new) v.mine (missing k word r) (length-set c.actors a new) refl refl refl f.knows) refl (omega arith)
    (record { values = λ i x h. absurd h; rest = λ i h. refl })
    (λ w h. mark) (λ j w ne h. h) in (
      d,
      subst (λ (w : Sight). Changes at Fits Own Marks made Next c d v w [] (k + 1) word) (lives v q v.out live) t.0,
      length-set c.actors a new,
      -- the holder is another actor, since this one's record has no shard
      (
        (λ e. let h = held.kept.sound.holders k (word - 1) holder in
            absurd (let same : Some h.actor ≡ Some r = sym h.there ∙ ap (slice_get c.actors) e ∙ f.part in let z : h.actor ≡ r = cc in cc (ap (λ (x : Actor). x.shard) z, h.shard, idle))),
        omega (arith, is, small),
      ),
    )

-- a try to take a shard
pub tries_shard : (slots id k a : ℕ) (settings : Configuration) (m : Seated) → k < 16 → m.0.live ≡ true → m.0.mine.part.shard ≡ None → m.0.actor ≡ a
    → Allows (Latched settings) slots id m (k + 1) (λ x. either (eqb x 0) (a + 1) x) (Took (see_shard k) (Finds settings) (miss_shard_at k) missed_shard_at m (k + 1))
tries_shard slots id k a settings m near live idle e = subst (λ (j : ℕ). Allows (Latched settings) slots id m (k + 1) (λ x. either (eqb x 0) (j + 1) x) (Took (see_shard k) (Finds settings) (miss_shard_at k) missed_shard_at m (k + 1))) e
    (tries at Fits Own Marks made (Held settings) Next (held_keeps settings) fits_made (slot_count settings) slots id (k + 1) m (see_shard k) (Finds settings) (miss_shard_at k) missed_shard_at (omega arith) live
    (sees_shard k settings m.0 near live idle) (misses_shard k settings m.0 near live idle))

-- the shard goes back: its release
pub release_is : (k : ℕ) (settings : Configuration) (m : Seated) (x : Rows) → m.0.mine.part.shard ≡ Some k → HoldsLast m (k + 1) (OfShard x)
    → GivesBy settings (release_shard k x) m.0 (now m.0 (with_part (released m.0.mine.part) m.0.mine) (rest m.0.out)) (k + 1) (OfShard x)
release_is k settings m x has l c held b =
    let v : Sight = m.0 in
    let a : ℕ = v.actor in
    let r : Actor = v.mine.part in
    let q : Mine = with_part (released r) v.mine in
    let f = me settings c held v l.live b in
    let sixteen = held.kept.sound.sixteen in
    let hold = (held.kept.sound.each a r f.part).holds.shard k has in
    let near = hold.0 in
    let long : k < length c.shards = omega (arith, near, sixteen) in
    let is : (shard_at c.shards k).rows ≡ x = of_rows (shard_at c.shards k) x (sym (read_shard c k sixteen near) ∙ b.values (k + 1) (OfShard x) (out_has v (k + 1) (OfShard x) (rest v.out) l.out)) in
    let s : Shard = held_by None x in
    let d : State = after c a r (release_shard k x) in
    let t = changes settings c held v l.live b (release_shard k x) (has, is) q (rest v.out) ((k + 1, OfShard x) ∷ rest v.out) (k + 1) 0 refl
    (knows_part c (slice_set c.shards k s) (slice_set c.actors a (released r)) v.mine (released r) (length-set c.actors a (released r)) refl refl refl f.knows) refl (omega arith)
    (writes_frame (at c) (at d) (k + 1) (OfShard x) (rest v.out) (and_actor c (put_shard k s c) a (released r) (k + 1) (OfShard x) (at_shard c k s sixteen near))
    (λ j y h. b.values j y (rest_has v (k + 1) (OfShard x) (rest v.out) l.out j y h)) l.others)
    (λ word h. here_right c d k 0 s refl long refl)
    (λ i word ne h. others_right c d k s refl i word ne h) in
    (record { can = (has, is); changes = t.0 }, t.1)

pub release_does : (k : ℕ) (settings : Configuration) (m : Seated) (x : Rows) → m.0.mine.part.shard ≡ Some k → HoldsLast m (k + 1) (OfShard x)
    → Doing settings m.0 (now m.0 (with_part (released m.0.mine.part) m.0.mine) (rest m.0.out)) (k + 1) (OfShard x)
release_does k settings m x has l c held b = let is = release_is k settings m x has l c held b in
    (after c m.0.actor m.0.mine.part (release_shard k x), is.0.changes, is.1)

-- a give, once the value lies in the seat's slot
pub gives : (slots id i : ℕ) (settings : Configuration) (me m : Seated) (y : Slot) (w : Sight) → m ≡ (me.0, (i, y) ∷ rest me.1) → Returns me.0 w i → Doing settings me.0 w i y
    → Allows (Latched settings) slots id m i (λ _. 0) (λ _ t. t ≡ (w, rest m.1))
gives slots id i settings me m y w is has does = subst (λ (x : Seated). Allows (Latched settings) slots id x i (λ _. 0) (λ _ t. t ≡ (w, rest x.1))) (sym is)
    (returns at Fits Own Marks made (Held settings) Next (held_keeps settings) fits_made (slot_count settings) slots id i (me.0, (i, y) ∷ rest me.1) y (rest me.1) w refl has does)

-- the view keeps the seat's other slots
pub returned_rest : (me : Seated) (i : ℕ) (y : Slot) (q : Mine) → HoldsLast me i y → Returns me.0 (now me.0 q (rest me.0.out)) i
returned_rest m i y q l = let v : Sight = m.0 in record {
  still = refl;
  actor = refl;
  given = (y, out_has v i y (rest v.out) l.out);
  back = λ k h. ((h.0, rest_has v i y (rest v.out) l.out k h.0 h.1), λ e. l.others (subst (HasKey (rest v.out)) e h));
  forth = λ k h n. ⊎_elim (λ e. absurd (n (sym e.0))) (λ t. (h.0, t)) (subst (λ (l : List (ℕ × Slot)). Has l k h.0) l.out h.1);
}

abbrev first_of : Slot → List (ℕ × Slot) → Slot
first_of d [] = d
first_of d (x ∷ xs) = x.1

-- what was found was taken out
pub got : (f : Slot → Mine → Mine) (told : Sight → ℕ → Slot → Type 0) (g : ℕ → Mine → Mine) (missed : Sight → ℕ → ℕ → Type 0) (me m n : Seated) (i found : ℕ) (r : Slot) → me.0.live ≡ true → Took f told g missed me i found m → found ≡ 0 → m.1 ≡ (i, r) ∷ rest m.1 → n ≡ (m.0, (i, Vacant) ∷ rest m.1)
    → (n ≡ took f me i r) × told me.0 i r × HoldsLast n i r
got f told g missed me m n i found r live t e is new = let h = t.0 e in let x : Slot = h.0 in let same : x ≡ r = ap (λ (l : List (ℕ × Slot)). first_of x l) (sym (ap (λ (k : Seated). k.1) h.1) ∙ is) in
    let all : n ≡ took f me i r = new ∙ (ap (λ (k : Seated). let z : Seated = (k.0, (i, Vacant) ∷ rest k.1) in z) h.1 ∙ ap (λ (k : Slot). let z : Seated = (with_out f me.0 i k, (i, Vacant) ∷ me.1) in z) same) in
    (all, subst (told me.0 i) same h.2, subst (λ (k : Seated). HoldsLast k i r) (sym all) record { held = refl; live = live; out = refl; others = h.3 })

-- a value goes back as it was taken, or as an event has left it: no event
pub back_does : (i : ℕ) (settings : Configuration) (m : Seated) (x : Slot) → HoldsLast m i x → IsPlain i → Doing settings m.0 (now m.0 m.0.mine (rest m.0.out)) i x
back_does i settings m x l plain c held b = let v : Sight = m.0 in
    let t = nothing settings c held v l.live b (rest v.out) i 0 (λ word h. plain c 0) in (
      c,
      record {
        next = t.next;
        own = t.own;
        records = t.records;
        others = t.others;
        values = λ j y h. b.values j y (subst (λ (z : List (ℕ × Slot)). Has z j y) (sym l.out) h);
        rest = λ j h. refl;
        mark = t.mark;
        marks = t.marks;
      },
      record {
        back = λ k h. inl (h.0, subst (λ z. Has (stands_if z ((v.actor, v.mine) ∷ v.born ++ v.absorbed)) k h.0) (sym l.live) h.1);
        born = λ k h. inl h;
        unborn = b.unborn;
        unjoined = b.unjoined;
        forked = λ k h. h;
        new = λ k h. inl h;
      },
    )

-- in the slot of a page that the actor was told of lies a page
pub finds_page : (settings : Configuration) (v : Sight) (i : ℕ) (x : Slot) → v.live ≡ true → Finds settings v i x → (y : Named) → i ≡ y.page + 17 → IsOne y v.mine.named → IsPage x
finds_page settings v i x live f y at_page known =
    let n = (me settings f.core f.held v live f.backs).knows.named y known in
    (n.node, sym f.value ∙ ap (at f.core) at_page ∙ read_page f.core y.page f.held.kept.sound.sixteen ∙ ap slot_of n.there)

-- in the slot of a shard lie rows
pub finds_rows : (settings : Configuration) (v : Sight) (k : ℕ) (x : Slot) → k < 16 → Finds settings v (k + 1) x → IsShard x
finds_rows settings v k x near f = ((shard_at f.core.shards k).rows, sym f.value ∙ read_shard f.core k f.held.kept.sound.sixteen near)

-- One seat takes in another, and what the last seat finds.
use Rattle.std.proofs.Common.{◌≡◌, ◌≢◌, inl, inr, ⊎_elim, ◌⊎◌, ℕ, zero, suc, cond, nat_le, Bool, true, false, List, [], ◌∷◌, ◌++◌, length, take, max, Option, Some, None, sym, refl, ap, ◌∙◌, subst, arith, length-set}
use Rattle.std.specs.Prelude.{slice_get, slice_index_or, slice_set}
use Rattle.std.proofs.Math.Nat.{le-max_left, le-max_right, max-le}
use Rattle.std.proofs.lemmas.Bool.{cases_eq, false≢true}
use Rattle.std.proofs.lemmas.Bool.Decides.{nat_tests}
use Rattle.std.proofs.lemmas.Option.{none-some, same_Some, slice_get_within}
use mathlib.Core.Option.{some, some-injective, some-ne-none}
use lib.ListN.{get_elem?}
use Rattle.atomic_table.specs.Table.{State as Table, Final, Joins, Seen}
use Rattle.mi_base.specs.declared.records.LogEvent.{LogEvent}
use Rattle.mi_base.specs.Configuration.{Configuration}
use Rattle.mi_entries.specs.Actors.{Actor}
use Rattle.mi_entries.specs.Records.{shard_at}
use Rattle.mi_core.specs.Events.{Can, after, ended, more_seen}
use Rattle.mi_core.specs.Events.Event.{absorb}
use Rattle.mi_core.specs.Later.{IsLater}
use Rattle.mi_core.specs.State.{State}
use Rattle.mi_core.proofs.ActorLemmas.{set_else, set_there}
use Rattle.mi_core.proofs.LaterEvents.{event_leads_on}
use Rattle.mi_latch.specs.declared.slots.Slot.{Slot}
use Rattle.mi_latch.specs.declared.slots.Slot.TheVariants.{Vacant}
use Rattle.mi_latch.specs.Acts.{JoinsBy}
use Rattle.mi_latch.specs.Ends.{IsBare, Leaves, blend, over}
use Rattle.mi_latch.specs.Layout.{at, slot_count}
use Rattle.mi_latch.specs.Shows.{Backs, Covers, Has, HasKey, In, Merges, joined, spent, stands, stands_if}
use Rattle.mi_latch.specs.Views.{Fits, Held, Knows, Latched, Marks, Mine, Next, Own, Sight, first_page, made}
use Rattle.mi_latch.specs.Wanting.{leaf_wanted}
use Rattle.mi_latch.proofs.PageChanges.{knows_still}
use Rattle.mi_latch.proofs.PageNames.{one_more, one_of_either}
use Rattle.mi_latch.proofs.Rules.{all_home, has_append, joins, own, stands_for_all}
use Rattle.mi_latch.proofs.Steps.{fits_made, held_keeps, marks_on, me, more}

pub in_either : (xs ys : List ℕ) (k : ℕ) → In k (xs ++ ys) → In k xs ⊎ In k ys
in_either [] ys k h = inr h
in_either (x ∷ xs) ys k h = ⊎_elim (λ e. inl (inl e)) (λ t. ⊎_elim (λ z. inl (inr z)) (λ z. inr z) (in_either xs ys k t)) h

-- the longer of two parts of a log
take_max : (x y : ℕ) (log : List LogEvent) (xs ys : List LogEvent) → xs ≡ take x log → ys ≡ take y log → cond (nat_le x y) ys xs ≡ take (max x y) log
take_max x y log xs ys ex ey =
    let P : Bool → Type 0 = λ t. nat_le x y ≡ t → cond t ys xs ≡ take (max x y) log in
    (elim (nat_le x y) as P [
      | true ↦ λ e. ey ∙ ap (λ n. take n log) (let z : y ≡ max x y = grind (arith, nat_tests) in z)
      | false ↦ λ e. ex ∙ ap (λ n. take n log) (let z : x ≡ max x y = grind (arith, nat_tests) in z)
    ]) refl

told_by : (a b : Bool) (P : Type 0) → (a ≡ true → P) → (b ≡ true → P) → cond a true b ≡ true → P
told_by true b P f g e = f refl
told_by false b P f g e = g e

-- what the two know is so together; what is kept of the other has no claim
blend_knows : (c : State) (m t : Mine) → Knows c m → Knows c t → Knows c (blend m t)
blend_knows c m t k l = record {
  log = take_max m.part.seen t.part.seen c.board.log m.log t.log k.log l.log;
  named = λ x h. ⊎_elim (λ z. l.named x z) (λ z. k.named x z) (one_of_either t.named m.named x h);
  told = told_by m.told t.told (c.board.allotted ≡ c.board.settings.pages) k.told l.told;
  wanted = k.wanted;
  least = max-le k.least l.least;
  first = one_more t.named m.named first_page k.first;
  pin = λ p e. (let n = k.pin p e in let n2 = le-max_left m.part.seen t.part.seen in omega arith);
  count = max-le k.count l.count;
  note = k.note;
  passed = k.passed;
}

over_knows : (c : State) (t : Mine) → IsBare t.part → Knows c t → Knows c (over t)
over_knows c t bare k = record {
  log = k.log;
  named = k.named;
  told = k.told;
  wanted = sym (ap (leaf_wanted c.board.settings c.board.log) bare.free.claim);
  least = k.least;
  first = k.first;
  pin = k.pin;
  count = k.count;
  note = k.note;
  passed = k.passed;
}

module _ (settings : Configuration) (v w : Sight) (live : v.live ≡ true) (live' : w.live ≡ true) (unborn : v.born ≡ []) (unborn' : w.born ≡ []) (bare : IsBare w.mine.part) where
  abbrev a : ℕ
  a = v.actor

  abbrev o : ℕ
  o = w.actor

  abbrev both : Sight
  both = joined blend over v w

  module _ (c : State) (held : Held settings c) (b : Backs at Fits Own c v) (b' : Backs at Fits Own c w) (disjoint : (k : ℕ) → HasKey (stands v) k → HasKey (stands w) k → ⊥) where
    abbrev d : State
    d = after c v.actor v.mine.part (absorb w.actor w.mine.part)

    f : Fits c v.actor v.mine
    f = me settings c held v live b

    g : Fits c w.actor w.mine
    g = me settings c held w live' b'

    to_v : (x : ℕ) → x ≡ v.actor → HasKey (stands v) x
    to_v x e = (v.mine, subst (λ (y : ℕ). Has (stands v) y v.mine) (sym e) (own v live))

    to_w : (x : ℕ) → x ≡ w.actor → HasKey (stands w) x
    to_w x e = (w.mine, subst (λ (y : ℕ). Has (stands w) y w.mine) (sym e) (own w live'))

    ne : w.actor ≢ v.actor
    ne e = disjoint w.actor (to_v w.actor e) (to_w w.actor refl)

    in_v : (x : ℕ) (q : Mine) → Has v.absorbed x q → Has (stands v) x q
    in_v x q h = more settings c held v live b x q (subst (λ (l : List (ℕ × Mine)). Has (l ++ v.absorbed) x q) (sym unborn) h)

    in_w : (x : ℕ) (q : Mine) → Has w.absorbed x q → Has (stands w) x q
    in_w x q h = more settings c held w live' b' x q (subst (λ (l : List (ℕ × Mine)). Has (l ++ w.absorbed) x q) (sym unborn') h)

    can : Can c v.actor v.mine.part (absorb w.actor w.mine.part)
    can = (ne, g.part, bare.shard, bare.free, bare.split, bare.pin, (b'.own.mine live').going)

    later : IsLater c d
    later = event_leads_on (absorb w.actor w.mine.part) c held.kept.sound v.actor v.mine.part f.part can

    many : length d.actors ≡ length c.actors
    many = length-set (slice_set c.actors v.actor (more_seen w.mine.part v.mine.part)) w.actor (ended w.mine.part) ∙ length-set c.actors v.actor (more_seen w.mine.part v.mine.part)

    -- every other record is as it was
    old : (x : ℕ) (q : Mine) → x ≢ v.actor → x ≢ w.actor → Fits c x q → Fits d x q
    old x q na nb h = record {
      part = set_else (slice_set c.actors v.actor (more_seen w.mine.part v.mine.part)) w.actor x (ended w.mine.part) nb ∙ set_else c.actors v.actor x (more_seen w.mine.part v.mine.part) na ∙ h.part;
      knows = knows_still c d later refl q h.knows;
    }

    blended : Fits d v.actor (blend v.mine w.mine)
    blended = record {
      part = set_else (slice_set c.actors v.actor (more_seen w.mine.part v.mine.part)) w.actor v.actor (ended w.mine.part) (λ e. ne (sym e)) ∙ set_there c.actors v.actor (more_seen w.mine.part v.mine.part) v.mine.part f.part;
      knows = knows_still c d later refl (blend v.mine w.mine) (blend_knows c v.mine w.mine f.knows g.knows);
    }

    gone : Fits d w.actor (over w.mine)
    gone = record {
      part = set_there (slice_set c.actors v.actor (more_seen w.mine.part v.mine.part)) w.actor (ended w.mine.part) w.mine.part (set_else c.actors v.actor w.actor (more_seen w.mine.part v.mine.part) ne ∙ g.part);
      knows = knows_still c d later refl (over w.mine) (over_knows c w.mine bare g.knows);
    }

    both_own : Own both
    both_own = record {
      mine = λ _. (let n = b.own.mine live in record { small = n.small; going = n.going });
      born = λ x q h. absurd h;
      over = λ x q h. ⊎_elim (λ z. b.own.over x q z)
          (λ z. ⊎_elim (λ e. subst (λ (y : Mine). y.part.ended ≡ true) e.1 refl) (λ y. b'.own.over x q y) z)
          (has_append v.absorbed ((w.actor, over w.mine) ∷ w.absorbed) x q h);
      forked = λ k h. ⊎_elim
          (λ z. let n = b.own.forked k z in let m = le-max_left v.mine.count w.mine.count in omega arith)
          (λ z. let n = b'.own.forked k z in let m = le-max_right v.mine.count w.mine.count in omega arith)
          (in_either v.forked w.forked k h);
    }

    records : (x : ℕ) (q : Mine) → Has (stands both) x q → Fits d x q
    records x q h = ⊎_elim
        (λ e. subst (λ (y : ℕ). Fits d y q) e.0 (subst (λ (y : Mine). Fits d v.actor y) e.1 blended))
        (λ t. ⊎_elim
        (λ z. old x q (λ e. b.unjoined (q, subst (λ (y : ℕ). Has v.absorbed y q) e z)) (λ e. disjoint x (q, in_v x q z) (to_w x e)) (b.records x q (in_v x q z)))
        (λ z. ⊎_elim
        (λ e. subst (λ (y : ℕ). Fits d y q) e.0 (subst (λ (y : Mine). Fits d w.actor y) e.1 gone))
        (λ y. old x q (λ e. disjoint x (to_v x e) (q, in_w x q y)) (λ e. b'.unjoined (q, subst (λ (n : ℕ). Has w.absorbed n q) e y)) (b'.records x q (in_w x q y))) z)
        (has_append v.absorbed ((w.actor, over w.mine) ∷ w.absorbed) x q t))
        (subst (λ y. Has (stands_if y ((v.actor, blend v.mine w.mine) ∷ v.absorbed ++ (w.actor, over w.mine) ∷ w.absorbed)) x q) live h)

    pub merges : Merges at Fits Own Marks made Next c d v w both
    merges = record {
      next = inl record { actor = v.mine.part; there = f.part; going = (b.own.mine live).going; event = absorb w.actor w.mine.part; can = can; is = refl };
      own = both_own;
      records = records;
      others = λ x q h nv nw. old x q (λ e. nv (to_v x e)) (λ e. nw (to_w x e)) h;
      same = λ i. refl;
      marks = λ k word h. marks_on c d k word (λ j e near. refl) h;
      made_same = many;
    }

  -- the join is the end of the other's actor
  pub absorb_is : JoinsBy settings v w
  absorb_is c held b b' disjoint = (can c held b b' disjoint, merges c held b b' disjoint)

  -- One seat takes in another, which holds nothing: the staying seat knows what both know, and the other's actor is over
  pub absorbs : (id other : ℕ) (z : Mine) → w.out ≡ [] → Joins (Latched settings) id v other w (joined blend over v w) (spent z)
  absorbs id other z empty = joins at Fits Own Marks made (Held settings) Next (held_keeps settings) fits_made (slot_count settings) id other v w blend over z
      record { mine = λ e. absurd (false≢true e); born = λ x q h. absurd h; over = λ x q h. absurd h; forked = λ k h. absurd h }
      live live' empty unborn' unborn (λ c held b b' disjoint. (d c held b b' disjoint, merges c held b b' disjoint))

get_at : (xs : List Slot) (i : ℕ) (x : Slot) → get_elem? xs i ≡ some x → slice_index_or xs i Vacant ≡ x
get_at [] i x e = absurd (some-ne-none x (sym e))
get_at (y ∷ xs) zero x e = some-injective y x e
get_at (y ∷ xs) (suc i) x e = get_at xs i x e

-- What the last seat finds where it stands for every actor and has nothing out: the values at home, as they are read, are those of a kept core state
pub leaves : (settings : Configuration) (s : Table Slot Sight) (t : Latched settings s) (id : ℕ) (v : Sight) → get_elem? s.views id ≡ some v → v.live ≡ true → v.born ≡ [] → v.out ≡ [] → Covers v
    → (homes : ℕ → Slot) → ((i : ℕ) (x : Slot) → get_elem? s.homes i ≡ some (some x) → homes i ≡ x) → Leaves settings homes v
leaves settings s t id v there live unborn empty covers homes is =
    let c : State = t.core in
    let b = (t.each id v there).backs in
    let n = slot_count settings in
    record {
      core = c;
      held = t.kept;
      values = λ i h. is i (at c i) (all_home at Fits Own Marks made (Held settings) Next (held_keeps settings) fits_made n s t id v there covers empty i h);
      mine = b.records v.actor v.mine (own v live);
      going = (b.own.mine live).going;
      others = λ x r at_x ne.
          let h = stands_for_all at Fits Own Marks made (Held settings) Next (held_keeps settings) fits_made n s t id v there covers x (slice_get_within c.actors x r at_x) in
          let f = b.records x h.0 h.1 in
          let same : h.0.part ≡ r = same_Some h.0.part r (sym f.part ∙ at_x) in
          ⊎_elim (λ e. absurd (ne (sym e.0)))
          (λ g. subst (λ (y : Actor). y.ended ≡ true) same (b.own.over x h.0 (subst (λ (l : List (ℕ × Mine)). Has (l ++ v.absorbed) x h.0) unborn g)))
          (subst (λ z. Has (stands_if z ((v.actor, v.mine) ∷ v.born ++ v.absorbed)) x h.0) live h.1);
      absorbed = λ x m h. b.records x m (more settings c t.kept v live b x m (subst (λ (l : List (ℕ × Mine)). Has (l ++ v.absorbed) x m) (sym unborn) h));
      all = λ x less.
          let h = stands_for_all at Fits Own Marks made (Held settings) Next (held_keeps settings) fits_made n s t id v there covers x less in
          ⊎_elim (λ e. inl (sym e.0))
          (λ g. inr (h.0, subst (λ (l : List (ℕ × Mine)). Has (l ++ v.absorbed) x h.0) unborn g))
          (subst (λ z. Has (stands_if z ((v.actor, v.mine) ∷ v.born ++ v.absorbed)) x h.0) live h.1);
    }

-- the same of the values that are left of a table which is closed with its last seat
pub closes : (settings : Configuration) (id : ℕ) (v : Sight) (words : List ℕ) (xs : List Slot) → v.live ≡ true → v.born ≡ [] → v.out ≡ [] → Covers v → Final (Seen (Latched settings) id v) words xs → Leaves settings (λ i. slice_index_or xs i Vacant) v
closes settings id v words xs live unborn empty covers end = leaves settings end.0 end.1.0 id v end.1.1 live unborn empty covers (λ i. slice_index_or xs i Vacant) (λ i x e. get_at xs i x (end.4 i x e))

-- where the last seat's actor holds nothing, no actor does, and nobody holds a shard
module _ (settings : Configuration) (homes : ℕ → Slot) (v : Sight) (left : Leaves settings homes v) (bare : IsBare v.mine.part) where
  pub left_bare : (x : ℕ) (r : Actor) → slice_get left.core.actors x ≡ Some r → IsBare r
  left_bare x r there = elim (cases_eq x v.actor) [
    | inl e ↦ subst IsBare (same_Some v.mine.part r (sym left.mine.part ∙ ap (slice_get left.core.actors) (sym e) ∙ there)) bare
    | inr n ↦
        let h = left.held.kept.ended x r there (left.others x r there n) in
        record { shard = h.shard; free = record { claim = h.claim; sweep = h.sweep }; split = h.split; pin = h.pin }
  ]

  pub left_free : (k : ℕ) → (shard_at left.core.shards k).holder ≡ None
  left_free k = go (shard_at left.core.shards k).holder refl
    where
      go : (o : Option ℕ) → (shard_at left.core.shards k).holder ≡ o → (shard_at left.core.shards k).holder ≡ None
      go None e = e
      go (Some b) e =
          let h = left.held.kept.sound.holders k b e in
          absurd (none-some k (sym (left_bare b h.actor h.there).shard ∙ h.shard))

-- A take and a give keep the rule, whatever the core is.
use Rattle.std.proofs.Common.{◌≡◌, ◌≢◌, ◌⊎◌, inl, inr, ⊎_elim, ℕ, zero, suc, ◌+◌, ◌<◌, eqb, true, List, [], ◌∷◌, ◌++◌, length, get_or, set, sym, refl, ap, ◌∙◌, subst, arith, length-set, get_or-set_same, get_or-set_other}
use mathlib.Core.Logic.{dite}
use mathlib.Core.Option.{none, some, some-injective, some-ne-none}
use native.Mathlib.Decide.{ℕ_discrete}
use lib.ListN.{get_elem?}
use lib.Seq.{set-get_or}
use prog.Atomic.{either}
use Rattle.atomic_table.specs.Table.{State, Me, Act, keeps, takes, gives, Valid, carried_after, stepped, opening, Allows, Splits, Joins}
use Rattle.atomic_table.proofs.Lists.{at_set, set_here, set_else, set_again, exchanged}
use Rattle.mi_latch.specs.declared.known.Known.{Known}
use Rattle.mi_latch.specs.Shows.{Has, HasKey, In, stands, stands_if, Backs, Sits, Holds, Parent, Shows, Changes, Makes, Returns, Does, with_out, with_mine, Took, parting, child, child_of, joined, spent, Covers, Merges, Opens}

module _ {X : Type 0} where
  pub at_snoc : (l : List X) (a b : X) (j : ℕ) → get_elem? (l ++ a ∷ []) j ≡ some b → (get_elem? l j ≡ some b) ⊎ ((j ≡ length l) × (a ≡ b))
  at_snoc [] a b zero e = inr (refl, some-injective a b e)
  at_snoc [] a b (suc j) e = absurd (some-ne-none b (sym e))
  at_snoc (x ∷ xs) a b zero e = inl e
  at_snoc (x ∷ xs) a b (suc j) e = ⊎_elim (λ t. inl t) (λ t. inr (ap suc t.0, t.1)) (at_snoc xs a b j e)

  pub at_longer : (l m : List X) (i : ℕ) (a : X) → get_elem? l i ≡ some a → get_elem? (l ++ m) i ≡ some a
  at_longer [] m i a e = absurd (some-ne-none a (sym e))
  at_longer (x ∷ xs) m zero a e = e
  at_longer (x ∷ xs) m (suc i) a e = at_longer xs m i a e

  pub has_append : (l m : List (ℕ × X)) (k : ℕ) (x : X) → Has (l ++ m) k x → Has l k x ⊎ Has m k x
  has_append [] m k x h = inr h
  has_append (y ∷ l) m k x h = ⊎_elim (λ t. inl (inl t)) (λ t. ⊎_elim (λ z. inl (inr z)) (λ z. inr z) (has_append l m k x t)) h

  pub has_left : (l m : List (ℕ × X)) (k : ℕ) (x : X) → Has l k x → Has (l ++ m) k x
  has_left [] m k x h = absurd h
  has_left (y ∷ l) m k x h = ⊎_elim (λ t. inl t) (λ t. inr (has_left l m k x t)) h

  pub has_right : (l m : List (ℕ × X)) (k : ℕ) (x : X) → Has m k x → Has (l ++ m) k x
  has_right [] m k x h = h
  has_right (y ∷ l) m k x h = inr (has_right l m k x h)

pub in_left : (l m : List ℕ) (k : ℕ) → In k l → In k (l ++ m)
in_left [] m k h = absurd h
in_left (y ∷ l) m k h = ⊎_elim (λ t. inl t) (λ t. inr (in_left l m k t)) h

pub in_right : (l m : List ℕ) (k : ℕ) → In k m → In k (l ++ m)
in_right [] m k h = h
in_right (y ∷ l) m k h = inr (in_right l m k h)

pub set_there : {X : Type 0} (l : List X) (i : ℕ) (a b : X) → get_elem? l i ≡ some b → get_elem? (set l i a) i ≡ some a
set_there [] i a b e = absurd (some-ne-none b (sym e))
set_there (x ∷ xs) zero a b e = refl
set_there (x ∷ xs) (suc i) a b e = set_there xs i a b e

-- a live view stands for its own actor
pub own : {A S : Type 0} (v : Known A S) → v.live ≡ true → Has (stands v) v.actor v.mine
own v live = subst (λ b. Has (stands_if b ((v.actor, v.mine) ∷ v.born ++ v.absorbed)) v.actor v.mine) (sym live) (inl (refl, refl))

module _ {A S C : Type 0} (at : C → ℕ → S) (Fits : C → ℕ → A → Type 0) (Own : Known A S → Type 0) (Marks : C → ℕ → ℕ → Type 0) (made : C → ℕ) (Kept : C → Type 0) (Next : C → ℕ → C → Type 0) (law : (c d : C) (a : ℕ) → Kept c → Next c a d → Kept d) (fits_made : (c : C) (a : ℕ) (r : A) → Fits c a r → a < made c) where
  abbrev V : Type 0
  V = Known A S

  abbrev Rule : ℕ → State S V → Type 0
  Rule n s = Shows at Fits Own Marks made Kept n s

  -- nothing changed
  pub stays : (n : ℕ) (s : State S V) (i id : ℕ) (cs : List (ℕ × S)) (v : V) → Rule n s → get_elem? s.views id ≡ some v → Rule n (stepped s i (get_or s.words i 0) id cs v keeps)
  stays n s i id cs v o me = let P : List ℕ → List V → Type 0 = λ ws vs. Rule n record { words = ws; homes = s.homes; views = vs } in
      subst (λ ws. P ws (set s.views id v)) (sym (set-get_or s.words i 0)) (subst (λ vs. P s.words vs) (sym (set_again s.views id v me)) o)

  -- a view has at most one value at a place
  one : (views : List V) (j : ℕ) (u v : V) → get_elem? views j ≡ some u → get_elem? views j ≡ some v → u ≡ v
  one views j u v e f = some-injective u v (sym e ∙ f)

  module _ (n : ℕ) (s : State S V) (o : Rule n s) (id : ℕ) (v : V) (me : get_elem? s.views id ≡ some v) (d : C) (w : V) (ys : List (ℕ × S)) (i new : ℕ) (ch : Changes at Fits Own Marks made Next o.core d v w ys i new) (mk : Makes made o.core d v w) where
    abbrev c : C
    c = o.core

    -- an actor for which another seat stands was made, and so it is not new
    key_back : (k a : ℕ) (t : V) → get_elem? s.views k ≡ some t → HasKey (stands t) a → HasKey (stands w) a → HasKey (stands v) a
    key_back k a t e h g = ⊎_elim (λ m. m) (λ new. let z = fits_made c a h.0 ((o.each k t e).backs.records a h.0 h.1) in absurd (omega arith)) (mk.back a g)

    alone_after : (j k : ℕ) (u t : V) (a : ℕ) → get_elem? (set s.views id w) j ≡ some u → get_elem? (set s.views id w) k ≡ some t → HasKey (stands u) a → HasKey (stands t) a → j ≡ k
    alone_after j k u t a e f g h = ⊎_elim
        (λ m. ⊎_elim (λ z. m.0 ∙ sym z.0) (λ z. m.0 ∙ o.alone id k v t a me z.1 (key_back k a t z.1 h (subst (λ (x : V). HasKey (stands x) a) (sym m.1) g)) h) (at_set s.views id k w t f))
        (λ m. ⊎_elim (λ z. o.alone j id u v a m.1 me g (key_back j a u m.1 g (subst (λ (x : V). HasKey (stands x) a) (sym z.1) h)) ∙ sym z.0) (λ z. o.alone j k u t a m.1 z.1 g h) (at_set s.views id k w t f))
        (at_set s.views id j w u e)

    -- another seat fits as before
    sits_on : (ws : List ℕ) (j : ℕ) (u : V) → j ≢ id → get_elem? s.views j ≡ some u → ((i : ℕ) → HasKey u.out i → HasKey ys i → ⊥)
        → ((i : ℕ) → HasKey u.out i → get_or ws i 0 ≡ get_or s.words i 0) → Sits at Fits Own n ws d u
    sits_on ws j u ne e off same = let f = o.each j u e in record {
      backs = record { records = λ a r h. ch.others a r (f.backs.records a r h) (λ k. ne (o.alone j id u v a e me (r, h) k)); values = λ i x h. ch.rest i (λ k. off i (x, h) k) ∙ f.backs.values i x h; unborn = f.backs.unborn; unjoined = f.backs.unjoined; own = f.backs.own };
      outs = λ i h. let t = f.outs i h in (t.0, t.1, same i h ∙ t.2);
    }

    -- of two seats that hold one slot
    same_seat : (j : ℕ) (u : V) (i : ℕ) → get_elem? s.views j ≡ some u → HasKey u.out i → HasKey v.out i → j ≡ id
    same_seat j u i e h g = let a = (o.each j u e).outs i h in let b = (o.each id v me).outs i g in let ea : get_or s.words i 0 ≡ u.actor + 1 = a.2 in let eb : get_or s.words i 0 ≡ v.actor + 1 = b.2 in
        let same : u.actor ≡ v.actor = omega arith in o.alone j id u v v.actor e me (u.mine, subst (λ k. Has (stands u) k u.mine) same (own u a.1)) (v.mine, own v b.1)

    parents_after : w.live ≡ true → w.actor ≡ v.actor → (k : ℕ) → 0 < k → k < made d → Parent (set s.views id w) k
    parents_after live actor k pos below = ⊎_elim
        (λ old. let p = o.parents k pos old in record {
          maker = p.maker;
          less = p.less;
          heirs = λ j u e h. ⊎_elim
              (λ m. let l = p.less in subst (λ (x : V). In k x.forked × (HasKey x.born p.maker → ⊥)) m.1 (
              let was : HasKey (stands v) p.maker = ⊎_elim (λ z. z) (λ z. absurd (omega arith)) (mk.back p.maker (subst (λ (x : V). HasKey (stands x) p.maker) (sym m.1) h)) in
              let t = p.heirs id v me was in (mk.forked k t.0, λ b. ⊎_elim t.1 (λ z. absurd (omega arith)) (mk.born p.maker b))))
              (λ m. p.heirs j u m.1 h)
              (at_set s.views id j w u e);
        })
        (λ new. record {
          maker = w.actor;
          less = new.1;
          heirs = λ j u e h. let here : get_elem? (set s.views id w) id ≡ some w = set_there s.views id w v me in
              let same : j ≡ id = alone_after j id u w w.actor e here h (w.mine, own w live) in
              let is : w ≡ u = one (set s.views id w) id w u here (subst (λ (m : ℕ). get_elem? (set s.views id w) m ≡ some u) same e) in
              subst (λ (x : V). In k x.forked × (HasKey x.born w.actor → ⊥)) is (new.0, λ b. (mk.unborn w.actor b).0 refl);
        })
        (mk.new k below)

  -- what the taker may make of the value that it finds, an event of its own record or none, and what it is told of it
  abbrev pub Sees : (S → A → A) → (V → ℕ → S → Type 0) → V → ℕ → Type 0
  Sees see told v i = (c : C) → Kept c → Backs at Fits Own c v → Marks c i 0 → (d : C) × Changes at Fits Own Marks made Next c d v (with_out see v i (at c i)) [] i (v.actor + 1) × (made d ≡ made c) × told v i (at c i)

  -- where the slot is taken, the seat may note who has it: an event of its own record, or none
  abbrev pub Misses : (ℕ → A → A) → (V → ℕ → ℕ → Type 0) → V → ℕ → Type 0
  Misses miss missed v i = (word : ℕ) (c : C) → Kept c → Backs at Fits Own c v → (u : V) → Backs at Fits Own c u → u.live ≡ true → word ≡ u.actor + 1 → Has u.out i (at c i) → ((HasKey v.out i → ⊥) → u.actor ≢ v.actor) → Marks c i word
      → (d : C) × Changes at Fits Own Marks made Next c d v (with_mine v (miss word v.mine)) [] i word × (made d ≡ made c) × missed v i word

  -- a view that stands for the same actors, and has the same out, in a core state with the same values
  renotes : (n : ℕ) (s : State S V) (i id : ℕ) (cs : List (ℕ × S)) (v w : V) (o : Rule n s) → get_elem? s.views id ≡ some v → v.live ≡ true → w.live ≡ v.live → w.actor ≡ v.actor → w.out ≡ v.out → w.born ≡ v.born → w.absorbed ≡ v.absorbed → w.forked ≡ v.forked
      → (near : i < n) (d : C) → Changes at Fits Own Marks made Next o.core d v w [] i (get_or s.words i 0) → made d ≡ made o.core → Rule n (stepped s i (get_or s.words i 0) id cs w keeps)
  renotes n s i id cs v w o there live l a out born absorbed forked near d ch same_made = let c : C = o.core in let new : ℕ = get_or s.words i 0 in let kept_at : (k : ℕ) → at d k ≡ at c k = λ k. ch.rest k (λ h. h.1) in let mine = o.each id v there in let vs : List V = set s.views id w in
      let in_v : (k : ℕ) → HasKey (stands w) k → HasKey (stands v) k = λ k h. let g = subst (λ b. Has (stands_if b ((w.actor, w.mine) ∷ w.born ++ w.absorbed)) k h.0) (l ∙ live) h.1 in
      ⊎_elim (λ e. (v.mine, subst (λ (x : ℕ). Has (stands v) x v.mine) (sym a ∙ e.0) (own v live)))
      (λ t. (h.0, subst (λ b. Has (stands_if b ((v.actor, v.mine) ∷ v.born ++ v.absorbed)) k h.0) (sym live) (inr (subst (λ y. Has (y ++ v.absorbed) k h.0) born (subst (λ y. Has (w.born ++ y) k h.0) absorbed t))))) g in
      let mk : Makes made c d v w = record {
        back = λ k h. inl (in_v k h);
        born = λ k h. inl (subst (λ y. HasKey y k) born h);
        unborn = λ k h. let t = mine.backs.unborn k (subst (λ y. HasKey y k) born h) in ((λ e. t.0 (e ∙ a)), λ z. t.1 (subst (λ y. HasKey y k) absorbed z));
        unjoined = λ h. mine.backs.unjoined (subst (HasKey v.absorbed) a (subst (λ y. HasKey y w.actor) absorbed h));
        forked = λ k h. subst (In k) (sym forked) h;
        new = λ k h. inl (omega arith);
      } in
      let P : List ℕ → Type 0 = λ ws. Rule n record { words = ws; homes = s.homes; views = vs } in subst P (sym (set-get_or s.words i 0)) record {
        core = d;
        kept = law c d v.actor o.kept ch.next;
        marks = λ k h. dite (ℕ_discrete k i) (λ e. subst (λ (m : ℕ). Marks d m (get_or s.words m 0)) (sym e) (ch.mark (get_or s.words i 0) (o.marks i near))) (λ ne. ch.marks k (get_or s.words k 0) ne (o.marks k h));
        long = o.long;
        wide = o.wide;
        free = λ k h z. o.free k h z ∙ ap (λ (y : S). some (some y)) (sym (kept_at k));
        taken = λ k h z. let t = o.taken k h z in subst (λ (y : S). Holds vs (get_or s.words k 0) k y) (sym (kept_at k)) (dite (ℕ_discrete t.seat id)
            (λ f. let e : t.view ≡ v = one s.views id t.view v (subst (λ (j : ℕ). get_elem? s.views j ≡ some t.view) f t.there) there in
            record { seat = id; view = w; there = set_there s.views id w v there; word_is = t.word_is ∙ (ap (λ (x : V). x.actor + 1) e ∙ ap (λ (x : ℕ). x + 1) (sym a)); has = subst (λ y. Has y k (at c k)) (sym out) (subst (λ (x : V). Has x.out k (at c k)) e t.has) })
            (λ nj. record { seat = t.seat; view = t.view; there = set_else s.views id t.seat w nj ∙ t.there; word_is = t.word_is; has = t.has }));
        each = λ j u e. ⊎_elim
            (λ m. subst (λ (x : V). Sits at Fits Own n s.words d x) m.1 record {
              backs = record { records = ch.records; values = λ k x h. kept_at k ∙ mine.backs.values k x (subst (λ y. Has y k x) out h); unborn = mk.unborn; unjoined = mk.unjoined; own = ch.own };
              outs = λ k h. let t = mine.outs k (subst (λ y. HasKey y k) out h) in (t.0, l ∙ t.1, t.2 ∙ ap (λ (x : ℕ). x + 1) (sym a));
            })
            (λ m. sits_on n s o id v there d w [] i new ch mk s.words j u m.0 m.1 (λ k _ g. g.1) (λ k h. refl))
            (at_set s.views id j w u e);
        alone = alone_after n s o id v there d w [] i new ch mk;
        parents = parents_after n s o id v there d w [] i new ch mk (l ∙ live) a;
      }

  take_makes : (see : S → A → A) (v : V) (i : ℕ) (x : S) (c d : C) → v.live ≡ true → Backs at Fits Own c v → made d ≡ made c → Makes made c d v (with_out see v i x)
  take_makes see v i x c d live b same = record {
    back = λ a h. inl (⊎_elim (λ e. (v.mine, subst (λ k. Has (stands v) k v.mine) e.0 (own v live))) (λ t. (h.0, subst (λ b. Has (stands_if b ((v.actor, v.mine) ∷ v.born ++ v.absorbed)) a h.0) (sym live) (inr t)))
        (subst (λ b. Has (stands_if b ((v.actor, see x v.mine) ∷ v.born ++ v.absorbed)) a h.0) live h.1));
    born = λ a h. inl h;
    unborn = b.unborn;
    unjoined = b.unjoined;
    forked = λ k h. h;
    new = λ k h. inl (omega arith);
  }

  pub tries : (n slots id i : ℕ) (me : Me S V) (see : S → A → A) (told : V → ℕ → S → Type 0) (miss : ℕ → A → A) (missed : V → ℕ → ℕ → Type 0) → i < n → me.0.live ≡ true → Sees see told me.0 i → Misses miss missed me.0 i
      → Allows (Rule n) slots id me i (λ x. either (eqb x 0) (me.0.actor + 1) x) (Took see told miss missed me i)
  tries n slots id i me see told miss missed near live sees misses s o wide there small = let v : V = me.0 in let word : ℕ = get_or s.words i 0 in
      exchanged word 0 (v.actor + 1) (λ k. (w : V) × (a : Act S) × Valid s.homes me.1 a × Rule n (stepped s i k id me.1 w a) × Took see told miss missed me i word (w, carried_after me.1 a))
      (λ free. let c : C = o.core in let x : S = at c i in let mine = o.each id v there in let r = sees c o.kept mine.backs (subst (Marks c i) free (o.marks i near)) in let d : C = r.0 in let ch = r.1 in let w : V = with_out see v i x in
      let mk = take_makes see v i x c d live mine.backs r.2 in
      let ws : List ℕ = set s.words i (v.actor + 1) in let long : i < length s.words = omega (arith, o.long) in let here : get_or ws i 0 ≡ v.actor + 1 = get_or-set_same s.words i (v.actor + 1) 0 long in
      let else_ : (k : ℕ) → k ≢ i → get_or ws k 0 ≡ get_or s.words k 0 = λ k ne. get_or-set_other s.words i k (v.actor + 1) 0 ne in
      let kept_at : (k : ℕ) → at d k ≡ at c k = λ k. ch.rest k (λ h. h.1) in
      -- a slot that is out is not this one
      let other : (j k : ℕ) (u : V) → get_elem? s.views j ≡ some u → HasKey u.out k → k ≢ i = λ j k u e h f. (let t = (o.each j u e).outs k h in let z : get_or s.words k 0 ≡ u.actor + 1 = t.2 in absurd (omega (arith, z, ap (λ (m : ℕ). get_or s.words m 0) f, free))) in (
        w,
        takes i x,
        o.free i near free,
        record {
          core = d;
          kept = law c d v.actor o.kept ch.next;
          marks = λ k h. dite (ℕ_discrete k i) (λ e. subst (λ (m : ℕ). Marks d m (get_or ws m 0)) (sym e) (subst (Marks d i) (sym here) (ch.mark word (o.marks i near))))
              (λ ne. subst (Marks d k) (sym (else_ k ne)) (ch.marks k (get_or s.words k 0) ne (o.marks k h)));
          long = length-set s.words i (v.actor + 1) ∙ o.long;
          wide = length-set s.homes i none ∙ o.wide;
          free = λ k h z. (let ne : k ≢ i = λ f. absurd (omega (arith, here, z, ap (λ (m : ℕ). get_or ws m 0) f)) in set_else s.homes i k none ne ∙ (o.free k h (sym (else_ k ne) ∙ z) ∙ ap (λ (y : S). some (some y)) (sym (kept_at k))));
          taken = λ k h z. dite (ℕ_discrete k i)
              (λ f. subst (λ (m : ℕ). Holds (set s.views id w) (get_or ws m 0) m (at d m)) (sym f) record { seat = id; view = w; there = set_there s.views id w v there; word_is = here; has = inl (refl, sym (kept_at i)) })
              (λ ne. let t = o.taken k h (λ f. z (else_ k ne ∙ f)) in subst (λ (y : S). Holds (set s.views id w) (get_or ws k 0) k y) (sym (kept_at k)) (
              dite (ℕ_discrete t.seat id)
              (λ f. let e : t.view ≡ v = one s.views id t.view v (subst (λ (j : ℕ). get_elem? s.views j ≡ some t.view) f t.there) there in
              record { seat = id; view = w; there = set_there s.views id w v there; word_is = else_ k ne ∙ (t.word_is ∙ ap (λ (y : V). y.actor + 1) e); has = inr (subst (λ (y : V). Has y.out k (at c k)) e t.has) })
              (λ nj. record { seat = t.seat; view = t.view; there = set_else s.views id t.seat w nj ∙ t.there; word_is = else_ k ne ∙ t.word_is; has = t.has })));
          each = λ j u e. ⊎_elim
              (λ m. subst (λ (y : V). Sits at Fits Own n ws d y) m.1 record {
                backs = record { records = ch.records; values = λ k y h. ⊎_elim (λ g. subst (λ (m : ℕ). at d m ≡ y) g.0 (kept_at i ∙ g.1)) (λ g. kept_at k ∙ mine.backs.values k y g) h; unborn = mine.backs.unborn; unjoined = mine.backs.unjoined; own = ch.own };
                outs = λ k h. ⊎_elim (λ g. (subst (λ (m : ℕ). m < n) g.0 near, live, subst (λ (m : ℕ). get_or ws m 0 ≡ v.actor + 1) g.0 here))
                    (λ g. let t = mine.outs k (h.0, g) in let ne = other id k v there (h.0, g) in (t.0, t.1, else_ k ne ∙ t.2)) h.1;
              })
              (λ m. sits_on n s o id v there d w [] i (v.actor + 1) ch mk ws j u m.0 m.1 (λ k _ g. g.1) (λ k h. else_ k (other j k u m.1 h)))
              (at_set s.views id j w u e);
          alone = alone_after n s o id v there d w [] i (v.actor + 1) ch mk;
          parents = parents_after n s o id v there d w [] i (v.actor + 1) ch mk live refl;
        },
        ((λ _. (x, refl, r.3, λ h. other id i v there h refl)), λ ne. absurd (ne free)),
      ))
      (λ held. let c : C = o.core in let mine = o.each id v there in let t = o.taken i near held in let u : V = t.view in let f = o.each t.seat u t.there in let live' = (f.outs i (at c i, t.has)).1 in
      let r = misses word c o.kept mine.backs u f.backs live' t.word_is t.has (λ none. λ e. none (let same : t.seat ≡ id = o.alone t.seat id u v v.actor t.there there (u.mine, subst (λ k. Has (stands u) k u.mine) e (own u live')) (v.mine, own v live) in
      (at c i, subst (λ (x : V). Has x.out i (at c i)) (one s.views id u v (subst (λ (k : ℕ). get_elem? s.views k ≡ some u) same t.there) there) t.has))) (o.marks i near) in
      let w : V = with_mine v (miss word v.mine) in (w, keeps, tt, renotes n s i id me.1 v w o there live refl refl refl refl refl refl near r.0 r.1 r.2, ((λ e. absurd (held e)), λ _. (refl, r.3))))

  pub returns : (n slots id i : ℕ) (me : Me S V) (y : S) (held : List (ℕ × S)) (w : V) → me.1 ≡ (i, y) ∷ held → Returns me.0 w i → Does at Fits Own Marks made Kept Next me.0 w i y
      → Allows (Rule n) slots id me i (λ _. 0) (λ _ m. m ≡ (w, held))
  returns n slots id i me y held w has g does s o wide there small = let v : V = me.0 in let c : C = o.core in let mine = o.each id v there in let r = does c o.kept mine.backs in
      let d : C = r.0 in let ch = r.1 in let mk = r.2 in let ys : List (ℕ × S) = (i, y) ∷ w.out in let out = mine.outs i g.given in let near : i < n = out.0 in let was : get_or s.words i 0 ≡ v.actor + 1 = out.2 in
      let ws : List ℕ = set s.words i 0 in let long : i < length s.words = omega (arith, o.long) in let here : get_or ws i 0 ≡ 0 = get_or-set_same s.words i 0 0 long in
      let else_ : (k : ℕ) → k ≢ i → get_or ws k 0 ≡ get_or s.words k 0 = λ k ne. get_or-set_other s.words i k 0 0 ne in
      -- what the step may change was out with this seat
      let own_key : (k : ℕ) → HasKey ys k → HasKey v.out k = λ k h. ⊎_elim (λ e. subst (λ (m : ℕ). HasKey v.out m) e.0 g.given) (λ t. (g.back k (h.0, t)).0) h.1 in
      let off : (j k : ℕ) (u : V) → j ≢ id → get_elem? s.views j ≡ some u → HasKey u.out k → HasKey ys k → ⊥ = λ j k u nj e h f. nj (same_seat n s o id v there d w ys i 0 ch mk j u k e h (own_key k f)) in
      let result : Rule n record { words = ws; homes = set s.homes i (some y); views = set s.views id w } = record {
        core = d;
        kept = law c d v.actor o.kept ch.next;
        marks = λ k h. dite (ℕ_discrete k i) (λ e. subst (λ (m : ℕ). Marks d m (get_or ws m 0)) (sym e) (subst (Marks d i) (sym here) (ch.mark (get_or s.words i 0) (o.marks i near))))
            (λ ne. subst (Marks d k) (sym (else_ k ne)) (ch.marks k (get_or s.words k 0) ne (o.marks k h)));
        long = length-set s.words i 0 ∙ o.long;
        wide = length-set s.homes i (some y) ∙ o.wide;
        free = λ k h z. dite (ℕ_discrete k i)
            (λ f. subst (λ (m : ℕ). get_elem? (set s.homes i (some y)) m ≡ some (some (at d m))) (sym f) (set_here s.homes i (some y) (omega (arith, o.wide)) ∙ ap (λ (x : S). some (some x)) (sym (ch.values i y (inl (refl, refl))))))
            (λ ne. let e : get_or s.words k 0 ≡ 0 = sym (else_ k ne) ∙ z in
            set_else s.homes i k (some y) ne ∙ (o.free k h e ∙ ap (λ (x : S). some (some x)) (sym (ch.rest k (λ f. let b = (mine.outs k (own_key k f)).2 in absurd (omega (arith, b, e)))))));
        taken = λ k h z. let ne : k ≢ i = λ f. z (ap (λ (m : ℕ). get_or ws m 0) f ∙ here) in let t = o.taken k h (λ f. z (else_ k ne ∙ f)) in dite (ℕ_discrete t.seat id)
            (λ f. let e : t.view ≡ v = one s.views id t.view v (subst (λ (j : ℕ). get_elem? s.views j ≡ some t.view) f t.there) there in
            let q = g.forth k (subst (λ (x : V). HasKey x.out k) e (at c k, t.has)) ne in
            record { seat = id; view = w; there = set_there s.views id w v there; word_is = else_ k ne ∙ (t.word_is ∙ (ap (λ (x : V). x.actor + 1) e ∙ ap (λ (m : ℕ). m + 1) (sym g.actor))); has = subst (λ (x : S). Has w.out k x) (sym (ch.values k q.0 (inr q.1))) q.1 })
            (λ nj. record {
              seat = t.seat;
              view = t.view;
              there = set_else s.views id t.seat w nj ∙ t.there;
              word_is = else_ k ne ∙ t.word_is;
              has = subst (λ (x : S). Has t.view.out k x) (sym (ch.rest k (λ f. off t.seat k t.view nj t.there (at c k, t.has) f))) t.has;
            });
        each = λ j u e. ⊎_elim
            (λ m. subst (λ (x : V). Sits at Fits Own n ws d x) m.1 record {
              backs = record { records = ch.records; values = λ k x h. ch.values k x (inr h); unborn = mk.unborn; unjoined = mk.unjoined; own = ch.own };
              outs = λ k h. let b = g.back k h in let t = mine.outs k b.0 in (t.0, g.still, else_ k b.1 ∙ (t.2 ∙ ap (λ (m : ℕ). m + 1) (sym g.actor)));
            })
            (λ m. sits_on n s o id v there d w ys i 0 ch mk ws j u m.0 m.1 (λ k. off j k u m.0 m.1)
            (λ k h. else_ k (λ f. off j k u m.0 m.1 h (y, inl (sym f, refl)))))
            (at_set s.views id j w u e);
        alone = alone_after n s o id v there d w ys i 0 ch mk;
        parents = parents_after n s o id v there d w ys i 0 ch mk g.still g.actor;
      } in
      subst (λ (l : List (ℕ × S)). (x : V) × (a : Act S) × Valid s.homes l a × Rule n (stepped s i 0 id l x a) × ◌≡◌ {A = Me S V} (x, carried_after l a) (w, held)) (sym has) (w, gives, tt, result, refl)

  -- a seat's new actor gets a seat of its own
  pub splits : (n id : ℕ) (v : V) (k : ℕ) (r : A) → (Own v → Own (parting v) × Own (child v)) → v.live ≡ true → v.born ≡ (k, r) ∷ [] → Splits (Rule n) id v (parting v) (child v)
  splits n id v k r owns live is s o there = let c : C = o.core in let mine = o.each id v there in let l : V = parting v in let w : V = child v in let vs : List V = set s.views id l in let all : List V = vs ++ w ∷ [] in
      let here : get_elem? vs id ≡ some l = set_there s.views id l v there in
      let w_is : w ≡ Rattle.mi_latch.specs.Shows.known k r [] [] [] [] = ap (child_of v.mine) is in
      let born : HasKey v.born k = (r, subst (λ (b : List (ℕ × A)). Has b k r) (sym is) (inl (refl, refl))) in
      -- an actor of the smaller view is one of the old view, and not the new actor
      let was : (a : ℕ) (q : A) → Has (stands l) a q → Has (stands v) a q = λ a q h. subst (λ b. Has (stands_if b ((v.actor, v.mine) ∷ v.born ++ v.absorbed)) a q) (sym live)
      (⊎_elim (λ t. inl t) (λ t. inr (has_right v.born v.absorbed a q t)) (subst (λ b. Has (stands_if b ((v.actor, v.mine) ∷ [] ++ v.absorbed)) a q) live h)) in
      let not_new : HasKey (stands l) k → ⊥ = λ h. ⊎_elim (λ t. (mine.backs.unborn k born).0 (sym t.0)) (λ t. (mine.backs.unborn k born).1 (h.0, t)) (subst (λ b. Has (stands_if b ((v.actor, v.mine) ∷ [] ++ v.absorbed)) k h.0) live h.1) in
      let new_only : (a : ℕ) → HasKey (stands w) a → a ≡ k = λ a h. ⊎_elim (λ t. sym t.0) (λ t. absurd t) (subst (λ (x : V). Has (stands x) a h.0) w_is h.1) in
      let is_v : Has (stands v) k r = subst (λ b. Has (stands_if b ((v.actor, v.mine) ∷ v.born ++ v.absorbed)) k r) (sym live) (inr (has_left v.born v.absorbed k r (subst (λ (b : List (ℕ × A)). Has b k r) (sym is) (inl (refl, refl))))) in
      -- an old view that stands for a is at its place
      let old : (j : ℕ) (u : V) (a : ℕ) → get_elem? vs j ≡ some u → HasKey (stands u) a → (t : V) × (get_elem? s.views j ≡ some t) × HasKey (stands t) a = λ j u a e h. ⊎_elim
      (λ m. (v, subst (λ (x : ℕ). get_elem? s.views x ≡ some v) (sym m.0) there, (let g = subst (λ (x : V). HasKey (stands x) a) (sym m.1) h in (g.0, was a g.0 g.1)))) (λ m. (u, m.1, h)) (at_set s.views id j l u e) in
      let never : (j : ℕ) (u : V) → get_elem? vs j ≡ some u → HasKey (stands u) k → ⊥ = λ j u e h. let t = old j u k e h in let same : j ≡ id = o.alone j id t.0 v k t.1 there t.2 (r, is_v) in
      not_new (subst (λ (x : V). HasKey (stands x) k) (one vs id u l (subst (λ (m : ℕ). get_elem? vs m ≡ some u) same e) here) h) in
      record {
        core = c;
        kept = o.kept;
        marks = o.marks;
        long = o.long;
        wide = o.wide;
        free = o.free;
        taken = λ i h z. let t = o.taken i h z in dite (ℕ_discrete t.seat id)
            (λ f. let e : t.view ≡ v = one s.views id t.view v (subst (λ (j : ℕ). get_elem? s.views j ≡ some t.view) f t.there) there in
            record { seat = id; view = l; there = at_longer vs (w ∷ []) id l here; word_is = t.word_is ∙ ap (λ (x : V). x.actor + 1) e; has = subst (λ (x : V). Has x.out i (at c i)) e t.has })
            (λ nj. record { seat = t.seat; view = t.view; there = at_longer vs (w ∷ []) t.seat t.view (set_else s.views id t.seat l nj ∙ t.there); word_is = t.word_is; has = t.has });
        each = λ j u e. ⊎_elim
            (λ m. ⊎_elim
            (λ z. subst (λ (x : V). Sits at Fits Own n s.words c x) z.1 record {
              backs = record { records = λ a q h. mine.backs.records a q (was a q h); values = mine.backs.values; unborn = λ x h. absurd h.1; unjoined = mine.backs.unjoined; own = (owns mine.backs.own).0 };
              outs = mine.outs;
            })
            (λ z. o.each j u z.1)
            (at_set s.views id j l u m))
            (λ m. subst (λ (x : V). Sits at Fits Own n s.words c x) (sym w_is ∙ m.1) record {
              backs = record { records = λ a q h. ⊎_elim (λ t. subst (λ (x : ℕ). Fits c x q) t.0 (subst (λ (x : A). Fits c k x) t.1 (mine.backs.records k r is_v))) (λ t. absurd t) h; values = λ i x h. absurd h; unborn = λ x h. absurd h.1; unjoined = λ h. absurd h.1; own = subst Own w_is (owns mine.backs.own).1 };
              outs = λ i h. absurd h.1;
            })
            (at_snoc vs w u j e);
        alone = λ i j u t a e f g h. ⊎_elim
            (λ m. ⊎_elim
            (λ z. let x = old i u a m g in let y = old j t a z h in o.alone i j x.0 y.0 a x.1 y.1 x.2 y.2)
            (λ z. let q = new_only a (subst (λ (x : V). HasKey (stands x) a) (sym z.1) h) in absurd (never i u m (subst (HasKey (stands u)) q g)))
            (at_snoc vs w t j f))
            (λ m. ⊎_elim
            (λ z. let q = new_only a (subst (λ (x : V). HasKey (stands x) a) (sym m.1) g) in absurd (never j t z (subst (HasKey (stands t)) q h)))
            (λ z. m.0 ∙ sym z.0)
            (at_snoc vs w t j f))
            (at_snoc vs w u i e);
        parents = λ m pos below. let p = o.parents m pos below in record {
          maker = p.maker;
          less = p.less;
          heirs = λ j u e h. ⊎_elim
              (λ x. ⊎_elim (λ z. subst (λ (y : V). In m y.forked × (HasKey y.born p.maker → ⊥)) z.1 (let g = subst (λ (y : V). HasKey (stands y) p.maker) (sym z.1) h in ((p.heirs id v there (g.0, was p.maker g.0 g.1)).0, λ b. absurd b.1)))
              (λ z. p.heirs j u z.1 h) (at_set s.views id j l u x))
              (λ x. let q = new_only p.maker (subst (λ (y : V). HasKey (stands y) p.maker) (sym x.1) h) in absurd ((p.heirs id v there (r, subst (λ (y : ℕ). Has (stands v) y r) (sym q) is_v)).1 (subst (HasKey v.born) (sym q) born)))
              (at_snoc vs w u j e);
        };
      }

  -- what becomes of the core state where one seat takes in another
  abbrev pub JoinsTo : V → V → V → Type 0
  JoinsTo v w both = (c : C) → Kept c → Backs at Fits Own c v → Backs at Fits Own c w → ((k : ℕ) → HasKey (stands v) k → HasKey (stands w) k → ⊥) → (d : C) × Merges at Fits Own Marks made Next c d v w both

  -- the second seat's actors go over to the first
  pub joins : (n id other : ℕ) (v w : V) (blend : A → A → A) (over : A → A) (z : A) → Own (spent z) → v.live ≡ true → w.live ≡ true → w.out ≡ [] → w.born ≡ [] → v.born ≡ [] → JoinsTo v w (joined blend over v w)
      → Joins (Rule n) id v other w (joined blend over v w) (spent z)
  joins n id other v w blend over z owns live live' empty unborn unborn' does s o there ne there' = let c : C = o.core in let both : V = joined blend over v w in let gone : V = spent z in
      let vs : List V = set s.views id both in let all : List V = set vs other gone in
      let was : get_elem? s.views other ≡ some w = sym (set_else s.views id other both ne) ∙ there' in
      let mine = o.each id v there in let theirs = o.each other w was in let r = does c o.kept mine.backs theirs.backs (λ k h g. ne (sym (o.alone id other v w k there was h g))) in let d : C = r.0 in let mg = r.1 in
      let here : get_elem? all id ≡ some both = set_else vs other id gone (λ e. ne (sym e)) ∙ set_there s.views id both v there in
      let apart : HasKey (stands w) v.actor → ⊥ = λ h. ne (sym (o.alone id other v w v.actor there was (v.mine, own v live) h)) in
      -- the actors of the joined view are those of the two
      let from : (a : ℕ) → HasKey (stands both) a → HasKey (stands v) a ⊎ HasKey (stands w) a = λ a h.
      let in_v : Has ((v.actor, v.mine) ∷ v.born ++ v.absorbed) a h.0 → HasKey (stands v) a = λ g. (h.0, subst (λ b. Has (stands_if b ((v.actor, v.mine) ∷ v.born ++ v.absorbed)) a h.0) (sym live) g) in
      let in_w : Has ((w.actor, w.mine) ∷ w.born ++ w.absorbed) a h.0 → HasKey (stands w) a = λ g. (h.0, subst (λ b. Has (stands_if b ((w.actor, w.mine) ∷ w.born ++ w.absorbed)) a h.0) (sym live') g) in
      ⊎_elim (λ t. inl (v.mine, subst (λ (k : ℕ). Has (stands v) k v.mine) t.0 (own v live)))
      (λ g. ⊎_elim (λ x. inl (in_v (inr (has_right v.born v.absorbed a h.0 x))))
      (λ g. ⊎_elim (λ t. inr (w.mine, subst (λ (k : ℕ). Has (stands w) k w.mine) t.0 (own w live'))) (λ x. inr (in_w (inr (has_right w.born w.absorbed a h.0 x)))) g) (has_append v.absorbed ((w.actor, over w.mine) ∷ w.absorbed) a h.0 g))
      (subst (λ b. Has (stands_if b ((v.actor, blend v.mine w.mine) ∷ v.absorbed ++ (w.actor, over w.mine) ∷ w.absorbed)) a h.0) live h.1) in
      let no_spent : (u : V) (a : ℕ) → gone ≡ u → HasKey (stands u) a → ⊥ = λ u a e h. (subst (λ (x : V). HasKey (stands x) a) (sym e) h).1 in
      -- where a view that stands for an actor was before, and what it stood for
      let at_ : (j : ℕ) (u : V) (a : ℕ) → get_elem? all j ≡ some u → HasKey (stands u) a → ((j ≡ id) × (both ≡ u)) ⊎ ((j ≢ id) × (j ≢ other) × (get_elem? s.views j ≡ some u)) = λ j u a e h.
      ⊎_elim (λ m. absurd (no_spent u a m.1 h)) (λ m. ⊎_elim (λ x. inl x) (λ x. inr (x.0, m.0, x.1)) (at_set s.views id j both u m.1)) (at_set vs other j gone u e) in
      let clash : (j : ℕ) (u : V) (a : ℕ) → j ≢ id → j ≢ other → get_elem? s.views j ≡ some u → HasKey (stands u) a → HasKey (stands both) a → ⊥ = λ j u a x y e h g.
      ⊎_elim (λ t. x (o.alone j id u v a e there h t)) (λ t. y (o.alone j other u w a e was h t)) (from a g) in
      record {
        core = d;
        kept = law c d v.actor o.kept mg.next;
        marks = λ k h. mg.marks k (get_or s.words k 0) (o.marks k h);
        long = o.long;
        wide = o.wide;
        free = λ i h e. o.free i h e ∙ ap (λ (x : S). some (some x)) (sym (mg.same i));
        taken = λ i h e. let t = o.taken i h e in subst (λ (x : S). Holds all (get_or s.words i 0) i x) (sym (mg.same i)) (dite (ℕ_discrete t.seat id)
            (λ f. let is : t.view ≡ v = one s.views id t.view v (subst (λ (j : ℕ). get_elem? s.views j ≡ some t.view) f t.there) there in
            record { seat = id; view = both; there = here; word_is = t.word_is ∙ ap (λ (x : V). x.actor + 1) is; has = subst (λ (x : V). Has x.out i (at c i)) is t.has })
            (λ x. dite (ℕ_discrete t.seat other)
            (λ f. let is : t.view ≡ w = one s.views other t.view w (subst (λ (j : ℕ). get_elem? s.views j ≡ some t.view) f t.there) was in
            absurd (subst (λ (l : List (ℕ × S)). Has l i (at c i)) empty (subst (λ (x : V). Has x.out i (at c i)) is t.has)))
            (λ y. record { seat = t.seat; view = t.view; there = set_else vs other t.seat gone y ∙ (set_else s.views id t.seat both x ∙ t.there); word_is = t.word_is; has = t.has })));
        each = λ j u e. ⊎_elim
            (λ m. subst (λ (x : V). Sits at Fits Own n s.words d x) m.1 record { backs = record { records = λ a q h. absurd h; values = λ i x h. absurd h; unborn = λ k h. absurd h.1; unjoined = λ h. absurd h.1; own = owns }; outs = λ i h. absurd h.1 })
            (λ m. ⊎_elim
            (λ x. subst (λ (y : V). Sits at Fits Own n s.words d y) x.1 record {
              backs = record {
                records = mg.records;
                values = λ i y h. mg.same i ∙ mine.backs.values i y h;
                unborn = λ k h. absurd h.1;
                unjoined = λ h. ⊎_elim (λ x. mine.backs.unjoined (h.0, x))
                    (λ t. ⊎_elim (λ t. apart (w.mine, subst (λ (k : ℕ). Has (stands w) k w.mine) t.0 (own w live')))
                    (λ x. apart (h.0, subst (λ b. Has (stands_if b ((w.actor, w.mine) ∷ w.born ++ w.absorbed)) v.actor h.0) (sym live') (inr (has_right w.born w.absorbed v.actor h.0 x)))) t)
                    (has_append v.absorbed ((w.actor, over w.mine) ∷ w.absorbed) v.actor h.0 h.1);
                own = mg.own;
              };
              outs = mine.outs;
            })
            (λ x. let f = o.each j u x.1 in record {
              backs = record {
                records = λ a q h. mg.others a q (f.backs.records a q h) (λ t. x.0 (o.alone j id u v a x.1 there (q, h) t)) (λ t. m.0 (o.alone j other u w a x.1 was (q, h) t));
                values = λ i y h. mg.same i ∙ f.backs.values i y h;
                unborn = f.backs.unborn;
                unjoined = f.backs.unjoined;
                own = f.backs.own;
              };
              outs = f.outs;
            })
            (at_set s.views id j both u m.1))
            (at_set vs other j gone u e);
        alone = λ i j u t a e f g h. ⊎_elim
            (λ x. ⊎_elim (λ y. x.0 ∙ sym y.0) (λ y. absurd (clash j t a y.0 y.1 y.2 h (subst (λ (k : V). HasKey (stands k) a) (sym x.1) g))) (at_ j t a f h))
            (λ x. ⊎_elim (λ y. absurd (clash i u a x.0 x.1 x.2 g (subst (λ (k : V). HasKey (stands k) a) (sym y.1) h))) (λ y. o.alone i j u t a x.2 y.2 g h) (at_ j t a f h))
            (at_ i u a e g);
        parents = λ k pos below. let m = mg.made_same in let p = o.parents k pos (omega arith) in record {
          maker = p.maker;
          less = p.less;
          heirs = λ j u e h. ⊎_elim
              (λ x. subst (λ (y : V). In k y.forked × (HasKey y.born p.maker → ⊥)) x.1 (
                ⊎_elim (λ t. in_left v.forked w.forked k (p.heirs id v there t).0) (λ t. in_right v.forked w.forked k (p.heirs other w was t).0) (from p.maker (subst (λ (y : V). HasKey (stands y) p.maker) (sym x.1) h)),
                λ b. absurd b.1,
              ))
              (λ x. p.heirs j u x.2 h)
              (at_ j u p.maker e h);
        };
      }

  -- the table at the start
  pub opens : (words : List ℕ) (xs : List S) (a : A) → length words ≡ length xs → ((i : ℕ) → get_or words i 0 ≡ 0) → Opens at Fits Own Marks made Kept xs a
      → Rule (length xs) (opening words xs (Rattle.mi_latch.specs.Shows.known 0 a [] [] [] []))
  opens words xs a long zeros o = let v : V = Rattle.mi_latch.specs.Shows.known 0 a [] [] [] [] in let only : (j : ℕ) (u : V) → get_elem? (v ∷ []) j ≡ some u → (j ≡ 0) × (v ≡ u) = elim [ zero ↦ λ u e. (refl, some-injective v u e) | suc j ↦ λ u e. absurd (some-ne-none u (sym e)) ] in record {
    core = o.core;
    kept = o.kept;
    marks = λ i h. subst (Marks o.core i) (sym (zeros i)) (o.marks i);
    long = long;
    wide = Rattle.std.proofs.lemmas.List.length-map xs some;
    free = λ i h e. Rattle.atomic_table.proofs.Lists.at_map some xs i (at o.core i) (o.values i h);
    taken = λ i h e. absurd (e (zeros i));
    each = λ j u e. subst (λ (x : V). Sits at Fits Own (length xs) words o.core x) (only j u e).1 record {
      backs = record { records = λ b q h. ⊎_elim (λ t. subst (λ (k : ℕ). Fits o.core k q) t.0 (subst (λ (x : A). Fits o.core 0 x) t.1 o.fits)) (λ t. absurd t) h; values = λ i x h. absurd h; unborn = λ k h. absurd h.1; unjoined = λ h. absurd h.1; own = o.own };
      outs = λ i h. absurd h.1;
    };
    alone = λ i j u t b e f g h. (only i u e).0 ∙ sym (only j t f).0;
    parents = λ k pos below. (let m = o.one in absurd (omega arith));
  }

  module _ (n : ℕ) (s : State S V) (o : Rule n s) (id : ℕ) (v : V) (me : get_elem? s.views id ≡ some v) (cover : Covers v) where
    below : (m k : ℕ) → k < m → k < made o.core → HasKey (stands v) k
    below zero k h g = absurd (omega arith)
    below (suc m) zero h g = cover.first
    below (suc m) (suc k) h g = let p = o.parents (suc k) (omega arith) g in let l = p.less in cover.heirs (suc k) (p.heirs id v me (below m p.maker (omega arith) (omega arith))).0

    -- it stands for every actor
    pub stands_for_all : (k : ℕ) → k < made o.core → HasKey (stands v) k
    stands_for_all k h = below (suc k) k (omega arith) h

    -- and so, where it holds no slot, each value is at home
    pub all_home : v.out ≡ [] → (i : ℕ) → i < n → get_elem? s.homes i ≡ some (some (at o.core i))
    all_home empty i h = dite (ℕ_discrete (get_or s.words i 0) 0) (λ e. o.free i h e) (λ ne. let t = o.taken i h ne in let u : V = t.view in let f = o.each t.seat u t.there in let live = (f.outs i (at o.core i, t.has)).1 in
        let mine = own u live in let made_ = fits_made o.core u.actor u.mine (f.backs.records u.actor u.mine mine) in
        let same : t.seat ≡ id = o.alone t.seat id u v u.actor t.there me (u.mine, mine) (stands_for_all u.actor made_) in
        let is : u ≡ v = one s.views id u v (subst (λ (j : ℕ). get_elem? s.views j ≡ some u) same t.there) me in
        absurd (subst (λ (l : List (ℕ × S)). Has l i (at o.core i)) empty (subst (λ (x : V). Has x.out i (at o.core i)) is t.has)))

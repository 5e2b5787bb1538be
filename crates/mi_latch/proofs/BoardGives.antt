-- The give of the board, alone or with other slots in hand: whatever kept core state backs what the seat knows, the event is one of its actor.
use Rattle.std.proofs.Common.{◌≡◌, ◌≢◌, ◌≤◌, inl, inr, ⊎_elim, ℕ, ◌+◌, ◌<◌, false, List, [], ◌∷◌, length, take, Some, get_or, set, sym, refl, ap, ◌∙◌, subst, arith, length-append, length-set, get_or-set_same, get_or-set_other}
use Rattle.std.specs.Prelude.{slice_set}
use Rattle.std.proofs.Math.Seq.{take-length}
use mathlib.Core.Logic.{dite}
use native.Mathlib.Decide.{ℕ_discrete}
use Rattle.atomic_table.specs.Table.{rest}
use Rattle.mi_base.specs.Configuration.{Configuration}
use Rattle.mi_page.specs.Nodes.{Node}
use Rattle.mi_board.specs.Boards.{BoardState, is_passed}
use Rattle.mi_core.specs.Events.{Can, Event, after}
use Rattle.mi_core.specs.Kept.{Kept}
use Rattle.mi_core.specs.Later.{IsLater}
use Rattle.mi_core.specs.State.{State, node_at, put_actor, put_board, put_page, put_shard}
use Rattle.mi_core.proofs.FrameEvents.{named_stays}
use Rattle.mi_core.proofs.KeptEvents.{each_keeps}
use Rattle.mi_core.proofs.LaterEvents.{event_leads_on}
use Rattle.mi_core.proofs.PageLemmas.{within}
use Rattle.mi_entries.specs.Actors.{Actor}
use Rattle.mi_entries.specs.Records.{Rows, Shard, held_by, no_shard, shard_at}
use Rattle.mi_latch.specs.Wanting.{given_in, leaf_wanted}
use Rattle.mi_latch.specs.declared.slots.Slot.{Slot}
use Rattle.mi_latch.specs.declared.slots.Slot.TheVariants.{OfBoard, OfPage, OfShard}
use Rattle.mi_latch.specs.Boards.{IsTold, MakesBoard, Telling, seeing}
use Rattle.mi_latch.specs.Boths.{HoldsBoth, HoldsCommit, MakesBoth, MakesCommit}
use Rattle.mi_latch.specs.Layout.{at}
use Rattle.mi_latch.specs.Shows.{Has, HasKey, One, Writes}
use Rattle.mi_latch.specs.Views.{Doing, Fits, HoldsLast, Knows, Mine, Seated, Sight, now}
use Rattle.mi_latch.proofs.Ones.{and_actor, at_board, at_page, at_shard, of_board, of_page, of_rows, read_page, read_shard}
use Rattle.mi_latch.proofs.PageNames.{one_more, one_of_either}
use Rattle.mi_latch.proofs.Steps.{changes, marks_on, me, out_has, rest_has}
use Rattle.mi_latch.proofs.Writing.{writes_frame, writes_more, writes_none}

-- what the seat knows after an event of the board is so
pub board_knows : (c : State) (k : Kept c) (a : ℕ) (m : Mine) (f : Fits c a m) → m.part.ended ≡ false → (e : Event) → Can c a m.part e → (was board : BoardState) (to : Actor) (t : Telling)
    → c.board ≡ was → (after c a m.part e).board ≡ board → IsTold a m was board to t → Knows (after c a m.part e) (seeing to board t m)
board_knows c k a m f going e can was board to t is new told =
    let d : State = after c a m.part e in
    let next : Kept d = each_keeps e c k a m.part f.part going can in
    let later : IsLater c d = event_leads_on e c k.sound a m.part f.part can in
    let more = length-append c.board.log later.more in
    let long : length d.board.log ≡ length c.board.log + length later.more = ap length later.log ∙ more in
    let saw = (k.sound.each a m.part f.part).saw.seen in
    let seen : to.seen ≡ length d.board.log = told.seen ∙ ap (λ (b : BoardState). length b.log) (sym new) in
    record {
      log = sym (take-length board.log) ∙ ap (λ n. take n board.log) (sym told.seen) ∙ ap (λ (b : BoardState). take to.seen b.log) (sym new);
      named = λ x h. named_stays c d k.sound next.sound later x (⊎_elim (λ z. told.named c k f is x z) (λ z. f.knows.named x z) (one_of_either t.names m.named x h));
      told = λ h. subst (λ (b : BoardState). b.allotted ≡ b.settings.pages) (sym new) (told.told c k f is h);
      wanted = ap (λ (b : BoardState). leaf_wanted b.settings b.log to.claim) (sym new);
      least = omega (arith, ap (λ (b : BoardState). b.height) new);
      first = one_more t.names m.named _ f.knows.first;
      pin = λ p h. ⊎_elim (λ same. let low = f.knows.pin p (sym same ∙ h) in omega (arith, low, saw, long, seen)) (λ z. z p h) told.pin;
      count = omega (arith, next.sound.counted, ap (λ (b : BoardState). length b.actors) new);
      note = record {
        settings = ap (λ (b : BoardState). b.settings) new;
        allotted = omega (arith, ap (λ (b : BoardState). b.allotted) new);
        given = omega (arith, ap given_in new);
      };
      passed = λ p h. ap (is_passed p) new;
    }

-- no actor is lost to it
pub count_on : (c : State) (k : Kept c) (a : ℕ) (m : Mine) (f : Fits c a m) → m.part.ended ≡ false → (e : Event) → Can c a m.part e → (board : BoardState) → (after c a m.part e).board ≡ board → m.count ≤ length board.actors
count_on c k a m f going e can board new =
    let next = each_keeps e c k a m.part f.part going can in
    let later = event_leads_on e c k.sound a m.part f.part can in
    let n = f.knows.count in
    omega (arith, n, later.actors, next.sound.counted, ap (λ (b : BoardState). length b.actors) new)

-- any event of the board alone
pub board_does : (settings : Configuration) (m : Seated) (was board : BoardState) (to : Actor) (t : Telling) (e : Event) → HoldsLast m 0 (OfBoard was) → MakesBoard m.0.actor m.0.mine was board to t e
    → Doing settings m.0 (now m.0 (seeing to board t m.0.mine) (rest m.0.out)) 0 (OfBoard board)
board_does settings m was board to t e l x c held b =
    let v : Sight = m.0 in
    let is : c.board ≡ was = of_board c.board was (b.values 0 (OfBoard was) (out_has v 0 (OfBoard was) (rest v.out) l.out)) in
    let f = me settings c held v l.live b in
    let y = x.does c held.kept f is in
    let d : State = after c v.actor v.mine.part e in
    let new : d.board ≡ board = ap (λ (s : State). s.board) y.1 in
    let knows = board_knows c held.kept v.actor v.mine f (b.own.mine l.live).going e y.0 was board to t is new x.tells in
    let one : One (at c) (at d) 0 (OfBoard board) = subst (λ (s : State). One (at c) (at s) 0 (OfBoard board)) (sym y.1) (and_actor c (put_board board c) v.actor to 0 (OfBoard board) (at_board c board)) in
    let z = changes settings c held v l.live b e y.0 (seeing to board t v.mine) (rest v.out) ((0, OfBoard board) ∷ rest v.out) 0 0 (ap (λ (s : State). s.actors) y.1) knows x.tells.going (count_on c held.kept v.actor v.mine f (b.own.mine l.live).going e y.0 board new)
    (writes_frame (at c) (at d) 0 (OfBoard board) (rest v.out) one (λ j y h. b.values j y (rest_has v 0 (OfBoard was) (rest v.out) l.out j y h)) l.others)
    (λ word h k g near. absurd (omega arith))
    (λ i word ne h. marks_on c d i word (λ k g near. ap (λ (s : State). (shard_at s.shards k).holder) y.1) h) in
    (d, z.0, z.1)

-- any event that writes the board and one more slot
pub both_does : (settings : Configuration) (m : Seated) (was board : BoardState) (to : Actor) (t : Telling) (i : ℕ) (old new : Slot) (more : List (ℕ × Slot)) (e : Event) → HoldsBoth m was i old more → i ≢ 0
    → MakesBoth settings m.0.actor m.0.mine was board to t i old new e → Doing settings m.0 (now m.0 (seeing to board t m.0.mine) ((i, new) ∷ more)) 0 (OfBoard board)
both_does settings m was board to t i old new more e h off x c held b =
    let v : Sight = m.0 in
    let l = h.last in
    let out : v.out ≡ (0, OfBoard was) ∷ (i, old) ∷ more = l.out ∙ ap (λ z. (0, OfBoard was) ∷ z) h.also in
    let is : c.board ≡ was = of_board c.board was (b.values 0 (OfBoard was) (out_has v 0 (OfBoard was) ((i, old) ∷ more) out)) in
    let f = me settings c held v l.live b in
    let y = x.does c held f is (b.values i old (rest_has v 0 (OfBoard was) ((i, old) ∷ more) out i old (inl (refl, refl)))) in
    let d : State = after c v.actor v.mine.part e in
    let d1 : State = put_actor v.actor to (put_board board y.mid) in
    let is_board : d.board ≡ board = ap (λ (s : State). s.board) y.is in
    let knows = board_knows c held.kept v.actor v.mine f (b.own.mine l.live).going e y.can was board to t is is_board x.tells in
    let in_more : (j : ℕ) (y : Slot) → Has more j y → at c j ≡ y = λ j y z. b.values j y (rest_has v 0 (OfBoard was) ((i, old) ∷ more) out j y (inr z)) in
    let no_zero : HasKey more 0 → ⊥ = λ z. l.others (subst (λ (o : List (ℕ × Slot)). HasKey o 0) (sym h.also) (z.0, inr z.1)) in
    let first = writes_frame (at c) (at y.mid) i new more y.one in_more h.apart in
    let both : Writes (at c) (at d) ((0, OfBoard board) ∷ (i, new) ∷ more) = subst (λ (s : State). Writes (at c) (at s) ((0, OfBoard board) ∷ (i, new) ∷ more)) (sym y.is)
    (writes_more (at c) (at y.mid) (at d1) 0 (OfBoard board) ((i, new) ∷ more) first (and_actor y.mid (put_board board y.mid) v.actor to 0 (OfBoard board) (at_board y.mid board)) (λ z. ⊎_elim (λ y. off y.0) (λ y. no_zero (z.0, y)) z.1)) in
    let z = changes settings c held v l.live b e y.can (seeing to board t v.mine) ((i, new) ∷ more) ((0, OfBoard board) ∷ (i, new) ∷ more) 0 0
    (ap (λ (s : State). s.actors) y.is ∙ ap (λ (l : List Actor). slice_set l v.actor to) y.actors) knows x.tells.going (count_on c held.kept v.actor v.mine f (b.own.mine l.live).going e y.can board is_board) both
    (λ word h k g near. absurd (omega arith))
    (λ j word ne h. marks_on c d j word (λ k g near. ap (λ (s : State). (shard_at s.shards k).holder) y.is ∙ y.holders k near) h) in
    (d, z.0, z.1)

-- a commit writes the board, a page and a shard
three : (c : State) (h p : ℕ) (x : Rows) (n : Node) (y : BoardState) (a : ℕ) (r : Actor) → length c.shards ≡ 16 → h < 16 → p < length c.pages
    → Writes (at c) (at (put_actor a r (put_page p n (put_shard h (held_by (Some a) x) (put_board y c))))) ((0, OfBoard y) ∷ (p + 17, OfPage n) ∷ (h + 1, OfShard x) ∷ [])
three c h p x n y a r sixteen near long =
    let s : Shard = held_by (Some a) x in
    let c1 : State = put_shard h s c in
    let c2 : State = put_page p n c1 in
    let d : State = put_actor a r (put_page p n (put_shard h s (put_board y c))) in
    let w1 = writes_more (at c) (at c) (at c1) (h + 1) (OfShard x) [] (writes_none (at c)) (at_shard c h s sixteen near) (λ t. t.1) in
    let w2 = writes_more (at c) (at c1) (at c2) (p + 17) (OfPage n) ((h + 1, OfShard x) ∷ []) w1 (at_page c1 p n (length-set c.shards h s ∙ sixteen) long) (λ t. ⊎_elim (λ z. let q = z.0 in absurd (omega arith)) (λ z. z) t.1) in
    writes_more (at c) (at c2) (at d) 0 (OfBoard y) ((p + 17, OfPage n) ∷ (h + 1, OfShard x) ∷ []) w2 (and_actor c2 (put_board y c2) a r 0 (OfBoard y) (at_board c2 y))
    (λ t. ⊎_elim (λ z. let q = z.0 in absurd (omega arith)) (λ t. ⊎_elim (λ z. let q = z.0 in absurd (omega arith)) (λ z. z) t) t.1)

-- the holder of each shard stays where a shard's holder keeps it
pub same_holders : (c : State) (h a : ℕ) (x : Rows) → length c.shards ≡ 16 → h < 16 → (shard_at c.shards h).holder ≡ Some a → (j : ℕ) → (shard_at (put_shard h (held_by (Some a) x) c).shards j).holder ≡ (shard_at c.shards j).holder
same_holders c h a x sixteen near holder j = dite (ℕ_discrete j h)
    (λ z. ap (λ (i : ℕ). (get_or (set c.shards h (held_by (Some a) x)) i no_shard).holder) z ∙ ap (λ (y : Shard). y.holder) (get_or-set_same c.shards h (held_by (Some a) x) no_shard (omega arith)) ∙ sym holder
    ∙ ap (λ (i : ℕ). (shard_at c.shards i).holder) (sym z))
    (λ z. ap (λ (y : Shard). y.holder) (get_or-set_other c.shards h j (held_by (Some a) x) no_shard z))

-- any event that writes the board, a page and a shard
pub commit_does : (settings : Configuration) (m : Seated) (was board : BoardState) (to : Actor) (t : Telling) (page : ℕ) (had new : Node) (k : ℕ) (rows left : Rows) (e : Event) → HoldsCommit m was page had k rows
    → MakesCommit settings m.0.actor m.0.mine was board to t page had new k rows left e
    → Doing settings m.0 (now m.0 (seeing to board t m.0.mine) ((page + 17, OfPage new) ∷ (k + 1, OfShard left) ∷ [])) 0 (OfBoard board)
commit_does settings m was board to t page had new k rows left e h x c held b =
    let v : Sight = m.0 in
    let l = h.last in
    let sixteen = held.kept.sound.sixteen in
    let outs : List (ℕ × Slot) = (page + 17, OfPage had) ∷ (k + 1, OfShard rows) ∷ [] in
    let next : List (ℕ × Slot) = (page + 17, OfPage new) ∷ (k + 1, OfShard left) ∷ [] in
    let out : v.out ≡ (0, OfBoard was) ∷ outs = l.out ∙ ap (λ z. (0, OfBoard was) ∷ z) h.also in
    let is : c.board ≡ was = of_board c.board was (b.values 0 (OfBoard was) (out_has v 0 (OfBoard was) outs out)) in
    let f = me settings c held v l.live b in
    let hold = (held.kept.sound.each v.actor v.mine.part f.part).holds.shard k h.shard in
    let on : node_at c.pages page ≡ Some had = of_page (node_at c.pages page) had (sym (read_page c page sixteen) ∙ b.values (page + 17) (OfPage had) (rest_has v 0 (OfBoard was) outs out (page + 17) (OfPage had) (inl (refl, refl)))) in
    let here : (shard_at c.shards k).rows ≡ rows = of_rows (shard_at c.shards k) rows (sym (read_shard c k sixteen hold.0) ∙ b.values (k + 1) (OfShard rows) (rest_has v 0 (OfBoard was) outs out (k + 1) (OfShard rows) (inr (inl (refl, refl))))) in
    let y = x.does c held f is on here in
    let d : State = after c v.actor v.mine.part e in
    let is_board : d.board ≡ board = ap (λ (s : State). s.board) y.1 in
    let knows = board_knows c held.kept v.actor v.mine f (b.own.mine l.live).going e y.0 was board to t is is_board x.tells in
    let w : Writes (at c) (at d) ((0, OfBoard board) ∷ next) = subst (λ (s : State). Writes (at c) (at s) ((0, OfBoard board) ∷ next)) (sym y.1) (three c k page left new board v.actor to sixteen hold.0 (within c.pages page had on)) in
    let z = changes settings c held v l.live b e y.0 (seeing to board t v.mine) next ((0, OfBoard board) ∷ next) 0 0 (ap (λ (s : State). s.actors) y.1) knows x.tells.going (count_on c held.kept v.actor v.mine f (b.own.mine l.live).going e y.0 board is_board) w
    (λ word g j e l. absurd (omega arith))
    (λ i word ne g. marks_on c d i word (λ j e low. ap (λ (s : State). (shard_at s.shards j).holder) y.1 ∙ same_holders c k v.actor left sixteen hold.0 hold.1 j) g) in
    (d, z.0, z.1)

-- One slot at a time: what is read in a slot, and which slot each part of the core state changes.
use Rattle.std.proofs.Common.{◌≡◌, ℕ, zero, suc, ◌+◌, ◌-◌, ◌<◌, List, [], ◌∷◌, ◌++◌, Option, Some, None, length, map, get_or, set, sym, refl, ap, ◌∙◌, subst, arith, add-one, length-append}
use Rattle.std.proofs.lemmas.List.{map-set, set-append_left, set-append_right, length-map, get_or_append_left, get_or-append_right}
use Rattle.mi_page.specs.Nodes.{Node}
use Rattle.mi_board.specs.Boards.{BoardState}
use Rattle.mi_entries.specs.Actors.{Actor}
use Rattle.mi_core.specs.State.{State, node_at, put_actor, put_board, put_page, put_shard}
use Rattle.mi_latch.specs.declared.slots.Slot.{Slot}
use Rattle.mi_latch.specs.declared.slots.Slot.TheVariants.{Vacant, OfBoard, OfShard, OfPage}
use Rattle.mi_latch.specs.Layout.{at, cells, of_shard, slot_of}
use Rattle.mi_entries.specs.Records.{Rows, Shard, no_shard, shard_at}
use Rattle.mi_latch.specs.Shows.{One}
use Rattle.mi_latch.proofs.Writing.{one_set}

ones : (c d : State) (i : ℕ) (x : Slot) → cells d ≡ set (cells c) i x → i < length (cells c) → One (at c) (at d) i x
ones c d i x e h = subst (λ (l : List Slot). One (at c) (λ j. get_or l j Vacant) i x) (sym e) (one_set (cells c) i x Vacant h)

pub at_board : (c : State) (b : BoardState) → One (at c) (at (put_board b c)) 0 (OfBoard b)
at_board c b = ones c (put_board b c) 0 (OfBoard b) refl (omega arith)

pub at_shard : (c : State) (k : ℕ) (s : Shard) → length c.shards ≡ 16 → k < 16 → One (at c) (at (put_shard k s c)) (k + 1) (of_shard s)
at_shard c k s sixteen h = let ms = map of_shard c.shards in let long : length ms ≡ length c.shards = length-map c.shards of_shard in
    ones c (put_shard k s c) (k + 1) (of_shard s)
    (rw (add-one k) (ap (λ l. OfBoard c.board ∷ l) (ap (λ l. l ++ map slot_of c.pages) (map-set of_shard c.shards k s) ∙ sym (set-append_left ms (map slot_of c.pages) k (of_shard s) (omega arith)))))
    (omega (arith, length-append ms (map slot_of c.pages)))

pub at_page : (c : State) (p : ℕ) (x : Node) → length c.shards ≡ 16 → p < length c.pages → One (at c) (at (put_page p x c)) (p + 17) (OfPage x)
at_page c p x sixteen h = let ms = map of_shard c.shards in let ps = map slot_of c.pages in let long : length ms ≡ 16 = length-map c.shards of_shard ∙ sixteen in
    ones c (put_page p x c) (p + 17) (OfPage x)
    (rw (let e : p + 17 ≡ suc (p + 16) = omega arith in e) (ap (λ l. OfBoard c.board ∷ l)
    (ap (λ l. ms ++ l) (map-set slot_of c.pages p (Some x) ∙ ap (λ (i : ℕ). set ps i (OfPage x)) (let e : p ≡ p + 16 - 16 = omega arith in e)) ∙ sym (set-append_right ms ps 16 (p + 16) (OfPage x) long (omega arith)))))
    (omega (arith, length-append ms ps, length-map c.pages slot_of))

pub at_actor : (c : State) (a : ℕ) (r : Actor) (i : ℕ) → at (put_actor a r c) i ≡ at c i
at_actor c a r i = refl

-- the part is written, and an actor's record, which lies in no slot
pub and_actor : (c d : State) (a : ℕ) (r : Actor) (i : ℕ) (x : Slot) → One (at c) (at d) i x → One (at c) (at (put_actor a r d)) i x
and_actor c d a r i x o = record { here = o.here; others = λ j n. o.others j n }

read_map : {X : Type 0} (f : X → Slot) (l : List X) (i : ℕ) (d : X) → i < length l → get_or (map f l) i Vacant ≡ f (get_or l i d)
read_map f [] i d h = absurd (omega arith)
read_map f (x ∷ l) zero d h = refl
read_map f (x ∷ l) (suc i) d h = read_map f l i d (omega arith)

read_pages : (ps : List (Option Node)) (i : ℕ) → get_or (map slot_of ps) i Vacant ≡ slot_of (get_or ps i None)
read_pages [] i = refl
read_pages (x ∷ l) zero = refl
read_pages (x ∷ l) (suc i) = read_pages l i

pub read_shard : (c : State) (k : ℕ) → length c.shards ≡ 16 → k < 16 → at c (k + 1) ≡ of_shard (shard_at c.shards k)
read_shard c k sixteen h = rw (add-one k) (get_or_append_left (map of_shard c.shards) (map slot_of c.pages) Vacant k (omega (arith, length-map c.shards of_shard)) ∙ read_map of_shard c.shards k no_shard (omega arith))

pub read_page : (c : State) (p : ℕ) → length c.shards ≡ 16 → at c (p + 17) ≡ slot_of (node_at c.pages p)
read_page c p sixteen = rw (let e : p + 17 ≡ suc (p + 16) = omega arith in e) (get_or-append_right (map of_shard c.shards) (map slot_of c.pages) 16 (p + 16) Vacant (length-map c.shards of_shard ∙ sixteen) (omega arith)
    ∙ (ap (λ (i : ℕ). get_or (map slot_of c.pages) i Vacant) (let e : p + 16 - 16 ≡ p = omega arith in e) ∙ read_pages c.pages p))

-- what a slot's value says of the core state
pub of_board : (b d : BoardState) → OfBoard b ≡ OfBoard d → b ≡ d
of_board b d e = cc

pub of_rows : (s : Shard) (x : Rows) → of_shard s ≡ OfShard x → s.rows ≡ x
of_rows s x e = cc

pub of_page : (o : Option Node) (n : Node) → slot_of o ≡ OfPage n → o ≡ Some n
of_page None n e = absurd cc
of_page (Some p) n e = cc

pub of_vacant : (o : Option Node) → slot_of o ≡ Vacant → o ≡ None
of_vacant None e = refl
of_vacant (Some p) e = absurd cc

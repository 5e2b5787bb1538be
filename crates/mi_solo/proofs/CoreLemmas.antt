-- What a change of one actor's row makes of the state that a core stands for.
use Rattle.std.proofs.Common.{◌≡◌, ◌≢◌, ℕ, suc, zero, ◌+◌, ◌<◌, ◌≤◌, List, [], ◌∷◌, ◌++◌, length, get_or, set, replicate, ◌-◌, refl, sym, ap, ◌∙◌, subst, arith, Option, Some, None, Bool, true, false, cond, ◌==◌, ◌&&◌, eq-eqb, eqb-true}
use Rattle.std.specs.Arc.{arc_value}
use Rattle.std.specs.Prelude.{IsSome, is_some, slice_get}
use Rattle.std.proofs.lemmas.Bool.{false≢true}
use Rattle.std.proofs.lemmas.Option.{none-some, slice_get-get_or}
use Rattle.mi_base.specs.declared.records.LogEvent.{LogEvent}
use Rattle.mi_base.specs.Configuration.{Configuration, IsWithinLimits, metric_space}
use Rattle.mi_base.specs.Space.{IsMetric}
use Rattle.mi_board.specs.Actors.{idle}
use Rattle.mi_board.specs.Boards.{BoardState, cells_in, opened_board}
use Rattle.mi_core.proofs.KeptEvents.{opened_kept}
use Rattle.mi_core.specs.Actors.{Suits, made_by}
use Rattle.mi_core.specs.Events.{first_actor, opened}
use Rattle.mi_core.specs.Kept.{Kept}
use Rattle.mi_core.specs.State.{State}
use Rattle.mi_entries.specs.Actors.{Actor, Pin}
use Rattle.mi_entries.specs.Records.{Shard, no_shard}
use Rattle.mi_page.specs.Nodes.{Node, fresh_node}
use Rattle.mi_solo.specs.declared.cores.Core.{Core}
use Rattle.mi_solo.specs.declared.rows.ActorRow.{ActorRow}
use Rattle.mi_solo.specs.declared.rows.PinRow.{PinRow}
use Rattle.mi_solo.specs.States.{actor_in, actor_of, actors_of, is_catalog_of, pin_of, state_of}
use Rattle.mi_tree.specs.Catalog.{CatalogState}

pub some_of : {X : Type 0} (o : Option X) → IsSome o → (x : X) × (o ≡ Some x)
some_of None h = absurd (false≢true h)
some_of (Some x) h = (x, refl)

-- a pin is of a catalog of the settings
pub pin_there : (settings : Configuration) (p : PinRow) → is_catalog_of settings (arc_value p.cells) ≡ true → pin_of settings (Some p) ≡ Some (record { at = p.at; cells = (arc_value p.cells).leaves })
pin_there settings p h = ap (λ b. cond b (Some (record { at = p.at; cells = (arc_value p.cells).leaves })) None) h

pub of_catalog : (settings : Configuration) (p : PinRow) (q : Pin) → pin_of settings (Some p) ≡ Some q → is_catalog_of settings (arc_value p.cells) ≡ true
of_catalog settings p q e =
    let P : Bool → Type 0 = λ b. cond b (Some (record { at = p.at; cells = (arc_value p.cells).leaves })) None ≡ Some q → b ≡ true in
    (elim (is_catalog_of settings (arc_value p.cells)) as P [ true ↦ λ h. refl | false ↦ λ h. absurd (none-some q h) ]) e

-- the numbers of such a catalog are the settings'
pub catalog_is : (settings : Configuration) (k : CatalogState) → is_catalog_of settings k ≡ true → k ≡ record { pivots = length settings.pivots; levels = settings.levels; leaves = k.leaves }
catalog_is settings k h =
    let whole : CatalogState = record { pivots = length settings.pivots; levels = settings.levels; leaves = k.leaves } in
    let P : Bool → Type 0 = λ b. (k.pivots == length settings.pivots) ≡ b → (b && (k.levels == settings.levels)) ≡ true → k ≡ whole in
    (elim (k.pivots == length settings.pivots) as P [
      | true ↦ λ e i. ap (λ n. record k { pivots = n }) (eqb-true k.pivots (length settings.pivots) e) ∙ ap (λ n. record whole { levels = n }) (eqb-true k.levels settings.levels i)
      | false ↦ λ e i. absurd (false≢true i)
    ]) refl h

-- the cells after a log are a catalog of the settings
pub cells_are : (settings : Configuration) (log : List LogEvent) → is_catalog_of settings (cells_in settings log) ≡ true
cells_are settings log = rw (eq-eqb (length settings.pivots) (length settings.pivots) refl, eq-eqb settings.levels settings.levels refl) refl

-- two that stand at one place are one
pub same_at : {X : Type 0} (xs : List X) (i : ℕ) (x y : X) → i < length xs → x ≡ get_or xs i x → y ≡ get_or xs i y → x ≡ y
same_at [] i x y lt p q = absurd (omega arith)
same_at (z ∷ xs) zero x y lt p q = p ∙ sym q
same_at (z ∷ xs) (suc i) x y lt p q = same_at xs i x y (omega arith) p q

pub length-actors_of : (settings : Configuration) (log : List LogEvent) (n : ℕ) (rows : List ActorRow) → length (actors_of settings log n rows) ≡ length rows
length-actors_of settings log n [] = refl
length-actors_of settings log n (r ∷ rows) = ap suc (length-actors_of settings log (n + 1) rows)

actor_at : (settings : Configuration) (log : List LogEvent) (n a : ℕ) (rows : List ActorRow) (i : ℕ) (d : Actor) (x : ActorRow) → a ≡ n + i → i < length rows → x ≡ get_or rows i x → get_or (actors_of settings log n rows) i d ≡ actor_of settings log a x
actor_at settings log n a [] i d x e lt at = absurd (omega arith)
actor_at settings log n a (r ∷ rows) zero d x e lt at = ap (λ m. actor_of settings log m r) (let z : n ≡ a = omega arith in z) ∙ ap (actor_of settings log a) (sym at)
actor_at settings log n a (r ∷ rows) (suc i) d x e lt at = actor_at settings log (n + 1) a rows i d x (omega arith) (omega arith) at

-- a log with no update more of these actors
actors_same : (settings : Configuration) (log more : List LogEvent) (n : ℕ) (rows : List ActorRow) → ((m : ℕ) → n ≤ m → made_by m more ≡ made_by m log) → actors_of settings more n rows ≡ actors_of settings log n rows
actors_same settings log more n [] h = refl
actors_same settings log more n (r ∷ rows) h =
    ap (λ own. record (actor_of settings log n r) { own = own } ∷ actors_of settings more (n + 1) rows) (h n (omega arith))
    ∙ ap (λ (rs : List Actor). actor_of settings log n r ∷ rs) (actors_same settings log more (n + 1) rows (λ m le. h m (omega arith)))

actors_set : (settings : Configuration) (log more : List LogEvent) (n a : ℕ) (rows : List ActorRow) (i : ℕ) (new : ActorRow) → a ≡ n + i → i < length rows → ((m : ℕ) → m ≢ a → made_by m more ≡ made_by m log)
    → actors_of settings more n (set rows i new) ≡ set (actors_of settings log n rows) i (actor_of settings more a new)
actors_set settings log more n a [] i new e lt h = absurd (omega arith)
actors_set settings log more n a (r ∷ rows) zero new e lt h =
    ap (λ m. actor_of settings more m new ∷ actors_of settings more (n + 1) rows) (let z : n ≡ a = omega arith in z)
    ∙ ap (λ (rs : List Actor). actor_of settings more a new ∷ rs) (actors_same settings log more (n + 1) rows (λ m le. h m (λ q. (let z : n ≡ a = omega arith in absurd (omega arith)))))
actors_set settings log more n a (r ∷ rows) (suc i) new e lt h =
    ap (λ own. record (actor_of settings log n r) { own = own } ∷ actors_of settings more (n + 1) (set rows i new)) (h n (λ q. absurd (omega arith)))
    ∙ ap (λ (rs : List Actor). actor_of settings log n r ∷ rs) (actors_set settings log more (n + 1) a rows i new (omega arith) (omega arith) h)

module _ (c : Core) (a : ℕ) (known : a < length c.actors.items) where
  pub there : slice_get (state_of c).actors a ≡ Some (actor_in (state_of c) a)
  there = slice_get-get_or (state_of c).actors a first_actor (omega (arith, length-actors_of c.board.settings c.board.log 0 c.actors.items))

  module _ (k : Kept (state_of c)) where
    pub suits : Suits c.board c.shards.items c.pages.items a (actor_in (state_of c) a)
    suits = k.sound.each a (actor_in (state_of c) a) there

    pub on_board : a < length c.board.actors
    on_board = omega (arith, k.sound.counted, length-actors_of c.board.settings c.board.log 0 c.actors.items)

  module _ (row : ActorRow) (at : row ≡ get_or c.actors.items a row) where
    pub row_is : actor_in (state_of c) a ≡ actor_of c.board.settings c.board.log a row
    row_is = actor_at c.board.settings c.board.log 0 a c.actors.items a first_actor row (omega arith) known at

    -- its pin is one of a catalog of the board's settings
    pub pin_is : IsSome (actor_in (state_of c) a).pin → (p : PinRow) → row.pin ≡ Some p
        → (is_catalog_of c.board.settings (arc_value p.cells) ≡ true) × ((actor_in (state_of c) a).pin ≡ Some (record { at = p.at; cells = (arc_value p.cells).leaves }))
    pin_is some p e =
        let has = some_of (actor_in (state_of c) a).pin some in
        let its : (actor_in (state_of c) a).pin ≡ pin_of c.board.settings (Some p) = ap (λ (r : Actor). r.pin) row_is ∙ ap (pin_of c.board.settings) e in
        let catalog = of_catalog c.board.settings p has.0 (sym its ∙ has.1) in
        (catalog, its ∙ pin_there c.board.settings p catalog)

    -- the board, of the same settings, the shards and the pages are these, and the actor's row is new
    pub comes_to : (b to : BoardState) → b ≡ to → to.settings ≡ c.board.settings → ((m : ℕ) → m ≢ a → made_by m to.log ≡ made_by m c.board.log) → (xs shards : List Shard) → xs ≡ shards → (ps pages : List (Option Node)) → ps ≡ pages
        → (new : ActorRow) (f : Actor → Actor) → actor_of to.settings to.log a new ≡ f (actor_of c.board.settings c.board.log a row)
        → ◌≡◌ {A = State} (record { board = b; shards = xs; pages = ps; actors = actors_of b.settings b.log 0 (set c.actors.items a new) })
        (record { board = to; shards = shards; pages = pages; actors = set (state_of c).actors a (f (actor_in (state_of c) a)) })
    comes_to b to is set_by apart xs shards same ps pages alike new f e =
        let P : BoardState → Type 0 = λ z. ◌≡◌ {A = State} (record { board = z; shards = xs; pages = ps; actors = actors_of z.settings z.log 0 (set c.actors.items a new) }) (record { board = to; shards = shards; pages = pages; actors = set (state_of c).actors a (f (actor_in (state_of c) a)) }) in
        subst P (sym is)
        (ap (λ (z : Configuration). record { board = to; shards = xs; pages = ps; actors = actors_of z to.log 0 (set c.actors.items a new) }) set_by
        ∙ ap (λ (z : List Shard). record { board = to; shards = z; pages = ps; actors = actors_of c.board.settings to.log 0 (set c.actors.items a new) }) same
        ∙ ap (λ (z : List (Option Node)). record { board = to; shards = shards; pages = z; actors = actors_of c.board.settings to.log 0 (set c.actors.items a new) }) alike
        ∙ ap (λ (z : List Actor). record { board = to; shards = shards; pages = pages; actors = z })
        (actors_set c.board.settings c.board.log to.log 0 a c.actors.items a new (omega arith) known apart ∙ ap (λ (q : Actor). set (state_of c).actors a q) (ap (λ z. actor_of z to.log a new) (sym set_by) ∙ e ∙ ap f (sym row_is))))

    -- the row alone is new
    pub row_alone : (new : ActorRow) (f : Actor → Actor) → actor_of c.board.settings c.board.log a new ≡ f (actor_of c.board.settings c.board.log a row)
        → ◌≡◌ {A = State} (record { board = c.board; shards = c.shards.items; pages = c.pages.items; actors = actors_of c.board.settings c.board.log 0 (set c.actors.items a new) })
        (record { board = c.board; shards = c.shards.items; pages = c.pages.items; actors = set (state_of c).actors a (f (actor_in (state_of c) a)) })
    row_alone = comes_to c.board c.board refl refl (λ m n. refl) c.shards.items c.shards.items refl c.pages.items c.pages.items refl

-- a row that tells how long the log of a board is, which is that of another
pub log_of : (settings : Configuration) (log : List LogEvent) (b to : BoardState) → b ≡ to → (a : ℕ) (row : ℕ → ActorRow) → actor_of settings log a (row (length b.log)) ≡ actor_of settings log a (row (length to.log))
log_of settings log b to is a row = ap (λ (z : BoardState). actor_of settings log a (row (length z.log))) is

-- what was read at a place
pub read_is : {X : Type 0} (xs : List X) (i : ℕ) (d x : X) → i < length xs → x ≡ get_or xs i x → x ≡ get_or xs i d
read_is [] i d x lt at = absurd (omega arith)
read_is (y ∷ xs) zero d x lt at = at
read_is (y ∷ xs) (suc i) d x lt at = read_is xs i d x (omega arith) at

-- the shard that an actor holds is one of the sixteen
pub holds_shard : (c : Core) (a : ℕ) → a < length c.actors.items → Kept (state_of c) → (k : ℕ) → (actor_in (state_of c) a).shard ≡ Some k → k < length c.shards.items
holds_shard c a known k n held = let low = ((suits c a known k).holds.shard n held).0 in let many = k.sound.sixteen in omega arith

pub none_of : {X : Type 0} (o : Option X) → is_some o ≡ false → o ≡ None
none_of None h = refl
none_of (Some x) h = absurd (false≢true (sym h))

-- one row more at the end
pub actors_more : (settings : Configuration) (log : List LogEvent) (n : ℕ) (rows : List ActorRow) (row : ActorRow) (r : Actor) → ((a : ℕ) → actor_of settings log a row ≡ r) → actors_of settings log n (rows ++ row ∷ []) ≡ actors_of settings log n rows ++ r ∷ []
actors_more settings log n [] row r e = ap (λ (x : Actor). x ∷ []) (e n)
actors_more settings log n (x ∷ rows) row r e = ap (λ (rs : List Actor). actor_of settings log n x ∷ rs) (actors_more settings log (n + 1) rows row r e)

pub one_more_of : {X : Type 0} (n : ℕ) (x : X) → replicate n x ++ x ∷ [] ≡ replicate (n + 1) x
one_more_of zero x = refl
one_more_of (suc n) x = ap (λ xs. x ∷ xs) (one_more_of n x) ∙ ap (λ m. replicate m x) (let z : suc (n + 1) ≡ suc n + 1 = omega arith in z)

-- what the parts of an opening make
pub core_opened : (c : Core) (settings : Configuration) (count : ℕ) → IsWithinLimits settings → IsMetric (metric_space settings) → 1 ≤ settings.pages → c.board ≡ opened_board settings (replicate count idle)
    → c.shards.items ≡ replicate 16 no_shard → c.pages.items ≡ Some fresh_node ∷ replicate (settings.pages - 1) None → actors_of settings [] 0 c.actors.items ≡ replicate count first_actor
    → (state_of c ≡ opened settings count (settings.pages - 1)) × Kept (state_of c)
core_opened c settings count limits metric some board shards pages actors =
    let is : state_of c ≡ opened settings count (settings.pages - 1) =
    ap (λ (b : BoardState). record { board = b; shards = c.shards.items; pages = c.pages.items; actors = actors_of b.settings b.log 0 c.actors.items }) board
    ∙ ap (λ (xs : List Shard). record { board = opened_board settings (replicate count idle); shards = xs; pages = c.pages.items; actors = actors_of settings [] 0 c.actors.items }) shards
    ∙ ap (λ (ps : List (Option Node)). record { board = opened_board settings (replicate count idle); shards = replicate 16 no_shard; pages = ps; actors = actors_of settings [] 0 c.actors.items }) pages
    ∙ ap (λ (rs : List Actor). record { board = opened_board settings (replicate count idle); shards = replicate 16 no_shard; pages = Some fresh_node ∷ replicate (settings.pages - 1) None; actors = rs }) actors in
    (is, subst Kept (sym is) (opened_kept settings limits metric count (settings.pages - 1) (omega arith)))

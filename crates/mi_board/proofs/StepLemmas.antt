-- What holds of every board holds after each call.
use Rattle.std.proofs.Common.{◌≡◌, ℕ, ℤ, suc, zero, ◌+◌, ◌<◌, ◌≤◌, List, [], ◌∷◌, ◌++◌, map, length, true, false, IsTrue, refl, sym, ap, ◌∙◌, subst, arith, length-append, Bool, not, Option, Some}
use Rattle.std.specs.Prelude.{replicate}
use Rattle.std.proofs.lemmas.List.{length-map, length-replicate}
use Rattle.std.specs.List.{AllByRecursion, filter, flat_map}
use Rattle.mi_base.specs.declared.records.LogEvent.{LogEvent}
use Rattle.mi_base.specs.declared.records.LogEvent.TheVariants.{Update as Made, Split}
use Rattle.mi_base.specs.declared.records.Position.{Position}
use Rattle.mi_base.specs.declared.records.Update.{Update}
use Rattle.mi_base.specs.declared.records.Update.TheVariants.{Insert}
use Rattle.mi_base.specs.Configuration.{Configuration, IsWithinLimits, metric_space}
use Rattle.mi_base.specs.History.{TheOne, is_live, live, updates_of}
use Rattle.mi_base.specs.Sorting.{SameElements}
use Rattle.mi_base.proofs.HistoryLemmas.{length-entered}
use Rattle.mi_board.specs.declared.actors.ActorState.{ActorState}
use Rattle.mi_board.specs.Actors.{actor_at, idle, change, with_claim, without_claim, with_reserved, is_claimed}
use Rattle.mi_board.specs.declared.shared.KeptCatalog.{KeptCatalog}
use Rattle.mi_board.specs.Boards.{BoardState, cells_in}
use Rattle.mi_board.specs.declared.retired.RetiredLeaf.{RetiredLeaf}
use Rattle.mi_board.specs.Kept.{ClaimsStand, HoldsBoard, IsBoard, IsRetired, IsShared}
use Rattle.mi_board.proofs.RetiredLemmas.{not_before, retired_last, retired_more}
use Rattle.mi_board.specs.Marks.{marked, split_marks}
use Rattle.mi_board.proofs.FloorLemmas.{shared_more}
use Rattle.mi_board.proofs.MarkLemmas.{length-split_marks, marked-split}
use Rattle.mi_board.proofs.ActorLemmas.{length-change, reserved, reserved-cons, reserve_one, commit_one, claim_count, claims_beside, claims_claiming, claims_kept, claims_more, claims_released, claims_split, reserved_more}
use Rattle.mi_board.proofs.BoardLemmas.{insert_legal, delete_legal, delete_cells, split_legal, split_cells}
use Rattle.mi_board.proofs.CrowdLemmas.{has_leaf_map, has_leaf_parted, added_prefix, removed_prefix}
use Rattle.mi_tree.specs.declared.outcomes.Leaf.{Leaf}
use Rattle.mi_tree.specs.declared.counts.Placed.{Placed}
use Rattle.mi_tree.specs.Cells.{same_cell}
use Rattle.mi_tree.specs.Catalog.{CatalogState, prefixes_of}
use Rattle.mi_tree.proofs.CatalogLemmas.{prefixes_parted}
use Rattle.mi_tree.specs.Counting.{belongs, placed_object, with_added, with_removed, split_leaf, has_leaf, is_crowded}
use Rattle.mi_tree.specs.Legal.{LegalLog, MayFollow, cells_of}
use Rattle.mi_tree.proofs.CatLemmas.{cat-insert}
use Rattle.mi_tree.proofs.LegalLemmas.{grid, updates_of_split}

abbrev cells_made : Configuration → List Leaf → CatalogState
cells_made c ls = record { pivots = length c.pivots; levels = c.levels; leaves = ls }

module _ (c : Configuration) (log : List LogEvent) (catalog : CatalogState) (updates : ℕ) (actors : List ActorState) (room : ℕ) (ib : IsBoard c log catalog updates actors room) where
  -- an actor's state changes
  module _ (f : ActorState → ActorState) (actor : ℕ) (actors' : List ActorState) (is : actors' ≡ change f actor actors) where
    changed : (room' : ℕ) → ClaimsStand (cells_of c log) (change f actor actors) → length log + reserved (change f actor actors) ≤ room' → IsBoard c log catalog updates actors' room'
    changed room' claims space = rw is (record {
      limits = ib.limits;
      legal = ib.legal;
      cells = ib.cells;
      counted = ib.counted;
      few = omega (arith, ib.few, length-change f actor actors);
      claims = claims;
      space = space;
    })

    -- its claim and its reservation stay
    pub beside_board : ((a : ActorState) → (f a).claim ≡ a.claim) → ((a : ActorState) → (f a).reserved ≡ a.reserved) → IsBoard c log catalog updates actors' room
    beside_board claim reserving =
        changed room (claims_beside f claim (cells_of c log) actor actors ib.claims) (omega (arith, ib.space, claim_count f reserving actor actors))

  pub reserve_board : (actor : ℕ) (log' : List LogEvent) → log' ≡ log → (actors' : List ActorState) → actors' ≡ change (with_reserved true) actor actors → (room' : ℕ) → length log + (reserved actors + 1) ≤ room' → IsBoard c log' catalog updates actors' room'
  reserve_board actor log' same actors' is room' le =
      rw same (changed (with_reserved true) actor actors' is room' (claims_beside (with_reserved true) (λ a. refl) (cells_of c log) actor actors ib.claims) (omega (arith, le, reserve_one actor actors)))

  pub release_board : (actor : ℕ) (actors' : List ActorState) → actors' ≡ change without_claim actor actors → IsBoard c log catalog updates actors' room
  release_board actor actors' is =
      changed without_claim actor actors' is room (claims_released (cells_of c log) actor actors ib.claims) (omega (arith, ib.space, claim_count without_claim (λ a. refl) actor actors))

  pub claim_board : (p : List ℕ) → has_leaf p (cells_of c log) ≡ true → is_claimed p actors ≡ false → (actor : ℕ) (actors' : List ActorState) → actors' ≡ change (with_claim p) actor actors → IsBoard c log catalog updates actors' room
  claim_board p leaf free actor actors' is =
      changed (with_claim p) actor actors' is room (claims_claiming p (cells_of c log) leaf actor actors free ib.claims) (omega (arith, ib.space, claim_count (with_claim p) (λ a. refl) actor actors))

  -- an actor is made
  pub more_board : (actors' : List ActorState) → actors' ≡ actors ++ idle ∷ [] → length actors < 4294967295 → IsBoard c log catalog updates actors' room
  more_board actors' is few = rw is (record {
    limits = ib.limits;
    legal = ib.legal;
    cells = ib.cells;
    counted = ib.counted;
    few = omega (arith, few, length-append actors (idle ∷ []));
    claims = claims_more (cells_of c log) actors ib.claims;
    space = omega (arith, ib.space, reserved_more actors);
  })

  -- one event more
  module _ (e : LogEvent) (legal : LegalLog c (log ++ e ∷ [])) (log' : List LogEvent) (log_is : log' ≡ log ++ e ∷ []) (f : ActorState → ActorState) (actor : ℕ) (actors' : List ActorState) (actors_is : actors' ≡ change f actor actors) where
    event_board : (catalog' : CatalogState) → catalog' ≡ cells_in c (log ++ e ∷ []) → (updates' : ℕ) → updates' ≡ length (updates_of (log ++ e ∷ []))
        → ClaimsStand (cells_of c (log ++ e ∷ [])) (change f actor actors) → (room' : ℕ) → length log + 1 + reserved (change f actor actors) ≤ room' → IsBoard c log' catalog' updates' actors' room'
    event_board catalog' cells updates' counted claims room' space = rw (log_is, actors_is) (record {
      limits = ib.limits;
      legal = legal;
      cells = cells;
      counted = counted;
      few = omega (arith, ib.few, length-change f actor actors);
      claims = claims;
      space = omega (arith, space, length-append log (e ∷ []));
    })

  -- an update that the actor had reserved, by a change of the leaves that keeps their prefixes
  module _ (actor op : ℕ) (u : Update) (given : (actor_at actors actor).reserved ≡ true) (legal : LegalLog c (log ++ Made actor op u ∷ [])) (g : Leaf → Leaf) (same : (l : Leaf) → (g l).prefix ≡ l.prefix)
      (now : map g (cells_of c log) ≡ cells_of c (log ++ Made actor op u ∷ [])) where
    pub update_board : (log' : List LogEvent) → log' ≡ log ++ Made actor op u ∷ [] → (catalog' : CatalogState) → catalog' ≡ record catalog { leaves = map g catalog.leaves }
        → (updates' : ℕ) → updates' ≡ updates + 1 → (actors' : List ActorState) → actors' ≡ change (with_reserved false) actor actors → (room' : ℕ) → room ≤ room' → IsBoard c log' catalog' updates' actors' room'
    update_board log' log_is catalog' catalog_is updates' updates_is actors' actors_is room' more =
        let e = Made actor op u in
        let keep : (q : List ℕ) → has_leaf q (cells_of c log) ≡ true → has_leaf q (cells_of c (log ++ e ∷ [])) ≡ true = λ q h.
        subst (λ (ls : List Leaf). has_leaf q ls ≡ true) now (has_leaf_map g same q (cells_of c log) h) in
        event_board e legal log' log_is (with_reserved false) actor actors' actors_is catalog'
        (catalog_is ∙ ap (λ (k : CatalogState). record k { leaves = map g k.leaves }) ib.cells ∙ ap (cells_made c) now)
        updates' (omega (arith, updates_is, ib.counted, length-entered log actor op u))
        (claims_kept (cells_of c log) (cells_of c (log ++ e ∷ [])) keep (change (with_reserved false) actor actors) (claims_beside (with_reserved false) (λ a. refl) (cells_of c log) actor actors ib.claims))
        room' (omega (arith, more, ib.space, commit_one actor actors given))

  pub publish_board : (p : List ℕ) (objects : List Placed) (actor : ℕ) → (actor_at actors actor).claim ≡ Some p → MayFollow c log (Split p)
      → SameElements objects (map (placed_object (grid c)) (filter (belongs (grid c) p) (live (updates_of log))))
      → (log' : List LogEvent) → log' ≡ log ++ Split p ∷ [] → (catalog' : CatalogState) → catalog' ≡ record catalog { leaves = flat_map (split_leaf catalog.pivots p objects) catalog.leaves }
      → (actors' : List ActorState) → actors' ≡ change without_claim actor actors → (room' : ℕ) → length log + (reserved actors + 1) ≤ room' → IsBoard c log' catalog' updates actors' room'
  publish_board p objects actor claims wanted are log' log_is catalog' catalog_is actors' actors_is room' space =
      let e = Split p in
      let now : flat_map (split_leaf (length c.pivots) p objects) (cells_of c log) ≡ cells_of c (log ++ e ∷ []) = sym (split_cells c ib.limits log ib.legal p wanted objects are) in
      let keep : (q : List ℕ) → has_leaf q (cells_of c log) ≡ true → same_cell p q ≡ false → has_leaf q (cells_of c (log ++ e ∷ [])) ≡ true = λ q h other.
      subst (λ (ls : List Leaf). has_leaf q ls ≡ true) now (has_leaf_parted (length c.pivots) p objects q (cells_of c log) h other) in
      event_board e (split_legal c ib.limits log ib.legal p wanted objects are) log' log_is without_claim actor actors' actors_is catalog'
      (catalog_is ∙ ap (λ (k : CatalogState). record k { leaves = flat_map (split_leaf k.pivots p objects) k.leaves }) ib.cells ∙ ap (cells_made c) now)
      updates (ib.counted ∙ sym (ap length (updates_of_split log p)))
      (claims_split p (cells_of c log) (cells_of c (log ++ e ∷ [])) keep actor actors claims ib.claims)
      room' (omega (arith, space, claim_count without_claim (λ a. refl) actor actors))

abbrev pub board_of : Configuration → List LogEvent → List ActorState → List (List ℕ) → List (List ℕ) → ℕ → ℕ → ℕ → Option Position → BoardState
board_of c log actors retired passed root height allotted kept =
    record { settings = c; log = log; actors = actors; retired = retired; passed_over = passed; root = root; height = height; allotted = allotted; kept_at = kept }

-- equal parts make equal boards
pub boards_equal : (c : Configuration) (root height allotted : ℕ) (kept : Option Position) {log log' : List LogEvent} {actors actors' : List ActorState} {retired retired' passed passed' : List (List ℕ)}
    → log ≡ log' → actors ≡ actors' → retired ≡ retired' → passed ≡ passed' → board_of c log actors retired passed root height allotted kept ≡ board_of c log' actors' retired' passed' root height allotted kept
boards_equal c root height allotted kept e f g h = cc

-- a change that keeps prefixes
pub prefixes_same : (g : Leaf → Leaf) → ((l : Leaf) → (g l).prefix ≡ l.prefix) → (ls : List Leaf) → prefixes_of (map g ls) ≡ prefixes_of ls
prefixes_same g same [] = refl
prefixes_same g same (l ∷ ls) = let e = same l in let r = prefixes_same g same ls in cc

module _ (c : Configuration) (log : List LogEvent) (catalog : CatalogState) (updates : ℕ) (actors : List ActorState) (room : ℕ) (marks : List Bool) (allotted : ℕ) (kept : Option KeptCatalog) (retired : List RetiredLeaf)
    (h : HoldsBoard c log catalog updates actors room marks allotted kept retired) where
  -- an update that the actor had reserved, by a change of the leaves that keeps their prefixes
  pub update_holds : (actor op : ℕ) (u : Update) → (actor_at actors actor).reserved ≡ true → LegalLog c (log ++ Made actor op u ∷ []) → (g : Leaf → Leaf) → ((l : Leaf) → (g l).prefix ≡ l.prefix)
      → map g (cells_of c log) ≡ cells_of c (log ++ Made actor op u ∷ []) → (log' : List LogEvent) → log' ≡ log ++ Made actor op u ∷ [] → (catalog' : CatalogState) → catalog' ≡ record catalog { leaves = map g catalog.leaves }
      → (updates' : ℕ) → updates' ≡ updates + 1 → (actors' : List ActorState) → actors' ≡ change (with_reserved false) actor actors → (room' : ℕ) → room ≤ room' → HoldsBoard c log' catalog' updates' actors' room' marks allotted kept retired
  update_holds actor op u given legal g same now log' log_is catalog' catalog_is updates' updates_is actors' actors_is room' more = record {
    board = update_board c log catalog updates actors room h.board actor op u given legal g same now log' log_is catalog' catalog_is updates' updates_is actors' actors_is room' more;
    each = h.each ∙ sym (ap (λ (k : CatalogState). length k.leaves) catalog_is ∙ length-map catalog.leaves g);
    pages = h.pages;
    shared = subst (λ (l : List LogEvent). IsShared c l kept) (sym log_is) (shared_more c log (Made actor op u ∷ []) kept h.shared);
    retired_are = subst (λ (l : List LogEvent). AllByRecursion (IsRetired l) retired) (sym log_is) (retired_more log (Made actor op u ∷ []) retired h.retired_are);
  }

  -- a split
  pub publish_holds : (p : List ℕ) (objects : List Placed) (actor : ℕ) → (actor_at actors actor).claim ≡ Some p → MayFollow c log (Split p)
      → SameElements objects (map (placed_object (grid c)) (filter (belongs (grid c) p) (live (updates_of log))))
      → (log' : List LogEvent) → log' ≡ log ++ Split p ∷ [] → (catalog' : CatalogState) → catalog' ≡ record catalog { leaves = flat_map (split_leaf catalog.pivots p objects) catalog.leaves }
      → (actors' : List ActorState) → actors' ≡ change without_claim actor actors → (room' : ℕ) → length log + (reserved actors + 1) ≤ room'
      → (marks' : List Bool) → marks' ≡ split_marks catalog.pivots p (prefixes_of catalog.leaves) marks
      → (retired' : List RetiredLeaf) → retired' ≡ retired ++ record { prefix = p; event = length log } ∷ [] → HoldsBoard c log' catalog' updates actors' room' marks' allotted kept retired'
  publish_holds p objects actor claims wanted are log' log_is catalog' catalog_is actors' actors_is room' space marks' marks_is retired' retired_is = record {
    board = publish_board c log catalog updates actors room h.board p objects actor claims wanted are log' log_is catalog' catalog_is actors' actors_is room' space;
    each = ap length marks_is ∙ length-split_marks catalog.pivots p (prefixes_of catalog.leaves) marks (h.each ∙ sym (length-map catalog.leaves (λ (l : Leaf). l.prefix)))
        ∙ sym (ap length (prefixes_parted catalog.pivots p objects catalog.leaves)) ∙ length-map (flat_map (split_leaf catalog.pivots p objects) catalog.leaves) (λ (l : Leaf). l.prefix)
        ∙ sym (ap (λ (k : CatalogState). length k.leaves) catalog_is);
    pages = h.pages;
    shared = subst (λ (l : List LogEvent). IsShared c l kept) (sym log_is) (shared_more c log (Split p ∷ []) kept h.shared);
    retired_are = subst (λ (l : List LogEvent). AllByRecursion (IsRetired l) retired') (sym log_is)
        (subst (AllByRecursion (IsRetired (log ++ Split p ∷ []))) (sym retired_is) (retired_last log p (not_before c h.board.limits log h.board.legal p wanted) retired h.retired_are));
  }

  -- the other marked leaves are left
  pub publish_marks : (p : List ℕ) (objects : List Placed) (catalog' : CatalogState) → catalog' ≡ record catalog { leaves = flat_map (split_leaf catalog.pivots p objects) catalog.leaves }
      → (marks' : List Bool) → marks' ≡ split_marks catalog.pivots p (prefixes_of catalog.leaves) marks → marked (prefixes_of catalog'.leaves) marks' ≡ filter (λ q. not (same_cell p q)) (marked (prefixes_of catalog.leaves) marks)
  publish_marks p objects catalog' catalog_is marks' marks_is =
      ap (λ (k : CatalogState). marked (prefixes_of k.leaves) marks') catalog_is ∙ ap (marked (prefixes_of (flat_map (split_leaf catalog.pivots p objects) catalog.leaves))) marks_is
      ∙ ap (λ (ps : List (List ℕ)). marked ps (split_marks catalog.pivots p (prefixes_of catalog.leaves) marks)) (prefixes_parted catalog.pivots p objects catalog.leaves)
      ∙ marked-split catalog.pivots p (prefixes_of catalog.leaves) marks (h.each ∙ sym (length-map catalog.leaves (λ (l : Leaf). l.prefix)))

-- the cells after an insert
pub insert_now : (c : Configuration) (log : List LogEvent) (actor op id : ℕ) (v : List ℤ) (perm : List ℕ) (distance : ℕ) → perm ≡ (grid c).perm v → distance ≡ (grid c).distance v
    → map (with_added perm distance) (cells_of c log) ≡ cells_of c (log ++ Made actor op (Insert id v) ∷ [])
insert_now c log actor op id v perm distance perm_is distance_is =
    ap (λ (q : List ℕ). map (with_added q distance) (cells_of c log)) perm_is ∙ ap (λ (d : ℕ). map (with_added ((grid c).perm v) d) (cells_of c log)) distance_is ∙ sym (cat-insert (grid c) log actor op id v)

-- idle actors claim nothing and have reserved nothing
idle_stand : (ls : List Leaf) (n : ℕ) → ClaimsStand ls (replicate n idle)
idle_stand ls zero = tt
idle_stand ls (suc n) = (tt, idle_stand ls n)

idle_reserved : (n : ℕ) → reserved (replicate n idle) ≡ 0
idle_reserved zero = refl
idle_reserved (suc n) = omega (arith, reserved-cons idle (replicate n idle), idle_reserved n)

-- a board that was just opened
pub open_board : (c : Configuration) (catalog : CatalogState) (log : List LogEvent) → log ≡ [] → (n : ℕ) (actors : List ActorState) (room : ℕ) → IsWithinLimits c → catalog ≡ cells_in c [] → actors ≡ replicate n idle → n ≤ 4294967295 → IsBoard c log catalog 0 actors room
open_board c catalog log none n actors room limits cells is few = rw (none, is) (record {
  limits = limits;
  legal = record { few = omega arith; each = tt };
  cells = cells;
  counted = refl;
  few = omega (arith, few, length-replicate n idle);
  claims = idle_stand (cells_of c []) n;
  space = omega (arith, idle_reserved n);
})

-- Sections that claim and release shards and leaves, as the trait tells of them.
use Rattle.std.proofs.Common.{◌≡◌, ◌≢◌, ℕ, List, [], ◌∷◌, length, set, Bool, IsTrue, true, false, refl, sym, ap, ◌∙◌, subst, arith, Option, Some, None, is_some, inl, get_or-set_same, ◌==◌}
use Rattle.std.specs.Prelude.{slice_get}
use Rattle.std.specs.List.{find}
use Rattle.std.proofs.lemmas.Bool.{ne_eqb}
use Rattle.std.proofs.lemmas.Option.{none-some, same_Some}
use Rattle.mi_base.specs.declared.records.LogEvent.{LogEvent}
use Rattle.mi_base.specs.Configuration.{Configuration}
use Rattle.mi_base.specs.Permutations.{begins, is_permutation}
use Rattle.mi_tree.specs.declared.answers.LeafClaim.{LeafClaim}
use Rattle.mi_tree.specs.declared.answers.LeafClaim.TheVariants.{Taken as LeafTaken, Held as LeafHeld}
use Rattle.mi_tree.specs.declared.outcomes.Leaf.{Leaf}
use Rattle.mi_tree.specs.Cells.{Grid, IsGrid, is_leaf, leaf_of, leaves}
use Rattle.mi_tree.specs.Counting.{is_wanted, leaf_with, leaves_beginning, population}
use Rattle.mi_tree.specs.Legal.{cells_of}
use Rattle.mi_tree.proofs.CountLemmas.{cat_has}
use Rattle.mi_tree.proofs.LeafLemmas.{leaf_is}
use Rattle.mi_tree.proofs.LegalLemmas.{all_may}
use Rattle.mi_board.specs.Actors.{without_claim}
use Rattle.mi_board.specs.declared.actors.ActorState.{ActorState}
use Rattle.mi_entries.specs.Actors.{Actor, SplitWork}
use Rattle.mi_entries.specs.Entries.{grid}
use Rattle.mi_entries.specs.Records.{Rows, Shard, held_by, home, no_shard, shard_at}
use Rattle.mi_entries.proofs.KeyedLemmas.{is_keyed}
use Rattle.mi_entries.proofs.MemberLemmas.{IsOne, filter_in, map_in}
use Rattle.mi_core.specs.Effects.{saw}
use Rattle.mi_core.specs.Events.{after}
use Rattle.mi_core.specs.Events.Event.{claim_leaf, claim_shard, miss_shard, refuse, release_leaf, release_shard}
use Rattle.mi_core.specs.Kept.{Kept}
use Rattle.mi_core.specs.Refusals.Refusal.{held}
use Rattle.mi_core.specs.State.{State}
use Rattle.mi_core.proofs.ActorLemmas.{set_there}
use Rattle.mi_world.specs.declared.answers.ShardClaim.{ShardClaim}
use Rattle.mi_world.specs.declared.answers.ShardClaim.TheVariants.{Taken as ShardTaken, Held as ShardHeld}
use Rattle.mi_world.specs.Claims.{ClaimsLeaf, ClaimsShard, LeafAnswer, ReleasesLeaf, ReleasesShard, ShardAnswer}
use Rattle.mi_world.specs.View.{Later, SameBoard, SeesBoard}
use Rattle.mi_solo.specs.Onward.{Makes}
use Rattle.mi_solo.specs.Viewing.{another, holder_from, record_shown, shown_to}
use Rattle.mi_solo.proofs.BoardEvents.{board_saw, later_saw, there_saw}
use Rattle.mi_solo.proofs.BoardLemmas.{claims_it, holds_it}
use Rattle.mi_solo.proofs.OwnLemmas.{later_own, made, sees_own}
use Rattle.mi_solo.proofs.SectionLemmas.{another_self, apart_by, freed, own_found, page_by}
use Rattle.mi_solo.proofs.ViewLemmas.{wanted_is}

-- a section of a shard leaves the board and the pages
module _ (s : State) (a : ℕ) (r : Actor) (shards : List Shard) (shard : Option ℕ) (tried : ℕ) (found : Option ℕ) (here : Bool) where
  abbrev shard_actor : Actor
  shard_actor = record r { shard = shard; tried = tried; found = found; reserved_here = here }

  abbrev shard_state : State
  shard_state = record { board = s.board; shards = shards; pages = s.pages; actors = set s.actors a shard_actor }

  board_stays : SameBoard (shown_to s a r) (shown_to shard_state a shard_actor)
  board_stays = record { seen = refl; lacked = refl; told = refl; note = record { allotted = refl; holder = refl; pins = refl; given = refl; retired = refl; passed = refl; root = refl; height = refl } }

  claims_by : (id : ℕ) → tried ≡ home id → Later (shown_to s a r) (shown_to shard_state a shard_actor) → (result : ShardClaim) → ShardAnswer (shown_to s a r) (shown_to shard_state a shard_actor) id result → ClaimsShard (shown_to s a r) (shown_to shard_state a shard_actor) id result
  claims_by id is later result answer = record {
    later = later;
    own = refl;
    leaf = record { leaf = refl; wanted = refl };
    apart = apart_by s shard_state a r shard_actor refl refl refl refl refl refl;
    floor = refl;
    fresh = refl;
    owes = refl;
    board = board_stays;
    page = page_by s shard_state a r shard_actor refl refl;
    tried = is;
    answer = answer;
  }

pub claims_shard : (id : ℕ) (kept : Rows) → Makes (claim_shard (home id) kept) (λ s v w. ClaimsShard v w id (ShardTaken (record_shown (find (λ x. x.id == id) kept.records))))
claims_shard id kept = made (claim_shard (home id) kept) (λ s v w. ClaimsShard v w id (ShardTaken (record_shown (find (λ x. x.id == id) kept.records)))) (λ s k a r there going can.
    let q : Actor = record r { shard = Some (home id); tried = home id; found = None; reserved_here = false } in
    let now = set_there s.actors a q r there in
    let taken = get_or-set_same s.shards (home id) (held_by (Some a) kept) no_shard (let l = can.0 in omega (arith, k.sound.sixteen)) in (
      q,
      now,
      claims_by s a r (set s.shards (home id) (held_by (Some a) kept)) (Some (home id)) (home id) None false id refl (later_own s k a r there going (claim_shard (home id) kept) can q now)
          (ShardTaken (record_shown (find (λ x. x.id == id) kept.records)))
          (ap (λ (x : Shard). another a x.holder) taken ∙ another_self a, refl, ap (λ (x : Shard). record_shown (find (λ y. y.id == id) x.rows.records)) taken, refl),
    ))

pub misses_shard : (id : ℕ) → Makes (miss_shard (home id)) (λ s v w. ClaimsShard v w id ShardHeld)
misses_shard id = made (miss_shard (home id)) (λ s v w. ClaimsShard v w id ShardHeld) (λ s k a r there going can.
    let by : Option ℕ = (shard_at s.shards (home id)).holder in
    let q : Actor = record r { tried = home id; found = by } in
    let now = set_there s.actors a q r there in
    let other : can.2 ≢ a = λ same. (
    let h = k.sound.holders (home id) can.2 can.3 in
    none-some (home id) (sym can.1 ∙ ap (λ (t : Actor). t.shard) (same_Some r h.actor (sym there ∙ ap (slice_get s.actors) (sym same) ∙ h.there)) ∙ h.shard)) in (
      q,
      now,
      claims_by s a r s.shards r.shard (home id) by r.reserved_here id refl (later_own s k a r there going (miss_shard (home id)) can q now) ShardHeld
          (record { by = can.2; is = ap (another a) can.3 ∙ (rw (ne_eqb can.2 a other) refl); other = other }, can.1, refl, refl),
    ))

pub releases_shard : (n : ℕ) (kept : Rows) → Makes (release_shard n kept) (λ s v w. ReleasesShard v w)
releases_shard n kept = made (release_shard n kept) (λ s v w. ReleasesShard v w) (λ s k a r there going can.
    let t : State = after s a r (release_shard n kept) in
    let q : Actor = record r { shard = None; reserved_here = false } in
    let now = set_there s.actors a q r there in (
      q,
      now,
      record {
        later = later_own s k a r there going (release_shard n kept) can q now;
        own = refl;
        shard = refl;
        reserved = refl;
        leaf = record { leaf = refl; wanted = refl };
        apart = apart_by s t a r q refl refl refl refl refl refl;
        floor = refl;
        fresh = refl;
        owes = refl;
        board = board_stays s a r t.shards None r.tried r.found false;
        page = page_by s t a r q refl refl;
        tries = record { tried = refl; found = own_found s k a r there n can.0 None kept refl r.tried };
      },
    ))

-- who claims no leaf splits none
pub no_split : (s : State) → Kept s → (a : ℕ) (r : Actor) → slice_get s.actors a ≡ Some r → r.claim ≡ None → is_some r.split ≡ false
no_split s k a r there free =
    let P : Option SplitWork → Type 0 = λ o. r.split ≡ o → is_some o ≡ false in
    (elim r.split as P [ None ↦ λ _. refl | Some w ↦ λ e. absurd (none-some w.leaf (sym free ∙ (k.sound.each a r there).holds.split w e)) ]) refl

module _ (s : State) (k : Kept s) where
  abbrev c : Configuration
  c = s.board.settings

  abbrev log : List LogEvent
  log = s.board.log

  -- the leaf that begins a permutation is its leaf
  pub leaf_begins : (perm p : List ℕ) → IsTrue (is_permutation perm) → length perm ≡ length c.pivots → is_leaf (grid c) log p ≡ true → begins p perm ≡ true → p ≡ leaf_of (grid c) log perm
  leaf_begins perm p h long leaf under =
      let ok : IsGrid (grid c) = (is_keyed c k.sound.limits).grid in
      let g : Grid = record { pivots = (grid c).pivots; levels = (grid c).levels; perm = λ v. perm; distance = (grid c).distance } in
      leaf_is g (record { perms = λ v. (h, long); levels = ok.levels; first = ok.first }) log (all_may c log k.sound.legal) p [] leaf under

  -- a leaf of the catalog has its count
  pub leaf_counted : (leaf : Leaf) → IsOne leaf (cells_of c log) → leaf_with (grid c) (population (grid c) log) leaf.prefix ≡ leaf
  leaf_counted leaf one =
      let f : List ℕ → Leaf = leaf_with (grid c) (population (grid c) log) in
      let m = map_in f (leaves (grid c) log) leaf one in
      ap (λ (l : Leaf). f l.prefix) (sym m.2) ∙ m.2

-- a claim of a leaf changes the board's actors
module _ (s : State) (a : ℕ) (r : Actor) (actors : List ActorState) (claim : Option (List ℕ)) where
  abbrev leaf_actor : Actor
  leaf_actor = record r { seen = length s.board.log; claim = claim }

  abbrev leaf_state : State
  leaf_state = record { board = record s.board { actors = actors }; shards = s.shards; pages = s.pages; actors = set s.actors a leaf_actor }

  claims_leaf_by : (perm : List ℕ) → Later (shown_to s a r) (shown_to leaf_state a leaf_actor) → SeesBoard (shown_to leaf_state a leaf_actor) → (result : LeafClaim) → LeafAnswer (shown_to s a r) (shown_to leaf_state a leaf_actor) perm result → ClaimsLeaf (shown_to s a r) (shown_to leaf_state a leaf_actor) perm result
  claims_leaf_by perm later board result answer = record {
    later = later;
    lacked = refl;
    told = refl;
    update = record { own = refl; shard = refl; records = refl; reserved = refl };
    apart = apart_by s leaf_state a r leaf_actor refl refl refl refl refl refl;
    floor = refl;
    fresh = refl;
    owes = refl;
    board = board;
    page = page_by s leaf_state a r leaf_actor refl refl;
    tries = record { tried = refl; found = refl };
    answer = answer;
  }

pub claims_leaf : (leaf : Leaf) → Makes (claim_leaf leaf.prefix) (λ s v w. (perm : List ℕ) → leaves_beginning perm (cells_of s.board.settings s.board.log) ≡ leaf ∷ [] → ClaimsLeaf v w perm (LeafTaken leaf))
claims_leaf leaf = made (claim_leaf leaf.prefix) (λ s v w. (perm : List ℕ) → leaves_beginning perm (cells_of s.board.settings s.board.log) ≡ leaf ∷ [] → ClaimsLeaf v w perm (LeafTaken leaf)) (λ s k a r there going can.
    let q : Actor = record (saw s.board r) { claim = Some leaf.prefix } in
    let now = set_there s.actors a q r there in (
      q,
      now,
      λ perm one.
          let among = filter_in (λ (l : Leaf). begins l.prefix perm) (cells_of s.board.settings s.board.log) leaf (subst (IsOne leaf) (sym one) (inl refl)) in
          claims_leaf_by s a r (after s a r (claim_leaf leaf.prefix)).board.actors (Some leaf.prefix) perm (later_own s k a r there going (claim_leaf leaf.prefix) can q now) (sees_own s k a r there going (claim_leaf leaf.prefix) can q now) (LeafTaken leaf) (
            one,
            among.1,
            refl,
            wanted_is s.board.settings s.board.log leaf.prefix (sym (cat_has (grid s.board.settings) s.board.log leaf.prefix) ∙ can.leaf)
                ∙ ap (is_wanted s.board.settings.levels s.board.settings.cell) (leaf_counted s k leaf among.0),
            no_split s k a r there can.free.claim,
          ),
    ))

pub claims_held : (leaf : List ℕ) (by : ℕ) → Makes (refuse (held leaf by)) (λ s v w. (perm : List ℕ) → IsTrue (is_permutation perm) → length perm ≡ length s.board.settings.pivots → begins leaf perm ≡ true → v.leaf ≡ None
    → ClaimsLeaf v w perm (LeafHeld by))
claims_held leaf by = made (refuse (held leaf by)) (λ s v w. (perm : List ℕ) → IsTrue (is_permutation perm) → length perm ≡ length s.board.settings.pivots → begins leaf perm ≡ true → v.leaf ≡ None
    → ClaimsLeaf v w perm (LeafHeld by)) (λ s k a r there going can. (
      saw s.board r,
      there_saw s k a r there going,
      λ perm h long under free.
          let t = claims_it s k a r there by leaf can.claim in
          let is = leaf_begins s k perm leaf h long ((k.sound.each by t.0 t.1).holds.leaf leaf t.2) under in
          claims_leaf_by s a r s.board.actors r.claim perm (later_saw s k a r there going) (board_saw s k a r there going) (LeafHeld by)
          (free, ap (holder_from 0 s.board.actors) (sym is) ∙ holds_it s k by t.0 t.1 leaf t.2, can.other, ap (λ p. begins p perm) (sym is) ∙ under),
    ))

pub releases_leaf : Makes release_leaf (λ s v w. ReleasesLeaf v w)
releases_leaf = made release_leaf (λ s v w. ReleasesLeaf v w) (λ s k a r there going can.
    let t : State = after s a r release_leaf in
    let q : Actor = record (saw s.board r) { claim = None } in
    let now = set_there s.actors a q r there in (
      q,
      now,
      record {
        later = later_own s k a r there going release_leaf can q now;
        lacked = refl;
        told = refl;
        update = record { own = refl; shard = refl; records = refl; reserved = refl };
        leaf = refl;
        freed = freed s k a r there without_claim (λ x. refl) can.0 can.1;
        passed = refl;
        apart = apart_by s t a r q refl refl refl refl refl refl;
        floor = refl;
        fresh = refl;
        owes = refl;
        board = sees_own s k a r there going release_leaf can q now;
        page = page_by s t a r q refl refl;
        tries = record { tried = refl; found = refl };
      },
    ))

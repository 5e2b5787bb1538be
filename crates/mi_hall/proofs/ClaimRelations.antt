-- Sections that claim and release shards and leaves, and sections of a split's end, as one has them who knows a part of what all share.
use Rattle.std.proofs.Common.{◌≡◌, ℕ, List, Bool, refl, sym, ◌∙◌, subst, arith, Option}
use Rattle.std.specs.Prelude.{Result, Ok, Err}
use Rattle.std.specs.List.{AllByRecursion}
use Rattle.mi_base.specs.declared.records.Position.{Position}
use Rattle.mi_base.specs.declared.refusals.NoMemory.{NoMemory}
use Rattle.mi_core.specs.Named.{Named}
use Rattle.mi_tree.proofs.GrowingLemmas.{grows_none, grows_on}
use Rattle.mi_tree.specs.declared.answers.LeafClaim.{LeafClaim}
use Rattle.mi_tree.specs.declared.answers.LeafClaim.TheVariants.{Taken as LeafTaken, Held as LeafHeld}
use Rattle.mi_world.specs.declared.answers.ShardClaim.{ShardClaim}
use Rattle.mi_world.specs.declared.answers.ShardClaim.TheVariants.{Taken as ShardTaken, Held as ShardHeld}
use Rattle.mi_world.specs.Claims.{ClaimsLeaf, ClaimsShard, LeafAnswer, ReleasesLeaf, ReleasesShard, ShardAnswer}
use Rattle.mi_world.specs.Splits.{GivesUp, PublishAnswer, Publishes}
use Rattle.mi_world.specs.View.{IsOther, Later, SameApart, SameBoard, SamePage, View, prefix_or}
use Rattle.mi_hall.specs.Knowledge.{IsShown, Knowledge, Knows, seeing, trying, view_by}
use Rattle.mi_hall.proofs.BoardRelations.{board_on, later_on}
use Rattle.mi_hall.proofs.KnowledgeLemmas.{later_by}
use Rattle.mi_hall.proofs.PartLemmas.{Quiet, actors_by, apart_by, flags_by, leaf_by, page_seeing, quiet_seeing, split_by, sweep_by, tries_by, update_by}

-- a section of the board that names these pages
module _ (v w : View) (n : Knowledge) (k : Knows v n) (names : List Named) (shown : AllByRecursion (IsShown w) names) where
  abbrev m : Knowledge
  m = seeing w n.told names n

  quiet : Quiet n (seeing w n.told names n)
  quiet = quiet_seeing v w n n.told names

  leaf_answer : (perm : List ℕ) (result : LeafClaim) → LeafAnswer v w perm result → LeafAnswer (view_by n v) (view_by (seeing w n.told names n) w) perm result
  leaf_answer perm (LeafTaken leaf) x = x
  leaf_answer perm (LeafHeld by) x = x

  pub claims_leaf_by : (perm : List ℕ) (result : LeafClaim) → ClaimsLeaf v w perm result → ClaimsLeaf (view_by n v) (view_by (seeing w n.told names n) w) perm result
  claims_leaf_by perm result x = record {
    later = later_on v w n k names shown x.later x.board;
    lacked = x.lacked;
    told = refl;
    update = update_by v w n m x.update;
    apart = apart_by v w n m quiet x.apart;
    floor = x.floor;
    fresh = x.fresh;
    owes = x.owes;
    board = board_on v w n k names shown x.later x.board;
    page = page_seeing v w n n.told names x.page;
    tries = tries_by v w n m quiet x.tries;
    answer = leaf_answer perm result x.answer;
  }

  -- whether the claimed leaf is passed over, is known
  pub releases_leaf_by : v.passed (prefix_or v.leaf) ≡ n.passed (prefix_or v.leaf) → ReleasesLeaf v w → ReleasesLeaf (view_by n v) (view_by (seeing w n.told names n) w)
  releases_leaf_by passed x = record {
    later = later_on v w n k names shown x.later x.board;
    lacked = x.lacked;
    told = refl;
    update = update_by v w n m x.update;
    leaf = x.leaf;
    freed = x.freed;
    passed = x.passed ∙ passed;
    apart = apart_by v w n m quiet x.apart;
    floor = x.floor;
    fresh = x.fresh;
    owes = x.owes;
    board = board_on v w n k names shown x.later x.board;
    page = page_seeing v w n n.told names x.page;
    tries = tries_by v w n m quiet x.tries;
  }

  publish_answer : (result : Result Position NoMemory) → PublishAnswer v w result → PublishAnswer (view_by n v) (view_by (seeing w n.told names n) w) result
  publish_answer (Ok position) x = record {
    before = x.before;
    grows = grows_on n.seen v.seen x.before k.seen x.grows;
    wanted = x.wanted;
    seen = x.seen;
    at_is = x.at_is;
    all = x.all;
    unclaimed = x.unclaimed;
    freed = x.freed;
    over = x.over;
    earlier = x.earlier;
    retired = x.retired;
    unpassed = x.unpassed;
  }
  publish_answer (Err e) x = (leaf_by v w n m x.0, split_by v w n m x.1)

  pub publishes_by : (result : Result Position NoMemory) → Publishes v w result → Publishes (view_by n v) (view_by (seeing w n.told names n) w) result
  publishes_by result x = record {
    later = later_on v w n k names shown x.later x.board;
    lacked = x.lacked;
    told = refl;
    update = update_by v w n m x.update;
    sweep = sweep_by v w n m x.sweep;
    flags = flags_by v w n m x.flags;
    actors = actors_by v w n m quiet;
    pin = x.pin;
    floor = x.floor;
    fresh = x.fresh;
    owes = x.owes;
    board = board_on v w n k names shown x.later x.board;
    page = page_seeing v w n n.told names x.page;
    tries = tries_by v w n m quiet x.tries;
    answer = publish_answer result x.answer;
  }

  pub gives_up_by : (pages : Bool) → v.passed (prefix_or v.leaf) ≡ n.passed (prefix_or v.leaf) → GivesUp v w pages → GivesUp (view_by n v) (view_by (seeing w n.told names n) w) pages
  gives_up_by pages passed x = record {
    later = later_on v w n k names shown x.later x.board;
    lacked = x.lacked;
    told = refl;
    update = update_by v w n m x.update;
    unclaimed = x.unclaimed;
    freed = x.freed;
    over = x.over;
    sweep = sweep_by v w n m x.sweep;
    flags = flags_by v w n m x.flags;
    actors = actors_by v w n m quiet;
    pin = x.pin;
    floor = x.floor;
    fresh = x.fresh;
    owes = x.owes;
    board = board_on v w n k names shown x.later x.board;
    page = page_seeing v w n n.told names x.page;
    tries = tries_by v w n m quiet x.tries;
    passes_over = x.passes_over;
    else_as_before = λ e. x.else_as_before e ∙ passed;
  }

-- a section of a shard, which finds this holder
module _ (v w : View) (n : Knowledge) (k : Knows v n) (found : Option ℕ) (i : Knows w (trying found n)) where
  abbrev t : Knowledge
  t = trying found n

  later_trying : Later v w → Later (view_by n v) (view_by (trying found n) w)
  later_trying l = later_by v w n t k i (record { seen = grows_none n.seen; told = λ e. e; pages = λ p e. e; least = omega arith; allotted = omega arith; given = omega arith }) l

  apart_trying : SameApart v w → SameApart (view_by n v) (view_by (trying found n) w)
  apart_trying x = record {
    sweep = sweep_by v w n t x.sweep;
    split = split_by v w n t x.split;
    flags = flags_by v w n t x.flags;
    actors = record { absorbed = refl; forked = refl };
    pin = x.pin;
  }

  board_trying : SameBoard v w → SameBoard (view_by n v) (view_by (trying found n) w)
  board_trying x = record {
    seen = refl;
    lacked = x.lacked;
    told = refl;
    note = record { allotted = refl; holder = refl; pins = refl; given = refl; retired = refl; passed = refl; root = refl; height = refl };
  }

  page_trying : SamePage v w → SamePage (view_by n v) (view_by (trying found n) w)
  page_trying x = record { page = x.page; high = refl; items = λ e. refl }

  shard_answer : (id : ℕ) (result : ShardClaim) → found ≡ w.found → ShardAnswer v w id result → ShardAnswer (view_by n v) (view_by (trying found n) w) id result
  shard_answer id (ShardTaken kept) is x = (is ∙ x.0, x.1, x.2, x.3)
  shard_answer id ShardHeld is x = (subst (λ o. IsOther o w.actor) (sym is) x.0, x.1, x.2, x.3)

  pub claims_shard_by : (id : ℕ) (result : ShardClaim) → found ≡ w.found → ClaimsShard v w id result → ClaimsShard (view_by n v) (view_by (trying found n) w) id result
  claims_shard_by id result is x = record {
    later = later_trying x.later;
    own = x.own;
    leaf = leaf_by v w n t x.leaf;
    apart = apart_trying x.apart;
    floor = x.floor;
    fresh = x.fresh;
    owes = x.owes;
    board = board_trying x.board;
    page = page_trying x.page;
    tried = x.tried;
    answer = shard_answer id result is x.answer;
  }

  pub releases_shard_by : found ≡ n.found → ReleasesShard v w → ReleasesShard (view_by n v) (view_by (trying found n) w)
  releases_shard_by is x = record {
    later = later_trying x.later;
    own = x.own;
    shard = x.shard;
    reserved = x.reserved;
    leaf = leaf_by v w n t x.leaf;
    apart = apart_trying x.apart;
    floor = x.floor;
    fresh = x.fresh;
    owes = x.owes;
    board = board_trying x.board;
    page = page_trying x.page;
    tries = record { tried = x.tries.tried; found = is };
  }

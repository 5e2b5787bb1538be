-- Sections of the board, as one has them who knows a part of what all share.
use Rattle.std.proofs.Common.{◌≡◌, ℕ, ◌++◌, List, Bool, true, false, IsTrue, refl, sym, ◌∙◌, arith, Some}
use Rattle.std.specs.Prelude.{Result, Ok, Err}
use Rattle.std.specs.List.{AllByRecursion}
use Rattle.std.proofs.lemmas.Bool.{false≢true}
use Rattle.mi_base.specs.declared.refusals.NoMemory.{NoMemory}
use Rattle.mi_core.specs.Named.{Named}
use Rattle.mi_tree.specs.declared.answers.AllotRefusal.{AllotRefusal}
use Rattle.mi_tree.specs.declared.answers.AllotRefusal.TheVariants as allotting
use Rattle.mi_tree.specs.declared.answers.Look.{Look}
use Rattle.mi_tree.specs.declared.answers.ReserveRefusal.{ReserveRefusal}
use Rattle.mi_tree.specs.declared.answers.ReserveRefusal.TheVariants as reserving
use Rattle.mi_tree.specs.declared.answers.Work.{Work}
use Rattle.mi_tree.specs.declared.answers.Work.TheVariants as working
use Rattle.mi_world.specs.Boards.{AllotAnswer, Allots, FirstRetired, GivesWork, Grew, GrowAnswer, Looks, PinAnswer, Pins, ReserveAnswer, Reserves, Tells, Unpins, WorkAnswer}
use Rattle.mi_world.specs.View.{IsFloor, Later, SeesBoard, View}
use Rattle.mi_hall.specs.Knowledge.{IsShown, Knowledge, Knows, is_named, seeing, view_by}
use Rattle.mi_hall.specs.Leading.{root_of_look, told_by_allot}
use Rattle.mi_hall.proofs.KnowledgeLemmas.{knows_seeing, known, later_by, learns_seeing}
use Rattle.mi_hall.proofs.PartLemmas.{Quiet, actors_by, apart_by, flags_by, leaf_by, own_by, page_seeing, quiet_seeing, sees_by, split_by, sweep_by, tries_by, update_by, work_by}

-- a section that sees the board as w shows it, is told so much and named these pages
module _ (v w : View) (n : Knowledge) (k : Knows v n) (names : List Named) (shown : AllByRecursion (IsShown w) names) where
  module _ (told : Bool) (was : IsTrue n.told → IsTrue told) (so : IsTrue told → IsTrue w.told) (l : Later v w) (b : SeesBoard w) where
    pub know : Knows w (seeing w told names n)
    know = knows_seeing v w n k l names shown b told so

    pub later_seeing : Later (view_by n v) (view_by (seeing w told names n) w)
    later_seeing = later_by v w n (seeing w told names n) k know (learns_seeing v w n k l names shown told was) l

    pub board_seeing : SeesBoard (view_by (seeing w told names n) w)
    board_seeing = sees_by w (record n { told = told; pages = names ++ n.pages; least = w.least }) know b

  abbrev m : Knowledge
  m = seeing w n.told names n

  quiet : Quiet n (seeing w n.told names n)
  quiet = quiet_seeing v w n n.told names

  -- nothing is told but of the root
  module _ (l : Later v w) (b : SeesBoard w) where
    so_still : IsTrue n.told → IsTrue w.told
    so_still e = l.told (k.told e)

    pub knows_more : Knows w (seeing w n.told names n)
    knows_more = know n.told (λ e. e) so_still l b

    pub later_on : Later (view_by n v) (view_by (seeing w n.told names n) w)
    later_on = later_seeing n.told (λ e. e) so_still l b

    pub board_on : SeesBoard (view_by (seeing w n.told names n) w)
    board_on = board_seeing n.told (λ e. e) so_still l b

    floor_by : IsFloor w w.floor → IsFloor (view_by (seeing w n.told names n) w) w.floor
    floor_by x = record { none_below = x.none_below; is = x.is }

    tells_by : (look : Look) → IsTrue (is_named (names ++ n.pages) look.root) → Tells w look → Tells (view_by (seeing w n.told names n) w) look
    tells_by look named x =
        let f = known w (names ++ n.pages) knows_more.pages look.root named in
        record {
          at_is = x.at_is;
          floor_is = x.floor_is;
          floor_least = floor_by x.floor_least;
          root_is = x.root_is;
          height_is = x.height_is;
          named = named;
          level_is = sym f.1 ∙ x.level_is;
          low_is = sym f.2 ∙ x.low_is;
          low_height = x.low_height;
          least_height = x.least_height;
        }

    reserve_answer : (result : Result Look ReserveRefusal) → ((root : ℕ) → root_of_look result ≡ Some root → IsTrue (is_named (names ++ n.pages) root))
        → ReserveAnswer v w result → ReserveAnswer (view_by n v) (view_by (seeing w n.told names n) w) result
    reserve_answer (Ok look) named x = (tells_by look (named look.root refl) x.0, x.1, x.2)
    reserve_answer (Err (reserving.Full limit)) named x = x
    reserve_answer (Err reserving.Memory) named x = x

    pin_answer : (result : Result Look NoMemory) → ((root : ℕ) → root_of_look result ≡ Some root → IsTrue (is_named (names ++ n.pages) root))
        → PinAnswer v w result → PinAnswer (view_by n v) (view_by (seeing w n.told names n) w) result
    pin_answer (Ok look) named x = (tells_by look (named look.root refl) x.0, x.1)
    pin_answer (Err e) named x = x

    retired_by : (p : List ℕ) → FirstRetired v w p → FirstRetired (view_by n v) (view_by (seeing w n.told names n) w) p
    retired_by p x = record { one_more = omega (arith, k.given, x.one_more); was_first = x.was_first; below = x.below }

    work_answer : (result : Work) → WorkAnswer v w result → WorkAnswer (view_by n v) (view_by (seeing w n.told names n) w) result
    work_answer (working.Sweep p) x = (retired_by p x.0, x.1, x.2, leaf_by v w n m x.3)
    work_answer (working.Split leaf) x =
        let f = x.1 in
        (x.0, record { before = f.before; others = f.others; first = f.first }, x.2, x.3, sweep_by v w n m x.4, x.5)
    work_answer working.Idle x = (x.0, x.1, leaf_by v w n m x.2, sweep_by v w n m x.3)

  grow_answer : (level child : ℕ) (result : Bool) → GrowAnswer v w level child result → GrowAnswer (view_by n v) (view_by (seeing w n.told names n) w) level child result
  grow_answer level child true x = x
  grow_answer level child false x = x

  pub looks_by : (look : Look) → IsTrue (is_named (names ++ n.pages) look.root) → Looks v w look → Looks (view_by n v) (view_by (seeing w n.told names n) w) look
  looks_by look named x = record {
    later = later_on x.later x.board;
    lacked = x.lacked;
    told = refl;
    same = own_by v w n m quiet x.same;
    board = board_on x.later x.board;
    page = page_seeing v w n n.told names x.page;
    tries = tries_by v w n m quiet x.tries;
    tells = tells_by x.later x.board look named x.tells;
  }

  pub reserves_by : (result : Result Look ReserveRefusal) → ((root : ℕ) → root_of_look result ≡ Some root → IsTrue (is_named (names ++ n.pages) root))
      → Reserves v w result → Reserves (view_by n v) (view_by (seeing w n.told names n) w) result
  reserves_by result named x = record {
    later = later_on x.later x.board;
    lacked = x.lacked;
    told = refl;
    own = x.own;
    shard = x.shard;
    records = x.records;
    leaf = leaf_by v w n m x.leaf;
    apart = apart_by v w n m quiet x.apart;
    fresh = x.fresh;
    owes = x.owes;
    board = board_on x.later x.board;
    page = page_seeing v w n n.told names x.page;
    tries = tries_by v w n m quiet x.tries;
    answer = reserve_answer x.later x.board result named x.answer;
  }

  pub pins_by : (result : Result Look NoMemory) → ((root : ℕ) → root_of_look result ≡ Some root → IsTrue (is_named (names ++ n.pages) root))
      → Pins v w result → Pins (view_by n v) (view_by (seeing w n.told names n) w) result
  pins_by result named x = record {
    later = later_on x.later x.board;
    lacked = x.lacked;
    told = refl;
    update = update_by v w n m x.update;
    leaf = leaf_by v w n m x.leaf;
    sweep = sweep_by v w n m x.sweep;
    split = split_by v w n m x.split;
    flags = flags_by v w n m x.flags;
    actors = actors_by v w n m quiet;
    fresh = x.fresh;
    owes = x.owes;
    board = board_on x.later x.board;
    page = page_seeing v w n n.told names x.page;
    tries = tries_by v w n m quiet x.tries;
    answer = pin_answer x.later x.board result named x.answer;
  }

  pub unpins_by : Unpins v w → Unpins (view_by n v) (view_by (seeing w n.told names n) w)
  unpins_by x = record {
    later = later_on x.later x.board;
    lacked = x.lacked;
    told = refl;
    update = update_by v w n m x.update;
    leaf = leaf_by v w n m x.leaf;
    sweep = sweep_by v w n m x.sweep;
    split = split_by v w n m x.split;
    flags = flags_by v w n m x.flags;
    actors = actors_by v w n m quiet;
    pin = x.pin;
    floor = x.floor;
    fresh = x.fresh;
    owes = x.owes;
    board = board_on x.later x.board;
    page = page_seeing v w n n.told names x.page;
    tries = tries_by v w n m quiet x.tries;
  }

  pub grew_by : (level child : ℕ) (result : Bool) → Grew v w level child result → Grew (view_by n v) (view_by (seeing w n.told names n) w) level child result
  grew_by level child result x = record {
    later = later_on x.later x.board;
    lacked = x.lacked;
    told = refl;
    work = work_by v w n m quiet x.work;
    floor = x.floor;
    board = board_on x.later x.board;
    page = page_seeing v w n n.told names x.page;
    tries = tries_by v w n m quiet x.tries;
    answer = grow_answer level child result x.answer;
  }

  pub gives_work_by : (result : Work) → GivesWork v w result → GivesWork (view_by n v) (view_by (seeing w n.told names n) w) result
  gives_work_by result x = record {
    later = later_on x.later x.board;
    lacked = x.lacked;
    told = refl;
    update = update_by v w n m x.update;
    split = split_by v w n m x.split;
    flags = flags_by v w n m x.flags;
    actors = actors_by v w n m quiet;
    pin = x.pin;
    fresh = x.fresh;
    owes = x.owes;
    floor = floor_by x.later x.board x.floor;
    board = board_on x.later x.board;
    page = page_seeing v w n n.told names x.page;
    tries = tries_by v w n m quiet x.tries;
    answer = work_answer x.later x.board result x.answer;
  }

  -- who finds all pages allotted is told so
  told_still : (result : Result (Unit {0}) AllotRefusal) → IsTrue n.told → IsTrue (told_by_allot result n.told)
  told_still (Ok _) e = e
  told_still (Err (allotting.PagesFull limit)) e = refl
  told_still (Err allotting.Memory) e = e

  told_so : (result : Result (Unit {0}) AllotRefusal) → Allots v w result → IsTrue (told_by_allot result n.told) → IsTrue w.told
  told_so (Ok _) x e = x.later.told (k.told e)
  told_so (Err (allotting.PagesFull limit)) x e = x.answer.3
  told_so (Err allotting.Memory) x e = x.later.told (k.told e)

  allot_answer : (result : Result (Unit {0}) AllotRefusal) → AllotAnswer v w result → AllotAnswer (view_by n v) (view_by (seeing w (told_by_allot result n.told) names n) w) result
  allot_answer (Ok _) x = (x.0, (let less = x.1 in omega (arith, k.allotted)), x.2)
  allot_answer (Err (allotting.PagesFull limit)) x = (x.0, x.1, x.2, refl, x.4)
  allot_answer (Err allotting.Memory) x = (x.0, x.1, refl)

  pub allots_by : (result : Result (Unit {0}) AllotRefusal) → Allots v w result → Allots (view_by n v) (view_by (seeing w (told_by_allot result n.told) names n) w) result
  allots_by result x =
      let told : Bool = told_by_allot result n.told in
      let q = quiet_seeing v w n told names in
      record {
        later = later_seeing told (told_still result) (told_so result x) x.later x.board;
        work = work_by v w n (seeing w told names n) q x.work;
        floor = x.floor;
        owes = x.owes;
        board = board_seeing told (told_still result) (told_so result x) x.later x.board;
        page = page_seeing v w n told names x.page;
        tries = tries_by v w n (seeing w told names n) q x.tries;
        full = λ e. absurd (false≢true e);
        answer = allot_answer result x.answer;
      }

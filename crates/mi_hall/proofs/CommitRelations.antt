-- Commits, as one has them who knows a part of what all share.
use Rattle.std.proofs.Common.{◌≡◌, ◌≢◌, ℕ, ◌++◌, [], List, Bool, true, false, IsTrue, refl, ◌∙◌, Option, Some}
use Rattle.std.specs.Prelude.{ℤ}
use Rattle.std.specs.List.{AllByRecursion}
use Rattle.mi_base.specs.declared.records.Update.{Update}
use Rattle.mi_base.specs.declared.records.Update.TheVariants as update
use Rattle.mi_core.specs.Named.{Named}
use Rattle.mi_tree.proofs.GrowingLemmas.{grows_on}
use Rattle.mi_world.specs.declared.answers.Commit.{Commit}
use Rattle.mi_world.specs.declared.answers.Commit.TheVariants as commit
use Rattle.mi_world.specs.Pages.{CommitsDelete, CommitsInsert, DeleteAnswer, DeleteSees, Enters, InsertAnswer, InsertSees, IsFullLog, NotEntered, Recorded, delete_key, insert_key, next_number}
use Rattle.mi_world.specs.View.{Later, SeesBoard, View}
use Rattle.mi_world.proofs.ViewLemmas.{later_none}
use Rattle.mi_hall.specs.Knowledge.{IsShown, Knowledge, Knows, is_named, reading, seeing, view_by}
use Rattle.mi_hall.specs.Leading.{page_of_commit}
use Rattle.mi_hall.proofs.BoardRelations.{knows_more}
use Rattle.mi_hall.proofs.DescentLemmas.{full_page, goes_down, goes_right, has_taken, is_reached}
use Rattle.mi_hall.proofs.KnowledgeLemmas.{knows_reading, later_by, learns_on, learns_reading, learns_seeing}
use Rattle.mi_hall.proofs.PageRelations.{later_reading, reads}
use Rattle.mi_hall.proofs.PartLemmas.{Quiet, apart_by, board_reading, leaf_by, quiet_reading, sees_by, tries_by, update_by}

-- a commit that saw the board, and noted its page
abbrev pub committing : View → List Named → Knowledge → Knowledge
committing w names n = reading w names (seeing w n.told [] n)

module _ (v w : View) (n m : Knowledge) where
  not_entered : NotEntered v w → NotEntered (view_by n v) (view_by m w)
  not_entered x = record { update = update_by v w n m x.update; leaf = leaf_by v w n m x.leaf }

  enters_by : Knows v n → m.seen ≡ w.seen → (op id : ℕ) (u : Update) (live : Bool) (number : ℕ) → Enters v w op id u live number → Enters (view_by n v) (view_by m w) op id u live number
  enters_by k seen op id u live number x = record {
    before = x.before;
    grows = grows_on n.seen v.seen x.before k.seen x.grows;
    room = x.room;
    known = x.known;
    seen = seen ∙ x.seen;
    number_is = x.number_is;
    own = x.own;
    shard = x.shard;
    records = x.records;
    reserved = x.reserved;
  }

  recorded_by : (id number : ℕ) (dists : List ℕ) → Recorded w id number dists → Recorded (view_by m w) id number dists
  recorded_by id number dists x = record { kept = x.kept; is = x.is; birth_is = x.birth_is; dists_are = x.dists_are }

module _ (v w : View) (n : Knowledge) (k : Knows v n) (names : List Named) (shows : AllByRecursion (IsShown w) names) (page : ℕ) (here : IsTrue (is_named n.pages page)) where
  abbrev c : Knowledge
  c = committing w names n

  abbrev Names : Option ℕ → Type 0
  Names o = (p : ℕ) → o ≡ Some p → IsTrue (is_named (names ++ n.pages) p)

  quiet : Quiet n (committing w names n)
  quiet = record { absorbed = refl; forked = refl; found = refl }

  module _ (l : Later v w) (b : SeesBoard w) where
    sees : Knows w (seeing w n.told [] n)
    sees = knows_more v w n k [] tt l b

    pub commits : Knows w (committing w names n)
    commits = knows_reading w w (seeing w n.told [] n) sees (later_none w) names shows

    later_commit : Later (view_by n v) (view_by (committing w names n) w)
    later_commit = later_by v w n c k commits
        (learns_on n (seeing w n.told [] n) c (learns_seeing v w n k l [] tt n.told (λ e. e)) (learns_reading w w (seeing w n.told [] n) sees (later_none w) names shows)) l

    board_commit : SeesBoard (view_by (committing w names n) w)
    board_commit = sees_by w (record n { pages = names ++ n.pages; least = w.least; high = w.high; items = w.items }) commits b

    full_by : (limit : ℕ) → IsFullLog w limit → IsFullLog (view_by (committing w names n) w) limit
    full_by limit x = record { limit_is = x.limit_is; many = x.many }

    insert_answer : (op id : ℕ) (vector : List ℤ) (dists : List ℕ) (result : Commit) → ((p : ℕ) → result ≢ commit.Down p) → Names (page_of_commit result)
        → InsertAnswer v w page op id vector dists result → InsertAnswer (view_by n v) (view_by (committing w names n) w) page op id vector dists result
    insert_answer op id vector dists (commit.Down p) seen named x = absurd (seen p refl)
    insert_answer op id vector dists (commit.Right p) seen named x = (not_entered v w n c x.0, goes_right v w n c k commits refl page here p (named p refl) 0 (insert_key w dists id (next_number w)) x.1)
    insert_answer op id vector dists (commit.Full limit) seen named x = (not_entered v w n c x.0, is_reached v w n c k commits refl page here 0 (insert_key w dists id (next_number w)) x.1, full_by limit x.2)
    insert_answer op id vector dists commit.Crowded seen named x = (update_by v w n c x.0, is_reached v w n c k commits refl page here 0 (insert_key w dists id (next_number w)) x.1, x.2, x.3, x.4)
    insert_answer op id vector dists commit.PageFull seen named x =
        (not_entered v w n c x.0, is_reached v w n c k commits refl page here 0 (insert_key w dists id (next_number w)) x.1, x.2, x.3, full_page v w n c refl page x.4)
    insert_answer op id vector dists (commit.Done number) seen named x = (
      enters_by v w n c k refl op id (update.Insert id vector) false number x.0,
      is_reached v w n c k commits refl page here 0 (insert_key w dists id number) x.1,
      recorded_by v w n c id number dists x.2,
      has_taken v w n c refl page x.3,
    )

  -- what of an insert is the same, whether it saw the board or not
  inserts_on : (m : Knowledge) → Quiet n m → m.told ≡ n.told → (op id : ℕ) (vector : List ℤ) (dists : List ℕ) (result : Commit) → Later (view_by n v) (view_by m w) → InsertSees (view_by n v) (view_by m w) result
      → InsertAnswer (view_by n v) (view_by m w) page op id vector dists result → CommitsInsert v w page op id vector dists result → CommitsInsert (view_by n v) (view_by m w) page op id vector dists result
  inserts_on m q told op id vector dists result later board answer x = record {
    later = later;
    lacked = x.lacked;
    told = told;
    leaf = x.leaf;
    apart = apart_by v w n m q x.apart;
    floor = x.floor;
    fresh = x.fresh;
    owes = x.owes;
    board = board;
    tries = tries_by v w n m q x.tries;
    page_is = x.page_is;
    answer = answer;
  }

  pub inserts_down_by : (op id : ℕ) (vector : List ℤ) (dists : List ℕ) (p : ℕ) → IsTrue (is_named (names ++ n.pages) p)
      → CommitsInsert v w page op id vector dists (commit.Down p) → CommitsInsert (view_by n v) (view_by (reading w names n) w) page op id vector dists (commit.Down p)
  inserts_down_by op id vector dists p named x =
      let m : Knowledge = reading w names n in
      inserts_on m (quiet_reading v w n names) refl op id vector dists (commit.Down p) (later_reading v w n k names shows page here x.later) (board_reading v w n names x.board)
      (not_entered v w n m x.answer.0, goes_down v w n m k (reads v w n k names shows page here x.later) refl page here p named 0 (insert_key w dists id 0) x.answer.1) x

  -- the board that an insert has seen
  sees_insert : (op id : ℕ) (vector : List ℤ) (dists : List ℕ) (result : Commit) → ((p : ℕ) → result ≢ commit.Down p) → InsertSees v w result → SeesBoard w
  sees_insert op id vector dists (commit.Down p) seen b = absurd (seen p refl)
  sees_insert op id vector dists (commit.Right p) seen b = b
  sees_insert op id vector dists (commit.Full limit) seen b = b
  sees_insert op id vector dists commit.Crowded seen b = b
  sees_insert op id vector dists commit.PageFull seen b = b
  sees_insert op id vector dists (commit.Done number) seen b = b

  insert_sees : (result : Commit) → ((p : ℕ) → result ≢ commit.Down p) → SeesBoard (view_by c w) → InsertSees (view_by n v) (view_by c w) result
  insert_sees (commit.Down p) seen b = absurd (seen p refl)
  insert_sees (commit.Right p) seen b = b
  insert_sees (commit.Full limit) seen b = b
  insert_sees commit.Crowded seen b = b
  insert_sees commit.PageFull seen b = b
  insert_sees (commit.Done number) seen b = b

  pub inserts_by : (op id : ℕ) (vector : List ℤ) (dists : List ℕ) (result : Commit) → ((p : ℕ) → result ≢ commit.Down p) → Names (page_of_commit result)
      → CommitsInsert v w page op id vector dists result → CommitsInsert (view_by n v) (view_by (committing w names n) w) page op id vector dists result
  inserts_by op id vector dists result seen named x =
      let b = sees_insert op id vector dists result seen x.board in
      inserts_on c quiet refl op id vector dists result (later_commit x.later b) (insert_sees result seen (board_commit x.later b))
      (insert_answer x.later b op id vector dists result seen named x.answer) x

  -- what of a delete is the same, whether it saw the board or not
  deletes_on : (m : Knowledge) → Quiet n m → m.told ≡ n.told → (op id : ℕ) (result : Commit) → Later (view_by n v) (view_by m w) → DeleteSees (view_by n v) (view_by m w) result
      → DeleteAnswer (view_by n v) (view_by m w) page op id result → CommitsDelete v w page op id result → CommitsDelete (view_by n v) (view_by m w) page op id result
  deletes_on m q told op id result later board answer x = record {
    later = later;
    lacked = x.lacked;
    told = told;
    leaf = x.leaf;
    apart = apart_by v w n m q x.apart;
    floor = x.floor;
    fresh = x.fresh;
    owes = x.owes;
    board = board;
    tries = tries_by v w n m q x.tries;
    page_is = x.page_is;
    answer = answer;
  }

  pub deletes_down_by : (op id p : ℕ) → IsTrue (is_named (names ++ n.pages) p) → CommitsDelete v w page op id (commit.Down p) → CommitsDelete (view_by n v) (view_by (reading w names n) w) page op id (commit.Down p)
  deletes_down_by op id p named x =
      let m : Knowledge = reading w names n in
      deletes_on m (quiet_reading v w n names) refl op id (commit.Down p) (later_reading v w n k names shows page here x.later) (board_reading v w n names x.board)
      (not_entered v w n m x.answer.0, goes_down v w n m k (reads v w n k names shows page here x.later) refl page here p named 0 (delete_key v id) x.answer.1) x

  pub deletes_right_by : (op id p : ℕ) → IsTrue (is_named (names ++ n.pages) p) → CommitsDelete v w page op id (commit.Right p) → CommitsDelete (view_by n v) (view_by (reading w names n) w) page op id (commit.Right p)
  deletes_right_by op id p named x =
      let m : Knowledge = reading w names n in
      deletes_on m (quiet_reading v w n names) refl op id (commit.Right p) (later_reading v w n k names shows page here x.later) (board_reading v w n names x.board)
      (not_entered v w n m x.answer.0, goes_right v w n m k (reads v w n k names shows page here x.later) refl page here p named 0 (delete_key v id) x.answer.1) x

  pub deletes_full_by : (op id limit : ℕ) → CommitsDelete v w page op id (commit.Full limit) → CommitsDelete (view_by n v) (view_by (committing w names n) w) page op id (commit.Full limit)
  deletes_full_by op id limit x = deletes_on c quiet refl op id (commit.Full limit) (later_commit x.later x.board) (board_commit x.later x.board)
      (not_entered v w n c x.answer.0, is_reached v w n c k (commits x.later x.board) refl page here 0 (delete_key v id) x.answer.1, full_by x.later x.board limit x.answer.2) x

  pub deletes_done_by : (op id number : ℕ) → CommitsDelete v w page op id (commit.Done number) → CommitsDelete (view_by n v) (view_by (committing w names n) w) page op id (commit.Done number)
  deletes_done_by op id number x = deletes_on c quiet refl op id (commit.Done number) (later_commit x.later x.board) (board_commit x.later x.board)
      (enters_by v w n c k refl op id (update.Delete id) true number x.answer.0, is_reached v w n c k (commits x.later x.board) refl page here 0 (delete_key v id) x.answer.1, x.answer.2) x

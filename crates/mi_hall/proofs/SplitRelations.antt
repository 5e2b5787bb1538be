-- Sections of a split's pages, as one has them who knows a part of what all share.
use Rattle.std.proofs.Common.{◌≡◌, ◌≢◌, ℕ, ◌++◌, ◌||◌, List, Bool, IsTrue, not, refl, ◌∙◌, Option, Some, None}
use Rattle.std.specs.Prelude.{Result, Ok, Err}
use Rattle.std.specs.List.{AllByRecursion}
use Rattle.mi_base.specs.declared.refusals.NoMemory.{NoMemory}
use Rattle.mi_core.specs.Named.{Named}
use Rattle.mi_world.specs.declared.answers.Put.{Put}
use Rattle.mi_world.specs.declared.answers.Put.TheVariants as put
use Rattle.mi_world.specs.declared.answers.Visit.{Visit}
use Rattle.mi_world.specs.declared.answers.Visit.TheVariants.{Down, Right, Read}
use Rattle.mi_world.specs.Splits.{CopiesIn, CopyAnswer, GatherAnswer, Gathers, GathersNone, MarksOn, SameGathered, Uncopies, UncopyAnswer, gather_key, last_copy, last_key, next_copy}
use Rattle.mi_world.specs.View.{Later, View}
use Rattle.mi_hall.specs.Knowledge.{IsShown, Knowledge, Knows, is_named, reading, view_by}
use Rattle.mi_hall.specs.Leading.{page_of_gather, page_of_put}
use Rattle.mi_hall.proofs.KnowledgeLemmas.{known}
use Rattle.mi_hall.proofs.DescentLemmas.{full_page, goes_down, goes_right, has_taken, is_reached}
use Rattle.mi_hall.proofs.PageRelations.{later_reading, reads, reads_by}
use Rattle.mi_hall.proofs.PartLemmas.{Quiet, actors_by, board_reading, flags_by, leaf_by, quiet_reading, sweep_by, tries_by, update_by}

module _ (v w : View) (n : Knowledge) (k : Knows v n) (names : List Named) (shows : AllByRecursion (IsShown w) names) (page : ℕ) (here : IsTrue (is_named n.pages page)) where
  abbrev m : Knowledge
  m = reading w names n

  quiet : Quiet n (reading w names n)
  quiet = quiet_reading v w n names

  -- the page that an answer names is known
  abbrev Names : Option ℕ → Type 0
  Names o = (p : ℕ) → o ≡ Some p → IsTrue (is_named (names ++ n.pages) p)

  gathered_by : SameGathered v w → SameGathered (view_by n v) (view_by (reading w names n) w)
  gathered_by x = record { splitting = x.splitting; mark = x.mark; whole = x.whole; copies = x.copies }

  none_by : GathersNone v w → GathersNone (view_by n v) (view_by (reading w names n) w)
  none_by x = record { splitting = x.splitting; mark = x.mark; gathered = x.gathered; copied = x.copied; whole = x.whole }

  module _ (l : Later v w) where
    i : Knows w (reading w names n)
    i = reads v w n k names shows page here l

    marks_by : (next : Option ℕ) → Names next → MarksOn w next → MarksOn (view_by (reading w names n) w) next
    marks_by None named x = x
    marks_by (Some p) named x = (x.0, x.1 ∙ (known w (names ++ n.pages) i.pages p (named p refl)).2)

    gather_answer : (result : Result Visit NoMemory) → Names (page_of_gather result) → GatherAnswer v w page result → GatherAnswer (view_by n v) (view_by (reading w names n) w) page result
    gather_answer (Ok (Down p)) named x = (none_by x.0, goes_down v w n m k i refl page here p (named p refl) 0 (gather_key v) x.1)
    gather_answer (Ok (Right p)) named x = (none_by x.0, goes_right v w n m k i refl page here p (named p refl) 0 (gather_key v) x.1)
    gather_answer (Ok (Read next)) named x =
        let g = x.0 in (
          record { splitting = g.splitting; marked = marks_by next named g.marked; more = g.more; gathered = g.gathered; few = g.few; copied = g.copied },
          is_reached v w n m k i refl page here 0 (gather_key v) x.1,
          reads_by v w n k names shows page here l (last_key v v.leaf) next named x.2,
        )
    gather_answer (Err e) named x = none_by x

    copy_answer : (result : Put) → Names (page_of_put result) → CopyAnswer v w page result → CopyAnswer (view_by n v) (view_by (reading w names n) w) page result
    copy_answer (put.Down p) named x = (x.0, goes_down v w n m k i refl page here p (named p refl) 0 (next_copy v) x.1)
    copy_answer (put.Right p) named x = (x.0, goes_right v w n m k i refl page here p (named p refl) 0 (next_copy v) x.1)
    copy_answer put.PageFull named x = (x.0, is_reached v w n m k i refl page here 0 (next_copy v) x.1, full_page v w n m refl page x.2)
    copy_answer put.Done named x = (x.0, is_reached v w n m k i refl page here 0 (next_copy v) x.1, has_taken v w n m refl page x.2)

    uncopy_answer : (result : Put) → result ≢ put.Done → Names (page_of_put result) → UncopyAnswer v w page result → UncopyAnswer (view_by n v) (view_by (reading w names n) w) page result
    uncopy_answer (put.Down p) other named x = (x.0, goes_down v w n m k i refl page here p (named p refl) 0 (last_copy v) x.1, flags_by v w n m x.2)
    uncopy_answer (put.Right p) other named x = (x.0, goes_right v w n m k i refl page here p (named p refl) 0 (last_copy v) x.1, flags_by v w n m x.2)
    uncopy_answer put.PageFull other named x = x
    uncopy_answer put.Done other named x = absurd (other refl)

  pub gathers_by : (result : Result Visit NoMemory) → Names (page_of_gather result) → Gathers v w page result → Gathers (view_by n v) (view_by (reading w names n) w) page result
  gathers_by result named x = record {
    later = later_reading v w n k names shows page here x.later;
    update = update_by v w n m x.update;
    leaf = leaf_by v w n m x.leaf;
    sweep = sweep_by v w n m x.sweep;
    flags = flags_by v w n m x.flags;
    actors = actors_by v w n m quiet;
    pin = x.pin;
    floor = x.floor;
    fresh = x.fresh;
    owes = x.owes;
    board = board_reading v w n names x.board;
    tries = tries_by v w n m quiet x.tries;
    page_is = x.page_is;
    answer = gather_answer x.later result named x.answer;
  }

  pub copies_in_by : (result : Put) → Names (page_of_put result) → CopiesIn v w page result → CopiesIn (view_by n v) (view_by (reading w names n) w) page result
  copies_in_by result named x = record {
    later = later_reading v w n k names shows page here x.later;
    update = update_by v w n m x.update;
    leaf = leaf_by v w n m x.leaf;
    sweep = sweep_by v w n m x.sweep;
    gathered = gathered_by x.gathered;
    flags = flags_by v w n m x.flags;
    actors = actors_by v w n m quiet;
    pin = x.pin;
    floor = x.floor;
    fresh = x.fresh;
    owes = x.owes;
    board = board_reading v w n names x.board;
    tries = tries_by v w n m quiet x.tries;
    page_is = x.page_is;
    answer = copy_answer x.later result named x.answer;
  }

  pub uncopies_on_by : (result : Put) → result ≢ put.Done → Names (page_of_put result) → Uncopies v w page result → Uncopies (view_by n v) (view_by (reading w names n) w) page result
  uncopies_on_by result other named x = record {
    later = later_reading v w n k names shows page here x.later;
    update = update_by v w n m x.update;
    leaf = leaf_by v w n m x.leaf;
    sweep = sweep_by v w n m x.sweep;
    gathered = gathered_by x.gathered;
    actors = actors_by v w n m quiet;
    pin = x.pin;
    floor = x.floor;
    fresh = x.fresh;
    owes = x.owes;
    board = board_reading v w n names x.board;
    tries = tries_by v w n m quiet x.tries;
    page_is = x.page_is;
    answer = uncopy_answer x.later result other named x.answer;
  }

  -- a copy was taken back: whether early, is by what this actor was told
  pub uncopies_done_by : (early : Bool) → early ≡ (v.early || not n.told) → Uncopies v w page put.Done
      → Uncopies (view_by n v) (view_by (reading w names n) (record w { early = early })) page put.Done
  uncopies_done_by early is x =
      let l = later_reading v w n k names shows page here x.later in
      let u : View = record w { early = early } in
      let reached = is_reached v w n m k (i x.later) refl page here 0 (last_copy v) x.answer.1 in
      record {
        later = record {
          settings = l.settings;
          actor = l.actor;
          grows = l.grows;
          few = l.few;
          lacked = l.lacked;
          told = l.told;
          named = l.named;
          level = l.level;
          low = l.low;
          least = l.least;
          tells_full = l.tells_full;
          allotted = l.allotted;
          given = l.given;
        };
        update = record { own = x.update.own; shard = x.update.shard; records = x.update.records; reserved = x.update.reserved };
        leaf = record { leaf = x.leaf.leaf; wanted = x.leaf.wanted };
        sweep = record { sweep = x.sweep.sweep; swept = x.sweep.swept };
        gathered = record { splitting = x.gathered.splitting; mark = x.gathered.mark; whole = x.gathered.whole; copies = x.gathered.copies };
        actors = record { absorbed = refl; forked = refl };
        pin = x.pin;
        floor = x.floor;
        fresh = x.fresh;
        owes = x.owes;
        board = record {
          seen = refl;
          lacked = x.board.lacked;
          told = refl;
          note = record { allotted = refl; holder = refl; pins = refl; given = refl; retired = refl; passed = refl; root = refl; height = refl };
        };
        tries = record { tried = x.tries.tried; found = refl };
        page_is = x.page_is;
        answer = (x.answer.0, record { reached = reached.reached; below_high = reached.below_high }, x.answer.2, is);
      }

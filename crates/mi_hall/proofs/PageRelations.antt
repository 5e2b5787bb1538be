-- Sections of pages, as one has them who knows a part of what all share.
use Rattle.std.proofs.Common.{◌≡◌, ℕ, ◌<◌, ◌^◌, ◌++◌, List, IsTrue, refl, sym, ap, ◌∙◌, subst, arith, Option, Some, None}
use Rattle.std.specs.List.{AllByRecursion}
use Rattle.std.proofs.lemmas.Bool.{false≢true}
use Rattle.mi_core.specs.Named.{Named}
use Rattle.mi_key.specs.declared.ranges.Interval.{Interval}
use Rattle.mi_key.specs.Shown.{below, from_on, offerings, within}
use Rattle.mi_world.specs.declared.answers.Parted.{Parted}
use Rattle.mi_world.specs.declared.answers.Parted.TheVariants.{Parted as HasParted, Roomy}
use Rattle.mi_world.specs.declared.answers.Put.{Put}
use Rattle.mi_world.specs.declared.answers.Put.TheVariants as put
use Rattle.mi_world.specs.declared.answers.Visit.{Visit}
use Rattle.mi_world.specs.declared.answers.Visit.TheVariants.{Down, Right, Read}
use Rattle.mi_world.specs.LeafKeys.{shown}
use Rattle.mi_world.specs.Pages.{PartAnswer, PartsPage, PostAnswer, Posts, ReadsTo, TrimAnswer, Trims, VisitAnswer, Visits, offered_by, pinned}
use Rattle.mi_world.specs.Splits.{SweepAnswer, Sweeps, SweptTo, last_key}
use Rattle.mi_world.specs.View.{Later, View}
use Rattle.mi_hall.specs.Knowledge.{IsShown, Knowledge, Knows, is_named, reading, view_by}
use Rattle.mi_hall.specs.Leading.{page_of_half, page_of_put, page_of_visit}
use Rattle.mi_hall.proofs.KnowledgeLemmas.{knows_reading, known, later_by, learns_reading}
use Rattle.mi_hall.proofs.DescentLemmas.{full_page, goes_down, goes_right, has_taken, is_reached, reads_none, reads_some}
use Rattle.mi_hall.proofs.PartLemmas.{Quiet, actors_by, board_reading, flags_by, leaf_by, own_by, quiet_reading, split_by, sweep_by, tries_by, update_by, work_by}

-- a section of a page that is known, which notes it as w shows it and names these pages
module _ (v w : View) (n : Knowledge) (k : Knows v n) (names : List Named) (shows : AllByRecursion (IsShown w) names) (page : ℕ) (here : IsTrue (is_named n.pages page)) where
  abbrev m : Knowledge
  m = reading w names n

  quiet : Quiet n (reading w names n)
  quiet = quiet_reading v w n names

  -- the page that an answer names is known
  abbrev Names : Option ℕ → Type 0
  Names o = (p : ℕ) → o ≡ Some p → IsTrue (is_named (names ++ n.pages) p)

  module _ (l : Later v w) where
    pub reads : Knows w (reading w names n)
    reads = knows_reading v w n k l names shows

    pub later_reading : Later (view_by n v) (view_by (reading w names n) w)
    later_reading = later_by v w n (reading w names n) k reads (learns_reading v w n k l names shows) l

    pub reads_by : (to : ℕ) (next : Option ℕ) → Names next → ReadsTo v w page to next → ReadsTo (view_by n v) (view_by (reading w names n) w) page to next
    reads_by to None named x = reads_none v w n m k reads refl page here to x
    reads_by to (Some p) named x = reads_some v w n m k reads refl page here p (named p refl) to x

    visit_answer : (range : Interval) (result : Visit) → Names (page_of_visit result) → VisitAnswer v w page range result → VisitAnswer (view_by n v) (view_by (reading w names n) w) page range result
    visit_answer range (Down p) named x = goes_down v w n m k reads refl page here p (named p refl) 0 range.from x
    visit_answer range (Right p) named x = goes_right v w n m k reads refl page here p (named p refl) 0 range.from x
    visit_answer range (Read next) named x = (is_reached v w n m k reads refl page here 0 range.from x.0, reads_by range.to next named x.1)

    post_answer : (level key child : ℕ) (result : Put) → Names (page_of_put result) → PostAnswer v w page level key child result → PostAnswer (view_by n v) (view_by (reading w names n) w) page level key child result
    post_answer level key child (put.Down p) named x = (x.0, goes_down v w n m k reads refl page here p (named p refl) level key x.1)
    post_answer level key child (put.Right p) named x = (x.0, goes_right v w n m k reads refl page here p (named p refl) level key x.1)
    post_answer level key child put.PageFull named x = (x.0, is_reached v w n m k reads refl page here level key x.1, full_page v w n m refl page x.2)
    post_answer level key child put.Done named x = (x.0, is_reached v w n m k reads refl page here level key x.1, has_taken v w n m refl page x.2)

    part_answer : (result : Parted) → Names (page_of_half result) → PartAnswer v w page result → PartAnswer (view_by n v) (view_by (reading w names n) w) page result
    part_answer (HasParted key child) named x =
        let here_is = known v n.pages k.pages page here in
        let child_is = known w (names ++ n.pages) reads.pages child (named child refl) in
        (x.0, x.1, named child refl, sym child_is.1 ∙ x.3 ∙ here_is.1, sym child_is.2 ∙ x.4, subst (λ low. low < key) here_is.2 x.5, x.6, x.7, x.8, λ e. absurd (false≢true e))
    part_answer Roomy named x = (x.0, x.1, x.2, λ e. absurd (false≢true e))

    trim_answer : (result : Visit) → Names (page_of_visit result) → TrimAnswer v w page result → TrimAnswer (view_by n v) (view_by (reading w names n) w) page result
    trim_answer (Down p) named x = x
    trim_answer (Right p) named x = x
    trim_answer (Read None) named x = x
    trim_answer (Read (Some p)) named x =
        let low_is = (known v n.pages k.pages page here).2 in
        let p_is = known w (names ++ n.pages) reads.pages p (named p refl) in
        (named p refl, sym p_is.1 ∙ x.1, (let less = x.2 in omega (arith, low_is, p_is.2)), subst (λ low. low < 2 ^ 128) p_is.2 x.3, x.4 ∙ ap Some p_is.2)

    swept_to_by : (next : Option ℕ) → Names next → SweptTo v w next → SweptTo (view_by n v) (view_by (reading w names n) w) next
    swept_to_by None named x = x
    swept_to_by (Some p) named x = (x.0, x.1 ∙ (known w (names ++ n.pages) reads.pages p (named p refl)).2)

    sweep_answer : (result : Visit) → Names (page_of_visit result) → SweepAnswer v w page result → SweepAnswer (view_by n v) (view_by (reading w names n) w) page result
    sweep_answer (Down p) named x = (sweep_by v w n m x.0, goes_down v w n m k reads refl page here p (named p refl) 0 v.swept x.1)
    sweep_answer (Right p) named x = (sweep_by v w n m x.0, goes_right v w n m k reads refl page here p (named p refl) 0 v.swept x.1)
    sweep_answer (Read next) named x = (swept_to_by next named x.0, is_reached v w n m k reads refl page here 0 v.swept x.1, reads_by (last_key v v.sweep) next named x.2)

    -- what a visit offers is the same
    pub same_offers : (range : Interval) (result : Visit) → Names (page_of_visit result) → offered_by (view_by n v) (view_by (reading w names n) w) page range result ≡ offered_by v w page range result
    same_offers range (Down p) named = refl
    same_offers range (Right p) named = refl
    same_offers range (Read None) named = ap (λ low. offerings (from_on low (within range (shown v.settings (pinned v))))) (sym (known v n.pages k.pages page here).2)
    same_offers range (Read (Some p)) named =
        ap (λ low. offerings (below low (from_on ((view_by n v).low page) (within range (shown v.settings (pinned v)))))) (sym (known w (names ++ n.pages) reads.pages p (named p refl)).2)
        ∙ ap (λ low. offerings (below (w.low p) (from_on low (within range (shown v.settings (pinned v)))))) (sym (known v n.pages k.pages page here).2)

  pub visits_by : (range : Interval) (result : Visit) → Names (page_of_visit result) → Visits v w page range result → Visits (view_by n v) (view_by (reading w names n) w) page range result
  visits_by range result named x = record {
    later = later_reading x.later;
    same = own_by v w n m quiet x.same;
    floor = x.floor;
    board = board_reading v w n names x.board;
    tries = tries_by v w n m quiet x.tries;
    page_is = x.page_is;
    answer = visit_answer x.later range result named x.answer;
  }

  pub posts_by : (level key child : ℕ) (result : Put) → Names (page_of_put result) → Posts v w page level key child result → Posts (view_by n v) (view_by (reading w names n) w) page level key child result
  posts_by level key child result named x = record {
    later = later_reading x.later;
    work = work_by v w n m quiet x.work;
    floor = x.floor;
    fresh = x.fresh;
    board = board_reading v w n names x.board;
    tries = tries_by v w n m quiet x.tries;
    page_is = x.page_is;
    answer = post_answer x.later level key child result named x.answer;
  }

  pub parts_page_by : (result : Parted) → Names (page_of_half result) → PartsPage v w page result → PartsPage (view_by n v) (view_by (reading w names n) w) page result
  parts_page_by result named x = record {
    later = later_reading x.later;
    work = work_by v w n m quiet x.work;
    floor = x.floor;
    board = board_reading v w n names x.board;
    tries = tries_by v w n m quiet x.tries;
    page_is = x.page_is;
    answer = part_answer x.later result named x.answer;
  }

  pub trims_by : (result : Visit) → Names (page_of_visit result) → Trims v w page result → Trims (view_by n v) (view_by (reading w names n) w) page result
  trims_by result named x = record {
    later = later_reading x.later;
    same = own_by v w n m quiet x.same;
    floor = x.floor;
    board = board_reading v w n names x.board;
    tries = tries_by v w n m quiet x.tries;
    page_is = x.page_is;
    answer = trim_answer x.later result named x.answer;
  }

  pub sweeps_by : (result : Visit) → Names (page_of_visit result) → Sweeps v w page result → Sweeps (view_by n v) (view_by (reading w names n) w) page result
  sweeps_by result named x = record {
    later = later_reading x.later;
    update = update_by v w n m x.update;
    leaf = leaf_by v w n m x.leaf;
    split = split_by v w n m x.split;
    flags = flags_by v w n m x.flags;
    actors = actors_by v w n m quiet;
    pin = x.pin;
    floor = x.floor;
    fresh = x.fresh;
    owes = x.owes;
    board = board_reading v w n names x.board;
    tries = tries_by v w n m quiet x.tries;
    page_is = x.page_is;
    answer = sweep_answer x.later result named x.answer;
  }

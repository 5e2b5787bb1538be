-- Sweeps and trims.
use Rattle.std.proofs.Common.{◌≡◌, ℕ, List, ◌+◌, ◌≤◌, ◌==◌, false, cond, refl, sym, ap, ◌∙◌, subst, arith, Option, Some, None, set, get_or-set_same}
use Rattle.std.specs.Prelude.{slice_get}
use Rattle.std.proofs.lemmas.Bool.{eq-eqb, le-ltb, ne_eqb}
use Rattle.mi_base.specs.Configuration.{Configuration}
use Rattle.mi_page.specs.Keys.{IsInside, is_below}
use Rattle.mi_page.specs.Nodes.{Node}
use Rattle.mi_entries.specs.Actors.{Actor, SweepWork}
use Rattle.mi_entries.specs.Entries.{grid}
use Rattle.mi_entries.specs.Marks.{cell_end, cell_range}
use Rattle.mi_core.specs.Effects.{sweep_node, trim_node}
use Rattle.mi_core.specs.Events.{Can, after, sweep_leaf, sweep_next}
use Rattle.mi_core.specs.Events.Event.{sweep, trim, visit}
use Rattle.mi_core.specs.Kept.{Kept}
use Rattle.mi_core.specs.Pages.{node_or_fresh}
use Rattle.mi_core.specs.State.{State, node_at}
use Rattle.mi_core.proofs.ActorLemmas.{set_there}
use Rattle.mi_core.proofs.PageLemmas.{within}
use Rattle.mi_world.specs.declared.answers.Visit.{Visit}
use Rattle.mi_world.specs.declared.answers.Visit.TheVariants.{Down, Right, Read}
use Rattle.mi_world.specs.Pages.{IsReached, TrimAnswer, Trims}
use Rattle.mi_world.specs.Splits.{SweepAnswer, Sweeps, last_key}
use Rattle.mi_world.specs.LeafKeys.{greatest_key}
use Rattle.mi_world.specs.View.{Later, View, prefix_or}
use Rattle.mi_solo.specs.Onward.{Makes}
use Rattle.mi_solo.specs.Seeking.{EndsAfter, PointsDown, PointsRight, ReadsOn, TrimsTo}
use Rattle.mi_solo.specs.Viewing.{shown_to, swept_leaf, swept_to}
use Rattle.mi_solo.proofs.DescentLemmas.{goes_down, goes_right, is_reached, reads_to}
use Rattle.mi_solo.proofs.LaterLemmas.{onward}
use Rattle.mi_solo.proofs.MarkLemmas.{end_is, mark_ends, mark_on}
use Rattle.mi_solo.proofs.OwnLemmas.{later_own, made}
use Rattle.mi_solo.proofs.QuietLemmas.{board_by, leaf_by, same_board, same_own, same_tries, tries_by, update_by}
use Rattle.mi_solo.proofs.SectionLemmas.{split_by}

-- a sweep changes no more of its actor's record than how far it has come, and the page noted
module _ (s : State) (pages : List (Option Node)) (actors : List Actor) (a : ℕ) (r : Actor) (page : ℕ) (o : Option SweepWork) where
  abbrev t : State
  t = record { board = s.board; shards = s.shards; pages = pages; actors = actors }

  abbrev q : Actor
  q = record r { page = page; sweep = o }

  abbrev w : View
  w = shown_to (record { board = s.board; shards = s.shards; pages = pages; actors = actors }) a (record r { page = page; sweep = o })

  sweeps_by : Later (shown_to s a r) w → (result : Visit) → SweepAnswer (shown_to s a r) w page result → Sweeps (shown_to s a r) w page result
  sweeps_by later result answer = record {
    later = later;
    update = update_by s t a r q refl refl refl refl;
    leaf = leaf_by s t a r q refl refl;
    split = split_by s t a r q refl refl;
    flags = record { undone = refl; early = refl };
    actors = record { absorbed = refl; forked = refl };
    pin = refl;
    floor = refl;
    fresh = refl;
    owes = refl;
    board = board_by s t a r q refl refl;
    tries = tries_by s t a r q refl refl;
    page_is = refl;
    answer = answer;
  }

module _ (s : State) (k : Kept s) (a : ℕ) (r : Actor) (there : slice_get s.actors a ≡ Some r) (going : r.ended ≡ false) (page : ℕ) (node : Node) where
  abbrev v : View
  v = shown_to s a r

  abbrev c : Configuration
  c = s.board.settings

  abbrev qv : Actor
  qv = record r { page = page }

  -- a leaf page is trimmed
  module _ (can : Can s a r (trim page node)) where
    abbrev tt' : State
    tt' = after s a r (trim page node)

    abbrev wt : View
    wt = shown_to (after s a r (trim page node)) a (record r { page = page })

    trimmed : node_at (set s.pages page (Some (trim_node r.floor.updates node))) page ≡ Some (trim_node r.floor.updates node)
    trimmed = get_or-set_same s.pages page (Some (trim_node r.floor.updates node)) None (within s.pages page node can.there)

    high_t : (node_or_fresh (node_at (set s.pages page (Some (trim_node r.floor.updates node))) page)).high ≡ node.high
    high_t = ap (λ o. (node_or_fresh o).high) trimmed

    trims_by : (result : Visit) → TrimAnswer v wt page result → Trims v wt page result
    trims_by result answer = record {
      later = later_own s k a r there going (trim page node) can qv (set_there s.actors a qv r there);
      same = same_own s tt'.pages tt'.actors a r page;
      floor = refl;
      board = same_board s tt'.pages tt'.actors a r r.seen page r.fresh r.owed;
      tries = same_tries s tt'.pages tt'.actors a r r.seen page r.fresh r.owed;
      page_is = refl;
      answer = answer;
    }

    pub trims : (next : Option ℕ) → TrimsTo node next → Trims v wt page (Read next)
    trims None x = trims_by (Read None) (high_t ∙ x)
    trims (Some p) x =
        let on = reads_to s k tt' (onward s k a r there (trim page node) can) a r qv page node can.there high_t x.0 (Some p) can.level
        (record { past = ap (λ o. is_below o x.0) x.1 ∙ le-ltb x.0 x.0 (omega arith); right = x.2; small = x.3 }) in
        trims_by (Read (Some p)) (on.0, on.1, on.3, on.4, on.5)

  -- no entries are taken off
  module _ (here : node_at s.pages page ≡ Some node) (can : Can s a r (visit page)) where
    abbrev tv : State
    tv = after s a r (visit page)

    abbrev wv : View
    wv = shown_to (after s a r (visit page)) a (record r { page = page })

    high_v : (node_or_fresh (node_at s.pages page)).high ≡ node.high
    high_v = ap (λ o. (node_or_fresh o).high) here

    sweeps_not : (result : Visit) → SweepAnswer v wv page result → Sweeps v wv page result
    sweeps_not result answer = sweeps_by s s.pages (set s.actors a qv) a r page r.sweep (later_own s k a r there going (visit page) can qv (set_there s.actors a qv r there)) result answer

    pub sweep_down : (child : ℕ) → PointsDown node 0 v.swept child → Sweeps v wv page (Down child)
    sweep_down child x = sweeps_not (Down child) (record { sweep = refl; swept = refl }, goes_down s k tv (onward s k a r there (visit page) can) a r qv page node here high_v 0 v.swept child x)

    pub sweep_right : (next : ℕ) → PointsRight node 0 v.swept next → Sweeps v wv page (Right next)
    sweep_right next x = sweeps_not (Right next) (record { sweep = refl; swept = refl }, goes_right s k tv (onward s k a r there (visit page) can) a r qv page node here high_v 0 v.swept next x)

  -- the entries of the leaf are taken off
  module _ (can : Can s a r (sweep page node)) where
    abbrev ts : State
    ts = after s a r (sweep page node)

    abbrev qs : Actor
    qs = record r { page = page; sweep = sweep_next s.board.settings node r.sweep }

    abbrev ws : View
    ws = shown_to (after s a r (sweep page node)) a (record r { page = page; sweep = sweep_next s.board.settings node r.sweep })

    abbrev x : SweepWork
    x = can.1

    sweeping : r.sweep ≡ Some can.1
    sweeping = can.2

    swept : node_at (set s.pages page (Some (sweep_node (cell_range (grid s.board.settings) (sweep_leaf r.sweep)) node))) page ≡ Some (sweep_node (cell_range (grid s.board.settings) (sweep_leaf r.sweep)) node)
    swept = get_or-set_same s.pages page (Some (sweep_node (cell_range (grid s.board.settings) (sweep_leaf r.sweep)) node)) None (within s.pages page node can.0.there)

    high_s : (node_or_fresh (node_at (set s.pages page (Some (sweep_node (cell_range (grid s.board.settings) (sweep_leaf r.sweep)) node))) page)).high ≡ node.high
    high_s = ap (λ o. (node_or_fresh o).high) swept

    last_is : cell_end (grid s.board.settings) x.leaf ≡ last_key v v.sweep + 1
    last_is = end_is c x.leaf ∙ ap (λ o. greatest_key c (prefix_or (swept_leaf o)) + 1) (sym sweeping)

    sweeps_read : (next : Option ℕ) → SweepAnswer v ws page (Read next) → Sweeps v ws page (Read next)
    sweeps_read next answer = sweeps_by s ts.pages ts.actors a r page (sweep_next s.board.settings node r.sweep) (later_own s k a r there going (sweep page node) can qs (set_there s.actors a qs r there)) (Read next) answer

    reached : IsReached v ws page 0 v.swept
    reached = is_reached s k ts (onward s k a r there (sweep page node) can) a r qs page node can.0.there high_s 0 v.swept
        (record { level = can.0.level; under = ap (λ o. is_below node.high (swept_to o)) sweeping ∙ can.3.below_high })

    pub sweeps : (next : Option ℕ) → ReadsOn node (last_key v v.sweep) next → Sweeps v ws page (Read next)
    sweeps None ends = sweeps_read None (
      ap (λ o. swept_leaf (sweep_next c node o)) sweeping
          ∙ ap (λ m. swept_leaf (cond (m == cell_end (grid c) x.leaf) None (Some (record x { mark = m })))) (mark_ends node.high (last_key v v.sweep) (cell_end (grid c) x.leaf) last_is ends)
          ∙ (rw (eq-eqb (cell_end (grid c) x.leaf) (cell_end (grid c) x.leaf) refl) refl),
      reached,
      reads_to s k ts (onward s k a r there (sweep page node) can) a r qs page node can.0.there high_s (last_key v v.sweep) None can.0.level ends,
    )
    sweeps (Some next) e =
        let on = reads_to s k ts (onward s k a r there (sweep page node) can) a r qs page node can.0.there high_s (last_key v v.sweep) (Some next) can.0.level e in
        let m = mark_on node.high (ws.low next) (last_key v v.sweep) (cell_end (grid c) x.leaf) last_is (sym high_s ∙ on.5) e.past in
        let lt = m.1 in
        let next_work : sweep_next c node r.sweep ≡ Some (record x { mark = ws.low next }) =
        ap (sweep_next c node) sweeping ∙ ap (λ n. cond (n == cell_end (grid c) x.leaf) None (Some (record x { mark = n }))) m.0 ∙ (rw (ne_eqb (ws.low next) (cell_end (grid c) x.leaf) (λ same. omega arith)) refl) in
        sweeps_read (Some next) ((ap swept_leaf next_work ∙ sym (ap swept_leaf sweeping), ap swept_to next_work), reached, on)

-- when it may be an event
pub can_sweep : (s : State) (a : ℕ) (r : Actor) (page : ℕ) (node : Node) → node_at s.pages page ≡ Some node → (w : SweepWork) → r.sweep ≡ Some w
    → (shown_to s a r).low page ≤ (shown_to s a r).swept → EndsAfter node 0 (shown_to s a r).swept → Can s a r (sweep page node)
can_sweep s a r page node here w is low e = (
  record { there = here; level = e.level },
  w,
  is,
  subst (IsInside node.low node.high) (ap swept_to is) (record { from_low = omega (arith, ap (λ o. (node_or_fresh o).low) here, low); below_high = e.under }),
)

-- the same, of each event
module _ (page : ℕ) (node : Node) where
  pub trims_on : (next : Option ℕ) → Makes (trim page node) (λ s v w. TrimsTo node next → Trims v w page (Read next))
  trims_on next = made (trim page node) (λ s v w. TrimsTo node next → Trims v w page (Read next))
      (λ s k a r there going can. (_, set_there s.actors a (record r { page = page }) r there, λ x. trims s k a r there going page node can next x))

  pub sweeps_down : (child : ℕ) → Makes (visit page) (λ s v w. node_at s.pages page ≡ Some node → PointsDown node 0 v.swept child → Sweeps v w page (Down child))
  sweeps_down child = made (visit page) (λ s v w. node_at s.pages page ≡ Some node → PointsDown node 0 v.swept child → Sweeps v w page (Down child))
      (λ s k a r there going can. (_, set_there s.actors a (record r { page = page }) r there, λ here x. sweep_down s k a r there going page node here can child x))

  pub sweeps_right : (next : ℕ) → Makes (visit page) (λ s v w. node_at s.pages page ≡ Some node → PointsRight node 0 v.swept next → Sweeps v w page (Right next))
  sweeps_right next = made (visit page) (λ s v w. node_at s.pages page ≡ Some node → PointsRight node 0 v.swept next → Sweeps v w page (Right next))
      (λ s k a r there going can. (_, set_there s.actors a (record r { page = page }) r there, λ here x. sweep_right s k a r there going page node here can next x))

  pub sweeps_on : (next : Option ℕ) → Makes (sweep page node) (λ s v w. ReadsOn node (last_key v v.sweep) next → Sweeps v w page (Read next))
  sweeps_on next = made (sweep page node) (λ s v w. ReadsOn node (last_key v v.sweep) next → Sweeps v w page (Read next))
      (λ s k a r there going can. (_, set_there s.actors a (record r { page = page; sweep = sweep_next s.board.settings node r.sweep }) r there, λ x. sweeps s k a r there going page node can next x))

-- What is gathered of a leaf.
use Rattle.std.proofs.Common.{◌≡◌, ℕ, ◌+◌, ◌≤◌, List, [], ◌++◌, length, map, false, cond, refl, sym, ap, ◌∙◌, subst, arith, Option, Some, None, is_some, set}
use Rattle.std.specs.Prelude.{slice_get, Result, Ok, Err}
use Rattle.std.proofs.lemmas.Bool.{le-leb, lt-leb}
use Rattle.std.proofs.lemmas.List.{length-map}
use Rattle.std.proofs.lemmas.Option.{same_Some}
use Rattle.mi_base.specs.declared.records.LogEvent.{LogEvent}
use Rattle.mi_base.specs.declared.records.LogEvent.TheVariants.{Split}
use Rattle.mi_base.specs.declared.refusals.NoMemory.{NoMemory}
use Rattle.mi_base.specs.Configuration.{Configuration}
use Rattle.mi_page.specs.Keys.{IsInside, is_below}
use Rattle.mi_page.specs.Nodes.{Node}
use Rattle.mi_tree.specs.Cells.{Grid}
use Rattle.mi_tree.specs.Legal.{MayFollow}
use Rattle.mi_entries.specs.Actors.{Actor, SplitWork}
use Rattle.mi_entries.specs.Entries.{grid}
use Rattle.mi_entries.specs.Marks.{cell_end, cell_start, gather_more, mark_past, split_or}
use Rattle.mi_entries.specs.Marks as marks
use Rattle.mi_entries.specs.Splits.{copy_in_child}
use Rattle.mi_core.specs.Events.{Can, after, copied_of, leaf_or, with_split_at}
use Rattle.mi_core.specs.Events.Event.{gather, start}
use Rattle.mi_core.specs.Kept.{Kept}
use Rattle.mi_core.specs.Pages.{node_or_fresh}
use Rattle.mi_core.specs.State.{State, node_at, put_actor}
use Rattle.mi_core.proofs.ActorLemmas.{set_there}
use Rattle.mi_core.proofs.KeptEvents.{each_keeps}
use Rattle.mi_world.specs.declared.answers.Visit.{Visit}
use Rattle.mi_world.specs.declared.answers.Visit.TheVariants.{Down, Right, Read}
use Rattle.mi_world.specs.Pages.{IsReached}
use Rattle.mi_world.specs.Splits.{GatherAnswer, Gathers, GathersNone, MayGather, copied_in, copies_in, first_key, gather_key, last_key, whole_in}
use Rattle.mi_world.specs.View.{Later, View, prefix_or}
use Rattle.mi_solo.specs.Onward.{Makes}
use Rattle.mi_solo.specs.Seeking.{EndsAfter, PointsDown, PointsRight, ReadsOn}
use Rattle.mi_solo.specs.Viewing.{copy_keys, gathered_to, is_whole, leaf_wanted, shown_to}
use Rattle.mi_solo.proofs.DescentLemmas.{goes_down, goes_right, is_reached, reads_to}
use Rattle.mi_solo.proofs.LaterLemmas.{onward}
use Rattle.mi_solo.proofs.KeyLemmas.{gathered_few}
use Rattle.mi_solo.proofs.MarkLemmas.{end_is, map_more, mark_ends, mark_on, start_before}
use Rattle.mi_solo.proofs.OwnLemmas.{later_own, made}
use Rattle.mi_solo.proofs.QuietLemmas.{board_by, leaf_by, tries_by, update_by}

-- a gather changes its actor's split alone, and the page noted
gathers_by : (s : State) (a : ℕ) (r : Actor) (page : ℕ) (w : SplitWork) → Later (shown_to s a r) (shown_to (put_actor a (with_split_at (Some w) page r) s) a (with_split_at (Some w) page r))
    → (result : Result Visit NoMemory) → GatherAnswer (shown_to s a r) (shown_to (put_actor a (with_split_at (Some w) page r) s) a (with_split_at (Some w) page r)) page result
    → Gathers (shown_to s a r) (shown_to (put_actor a (with_split_at (Some w) page r) s) a (with_split_at (Some w) page r)) page result
gathers_by s a r page w later result answer =
    let q : Actor = with_split_at (Some w) page r in
    let t : State = put_actor a q s in
    record {
      later = later;
      update = update_by s t a r q refl refl refl refl;
      leaf = leaf_by s t a r q refl refl;
      sweep = record { sweep = refl; swept = refl };
      flags = record { undone = refl; early = refl };
      actors = record { absorbed = refl; forked = refl };
      pin = refl;
      floor = refl;
      fresh = refl;
      owes = refl;
      board = board_by s t a r q refl refl;
      tries = tries_by s t a r q refl refl;
      page_is = refl;
      answer = answer;
    }

module _ (s : State) (k : Kept s) (a : ℕ) (r : Actor) (there : slice_get s.actors a ≡ Some r) (going : r.ended ≡ false) (page : ℕ) where
  abbrev v : View
  v = shown_to s a r

  abbrev c : Configuration
  c = s.board.settings

  abbrev g : Grid
  g = grid s.board.settings

  abbrev log : List LogEvent
  log = s.board.log

  -- the split as it stands, or as it begins
  module _ (p : List ℕ) (claim : r.claim ≡ Some p) where
    abbrev W : SplitWork
    W = split_or (grid s.board.settings) (leaf_or r.claim) r.split

    prefix_is : leaf_or r.claim ≡ prefix_or r.claim
    prefix_is = ap leaf_or claim ∙ sym (ap prefix_or claim)

    pub mark_is : W.mark ≡ gather_key v
    mark_is = go r.split
      where
        go : (o : Option SplitWork) → (split_or g (leaf_or r.claim) o).mark ≡ cond (is_some o) (gathered_to o) (first_key v v.leaf)
        go None = ap (cell_start g) prefix_is
        go (Some w) = refl

    copies_are : copy_keys c (Some W) ≡ copies_in v
    copies_are = go r.split
      where
        go : (o : Option SplitWork) → copy_keys c (Some (split_or g (leaf_or r.claim) o)) ≡ cond (is_some o) (copy_keys c o) []
        go None = refl
        go (Some w) = refl

    copied_is : W.copied ≡ copied_in v
    copied_is = go r.split
      where
        go : (o : Option SplitWork) → (split_or g (leaf_or r.claim) o).copied ≡ cond (is_some o) (copied_of o) 0
        go None = refl
        go (Some w) = refl

    whole_is : is_whole c (Some W) ≡ whole_in v
    whole_is = go r.split
      where
        go : (o : Option SplitWork) → is_whole c (Some (split_or g (leaf_or r.claim) o)) ≡ cond (is_some o) (is_whole c o) false
        go None = lt-leb (cell_end g (leaf_or r.claim)) (cell_start g (leaf_or r.claim)) (start_before g (leaf_or r.claim))
        go (Some w) = refl

    pub leaf_is : W.leaf ≡ leaf_or r.claim
    leaf_is = go r.split (λ w e. ap leaf_or (sym ((k.sound.each a r there).holds.split w e)))
      where
        go : (o : Option SplitWork) → ((w : SplitWork) → o ≡ Some w → w.leaf ≡ leaf_or r.claim) → (split_or g (leaf_or r.claim) o).leaf ≡ leaf_or r.claim
        go None h = refl
        go (Some w) h = h w refl

    -- nothing is gathered
    module _ (can : Can s a r (start page)) where
      abbrev qs : Actor
      qs = with_split_at (Some (split_or (grid s.board.settings) (leaf_or r.claim) r.split)) page r

      abbrev ws : View
      ws = shown_to (after s a r (start page)) a (with_split_at (Some (split_or (grid s.board.settings) (leaf_or r.claim) r.split)) page r)

      now : slice_get (set s.actors a (with_split_at (Some (split_or (grid s.board.settings) (leaf_or r.claim) r.split)) page r)) a ≡ Some (with_split_at (Some (split_or (grid s.board.settings) (leaf_or r.claim) r.split)) page r)
      now = set_there s.actors a qs r there

      none : GathersNone v ws
      none = record { splitting = refl; mark = mark_is; gathered = copies_are; copied = copied_is; whole = whole_is }

      gathers_none : (result : Result Visit NoMemory) → GatherAnswer v ws page result → Gathers v ws page result
      gathers_none result answer = gathers_by s a r page W (later_own s k a r there going (start page) can qs now) result answer

      pub gather_memory : (e : NoMemory) → Gathers v ws page (Err e)
      gather_memory e = gathers_none (Err e) none

      module _ (node : Node) (here : node_at s.pages page ≡ Some node) where
        pub gather_down : (child : ℕ) → PointsDown node 0 (gather_key v) child → Gathers v ws page (Ok (Down child))
        gather_down child x = gathers_none (Ok (Down child)) (none, goes_down s k (after s a r (start page)) (onward s k a r there (start page) can) a r qs page node here (ap (λ o. (node_or_fresh o).high) here) 0 (gather_key v) child x)

        pub gather_right : (next : ℕ) → PointsRight node 0 (gather_key v) next → Gathers v ws page (Ok (Right next))
        gather_right next x = gathers_none (Ok (Right next)) (none, goes_right s k (after s a r (start page)) (onward s k a r there (start page) can) a r qs page node here (ap (λ o. (node_or_fresh o).high) here) 0 (gather_key v) next x)

    -- what the page has of the leaf is gathered
    module _ (node : Node) (can : Can s a r (gather page node)) where
      abbrev G : SplitWork
      G = gather_more (grid s.board.settings) (split_or (grid s.board.settings) (leaf_or r.claim) r.split) node

      abbrev t : State
      t = after s a r (gather page node)

      abbrev qg : Actor
      qg = with_split_at (Some (gather_more (grid s.board.settings) (split_or (grid s.board.settings) (leaf_or r.claim) r.split) node)) page r

      abbrev wg : View
      wg = shown_to (after s a r (gather page node)) a (with_split_at (Some (gather_more (grid s.board.settings) (split_or (grid s.board.settings) (leaf_or r.claim) r.split) node)) page r)

      now_g : slice_get (set s.actors a (with_split_at (Some (gather_more (grid s.board.settings) (split_or (grid s.board.settings) (leaf_or r.claim) r.split) node)) page r)) a
          ≡ Some (with_split_at (Some (gather_more (grid s.board.settings) (split_or (grid s.board.settings) (leaf_or r.claim) r.split) node)) page r)
      now_g = set_there s.actors a qg r there

      k' : Kept (after s a r (gather page node))
      k' = each_keeps (gather page node) s k a r there going can

      few : length wg.copies ≤ 200000
      few = omega (arith, length-map G.gathered (λ e. (copy_in_child g G.leaf e).key), gathered_few t k' a qg now_g G refl)

      more : wg.copies ≡ copies_in v ++ map (λ e. (copy_in_child g W.leaf e).key) (marks.gathered_in g W node)
      more = map_more (λ e. (copy_in_child g W.leaf e).key) W.gathered (marks.gathered_in g W node) ∙ ap (λ ks. ks ++ map (λ e. (copy_in_child g W.leaf e).key) (marks.gathered_in g W node)) copies_are

      last_is : cell_end g W.leaf ≡ last_key v v.leaf + 1
      last_is = ap (cell_end g) (leaf_is ∙ prefix_is) ∙ end_is c (prefix_or r.claim)

      ends : EndsAfter node 0 (gather_key v)
      ends = record {
        level = can.0.level;
        under = ap (is_below node.high) (sym mark_is ∙ ap (λ n. (split_or g n r.split).mark) (ap leaf_or claim ∙ same_Some p can.1 (sym claim ∙ can.2))) ∙ can.4.below_high;
      }

      gathers_page : (next : Option ℕ) → GatherAnswer v wg page (Ok (Read next)) → Gathers v wg page (Ok (Read next))
      gathers_page next answer = gathers_by s a r page G (later_own s k a r there going (gather page node) can qg now_g) (Ok (Read next)) answer

      high_is : (node_or_fresh (node_at s.pages page)).high ≡ node.high
      high_is = ap (λ o. (node_or_fresh o).high) can.0.there

      reached : IsReached v wg page 0 (gather_key v)
      reached = is_reached s k t (onward s k a r there (gather page node) can) a r qg page node can.0.there high_is 0 (gather_key v) ends

      pub gather_page : (next : Option ℕ) → ReadsOn node (last_key v v.leaf) next → Gathers v wg page (Ok (Read next))
      gather_page None x =
          let m = mark_ends node.high (last_key v v.leaf) (cell_end g W.leaf) last_is x in
          gathers_page None (
            record {
              splitting = refl;
              marked = (le-leb (cell_end g W.leaf) (mark_past node.high (cell_end g W.leaf)) (omega (arith, m)), omega (arith, m, last_is));
              more = map (λ e. (copy_in_child g W.leaf e).key) (marks.gathered_in g W node);
              gathered = more;
              few = few;
              copied = copied_is;
            },
            reached,
            reads_to s k t (onward s k a r there (gather page node) can) a r qg page node can.0.there high_is (last_key v v.leaf) None can.0.level x,
          )
      gather_page (Some next) x =
          let on = reads_to s k t (onward s k a r there (gather page node) can) a r qg page node can.0.there high_is (last_key v v.leaf) (Some next) can.0.level x in
          let m = mark_on node.high (wg.low next) (last_key v v.leaf) (cell_end g W.leaf) last_is (sym high_is ∙ on.5) x.past in
          gathers_page (Some next) (
            record {
              splitting = refl;
              marked = (lt-leb (cell_end g W.leaf) (mark_past node.high (cell_end g W.leaf)) (omega (arith, m.0, m.1)), m.0);
              more = map (λ e. (copy_in_child g W.leaf e).key) (marks.gathered_in g W node);
              gathered = more;
              few = few;
              copied = copied_is;
            },
            reached,
            on,
          )

-- the same, of each event
module _ (page : ℕ) where
  pub gathers_memory : (e : NoMemory) → Makes (start page) (λ s v w. Gathers v w page (Err e))
  gathers_memory e = made (start page) (λ s v w. Gathers v w page (Err e))
      (λ s k a r there going can. (_, set_there s.actors a (with_split_at (Some (split_or (grid s.board.settings) (leaf_or r.claim) r.split)) page r) r there, gather_memory s k a r there going page can.0 can.1 can e))

  module _ (node : Node) where
    pub gathers_down : (child : ℕ) → Makes (start page) (λ s v w. node_at s.pages page ≡ Some node → PointsDown node 0 (gather_key v) child → Gathers v w page (Ok (Down child)))
    gathers_down child = made (start page) (λ s v w. node_at s.pages page ≡ Some node → PointsDown node 0 (gather_key v) child → Gathers v w page (Ok (Down child)))
        (λ s k a r there going can. (
          _,
          set_there s.actors a (with_split_at (Some (split_or (grid s.board.settings) (leaf_or r.claim) r.split)) page r) r there,
          λ here x. gather_down s k a r there going page can.0 can.1 can node here child x,
        ))

    pub gathers_right : (next : ℕ) → Makes (start page) (λ s v w. node_at s.pages page ≡ Some node → PointsRight node 0 (gather_key v) next → Gathers v w page (Ok (Right next)))
    gathers_right next = made (start page) (λ s v w. node_at s.pages page ≡ Some node → PointsRight node 0 (gather_key v) next → Gathers v w page (Ok (Right next)))
        (λ s k a r there going can. (
          _,
          set_there s.actors a (with_split_at (Some (split_or (grid s.board.settings) (leaf_or r.claim) r.split)) page r) r there,
          λ here x. gather_right s k a r there going page can.0 can.1 can node here next x,
        ))

    pub gathers_on : (next : Option ℕ) → Makes (gather page node) (λ s v w. ReadsOn node (last_key v v.leaf) next → Gathers v w page (Ok (Read next)))
    gathers_on next = made (gather page node) (λ s v w. ReadsOn node (last_key v v.leaf) next → Gathers v w page (Ok (Read next)))
        (λ s k a r there going can. (
          _,
          set_there s.actors a (with_split_at (Some (gather_more (grid s.board.settings) (split_or (grid s.board.settings) (leaf_or r.claim) r.split) node)) page r) r there,
          λ x. gather_page s k a r there going page can.1 can.2 node can next x,
        ))

-- when it may be an event
module _ (s : State) (k : Kept s) (a : ℕ) (r : Actor) (there : slice_get s.actors a ≡ Some r) (going : r.ended ≡ false) (may : MayGather (shown_to s a r)) (page : ℕ) (node : Node) (here : node_at s.pages page ≡ Some node) where
  may_split : MayFollow s.board.settings s.board.log (Split may.leaf)
  may_split = sym (ap (leaf_wanted s.board.settings s.board.log) may.leaf_is) ∙ may.wanted

  pub can_start : Can s a r (start page)
  can_start = (may.leaf, may.leaf_is, may_split, (node, here))

  pub can_gather : (shown_to s a r).low page ≤ gather_key (shown_to s a r) → EndsAfter node 0 (gather_key (shown_to s a r)) → Can s a r (gather page node)
  can_gather low e = (
    record { there = here; level = e.level },
    may.leaf,
    may.leaf_is,
    may_split,
    subst (IsInside node.low node.high) (sym its) (record { from_low = omega (arith, ap (λ o. (node_or_fresh o).low) here, low); below_high = e.under }),
  )
    where
      its : (split_or (grid s.board.settings) may.leaf r.split).mark ≡ gather_key (shown_to s a r)
      its = ap (λ n. (split_or (grid s.board.settings) n r.split).mark) (sym (ap leaf_or may.leaf_is)) ∙ mark_is s k a r there going page may.leaf may.leaf_is

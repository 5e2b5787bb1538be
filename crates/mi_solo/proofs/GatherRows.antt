-- Gathers by a row, and the event that a gather is.
use Rattle.std.proofs.Common.{◌≡◌, ◌≤◌, ◌-◌, arith, false, ℕ, List, [], length, true, IsTrue, refl, sym, ap, ◌∙◌, subst, Option, Some, None, Result, Ok, Err}
use Rattle.std.specs.Prelude.{is_some, option_map, slice_get}
use Rattle.std.proofs.lemmas.Bool.{false≢true}
use Rattle.std.proofs.lemmas.Option.{same_Some}
use Rattle.mi_base.specs.Configuration.{Configuration}
use Rattle.mi_base.specs.Prefixes.{all_below}
use Rattle.mi_base.specs.declared.refusals.NoMemory.{NoMemory}
use Rattle.mi_base.specs.History.{Entered}
use Rattle.mi_core.specs.Events.{Can, Event, after, leaf_or, with_split_at}
use Rattle.mi_core.specs.Events.Event.{gather, start}
use Rattle.mi_core.specs.Kept.{Kept}
use Rattle.mi_core.specs.State.{State, node_at, put_actor, put_page}
use Rattle.mi_entries.specs.Actors.{Actor, SplitWork}
use Rattle.mi_entries.specs.Entries.{grid}
use Rattle.mi_entries.specs.Marks.{cell_end, cell_range, cell_start, gather_more, split_or}
use Rattle.mi_key.specs.declared.ranges.Interval.{Interval}
use Rattle.mi_page.specs.Nodes.{Node}
use Rattle.mi_solo.specs.declared.rows.ActorRow.{ActorRow}
use Rattle.mi_solo.specs.declared.rows.SplitRow.{SplitRow}
use Rattle.mi_solo.specs.OnPages.{KeepsRow, TurnsPage, record_of}
use Rattle.mi_solo.specs.Seeking.{EndsAfter, ReadsOn}
use Rattle.mi_solo.specs.States.{split_of}
use Rattle.mi_solo.specs.WorkRows.{gathered_work, opened_split, work_of}
use Rattle.mi_solo.specs.Viewing.{shown_to}
use Rattle.mi_solo.proofs.GatherEvents.{leaf_is, mark_is}
use Rattle.mi_solo.proofs.KeyLemmas.{claim_fits}
use Rattle.mi_solo.proofs.MarkLemmas.{end_is}
use Rattle.mi_solo.proofs.PageTurns.{put_same}
use Rattle.mi_tree.specs.Cells.{Grid}
use Rattle.mi_world.specs.LeafKeys.{greatest_key}
use Rattle.mi_world.specs.Splits.{gather_key, last_key}
use Rattle.mi_world.specs.View.{prefix_or}
use Rattle.mi_world.specs.declared.answers.Visit.{Visit}
use Rattle.mi_world.specs.declared.answers.Visit.TheVariants.{Down, Right, Read}
use Rattle.mi_solo.specs.GatherRows.{GathersMore, GathersPage, GathersRow, HasWork, IsClaiming, StartsRow, WorksOn, row_work}

-- which event a gather is, by its answer
abbrev pub gather_event : ℕ → Node → Result Visit NoMemory → Event
gather_event page n (Ok (Down p)) = start page
gather_event page n (Ok (Right p)) = start page
gather_event page n (Ok (Read next)) = gather page n
gather_event page n (Err e) = start page

-- a row with another split at this page
splits_keep : (page : ℕ) (row made : ActorRow) → made ≡ record row { page = page; split = made.split } → KeepsRow row made × (made.page ≡ page)
splits_keep page row made e = subst (λ (z : ActorRow). KeepsRow row z × (z.page ≡ page)) (sym e) (record { seen = refl; shard = refl; claim = refl; pin = refl; fresh = refl; ended = refl }, refl)

pub gathers_keep : (c : Configuration) (page : ℕ) (n : Node) (row made : ActorRow) (answer : Result Visit NoMemory) → GathersRow c page answer n row made → KeepsRow row made × (made.page ≡ page)
gathers_keep c page n row made (Ok (Down p)) x = splits_keep page row made x.1.row_is
gathers_keep c page n row made (Ok (Right p)) x = splits_keep page row made x.1.row_is
gathers_keep c page n row made (Ok (Read next)) x = splits_keep page row made x.1.row_is
gathers_keep c page n row made (Err e) x = splits_keep page row made x.row_is

-- of any state that has the page and the record of this row: the gather of a leaf begins, or gathers the page too
module _ (s : State) (a page : ℕ) (n new : Node) (here : node_at s.pages page ≡ Some n) (c : Configuration) (own : List Entered) (row made : ActorRow) (set_by : s.board.settings ≡ c) where
  splits : (e : Event) (o : Configuration → Option SplitWork) → Can s a (record_of c own row) e → after s a (record_of c own row) e ≡ put_actor a (with_split_at (o s.board.settings) page (record_of c own row)) s
      → o c ≡ split_of made.split → made ≡ record row { page = page; split = made.split } → new ≡ n → TurnsPage s a (record_of c own row) e page new (record_of c own made)
  splits e o can is same alone stays =
      let to : Actor = record_of c own made in
      let tie : with_split_at (o c) page (record_of c own row) ≡ to = ap (λ x. with_split_at x page (record_of c own row)) same ∙ ap (record_of c own) (sym alone) in (
        can,
        is ∙ ap (λ z. put_actor a (with_split_at (o z) page (record_of c own row)) s) set_by ∙ ap (λ q. put_actor a q s) tie ∙ put_same a to page n s here ∙ ap (λ m. put_actor a to (put_page page m s)) (sym stays),
      )

  starts : Can s a (record_of c own row) (start page) → StartsRow c page row made → new ≡ n → TurnsPage s a (record_of c own row) (start page) page new (record_of c own made)
  starts can x stays = splits (start page) (λ z. Some (split_or (grid z) (leaf_or row.claim) (split_of row.split))) can refl (sym x.begun) x.row_is stays

  pub gather_is : Can s a (record_of c own row) (start page) → (EndsAfter n 0 (row_work c row).mark → Can s a (record_of c own row) (gather page n)) → (answer : Result Visit NoMemory) → GathersPage c page answer n row new made
      → TurnsPage s a (record_of c own row) (gather_event page n answer) page new (record_of c own made)
  gather_is can more (Ok (Down p)) x = starts can x.1.1 x.0
  gather_is can more (Ok (Right p)) x = starts can x.1.1 x.0
  gather_is can more (Ok (Read next)) x = splits (gather page n) (λ z. Some (gather_more (grid z) (split_or (grid z) (leaf_or row.claim) (split_of row.split)) n)) (more x.1.1.ends) refl (sym x.1.1.more) x.1.1.row_is x.0
  gather_is can more (Err e) x = starts can x.1 x.0

-- the row of an actor that claims a leaf
pub row_claims : (s : State) → Kept s → (a : ℕ) (r : Actor) → slice_get s.actors a ≡ Some r → (row : ActorRow) → r.claim ≡ row.claim → r.split ≡ split_of row.split → (leaf : List ℕ) → r.claim ≡ Some leaf → IsClaiming s.board.settings row
row_claims s k a r there row same split leaf claim =
    let fits = claim_fits s k a r there leaf claim in
    record {
      leaf = leaf;
      is = sym same ∙ claim;
      depth = fits.0;
      pivots = fits.1;
      same = λ w e. same_Some w.leaf leaf (sym ((k.sound.each a r there).holds.split (work_of w) (split ∙ ap split_of e)) ∙ claim);
    }

-- it goes on at the key from which its view shows that it gathers
pub row_mark : (s : State) → Kept s → (a : ℕ) (r : Actor) → slice_get s.actors a ≡ Some r → r.ended ≡ false → (page : ℕ) (row : ActorRow) → r.claim ≡ row.claim → r.split ≡ split_of row.split → (leaf : List ℕ) → r.claim ≡ Some leaf
    → (row_work s.board.settings row).mark ≡ gather_key (shown_to s a r)
row_mark s k a r there going page row same split leaf claim =
    let g = grid s.board.settings in
    ap (λ o. (split_or g (leaf_or o) (split_of row.split)).mark) (sym same) ∙ ap (λ o. (split_or g (leaf_or r.claim) o).mark) (sym split) ∙ mark_is s k a r there going page leaf claim

-- and its leaf is the one that is shown
pub row_last : (s : State) → Kept s → (a : ℕ) (r : Actor) → slice_get s.actors a ≡ Some r → r.ended ≡ false → (page : ℕ) (row : ActorRow) → r.claim ≡ row.claim → r.split ≡ split_of row.split → (leaf : List ℕ) → r.claim ≡ Some leaf
    → (cell_range (grid s.board.settings) (row_work s.board.settings row).leaf).to ≡ last_key (shown_to s a r) (shown_to s a r).leaf
row_last s k a r there going page row same split leaf claim =
    let g = grid s.board.settings in
    let of_leaf : (row_work s.board.settings row).leaf ≡ prefix_or r.claim =
    ap (λ o. (split_or g (leaf_or o) (split_of row.split)).leaf) (sym same) ∙ ap (λ o. (split_or g (leaf_or r.claim) o).leaf) (sym split) ∙ leaf_is s k a r there going page leaf claim ∙ ap leaf_or claim ∙ sym (ap prefix_or claim) in
    let one : cell_end g (row_work s.board.settings row).leaf - 1 ≡ greatest_key s.board.settings (row_work s.board.settings row).leaf = omega (arith, end_is s.board.settings (row_work s.board.settings row).leaf) in
    one ∙ ap (greatest_key s.board.settings) of_leaf

-- a split that is open goes on
pub row_open : (c : Configuration) (row : ActorRow) → is_some row.split ≡ true → split_of row.split ≡ Some (row_work c row)
row_open c row h = go row.split h
  where
    go : (o : Option SplitRow) → is_some o ≡ true → split_of o ≡ Some (split_or (grid c) (leaf_or row.claim) (split_of o))
    go None h = absurd (false≢true h)
    go (Some w) h = refl

-- the split that was opened, where the key is the first one of its leaf
opened_is : (g : Grid) (p : List ℕ) (first : ℕ) → first ≡ cell_start g p → (o : Option SplitWork) → opened_split p first o ≡ split_or g p o
opened_is g p first is None = ap (λ n. record { leaf = p; mark = n; gathered = []; copied = 0 }) is
opened_is g p first is (Some w) = refl

-- that is the row's
pub row_opened : (c : Configuration) (row made : ActorRow) (p : List ℕ) → row.claim ≡ Some p → (first : ℕ) → first ≡ cell_start (grid c) p → split_of made.split ≡ Some (opened_split p first (split_of row.split)) → split_of made.split ≡ Some (row_work c row)
row_opened c row made p is first begins e =
    e ∙ ap Some (opened_is (grid c) p first begins (split_of row.split) ∙ ap (λ o. split_or (grid c) (leaf_or o) (split_of row.split)) (sym is))

-- its leaf is the one that the row claims
work_leaf : (c : Configuration) (p : List ℕ) (o : Option SplitRow) → ((w : SplitRow) → o ≡ Some w → w.leaf ≡ p) → (split_or (grid c) p (split_of o)).leaf ≡ p
work_leaf c p None h = refl
work_leaf c p (Some w) h = h w refl

module _ (c : Configuration) (page : ℕ) (row begun : ActorRow) (h : IsClaiming c row) (s : StartsRow c page row begun) where
  pub row_leaf : (row_work c row).leaf ≡ h.leaf
  row_leaf = ap (λ o. (split_or (grid c) (leaf_or o) (split_of row.split)).leaf) h.is ∙ work_leaf c h.leaf row.split h.same

  module _ (w : SplitRow) (is : begun.split ≡ Some w) where
    pub begun_work : work_of w ≡ row_work c row
    begun_work = same_Some (work_of w) (row_work c row) (sym (ap split_of is) ∙ s.begun)

    pub begun_mark : w.mark ≡ (row_work c row).mark
    begun_mark = ap (λ (x : SplitWork). x.mark) begun_work

    begun_leaf : h.leaf ≡ w.leaf
    begun_leaf = sym (ap (λ (x : SplitWork). x.leaf) begun_work ∙ row_leaf)

    pub begun_has : HasWork c begun
    begun_has = record {
      work = w;
      is = is;
      depth = subst (λ (l : List ℕ). length l ≤ c.levels) begun_leaf h.depth;
      pivots = subst (λ (l : List ℕ). IsTrue (all_below (length c.pivots) l)) begun_leaf h.pivots;
    }

  -- nothing more is gathered
  pub still_begun : (made : ActorRow) → made ≡ record begun { split = made.split } → split_of made.split ≡ split_of begun.split → StartsRow c page row made
  still_begun made alone same = record {
    row_is = alone ∙ ap (λ (z : ActorRow). let y : ActorRow = record z { split = made.split } in y) s.row_is;
    begun = same ∙ s.begun;
  }

  module _ (n : Node) (made : ActorRow) (alone : made ≡ record begun { split = made.split }) (next : Option ℕ) (x : WorksOn c n begun next made) where
    its_work : x.work ≡ row_work c row
    its_work = same_Some x.work (row_work c row) (sym x.is ∙ s.begun)

    pub reads_more : ReadsOn n (cell_range (grid c) (row_work c row).leaf).to next
    reads_more = subst (λ (w : SplitWork). ReadsOn n (cell_range (grid c) w.leaf).to next) its_work x.reads

    pub gathers_more : EndsAfter n 0 (row_work c row).mark → GathersMore c page n row made
    gathers_more ends = record {
      ends = ends;
      row_is = alone ∙ ap (λ (z : ActorRow). let y : ActorRow = record z { split = made.split } in y) s.row_is;
      more = x.more ∙ ap (λ w. Some (gather_more (grid c) w n)) its_work;
    }

-- what the gather of the page makes of the split
pub gathers_on : (c : Configuration) (n : Node) (o made : Option SplitWork) (w : SplitWork) (keys : Interval) (end : ℕ) → o ≡ Some w → keys ≡ cell_range (grid c) w.leaf → end ≡ cell_end (grid c) w.leaf
    → made ≡ option_map (gathered_work keys end n) o → made ≡ Some (gather_more (grid c) w n)
gathers_on c n o made w keys end is range last e =
    e ∙ ap (option_map (gathered_work keys end n)) is ∙ ap (λ k. Some (gathered_work k end n w)) range ∙ ap (λ m. Some (gathered_work (cell_range (grid c) w.leaf) m n w)) last

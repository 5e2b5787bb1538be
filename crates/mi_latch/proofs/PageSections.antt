-- The sections of a page: where the event can be in one state that backs what the seat knows, the seat gives this page back, and knows so much then.
use Rattle.std.proofs.Common.{◌≡◌, ◌≤◌, inl, inr, ⊎_elim, ℕ, ◌+◌, ◌-◌, List, ◌∷◌, true, cond, Some, sym, refl, ap, ◌∙◌, subst}
use Rattle.atomic_table.specs.Table.{rest}
use Rattle.mi_base.specs.Configuration.{Configuration}
use Rattle.mi_base.specs.declared.records.LogEvent.TheVariants.{Split}
use Rattle.mi_key.specs.declared.entries.Entry.{Entry}
use Rattle.mi_page.specs.Keys.{IsInside}
use Rattle.mi_page.specs.Nodes.{Node, lower_half, upper_half}
use Rattle.mi_tree.specs.Legal.{MayFollow}
use Rattle.mi_entries.specs.Actors.{Actor, SplitWork}
use Rattle.mi_entries.specs.Entries.{grid}
use Rattle.mi_entries.specs.Marks.{cell_end, cell_range, gather_more, split_or}
use Rattle.mi_entries.specs.Splits.{copy_in_child}
use Rattle.mi_core.specs.Effects.{drop_entry, noted, paid, post_route, put_entry, sweep_node, trim_node}
use Rattle.mi_core.specs.Events.{Can, Event, after, copied_of, copied_to, leaf_or, sweep_leaf, sweep_next, with_split_at}
use Rattle.mi_core.specs.Events.Event.{copy_in, gather, post, split_page, start, sweep, trim, uncopy, visit}
use Rattle.mi_core.specs.Named.{IsNamed, Named}
use Rattle.mi_core.specs.State.{State, node_at}
use Rattle.mi_core.proofs.LaterEvents.{event_leads_on}
use Rattle.mi_latch.specs.declared.slots.Slot.{Slot}
use Rattle.mi_latch.specs.declared.slots.Slot.TheVariants.{OfPage, Vacant}
use Rattle.mi_latch.specs.Naming.{names_of}
use Rattle.mi_latch.specs.PageSteps.{HoldsFresh, noting}
use Rattle.mi_latch.specs.Shows.{Has, HasKey, Returns}
use Rattle.mi_latch.specs.Views.{Doing, Fits, Held, HoldsLast, IsOne, Mine, Seated, Sight, now}
use Rattle.mi_latch.specs.Wanting.{leaf_wanted}
use Rattle.mi_latch.proofs.PageChanges.{named_later}
use Rattle.mi_latch.proofs.PageDoings.{halved, page_does, split_does}
use Rattle.mi_latch.proofs.PageMakes.{copy_makes, gather_makes, post_makes, start_makes, sweep_makes, trim_makes, uncopy_makes, visit_makes}
use Rattle.mi_latch.proofs.PageNames.{names_stand}
use Rattle.mi_latch.proofs.Steps.{out_has, rest_has}

module _ (settings : Configuration) (m : Seated) (page : ℕ) (was : Node) (s : State) (held : Held settings s) (f : Fits s m.0.actor m.0.mine) where
  abbrev a : ℕ
  a = m.0.actor

  abbrev mine : Mine
  mine = m.0.mine

  abbrev r : Actor
  r = m.0.mine.part

  -- the event can be in the state that the take found
  abbrev May : Event → Type 0
  May e = Can s a r e

  -- what may be split there is wanted
  wanted_there : (p : List ℕ) → r.claim ≡ Some p → MayFollow s.board.settings s.board.log (Split p) → mine.wanted ≡ true
  wanted_there p claim may = f.knows.wanted ∙ ap (leaf_wanted s.board.settings s.board.log) claim ∙ may

  -- the pages that it names are linked after any event of the seat's actor
  pub named_after : (e : Event) → May e → node_at s.pages page ≡ Some was → (x : Named) → IsOne x (names_of was) → IsNamed (after s m.0.actor m.0.mine.part e).pages x
  named_after e can there x one = named_later s (after s a r e) (event_leads_on e s held.kept.sound a r f.part can) x (names_stand s held.kept.sound page was there x one)

  module _ (l : HoldsLast m (page + 17) (OfPage was)) where
    -- this page comes back, with this record of the actor
    abbrev Gives : Actor → Node → Type 0
    Gives to new = Doing settings m.0 (now m.0 (noting to (names_of was) new mine) (rest m.0.out)) (page + 17) (OfPage new)

    pub visit_gives : Gives (noted page r) was
    visit_gives = page_does settings m page was was (noted page r) (names_of was) (visit page) l (visit_makes settings a mine page was)

    pub trim_gives : May (trim page was) → Gives (noted page r) (trim_node r.floor.updates was)
    trim_gives can = page_does settings m page was (trim_node r.floor.updates was) (noted page r) (names_of was) (trim page was) l (trim_makes settings a mine page was can.level)

    pub sweep_gives : May (sweep page was) → Gives (record r { page = page; sweep = sweep_next settings was r.sweep }) (sweep_node (cell_range (grid settings) (sweep_leaf r.sweep)) was)
    sweep_gives can = page_does settings m page was (sweep_node (cell_range (grid settings) (sweep_leaf r.sweep)) was) (record r { page = page; sweep = sweep_next settings was r.sweep }) (names_of was) (sweep page was) l
        (sweep_makes settings a mine page was can.1 can.0.level can.2 can.3)

    pub start_gives : May (start page) → Gives (with_split_at (Some (split_or (grid settings) (leaf_or r.claim) r.split)) page r) was
    start_gives can = page_does settings m page was was (with_split_at (Some (split_or (grid settings) (leaf_or r.claim) r.split)) page r) (names_of was) (start page) l
        (start_makes settings a mine page was can.0 can.1 (wanted_there can.0 can.1 can.2))

    pub gather_gives : May (gather page was) → Gives (with_split_at (Some (gather_more (grid settings) (split_or (grid settings) (leaf_or r.claim) r.split) was)) page r) was
    gather_gives can = page_does settings m page was was (with_split_at (Some (gather_more (grid settings) (split_or (grid settings) (leaf_or r.claim) r.split) was)) page r) (names_of was) (gather page was) l
        (gather_makes settings a mine page was can.1 can.0.level can.2 (wanted_there can.1 can.2 can.3) (subst (λ c. IsInside was.low was.high (split_or (grid c) can.1 r.split).mark) held.same can.4))

    -- an entry that is a copy by the state's settings is one by the table's
    same_copy : (w : SplitWork) (old e : Entry) → e ≡ copy_in_child (grid s.board.settings) w.leaf old → copy_in_child (grid settings) w.leaf old ≡ e
    same_copy w old e is = sym (is ∙ ap (λ c. copy_in_child (grid c) w.leaf old) held.same)

    pub copy_gives : (e : Entry) → May (copy_in page was e) → Gives (with_split_at (copied_to (copied_of r.split + 1) r.split) page r) (put_entry r.floor.updates e was)
    copy_gives e can =
        let w : SplitWork = can.1 in
        let old : Entry = can.3 in
        let to : Actor = with_split_at (copied_to (copied_of r.split + 1) r.split) page r in
        let same = same_copy w old e can.5 in
        let copy : Entry = copy_in_child (grid settings) w.leaf old in
        subst (λ (x : Entry). Gives to (put_entry r.floor.updates x was)) same
        (page_does settings m page was (put_entry r.floor.updates copy was) to (names_of was) (copy_in page was copy) l
        (copy_makes settings a mine page was w old can.0.level can.2.split (subst (λ (x : Entry). IsInside was.low was.high x.key) (sym same) can.6) (subst (λ c. cell_end (grid c) w.leaf ≤ w.mark) held.same can.2.whole) can.4 can.7))

    pub uncopy_gives : (e : Entry) → May (uncopy page was e mine.told) → Gives (record (with_split_at (copied_to (copied_of r.split - 1) r.split) page r) { undone = true; early = cond mine.told r.early true }) (drop_entry e.key was)
    uncopy_gives e can =
        let w : SplitWork = can.1 in
        let old : Entry = can.4 in
        let to : Actor = record (with_split_at (copied_to (copied_of r.split - 1) r.split) page r) { undone = true; early = cond mine.told r.early true } in
        let same = same_copy w old e can.6 in
        let copy : Entry = copy_in_child (grid settings) w.leaf old in
        subst (λ (x : Entry). Gives to (drop_entry x.key was)) same
        (page_does settings m page was (drop_entry copy.key was) to (names_of was) (uncopy page was copy mine.told) l
        (uncopy_makes settings a mine page was w old can.0.level can.2 (subst (λ (x : Entry). IsInside was.low was.high x.key) (sym same) can.7) can.3 can.5))

    -- the child was named to the actor
    pub post_gives : (x : Named) → IsOne x mine.named → x.level + 1 ≡ was.level → May (post page was x.low x.page) → Gives (record r { page = page; owed = paid x.page r.owed }) (post_route x.low x.page was)
    post_gives x known height can = page_does settings m page was (post_route x.low x.page was) (record r { page = page; owed = paid x.page r.owed }) (names_of was) (post page was x.low x.page) l
        (post_makes settings a mine page was x known height can.1.inside can.1.space)

  -- the fresh page is in hand too
  module _ (n : ℕ) (more : List (ℕ × Slot)) (h : HoldsFresh m page n was more) where
    pub split_gives : May (split_page page was) → Doing settings m.0 (now m.0 (halved settings m page n was more h) ((n + 17, OfPage (upper_half was)) ∷ more)) (page + 17) (OfPage (lower_half n was))
    split_gives can = split_does settings m page n was more h can.3

-- what is out then: the fresh page's value is another one, and the old page is out no more
pub fresh_returned : (m : Seated) (page n : ℕ) (was : Node) (more : List (ℕ × Slot)) → HoldsFresh m page n was more → (q : Mine) (x : Slot) → Returns m.0 (now m.0 q ((n + 17, x) ∷ more)) (page + 17)
fresh_returned m page n was more h q x =
    let v : Sight = m.0 in
    let l = h.last in
    let old : (k : ℕ) → HasKey ((n + 17, x) ∷ more) k → HasKey (rest v.out) k = λ k z. subst (λ (o : List (ℕ × Slot)). HasKey o k) (sym h.fresh_out)
    (let w : HasKey ((n + 17, Vacant) ∷ more) k = ⊎_elim (λ e. (Vacant, inl (e.0, refl))) (λ t. (z.0, inr t)) z.1 in w) in
    let new : (k : ℕ) → HasKey (rest v.out) k → HasKey ((n + 17, x) ∷ more) k = λ k z.
    let w : HasKey ((n + 17, Vacant) ∷ more) k = subst (λ (o : List (ℕ × Slot)). HasKey o k) h.fresh_out z in
    ⊎_elim (λ e. (x, inl (e.0, refl))) (λ t. (w.0, inr t)) w.1 in
    record {
      still = refl;
      actor = refl;
      given = (OfPage was, out_has v (page + 17) (OfPage was) (rest v.out) l.out);
      back = λ k z. let g = old k z in ((g.0, rest_has v (page + 17) (OfPage was) (rest v.out) l.out k g.0 g.1), λ e. l.others (subst (HasKey (rest v.out)) e g));
      forth = λ k z ne. ⊎_elim (λ e. absurd (ne (sym e.0))) (λ t. new k (z.0, t)) (subst (λ (o : List (ℕ × Slot)). Has o k z.0) l.out z.1);
    }

-- and the fresh page is the last one out: it goes home by a give that is no event
pub fresh_last : (m : Seated) (page n : ℕ) (was : Node) (more : List (ℕ × Slot)) → HoldsFresh m page n was more → (later : List (ℕ × Slot)) → rest m.1 ≡ (n + 17, Vacant) ∷ later → (q : Mine) (x : Slot)
    → HoldsLast (now m.0 q ((n + 17, x) ∷ more), rest m.1) (n + 17) x
fresh_last m page n was more h later is q x = record { held = is ∙ ap (λ z. (n + 17, Vacant) ∷ z) (sym (ap rest is)); live = refl; out = refl; others = h.apart }

-- The halving of a page by a pass.
use Rattle.std.proofs.Common.{◌≡◌, ℕ, ◌+◌, ◌<◌, ◌==◌, ◌++◌, List, [], ◌∷◌, Bool, true, false, cond, IsTrue, refl, sym, ap, ◌∙◌, subst, arith, eqb-true, eq-eqb, set, get_or-set_other, get_or-set_same, Option, Some, None, inr, ⊎_elim}
use Rattle.std.specs.Prelude.{slice_get}
use Rattle.std.proofs.lemmas.Option.{same_Some}
use Rattle.atomic_table.specs.Seated.{TableId}
use Rattle.atomic_table.specs.Table.{rest}
use Rattle.mi_base.specs.Configuration.{Configuration}
use Rattle.mi_core.specs.Effects.{noted, trim_leaf, trim_node}
use Rattle.mi_core.specs.Events.{Can, Event, after, hand}
use Rattle.mi_core.specs.Events.Event.{split_page, trim, visit}
use Rattle.mi_core.specs.Named.{IsNamed, Named}
use Rattle.mi_core.specs.State.{State, node_at}
use Rattle.mi_core.proofs.ActorLemmas.{set_there}
use Rattle.mi_core.proofs.LaterEvents.{event_leads_on}
use Rattle.mi_core.proofs.KeptLemmas.{some_none}
use Rattle.mi_core.proofs.NamedLemmas.{few_levels}
use Rattle.mi_core.proofs.PageLemmas.{within}
use Rattle.mi_entries.specs.Actors.{Actor}
use Rattle.mi_entries.specs.Records.{Rows, shard_at}
use Rattle.mi_latch.specs.declared.slots.Slot.{Slot}
use Rattle.mi_latch.specs.declared.slots.Slot.TheVariants.{OfPage, Vacant}
use Rattle.mi_latch.specs.Layout.{slot_of}
use Rattle.mi_latch.specs.Naming.{names_of}
use Rattle.mi_latch.specs.PageSteps.{HoldsFresh, MakesPage, halves_named, halving, noting}
use Rattle.mi_latch.specs.Shows.{HasKey, Returns}
use Rattle.mi_latch.specs.Takes.{Finds, see_none, took}
use Rattle.mi_latch.specs.Views.{Doing, HoldsLast, IsOne, Seated, Sight, now}
use Rattle.mi_latch.proofs.Ones.{of_page, of_rows, read_page, read_shard}
use Rattle.mi_latch.proofs.PageChanges.{named_later}
use Rattle.mi_latch.proofs.PageDoings.{page_does, split_does, split_named}
use Rattle.mi_latch.proofs.PageMakes.{trim_makes, visit_makes}
use Rattle.mi_latch.proofs.PageNames.{names_stand}
use Rattle.mi_latch.proofs.PageSections.{fresh_last, fresh_returned}
use Rattle.mi_latch.proofs.Steps.{me}
use Rattle.mi_page.specs.Nodes.{Node, item_count, lower_half, middle_key, upper_half}
use Rattle.mi_solo.specs.declared.rows.ActorRow.{ActorRow}
use Rattle.mi_solo.specs.Routes.{trims_leaf}
use Rattle.mi_solo.specs.States.{pin_of}
use Rattle.mi_solo.proofs.RouteEvents.{not_higher}
use Rattle.mi_solo.proofs.RouteLaws.{full_kept}
use Rattle.mi_world.specs.declared.answers.Parted.TheVariants.{Parted, Roomy}
use Rattle.mi_world.specs.Pages.{PartsPage}
use Rattle.mi_world.specs.View.{View}
use Rattle.mi_solo.specs.PageRows.{HalvesRow, HalvesWhole}
use Rattle.mi_hall.specs.Passes.{AreNear, HasCells, HasOut, HasWord, IsPass, PassState, halving_turn, row_actor, turning}
use Rattle.mi_hall.specs.Knowledge.{is_named}
use Rattle.mi_hall.specs.Places.{HasRows, IsBacked, PageMakes, gives_page}
use Rattle.mi_hall.specs.Seats.{rows_out, seat_view}
use Rattle.mi_hall.proofs.NamedPages.{more_near}
use Rattle.mi_hall.proofs.PagePlaces.{parts_seated, roomy_seated, roomy_trim_seated}
use Rattle.mi_hall.proofs.PageSection.{turn_does}
use Rattle.mi_hall.proofs.PassLemmas.{pass_rows}

-- a page stays where another is put in at a free place
kept_page : (pages : List (Option Node)) (i j : ℕ) (was low up : Node) → node_at pages i ≡ Some was → node_at pages j ≡ None → node_at (set (set pages i (Some low)) j (Some up)) i ≡ Some low
kept_page pages i j was low up there none =
    get_or-set_other (set pages i (Some low)) j i (Some up) None (λ e. some_none was (sym there ∙ ap (node_at pages) e ∙ none)) ∙ get_or-set_same pages i (Some low) None (within pages i was there)

-- the seat with the slot of the fresh page out, and the page beside it
abbrev pub holding : Seated → ℕ → ℕ → Node → Seated
holding start child page had = took see_none (took see_none start (child + 17) Vacant) (page + 17) (OfPage had)

-- both takes found what they should
pub record Taken (settings : Configuration) (start second : Seated) (page child : ℕ) (had : Node) (x : Slot) : Type 0 where
  pub empty : x ≡ Vacant
  pub is : second ≡ holding start child page had
  pub found : Finds settings (took see_none start (child + 17) Vacant).0 (page + 17) (OfPage had)
  pub apart : HasKey start.0.out (child + 17) → ⊥

-- the slot of a fresh page is vacant
pub fresh_vacant : (settings : Configuration) (start : Seated) (child a : ℕ) (row : ActorRow) (rows : Option Rows) (told : Bool) → IsPass start a row rows told → row.hand.fresh ≡ Some child → (x : Slot) → Finds settings start.0 (child + 17) x → x ≡ Vacant
fresh_vacant settings start child a row rows told p fresh x f =
    let fits = me settings f.core f.held start.0 p.live f.backs in
    let none = (f.held.kept.sound.each start.0.actor start.0.mine.part fits.part).fresh child (ap (λ (z : Actor). z.fresh) p.row_is ∙ fresh) in
    sym f.value ∙ read_page f.core child f.held.kept.sound.sixteen ∙ ap slot_of none.1

pub taken : (settings : Configuration) (start first second : Seated) (page child a : ℕ) (row : ActorRow) (rows : Option Rows) (told : Bool) (had : Node) (x : Slot) → IsPass start a row rows told → row.hand.fresh ≡ Some child
    → first ≡ took see_none start (child + 17) x → Finds settings start.0 (child + 17) x → HoldsLast first (child + 17) x → second ≡ took see_none first (page + 17) (OfPage had) → Finds settings first.0 (page + 17) (OfPage had) → Taken settings start second page child had x
taken settings start first second page child a row rows told had x p fresh one f last two g =
    let empty = fresh_vacant settings start child a row rows told p fresh x f in
    let is : first ≡ took see_none start (child + 17) Vacant = one ∙ ap (took see_none start (child + 17)) empty in
    record {
      empty = empty;
      is = two ∙ ap (λ (z : Seated). took see_none z (page + 17) (OfPage had)) is;
      found = subst (λ (z : Seated). Finds settings z.0 (page + 17) (OfPage had)) is g;
      apart = subst (λ (z : Seated). HasKey (rest z.0.out) (child + 17) → ⊥) is last.others;
    }

module _ (settings : Configuration) (start : Seated) (page child : ℕ) (had : Node) (a : ℕ) (row : ActorRow) (rows : Option Rows) (told : Bool) (p : IsPass start a row rows told) (fresh : row.hand.fresh ≡ Some child)
    (f : Finds settings (took see_none start (child + 17) Vacant).0 (page + 17) (OfPage had)) (apart : HasKey start.0.out (child + 17) → ⊥) where
  abbrev r : Actor
  r = start.0.mine.part

  abbrev s : Configuration
  s = start.0.mine.note.board.settings

  abbrev m : Seated
  m = holding start child page had

  back : IsBacked f.core start.0
  back =
      let fits = me settings f.core f.held (took see_none start (child + 17) Vacant).0 p.live f.backs in
      record {
        kept = f.held.kept;
        fits = fits;
        going = (f.backs.own.mine p.live).going;
        rows = λ n e. (let low = ((f.held.kept.sound.each start.0.actor r fits.part).holds.shard n e).0 in
            sym (of_rows (shard_at f.core.shards n) (rows_out start.0.out n) (sym (read_shard f.core n f.held.kept.sound.sixteen low) ∙ f.backs.values (n + 1) _ (inr (pass_rows start a row rows told p n e)))));
      }

  at_page : node_at f.core.pages page ≡ Some had
  at_page = of_page (node_at f.core.pages page) had (sym (read_page f.core page f.held.kept.sound.sixteen) ∙ f.value)

  pub halve_level : had.level < 4294967295
  halve_level = let low = not_higher f.core f.held.kept page had at_page in let few = few_levels f.core f.held.kept.sound in omega (arith, low, few)

  has_fresh : start.0.mine.part.fresh ≡ Some child
  has_fresh = ap (λ (z : Actor). z.fresh) p.row_is ∙ fresh

  floor_is : row.floor.updates ≡ start.0.mine.part.floor.updates
  floor_is = ap (λ (z : Actor). z.floor.updates) (sym p.row_is)

  -- what another event of a page leaves
  ends : (made : ActorRow) (n : Node) (names : List Named) → Sight
  ends made n names = gives_page start.0 (row_actor start.0.mine.note.board.settings start.0.mine.part made) n names start.0.out

  -- it is a pass again
  pub halves_pass : (new : Seated) (made : ActorRow) (n : Node) (names : List Named) → new ≡ (gives_page start.0 (row_actor start.0.mine.note.board.settings start.0.mine.part made) n names start.0.out, start.1) → made.shard ≡ row.shard → IsPass new a made rows told
  halves_pass new made n names gave shard = subst (λ z. IsPass z a made rows told) (sym gave) (record {
    live = refl;
    actor_is = p.actor_is;
    row_is = refl;
    told_is = p.told_is;
    out = subst (λ k. HasOut k rows start.0.out start.1) (ap (λ (z : Actor). z.shard) p.row_is ∙ sym shard) p.out;
    unborn = p.unborn;
  })

  pub halves_cells : (new : Seated) (made : ActorRow) (n : Node) (names : List Named) → new ≡ (gives_page start.0 (row_actor start.0.mine.note.board.settings start.0.mine.part made) n names start.0.out, start.1) → made.pin ≡ row.pin → HasCells start.0.mine → HasCells new.0.mine
  halves_cells new made n names gave same cells = subst (λ (z : Seated). HasCells z.0.mine) (sym gave)
      (λ q h. cells q (ap (λ (z : Actor). z.pin) p.row_is ∙ ap (pin_of start.0.mine.note.board.settings) (sym same) ∙ h))

  -- any event of pages alone makes of its view what it makes of any
  part_tells : (new : Seated) (made : ActorRow) (n : Node) (names : List Named) → new ≡ (gives_page start.0 (row_actor start.0.mine.note.board.settings start.0.mine.part made) n names start.0.out, start.1)
      → (e : Event) (rel : State → View → View → Type 0) → PageMakes e rel → Can f.core start.0.actor start.0.mine.part e → (to : Actor) → to ≡ row_actor start.0.mine.note.board.settings start.0.mine.part made
      → slice_get (after f.core start.0.actor start.0.mine.part e).actors start.0.actor ≡ Some to → node_at (after f.core start.0.actor start.0.mine.part e).pages to.page ≡ Some n
      → (after f.core start.0.actor start.0.mine.part e).shards ≡ f.core.shards → to.shard ≡ start.0.mine.part.shard
      → ((x : Named) → IsOne x names → IsNamed (after f.core start.0.actor start.0.mine.part e).pages x) → rel f.core (seat_view start.0) (seat_view new.0)
  part_tells new made n names gave e rel law can to tie there left shards shard named =
      let t : State = after f.core start.0.actor start.0.mine.part e in
      let seat : Actor → Sight = λ q. gives_page start.0 q n names start.0.out in
      let held : HasRows t (seat to) = λ k h. back.rows k (sym shard ∙ h) ∙ ap (λ l. (shard_at l k).rows) (sym shards) in
      let is_new : new.0 ≡ seat to = ap (λ (z : Seated). z.0) gave ∙ ap seat (sym tie) in
      subst (λ z. rel f.core (seat_view start.0) (seat_view z)) (sym is_new) (law f.core start.0 back can to there n left names named start.0.out held)

  -- the pages that it named are linked after an event
  still : (e : Event) → Can f.core start.0.actor start.0.mine.part e → (x : Named) → IsOne x (names_of had) → IsNamed (after f.core start.0.actor start.0.mine.part e).pages x
  still e can x one = named_later f.core (after f.core start.0.actor r e) (event_leads_on e f.core f.held.kept.sound start.0.actor r back.fits.part can) x (names_stand f.core f.held.kept.sound page had at_page x one)

  module _ (made : ActorRow) (n : Node) (d : HalvesRow page None had row n made) where
    noted_tie : noted page start.0.mine.part ≡ row_actor start.0.mine.note.board.settings start.0.mine.part made
    noted_tie = ap (noted page) p.row_is ∙ ap (row_actor s r) (sym d.2)

    trimmed : n ≡ trim_leaf start.0.mine.part.floor.updates had
    trimmed = d.1 ∙ ap (λ u. trim_leaf u had) floor_is

    few : item_count (trim_leaf start.0.mine.part.floor.updates had) < 32
    few = subst (λ u. item_count (trim_leaf u had) < 32) floor_is d.0

    makes : MakesPage settings start.0.actor start.0.mine page had (trim_leaf start.0.mine.part.floor.updates had) (noted page start.0.mine.part) (names_of had) (trims_leaf page had)
    makes =
        let P : Bool → Type 0 = λ b. had.level == 0 ≡ b → MakesPage settings start.0.actor start.0.mine page had (cond b (trim_node start.0.mine.part.floor.updates had) had) (noted page start.0.mine.part) (names_of had) (cond b (trim page had) (visit page)) in
        (elim (had.level == 0) as P [
          | true ↦ λ e. trim_makes settings start.0.actor start.0.mine page had (eqb-true had.level 0 e)
          | false ↦ λ e. visit_makes settings start.0.actor start.0.mine page had
        ]) refl

    pub roomy_does : (z : Seated) → z ≡ holding start child page had → HoldsLast z (page + 17) (OfPage had) → Doing settings z.0 (turning z.0 made n) (page + 17) (OfPage n)
    roomy_does z is last =
        let here : HoldsLast m (page + 17) (OfPage had) = subst (λ y. HoldsLast y (page + 17) (OfPage had)) is last in
        subst (λ (y : Seated). Doing settings y.0 (turning y.0 made n) (page + 17) (OfPage n)) (sym is)
        (subst (λ (k : Node). Doing settings m.0 (turning m.0 made k) (page + 17) (OfPage k)) (sym trimmed)
        (turn_does settings m page had (trim_leaf r.floor.updates had) (noted page r) made here noted_tie
        (page_does settings m page had (trim_leaf r.floor.updates had) (noted page r) (names_of had) (trims_leaf page had) here makes)))

    -- the fresh page's slot is the last one out then
    pub vacant_last : (z y : Seated) → z ≡ holding start child page had → y ≡ (turning z.0 made n, rest z.1) → HoldsLast y (child + 17) Vacant
    vacant_last z y is gave =
        let turns : Seated → Seated = λ k. (turning k.0 made n, rest k.1) in
        subst (λ (k : Seated). HoldsLast k (child + 17) Vacant) (sym (gave ∙ ap turns is)) (record { held = refl; live = refl; out = refl; others = apart })

    pub roomy_ends : (z y new : Seated) → z ≡ holding start child page had → y ≡ (turning z.0 made n, rest z.1) → new ≡ (now y.0 y.0.mine (rest y.0.out), rest y.1)
        → new ≡ (gives_page start.0 (row_actor start.0.mine.note.board.settings start.0.mine.part made) n (names_of had) start.0.out, start.1)
    roomy_ends z y new is gave back_is =
        let turns : Seated → Seated = λ k. (turning k.0 made n, rest k.1) in
        let drops : Seated → Seated = λ k. (now k.0 k.0.mine (rest k.0.out), rest k.1) in
        back_is ∙ ap drops (gave ∙ ap turns is)

    pub roomy_told : (new : Seated) → new ≡ (gives_page start.0 (row_actor start.0.mine.note.board.settings start.0.mine.part made) n (names_of had) start.0.out, start.1) → IsTrue ((seat_view start.0).named page) → PartsPage (seat_view start.0) (seat_view new.0) page Roomy
    roomy_told new gave known =
        let P : Bool → Type 0 = λ b. had.level == 0 ≡ b → n ≡ cond b (trim_node start.0.mine.part.floor.updates had) had → PartsPage (seat_view start.0) (seat_view new.0) page Roomy in
        (elim (had.level == 0) as P [
          | true ↦ λ e is.
              let can : Can f.core start.0.actor r (trim page had) = record { there = at_page; level = eqb-true had.level 0 e } in
              part_tells new made n (names_of had) gave (trim page had) (λ c v w. IsTrue (v.named page) → item_count (trim_leaf v.floor.updates had) < 32 → PartsPage v w page Roomy)
              (roomy_trim_seated page had) can (noted page r) noted_tie (set_there f.core.actors start.0.actor (noted page r) r back.fits.part)
              (get_or-set_same f.core.pages page (Some (trim_node r.floor.updates had)) None (within f.core.pages page had at_page) ∙ ap Some (sym is)) refl refl (still (trim page had) can) known few
          | false ↦ λ e is.
              part_tells new made n (names_of had) gave (visit page) (λ c v w. IsTrue (v.named page) → node_at c.pages page ≡ Some had → item_count (trim_leaf v.floor.updates had) < 32 → PartsPage v w page Roomy)
              (roomy_seated page had) (had, at_page) (noted page r) noted_tie (set_there f.core.actors start.0.actor (noted page r) r back.fits.part) (at_page ∙ ap Some (sym is)) refl refl (still (visit page) (had, at_page)) known at_page few
        ]) refl trimmed

    pub roomy_near : (new : Seated) → new ≡ (gives_page start.0 (row_actor start.0.mine.note.board.settings start.0.mine.part made) n (names_of had) start.0.out, start.1)
        → (words : ℕ) → words ≡ settings.pages + 17 → AreNear words start.0.mine.named → AreNear words new.0.mine.named
    roomy_near new gave words many near = subst (λ (z : Seated). AreNear words z.0.mine.named) (sym gave)
        (more_near settings f.core f.held words many (names_of had) start.0.mine.named (names_stand f.core f.held.kept.sound page had at_page) near)

  module _ (made : ActorRow) (upper n : Node) (d : HalvesRow page (Some upper) had row n made) where
    -- nothing of a full page was trimmed
    whole : HalvesWhole page had row upper n made
    whole = subst (λ (z : Node). HalvesWhole page z row upper n made) (full_kept f.core f.held.kept page had at_page row.floor.updates d.0) d.1

    number : hand row.hand.fresh ≡ child
    number = ap hand fresh

    full : item_count (trim_leaf start.0.mine.part.floor.updates had) ≡ 32
    full = subst (λ u. item_count (trim_leaf u had) ≡ 32) floor_is d.0

    lower : n ≡ lower_half child had
    lower = whole.lower ∙ ap (λ c. lower_half c had) number

    tie : halving start.0.mine.part page child had ≡ row_actor start.0.mine.note.board.settings start.0.mine.part made
    tie =
        let halved_row : ℕ → ActorRow = λ c. record row { page = page; hand = record { fresh = None; owed = row.hand.owed ++ record { level = had.level + 1; key = middle_key had; child = c } ∷ [] } } in
        ap (λ (z : Actor). halving z page child had) p.row_is ∙ ap (row_actor s r) (sym (whole.row_is ∙ ap halved_row number))

    abbrev names : List Named
    names = halves_named child had ++ names_of had

    abbrev up : Slot
    up = OfPage (upper_half had)

    module _ (z : Seated) (is : z ≡ holding start child page had) (last : HoldsLast z (page + 17) (OfPage had)) where
      holds : HoldsFresh (holding start child page had) page child had start.0.out
      holds = record { last = subst (λ y. HoldsLast y (page + 17) (OfPage had)) is last; fresh = has_fresh; fresh_out = refl; apart = apart }

      pub lower_does : Doing settings z.0 (halving_turn z.0 made child n) (page + 17) (OfPage n)
      lower_does =
          let out : List (ℕ × Slot) = (child + 17, up) ∷ start.0.out in
          subst (λ (y : Seated). Doing settings y.0 (halving_turn y.0 made child n) (page + 17) (OfPage n)) (sym is)
          (subst (λ (k : Node). Doing settings m.0 (gives_page m.0 (row_actor s r made) k names out) (page + 17) (OfPage k)) (sym lower)
          (subst (λ (q : Actor). Doing settings m.0 (gives_page m.0 q (lower_half child had) names out) (page + 17) (OfPage (lower_half child had))) tie
          (split_does settings m page child had start.0.out holds full)))

      pub lower_returns : Returns z.0 (halving_turn z.0 made child n) (page + 17)
      lower_returns = subst (λ (y : Seated). Returns y.0 (halving_turn y.0 made child n) (page + 17)) (sym is)
          (fresh_returned m page child had start.0.out holds (noting (row_actor s r made) names n m.0.mine) up)

      pub upper_last : (y : Seated) → y ≡ (halving_turn z.0 made child n, rest z.1) → HoldsLast y (child + 17) (OfPage upper)
      upper_last y gave =
          let turns : Seated → Seated = λ k. (halving_turn k.0 made child n, rest k.1) in
          subst (λ (k : Seated). HoldsLast k (child + 17) (OfPage upper)) (sym (gave ∙ ap turns is))
          (subst (λ (k : Node). HoldsLast (turns m) (child + 17) (OfPage k)) (sym whole.upper_is)
          (fresh_last m page child had start.0.out holds start.1 refl (noting (row_actor s r made) names n m.0.mine) up))

      pub parted_ends : (y new : Seated) → y ≡ (halving_turn z.0 made child n, rest z.1) → new ≡ (now y.0 y.0.mine (rest y.0.out), rest y.1)
          → new ≡ (gives_page start.0 (row_actor start.0.mine.note.board.settings start.0.mine.part made) n (halves_named child had ++ names_of had) start.0.out, start.1)
      parted_ends y new gave back_is =
          let turns : Seated → Seated = λ k. (halving_turn k.0 made child n, rest k.1) in
          let drops : Seated → Seated = λ k. (now k.0 k.0.mine (rest k.0.out), rest k.1) in
          back_is ∙ ap drops (gave ∙ ap turns is)

      can : Can f.core start.0.actor start.0.mine.part (split_page page had)
      can = (child, has_fresh, at_page, full)

      fresh_none : node_at f.core.pages child ≡ None
      fresh_none = ((f.held.kept.sound.each start.0.actor r back.fits.part).fresh child has_fresh).1

      pub parted_told : (new : Seated) → new ≡ (gives_page start.0 (row_actor start.0.mine.note.board.settings start.0.mine.part made) n (halves_named child had ++ names_of had) start.0.out, start.1)
          → IsTrue ((seat_view start.0).named page) → (key : ℕ) → key ≡ upper.low → PartsPage (seat_view start.0) (seat_view new.0) page (Parted key child)
      parted_told new gave known key low =
          let t : State = after f.core start.0.actor r (split_page page had) in
          let A : ℕ → Type 0 = λ c. slice_get t.actors start.0.actor ≡ Some (halving r page c had) in
          let B : ℕ → Type 0 = λ c. node_at t.pages page ≡ Some (lower_half c had) in
          let there : A child = subst A (ap hand has_fresh) (set_there f.core.actors start.0.actor (halving r page (hand r.fresh) had) r back.fits.part) in
          let near : B child = subst B (ap hand has_fresh) (kept_page f.core.pages page (hand r.fresh) had (lower_half (hand r.fresh) had) (upper_half had) at_page (ap (λ c. node_at f.core.pages (hand c)) has_fresh ∙ fresh_none)) in
          let in_new : (i : ℕ) → Some child ≡ Some i → IsTrue ((seat_view new.0).named i) = λ i e.
          subst (λ (k : Seated). IsTrue ((seat_view k.0).named i)) (sym gave) (subst (λ q. IsTrue (is_named (names ++ start.0.mine.named) q)) (same_Some child i e) (rw (eq-eqb child child refl) refl)) in
          subst (λ k. PartsPage (seat_view start.0) (seat_view new.0) page (Parted k child)) (sym (low ∙ ap (λ (k : Node). k.low) whole.upper_is))
          (part_tells new made n names gave (split_page page had) (λ c v w. IsTrue (v.named page) → ((i : ℕ) → Some child ≡ Some i → IsTrue (w.named i)) → v.fresh ≡ Some child → PartsPage v w page (Parted (middle_key had) child))
          (parts_seated page had child) can (halving r page child had) tie there (near ∙ ap Some (sym lower)) refl refl (split_named settings m page child had start.0.out holds f.core f.held back.fits can) known in_new has_fresh)

      pub parted_near : (new : Seated) → new ≡ (gives_page start.0 (row_actor start.0.mine.note.board.settings start.0.mine.part made) n (halves_named child had ++ names_of had) start.0.out, start.1)
          → (words : ℕ) → words ≡ settings.pages + 17 → HasWord words row.hand.fresh → AreNear words start.0.mine.named → AreNear words new.0.mine.named
      parted_near new gave words many word near =
          let small : child + 17 < words = subst (HasWord words) fresh word in
          subst (λ (k : Seated). AreNear words k.0.mine.named) (sym gave)
          (λ x one. ⊎_elim (λ e. omega (arith, small, ap (λ (k : Named). k.page) e))
          (λ o. more_near settings f.core f.held words many (names_of had) start.0.mine.named (names_stand f.core f.held.kept.sound page had at_page) near x o) one)

-- the fresh page has its word in the table of the pass
pub fresh_before : (old : Seated) (table its : TableId) (was : PassState) (row : ActorRow) (pages child : ℕ) → its.words ≡ pages + 17 → HasWord table.words row.hand.fresh → record { sight = old.0; table = table } ≡ was → was.table ≡ its → row.hand.fresh ≡ Some child
    → (table ≡ its) × (child < pages)
fresh_before old table its was row pages child many word same fits fresh =
    let one : table ≡ its = ap (λ (z : PassState). z.table) same ∙ fits in
    let small : child + 17 < table.words = subst (HasWord table.words) fresh word in
    (one, let y : child < pages = omega (arith, small, ap (λ (t : TableId). t.words) one, many) in y)

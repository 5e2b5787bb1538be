-- What a sweep of a page makes of the state.
use Rattle.std.proofs.Common.{◌≡◌, ℕ, ◌-◌, ◌≤◌, ◌==◌, List, length, Bool, true, false, cond, is_some, refl, sym, ap, ◌∙◌, subst, arith, Option, Some, None}
use Rattle.std.specs.Prelude.{IsSome, slice_get}
use Rattle.std.proofs.lemmas.Bool.{false≢true}
use Rattle.mi_base.specs.Configuration.{Configuration}
use Rattle.mi_base.specs.History.{Entered, at_position, events_at}
use Rattle.mi_base.specs.Prefixes.{all_below}
use Rattle.mi_core.specs.Effects.{sweep_node}
use Rattle.mi_core.specs.Events.{Event, sweep_leaf, sweep_next}
use Rattle.mi_core.specs.Events.Event.{sweep, visit}
use Rattle.mi_core.specs.Kept.{Kept}
use Rattle.mi_core.specs.State.{State, node_at, put_actor, put_page}
use Rattle.mi_entries.specs.Actors.{Actor, SweepWork}
use Rattle.mi_entries.specs.Entries.{grid}
use Rattle.mi_entries.specs.Marks.{cell_end, cell_range, mark_past, swept_on}
use Rattle.mi_entries.proofs.RetiredLemmas.{IsPast, past_later}
use Rattle.mi_page.specs.Keys.{IsInside, is_below}
use Rattle.mi_page.specs.Nodes.{Node}
use Rattle.mi_tree.specs.Cells.{Grid}
use Rattle.mi_world.specs.declared.answers.Visit.{Visit}
use Rattle.mi_world.specs.declared.answers.Visit.TheVariants.{Down, Read, Right}
use Rattle.mi_world.specs.LeafKeys.{greatest_key}
use Rattle.mi_world.specs.View.{prefix_or}
use Rattle.mi_solo.specs.declared.rows.ActorRow.{ActorRow}
use Rattle.mi_solo.specs.declared.rows.SweepRow.{SweepRow}
use Rattle.mi_solo.specs.LeafRows.{IsSweeping, SweepsRow, swept_mark, swept_range}
use Rattle.mi_solo.specs.OnPages.{KeepsRow, TurnsPage, record_of}
use Rattle.mi_solo.specs.States.{sweep_of}
use Rattle.mi_solo.specs.Viewing.{swept_leaf, swept_to}
use Rattle.mi_solo.specs.WorkRows.{swept_row}
use Rattle.mi_solo.proofs.MarkLemmas.{end_is}
use Rattle.mi_solo.proofs.PageTurns.{noted_keeps, visit_is}

-- a row's sweep goes on as the sweep that it stands for
sweeps_on : (g : Grid) (n : Node) (mark end : ℕ) (w : SweepRow) → end ≡ cell_end g w.leaf → mark ≡ mark_past n.high end → sweep_of (swept_row mark end (Some w)) ≡ swept_on g (record { leaf = w.leaf; mark = w.mark }) n
sweeps_on g n mark end w last up =
    let P : Bool → Type 0 = λ b. sweep_of (cond b None (Some (record w { mark = mark }))) ≡ cond b None (Some (record { leaf = w.leaf; mark = mark })) in
    (elim (mark == end) as P [ true ↦ refl | false ↦ refl ])
    ∙ ap (λ m. cond (m == end) None (Some (record { leaf = w.leaf; mark = m }))) up
    ∙ ap (λ m. cond (mark_past n.high m == m) None (Some (record { leaf = w.leaf; mark = mark_past n.high m }))) last

module _ (c : Configuration) (page : ℕ) (n : Node) (row made : ActorRow) (w : SweepRow) (is : row.sweep ≡ Some w) (mark end : ℕ) (e : made ≡ record row { page = page; sweep = swept_row mark end row.sweep }) where
  pub swept_alone : made ≡ record row { page = page; sweep = made.sweep }
  swept_alone = e ∙ ap (λ o. record row { page = page; sweep = o }) (sym (ap (λ (z : ActorRow). z.sweep) e))

  pub row_swept : end ≡ cell_end (grid c) w.leaf → mark ≡ mark_past n.high end → sweep_of made.sweep ≡ sweep_next c n (sweep_of row.sweep)
  row_swept last up =
      ap (λ (z : ActorRow). sweep_of z.sweep) e ∙ ap (λ o. sweep_of (swept_row mark end o)) is
      ∙ sweeps_on (grid c) n mark end w last up ∙ ap (λ o. sweep_next c n (sweep_of o)) (sym is)

-- a leaf that is swept is a cell of the pivots
pub sweep_fits : (s : State) → Kept s → (a : ℕ) (r : Actor) → slice_get s.actors a ≡ Some r → (w : SweepWork) → r.sweep ≡ Some w → (length w.leaf ≤ s.board.settings.levels) × (all_below (length s.board.settings.pivots) w.leaf ≡ true)
sweep_fits s kept a r there w is =
    let n : ℕ = events_at r.floor in
    let past : IsPast s.board.settings (at_position s.board.log r.floor) w.leaf =
    past_later s.board.settings kept.sound.limits w.leaf s.board.log kept.sound.legal n n (omega arith) ((kept.sound.each a r there).sweep w is) in
    let above = past.above in
    (omega arith, past.pivots)

-- a row that shows a sweep has one
swept_there : (o : Option SweepRow) → is_some (swept_leaf (sweep_of o)) ≡ true → (w : SweepRow) × (o ≡ Some w)
swept_there None h = absurd (false≢true h)
swept_there (Some w) h = (w, refl)

-- a sweep shows its leaf
pub shown_sweep : (o : Option SweepWork) → IsSome o → is_some (swept_leaf o) ≡ true
shown_sweep None h = absurd (false≢true h)
shown_sweep (Some w) h = refl

-- the row of an actor that has a sweep under way
pub row_sweeps : (s : State) → Kept s → (a : ℕ) (r : Actor) → slice_get s.actors a ≡ Some r → (row : ActorRow) → r.sweep ≡ sweep_of row.sweep → is_some (swept_leaf r.sweep) ≡ true → IsSweeping s.board.settings row
row_sweeps s kept a r there row same some =
    let w = swept_there row.sweep (subst (λ o. is_some (swept_leaf o) ≡ true) same some) in
    let fits = sweep_fits s kept a r there (record { leaf = w.0.leaf; mark = w.0.mark }) (same ∙ ap sweep_of w.1) in
    record { work = w.0; is = w.1; depth = fits.0; pivots = fits.1 }

-- the last key of the leaf that a row sweeps
pub last_swept : (c : Configuration) (row : ActorRow) → (swept_range c row).to ≡ greatest_key c (prefix_or (swept_leaf (sweep_of row.sweep)))
last_swept c row =
    let leaf = sweep_leaf (sweep_of row.sweep) in
    let one : cell_end (grid c) leaf - 1 ≡ greatest_key c leaf = omega (arith, end_is c leaf) in
    one ∙ ap (greatest_key c) (same_leaf (sweep_of row.sweep))
  where
    same_leaf : (o : Option SweepWork) → sweep_leaf o ≡ prefix_or (swept_leaf o)
    same_leaf None = refl
    same_leaf (Some w) = refl

-- which event a sweep is, by its answer
abbrev pub sweep_event : ℕ → Node → Visit → Event
sweep_event page n (Down p) = visit page
sweep_event page n (Right p) = visit page
sweep_event page n (Read next) = sweep page n

module _ (s : State) (a page : ℕ) (n new : Node) (here : node_at s.pages page ≡ Some n) (c : Configuration) (own : List Entered) (row made : ActorRow) (same : s.board.settings ≡ c) where
  pub sweep_is : IsSweeping c row → n.low ≤ swept_mark row → (r : Visit) → SweepsRow c page r n row new made → TurnsPage s a (record_of c own row) (sweep_event page n r) page new (record_of c own made)
  sweep_is works low (Down p) x = visit_is s a page n new here c own row made x.1.same x.1.row_is
  sweep_is works low (Right p) x = visit_is s a page n new here c own row made x.1.same x.1.row_is
  sweep_is works low (Read next) x =
      let d = x.1 in
      let w : SweepWork = record { leaf = works.work.leaf; mark = works.work.mark } in
      let on : sweep_of row.sweep ≡ Some w = ap sweep_of works.is in
      let inside : IsInside n.low n.high w.mark = record { from_low = subst (λ o. n.low ≤ swept_to o) on low; below_high = subst (λ o. is_below n.high (swept_to o) ≡ true) on d.ends.under } in
      let R : Actor = record_of c own row in
      let to : Configuration → Actor = λ z. record R { page = page; sweep = sweep_next z n R.sweep } in
      let left : Configuration → Node = λ z. sweep_node (cell_range (grid z) (sweep_leaf R.sweep)) n in
      let tie : to c ≡ record_of c own made = ap (λ o. let y : Actor = record R { page = page; sweep = o } in y) (sym d.goes_on) ∙ ap (record_of c own) (sym d.row_is) in (
        (record { there = here; level = d.ends.level }, w, on, inside),
        ap (λ z. put_actor a (to z) (put_page page (left z) s)) same
            ∙ ap (λ q. put_actor a q (put_page page (left c) s)) tie ∙ ap (λ l. put_actor a (record_of c own made) (put_page page l s)) (sym d.swept),
      )

-- what it leaves of the row
pub sweeps_keep : (c : Configuration) (page : ℕ) (n new : Node) (row made : ActorRow) (answer : Visit) → SweepsRow c page answer n row new made → KeepsRow row made × (made.page ≡ page)
sweeps_keep c page n new row made (Down p) x = (noted_keeps page row made x.1.row_is, ap (λ (z : ActorRow). z.page) x.1.row_is)
sweeps_keep c page n new row made (Right p) x = (noted_keeps page row made x.1.row_is, ap (λ (z : ActorRow). z.page) x.1.row_is)
sweeps_keep c page n new row made (Read next) x =
    let e = x.1.row_is in (
      record {
        seen = ap (λ (z : ActorRow). z.seen) e;
        shard = ap (λ (z : ActorRow). z.shard) e;
        claim = ap (λ (z : ActorRow). z.claim) e;
        pin = ap (λ (z : ActorRow). z.pin) e;
        fresh = ap (λ (z : ActorRow). z.hand.fresh) e;
        ended = ap (λ (z : ActorRow). z.ended) e;
      },
      ap (λ (z : ActorRow). z.page) e,
    )

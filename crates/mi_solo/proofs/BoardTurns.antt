-- Which event each section of the board is: of any state that has the board and the actor's record.
use Rattle.std.proofs.Common.{◌≡◌, ℕ, ◌+◌, ◌<◌, ◌==◌, ◌++◌, [], ◌∷◌, List, length, get_or, set, drop, true, IsTrue, append-nil, refl, sym, ap, ◌∙◌, subst, Option, Some, None, Result, Ok, Err}
use Rattle.std.specs.Arc.{arc_value}
use Rattle.std.specs.List.{filter}
use Rattle.std.proofs.lemmas.Bool.{false≢true}
use Rattle.std.proofs.lemmas.Option.{get_or_from_slice_get, none-some}
use Rattle.mi_base.specs.declared.records.LogEvent.{LogEvent}
use Rattle.mi_base.specs.declared.records.LogEvent.TheVariants.{Split as SplitEvent}
use Rattle.mi_base.specs.declared.records.Position.{Position}
use Rattle.mi_base.specs.declared.refusals.NoMemory.{NoMemory}
use Rattle.mi_base.specs.Configuration.{Configuration}
use Rattle.mi_base.specs.History.{Entered, at_position, end_of, entered}
use Rattle.mi_base.specs.Permutations.{begins}
use Rattle.mi_base.proofs.HistoryLemmas.{entered-append}
use Rattle.mi_board.specs.Actors.{actor_at, claims_leaf_of, with_claim}
use Rattle.mi_board.specs.Boards.{BoardState, cells_in, floor_of, leaf_claimed, pinned, prefix_or, with_actor, with_split}
use Rattle.mi_board.proofs.FoundLemmas.{kept_there}
use Rattle.mi_core.specs.Actors.{made_by}
use Rattle.mi_core.specs.Effects.{looked}
use Rattle.mi_core.specs.Events.{Can, Event, IsFree, first_actor, leaf_or}
use Rattle.mi_core.specs.Events.Event.{allot, claim_leaf, lack, no_work, pin, publish, refuse, see, take_split, take_sweep}
use Rattle.mi_core.specs.Refusals.Refusal.{held, pages_full}
use Rattle.mi_core.specs.State.{State, put_actor, put_board}
use Rattle.mi_entries.specs.Actors.{Actor, Pin, SweepWork}
use Rattle.mi_tree.specs.declared.answers.AllotRefusal.{AllotRefusal}
use Rattle.mi_tree.specs.declared.answers.AllotRefusal.TheVariants.{Memory, PagesFull}
use Rattle.mi_tree.specs.declared.answers.LeafClaim.{LeafClaim}
use Rattle.mi_tree.specs.declared.answers.LeafClaim.TheVariants.{Held, Taken}
use Rattle.mi_tree.specs.declared.answers.Look.{Look}
use Rattle.mi_tree.specs.declared.answers.Work.{Work}
use Rattle.mi_tree.specs.declared.answers.Work.TheVariants.{Idle, Split, Sweep}
use Rattle.mi_tree.specs.Legal.{cells_of}
use Rattle.mi_solo.specs.declared.cores.Core.{Core}
use Rattle.mi_solo.specs.declared.rows.ActorRow.{ActorRow}
use Rattle.mi_solo.specs.declared.rows.PinRow.{PinRow}
use Rattle.mi_solo.specs.BoardRows.{AllotsRow, ClaimsRow, PinsRow, PublishesRow, WorksRow, row_claims, row_publishes, row_works}
use Rattle.mi_solo.specs.OnBoards.{KeepsBoard, OnBoard, TurnsBoard}
use Rattle.mi_solo.specs.OnPages.{record_of}
use Rattle.mi_solo.specs.States.{Does, actor_in, actor_of, actors_of, is_catalog_of, pin_of, state_of}
use Rattle.mi_solo.specs.Viewing.{pinned_log, swept_leaf}
use Rattle.mi_solo.proofs.CoreLemmas.{cells_are, comes_to, pin_there, row_is, there}

-- which event each section is, by its answer
abbrev pub work_event : Work → Event
work_event (Sweep p) = take_sweep p
work_event (Split leaf) = take_split leaf.prefix
work_event Idle = no_work

abbrev pub claim_event : BoardState → LeafClaim → Event
claim_event b (Taken leaf) = claim_leaf leaf.prefix
claim_event b (Held by) = refuse (held (leaf_claimed b by) by)

abbrev pub publish_event : Result Position NoMemory → Event
publish_event (Ok at) = publish
publish_event (Err e) = see

abbrev pub pin_event : Result Look NoMemory → Event
pin_event (Ok look) = pin
pin_event (Err e) = see

abbrev pub allot_event : Result (Unit {0}) AllotRefusal → Event
allot_event (Ok _) = allot
allot_event (Err (PagesFull limit)) = refuse pages_full
allot_event (Err Memory) = lack

-- who claims the leaf of a permutation claims one that begins it
pub claims_one : (perm : List ℕ) (o : Option (List ℕ)) → IsTrue (claims_leaf_of perm o) → (o ≡ Some (prefix_or o)) × (begins (prefix_or o) perm ≡ true)
claims_one perm None h = absurd (false≢true h)
claims_one perm (Some p) h = (refl, h)

-- the pin of a row that was pinned at the end of the log
pub pin_made : (c : Configuration) (log : List LogEvent) (p : PinRow) → p.at ≡ end_of log → arc_value p.cells ≡ cells_in c log → pin_of c (Some p) ≡ Some (record { at = end_of log; cells = cells_of c log })
pin_made c log p at cells =
    pin_there c p (ap (is_catalog_of c) cells ∙ cells_are c log)
    ∙ ap (λ q. Some (record { at = q; cells = (arc_value p.cells).leaves })) at ∙ ap (λ k. Some (record { at = end_of log; cells = k.leaves })) cells

module _ (s : State) (a : ℕ) (own : List Entered) (row made : ActorRow) (board : BoardState) where
  -- the actor's record, and what an event makes of it and of the board
  abbrev R : Actor
  R = record_of s.board.settings own row

  turns : (new : BoardState) (f : BoardState → ActorRow) (e : Event) → board ≡ new → made ≡ f board → TurnsBoard s a (record_of s.board.settings own row) e new (record_of new.settings own (f new))
      → TurnsBoard s a (record_of s.board.settings own row) e board (record_of board.settings own made)
  turns new f e is same x =
      let P : BoardState → Type 0 = λ z. made ≡ f z → TurnsBoard s a (record_of s.board.settings own row) e z (record_of z.settings own made) in
      subst P (sym is) (λ h. subst (λ m. TurnsBoard s a (record_of s.board.settings own row) e new (record_of new.settings own m)) (sym h) x) same

  pub work_is : IsFree (record_of s.board.settings own row) → (r : Work) → WorksRow a r s.board row board made → TurnsBoard s a (record_of s.board.settings own row) (work_event r) board (record_of board.settings own made)
  work_is free (Sweep p) x = turns (record s.board { retired = drop 1 s.board.retired }) (λ b. row_works (floor_of s.board) b row (Sweep p)) (take_sweep p) x.0.1 x.1 ((free, x.0.0), refl)
  work_is free (Split leaf) x = turns (with_actor (with_claim leaf.prefix) a s.board) (λ b. row_works (floor_of s.board) b row (Split leaf)) (take_split leaf.prefix) x.0.1.1 x.1 ((free, x.0.0, leaf, x.0.1.0, refl), refl)
  work_is free Idle x = turns s.board (λ b. row_works (floor_of s.board) b row Idle) no_work x.0.1.1 x.1 ((free, x.0.0, x.0.1.0), refl)

  pub claim_is : IsFree (record_of s.board.settings own row) → (perm : List ℕ) (r : LeafClaim) → ClaimsRow a perm r s.board row board made → TurnsBoard s a (record_of s.board.settings own row) (claim_event s.board r) board (record_of board.settings own made)
  claim_is free perm (Taken leaf) x = turns (with_actor (with_claim leaf.prefix) a s.board) (λ b. row_claims b row (Taken leaf)) (claim_leaf leaf.prefix) x.0.1.1 x.1
      (record { free = free; leaf = kept_there perm (cells_of s.board.settings s.board.log) leaf x.0.0; unclaimed = x.0.1.0 }, refl)
  claim_is free perm (Held by) x =
      let one = claims_one perm (actor_at s.board.actors by).claim x.0.1.1.0 in
      turns s.board (λ b. row_claims b row (Held by)) (refuse (held (leaf_claimed s.board by) by)) x.0.1.1.1 x.1 (record { claim = one.0; other = x.0.1.0 }, refl)

  -- the board has the claim that the record has
  pub publish_is : Can s a (record_of s.board.settings own row) publish → leaf_claimed s.board a ≡ leaf_or row.claim → (r : Result Position NoMemory) → PublishesRow a r s.board row board made
      → TurnsBoard s a (record_of s.board.settings own row) (publish_event r) board (record_of board.settings own made)
  publish_is can leaf (Ok at) x = turns (with_split (leaf_or row.claim) a s.board) (λ b. row_publishes b row (Ok at)) publish (x.0.1 ∙ ap (λ p. with_split p a s.board) leaf) x.1 (can, refl)
  publish_is can leaf (Err e) x = turns s.board (λ b. row_publishes b row (Err e)) see x.0 x.1 (tt, refl)

  pub pin_is : pin_of s.board.settings row.pin ≡ None → (r : Result Look NoMemory) → PinsRow a r s.board row board made → TurnsBoard s a (record_of s.board.settings own row) (pin_event r) board (record_of board.settings own made)
  pin_is bare (Ok look) x =
      let to : BoardState = pinned a s.board in
      turns to (λ b. record row { seen = length s.board.log; floor = floor_of s.board; pin = Some x.2 }) pin x.1 x.5
      (bare, ap (λ o. put_actor a (record (looked s.board (record_of s.board.settings own row)) { pin = o }) (put_board (pinned a s.board) s)) (sym (pin_made s.board.settings s.board.log x.2 x.3 x.4)))
  pin_is bare (Err e) x = turns s.board (λ b. record row { seen = length s.board.log }) see x.0 x.1 (tt, refl)

  pub allot_is : row.hand.fresh ≡ None → (r : Result (Unit {0}) AllotRefusal) → AllotsRow r s.board row board made → TurnsBoard s a (record_of s.board.settings own row) (allot_event r) board (record_of board.settings own made)
  allot_is bare (Ok _) x = turns (record s.board { allotted = s.board.allotted + 1 }) (λ b. record row { seen = length s.board.log; hand = record { fresh = Some s.board.allotted; owed = row.hand.owed } }) allot x.1 x.2 ((bare, x.0), refl)
  allot_is bare (Err (PagesFull limit)) x = turns s.board (λ b. record row { seen = length s.board.log }) (refuse pages_full) x.2 x.3 (x.1 ∙ x.0, refl)
  allot_is bare (Err Memory) x = turns s.board (λ b. record row { seen = length s.board.log; lacked = true }) lack x.0 x.1 (bare, refl)

-- a section that writes the board as this one, and the row as that one, leaves what they leave
keeps : (b board new : BoardState) (row made to : ActorRow) → board ≡ new → made ≡ to → KeepsBoard b row new to × (to.hand.fresh ≡ row.hand.fresh) → KeepsBoard b row board made × (made.hand.fresh ≡ row.hand.fresh)
keeps b board new row made to is same x = subst (λ z. KeepsBoard b row z made × (made.hand.fresh ≡ row.hand.fresh)) (sym is) (subst (λ (m : ActorRow). KeepsBoard b row new m × (m.hand.fresh ≡ row.hand.fresh)) (sym same) x)

-- a split is no update of any actor
made_same : (log : List LogEvent) (p : List ℕ) (m : ℕ) → made_by m (log ++ SplitEvent p ∷ []) ≡ made_by m log
made_same log p m = ap (filter (λ (e : Entered). e.session == m)) (entered-append log (SplitEvent p ∷ []) ∙ append-nil (entered log))

module _ (a : ℕ) (b board : BoardState) (row made : ActorRow) where
  pub works_keep : (r : Work) → WorksRow a r b row board made → KeepsBoard b row board made × (made.hand.fresh ≡ row.hand.fresh)
  works_keep (Sweep p) x = keeps b board _ row made _ x.0.1 x.1 (record { settings = refl; own = λ m. refl; root = refl; height = refl; shard = refl }, refl)
  works_keep (Split leaf) x = keeps b board _ row made _ x.0.1.1 x.1 (record { settings = refl; own = λ m. refl; root = refl; height = refl; shard = refl }, refl)
  works_keep Idle x = keeps b board _ row made _ x.0.1.1 x.1 (record { settings = refl; own = λ m. refl; root = refl; height = refl; shard = refl }, refl)

  pub claims_keep : (perm : List ℕ) (r : LeafClaim) → ClaimsRow a perm r b row board made → KeepsBoard b row board made × (made.hand.fresh ≡ row.hand.fresh)
  claims_keep perm (Taken leaf) x = keeps b board _ row made _ x.0.1.1 x.1 (record { settings = refl; own = λ m. refl; root = refl; height = refl; shard = refl }, refl)
  claims_keep perm (Held by) x = keeps b board _ row made _ x.0.1.1.1 x.1 (record { settings = refl; own = λ m. refl; root = refl; height = refl; shard = refl }, refl)

  pub publishes_keep : (r : Result Position NoMemory) → PublishesRow a r b row board made → KeepsBoard b row board made × (made.hand.fresh ≡ row.hand.fresh)
  publishes_keep (Ok at) x = keeps b board _ row made _ x.0.1 x.1 (record { settings = refl; own = made_same b.log (leaf_claimed b a); root = refl; height = refl; shard = refl }, refl)
  publishes_keep (Err e) x = keeps b board _ row made _ x.0 x.1 (record { settings = refl; own = λ m. refl; root = refl; height = refl; shard = refl }, refl)

  pub pins_keep : (r : Result Look NoMemory) → PinsRow a r b row board made → KeepsBoard b row board made × (made.hand.fresh ≡ row.hand.fresh)
  pins_keep (Ok look) x = keeps b board _ row made _ x.1 x.5 (record { settings = refl; own = λ m. refl; root = refl; height = refl; shard = refl }, refl)
  pins_keep (Err e) x = keeps b board _ row made _ x.0 x.1 (record { settings = refl; own = λ m. refl; root = refl; height = refl; shard = refl }, refl)

-- an allotment takes a page in hand
pub allots_keep : (b board : BoardState) (row made : ActorRow) (r : Result (Unit {0}) AllotRefusal) → AllotsRow r b row board made → KeepsBoard b row board made
allots_keep b board row made (Ok _) x = subst (λ z. KeepsBoard b row z made) (sym x.1) (subst (λ (m : ActorRow). KeepsBoard b row (record b { allotted = b.allotted + 1 }) m) (sym x.2) (record { settings = refl; own = λ m. refl; root = refl; height = refl; shard = refl }))
allots_keep b board row made (Err (PagesFull limit)) x = (keeps b board b row made _ x.2 x.3 (record { settings = refl; own = λ m. refl; root = refl; height = refl; shard = refl }, refl)).0
allots_keep b board row made (Err Memory) x = (keeps b board b row made _ x.0 x.1 (record { settings = refl; own = λ m. refl; root = refl; height = refl; shard = refl }, refl)).0

-- an actor that shows no sweep has none
pub shown_free : (o : Option SweepWork) → swept_leaf o ≡ None → o ≡ None
shown_free None h = refl
shown_free (Some w) h = absurd (none-some w.leaf (sym h))

-- who shows no pin has none
pub shown_bare : (log : List LogEvent) (o : Option Pin) → pinned_log log o ≡ None → o ≡ None
shown_bare log None h = refl
shown_bare log (Some p) h = absurd (none-some (at_position log p.at) (sym h))

-- a section of the board is an event that makes this of the board and of its actor's record
pub board_does : (s : State) (a : ℕ) {makes : BoardState → ActorRow → BoardState → ActorRow → Type 0} (t : State) (x : OnBoard s a makes t) (e : Event)
    → TurnsBoard s a (record_of s.board.settings (made_by a s.board.log) x.row) e x.board (record_of x.board.settings (made_by a s.board.log) x.made) → Does s a e t
board_does s a t x e turns =
    let its : actor_in s a ≡ actor_of s.board.settings s.board.log a x.row = get_or_from_slice_get s.actors a _ first_actor x.row_is in
    let y = subst (λ r. TurnsBoard s a r e x.board (record_of x.board.settings (made_by a s.board.log) x.made)) (sym its) turns in
    record { can = y.0; is = x.is ∙ sym y.1 }

-- the board of a core and the row of one of its actors, of which a section made these
pub on_the_board : (c : Core) (a : ℕ) (known : a < length c.actors.items) (row : ActorRow) (at : row ≡ get_or c.actors.items a row) (makes : BoardState → ActorRow → BoardState → ActorRow → Type 0) (board : BoardState) (made : ActorRow)
    → KeepsBoard c.board row board made → makes c.board row board made
    → OnBoard (state_of c) a makes (record { board = board; shards = c.shards.items; pages = c.pages.items; actors = actors_of board.settings board.log 0 (set c.actors.items a made) })
on_the_board c a known row at makes board made keeps does = record {
  row = row;
  board = board;
  made = made;
  row_is = there c a known ∙ ap Some (row_is c a known row at);
  does = does;
  is = comes_to c a known row at board board refl keeps.settings (λ m other. keeps.own m) c.shards.items c.shards.items refl c.pages.items c.pages.items refl made (λ r. record_of board.settings (made_by a c.board.log) made) (ap (λ own. record_of board.settings own made) (keeps.own a));
}

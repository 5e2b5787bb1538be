-- Commits.
use Rattle.std.proofs.Common.{◌≡◌, ℕ, ℤ, List, length, true, false, refl, sym, ap, ◌∙◌, Option, Some, None, set}
use Rattle.std.specs.Prelude.{slice_get}
use Rattle.std.proofs.lemmas.Bool.{eq-eqb}
use Rattle.std.proofs.lemmas.Option.{none-some}
use Rattle.mi_base.specs.declared.records.LogEvent.{LogEvent}
use Rattle.mi_base.specs.Configuration.{Configuration}
use Rattle.mi_base.specs.History.{is_live, updates_of}
use Rattle.mi_base.specs.Permutations.{begins, permutation_of}
use Rattle.mi_page.specs.Nodes.{Node, item_count}
use Rattle.mi_tree.specs.Legal.{cells_of}
use Rattle.mi_board.specs.Boards.{HasRoom, crowded_at}
use Rattle.mi_entries.specs.Actors.{Actor}
use Rattle.mi_entries.specs.Entries.{grid}
use Rattle.mi_core.specs.Effects.{trim_leaf}
use Rattle.mi_core.specs.Events.{Can, after}
use Rattle.mi_core.specs.Events.Event.{meet, refuse_at, visit}
use Rattle.mi_core.specs.Kept.{Kept}
use Rattle.mi_core.specs.Pages.{node_or_fresh}
use Rattle.mi_core.specs.Refusals.{IsPageFull}
use Rattle.mi_core.specs.Refusals.Refusal.{crowded, full, page_full}
use Rattle.mi_core.specs.State.{State, node_at, put_actor}
use Rattle.mi_core.proofs.ActorLemmas.{set_there}
use Rattle.mi_world.specs.declared.answers.Commit.{Commit}
use Rattle.mi_world.specs.declared.answers.Commit.TheVariants as commit
use Rattle.mi_world.specs.declared.answers.Record.{Record}
use Rattle.mi_world.specs.Claims.{holds_leaf_of}
use Rattle.mi_world.specs.Pages as world
use Rattle.mi_world.specs.Pages.{CommitsDelete, CommitsInsert, DeleteAnswer, DeleteSees, Enters, HasTaken, InsertAnswer, InsertSees, IsFullPage, IsReached, MayInsert, Recorded, delete_key, insert_key, is_crowded_leaf, key_of_record, next_number}
use Rattle.mi_world.specs.View.{Agrees, Later, SeesBoard, View}
use Rattle.mi_solo.specs.Onward.{Makes, Onward}
use Rattle.mi_solo.specs.Seeking.{EndsAfter, PointsDown, PointsRight}
use Rattle.mi_solo.specs.Viewing.{leaf_wanted, page_seen, shown_to}
use Rattle.mi_solo.proofs.CommitLemmas.{crowded_is, crowded_wanted}
use Rattle.mi_solo.proofs.DescentLemmas.{goes_down, goes_right, is_reached}
use Rattle.mi_solo.proofs.LaterLemmas.{onward}
use Rattle.mi_solo.proofs.OwnLemmas.{later_own, made, sees_own}
use Rattle.mi_solo.proofs.QuietLemmas.{same_apart, same_board, same_leaf, same_tries, same_update}

-- the leaf that an actor holds for a permutation
pub held_leaf : (perm : List ℕ) (o : Option (List ℕ)) → holds_leaf_of perm o ≡ true → (p : List ℕ) × (o ≡ Some p) × (begins p perm ≡ true)
held_leaf perm None h = absurd cc
held_leaf perm (Some p) h = (p, refl, h)

live_of : (c : Configuration) (log : List LogEvent) (id : ℕ) (o : Option Record) (x : Record) → o ≡ Some x → Agrees c log id o → is_live id (updates_of log) ≡ true
live_of c log id None x e g = absurd (none-some x e)
live_of c log id (Some y) x e g = g.0

-- where nothing is entered, only the page is noted
module _ (s : State) (k : Kept s) (a : ℕ) (r : Actor) (page seen : ℕ) where
  abbrev v : View
  v = shown_to s a r

  abbrev q : Actor
  q = record r { seen = seen; page = page }

  abbrev w : View
  w = shown_to (put_actor a (record r { seen = seen; page = page }) s) a (record r { seen = seen; page = page })

  module _ (later : Later v w) where
    pub inserts : (op id : ℕ) (vector : List ℤ) (dists : List ℕ) (result : Commit) → InsertSees v w result → InsertAnswer v w page op id vector dists result → CommitsInsert v w page op id vector dists result
    inserts op id vector dists result board answer = record {
      later = later;
      lacked = refl;
      told = refl;
      leaf = refl;
      apart = same_apart s s.pages (set s.actors a q) a r seen page r.fresh r.owed;
      floor = refl;
      fresh = refl;
      owes = refl;
      board = board;
      tries = same_tries s s.pages (set s.actors a q) a r seen page r.fresh r.owed;
      page_is = refl;
      answer = answer;
    }

    pub deletes : (op id : ℕ) (result : Commit) → DeleteSees v w result → DeleteAnswer v w page op id result → CommitsDelete v w page op id result
    deletes op id result board answer = record {
      later = later;
      lacked = refl;
      told = refl;
      leaf = refl;
      apart = same_apart s s.pages (set s.actors a q) a r seen page r.fresh r.owed;
      floor = refl;
      fresh = refl;
      owes = refl;
      board = board;
      tries = same_tries s s.pages (set s.actors a q) a r seen page r.fresh r.owed;
      page_is = refl;
      answer = answer;
    }

  pub enters_nothing : world.NotEntered v w
  enters_nothing = record { update = same_update s s.pages (set s.actors a q) a r seen page r.fresh r.owed; leaf = same_leaf s s.pages (set s.actors a q) a r seen page r.fresh r.owed }

  -- a page that is full before is full now
  pub full_page : IsPageFull s r.floor.updates page → IsFullPage v w page
  full_page f =
      let many : item_count (page_seen s r page) ≡ 32 = ap (λ o. item_count (trim_leaf r.floor.updates (node_or_fresh o))) f.there ∙ f.items in
      record { many = many; was_full = λ _. eq-eqb (item_count (page_seen s r page)) 32 many; told_full = λ _. eq-eqb (item_count (page_seen s r page)) 32 many }

module _ (s : State) (k : Kept s) (a : ℕ) (r : Actor) (there : slice_get s.actors a ≡ Some r) (going : r.ended ≡ false) (page : ℕ) where
  abbrev vv : View
  vv = shown_to s a r

  abbrev c : Configuration
  c = s.board.settings

  abbrev log : List LogEvent
  log = s.board.log

  abbrev qv : Actor
  qv = record r { page = page }

  abbrev qm : Actor
  qm = record r { seen = length s.board.log; page = page }

  module _ (node : Node) (here : node_at s.pages page ≡ Some node) where
    high_is : (node_or_fresh (node_at s.pages page)).high ≡ node.high
    high_is = ap (λ o. (node_or_fresh o).high) here

    -- a page alone is visited
    module _ (can : Can s a r (visit page)) where
      abbrev tv : State
      tv = after s a r (visit page)

      its : slice_get (set s.actors a (record r { page = page })) a ≡ Some (record r { page = page })
      its = set_there s.actors a qv r there

      on : Onward s (after s a r (visit page))
      on = onward s k a r there (visit page) can

      later : Later (shown_to s a r) (shown_to (after s a r (visit page)) a (record r { page = page }))
      later = later_own s k a r there going (visit page) can qv its

      pub insert_down : (op id : ℕ) (vector : List ℤ) (dists : List ℕ) (child : ℕ) → PointsDown node 0 (insert_key vv dists id 0) child → CommitsInsert vv (shown_to (after s a r (visit page)) a (record r { page = page })) page op id vector dists (commit.Down child)
      insert_down op id vector dists child p = inserts s k a r page r.seen later op id vector dists (commit.Down child) (same_board s s.pages (set s.actors a qv) a r r.seen page r.fresh r.owed)
          (enters_nothing s k a r page r.seen, goes_down s k tv on a r qv page node here high_is 0 (insert_key vv dists id 0) child p)

      pub delete_down : (op id child : ℕ) → PointsDown node 0 (delete_key vv id) child → CommitsDelete vv (shown_to (after s a r (visit page)) a (record r { page = page })) page op id (commit.Down child)
      delete_down op id child p = deletes s k a r page r.seen later op id (commit.Down child) (same_board s s.pages (set s.actors a qv) a r r.seen page r.fresh r.owed)
          (enters_nothing s k a r page r.seen, goes_down s k tv on a r qv page node here high_is 0 (delete_key vv id) child p)

      pub delete_right : (op id next : ℕ) → PointsRight node 0 (delete_key vv id) next → CommitsDelete vv (shown_to (after s a r (visit page)) a (record r { page = page })) page op id (commit.Right next)
      delete_right op id next p = deletes s k a r page r.seen later op id (commit.Right next) (same_board s s.pages (set s.actors a qv) a r r.seen page r.fresh r.owed)
          (enters_nothing s k a r page r.seen, goes_right s k tv on a r qv page node here high_is 0 (delete_key vv id) next p)

    module _ (can : Can s a r (meet page)) where
      pub insert_right : (op id : ℕ) (vector : List ℤ) (dists : List ℕ) (next : ℕ) → PointsRight node 0 (insert_key vv dists id (next_number vv)) next
          → CommitsInsert vv (shown_to (after s a r (meet page)) a (record r { seen = length s.board.log; page = page })) page op id vector dists (commit.Right next)
      insert_right op id vector dists next p =
          let now = set_there s.actors a qm r there in
          inserts s k a r page (length log) (later_own s k a r there going (meet page) can qm now) op id vector dists (commit.Right next) (sees_own s k a r there going (meet page) can qm now)
          (enters_nothing s k a r page (length log), goes_right s k (after s a r (meet page)) (onward s k a r there (meet page) can) a r qm page node here high_is 0 (insert_key vv dists id (next_number vv)) next p)

    -- the board or the page refuses
    module _ (why : _) (can : Can s a r (refuse_at page why)) where
      abbrev tr : State
      tr = after s a r (refuse_at page why)

      abbrev wr : View
      wr = shown_to (after s a r (refuse_at page why)) a (record r { seen = length s.board.log; page = page })

      now : slice_get (set s.actors a (record r { seen = length s.board.log; page = page })) a ≡ Some (record r { seen = length s.board.log; page = page })
      now = set_there s.actors a qm r there

      sees : SeesBoard (shown_to (after s a r (refuse_at page why)) a (record r { seen = length s.board.log; page = page }))
      sees = sees_own s k a r there going (refuse_at page why) can qm now

      later_r : Later (shown_to s a r) (shown_to (after s a r (refuse_at page why)) a (record r { seen = length s.board.log; page = page }))
      later_r = later_own s k a r there going (refuse_at page why) can qm now

      reached : (key : ℕ) → EndsAfter node 0 key → IsReached (shown_to s a r) (shown_to (after s a r (refuse_at page why)) a (record r { seen = length s.board.log; page = page })) page 0 key
      reached key e = is_reached s k tr (onward s k a r there (refuse_at page why) can) a r qm page node here high_is 0 key e

    pub insert_full : Can s a r (refuse_at page full) → (op id : ℕ) (vector : List ℤ) (dists : List ℕ) → EndsAfter node 0 (insert_key vv dists id (next_number vv))
        → CommitsInsert vv (shown_to (after s a r (refuse_at page full)) a (record r { seen = length s.board.log; page = page })) page op id vector dists (commit.Full s.board.settings.updates)
    insert_full can op id vector dists e = inserts s k a r page (length log) (later_r full can) op id vector dists (commit.Full c.updates) (sees full can)
        (enters_nothing s k a r page (length log), reached full can (insert_key vv dists id (next_number vv)) e, record { limit_is = refl; many = can.1 })

    pub delete_full : Can s a r (refuse_at page full) → (op id : ℕ) → EndsAfter node 0 (delete_key vv id)
        → CommitsDelete vv (shown_to (after s a r (refuse_at page full)) a (record r { seen = length s.board.log; page = page })) page op id (commit.Full s.board.settings.updates)
    delete_full can op id e = deletes s k a r page (length log) (later_r full can) op id (commit.Full c.updates) (sees full can)
        (enters_nothing s k a r page (length log), reached full can (delete_key vv id) e, record { limit_is = refl; many = can.1 })

    module _ (op id : ℕ) (vector : List ℤ) (dists : List ℕ) (may : MayInsert vv id vector dists) (e : EndsAfter node 0 (insert_key vv dists id (next_number vv))) (room : HasRoom s.board) where
      abbrev leaf : List ℕ
      leaf = (held_leaf (permutation_of dists) r.claim may.leaf).0

      claim : r.claim ≡ Some leaf
      claim = (held_leaf (permutation_of dists) r.claim may.leaf).1

      crowd : crowded_at s.board ((grid c).perm vector) ≡ is_crowded_leaf c log r.claim
      crowd = crowded_is c k.sound.limits log k.sound.legal leaf ((k.sound.each a r there).holds.leaf leaf claim) vector
          (ap (λ ds. begins leaf (permutation_of ds)) (sym may.measured) ∙ (held_leaf (permutation_of dists) r.claim may.leaf).2)
          ∙ ap (is_crowded_leaf c log) (sym claim)

      pub insert_crowded : Can s a r (refuse_at page (crowded vector)) → CommitsInsert vv (shown_to (after s a r (refuse_at page (crowded vector))) a (record r { seen = length s.board.log; page = page })) page op id vector dists commit.Crowded
      insert_crowded can =
          let is : is_crowded_leaf c log r.claim ≡ true = sym crowd ∙ can.1 in
          inserts s k a r page (length log) (later_r (crowded vector) can) op id vector dists commit.Crowded (sees (crowded vector) can) (
            same_update s s.pages (set s.actors a qm) a r (length log) page r.fresh r.owed,
            reached (crowded vector) can (insert_key vv dists id (next_number vv)) e,
            room,
            is,
            ap (leaf_wanted c log) claim ∙ crowded_wanted c.levels c.cell leaf (k.sound.limits.cell.0) (cells_of c log) (ap (is_crowded_leaf c log) (sym claim) ∙ is),
          )

      pub insert_page_full : Can s a r (refuse_at page (page_full page)) → crowded_at s.board ((grid s.board.settings).perm vector) ≡ false
          → CommitsInsert vv (shown_to (after s a r (refuse_at page (page_full page))) a (record r { seen = length s.board.log; page = page })) page op id vector dists commit.PageFull
      insert_page_full can calm = inserts s k a r page (length log) (later_r (page_full page) can) op id vector dists commit.PageFull (sees (page_full page) can)
          (enters_nothing s k a r page (length log), reached (page_full page) can (insert_key vv dists id (next_number vv)) e, room, sym crowd ∙ calm, full_page s k a r page (length log) can.1)

-- the same, of each event
module _ (page op id : ℕ) (node : Node) where
  abbrev At : State → Type 0
  At s = node_at s.pages page ≡ Some node

  module _ (vector : List ℤ) (dists : List ℕ) where
    pub inserts_down : (child : ℕ) → Makes (visit page) (λ s v w. node_at s.pages page ≡ Some node → PointsDown node 0 (insert_key v dists id 0) child → CommitsInsert v w page op id vector dists (commit.Down child))
    inserts_down child = made (visit page) (λ s v w. At s → PointsDown node 0 (insert_key v dists id 0) child → CommitsInsert v w page op id vector dists (commit.Down child))
        (λ s k a r there going can. (_, set_there s.actors a (record r { page = page }) r there, λ here p. insert_down s k a r there going page node here can op id vector dists child p))

    pub inserts_right : (next : ℕ) → Makes (meet page) (λ s v w. node_at s.pages page ≡ Some node → PointsRight node 0 (insert_key v dists id (next_number v)) next → CommitsInsert v w page op id vector dists (commit.Right next))
    inserts_right next = made (meet page) (λ s v w. At s → PointsRight node 0 (insert_key v dists id (next_number v)) next → CommitsInsert v w page op id vector dists (commit.Right next))
        (λ s k a r there going can. (_, set_there s.actors a (record r { seen = length s.board.log; page = page }) r there, λ here p. insert_right s k a r there going page node here can op id vector dists next p))

    pub inserts_full : Makes (refuse_at page full) (λ s v w. node_at s.pages page ≡ Some node → EndsAfter node 0 (insert_key v dists id (next_number v)) → CommitsInsert v w page op id vector dists (commit.Full s.board.settings.updates))
    inserts_full = made (refuse_at page full) (λ s v w. At s → EndsAfter node 0 (insert_key v dists id (next_number v)) → CommitsInsert v w page op id vector dists (commit.Full s.board.settings.updates))
        (λ s k a r there going can. (_, set_there s.actors a (record r { seen = length s.board.log; page = page }) r there, λ here e. insert_full s k a r there going page node here can op id vector dists e))

    pub inserts_crowded : Makes (refuse_at page (crowded vector)) (λ s v w. node_at s.pages page ≡ Some node → MayInsert v id vector dists → EndsAfter node 0 (insert_key v dists id (next_number v)) → HasRoom s.board
        → CommitsInsert v w page op id vector dists commit.Crowded)
    inserts_crowded = made (refuse_at page (crowded vector)) (λ s v w. At s → MayInsert v id vector dists → EndsAfter node 0 (insert_key v dists id (next_number v)) → HasRoom s.board → CommitsInsert v w page op id vector dists commit.Crowded)
        (λ s k a r there going can. (_, set_there s.actors a (record r { seen = length s.board.log; page = page }) r there, λ here may e room. insert_crowded s k a r there going page node here op id vector dists may e room can))

    pub inserts_page_full : Makes (refuse_at page (page_full page)) (λ s v w. node_at s.pages page ≡ Some node → MayInsert v id vector dists → EndsAfter node 0 (insert_key v dists id (next_number v)) → HasRoom s.board
        → crowded_at s.board ((grid s.board.settings).perm vector) ≡ false → CommitsInsert v w page op id vector dists commit.PageFull)
    inserts_page_full = made (refuse_at page (page_full page)) (λ s v w. At s → MayInsert v id vector dists → EndsAfter node 0 (insert_key v dists id (next_number v)) → HasRoom s.board
        → crowded_at s.board ((grid s.board.settings).perm vector) ≡ false → CommitsInsert v w page op id vector dists commit.PageFull)
        (λ s k a r there going can. (_, set_there s.actors a (record r { seen = length s.board.log; page = page }) r there, λ here may e room calm. insert_page_full s k a r there going page node here op id vector dists may e room can calm))

  pub deletes_down : (child : ℕ) → Makes (visit page) (λ s v w. node_at s.pages page ≡ Some node → PointsDown node 0 (delete_key v id) child → CommitsDelete v w page op id (commit.Down child))
  deletes_down child = made (visit page) (λ s v w. At s → PointsDown node 0 (delete_key v id) child → CommitsDelete v w page op id (commit.Down child))
      (λ s k a r there going can. (_, set_there s.actors a (record r { page = page }) r there, λ here p. delete_down s k a r there going page node here can op id child p))

  pub deletes_right : (next : ℕ) → Makes (visit page) (λ s v w. node_at s.pages page ≡ Some node → PointsRight node 0 (delete_key v id) next → CommitsDelete v w page op id (commit.Right next))
  deletes_right next = made (visit page) (λ s v w. At s → PointsRight node 0 (delete_key v id) next → CommitsDelete v w page op id (commit.Right next))
      (λ s k a r there going can. (_, set_there s.actors a (record r { page = page }) r there, λ here p. delete_right s k a r there going page node here can op id next p))

  pub deletes_full : Makes (refuse_at page full) (λ s v w. node_at s.pages page ≡ Some node → EndsAfter node 0 (delete_key v id) → CommitsDelete v w page op id (commit.Full s.board.settings.updates))
  deletes_full = made (refuse_at page full) (λ s v w. At s → EndsAfter node 0 (delete_key v id) → CommitsDelete v w page op id (commit.Full s.board.settings.updates))
      (λ s k a r there going can. (_, set_there s.actors a (record r { seen = length s.board.log; page = page }) r there, λ here e. delete_full s k a r there going page node here can op id e))

-- Which event each section of one page is: of any state that has the page and the actor's record.
use Rattle.std.proofs.Common.{◌≡◌, ℕ, ◌+◌, ◌++◌, [], ◌∷◌, ◌<◌, ◌==◌, List, length, get_or, set, cond, true, false, IsTrue, refl, sym, ap, ◌∙◌, subst, eqb-true, Option, Some, None}
use Rattle.std.specs.Prelude.{Bool}
use Rattle.std.proofs.lemmas.List.{set-get_or}
use Rattle.std.proofs.lemmas.Option.{get_or_from_slice_get}
use Rattle.mi_base.specs.Configuration.{Configuration}
use Rattle.mi_base.specs.History.{Entered}
use Rattle.mi_core.specs.Effects.{trim_leaf, trim_node}
use Rattle.mi_core.specs.Events.{Can, Event, MayPost, after, first_actor, hand}
use Rattle.mi_core.specs.Events.Event.{post, split_page, trim, visit}
use Rattle.mi_core.specs.State.{State, node_at, put_actor, put_page}
use Rattle.mi_entries.specs.Actors.{Actor}
use Rattle.mi_page.specs.Nodes.{Node, item_count, lower_half, middle_key, upper_half}
use Rattle.mi_world.specs.declared.answers.Put.{Put}
use Rattle.mi_world.specs.declared.answers.Put.TheVariants as put
use Rattle.mi_world.specs.declared.answers.Visit.{Visit}
use Rattle.mi_world.specs.declared.answers.Visit.TheVariants.{Down, Read, Right}
use Rattle.mi_solo.specs.declared.cores.Core.{Core}
use Rattle.mi_solo.specs.declared.rows.ActorRow.{ActorRow}
use Rattle.mi_solo.specs.OnPages.{KeepsRow, OnPage, TurnsPage, record_of}
use Rattle.mi_solo.specs.PageRows.{HalvesRow, HalvesWhole, PostsRow, TrimsRow}
use Rattle.mi_solo.specs.Routes.{trims_leaf}
use Rattle.mi_solo.specs.Seeking.{EndsAfter}
use Rattle.mi_solo.specs.States.{Does, actor_in, actor_of, actors_of, is_linked, state_of}
use Rattle.mi_solo.proofs.CoreLemmas.{comes_to, row_is, there}
use Rattle.mi_solo.proofs.PageLemmas.{page_here}

-- a page that is put where it is changes nothing
pub put_same : (a : ℕ) (to : Actor) (page : ℕ) (was : Node) (s : State) → node_at s.pages page ≡ Some was → put_actor a to s ≡ put_actor a to (put_page page was s)
put_same a to page was s here =
    let P : List (Option Node) → State = λ pages. record { board = s.board; shards = s.shards; pages = pages; actors = set s.actors a to } in
    ap P (sym (ap (set s.pages page) (sym here) ∙ set-get_or s.pages page None))

-- which event a post is, by its answer
abbrev pub post_event : ℕ → ℕ → ℕ → Node → Put → Event
post_event page key child n (put.Down p) = visit page
post_event page key child n (put.Right p) = visit page
post_event page key child n put.PageFull = visit page
post_event page key child n put.Done = post page n key child

module _ (s : State) (a page : ℕ) (n new : Node) (here : node_at s.pages page ≡ Some n) (c : Configuration) (own : List Entered) (row made : ActorRow) where
  -- the event makes the page and the record of this row
  abbrev Turns : Event → Type 0
  Turns e = TurnsPage s a (record_of c own row) e page new (record_of c own made)

  turns : (e : Event) (left : Node) (to : ActorRow) → new ≡ left → made ≡ to → TurnsPage s a (record_of c own row) e page left (record_of c own to) → TurnsPage s a (record_of c own row) e page new (record_of c own made)
  turns e left to same is x = subst (λ z. TurnsPage s a (record_of c own row) e page z (record_of c own made)) (sym same) (subst (λ z. TurnsPage s a (record_of c own row) e page left (record_of c own z)) (sym is) x)

  pub visit_is : new ≡ n → made ≡ record row { page = page } → TurnsPage s a (record_of c own row) (visit page) page new (record_of c own made)
  visit_is same is = turns (visit page) n (record row { page = page }) same is ((n, here), put_same a (record_of c own (record row { page = page })) page n s here)

  trimmed : n.level ≡ 0 → new ≡ trim_node row.floor.updates n → made ≡ record row { page = page } → TurnsPage s a (record_of c own row) (trim page n) page new (record_of c own made)
  trimmed leaf same is = turns (trim page n) (trim_node row.floor.updates n) (record row { page = page }) same is (record { there = here; level = leaf }, refl)

  pub trim_is : n.level ≡ 0 → (r : Visit) → TrimsRow page r n row new made → TurnsPage s a (record_of c own row) (trim page n) page new (record_of c own made)
  trim_is leaf (Down p) x = absurd x
  trim_is leaf (Right p) x = absurd x
  trim_is leaf (Read next) x = trimmed leaf x.1 x.2

  pub post_is : (level key child : ℕ) → (EndsAfter n level key → item_count n < 32 → MayPost s n key child) → (r : Put) → PostsRow page level key child r n row new made
      → TurnsPage s a (record_of c own row) (post_event page key child n r) page new (record_of c own made)
  post_is level key child may (put.Down p) x = visit_is x.1.same x.1.row_is
  post_is level key child may (put.Right p) x = visit_is x.1.same x.1.row_is
  post_is level key child may put.PageFull x = visit_is x.2.same x.2.row_is
  post_is level key child may put.Done x = turns (post page n key child) _ _ x.1.posted x.1.row_is ((here, may x.0 x.1.few), refl)

  -- a page that isn't full after a trim
  pub roomy_is : HalvesRow page None n row new made → TurnsPage s a (record_of c own row) (trims_leaf page n) page new (record_of c own made)
  roomy_is x =
      let P : Bool → Type 0 = λ b. (n.level == 0) ≡ b → new ≡ cond b (trim_node row.floor.updates n) n → TurnsPage s a (record_of c own row) (cond b (trim page n) (visit page)) page new (record_of c own made) in
      (elim (n.level == 0) as P [
        | true ↦ λ leaf same. trimmed (eqb-true n.level 0 leaf) same x.2
        | false ↦ λ inner same. visit_is same x.2
      ]) refl x.1

  -- a full page, whose upper half is linked as the fresh page
  pub halve_is : (upper : Node) → HalvesWhole page n row upper new made → item_count (trim_leaf row.floor.updates n) ≡ 32 → (child : ℕ) → row.hand.fresh ≡ Some child
      → Can s a (record_of c own row) (split_page page n) × (after s a (record_of c own row) (split_page page n) ≡ put_page child upper (put_actor a (record_of c own made) (put_page page new s)))
  halve_is upper x many child fresh =
      let f = hand row.hand.fresh in
      let left = lower_half f n in
      let to : ActorRow = record row { page = page; hand = record { fresh = None; owed = row.hand.owed ++ record { level = n.level + 1; key = middle_key n; child = f } ∷ [] } } in
      let at : ℕ → Node → Node → ActorRow → State = λ p u l m. put_page p u (put_actor a (record_of c own m) (put_page page l s)) in (
        (child, fresh, here, many),
        sym (ap (λ u. at child u new made) x.upper_is ∙ ap (λ l. at child (upper_half n) l made) x.lower ∙ ap (at child (upper_half n) left) x.row_is ∙ ap (λ p. at p (upper_half n) left to) (ap hand (sym fresh))),
      )

-- a row with a page noted alone
pub noted_keeps : (page : ℕ) (row made : ActorRow) → made ≡ record row { page = page } → KeepsRow row made
noted_keeps page row made e = record {
  seen = ap (λ (z : ActorRow). z.seen) e;
  shard = ap (λ (z : ActorRow). z.shard) e;
  claim = ap (λ (z : ActorRow). z.claim) e;
  pin = ap (λ (z : ActorRow). z.pin) e;
  fresh = ap (λ (z : ActorRow). z.hand.fresh) e;
  ended = ap (λ (z : ActorRow). z.ended) e;
}

pub trims_keep : (page : ℕ) (n new : Node) (row made : ActorRow) (answer : Visit) → TrimsRow page answer n row new made → KeepsRow row made × (made.page ≡ page)
trims_keep page n new row made (Down p) x = absurd x
trims_keep page n new row made (Right p) x = absurd x
trims_keep page n new row made (Read next) x = (noted_keeps page row made x.2, ap (λ (z : ActorRow). z.page) x.2)

-- so does a row by which a route was paid
pub posts_keep : (page level key child : ℕ) (n new : Node) (row made : ActorRow) (answer : Put) → PostsRow page level key child answer n row new made → KeepsRow row made × (made.page ≡ page)
posts_keep page level key child n new row made (put.Down p) x = (noted_keeps page row made x.1.row_is, ap (λ (z : ActorRow). z.page) x.1.row_is)
posts_keep page level key child n new row made (put.Right p) x = (noted_keeps page row made x.1.row_is, ap (λ (z : ActorRow). z.page) x.1.row_is)
posts_keep page level key child n new row made put.PageFull x = (noted_keeps page row made x.2.row_is, ap (λ (z : ActorRow). z.page) x.2.row_is)
posts_keep page level key child n new row made put.Done x = subst (λ (z : ActorRow). KeepsRow row z × (z.page ≡ page)) (sym x.1.row_is) (record { seen = refl; shard = refl; claim = refl; pin = refl; fresh = refl; ended = refl }, refl)

-- a section of a page is an event that makes this of its page and of its actor's record
pub page_does : (s : State) (a page : ℕ) {makes : Node → ActorRow → Node → ActorRow → Type 0} (t : State) (x : OnPage s a page makes t) (e : Event)
    → TurnsPage s a (actor_of s.board.settings s.board.log a x.row) e page x.new (actor_of s.board.settings s.board.log a x.made) → Does s a e t
page_does s a page t x e turns =
    let its : actor_in s a ≡ actor_of s.board.settings s.board.log a x.row = get_or_from_slice_get s.actors a _ first_actor x.row_is in
    let y = subst (λ r. TurnsPage s a r e page x.new (actor_of s.board.settings s.board.log a x.made)) (sym its) turns in
    record { can = y.0; is = x.is ∙ sym y.1 }

-- a page of a core and the row of one of its actors, of which a section made these
module _ (c : Core) (a : ℕ) (known : a < length c.actors.items) (row : ActorRow) (at : row ≡ get_or c.actors.items a row)
    (page : ℕ) (linked : IsTrue (is_linked (state_of c) page)) (read : Option Node) (was : read ≡ get_or c.pages.items page read) (node : Node) (is : read ≡ Some node) where
  pub on_page : (makes : Node → ActorRow → Node → ActorRow → Type 0) (new : Node) (made : ActorRow) → makes node row new made
      → OnPage (state_of c) a page makes (record { board = c.board; shards = c.shards.items; pages = set c.pages.items page (Some new); actors = actors_of c.board.settings c.board.log 0 (set c.actors.items a made) })
  on_page makes new made does = record {
    was = node;
    row = row;
    new = new;
    made = made;
    there = page_here c page linked read was node is;
    row_is = there c a known ∙ ap Some (row_is c a known row at);
    does = does;
    is = comes_to c a known row at c.board c.board refl refl (λ m n. refl) c.shards.items c.shards.items refl (set c.pages.items page (Some new)) (set c.pages.items page (Some new)) refl
        made (λ (r : Actor). actor_of c.board.settings c.board.log a made) refl;
  }

  -- a page that was read alone stays
  pub on_read_page : (makes : Node → ActorRow → Node → ActorRow → Type 0) (made : ActorRow) → makes node row node made
      → OnPage (state_of c) a page makes (record { board = c.board; shards = c.shards.items; pages = c.pages.items; actors = actors_of c.board.settings c.board.log 0 (set c.actors.items a made) })
  on_read_page makes made does =
      let here = page_here c page linked read was node is in
      let to = actor_of c.board.settings c.board.log a made in
      record {
        was = node;
        row = row;
        new = node;
        made = made;
        there = here;
        row_is = there c a known ∙ ap Some (row_is c a known row at);
        does = does;
        is = comes_to c a known row at c.board c.board refl refl (λ m n. refl) c.shards.items c.shards.items refl c.pages.items c.pages.items refl made (λ (r : Actor). to) refl ∙ put_same a to page node (state_of c) here;
      }

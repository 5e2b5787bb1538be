-- What never changes again, event by event.
use Rattle.std.proofs.Common.{◌≡◌, ℕ, List, [], ◌∷◌, ◌++◌, append-nil, length-append, length-set, set, refl, sym, ap, ◌∙◌, subst, arith, inl, inr, Option, Some, None, Bool, true, false, cond, get_or-set_other, get_or-set_same}
use Rattle.std.specs.Prelude.{slice_get}
use Rattle.mi_base.specs.declared.records.LogEvent.{LogEvent}
use Rattle.mi_base.specs.declared.records.LogEvent.TheVariants.{Update as Made, Split}
use Rattle.mi_base.specs.declared.records.Update.TheVariants.{Insert, Delete}
use Rattle.mi_base.specs.Configuration.{Configuration}
use Rattle.mi_page.specs.Nodes.{Node, fresh_node, lower_half, root_node, upper_half}
use Rattle.mi_core.specs.Sound.{Sound}
use Rattle.mi_core.specs.Effects.{paid, saw, post_route}
use Rattle.mi_core.specs.Events.{Can, Event, after, ended, first_actor, hand, leaf_or, made_actor, more_seen, opened}
use Rattle.mi_core.specs.Events.Event.{see, look, meet, refuse, refuse_at, visit, start, trim, miss_shard, claim_shard, release_shard, reserve, pin, unpin, claim_leaf, release_leaf, insert, delete, allot, lack, grow, split_page, post, gather, copy_in, uncopy, publish, give_up, take_sweep, take_split, no_work, sweep, fork, absorb, depart}
use Rattle.mi_core.specs.Later.{IsLater}
use Rattle.mi_core.specs.Noted.{NotesStand}
use Rattle.mi_core.proofs.NamedLemmas.{first_page}
use Rattle.mi_entries.specs.Actors.{Actor}
use Rattle.mi_core.specs.State.{State, node_at, put_actor}
use Rattle.mi_board.specs.Boards.{BoardState}
use Rattle.mi_entries.specs.Records.{Shard}
use Rattle.mi_core.proofs.ActorLemmas.{at_set, set_else}
use Rattle.std.proofs.lemmas.Option.{same_Some}
use Rattle.mi_core.proofs.DebtLemmas.{Goes}
use Rattle.mi_core.proofs.ForkEvents.{get_either}
use Rattle.mi_core.proofs.KeptLemmas.{some_none}
use Rattle.mi_core.proofs.OpeningLemmas.{get_copy}
use Rattle.mi_page.specs.Routes.{has_route, route_cmp}
use Rattle.mi_base.specs.Sorting.{put}
use Rattle.std.proofs.lemmas.Bool.{cases_eq}
use Rattle.mi_core.proofs.PageLemmas.{within}

stay : (pages : List (Option Node)) → Goes pages pages
stay pages n p h = record { now = p; there = h; level = refl; low = refl }

one_page : (pages : List (Option Node)) (page : ℕ) (node y : Node) → node_at pages page ≡ Some node → y.level ≡ node.level → y.low ≡ node.low → Goes pages (set pages page (Some y))
one_page pages page node y on level low n p h = elim (cases_eq n page) [
  | inl e ↦
      let is : p ≡ node = same_Some p node (sym h ∙ ap (node_at pages) e ∙ on) in
      record { now = y; there = ap (node_at (set pages page (Some y))) e ∙ get_or-set_same pages page (Some y) None (within pages page node on); level = level ∙ ap (λ (x : Node). x.level) (sym is); low = low ∙ ap (λ (x : Node). x.low) (sym is) }
  | inr o ↦ record { now = p; there = get_or-set_other pages page n (Some y) None o ∙ h; level = refl; low = refl }
]

-- a page that wasn't linked
add_page : (pages : List (Option Node)) (f : ℕ) (y : Node) → node_at pages f ≡ None → Goes pages (set pages f (Some y))
add_page pages f y none n p h = record { now = p; there = get_or-set_other pages f n (Some y) None (λ e. some_none p (sym h ∙ ap (node_at pages) e ∙ none)) ∙ h; level = refl; low = refl }

halved : (pages : List (Option Node)) (page : ℕ) (node n : Node) (f : ℕ) → node_at pages page ≡ Some node → node_at pages f ≡ None → n.level ≡ node.level → n.low ≡ node.low
    → Goes pages (set (set pages page (Some (lower_half f n))) f (Some (upper_half n)))
halved pages page node n f on none level low m p h =
    let one = one_page pages page node (lower_half f n) on level low m p h in
    let still : node_at (set pages page (Some (lower_half f n))) f ≡ None = get_or-set_other pages page f (Some (lower_half f n)) None (λ e. some_none node (sym on ∙ ap (node_at pages) (sym e) ∙ none)) ∙ none in
    let two = add_page (set pages page (Some (lower_half f n))) f (upper_half n) still m one.now one.there in
    record { now = two.now; there = two.there; level = two.level ∙ one.level; low = two.low ∙ one.low }

post_frame : (key child : ℕ) (node : Node) → ((post_route key child node).level ≡ node.level) × ((post_route key child node).low ≡ node.low)
post_frame key child node =
    let P : Bool → Type 0 = λ b. ((cond b node (record node { routes = put route_cmp (record { key = key; child = child }) node.routes })).level ≡ node.level) × ((cond b node (record node { routes = put route_cmp (record { key = key; child = child }) node.routes })).low ≡ node.low) in
    elim (has_route key node.routes) as P [ true ↦ (refl, refl) | false ↦ (refl, refl) ]

-- the same settings, and the same log or one event more
module _ (s : State) (a : ℕ) (r : Actor) where
  same_log : (b : BoardState) (pages : List (Option Node)) (q : Actor) → b.settings ≡ s.board.settings → b.log ≡ s.board.log → b.allotted ≡ s.board.allotted → b.height ≡ s.board.height → Goes s.pages pages → (shards : List Shard) → IsLater s (record { board = b; shards = shards; pages = pages; actors = set s.actors a q })
  same_log b pages q settings log allotted height goes shards = record {
    settings = settings;
    more = [];
    log = log ∙ sym (append-nil s.board.log);
    allotted = omega (arith, allotted);
    height = omega (arith, height);
    actors = omega (arith, length-set s.actors a q);
    pages = goes;
  }

  more_log : (b : BoardState) (pages : List (Option Node)) (q : Actor) (e : LogEvent) → b.settings ≡ s.board.settings → b.log ≡ s.board.log ++ e ∷ [] → b.allotted ≡ s.board.allotted → b.height ≡ s.board.height → Goes s.pages pages → (shards : List Shard) → IsLater s (record { board = b; shards = shards; pages = pages; actors = set s.actors a q })
  more_log b pages q e settings log allotted height goes shards = record {
    settings = settings;
    more = e ∷ [];
    log = log;
    allotted = omega (arith, allotted);
    height = omega (arith, height);
    actors = omega (arith, length-set s.actors a q);
    pages = goes;
  }

abbrev pub Follows : Event → Type 0
Follows e = (s : State) → Sound s → (a : ℕ) (r : Actor) → slice_get s.actors a ≡ Some r → Can s a r e → IsLater s (after s a r e)

pub event_leads_on : (e : Event) → Follows e
event_leads_on see = λ s k a r there can. same_log s a r _ s.pages _ refl refl refl refl (stay s.pages) _
event_leads_on look = λ s k a r there can. same_log s a r _ s.pages _ refl refl refl refl (stay s.pages) _
event_leads_on no_work = λ s k a r there can. same_log s a r _ s.pages _ refl refl refl refl (stay s.pages) _
event_leads_on (meet page) = λ s k a r there can. same_log s a r _ s.pages _ refl refl refl refl (stay s.pages) _
event_leads_on (refuse why) = λ s k a r there can. same_log s a r _ s.pages _ refl refl refl refl (stay s.pages) _
event_leads_on (refuse_at page why) = λ s k a r there can. same_log s a r _ s.pages _ refl refl refl refl (stay s.pages) _
event_leads_on (visit page) = λ s k a r there can. same_log s a r _ s.pages _ refl refl refl refl (stay s.pages) _
event_leads_on (start page) = λ s k a r there can. same_log s a r _ s.pages _ refl refl refl refl (stay s.pages) _
event_leads_on (miss_shard n) = λ s k a r there can. same_log s a r _ s.pages _ refl refl refl refl (stay s.pages) _
event_leads_on (claim_shard n kept) = λ s k a r there can. same_log s a r _ s.pages _ refl refl refl refl (stay s.pages) _
event_leads_on (release_shard n kept) = λ s k a r there can. same_log s a r _ s.pages _ refl refl refl refl (stay s.pages) _
event_leads_on (reserve n kept room) = λ s k a r there can. same_log s a r _ s.pages _ refl refl refl refl (stay s.pages) _
event_leads_on pin = λ s k a r there can. same_log s a r _ s.pages _ refl refl refl refl (stay s.pages) _
event_leads_on unpin = λ s k a r there can. same_log s a r _ s.pages _ refl refl refl refl (stay s.pages) _
event_leads_on (claim_leaf p) = λ s k a r there can. same_log s a r _ s.pages _ refl refl refl refl (stay s.pages) _
event_leads_on release_leaf = λ s k a r there can. same_log s a r _ s.pages _ refl refl refl refl (stay s.pages) _
event_leads_on lack = λ s k a r there can. same_log s a r _ s.pages _ refl refl refl refl (stay s.pages) _
event_leads_on (gather page node) = λ s k a r there can. same_log s a r _ s.pages _ refl refl refl refl (stay s.pages) _
event_leads_on (give_up pages) = λ s k a r there can. same_log s a r _ s.pages _ refl refl refl refl (stay s.pages) _
event_leads_on (take_sweep p) = λ s k a r there can. same_log s a r _ s.pages _ refl refl refl refl (stay s.pages) _
event_leads_on (take_split p) = λ s k a r there can. same_log s a r _ s.pages _ refl refl refl refl (stay s.pages) _
event_leads_on depart = λ s k a r there can. same_log s a r _ s.pages _ refl refl refl refl (stay s.pages) _
event_leads_on (trim page node) = λ s k a r there can. same_log s a r _ _ _ refl refl refl refl (one_page s.pages page node _ can.there refl refl) _
event_leads_on (copy_in page node e) = λ s k a r there can. same_log s a r _ _ _ refl refl refl refl (one_page s.pages page node _ can.0.there refl refl) _
event_leads_on (uncopy page node e told) = λ s k a r there can. same_log s a r _ _ _ refl refl refl refl (one_page s.pages page node _ can.0.there refl refl) _
event_leads_on (sweep page node) = λ s k a r there can. same_log s a r _ _ _ refl refl refl refl (one_page s.pages page node _ can.0.there refl refl) _
event_leads_on (insert op id page node kept e) = λ s k a r there can. more_log s a r _ _ _ (Made a op (Insert id e.vector)) refl refl refl refl (one_page s.pages page node _ can.may.page_is.there refl refl) _
event_leads_on (delete op id page node kept key) = λ s k a r there can. more_log s a r _ _ _ (Made a op (Delete id)) refl refl refl refl (one_page s.pages page node _ can.may.page_is.there refl refl) _
event_leads_on publish = λ s k a r there can. more_log s a r _ _ _ (Split (leaf_or r.claim)) refl refl refl refl (stay s.pages) _
event_leads_on (post page node key child) = λ s k a r there can. same_log s a r _ _ _ refl refl refl refl (one_page s.pages page node (post_route key child node) can.0 (post_frame key child node).0 (post_frame key child node).1) _
event_leads_on allot = λ s k a r there can. record { settings = refl; more = []; log = sym (append-nil s.board.log); allotted = omega arith; height = omega arith; actors = omega (arith, length-set s.actors a (record (saw s.board r) { fresh = Some s.board.allotted })); pages = stay s.pages }
event_leads_on (grow level key child) = λ s k a r there can. record {
  settings = refl;
  more = [];
  log = sym (append-nil s.board.log);
  allotted = omega arith;
  height = (let n = can.2 in omega arith);
  actors = omega (arith, length-set s.actors a (record (saw s.board r) { fresh = None; owed = paid child r.owed }));
  pages = subst (λ (o : Option ℕ). Goes s.pages (set s.pages (hand o) (Some (root_node level s.board.root key child)))) (sym can.1) (add_page s.pages can.0 _ ((k.each a r there).fresh can.0 can.1).1);
}
event_leads_on (split_page page node) = λ s k a r there can.
    same_log s a r _ _ _ refl refl refl refl
    (subst (λ (o : Option ℕ). Goes s.pages (set (set s.pages page (Some (lower_half (hand o) node))) (hand o) (Some (upper_half node)))) (sym can.1) (halved s.pages page node node can.0 can.2 ((k.each a r there).fresh can.0 can.1).1 refl refl)) _
event_leads_on fork = λ s k a r there can. record { settings = refl; more = []; log = sym (append-nil s.board.log); allotted = omega arith; height = omega arith; actors = omega (arith, length-append (set s.actors a (saw s.board r)) (made_actor s.board r.floor ∷ []), length-set s.actors a (saw s.board r)); pages = stay s.pages }
event_leads_on (absorb b t) = λ s k a r there can. record { settings = refl; more = []; log = sym (append-nil s.board.log); allotted = omega arith; height = omega arith; actors = omega (arith, length-set (set s.actors a (more_seen t r)) b (ended t), length-set s.actors a (more_seen t r)); pages = stay s.pages }

-- a note of a page that is linked
noted_on : (s t : State) → Goes s.pages t.pages → ((b : ℕ) (z : Actor) → slice_get t.actors b ≡ Some z → (n : Node) × (node_at s.pages z.page ≡ Some n)) → NotesStand t.pages t.actors
noted_on s t goes each b z e = let o = each b z e in let m = goes z.page o.0 o.1 in (m.now, m.there)

-- one actor notes another page, or none
noted_set : (s : State) → NotesStand s.pages s.actors → (a : ℕ) (r q : Actor) → slice_get s.actors a ≡ Some r → (n : Node) × (node_at s.pages q.page ≡ Some n)
    → (b : ℕ) (z : Actor) → slice_get (set s.actors a q) b ≡ Some z → (n : Node) × (node_at s.pages z.page ≡ Some n)
noted_set s h a r q there its b z e = elim (at_set s.actors a b q z e) [
  | inl m ↦ subst (λ (x : Actor). (n : Node) × (node_at s.pages x.page ≡ Some n)) m.1 its
  | inr m ↦ h b z m.1
]

abbrev pub KeepsNotes : Event → Type 0
KeepsNotes e = (s : State) → Sound s → NotesStand s.pages s.actors → (a : ℕ) (r : Actor) → slice_get s.actors a ≡ Some r → Can s a r e → NotesStand (after s a r e).pages (after s a r e).actors

pub event_keeps_notes : (e : Event) → KeepsNotes e
event_keeps_notes see = λ s k h a r there can. noted_on s (after s a r see) (event_leads_on see s k a r there can).pages (noted_set s h a r _ there (h a r there))
event_keeps_notes look = λ s k h a r there can. noted_on s (after s a r look) (event_leads_on look s k a r there can).pages (noted_set s h a r _ there (h a r there))
event_keeps_notes no_work = λ s k h a r there can. noted_on s (after s a r no_work) (event_leads_on no_work s k a r there can).pages (noted_set s h a r _ there (h a r there))
event_keeps_notes (miss_shard n) = λ s k h a r there can. noted_on s (after s a r (miss_shard n)) (event_leads_on (miss_shard n) s k a r there can).pages (noted_set s h a r _ there (h a r there))
event_keeps_notes (claim_shard n kept) = λ s k h a r there can. noted_on s (after s a r (claim_shard n kept)) (event_leads_on (claim_shard n kept) s k a r there can).pages (noted_set s h a r _ there (h a r there))
event_keeps_notes (release_shard n kept) = λ s k h a r there can. noted_on s (after s a r (release_shard n kept)) (event_leads_on (release_shard n kept) s k a r there can).pages (noted_set s h a r _ there (h a r there))
event_keeps_notes (reserve n kept room) = λ s k h a r there can. noted_on s (after s a r (reserve n kept room)) (event_leads_on (reserve n kept room) s k a r there can).pages (noted_set s h a r _ there (h a r there))
event_keeps_notes pin = λ s k h a r there can. noted_on s (after s a r pin) (event_leads_on pin s k a r there can).pages (noted_set s h a r _ there (h a r there))
event_keeps_notes unpin = λ s k h a r there can. noted_on s (after s a r unpin) (event_leads_on unpin s k a r there can).pages (noted_set s h a r _ there (h a r there))
event_keeps_notes (claim_leaf p) = λ s k h a r there can. noted_on s (after s a r (claim_leaf p)) (event_leads_on (claim_leaf p) s k a r there can).pages (noted_set s h a r _ there (h a r there))
event_keeps_notes release_leaf = λ s k h a r there can. noted_on s (after s a r release_leaf) (event_leads_on release_leaf s k a r there can).pages (noted_set s h a r _ there (h a r there))
event_keeps_notes lack = λ s k h a r there can. noted_on s (after s a r lack) (event_leads_on lack s k a r there can).pages (noted_set s h a r _ there (h a r there))
event_keeps_notes (give_up pages) = λ s k h a r there can. noted_on s (after s a r (give_up pages)) (event_leads_on (give_up pages) s k a r there can).pages (noted_set s h a r _ there (h a r there))
event_keeps_notes (take_sweep p) = λ s k h a r there can. noted_on s (after s a r (take_sweep p)) (event_leads_on (take_sweep p) s k a r there can).pages (noted_set s h a r _ there (h a r there))
event_keeps_notes (take_split p) = λ s k h a r there can. noted_on s (after s a r (take_split p)) (event_leads_on (take_split p) s k a r there can).pages (noted_set s h a r _ there (h a r there))
event_keeps_notes depart = λ s k h a r there can. noted_on s (after s a r depart) (event_leads_on depart s k a r there can).pages (noted_set s h a r _ there (h a r there))
event_keeps_notes publish = λ s k h a r there can. noted_on s (after s a r publish) (event_leads_on publish s k a r there can).pages (noted_set s h a r _ there (h a r there))
event_keeps_notes allot = λ s k h a r there can. noted_on s (after s a r allot) (event_leads_on allot s k a r there can).pages (noted_set s h a r _ there (h a r there))
event_keeps_notes (grow level key child) = λ s k h a r there can. noted_on s (after s a r (grow level key child)) (event_leads_on (grow level key child) s k a r there can).pages (noted_set s h a r _ there (h a r there))
event_keeps_notes (meet page) = λ s k h a r there can. noted_on s (after s a r (meet page)) (event_leads_on (meet page) s k a r there can).pages (noted_set s h a r _ there can)
event_keeps_notes (refuse why) = λ s k h a r there can. noted_on s (after s a r (refuse why)) (event_leads_on (refuse why) s k a r there can).pages (noted_set s h a r _ there (h a r there))
event_keeps_notes (refuse_at page why) = λ s k h a r there can. noted_on s (after s a r (refuse_at page why)) (event_leads_on (refuse_at page why) s k a r there can).pages (noted_set s h a r _ there can.0)
event_keeps_notes (visit page) = λ s k h a r there can. noted_on s (after s a r (visit page)) (event_leads_on (visit page) s k a r there can).pages (noted_set s h a r _ there can)
event_keeps_notes (start page) = λ s k h a r there can. noted_on s (after s a r (start page)) (event_leads_on (start page) s k a r there can).pages (noted_set s h a r _ there can.3)
event_keeps_notes (trim page node) = λ s k h a r there can. noted_on s (after s a r (trim page node)) (event_leads_on (trim page node) s k a r there can).pages (noted_set s h a r _ there (node, can.there))
event_keeps_notes (insert op id page node kept e) = λ s k h a r there can. noted_on s (after s a r (insert op id page node kept e)) (event_leads_on (insert op id page node kept e) s k a r there can).pages (noted_set s h a r _ there (node, can.may.page_is.there))
event_keeps_notes (delete op id page node kept key) = λ s k h a r there can. noted_on s (after s a r (delete op id page node kept key)) (event_leads_on (delete op id page node kept key) s k a r there can).pages (noted_set s h a r _ there (node, can.may.page_is.there))
event_keeps_notes (split_page page node) = λ s k h a r there can. noted_on s (after s a r (split_page page node)) (event_leads_on (split_page page node) s k a r there can).pages (noted_set s h a r _ there (node, can.2))
event_keeps_notes (post page node key child) = λ s k h a r there can. noted_on s (after s a r (post page node key child)) (event_leads_on (post page node key child) s k a r there can).pages (noted_set s h a r _ there (node, can.0))
event_keeps_notes (gather page node) = λ s k h a r there can. noted_on s (after s a r (gather page node)) (event_leads_on (gather page node) s k a r there can).pages (noted_set s h a r _ there (node, can.0.there))
event_keeps_notes (copy_in page node e) = λ s k h a r there can. noted_on s (after s a r (copy_in page node e)) (event_leads_on (copy_in page node e) s k a r there can).pages (noted_set s h a r _ there (node, can.0.there))
event_keeps_notes (uncopy page node e told) = λ s k h a r there can. noted_on s (after s a r (uncopy page node e told)) (event_leads_on (uncopy page node e told) s k a r there can).pages (noted_set s h a r _ there (node, can.0.there))
event_keeps_notes (sweep page node) = λ s k h a r there can. noted_on s (after s a r (sweep page node)) (event_leads_on (sweep page node) s k a r there can).pages (noted_set s h a r _ there (node, can.0.there))
event_keeps_notes fork = λ s k h a r there can. noted_on s (after s a r fork) (stay s.pages) (λ b z e. elim (get_either (set s.actors a (saw s.board r)) (made_actor s.board r.floor) b z e) [
  | inl m ↦ noted_set s h a r (saw s.board r) there (h a r there) b z m
  | inr m ↦ subst (λ (x : Actor). (n : Node) × (node_at s.pages x.page ≡ Some n)) m.1 (let x = first_page s k in (x.0, x.1))
])
event_keeps_notes (absorb o t) = λ s k h a r there can.
    let one : NotesStand s.pages (put_actor a (more_seen t r) s).actors = noted_on s (put_actor a (more_seen t r) s) (stay s.pages) (noted_set s h a r (more_seen t r) there (h a r there)) in
    noted_on (put_actor a (more_seen t r) s) (after s a r (absorb o t)) (stay s.pages) (noted_set (put_actor a (more_seen t r) s) one o t (ended t) (set_else s.actors a o (more_seen t r) can.0 ∙ can.1) (h o t can.1))

pub opened_notes : (c : Configuration) (count more : ℕ) → NotesStand (opened c count more).pages (opened c count more).actors
opened_notes c count more a r e = subst (λ (x : Actor). (n : Node) × (node_at (opened c count more).pages x.page ≡ Some n)) (get_copy count a first_actor r e) (fresh_node, refl)

-- A new root keeps what is kept.
use Rattle.std.proofs.Common.{◌≡◌, ◌≢◌, ℕ, ◌+◌, ◌<◌, ◌==◌, List, [], ◌∷◌, length, set, cond, refl, sym, ap, ◌∙◌, subst, arith, Option, Some, None, inl, inr, length-set, get_or-set_other, get_or-set_same, eq-eqb}
use Rattle.std.specs.Prelude.{slice_get}
use Rattle.std.proofs.lemmas.Bool.{cases_eq, ne_eqb}
use Rattle.mi_base.specs.History.{entered, events_at}
use Rattle.mi_page.specs.Nodes.{Node, root_node}
use Rattle.mi_core.specs.Actors.{Suits}
use Rattle.mi_board.specs.Boards.{floor_of, BoardState}
use Rattle.mi_core.specs.Effects.{paid, saw}
use Rattle.mi_core.specs.Events.{after, hand}
use Rattle.mi_core.specs.Events.Event.{grow}
use Rattle.mi_forest.specs.Forests.{Forest, IsForest, IsLinked, all_entries, occurrence}
use Rattle.mi_core.specs.Sound.{Sound}
use Rattle.mi_forest.specs.Changes.{GrowsRoot}
use Rattle.mi_core.specs.Pages.{ArePages, forest_of, has_page, is_page, node_or_fresh}
use Rattle.mi_entries.specs.Splits.{AreEntries}
use Rattle.mi_core.specs.State.{count_if, State, node_at, put_actor, put_board, put_page}
use Rattle.mi_entries.specs.Actors.{Actor}
use Rattle.mi_core.proofs.ActorLemmas.{claims_by, count_set, each_set, holders_by, retired_by, set_else, sweeps_by, works_by}
use Rattle.std.proofs.lemmas.Option.{none-some}
use Rattle.mi_entries.proofs.ContentLemmas.{entries_stay}
use Rattle.mi_forest.proofs.GrowLemmas.{grows_back, grows_flat, grows_grown, grows_keep, grows_new}
use Rattle.mi_core.proofs.HalveEvents.{count_some}
use Rattle.mi_forest.proofs.HandLemmas.{hand_once}
use Rattle.mi_tree.proofs.ListLemmas.{all_weaker}

module _ (s : State) (k : Sound s) (a : ℕ) (r : Actor) (there : slice_get s.actors a ≡ Some r) (level key child f : ℕ) (has : r.fresh ≡ Some f)
    (next : s.board.height + 1 ≡ level) (above : 0 < key) (n : Node) (on : node_at s.pages child ≡ Some n) (height : n.level ≡ s.board.height) (low : n.low ≡ key) where
  abbrev q : Actor
  q = record (saw s.board r) { fresh = None; owed = paid child r.owed }

  abbrev b' : BoardState
  b' = record s.board { root = f; height = level }

  abbrev actors' : List Actor
  actors' = set s.actors a q

  abbrev root' : Node
  root' = root_node level s.board.root key child

  abbrev pages' : List (Option Node)
  pages' = set s.pages f (Some root')

  abbrev chain' : ℕ → List ℕ
  chain' l = cond (l == level) (f ∷ []) (k.chain l)

  abbrev old : Forest
  old = forest_of s.board s.pages s.actors k.chain

  abbrev new : Forest
  new = forest_of b' pages' actors' chain'

  mine : Suits s.board s.shards s.pages a r
  mine = k.each a r there

  hand_is : (f < s.board.allotted) × (node_at s.pages f ≡ None)
  hand_is = mine.fresh f has

  within_pages : f < length s.pages
  within_pages = let m = k.pages.most in let n = hand_is.0 in omega (arith, k.pages.length_is)

  fresh_there : node_at pages' f ≡ Some root'
  fresh_there = get_or-set_same s.pages f (Some root') None within_pages

  other_there : (m : ℕ) → m ≢ f → node_at pages' m ≡ node_at s.pages m
  other_there m o = get_or-set_other s.pages f m (Some root') None o

  held_is : (m : ℕ) → count_if (has_page m) actors' + occurrence m f ≡ count_if (has_page m) s.actors
  held_is m =
      let n = count_set (has_page m) s.actors a q r there in
      let was : cond {A = ℕ} (has_page m r) 1 0 ≡ occurrence m f = ap (λ (o : Option ℕ). cond {A = ℕ} (is_page m o) 1 0) has in
      omega (arith, n, was)

  some_held : 0 < old.held f
  some_held = count_some (has_page f) s.actors a r there (ap (is_page f) has ∙ eq-eqb f f refl)

  child_is : old.node child ≡ n
  child_is = ap node_or_fresh on

  next_is : (old.node old.root).level + 1 ≡ level
  next_is = ap (λ l. l + 1) k.pages.height ∙ next

  grows : GrowsRoot old new f key child
  grows = record {
    linked = k.pages.linked child n on;
    height = ap (λ (n : Node). n.level) child_is ∙ height ∙ sym k.pages.height;
    low = ap (λ (n : Node). n.low) child_is ∙ low;
    above = above;
    fresh = some_held;
    node = ap node_or_fresh fresh_there ∙ ap (λ l. root_node l s.board.root key child) (sym next_is);
    others = λ m o. ap node_or_fresh (other_there m o);
    chain = ap chain' next_is ∙ ap (λ b. cond b (f ∷ []) (k.chain level)) (eq-eqb level level refl);
    chains = λ l o. ap (λ b. cond b (f ∷ []) (k.chain l)) (ne_eqb l level (λ e. o (e ∙ sym next_is)));
    root = refl;
    allotted = refl;
    held = held_is;
  }

  forest : IsForest new
  forest = grows_keep old new k.pages.forest f key child grows

  root_level : (node_or_fresh (node_at pages' f)).level ≡ level
  root_level = ap (λ (o : Option Node). (node_or_fresh o).level) fresh_there

  pages_are : ArePages b' pages' actors' chain'
  pages_are =
      let p = k.pages in
      record {
        forest = forest;
        linked = linked;
        there = is_there;
        height = root_level;
        length_is = length-set s.pages f (Some root') ∙ p.length_is;
        most = p.most;
        passed_over = p.passed_over;
      }
    where
      linked : (m : ℕ) (z : Node) → node_at pages' m ≡ Some z → IsLinked new m
      linked m z e = elim (cases_eq m f) [
        | inl h ↦ subst (IsLinked new) (sym h) (grows_new old new k.pages.forest f key child grows)
        | inr h ↦ (grows_grown old new k.pages.forest f key child grows).linked m (k.pages.linked m z (sym (other_there m h) ∙ e))
      ]

      is_there : (m : ℕ) → IsLinked new m → (z : Node) × (node_at pages' m ≡ Some z)
      is_there m l = elim (cases_eq m f) [
        | inl h ↦ (root', ap (node_at pages') h ∙ fresh_there)
        | inr h ↦ let t = k.pages.there m (grows_back old new k.pages.forest f key child grows m h l) in (t.0, other_there m h ∙ t.1)
      ]

  -- another's fresh page is another one, and stays fresh
  fresh_on : (b : ℕ) (t : Actor) → b ≢ a → slice_get s.actors b ≡ Some t → (p : ℕ) → t.fresh ≡ Some p → node_at s.pages p ≡ None → node_at pages' p ≡ None
  fresh_on b t n e p h none =
      let alone : p ≢ f = λ same.
      let all = (hand_once old k.pages.forest f some_held).0 in
      let left = held_is f in
      let more = count_some (has_page f) actors' b t (set_else s.actors a b q n ∙ e) (ap (is_page f) (h ∙ ap Some same) ∙ eq-eqb f f refl) in
      let here : occurrence f f ≡ 1 = ap (λ z. cond {A = ℕ} z 1 0) (eq-eqb f f refl) in
      omega arith in
      other_there p alone ∙ none

  own' : Suits b' s.shards pages' a q
  own' =
      let h = mine.holds in
      record {
        saw = (let v = mine.saw in record { seen = omega arith; floor = v.floor; low = v.low; pin = v.pin });
        own = mine.own;
        holds = record { claim = h.claim; reserved = h.reserved; pin = h.pin; shard = h.shard; leaf = h.leaf; split = h.split; room = h.room };
        sweep = mine.sweep;
        fresh = λ p e. absurd (none-some p e);
      }

  others' : (b : ℕ) (t : Actor) → b ≢ a → slice_get s.actors b ≡ Some t → Suits b' s.shards pages' b t
  others' b t n e =
      let o = k.each b t e in
      let h = o.holds in
      record {
        saw = (let v = o.saw in record { seen = v.seen; floor = v.floor; low = v.low; pin = v.pin });
        own = o.own;
        holds = record { claim = h.claim; reserved = h.reserved; pin = h.pin; shard = h.shard; leaf = h.leaf; split = h.split; room = h.room };
        sweep = o.sweep;
        fresh = λ p h. let m = o.fresh p h in (m.0, fresh_on b t n e p h m.1);
      }

  grown : Sound (put_actor a q (put_page f root' (put_board b' s)))
  grown = record {
    limits = k.limits;
    metric = k.metric;
    chain = chain';
    pages = pages_are;
    entries = subst (AreEntries s.board.settings s.board.log (events_at (floor_of s.board)) actors' s.board.retired) (sym (grows_flat old new k.pages.forest f key child grows))
        (entries_stay s.actors actors' (works_by s.actors a r q there refl refl) s.board.settings s.board.log (events_at (floor_of s.board)) s.board.retired (all_entries old) k.entries);
    each = each_set s.actors a r q there (λ b t. Suits b' s.shards pages' b t) own' others';
    retired = retired_by s.actors a r q there refl s.board.log s.board.retired k.retired;
    order = k.order;
    sixteen = k.sixteen;
    holders = λ n b h. holders_by s.actors a r q there refl n b (k.holders n b h);
    claims = claims_by s.actors a r q there refl k.claims;
    sweeps = sweeps_by s.actors a r q there refl k.sweeps;
    records = k.records;
    counted = k.counted ∙ sym (length-set s.actors a q);
    made = all_weaker _ _ (λ m l. omega (arith, l, length-set s.actors a q)) (entered s.board.log) k.made;
    legal = k.legal;
  }

  pub grow_event : Sound (after s a r (grow level key child))
  grow_event = subst (λ (o : Option ℕ). Sound (put_actor a q (put_page (hand o) root' (put_board (record s.board { root = hand o; height = level }) s)))) (sym has) grown

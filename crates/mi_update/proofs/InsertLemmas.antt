-- An insert from section to section.
use Rattle.std.proofs.Common.{◌≡◌, ℕ, ◌+◌, ◌*◌, ◌<◌, ◌≤◌, List, [], ◌∷◌, ◌++◌, length, Bool, true, false, ◌||◌, ◌&&◌, ◌==◌, IsTrue, cond, Some, None, Option, refl, sym, ap, ◌∙◌, subst, arith, rules, inl, inr, min, ℤ}
use Rattle.std.specs.Prelude.{is_some, IfSome, Ok, Err, IsSome, unwrap_or}
use Rattle.std.specs.List.{fold}
use Rattle.std.proofs.lemmas.List.Sums.{fold-append}
use Rattle.std.proofs.Math.Nat.{mul-le-mul_right}
use Rattle.mi_base.specs.declared.records.LogEvent.{LogEvent}
use Rattle.mi_base.specs.declared.records.LogEvent.TheVariants.{Update as Made, Split}
use Rattle.mi_base.specs.declared.records.Update.TheVariants as update
use Rattle.mi_base.specs.History.{Entered, updates_of, is_live, end_of}
use Rattle.mi_base.specs.Permutations.{begins, key_distance}
use Rattle.mi_tree.specs.declared.answers.AllotRefusal.TheVariants as allot
use Rattle.mi_tree.specs.declared.answers.LeafClaim.TheVariants as claim
use Rattle.mi_tree.specs.declared.answers.Look.{Look}
use Rattle.mi_tree.specs.declared.answers.ReserveRefusal.TheVariants as reserve
use Rattle.mi_tree.specs.declared.outcomes.Leaf.{Leaf}
use Rattle.mi_tree.specs.Cells.{Grid, depth, depth_after, leaf_of}
use Rattle.mi_tree.proofs.GrowingLemmas.{end_events, end_is, at_end}
use Rattle.mi_legal.proofs.GainedLemmas.{number_gained, before_gained}
use Rattle.mi_world.specs.declared.answers.Commit.TheVariants as commit
use Rattle.mi_world.specs.declared.answers.Parted.TheVariants as part
use Rattle.mi_world.specs.declared.answers.Record.{Record}
use Rattle.mi_world.specs.declared.answers.ShardClaim.TheVariants as shard_claim
use Rattle.mi_world.specs.View.{View, Later, SameApart, SameUpdate, SameWork, shard_of, Agrees, SeesBoard, prefix_or}
use Rattle.mi_world.specs.Boards.{Looks, Reserves, Allots, Tells}
use Rattle.mi_world.specs.Claims.{ClaimsLeaf, ClaimsShard, ReleasesLeaf, ReleasesShard, holds_leaf_of}
use Rattle.mi_world.specs.Pages.{CommitsInsert, IsChildAt, PartsPage, GoesDown, GoesRight, insert_key, next_number}
use Rattle.mi_tree.specs.Placing.{grid_under}
use Rattle.mi_world.proofs.ViewLemmas.{may_seek_keeps, key_rises}
use Rattle.mi_blink.specs.declared.post.Post.{Post}
use Rattle.mi_blink.specs.declared.post.PostTurn.TheVariants.{More, Done, Left, Memory}
use Rattle.mi_blink.specs.declared.turns.Turn.{Turn}
use Rattle.mi_blink.specs.declared.turns.Turn.TheVariants as turn
use Rattle.mi_blink.specs.Descents.{descent, longest, budget, Falls, IsRoot, post_most}
use Rattle.mi_blink.specs.Posting as posting
use Rattle.mi_blink.specs.Posting.{OwesOnly}
use Rattle.mi_blink.proofs.DescentLemmas.{root_keeps, descent_longest, descent_keeps, down_less, right_less, budget_stays, budget_allots, budget_uses}
use Rattle.mi_blink.proofs.OthersLemmas.{begun_ready}
use Rattle.mi_blink.proofs.PostLemmas.{owes_only_stays, excused_before}
use Rattle.mi_blink.proofs.TurnLemmas.{left_most}
use Rattle.mi_update.specs.declared.endings.Ending.{Ending}
use Rattle.mi_update.specs.declared.endings.Ending.TheVariants as ending
use Rattle.mi_update.specs.declared.insert.InsertOp.{InsertOp}
use Rattle.mi_update.specs.declared.insert.InsertState.{InsertState}
use Rattle.mi_update.specs.declared.insert.InsertState.TheVariants.{Begin, Looking, Reserving, Claiming, Committing, Splitting, Allotting, Halving, Posting, Unclaiming, Releasing, Over}
use Rattle.mi_update.specs.Endings.{Answered, IsRight, reply_of}
use Rattle.mi_update.specs.Stepping.{Advances, HoldsShard}
use Rattle.mi_update.specs.Inserting.{Makes, made, number_at, pending_in, since_at, Ready, Fits, Prepared, Seeking, Seeks, HasLeaf, StateIsReady, PostIsReady, Since, Turned, Waits, Crowds, Follows, root_after, root_of_post, left_in, post_left, posts_of, splits_left, round, perm_in, asked}
use Rattle.mi_update.proofs.SteppingLemmas.{advances_none, answered_stays, ends_stay, enters_last, own_kept, reaches_last, seen_more}

-- splits that others make leave fewer
step_rises : (perm : List ℕ) (d : ℕ) (e : LogEvent) → d ≤ depth_after perm d e
step_rises perm d (Made session op u) = omega arith
step_rises perm d (Split p) = let P : Bool → Type 0 = λ b. d ≤ cond b (d + 1) d in elim ((length p == d) && begins p perm) as P [ true ↦ omega arith | false ↦ omega arith ]

fold_rises : (perm : List ℕ) (d : ℕ) (es : List LogEvent) → d ≤ fold (depth_after perm) d es
fold_rises perm d [] = omega arith
fold_rises perm d (e ∷ es) = omega (arith, step_rises perm d e, fold_rises perm (depth_after perm d e) es)

pub depth_rises : (g : Grid) (log more : List LogEvent) (perm : List ℕ) → depth g log perm ≤ depth g (log ++ more) perm
depth_rises g log more perm = rw (fold-append (depth_after perm) (min 1 g.pivots) log more) (fold_rises perm (depth g log perm) more)

pub splits_fall : (op : InsertOp) (v w : View) → Later v w → splits_left op w ≤ splits_left op v
splits_fall op v w l = rw (l.settings, l.grows.is) (omega (arith, depth_rises (grid_under v.settings) v.seen l.grows.by (perm_in op)))

-- the number of one phase falls
falls_in : (split : ℕ) (op : InsertOp) (v w : View) (x y : ℕ) → Later v w → w.fresh ≡ v.fresh → y < x
    → Falls v (splits_left op v * round split + x) w (splits_left op w * round split + y)
falls_in split op v w x y l f h =
    let m : splits_left op w * round split ≤ splits_left op v * round split = mul-le-mul_right (round split) (splits_fall op v w l) in
    inr (budget_stays v w l f, omega (arith, m, h))

pub fits_stay : (vector : List ℤ) (dists : List ℕ) (v w : View) → Later v w → SameApart v w → Fits vector dists v → Fits vector dists w
fits_stay vector dists v w l a h = record {
  measured = rw l.settings h.measured;
  fits = rw l.settings h.fits;
  idle = a.sweep.sweep ∙ h.idle;
  unsplit = a.split.splitting ∙ h.unsplit;
}

pub prepared_stays : (id root : ℕ) (v w : View) → Later v w → SameUpdate v w → Prepared id root v → Prepared id root w
prepared_stays id root v w l u h = record {
  shard = u.shard ∙ h.shard;
  absent = ap (λ (f : ℕ → Option Record). f id) u.records ∙ h.absent;
  reserved = u.reserved ∙ h.reserved;
  root_is = root_keeps v w root l h.root_is;
}

pub leaf_stays : (leaf : Option Leaf) (v w : View) → w.leaf ≡ v.leaf → HasLeaf leaf v → HasLeaf leaf w
leaf_stays None v w e h = h
leaf_stays (Some leaf) v w e h = e ∙ h

pub seeking_stays : (id root : ℕ) (dists : List ℕ) (leaf : Option Leaf) (v w : View) (page : ℕ) → Later v w → w.leaf ≡ v.leaf → SameUpdate v w
    → Seeking id root dists leaf v page → Seeking id root dists leaf w page
seeking_stays id root dists leaf v w page l e u h = record {
  prepared = prepared_stays id root v w l u h.prepared;
  claimed = rw e h.claimed;
  leaf_is = leaf_stays leaf v w e h.leaf_is;
  seeks = may_seek_keeps v w page dists id l e h.seeks;
  small = rw (l.level page h.seeks.named) h.small;
}

owes_stay : (v w : View) → Later v w → w.owes ≡ v.owes → (owed : ℕ → Bool) → OwesOnly owed (λ p. false) v → OwesOnly owed (λ p. false) w
owes_stay v w l f owed h = owes_only_stays owed (λ p. false) v w l f h

-- a section from one state to another
pub goes_on : (op : InsertOp) (v w : View) (s₀ s : InsertState) (root : ℕ) (leaf : Option Leaf) (post : Option Post) → Ready op v → op.state ≡ s₀ → Later v w → SameApart v w
    → Advances op.op (made op) (number_at s₀) (number_at s) (since_at s₀ v.seen) (since_at s w.seen) v w
    → ((owed : ℕ → Bool) → OwesOnly owed (pending_in s₀ op.post) v → OwesOnly owed (pending_in s post) w)
    → StateIsReady s (record op { state = s; root = root; leaf = leaf; post = post }) w
    → Follows s₀ s root w
    → root ≡ root_after s₀ s op.post op.root w
    → ((split : ℕ) → IsTrue w.tells_full → Falls v (splits_left op v * round split + left_in split s₀ op.post v) w (splits_left op w * round split + left_in split s post w))
    → Makes s₀ op v (record op { state = s; root = root; leaf = leaf; post = post }) w
    → Turned op v turn.More (record op { state = s; root = root; leaf = leaf; post = post }) w
goes_on op v w s₀ s root leaf post ready e l a advances owes state follows root_is falls makes =
    record {
      id_is = refl;
      op_is = refl;
      vector_is = refl;
      dists_are = refl;
      later = l;
      apart = a;
      advances = rw e (record { enters = advances.enters; not_before = advances.not_before });
      owes = λ owed. rw e (owes owed);
      follows = rw e follows;
      root_is = subst (λ x. root ≡ root_after x s op.post op.root w) (sym e) root_is;
      makes = subst (λ x. Makes x op v (record op { state = s; root = root; leaf = leaf; post = post }) w) (sym e) makes;
      outcome = (record { fits = fits_stay op.vector op.dists.items v w l a ready.fits; state = state }, λ split t. rw e (falls split t));
    }

-- what a section answered and made, told as one answer and one state
pub so_turned : (op new back : InsertOp) (v w : View) (answer told : Turn) → new ≡ back → answer ≡ told → Turned op v told back w → Turned op v answer new w
so_turned op new back v w answer told f e t = subst (λ a. Turned op v a new w) (sym e) (subst (λ n. Turned op v told n w) (sym f) t)

-- a section that finds a claim held
stands_still : (op : InsertOp) (v w : View) (s : InsertState) → Ready op v → op.state ≡ s → Later v w → SameApart v w → w.own ≡ v.own → w.owes ≡ v.owes
    → number_at s ≡ None → since_at s v.seen ≤ since_at s w.seen → ((owed : ℕ → Bool) → OwesOnly owed (pending_in s op.post) v → OwesOnly owed (pending_in s op.post) w)
    → Follows s s op.root w → op.root ≡ root_after s s op.post op.root w → StateIsReady s op w → Rattle.mi_update.specs.Inserting.FindsHeld op w → Makes s op v op w → Turned op v turn.Held op w
stands_still op v w s ready e l a own owes none since owed follows root_is state held makes = record {
  id_is = refl;
  op_is = refl;
  vector_is = refl;
  dists_are = refl;
  later = l;
  apart = a;
  advances = rw e (record { enters = inr (record { number = refl; own = own }); not_before = since });
  owes = λ o. rw e (owed o);
  follows = rw e follows;
  root_is = subst (λ x. op.root ≡ root_after x x op.post op.root w) (sym e) root_is;
  makes = subst (λ x. Makes x op v op w) (sym e) makes;
  outcome = record {
    ready = record { fits = fits_stay op.vector op.dists.items v w l a ready.fits; state = subst (λ x. StateIsReady x op w) (sym e) state };
    same = refl;
    held = held;
  };
}

-- the shard is claimed, or another actor holds it
module _ (op : InsertOp) (v w : View) (ready : Ready op v) (state : op.state ≡ Begin) where
  begun : (v.shard ≡ None) × (v.leaf ≡ None)
  begun = subst (λ s. StateIsReady s op v) state ready.state

  pub begins_live : (r : Record) → ClaimsShard v w op.id (shard_claim.Taken (Some r)) → Turned op v turn.More (record op { state = Looking }) w
  begins_live r k = goes_on op v w Begin Looking op.root op.leaf op.post ready state k.later k.apart
      (advances_none op.op (made op) None _ _ v w k.own (seen_more v w k.later)) (owes_stay v w k.later k.owes)
      (record { shard = k.answer.1; leaf = k.leaf.leaf ∙ begun.1 }, rw k.answer.2 refl) tt refl
      (λ split _. falls_in split op v w _ _ k.later k.fresh (omega arith))
      (shard_claim.Taken (Some r), k, refl)

  pub begins_absent : ClaimsShard v w op.id (shard_claim.Taken None) → Turned op v turn.More (record op { state = Reserving }) w
  begins_absent k = goes_on op v w Begin Reserving op.root op.leaf op.post ready state k.later k.apart
      (advances_none op.op (made op) None _ _ v w k.own (seen_more v w k.later)) (owes_stay v w k.later k.owes)
      (record { shard = k.answer.1; leaf = k.leaf.leaf ∙ begun.1 }, k.answer.2) tt refl
      (λ split _. falls_in split op v w _ _ k.later k.fresh (omega arith))
      (shard_claim.Taken None, k, refl)

  pub begins_held : ClaimsShard v w op.id shard_claim.Held → Turned op v turn.Held op w
  begins_held k = stands_still op v w Begin ready state k.later k.apart k.own k.owes refl (seen_more v w k.later) (owes_stay v w k.later k.owes) tt refl
      (k.answer.1, k.leaf.leaf ∙ begun.1)
      (inl (state, record { tried = k.tried; other = k.answer.0; shard = k.answer.1; leaf = k.leaf.leaf ∙ begun.1 }))
      (shard_claim.Held, k, state)

-- the identifier is live
module _ (op : InsertOp) (v w : View) (look : Look) (ready : Ready op v) (state : op.state ≡ Looking) (k : Looks v w look) where
  was : HoldsShard op.id v × IsSome (v.records op.id)
  was = subst (λ s. StateIsReady s op v) state ready.state

  held : w.shard ≡ Some (shard_of op.id)
  held = k.same.work.update.shard ∙ was.0.shard

  agreed : (kept : Option Record) → IsSome kept → Agrees w.settings w.seen op.id kept → is_live op.id (updates_of w.seen) ≡ true
  agreed None h a = absurd (search rules)
  agreed (Some r) h a = a.0

  live : is_live op.id (updates_of w.seen) ≡ true
  live = agreed (v.records op.id) was.1 (subst (λ (f : ℕ → Option Record). Agrees w.settings w.seen op.id (f op.id)) k.same.work.update.records (k.board.guards op.id held))

  present_right : IsRight (asked op) op.op w (reply_of (ending.Present (end_of w.seen)))
  present_right = λ allotted all. (end_is w.seen, ap (λ (l : List LogEvent). is_live op.id (updates_of l)) (at_end w.seen) ∙ live)

  pub looks : Turned op v turn.More (record op { state = Releasing (ending.Present look.at) }) w
  looks = goes_on op v w Looking (Releasing (ending.Present look.at)) op.root op.leaf op.post ready state k.later k.same.work.apart
      (advances_none op.op (made op) None _ _ v w k.same.work.update.own (rw k.tells.at_is (omega (arith, seen_more v w k.later, end_events w.seen)))) (owes_stay v w k.later k.same.owes)
      (record { shard = held; leaf = k.same.work.leaf.leaf ∙ was.0.leaf }, record { right = rw k.tells.at_is present_right; few = k.board.legal.few }) tt refl
      (λ split _. falls_in split op v w _ _ k.later k.same.fresh (omega arith))
      (look, k, refl)

full_answered : (op : InsertOp) (w : View) (limit : ℕ) → SeesBoard w → w.shard ≡ Some (shard_of op.id) → w.records op.id ≡ None → limit ≡ w.settings.updates
    → length (updates_of w.seen) ≡ limit → Answered (asked op) op.op w (ending.Full limit)
full_answered op w limit b held absent is full =
    let gone : is_live op.id (updates_of w.seen) ≡ false = subst (λ (r : Option Record). Agrees w.settings w.seen op.id r) absent (b.guards op.id held) in
    record { right = λ allotted all. (is, full, gone); few = b.legal.few }

-- a reply for want of memory is right
memory_answered : (op : InsertOp) (w : View) → length (updates_of w.seen) ≤ w.settings.updates → Answered (asked op) op.op w ending.Memory
memory_answered op w few = record { right = λ allotted all. tt; few = few }

-- room is reserved
module _ (op : InsertOp) (v w : View) (ready : Ready op v) (state : op.state ≡ Reserving) where
  free : HoldsShard op.id v × (v.records op.id ≡ None)
  free = subst (λ s. StateIsReady s op v) state ready.state

  pub reserves : (look : Look) → Reserves v w (Ok look) → Turned op v turn.More (record op { state = Claiming; root = look.root }) w
  reserves look k =
      let t : Tells w look = k.answer.0 in
      goes_on op v w Reserving Claiming look.root op.leaf op.post ready state k.later k.apart
      (advances_none op.op (made op) None _ _ v w k.own (seen_more v w k.later)) (owes_stay v w k.later k.owes) (
        record {
          shard = k.shard ∙ free.0.shard;
          absent = ap (λ (f : ℕ → Option Record). f op.id) k.records ∙ free.1;
          reserved = k.answer.2;
          root_is = record { named = t.named; low_is = t.low_is; small = rw t.level_is t.low_height };
        },
        k.leaf.leaf ∙ free.0.leaf,
      ) tt t.root_is
      (λ split _. falls_in split op v w _ _ k.later k.fresh (omega arith))
      (Ok look, k, refl)

  pub reserves_full : (limit : ℕ) → Reserves v w (Err (reserve.Full limit)) → Turned op v turn.More (record op { state = Releasing (ending.Full limit) }) w
  reserves_full limit k = goes_on op v w Reserving (Releasing (ending.Full limit)) op.root op.leaf op.post ready state k.later k.apart
      (advances_none op.op (made op) None _ _ v w k.own (seen_more v w k.later)) (owes_stay v w k.later k.owes) (
        record { shard = k.shard ∙ free.0.shard; leaf = k.leaf.leaf ∙ free.0.leaf },
        full_answered op w limit k.board (k.shard ∙ free.0.shard) (ap (λ (f : ℕ → Option Record). f op.id) k.records ∙ free.1) k.answer.0 k.answer.1,
      ) tt refl
      (λ split _. falls_in split op v w _ _ k.later k.fresh (omega arith))
      (Err (reserve.Full limit), k, refl)

  pub reserves_memory : Reserves v w (Err reserve.Memory) → Turned op v turn.More (record op { state = Releasing ending.Memory }) w
  reserves_memory k = goes_on op v w Reserving (Releasing ending.Memory) op.root op.leaf op.post ready state k.later k.apart
      (advances_none op.op (made op) None _ _ v w k.own (seen_more v w k.later)) (owes_stay v w k.later k.owes)
      (record { shard = k.shard ∙ free.0.shard; leaf = k.leaf.leaf ∙ free.0.leaf }, memory_answered op w k.board.legal.few) tt refl
      (λ split _. falls_in split op v w _ _ k.later k.fresh (omega arith))
      (Err reserve.Memory, k, refl)

-- the leaf is claimed, or another actor holds it
module _ (op : InsertOp) (v w : View) (perm : List ℕ) (ready : Ready op v) (state : op.state ≡ Claiming) (is : perm ≡ perm_in op) where
  unclaimed : Prepared op.id op.root v × (v.leaf ≡ None)
  unclaimed = subst (λ s. StateIsReady s op v) state ready.state

  pub claims : (leaf : Leaf) → ClaimsLeaf v w perm (claim.Taken leaf) → Turned op v turn.More (record op { state = Committing op.root; leaf = Some leaf }) w
  claims leaf k =
      let p = prepared_stays op.id op.root v w k.later k.update unclaimed.0 in
      let begun : begins leaf.prefix (perm_in op) ≡ true = rw (← is) k.answer.1 in
      goes_on op v w Claiming (Committing op.root) op.root (Some leaf) op.post ready state k.later k.apart
      (advances_none op.op (made op) None _ _ v w k.update.own (seen_more v w k.later)) (owes_stay v w k.later k.owes)
      (record {
        prepared = p;
        claimed = rw k.answer.2 begun;
        leaf_is = k.answer.2;
        seeks = record { named = p.root_is.named; above = λ _. rw p.root_is.low_is (omega arith); at_leaf = λ _. rw p.root_is.low_is (omega arith) };
        small = p.root_is.small;
      }) refl refl
      (λ split _. falls_in split op v w _ _ k.later k.fresh (omega (arith, descent_longest w op.root)))
      (claim.Taken leaf, subst (λ x. ClaimsLeaf v w x (claim.Taken leaf)) is k, refl)

  pub claims_not : (by : ℕ) → ClaimsLeaf v w perm (claim.Held by) → Turned op v turn.Held op w
  claims_not by k =
      let p = prepared_stays op.id op.root v w k.later k.update unclaimed.0 in
      let begun : begins (leaf_of (grid_under w.settings) w.seen perm) (perm_in op) ≡ true = rw (← is) k.answer.3 in
      stands_still op v w Claiming ready state k.later k.apart k.update.own k.owes refl (seen_more v w k.later) (owes_stay v w k.later k.owes) tt refl (p, k.answer.0)
      (inr (state, record { prefix = leaf_of (grid_under w.settings) w.seen perm; begun = begun; other = record { by = by; is = k.answer.1; other = k.answer.2 }; leaf = k.answer.0 }))
      (claim.Held by, subst (λ x. ClaimsLeaf v w x (claim.Held by)) is k, state)

full_none : (b : Bool) → IsTrue b → cond b 0 2 ≤ 0
full_none true h = omega arith
full_none false h = cc

the_leaf : (leaf : Option Leaf) (v : View) → HasLeaf leaf v → (l : Leaf) × (leaf ≡ Some l)
the_leaf None v h = absurd h
the_leaf (Some l) v h = (l, refl)

-- a commit
module _ (op : InsertOp) (v w : View) (page : ℕ) (ready : Ready op v) (state : op.state ≡ Committing page) where
  seeking : Seeks op v page
  seeking = subst (λ s. StateIsReady s op v) state ready.state

  pub commits_down : (q : ℕ) → CommitsInsert v w page op.op op.id op.vector op.dists.items (commit.Down q) → Turned op v turn.More (record op { state = Committing q }) w
  commits_down q k =
      let d : GoesDown v w page q 0 (insert_key w op.dists.items op.id 0) = k.answer.1 in
      let rises = key_rises w.settings (prefix_or w.leaf) (key_distance op.dists.items) op.id 0 (next_number w) (omega arith) in
      goes_on op v w (Committing page) (Committing q) op.root op.leaf op.post ready state k.later k.apart
      (advances_none op.op (made op) None _ _ v w k.answer.0.update.own (seen_more v w k.later)) (owes_stay v w k.later k.owes)
      (record {
        prepared = prepared_stays op.id op.root v w k.later k.answer.0.update seeking.prepared;
        claimed = rw k.leaf seeking.claimed;
        leaf_is = leaf_stays op.leaf v w k.leaf seeking.leaf_is;
        seeks = record { named = d.named; above = λ _. d.low_is; at_leaf = λ _. omega (arith, d.low_is, rises) };
        small = omega (arith, d.level_is, seeking.small);
      }) tt refl
      (λ split _. falls_in split op v w _ _ k.later k.fresh (omega (arith, down_less v w page q 0 _ seeking.small d)))
      (commit.Down q, k, refl)

  pub commits_right : (q : ℕ) → CommitsInsert v w page op.op op.id op.vector op.dists.items (commit.Right q) → Turned op v turn.More (record op { state = Committing q }) w
  commits_right q k =
      let d : GoesRight v w page q 0 (insert_key w op.dists.items op.id (next_number w)) = k.answer.1 in
      goes_on op v w (Committing page) (Committing q) op.root op.leaf op.post ready state k.later k.apart
      (advances_none op.op (made op) None _ _ v w k.answer.0.update.own (seen_more v w k.later)) (owes_stay v w k.later k.owes)
      (record {
        prepared = prepared_stays op.id op.root v w k.later k.answer.0.update seeking.prepared;
        claimed = rw k.leaf seeking.claimed;
        leaf_is = leaf_stays op.leaf v w k.leaf seeking.leaf_is;
        seeks = record { named = d.named; above = λ h. absurd (omega (arith, h, d.level_is, d.reached)); at_leaf = λ _. d.low_is };
        small = omega (arith, d.level_is, seeking.small);
      }) tt refl
      (λ split _. falls_in split op v w _ _ k.later k.fresh (omega (arith, right_less v w page q 0 _ d)))
      (commit.Right q, k, refl)

  pub commits_full : (limit : ℕ) → CommitsInsert v w page op.op op.id op.vector op.dists.items (commit.Full limit) → Turned op v turn.More (record op { state = Unclaiming (ending.Full limit) }) w
  commits_full limit k =
      let p = prepared_stays op.id op.root v w k.later k.answer.0.update seeking.prepared in
      goes_on op v w (Committing page) (Unclaiming (ending.Full limit)) op.root op.leaf op.post ready state k.later k.apart
      (advances_none op.op (made op) None _ _ v w k.answer.0.update.own (seen_more v w k.later)) (owes_stay v w k.later k.owes)
      (p.shard, rw k.leaf seeking.claimed, full_answered op w limit k.board p.shard p.absent k.answer.2.limit_is k.answer.2.many) tt refl
      (λ split _. falls_in split op v w _ _ k.later k.fresh (omega arith))
      (commit.Full limit, k, refl)

  -- the page is full
  at_page : Later v w → w.leaf ≡ v.leaf → SameUpdate v w → Seeks op w page
  at_page l e u = seeking_stays op.id op.root op.dists.items op.leaf v w page l e u seeking

  pub commits_page_full : CommitsInsert v w page op.op op.id op.vector op.dists.items commit.PageFull → is_some w.fresh ≡ true → Turned op v turn.More (record op { state = Halving page }) w
  commits_page_full k f = goes_on op v w (Committing page) (Halving page) op.root op.leaf op.post ready state k.later k.apart
      (advances_none op.op (made op) None _ _ v w k.answer.0.update.own (seen_more v w k.later)) (owes_stay v w k.later k.owes)
      (at_page k.later k.leaf k.answer.0.update, k.later.level page seeking.seeks.named ∙ k.answer.1.reached, f)
      (refl, record { page_is = k.page_is; items = k.answer.4.many }, f) refl
      (λ split t. falls_in split op v w _ _ k.later k.fresh (omega (arith, descent_keeps v w page k.later seeking.seeks.named, full_none (w.full page) (k.answer.4.told_full t))))
      (commit.PageFull, k, ap (λ (b : Bool). cond b (Halving page) (Allotting page)) (sym f))

  pub commits_wanting : CommitsInsert v w page op.op op.id op.vector op.dists.items commit.PageFull → is_some w.fresh ≡ false → Turned op v turn.More (record op { state = Allotting page }) w
  commits_wanting k f = goes_on op v w (Committing page) (Allotting page) op.root op.leaf op.post ready state k.later k.apart
      (advances_none op.op (made op) None _ _ v w k.answer.0.update.own (seen_more v w k.later)) (owes_stay v w k.later k.owes)
      (at_page k.later k.leaf k.answer.0.update, k.later.level page seeking.seeks.named ∙ k.answer.1.reached, f)
      (refl, record { page_is = k.page_is; items = k.answer.4.many }, f) refl
      (λ split t. falls_in split op v w _ _ k.later k.fresh (omega (arith, descent_keeps v w page k.later seeking.seeks.named)))
      (commit.PageFull, k, ap (λ (b : Bool). cond b (Halving page) (Allotting page)) (sym f))

  pub commits_crowded : (leaf : Leaf) → op.leaf ≡ Some leaf → CommitsInsert v w page op.op op.id op.vector op.dists.items commit.Crowded
      → Turned op v (turn.Crowded leaf) (record op { state = Splitting; leaf = None }) w
  commits_crowded leaf is k =
      let f = fits_stay op.vector op.dists.items v w k.later k.apart ready.fits in
      let has : HasLeaf (Some leaf) w = subst (λ x. HasLeaf x w) is (leaf_stays op.leaf v w k.leaf seeking.leaf_is) in
      record {
        id_is = refl;
        op_is = refl;
        vector_is = refl;
        dists_are = refl;
        later = k.later;
        apart = k.apart;
        advances = rw state (advances_none op.op (made op) None _ _ v w k.answer.0.own (seen_more v w k.later));
        owes = λ owed. rw state (owes_stay v w k.later k.owes owed);
        follows = rw state k.answer.3;
        root_is = subst (λ x. op.root ≡ root_after x Splitting op.post op.root w) (sym state) refl;
        makes = subst (λ x. Makes x op v (record op { state = Splitting; leaf = None }) w) (sym state) (commit.Crowded, k, refl);
        outcome = (
          record {
            measured = f.measured;
            fits = f.fits;
            idle = f.idle;
            prepared = prepared_stays op.id op.root v w k.later k.answer.0 seeking.prepared;
            few = k.board.legal.few;
            state_is = refl;
          },
          record { leaf_is = has; claimed = rw k.leaf seeking.claimed; wanted = k.answer.4; crowded = k.answer.3; unsplit = f.unsplit },
          λ split _. rw state (falls_in split op v w _ _ k.later k.fresh (omega arith)),
        );
      }

  pub waits : (answer : Turn) (new : InsertOp) → new ≡ record op { state = Splitting; leaf = None } → ((leaf : Leaf) → op.leaf ≡ Some leaf → answer ≡ turn.Crowded leaf)
      → CommitsInsert v w page op.op op.id op.vector op.dists.items commit.Crowded → Turned op v answer new w
  waits answer new f is k =
      let l = the_leaf op.leaf v seeking.leaf_is in
      so_turned op new _ v w answer (turn.Crowded l.0) f (is l.0 l.1) (commits_crowded l.0 l.1 k)

  pub commits_done : (number : ℕ) → CommitsInsert v w page op.op op.id op.vector op.dists.items (commit.Done number) → Turned op v turn.More (record op { state = Unclaiming (ending.Stored number) }) w
  commits_done number k =
      let e = k.answer.0 in
      let u = update.Insert op.id op.vector in
      goes_on op v w (Committing page) (Unclaiming (ending.Stored number)) op.root op.leaf op.post ready state k.later k.apart
      (record { enters = inl (enters_last v w op.op op.id u false number e); not_before = reaches_last v w op.op op.id u false number e }) (owes_stay v w k.later k.owes) (
        e.shard ∙ seeking.prepared.shard,
        rw k.leaf seeking.claimed,
        record {
          right = λ allotted all. rw e.seen (number_gained e.before w.actor op.op number u e.number_is, ap (is_live op.id) (before_gained e.before w.actor op.op number u e.number_is) ∙ e.known);
          few = k.board.legal.few;
        },
      ) tt refl
      (λ split _. falls_in split op v w _ _ k.later k.fresh (omega arith))
      (commit.Done number, k, refl)

-- a page is allotted
module _ (op : InsertOp) (v w : View) (page : ℕ) (ready : Ready op v) (state : op.state ≡ Allotting page) where
  lacking : Seeks op v page × (v.level page ≡ 0) × (is_some v.fresh ≡ false)
  lacking = subst (λ s. StateIsReady s op v) state ready.state

  pub allots : (u : Unit {0}) → Allots v w (Ok u) → Turned op v turn.More (record op { state = Halving page }) w
  allots u k = goes_on op v w (Allotting page) (Halving page) op.root op.leaf op.post ready state k.later k.work.apart
      (advances_none op.op (made op) None _ _ v w k.work.update.own (seen_more v w k.later)) (owes_stay v w k.later k.owes)
      (seeking_stays op.id op.root op.dists.items op.leaf v w page k.later k.work.leaf.leaf k.work.update lacking.0, k.later.level page lacking.0.seeks.named ∙ lacking.1, k.answer.0)
      (refl, k.answer.0) refl
      (λ split _. inl (budget_allots v w k.later lacking.2 k.answer.0 k.answer.1 k.board.few))
      (Ok u, k, refl)

  pub allots_none : (limit : ℕ) → Allots v w (Err (allot.PagesFull limit)) → Turned op v turn.More (record op { state = Unclaiming (ending.NoPages limit) }) w
  allots_none limit k = goes_on op v w (Allotting page) (Unclaiming (ending.NoPages limit)) op.root op.leaf op.post ready state k.later k.work.apart
      (advances_none op.op (made op) None _ _ v w k.work.update.own (seen_more v w k.later)) (owes_stay v w k.later k.owes)
      (k.work.update.shard ∙ lacking.0.prepared.shard, rw k.work.leaf.leaf lacking.0.claimed, record { right = λ allotted all. (k.answer.1, all k.answer.3); few = k.board.legal.few })
      (ap is_some k.answer.0 ∙ lacking.2, k.answer.2) refl
      (λ split _. falls_in split op v w _ _ k.later k.answer.0 (omega arith))
      (Err (allot.PagesFull limit), k, refl)

  pub allots_memory : Allots v w (Err allot.Memory) → Turned op v turn.More (record op { state = Unclaiming ending.Memory }) w
  allots_memory k = goes_on op v w (Allotting page) (Unclaiming ending.Memory) op.root op.leaf op.post ready state k.later k.work.apart
      (advances_none op.op (made op) None _ _ v w k.work.update.own (seen_more v w k.later)) (owes_stay v w k.later k.owes)
      (k.work.update.shard ∙ lacking.0.prepared.shard, rw k.work.leaf.leaf lacking.0.claimed, memory_answered op w k.board.legal.few) (ap is_some k.answer.0 ∙ lacking.2, k.answer.1) refl
      (λ split _. falls_in split op v w _ _ k.later k.answer.0 (omega arith))
      (Err allot.Memory, k, refl)

two_full : (b : Bool) → b ≡ false → 2 ≤ cond b 0 2
two_full true e = cc
two_full false e = omega arith

one_more : (a b s : Bool) → (IsTrue a → IsTrue (s || false)) → IsTrue (a || b) → IsTrue (s || (b || false))
one_more a true true h o = refl
one_more a true false h o = refl
one_more true false true h o = refl
one_more true false false h o = absurd (let f = h refl in cc)
one_more false false s h o = cc

-- a page is halved
module _ (op : InsertOp) (v w : View) (page : ℕ) (ready : Ready op v) (state : op.state ≡ Halving page) where
  halving : Seeks op v page × (v.level page ≡ 0) × (is_some v.fresh ≡ true)
  halving = subst (λ s. StateIsReady s op v) state ready.state

  pub halves_not : PartsPage v w page part.Roomy → Turned op v turn.More (record op { state = Committing page }) w
  halves_not k = goes_on op v w (Halving page) (Committing page) op.root op.leaf op.post ready state k.later k.work.apart
      (advances_none op.op (made op) None _ _ v w k.work.update.own (seen_more v w k.later)) (owes_stay v w k.later k.answer.1)
      (seeking_stays op.id op.root op.dists.items op.leaf v w page k.later k.work.leaf.leaf k.work.update halving.0) refl refl
      (λ split t. falls_in split op v w _ _ k.later k.answer.0
      (omega (arith, descent_keeps v w page k.later halving.0.seeks.named, two_full (v.full page) (k.answer.3 (rw (← k.later.tells_full) t)))))
      (part.Roomy, k, refl)

  pub halves : (key child : ℕ) (p : Post) → posting.Begun p 1 key child → PartsPage v w page (part.Parted key child) → Turned op v turn.More (record op { state = Posting page; post = Some p }) w
  halves key child p b k =
      let a = k.answer in
      let c : IsChildAt w 1 key child = record { named = a.2; level_is = omega (arith, a.3, halving.1); low_is = a.4; later_key = omega (arith, a.5) } in
      goes_on op v w (Halving page) (Posting page) op.root op.leaf (Some p) ready state k.later k.work.apart
      (advances_none op.op (made op) None _ _ v w k.work.update.own (seen_more v w k.later))
      (λ owed h f x o. rw (b.child_is, b.waiting_is) (one_more (v.owes x) (x == child) (owed x) (h (excused_before v w k.later f) x) (subst (λ (g : ℕ → Bool). IsTrue (g x)) a.1 o)))
      (seeking_stays op.id op.root op.dists.items op.leaf v w page k.later k.work.leaf.leaf k.work.update halving.0, begun_ready p 1 key child w b c (omega arith)) refl refl
      (λ split _. inl (budget_uses v w k.later halving.2 a.0))
      (part.Parted key child, k, (refl, p, refl, b))

-- the leaf is released
module _ (op : InsertOp) (v w : View) (e : Ending) (ready : Ready op v) (state : op.state ≡ Unclaiming e) where
  ended : (v.shard ≡ Some (shard_of op.id)) × (holds_leaf_of (perm_in op) v.leaf ≡ true) × Answered (asked op) op.op v e
  ended = subst (λ s. StateIsReady s op v) state ready.state

  pub unclaims : ReleasesLeaf v w → Turned op v turn.More (record op { state = Releasing e }) w
  unclaims k = goes_on op v w (Unclaiming e) (Releasing e) op.root op.leaf op.post ready state k.later k.apart
      (advances_none op.op (made op) _ _ _ v w k.update.own (ends_stay (asked op) op.op v w k.later e ended.2)) (owes_stay v w k.later k.owes)
      (record { shard = k.update.shard ∙ ended.0; leaf = k.leaf }, answered_stays (asked op) op.op v w e k.later ended.2) refl refl
      (λ split _. falls_in split op v w _ _ k.later k.fresh (omega arith))
      (k, refl)

-- and the shard
module _ (op : InsertOp) (v w : View) (e : Ending) (ready : Ready op v) (state : op.state ≡ Releasing e) where
  last : HoldsShard op.id v × Answered (asked op) op.op v e
  last = subst (λ s. StateIsReady s op v) state ready.state

  pub releases : ReleasesShard v w → Turned op v (turn.Done (reply_of e)) (record op { state = Over e }) w
  releases k = record {
    id_is = refl;
    op_is = refl;
    vector_is = refl;
    dists_are = refl;
    later = k.later;
    apart = k.apart;
    advances = rw state (advances_none op.op (made op) _ _ _ v w k.own (ends_stay (asked op) op.op v w k.later e last.1));
    owes = λ owed. rw state (owes_stay v w k.later k.owes owed);
    follows = rw state refl;
    root_is = subst (λ x. op.root ≡ root_after x (Over e) op.post op.root w) (sym state) refl;
    makes = subst (λ x. Makes x op v (record op { state = Over e }) w) (sym state) (k, refl);
    outcome = (k.shard, k.leaf.leaf ∙ last.0.leaf, e, refl, refl, answered_stays (asked op) op.op v w e k.later last.1);
  }

some_root : (w : View) (r : Option ℕ) (root : ℕ) → IfSome r (IsRoot w) → IsRoot w root → IsRoot w (unwrap_or r root)
some_root w None root h d = d
some_root w (Some p) root h d = h

-- a post inside
module _ (op : InsertOp) (v w : View) (page : ℕ) (p q : Post) (ready : Ready op v) (state : op.state ≡ Posting page) (under : op.post ≡ Some p) where
  inside : Seeks op v page × PostIsReady op.post v
  inside = subst (λ s. StateIsReady s op v) state ready.state

  stays : (l : Later v w) (u : SameWork v w) (root : ℕ) → IsRoot w root → Seeking op.id root op.dists.items op.leaf w page
  stays l u root r =
      let s = seeking_stays op.id op.root op.dists.items op.leaf v w page l u.leaf.leaf u.update inside.0 in
      record {
        prepared = record { shard = s.prepared.shard; absent = s.prepared.absent; reserved = s.prepared.reserved; root_is = r };
        claimed = s.claimed;
        leaf_is = s.leaf_is;
        seeks = s.seeks;
        small = s.small;
      }

  pub posts_on : posting.Turned p v More q w → Turned op v turn.More (record op { state = Posting page; post = Some q }) w
  posts_on t = goes_on op v w (Posting page) (Posting page) op.root op.leaf (Some q) ready state t.later t.work.apart
      (advances_none op.op (made op) None _ _ v w t.work.update.own (seen_more v w t.later)) (λ owed h. t.owes owed (rw under at h))
      (stays t.later t.work op.root (root_keeps v w op.root t.later inside.0.prepared.root_is), t.outcome.0) refl refl
      (λ split f. rw under (combine split (t.outcome.1 f))) (p, q, More, under, t, (refl, refl, refl))
    where
      combine : (split : ℕ) → Falls v (posting.left p v) w (posting.left q w)
          → Falls v (splits_left op v * round split + (split + 5 + 3 * descent v page + posting.left p v)) w (splits_left op w * round split + (split + 5 + 3 * descent w page + posting.left q w))
      combine split (inl h) = inl h
      combine split (inr h) =
          let m : splits_left op w * round split ≤ splits_left op v * round split = mul-le-mul_right (round split) (splits_fall op v w t.later) in
          inr (h.0, omega (arith, m, h.1, descent_keeps v w page t.later inside.0.seeks.named))

  back : Later v w → SameWork v w → IfSome q.root (IsRoot w) → q.root ≡ posting.root_after p.state p.root w → budget w ≤ budget v → ((owed : ℕ → Bool) → OwesOnly owed (posting.pending p) v → OwesOnly owed (λ x. false) w) → (post : Option Post)
      → Makes (Posting page) op v (record op { state = Committing page; root = unwrap_or q.root op.root; post = post }) w
      → Turned op v turn.More (record op { state = Committing page; root = unwrap_or q.root op.root; post = post }) w
  back l u r latest b owes post makes = goes_on op v w (Posting page) (Committing page) (unwrap_or q.root op.root) op.leaf post ready state l u.apart
      (advances_none op.op (made op) None _ _ v w u.update.own (seen_more v w l)) (λ owed h. owes owed (rw under at h))
      (stays l u (unwrap_or q.root op.root) (some_root w q.root op.root r (root_keeps v w op.root l inside.0.prepared.root_is))) refl
      (ap (λ x. unwrap_or x op.root) latest ∙ ap (λ x. root_of_post x op.root w) (sym under))
      (λ split _.
      let m : splits_left op w * round split ≤ splits_left op v * round split = mul-le-mul_right (round split) (splits_fall op v w l) in
      inr (b, omega (arith, m, descent_keeps v w page l inside.0.seeks.named))) makes

  pub posted : (post : Option Post) → posting.Turned p v Done q w → Turned op v turn.More (record op { state = Committing page; root = unwrap_or q.root op.root; post = post }) w
  posted post t = back t.later t.work t.root_is t.latest t.outcome.1 t.owes post (p, q, Done, under, t, (refl, refl))

  pub posted_left : (limit : ℕ) (post : Option Post) → posting.Turned p v (Left limit) q w → Turned op v turn.More (record op { state = Committing page; root = unwrap_or q.root op.root; post = post }) w
  posted_left limit post t = back t.later t.work t.root_is t.latest t.outcome.5 t.owes post (p, q, Left limit, under, t, (refl, refl))

  pub posted_memory : (post : Option Post) → posting.Turned p v Memory q w → Turned op v turn.More (record op { state = Committing page; root = unwrap_or q.root op.root; post = post }) w
  posted_memory post t = back t.later t.work t.root_is t.latest t.outcome.2 t.owes post (p, q, Memory, under, t, (refl, refl))

-- what is kept from the first section to the last
pub since_kept : (own : List Entered) (from : ℕ) (owed : ℕ → Bool) (old new : InsertOp) (v w : View) (answer : Turn) → Turned old v answer new w → Since own from owed old v → Since own from owed new w
since_kept own from owed old new v w answer t h = record {
  own_is = rw (t.op_is, t.id_is, t.vector_is) (own_kept old.op (made old) _ _ v w own t.later.actor t.advances.enters h.own_is);
  reaches = omega (arith, h.reaches, t.advances.not_before);
  owes = t.owes owed h.owes;
}

two_most : (b : Bool) → cond b 0 2 ≤ 2
two_most true = omega arith
two_most false = omega arith

-- the sections that are left are few
pub insert_small : (split : ℕ) (op : InsertOp) (v : View) → v.settings.levels ≤ 6 → Ready op v → Rattle.mi_update.specs.Inserting.left split op v < 7 * round split
unfolding round
insert_small split op v few ready =
    let m : splits_left op v * round split ≤ 6 * round split = mul-le-mul_right (round split) (omega (arith, few)) in
    let r : round split ≡ split + 3 * longest + post_most + 11 = refl in
    let s = go op.state op.post ready.state in
    omega (arith, m, r, s)
  where
    post_few : (post : Option Post) → PostIsReady post v → post_left post v < post_most
    post_few None h = absurd h
    post_few (Some p) h = left_most p v h

    go : (s : InsertState) (post : Option Post) → StateIsReady s (record op { post = post }) v → left_in split s post v < split + 3 * longest + post_most + 11
    go Begin post h = omega arith
    go Looking post h = omega arith
    go Reserving post h = omega arith
    go Claiming post h = omega arith
    go (Committing page) post h = omega (arith, descent_longest v page)
    go Splitting post h = absurd h
    go (Allotting page) post h = omega (arith, descent_longest v page)
    go (Halving page) post h = omega (arith, descent_longest v page, two_most (v.full page))
    go (Posting page) post h = omega (arith, descent_longest v page, post_few post h.1)
    go (Unclaiming e) post h = omega arith
    go (Releasing e) post h = omega arith
    go (Over e) post h = omega arith

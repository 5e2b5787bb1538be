-- A delete from section to section.
use Rattle.std.proofs.Common.{◌≡◌, ℕ, ◌+◌, ◌<◌, ◌≤◌, List, length, true, false, Some, None, Option, refl, sym, ap, ◌∙◌, subst, arith, rules, inl, inr}
use Rattle.std.specs.Prelude.{Ok, Err}
use Rattle.std.proofs.lemmas.List.{length-map}
use Rattle.mi_base.specs.declared.records.LogEvent.{LogEvent}
use Rattle.mi_base.specs.declared.records.Update.TheVariants as update
use Rattle.mi_base.specs.Configuration.{Configuration}
use Rattle.mi_base.specs.History.{Entered, updates_of, is_live, end_of}
use Rattle.mi_base.specs.Permutations.{begins}
use Rattle.mi_base.proofs.PivotLemmas.{length-permutation_of}
use Rattle.mi_tree.specs.declared.answers.LeafClaim.TheVariants as claim
use Rattle.mi_tree.specs.declared.answers.Look.{Look}
use Rattle.mi_tree.specs.declared.answers.ReserveRefusal.TheVariants as reserve
use Rattle.mi_tree.specs.declared.outcomes.Leaf.{Leaf}
use Rattle.mi_tree.specs.Cells.{leaf_of}
use Rattle.mi_tree.proofs.GrowingLemmas.{end_events, end_is, at_end}
use Rattle.mi_legal.proofs.GainedLemmas.{number_gained, before_gained}
use Rattle.mi_world.specs.declared.answers.Commit.TheVariants as commit
use Rattle.mi_world.specs.declared.answers.Record.{Record}
use Rattle.mi_world.specs.declared.answers.ShardClaim.TheVariants as shard_claim
use Rattle.mi_world.specs.View.{View, Later, SameApart, SameUpdate, shard_of, Agrees, SeesBoard}
use Rattle.mi_world.specs.Boards.{Looks, Reserves, Tells}
use Rattle.mi_world.specs.Claims.{ClaimsLeaf, ClaimsShard, ReleasesLeaf, ReleasesShard, holds_leaf_of}
use Rattle.mi_world.specs.Pages.{CommitsDelete, GoesDown, GoesRight, delete_key}
use Rattle.mi_tree.specs.Placing.{grid_under}
use Rattle.mi_blink.specs.declared.turns.Turn.{Turn}
use Rattle.mi_blink.specs.declared.turns.Turn.TheVariants as turn
use Rattle.mi_blink.specs.Descents.{longest}
use Rattle.mi_blink.proofs.DescentLemmas.{root_keeps, descent_longest, down_less, right_less, falls_by}
use Rattle.mi_update.specs.declared.endings.Ending.{Ending}
use Rattle.mi_update.specs.declared.endings.Ending.TheVariants as ending
use Rattle.mi_update.specs.declared.delete.DeleteOp.{DeleteOp}
use Rattle.mi_update.specs.declared.delete.DeleteState.{DeleteState}
use Rattle.mi_update.specs.declared.delete.DeleteState.TheVariants.{Begin, Looking, Reserving, Claiming, Committing, Unclaiming, Releasing, Over}
use Rattle.mi_update.specs.Endings.{Answered, IsRight, reply_of}
use Rattle.mi_update.specs.Stepping.{Advances, HoldsShard}
use Rattle.mi_update.specs.Deleting.{Makes, Ready, Knows, Prepared, Seeking, IsCommitted, StateIsReady, Since, Turned, FindsHeld, Follows, root_after, left, left_in, made, number_at, perm_in, perm_of, since_at, asked}
use Rattle.mi_update.proofs.SteppingLemmas.{advances_none, answered_stays, ends_stay, enters_last, own_kept, reaches_last, seen_more}

pub knows_stays : (id : ℕ) (kept : Option Record) (v w : View) → SameUpdate v w → Knows id kept v → Knows id kept w
knows_stays id kept v w u h = record {
  shard = u.shard ∙ h.shard;
  record_is = ap (λ (f : ℕ → Option Record). f id) u.records ∙ h.record_is;
  found = h.found;
  is = h.is;
}

pub prepared_stays : (id root : ℕ) (kept : Option Record) (v w : View) → Later v w → SameUpdate v w → Prepared id root kept v → Prepared id root kept w
prepared_stays id root kept v w l u h = record {
  knows = knows_stays id kept v w u h.knows;
  reserved = u.reserved ∙ h.reserved;
  long = rw l.settings h.long;
  root_is = root_keeps v w root l h.root_is;
}

-- a section from one state to another
pub goes_on : (op : DeleteOp) (v w : View) (s₀ s : DeleteState) (root : ℕ) (kept : Option Record) → Ready op v → op.state ≡ s₀ → Later v w → SameApart v w → w.fresh ≡ v.fresh → w.owes ≡ v.owes
    → Advances op.op (made op) (number_at s₀) (number_at s) (since_at s₀ v.seen) (since_at s w.seen) v w
    → StateIsReady s (record op { state = s; root = root; kept = kept }) w
    → Follows s₀ s root
    → root ≡ root_after s₀ s op.root w
    → left_in s w < left_in s₀ v
    → Makes s₀ op v (record op { state = s; root = root; kept = kept }) w
    → Turned op v turn.More (record op { state = s; root = root; kept = kept }) w
goes_on op v w s₀ s root kept ready e l a f o advances state follows root_is less makes = record {
  id_is = refl;
  op_is = refl;
  later = l;
  apart = a;
  fresh = f;
  owes = o;
  advances = rw e (record { enters = advances.enters; not_before = advances.not_before });
  follows = rw e follows;
  root_is = subst (λ x. root ≡ root_after x s op.root w) (sym e) root_is;
  makes = subst (λ x. Makes x op v (record op { state = s; root = root; kept = kept }) w) (sym e) makes;
  outcome = (record { idle = a.sweep.sweep ∙ ready.idle; unsplit = a.split.splitting ∙ ready.unsplit; state = state }, rw e (falls_by v w (left_in s₀ v) (left_in s w) l f less));
}

-- a section that finds a claim held
stands_still : (op : DeleteOp) (v w : View) (s : DeleteState) → Ready op v → op.state ≡ s → Later v w → SameApart v w → w.own ≡ v.own → w.fresh ≡ v.fresh → w.owes ≡ v.owes
    → since_at s v.seen ≤ since_at s w.seen → Follows s s op.root → op.root ≡ root_after s s op.root w → StateIsReady s op w → FindsHeld op w → Makes s op v op w → Turned op v turn.Held op w
stands_still op v w s ready e l a own f o since follows root_is state held makes = record {
  id_is = refl;
  op_is = refl;
  later = l;
  apart = a;
  fresh = f;
  owes = o;
  advances = rw e (advances_none op.op (made op) (number_at s) _ _ v w own since);
  follows = rw e follows;
  root_is = subst (λ x. op.root ≡ root_after x x op.root w) (sym e) root_is;
  makes = subst (λ x. Makes x op v op w) (sym e) makes;
  outcome = record {
    ready = record { idle = a.sweep.sweep ∙ ready.idle; unsplit = a.split.splitting ∙ ready.unsplit; state = subst (λ x. StateIsReady x op w) (sym e) state };
    same = refl;
    held = held;
  };
}

-- the shard is claimed, or another actor holds it
module _ (op : DeleteOp) (v w : View) (ready : Ready op v) (state : op.state ≡ Begin) where
  begun : (v.shard ≡ None) × (v.leaf ≡ None)
  begun = subst (λ s. StateIsReady s op v) state ready.state

  pub begins_absent : ClaimsShard v w op.id (shard_claim.Taken None) → Turned op v turn.More (record op { state = Looking }) w
  begins_absent k = goes_on op v w Begin Looking op.root op.kept ready state k.later k.apart k.fresh k.owes
      (advances_none op.op (made op) None _ _ v w k.own (seen_more v w k.later)) (record { shard = k.answer.1; leaf = k.leaf.leaf ∙ begun.1 }, k.answer.2) tt refl (omega arith)
      (shard_claim.Taken None, k, refl, refl)

  pub begins_known : (r : Record) → ClaimsShard v w op.id (shard_claim.Taken (Some r)) → Turned op v turn.More (record op { state = Reserving; kept = Some r }) w
  begins_known r k = goes_on op v w Begin Reserving op.root (Some r) ready state k.later k.apart k.fresh k.owes
      (advances_none op.op (made op) None _ _ v w k.own (seen_more v w k.later))
      (record { shard = k.answer.1; record_is = k.answer.2; found = r; is = refl }, k.leaf.leaf ∙ begun.1) tt refl (omega arith)
      (shard_claim.Taken (Some r), k, refl, refl)

  pub begins_held : ClaimsShard v w op.id shard_claim.Held → Turned op v turn.Held op w
  begins_held k = stands_still op v w Begin ready state k.later k.apart k.own k.fresh k.owes (seen_more v w k.later) tt refl (k.answer.1, k.leaf.leaf ∙ begun.1)
      (inl (state, record { tried = k.tried; other = k.answer.0; shard = k.answer.1; leaf = k.leaf.leaf ∙ begun.1 }))
      (shard_claim.Held, k, state, refl)

-- the identifier isn't live
module _ (op : DeleteOp) (v w : View) (look : Look) (ready : Ready op v) (state : op.state ≡ Looking) (k : Looks v w look) where
  was : HoldsShard op.id v × (v.records op.id ≡ None)
  was = subst (λ s. StateIsReady s op v) state ready.state

  held : w.shard ≡ Some (shard_of op.id)
  held = k.same.work.update.shard ∙ was.0.shard

  dead : is_live op.id (updates_of w.seen) ≡ false
  dead = subst (λ (r : Option Record). Agrees w.settings w.seen op.id r) (ap (λ (f : ℕ → Option Record). f op.id) k.same.work.update.records ∙ was.1) (k.board.guards op.id held)

  absent_right : IsRight (asked op) op.op w (reply_of (ending.Absent (end_of w.seen)))
  absent_right = λ allotted all. (end_is w.seen, ap (λ (l : List LogEvent). is_live op.id (updates_of l)) (at_end w.seen) ∙ dead)

  pub looks : Turned op v turn.More (record op { state = Releasing (ending.Absent look.at) }) w
  looks = goes_on op v w Looking (Releasing (ending.Absent look.at)) op.root op.kept ready state k.later k.same.work.apart k.same.fresh k.same.owes
      (advances_none op.op (made op) None _ _ v w k.same.work.update.own (rw k.tells.at_is (omega (arith, seen_more v w k.later, end_events w.seen))))
      (record { shard = held; leaf = k.same.work.leaf.leaf ∙ was.0.leaf }, record { right = rw k.tells.at_is absent_right; few = k.board.legal.few }) tt refl (omega arith)
      (look, k, refl)

-- the record agrees with the log
agrees_now : (id : ℕ) (kept : Option Record) (w : View) → SeesBoard w → w.shard ≡ Some (shard_of id) → w.records id ≡ kept → Agrees w.settings w.seen id kept
agrees_now id kept w b held is = subst (λ (r : Option Record). Agrees w.settings w.seen id r) is (b.guards id held)

live_now : (c : Configuration) (log : List LogEvent) (id : ℕ) (kept : Option Record) (r : Record) → kept ≡ Some r → Agrees c log id kept → is_live id (updates_of log) ≡ true
live_now c log id None r e a = absurd (search rules)
live_now c log id (Some k) r e a = a.0

long_now : (c : Configuration) (log : List LogEvent) (id : ℕ) (kept : Option Record) (r : Record) → kept ≡ Some r → Agrees c log id kept → length (perm_of kept) ≡ length c.pivots
long_now c log id None r e a = absurd (search rules)
long_now c log id (Some k) r e a = length-permutation_of k.dists.items ∙ ap length a.1.3 ∙ length-map c.pivots _

full_answered : (op : DeleteOp) (w : View) (limit : ℕ) → SeesBoard w → Knows op.id op.kept w → limit ≡ w.settings.updates → length (updates_of w.seen) ≡ limit
    → Answered (asked op) op.op w (ending.Full limit)
full_answered op w limit b n is full = record {
  right = λ allotted all. (is, full, live_now w.settings w.seen op.id op.kept n.found n.is (agrees_now op.id op.kept w b n.shard n.record_is));
  few = b.legal.few;
}

-- room is reserved
module _ (op : DeleteOp) (v w : View) (ready : Ready op v) (state : op.state ≡ Reserving) where
  free : Knows op.id op.kept v × (v.leaf ≡ None)
  free = subst (λ s. StateIsReady s op v) state ready.state

  knows_now : w.shard ≡ v.shard → w.records ≡ v.records → Knows op.id op.kept w
  knows_now shard records = record {
    shard = shard ∙ free.0.shard;
    record_is = ap (λ (f : ℕ → Option Record). f op.id) records ∙ free.0.record_is;
    found = free.0.found;
    is = free.0.is;
  }

  pub reserves : (look : Look) → Reserves v w (Ok look) → Turned op v turn.More (record op { state = Claiming; root = look.root }) w
  reserves look k =
      let t : Tells w look = k.answer.0 in
      let n = knows_now k.shard k.records in
      goes_on op v w Reserving Claiming look.root op.kept ready state k.later k.apart k.fresh k.owes
      (advances_none op.op (made op) None _ _ v w k.own (seen_more v w k.later)) (
        record {
          knows = n;
          reserved = k.answer.2;
          long = long_now w.settings w.seen op.id op.kept n.found n.is (agrees_now op.id op.kept w k.board n.shard n.record_is);
          root_is = record { named = t.named; low_is = t.low_is; small = rw t.level_is t.low_height };
        },
        k.leaf.leaf ∙ free.1,
      ) tt t.root_is (omega arith)
      (Ok look, k, refl)

  pub reserves_full : (limit : ℕ) → Reserves v w (Err (reserve.Full limit)) → Turned op v turn.More (record op { state = Releasing (ending.Full limit) }) w
  reserves_full limit k =
      let n = knows_now k.shard k.records in
      goes_on op v w Reserving (Releasing (ending.Full limit)) op.root op.kept ready state k.later k.apart k.fresh k.owes
      (advances_none op.op (made op) None _ _ v w k.own (seen_more v w k.later))
      (record { shard = n.shard; leaf = k.leaf.leaf ∙ free.1 }, full_answered op w limit k.board n k.answer.0 k.answer.1) tt refl (omega arith)
      (Err (reserve.Full limit), k, refl)

  pub reserves_memory : Reserves v w (Err reserve.Memory) → Turned op v turn.More (record op { state = Releasing ending.Memory }) w
  reserves_memory k = goes_on op v w Reserving (Releasing ending.Memory) op.root op.kept ready state k.later k.apart k.fresh k.owes
      (advances_none op.op (made op) None _ _ v w k.own (seen_more v w k.later))
      (record { shard = k.shard ∙ free.0.shard; leaf = k.leaf.leaf ∙ free.1 }, record { right = λ allotted all. tt; few = k.board.legal.few }) tt refl (omega arith)
      (Err reserve.Memory, k, refl)

-- the leaf is claimed, or another actor holds it
module _ (op : DeleteOp) (v w : View) (perm : List ℕ) (ready : Ready op v) (state : op.state ≡ Claiming) (is : perm ≡ perm_in op) where
  unclaimed : Prepared op.id op.root op.kept v × (v.leaf ≡ None)
  unclaimed = subst (λ s. StateIsReady s op v) state ready.state

  pub claims : (leaf : Leaf) → ClaimsLeaf v w perm (claim.Taken leaf) → Turned op v turn.More (record op { state = Committing op.root }) w
  claims leaf k =
      let p = prepared_stays op.id op.root op.kept v w k.later k.update unclaimed.0 in
      let begun : begins leaf.prefix (perm_in op) ≡ true = rw (← is) k.answer.1 in
      goes_on op v w Claiming (Committing op.root) op.root op.kept ready state k.later k.apart k.fresh k.owes
      (advances_none op.op (made op) None _ _ v w k.update.own (seen_more v w k.later))
      (record { prepared = p; claimed = rw k.answer.2 begun; named = p.root_is.named; low_is = rw p.root_is.low_is (omega arith); small = p.root_is.small })
      refl refl (omega (arith, descent_longest w op.root))
      (claim.Taken leaf, subst (λ x. ClaimsLeaf v w x (claim.Taken leaf)) is k, refl)

  pub claims_not : (by : ℕ) → ClaimsLeaf v w perm (claim.Held by) → Turned op v turn.Held op w
  claims_not by k =
      let p = prepared_stays op.id op.root op.kept v w k.later k.update unclaimed.0 in
      let begun : begins (leaf_of (grid_under w.settings) w.seen perm) (perm_in op) ≡ true = rw (← is) k.answer.3 in
      stands_still op v w Claiming ready state k.later k.apart k.update.own k.fresh k.owes (seen_more v w k.later) tt refl (p, k.answer.0)
      (inr (
        state,
        record { prefix = leaf_of (grid_under w.settings) w.seen perm; begun = begun; other = record { by = by; is = k.answer.1; other = k.answer.2 }; leaf = k.answer.0 },
        agrees_now op.id op.kept w k.board p.knows.shard p.knows.record_is,
      ))
      (claim.Held by, subst (λ x. ClaimsLeaf v w x (claim.Held by)) is k, state)

-- a commit
module _ (op : DeleteOp) (v w : View) (page : ℕ) (ready : Ready op v) (state : op.state ≡ Committing page) where
  seeking : Seeking op.id op.root op.kept v page
  seeking = subst (λ s. StateIsReady s op v) state ready.state

  key_stays : Later v w → w.leaf ≡ v.leaf → w.records ≡ v.records → delete_key w op.id ≡ delete_key v op.id
  key_stays l e r = rw (l.settings, e, r) refl

  pub commits_down : (q : ℕ) → CommitsDelete v w page op.op op.id (commit.Down q) → Turned op v turn.More (record op { state = Committing q }) w
  commits_down q k =
      let d : GoesDown v w page q 0 (delete_key v op.id) = k.answer.1 in
      goes_on op v w (Committing page) (Committing q) op.root op.kept ready state k.later k.apart k.fresh k.owes
      (advances_none op.op (made op) None _ _ v w k.answer.0.update.own (seen_more v w k.later))
      (record {
        prepared = prepared_stays op.id op.root op.kept v w k.later k.answer.0.update seeking.prepared;
        claimed = rw k.leaf seeking.claimed;
        named = d.named;
        low_is = rw (key_stays k.later k.leaf k.answer.0.update.records) d.low_is;
        small = omega (arith, d.level_is, seeking.small);
      }) tt refl (omega (arith, down_less v w page q 0 _ seeking.small d))
      (commit.Down q, k, refl)

  pub commits_right : (q : ℕ) → CommitsDelete v w page op.op op.id (commit.Right q) → Turned op v turn.More (record op { state = Committing q }) w
  commits_right q k =
      let d : GoesRight v w page q 0 (delete_key v op.id) = k.answer.1 in
      goes_on op v w (Committing page) (Committing q) op.root op.kept ready state k.later k.apart k.fresh k.owes
      (advances_none op.op (made op) None _ _ v w k.answer.0.update.own (seen_more v w k.later))
      (record {
        prepared = prepared_stays op.id op.root op.kept v w k.later k.answer.0.update seeking.prepared;
        claimed = rw k.leaf seeking.claimed;
        named = d.named;
        low_is = rw (key_stays k.later k.leaf k.answer.0.update.records) d.low_is;
        small = omega (arith, d.level_is, seeking.small);
      }) tt refl (omega (arith, right_less v w page q 0 _ d))
      (commit.Right q, k, refl)

  pub commits_full : (limit : ℕ) → CommitsDelete v w page op.op op.id (commit.Full limit) → Turned op v turn.More (record op { state = Unclaiming (ending.Full limit) }) w
  commits_full limit k =
      let n = knows_stays op.id op.kept v w k.answer.0.update seeking.prepared.knows in
      goes_on op v w (Committing page) (Unclaiming (ending.Full limit)) op.root op.kept ready state k.later k.apart k.fresh k.owes
      (advances_none op.op (made op) None _ _ v w k.answer.0.update.own (seen_more v w k.later))
      (n.shard, rw k.leaf seeking.claimed, full_answered op w limit k.board n k.answer.2.limit_is k.answer.2.many, tt) tt refl (omega arith)
      (commit.Full limit, k, refl)

  pub commits_done : (number : ℕ) → CommitsDelete v w page op.op op.id (commit.Done number) → Turned op v turn.More (record op { state = Unclaiming (ending.Removed number) }) w
  commits_done number k =
      let e = k.answer.0 in
      let u = update.Delete op.id in
      goes_on op v w (Committing page) (Unclaiming (ending.Removed number)) op.root op.kept ready state k.later k.apart k.fresh k.owes
      (record { enters = inl (enters_last v w op.op op.id u true number e); not_before = reaches_last v w op.op op.id u true number e }) (
        e.shard ∙ seeking.prepared.knows.shard,
        rw k.leaf seeking.claimed,
        record {
          right = λ allotted all. rw e.seen (number_gained e.before w.actor op.op number u e.number_is, ap (is_live op.id) (before_gained e.before w.actor op.op number u e.number_is) ∙ e.known);
          few = k.board.legal.few;
        },
        tt,
      ) tt refl (omega arith)
      (commit.Done number, k, refl)

-- the leaf is released
module _ (op : DeleteOp) (v w : View) (e : Ending) (ready : Ready op v) (state : op.state ≡ Unclaiming e) where
  ended : (v.shard ≡ Some (shard_of op.id)) × (holds_leaf_of (perm_in op) v.leaf ≡ true) × Answered (asked op) op.op v e × IsCommitted e
  ended = subst (λ s. StateIsReady s op v) state ready.state

  pub unclaims : ReleasesLeaf v w → Turned op v turn.More (record op { state = Releasing e }) w
  unclaims k = goes_on op v w (Unclaiming e) (Releasing e) op.root op.kept ready state k.later k.apart k.fresh k.owes
      (advances_none op.op (made op) _ _ _ v w k.update.own (ends_stay (asked op) op.op v w k.later e ended.2))
      (record { shard = k.update.shard ∙ ended.0; leaf = k.leaf }, answered_stays (asked op) op.op v w e k.later ended.2) refl refl (omega arith)
      (k, refl)

-- and the shard
module _ (op : DeleteOp) (v w : View) (e : Ending) (ready : Ready op v) (state : op.state ≡ Releasing e) where
  last : HoldsShard op.id v × Answered (asked op) op.op v e
  last = subst (λ s. StateIsReady s op v) state ready.state

  pub releases : ReleasesShard v w → Turned op v (turn.Done (reply_of e)) (record op { state = Over e }) w
  releases k = record {
    id_is = refl;
    op_is = refl;
    later = k.later;
    apart = k.apart;
    fresh = k.fresh;
    owes = k.owes;
    advances = rw state (advances_none op.op (made op) _ _ _ v w k.own (ends_stay (asked op) op.op v w k.later e last.1));
    follows = rw state refl;
    root_is = subst (λ x. op.root ≡ root_after x (Over e) op.root w) (sym state) refl;
    makes = subst (λ x. Makes x op v (record op { state = Over e }) w) (sym state) (k, refl);
    outcome = (k.shard, k.leaf.leaf ∙ last.0.leaf, e, refl, refl, answered_stays (asked op) op.op v w e k.later last.1);
  }

-- what a section answered and made, told as one answer and one state
pub so_turned : (op new back : DeleteOp) (v w : View) (answer told : Turn) → new ≡ back → answer ≡ told → Turned op v told back w → Turned op v answer new w
so_turned op new back v w answer told f e t = subst (λ a. Turned op v a new w) (sym e) (subst (λ n. Turned op v told n w) (sym f) t)

-- what is kept from the first section to the last
pub since_kept : (own : List Entered) (from : ℕ) (old new : DeleteOp) (v w : View) (answer : Turn) → Turned old v answer new w → Since own from old v → Since own from new w
since_kept own from old new v w answer t h = record {
  own_is = rw (t.op_is, t.id_is) (own_kept old.op (made old) _ _ v w own t.later.actor t.advances.enters h.own_is);
  reaches = omega (arith, h.reaches, t.advances.not_before);
}

-- the sections that are left are few
pub delete_small : (op : DeleteOp) (v : View) → left op v < longest + 7
delete_small op v = go op.state
  where
    go : (s : DeleteState) → left_in s v < longest + 7
    go Begin = omega arith
    go Looking = omega arith
    go Reserving = omega arith
    go Claiming = omega arith
    go (Committing page) = omega (arith, descent_longest v page)
    go (Unclaiming e) = omega arith
    go (Releasing e) = omega arith
    go (Over e) = omega arith

-- A split from section to section.
use Rattle.std.proofs.Common.{◌≡◌, ℕ, ◌+◌, ◌-◌, ◌*◌, ◌<◌, ◌≤◌, length, Bool, true, false, ◌||◌, ◌==◌, not, IsTrue, cond, Some, None, Option, refl, sym, ap, ◌∙◌, subst, arith, inl, inr, nat_lt}
use Rattle.std.specs.Prelude.{IfSome, Result, Ok, Err, is_some, unwrap_or}
use Rattle.std.proofs.lemmas.Bool.Decides.{nat_tests}
use Rattle.std.proofs.Math.Nat.{mul-le-mul_right}
use Rattle.mi_base.specs.declared.limits.TheConstants.{MAX_UPDATES}
use Rattle.mi_base.specs.declared.records.Position.{Position}
use Rattle.mi_base.specs.declared.refusals.NoMemory.{NoMemory}
use Rattle.mi_tree.specs.declared.answers.AllotRefusal.TheVariants as allot
use Rattle.mi_tree.specs.declared.answers.Look.{Look}
use Rattle.mi_world.specs.declared.answers.Parted.TheVariants as part
use Rattle.mi_world.specs.declared.answers.Put.{Put}
use Rattle.mi_world.specs.declared.answers.Put.TheVariants as put
use Rattle.mi_world.specs.declared.answers.Visit.{Visit}
use Rattle.mi_world.specs.declared.answers.Visit.TheVariants as visit
use Rattle.mi_world.specs.View.{View, Later, SameUpdate, SameSweep, SameActors, SameWork, SameLeaf}
use Rattle.mi_world.specs.Boards.{Looks, Allots, owing}
use Rattle.mi_world.specs.Pages.{PartsPage, GoesRight}
use Rattle.mi_world.specs.Splits.{Gathers, CopiesIn, Uncopies, Publishes, MayGather, IsGathered, SameGathered, copied_in, gathered_in, gather_key, next_copy, last_copy}
use Rattle.mi_blink.specs.declared.post.Post.{Post}
use Rattle.mi_blink.specs.declared.post.PostTurn.TheVariants.{More, Done, Left, Memory as PostMemory}
use Rattle.mi_blink.specs.declared.turns.Why.{Why as Reason}
use Rattle.mi_blink.specs.declared.turns.Why.TheVariants.{NoPages, Memory}
use Rattle.mi_blink.specs.Descents.{Falls, IsRoot, Stands, budget, descent}
use Rattle.mi_blink.specs.Posting as posting
use Rattle.mi_blink.specs.Posting.{OwesOnly}
use Rattle.mi_blink.proofs.DescentLemmas.{root_keeps, stands_keeps, stands_down, stands_right, descent_longest, descent_keeps, down_less, right_less, budget_stays, budget_allots, budget_uses, falls_by}
use Rattle.mi_blink.proofs.PostLemmas.{excused_before, owes_only_stays}
use Rattle.mi_blink.proofs.OthersLemmas.{begun_ready}
use Rattle.mi_split.specs.declared.split.SplitOp.{SplitOp}
use Rattle.mi_split.specs.declared.split.SplitState.{SplitState}
use Rattle.mi_split.specs.declared.split.SplitState.TheVariants.{Looking, Gathering, Copying, Allotting, Halving, Posting, Publishing, Undoing, GivingUp, Published}
use Rattle.mi_split.specs.declared.split.SplitTurn.{SplitTurn}
use Rattle.mi_split.specs.declared.split.SplitTurn.TheVariants as turn
use Rattle.mi_split.specs.Splitting.{Ready, StateIsReady, MayCopy, MayUndo, PostIsReady, IsWhy, EarlyUnless, Since, Turned, Makes, left_in, copies_left, per_copy, per_undo, undo_most, copy_next, undo_next}

times : (a b k : ℕ) → a ≡ b + 1 → a * k ≡ b * k + k
times a b k e = rw e (omega arith)

undo_fits : (v : View) (p : ℕ) → descent v p + 2 ≤ per_undo
unfolding per_undo
undo_fits v p = omega (arith, descent_longest v p)

copy_fits : (v : View) (p : ℕ) → 3 * descent v p + 8 ≤ per_copy
unfolding per_copy
copy_fits v p = omega (arith, descent_longest v p)

-- what copies cost at most
pub undo_small : (v : View) (p : ℕ) → 0 < v.copied → v.copied ≤ MAX_UPDATES → (v.copied - 1) * per_undo + descent v p + 2 ≤ MAX_UPDATES * per_undo
undo_small v p some few =
    let a : v.copied * per_undo ≤ MAX_UPDATES * per_undo = mul-le-mul_right per_undo few in
    omega (arith, a, times v.copied (v.copied - 1) per_undo (omega (arith, some)), undo_fits v p)

pub copy_small : (v : View) (p : ℕ) → v.copied < length v.copies → length v.copies ≤ MAX_UPDATES → copies_left v + 3 * descent v p + 8 ≤ MAX_UPDATES * per_copy
copy_small v p more few =
    let n = length v.copies - (v.copied + 1) in
    let a : (n + 1) * per_copy ≤ MAX_UPDATES * per_copy = mul-le-mul_right per_copy (omega (arith, more, few)) in
    omega (arith, a, times (n + 1) n per_copy refl, copy_fits v p)

copies_step : (v w : View) → length w.copies ≡ length v.copies → w.copied ≡ v.copied + 1 → w.copied < length w.copies → copies_left v ≡ copies_left w + per_copy
copies_step v w e f more = times (length v.copies - (v.copied + 1)) (length w.copies - (w.copied + 1)) per_copy (omega (arith, e, f, more))

copies_same : (v w : View) → w.copies ≡ v.copies → w.copied ≡ v.copied → copies_left w ≡ copies_left v
copies_same v w e f = rw (e, f) refl

copied_is : (v : View) → v.splitting ≡ true → copied_in v ≡ v.copied
copied_is v s = rw s refl

gathered_is : (v : View) → v.splitting ≡ true → gathered_in v ≡ length v.copies
gathered_is v s = rw s refl

-- what each section of a split that goes on leaves as it was
pub record Keeps (v w : View) : Type 0 where
  pub later : Later v w
  pub update : SameUpdate v w
  pub sweep : SameSweep v w
  pub actors : SameActors v w
  pub pin : w.pin ≡ v.pin
  pub leaf : w.leaf ≡ v.leaf

work_keeps : (v w : View) → Later v w → SameWork v w → Keeps v w
work_keeps v w l k = record { later = l; update = k.update; sweep = k.apart.sweep; actors = k.apart.actors; pin = k.apart.pin; leaf = k.leaf.leaf }

gather_keeps : (v w : View) (page : ℕ) (answer : Result Visit NoMemory) → Gathers v w page answer → Keeps v w
gather_keeps v w page answer k = record { later = k.later; update = k.update; sweep = k.sweep; actors = k.actors; pin = k.pin; leaf = k.leaf.leaf }

copy_keeps : (v w : View) (page : ℕ) (answer : Put) → CopiesIn v w page answer → Keeps v w
copy_keeps v w page answer k = record { later = k.later; update = k.update; sweep = k.sweep; actors = k.actors; pin = k.pin; leaf = k.leaf.leaf }

uncopy_keeps : (v w : View) (page : ℕ) (answer : Put) → Uncopies v w page answer → Keeps v w
uncopy_keeps v w page answer k = record { later = k.later; update = k.update; sweep = k.sweep; actors = k.actors; pin = k.pin; leaf = k.leaf.leaf }

-- the split in this state
abbrev pub moved : SplitOp → SplitState → SplitOp
moved op s = record { leaf = op.leaf; state = s; root = op.root; post = op.post }

pub goes_on : (op : SplitOp) (v w : View) (s₀ s : SplitState) (root : ℕ) (post : Option Post) → Ready op v → op.state ≡ s₀ → Keeps v w
    → ((owed : ℕ → Bool) (early : Bool) → Since owed early op v → Since owed early (record { leaf = op.leaf; state = s; root = root; post = post }) w)
    → StateIsReady s root post w → Makes s₀ op v (record { leaf = op.leaf; state = s; root = root; post = post }) w
    → (IsTrue w.tells_full → Falls v (left_in s₀ op.post v) w (left_in s post w))
    → Turned op v turn.More (record { leaf = op.leaf; state = s; root = root; post = post }) w
goes_on op v w s₀ s root post ready e k since state makes falls = record {
  later = k.later;
  update = k.update;
  sweep = k.sweep;
  actors = k.actors;
  pin = k.pin;
  leaf = refl;
  makes = subst (λ x. Makes x op v (record { leaf = op.leaf; state = s; root = root; post = post }) w) (sym e) makes;
  since = since;
  outcome = (record { claimed = k.leaf ∙ ready.claimed; state = state }, λ t. rw e (falls t));
}

pub gathering_stays : (v w : View) → SameLeaf v w → MayGather v → MayGather w
gathering_stays v w l h = record { leaf = h.leaf; leaf_is = l.leaf ∙ h.leaf_is; wanted = l.wanted ∙ h.wanted }

pub gathered_stays : (v w : View) → SameLeaf v w → SameGathered v w → IsGathered v → IsGathered w
gathered_stays v w l g h = record { leaf = h.leaf; leaf_is = l.leaf ∙ h.leaf_is; wanted = l.wanted ∙ h.wanted; splitting = g.splitting ∙ h.splitting; whole = g.whole ∙ h.whole }

pub work_gathered : (v w : View) → SameWork v w → SameGathered v w
work_gathered v w k = record { splitting = k.apart.split.splitting; mark = k.apart.split.mark; whole = k.apart.split.whole; copies = k.apart.split.copies }

pub may_copy_stays : (v w : View) (root : ℕ) → Later v w → SameLeaf v w → SameGathered v w → w.copied ≡ v.copied → MayCopy root v → MayCopy root w
may_copy_stays v w root l leaf g e h = record {
  whole = gathered_stays v w leaf g h.whole;
  more = rw (e, g.copies) h.more;
  few = rw g.copies h.few;
  root_is = root_keeps v w root l h.root_is;
}

pub next_stays : (v w : View) → w.copies ≡ v.copies → w.copied ≡ v.copied → next_copy w ≡ next_copy v
next_stays v w e f = rw (e, f) refl

pub to_key : (v : View) (p key key' : ℕ) → key' ≡ key → Stands v p 0 key → Stands v p 0 key'
to_key v p key key' e h = subst (λ k. Stands v p 0 k) (sym e) h

root_stands : (v : View) (root key : ℕ) → IsRoot v root → Stands v root 0 key
root_stands v root key r = record { named = r.named; above = omega arith; small = r.small; low_is = rw r.low_is (omega arith) }

quiet : (owed : ℕ → Bool) (v w : View) → Later v w → w.owes ≡ v.owes → OwesOnly owed (λ p. false) v → OwesOnly owed (λ p. false) w
quiet owed v w l e h = owes_only_stays owed (λ p. false) v w l e h

-- the copies are made one after another
module _ (op : SplitOp) (v w : View) (s₀ : SplitState) (ready : Ready op v) (state : op.state ≡ s₀) (k : Keeps v w)
    (whole : IsGathered w) (within : w.copied ≤ length w.copies) (few : length w.copies ≤ MAX_UPDATES) (root : IsRoot w op.root)
    (owes : (owed : ℕ → Bool) (early : Bool) → Since owed early op v → OwesOnly owed (λ p. false) w)
    (flag : (owed : ℕ → Bool) (early : Bool) → Since owed early op v → w.early ≡ early)
    (much : w.copied < length w.copies → undo_most + 2 + copies_left w + 3 * descent w op.root + 4 < left_in s₀ op.post v) (some : undo_most + 1 < left_in s₀ op.post v) (less : budget w ≤ budget v) where
  pub on_by : (b : Bool) → nat_lt (copied_in w) (gathered_in w) ≡ b → Makes s₀ op v (moved op (cond b (Copying op.root) Publishing)) w
      → Turned op v turn.More (moved op (cond b (Copying op.root) Publishing)) w
  on_by true e m =
      let more : w.copied < length w.copies =
      let c = copied_is w whole.splitting in
      let g = gathered_is w whole.splitting in
      let f : nat_lt w.copied (length w.copies) ≡ true = rw (← c, ← g) e in grind (arith, nat_tests, f) in
      goes_on op v w s₀ (Copying op.root) op.root op.post ready state k (λ owed early h. record { owes = owes owed early h; early_is = flag owed early h })
      (record { whole = whole; more = more; few = few; root_is = root }, root_stands w op.root (next_copy w) root) m
      (λ _. inr (less, much more))
  on_by false e m =
      let all : w.copied ≡ length w.copies =
      let c = copied_is w whole.splitting in
      let g = gathered_is w whole.splitting in
      let f : nat_lt w.copied (length w.copies) ≡ false = rw (← c, ← g) e in grind (arith, nat_tests, f, within) in
      goes_on op v w s₀ Publishing op.root op.post ready state k (λ owed early h. record { owes = owes owed early h; early_is = flag owed early h })
      (whole, all, few, root) m
      (λ _. inr (less, some))

-- the copies are taken back one after another
module _ (op : SplitOp) (v w : View) (s₀ : SplitState) (why : Reason) (ready : Ready op v) (state : op.state ≡ s₀) (k : Keeps v w)
    (splitting : w.splitting ≡ true) (few : w.copied ≤ MAX_UPDATES) (root : IsRoot w op.root) (is_why : IsWhy why w)
    (owes : (owed : ℕ → Bool) (early : Bool) → Since owed early op v → OwesOnly owed (λ p. false) w)
    (flag : (owed : ℕ → Bool) (early : Bool) → Since owed early op v → EarlyUnless why early w)
    (much : 0 < w.copied → (w.copied - 1) * per_undo + descent w op.root + 2 < left_in s₀ op.post v) (some : 1 < left_in s₀ op.post v) (less : budget w ≤ budget v) where
  pub back_by : (b : Bool) → nat_lt 0 (copied_in w) ≡ b → Makes s₀ op v (moved op (cond b (Undoing op.root why) (GivingUp why))) w
      → Turned op v turn.More (moved op (cond b (Undoing op.root why) (GivingUp why))) w
  back_by true e m =
      let more : 0 < w.copied = let c = copied_is w splitting in let f : nat_lt 0 w.copied ≡ true = rw (← c) e in grind (arith, nat_tests, f) in
      goes_on op v w s₀ (Undoing op.root why) op.root op.post ready state k (λ owed early h. record { owes = owes owed early h; early_is = flag owed early h })
      (record { splitting = splitting; some = more; few = few }, root_stands w op.root (last_copy w) root, is_why, root) m
      (λ _. inr (less, much more))
  back_by false e m =
      let none : copied_in w ≡ 0 = let c = copied_is w splitting in let f : nat_lt 0 w.copied ≡ false = rw (← c) e in let n : w.copied ≡ 0 = grind (arith, nat_tests, f) in c ∙ n in
      goes_on op v w s₀ (GivingUp why) op.root op.post ready state k (λ owed early h. record { owes = owes owed early h; early_is = flag owed early h })
      (none, is_why) m
      (λ _. inr (less, some))

-- the root is looked up
module _ (op : SplitOp) (v w : View) (look : Look) (ready : Ready op v) (state : op.state ≡ Looking) (k : Looks v w look) where
  begun : MayGather v × (v.splitting ≡ false)
  begun = subst (λ s. StateIsReady s op.root op.post v) state ready.state

  pub looks : Turned op v turn.More (record { leaf = op.leaf; state = Gathering look.root; root = look.root; post = op.post }) w
  looks =
      let r : IsRoot w look.root = record { named = k.tells.named; low_is = k.tells.low_is; small = rw k.tells.level_is k.tells.low_height } in
      let unsplit : w.splitting ≡ false = k.same.work.apart.split.splitting ∙ begun.1 in
      goes_on op v w Looking (Gathering look.root) look.root op.post ready state (work_keeps v w k.later k.same.work)
      (λ owed early h. record { owes = quiet owed v w k.later k.same.owes (rw state at h.owes); early_is = k.same.work.apart.flags.early ∙ (rw state at h.early_is) })
      (gathering_stays v w k.same.work.leaf begun.0, rw unsplit refl, root_stands w look.root (gather_key w) r, r)
      (look, k, refl, refl)
      (λ _. falls_by v w _ _ k.later k.same.fresh (omega (arith, descent_longest w look.root)))

-- a page is gathered
module _ (op : SplitOp) (v w : View) (page : ℕ) (ready : Ready op v) (state : op.state ≡ Gathering page) where
  gathering : MayGather v × (copied_in v ≡ 0) × Stands v page 0 (gather_key v) × IsRoot v op.root
  gathering = subst (λ s. StateIsReady s op.root op.post v) state ready.state

  still : w.splitting ≡ true → w.mark ≡ gather_key v → gather_key w ≡ gather_key v
  still s m = rw (s, m) refl

  none_copied : w.splitting ≡ true → w.copied ≡ copied_in v → copied_in w ≡ 0
  none_copied s e = copied_is w s ∙ e ∙ gathering.1

  since_now : (Later v w) → w.owes ≡ v.owes → w.early ≡ v.early → (q : ℕ) (owed : ℕ → Bool) (early : Bool) → Since owed early op v → Since owed early (moved op (Gathering q)) w
  since_now l e f q owed early h = record { owes = quiet owed v w l e (rw state at h.owes); early_is = f ∙ (rw state at h.early_is) }

  pub gathers_down : (q : ℕ) → Gathers v w page (Ok (visit.Down q)) → Turned op v turn.More (moved op (Gathering q)) w
  gathers_down q k = goes_on op v w (Gathering page) (Gathering q) op.root op.post ready state (gather_keeps v w page _ k)
      (since_now k.later k.owes k.flags.early q) (
        gathering_stays v w k.leaf gathering.0,
        none_copied k.answer.0.splitting k.answer.0.copied,
        to_key w q (gather_key v) (gather_key w) (still k.answer.0.splitting k.answer.0.mark) (stands_down v w page q 0 (gather_key v) gathering.2.small k.answer.1),
        root_keeps v w op.root k.later gathering.3,
      )
      (_, k, refl, refl)
      (λ _. falls_by v w _ _ k.later k.fresh (omega (arith, down_less v w page q 0 (gather_key v) gathering.2.small k.answer.1)))

  pub gathers_right : (q : ℕ) → Gathers v w page (Ok (visit.Right q)) → Turned op v turn.More (moved op (Gathering q)) w
  gathers_right q k = goes_on op v w (Gathering page) (Gathering q) op.root op.post ready state (gather_keeps v w page _ k)
      (since_now k.later k.owes k.flags.early q) (
        gathering_stays v w k.leaf gathering.0,
        none_copied k.answer.0.splitting k.answer.0.copied,
        to_key w q (gather_key v) (gather_key w) (still k.answer.0.splitting k.answer.0.mark) (stands_right v w page q 0 (gather_key v) gathering.2.small k.answer.1),
        root_keeps v w op.root k.later gathering.3,
      )
      (_, k, refl, refl)
      (λ _. falls_by v w _ _ k.later k.fresh (omega (arith, right_less v w page q 0 (gather_key v) k.answer.1)))

  pub gathers_next : (q : ℕ) → Gathers v w page (Ok (visit.Read (Some q))) → Turned op v turn.More (moved op (Gathering q)) w
  gathers_next q k =
      let g = k.answer.0 in
      let r = k.answer.2 in
      let level : w.level q ≡ v.level page = r.1 ∙ sym k.answer.1.reached in
      let d : GoesRight v w page q 0 (w.low q) = record { reached = k.answer.1.reached; named = r.0; level_is = level; low_is = omega arith; after = r.3; small = r.4; high_is = r.5 } in
      let at : gather_key w ≡ w.low q = rw g.splitting g.marked.1 in
      goes_on op v w (Gathering page) (Gathering q) op.root op.post ready state (gather_keeps v w page _ k)
      (since_now k.later k.owes k.flags.early q) (
        gathering_stays v w k.leaf gathering.0,
        none_copied g.splitting g.copied,
        to_key w q (w.low q) (gather_key w) at (stands_right v w page q 0 (w.low q) gathering.2.small d),
        root_keeps v w op.root k.later gathering.3,
      )
      (_, k, refl, refl)
      (λ _. falls_by v w _ _ k.later k.fresh (omega (arith, right_less v w page q 0 (w.low q) d)))

  pub gathers_last : Gathers v w page (Ok (visit.Read None)) → Turned op v turn.More (moved op (copy_next op.root w)) w
  gathers_last k =
      let g = k.answer.0 in
      let zero : w.copied ≡ 0 = g.copied ∙ gathering.1 in
      let m = gathering_stays v w k.leaf gathering.0 in
      on_by op v w (Gathering page) ready state (gather_keeps v w page _ k)
      (record { leaf = m.leaf; leaf_is = m.leaf_is; wanted = m.wanted; splitting = g.splitting; whole = g.marked.0 }) (omega (arith, zero)) g.few (root_keeps v w op.root k.later gathering.3)
      (λ owed early h. quiet owed v w k.later k.owes (rw state at h.owes)) (λ owed early h. k.flags.early ∙ (rw state at h.early_is))
      (λ more. omega (arith, copy_small w op.root more g.few)) (omega arith) (budget_stays v w k.later k.fresh)
      (nat_lt (copied_in w) (gathered_in w)) refl (_, k, refl, refl)

  pub gathers_not : (none : NoMemory) → Gathers v w page (Err none) → Turned op v turn.More (moved op (GivingUp Memory)) w
  gathers_not none k = goes_on op v w (Gathering page) (GivingUp Memory) op.root op.post ready state (gather_keeps v w page _ k)
      (λ owed early h. record { owes = quiet owed v w k.later k.owes (rw state at h.owes); early_is = tt })
      (none_copied k.answer.splitting k.answer.copied, tt)
      (Err none, k, refl, refl)
      (λ _. falls_by v w _ _ k.later k.fresh (omega arith))

full_none : (b : Bool) → IsTrue b → cond b 0 2 ≤ 0
full_none true h = omega arith
full_none false h = cc

-- an entry is copied
module _ (op : SplitOp) (v w : View) (page : ℕ) (ready : Ready op v) (state : op.state ≡ Copying page) where
  copying : MayCopy op.root v × Stands v page 0 (next_copy v)
  copying = subst (λ s. StateIsReady s op.root op.post v) state ready.state

  calm : (Later v w) → w.owes ≡ v.owes → (owed : ℕ → Bool) (early : Bool) → Since owed early op v → OwesOnly owed (λ p. false) w
  calm l e owed early h = quiet owed v w l e (rw state at h.owes)

  flag_same : w.early ≡ v.early → (owed : ℕ → Bool) (early : Bool) → Since owed early op v → w.early ≡ early
  flag_same e owed early h = e ∙ (rw state at h.early_is)

  pub copies_down : (q : ℕ) → CopiesIn v w page (put.Down q) → Turned op v turn.More (moved op (Copying q)) w
  copies_down q k = goes_on op v w (Copying page) (Copying q) op.root op.post ready state (copy_keeps v w page _ k)
      (λ owed early h. record { owes = calm k.later k.owes owed early h; early_is = flag_same k.flags.early owed early h }) (
        may_copy_stays v w op.root k.later k.leaf k.gathered k.answer.0 copying.0,
        to_key w q (next_copy v) (next_copy w) (next_stays v w k.gathered.copies k.answer.0) (stands_down v w page q 0 (next_copy v) copying.1.small k.answer.1),
      )
      (_, k, refl, refl)
      (λ _. falls_by v w _ _ k.later k.fresh (omega (arith, copies_same v w k.gathered.copies k.answer.0, down_less v w page q 0 (next_copy v) copying.1.small k.answer.1)))

  pub copies_right : (q : ℕ) → CopiesIn v w page (put.Right q) → Turned op v turn.More (moved op (Copying q)) w
  copies_right q k = goes_on op v w (Copying page) (Copying q) op.root op.post ready state (copy_keeps v w page _ k)
      (λ owed early h. record { owes = calm k.later k.owes owed early h; early_is = flag_same k.flags.early owed early h }) (
        may_copy_stays v w op.root k.later k.leaf k.gathered k.answer.0 copying.0,
        to_key w q (next_copy v) (next_copy w) (next_stays v w k.gathered.copies k.answer.0) (stands_right v w page q 0 (next_copy v) copying.1.small k.answer.1),
      )
      (_, k, refl, refl)
      (λ _. falls_by v w _ _ k.later k.fresh (omega (arith, copies_same v w k.gathered.copies k.answer.0, right_less v w page q 0 (next_copy v) k.answer.1)))

  here : Later v w → w.copies ≡ v.copies → w.copied ≡ v.copied → Stands w page 0 (next_copy w)
  here l e f = to_key w page (next_copy v) (next_copy w) (next_stays v w e f) (stands_keeps v w page 0 (next_copy v) l copying.1)

  pub copies_full : CopiesIn v w page put.PageFull → is_some w.fresh ≡ true → Turned op v turn.More (moved op (Halving page)) w
  copies_full k f = goes_on op v w (Copying page) (Halving page) op.root op.post ready state (copy_keeps v w page _ k)
      (λ owed early h. record { owes = calm k.later k.owes owed early h; early_is = flag_same k.flags.early owed early h })
      (may_copy_stays v w op.root k.later k.leaf k.gathered k.answer.0 copying.0, here k.later k.gathered.copies k.answer.0, k.later.level page copying.1.named ∙ k.answer.1.reached, f)
      (put.PageFull, k, rw f refl, refl)
      (λ t. falls_by v w _ _ k.later k.fresh (omega (arith, copies_same v w k.gathered.copies k.answer.0, descent_keeps v w page k.later copying.1.named, full_none (w.full page) (k.answer.2.told_full t))))

  pub copies_wanting : CopiesIn v w page put.PageFull → is_some w.fresh ≡ false → Turned op v turn.More (moved op (Allotting page)) w
  copies_wanting k f = goes_on op v w (Copying page) (Allotting page) op.root op.post ready state (copy_keeps v w page _ k)
      (λ owed early h. record { owes = calm k.later k.owes owed early h; early_is = flag_same k.flags.early owed early h })
      (may_copy_stays v w op.root k.later k.leaf k.gathered k.answer.0 copying.0, here k.later k.gathered.copies k.answer.0, k.later.level page copying.1.named ∙ k.answer.1.reached, f)
      (put.PageFull, k, rw f refl, refl)
      (λ t. falls_by v w _ _ k.later k.fresh (omega (arith, copies_same v w k.gathered.copies k.answer.0, descent_keeps v w page k.later copying.1.named)))

  pub copies_done : CopiesIn v w page put.Done → Turned op v turn.More (moved op (copy_next op.root w)) w
  copies_done k =
      let few : length w.copies ≤ MAX_UPDATES = rw k.gathered.copies copying.0.few in
      on_by op v w (Copying page) ready state (copy_keeps v w page _ k) (gathered_stays v w k.leaf k.gathered copying.0.whole)
      (rw (k.answer.0, k.gathered.copies) (omega (arith, copying.0.more))) few (root_keeps v w op.root k.later copying.0.root_is)
      (calm k.later k.owes) (flag_same k.flags.early)
      (λ more. omega (arith, copies_step v w (ap length k.gathered.copies) k.answer.0 more, copy_fits w op.root)) (omega arith) (budget_stays v w k.later k.fresh)
      (nat_lt (copied_in w) (gathered_in w)) refl (put.Done, k, refl, refl)

-- a page is allotted
module _ (op : SplitOp) (v w : View) (page : ℕ) (ready : Ready op v) (state : op.state ≡ Allotting page) where
  lacking : MayCopy op.root v × Stands v page 0 (next_copy v) × (v.level page ≡ 0) × (is_some v.fresh ≡ false)
  lacking = subst (λ s. StateIsReady s op.root op.post v) state ready.state

  pub allots : (u : Unit {0}) → Allots v w (Ok u) → Turned op v turn.More (moved op (Halving page)) w
  allots u k =
      let c = k.work.apart.split in
      goes_on op v w (Allotting page) (Halving page) op.root op.post ready state (work_keeps v w k.later k.work)
      (λ owed early h. record { owes = quiet owed v w k.later k.owes (rw state at h.owes); early_is = k.work.apart.flags.early ∙ (rw state at h.early_is) }) (
        may_copy_stays v w op.root k.later k.work.leaf (work_gathered v w k.work) c.copied lacking.0,
        to_key w page (next_copy v) (next_copy w) (next_stays v w c.copies c.copied) (stands_keeps v w page 0 (next_copy v) k.later lacking.1),
        k.later.level page lacking.1.named ∙ lacking.2,
        k.answer.0,
      )
      (Ok u, k, refl, refl)
      (λ _. inl (budget_allots v w k.later lacking.3 k.answer.0 k.answer.1 k.board.few))

  refused : (why : Reason) → Later v w → SameWork v w → w.owes ≡ v.owes → w.fresh ≡ v.fresh → IsWhy why w → ((early : Bool) → w.early ≡ early → EarlyUnless why early w)
      → Makes (Allotting page) op v (moved op (undo_next why op.root w)) w → Turned op v turn.More (moved op (undo_next why op.root w)) w
  refused why l k o f is flag makes =
      let s : w.splitting ≡ true = k.apart.split.splitting ∙ lacking.0.whole.splitting in
      let few : w.copied ≤ MAX_UPDATES = rw k.apart.split.copied (omega (arith, lacking.0.more, lacking.0.few)) in
      back_by op v w (Allotting page) why ready state (work_keeps v w l k) s few (root_keeps v w op.root l lacking.0.root_is) is
      (λ owed early h. quiet owed v w l o (rw state at h.owes)) (λ owed early h. flag early (k.apart.flags.early ∙ (rw state at h.early_is)))
      (λ more. omega (arith, undo_small w op.root more few)) (omega arith) (budget_stays v w l f) (nat_lt 0 (copied_in w)) refl makes

  pub refused_pages : (limit : ℕ) → Allots v w (Err (allot.PagesFull limit)) → Turned op v turn.More (moved op (undo_next (NoPages limit) op.root w)) w
  refused_pages limit k = refused (NoPages limit) k.later k.work k.owes k.answer.0 (k.answer.1, k.answer.3) (λ early h. h) (Err (allot.PagesFull limit), k, refl, refl)

  pub refused_memory : Allots v w (Err allot.Memory) → Turned op v turn.More (moved op (undo_next Memory op.root w)) w
  refused_memory k = refused Memory k.later k.work k.owes k.answer.0 tt (λ early h. tt) (Err allot.Memory, k, refl, refl)

two_full : (b : Bool) → b ≡ false → 2 ≤ cond b 0 2
two_full true e = cc
two_full false e = omega arith

owe_more : (a b s : Bool) → (IsTrue a → IsTrue (s || false)) → IsTrue (a || b) → IsTrue (s || (b || false))
owe_more a true true h o = refl
owe_more a true false h o = refl
owe_more true false s h o = h refl
owe_more false false s h o = cc

-- a page is halved, or isn't full any more
module _ (op : SplitOp) (v w : View) (page : ℕ) (ready : Ready op v) (state : op.state ≡ Halving page) where
  halving : MayCopy op.root v × Stands v page 0 (next_copy v) × (v.level page ≡ 0) × (is_some v.fresh ≡ true)
  halving = subst (λ s. StateIsReady s op.root op.post v) state ready.state

  copies_here : Later v w → SameWork v w → MayCopy op.root w × Stands w page 0 (next_copy w)
  copies_here l k =
      let c = k.apart.split in (
        may_copy_stays v w op.root l k.leaf (work_gathered v w k) c.copied halving.0,
        to_key w page (next_copy v) (next_copy w) (next_stays v w c.copies c.copied) (stands_keeps v w page 0 (next_copy v) l halving.1),
      )

  pub halves_not : PartsPage v w page part.Roomy → Turned op v turn.More (moved op (Copying page)) w
  halves_not k =
      let c = k.work.apart.split in
      goes_on op v w (Halving page) (Copying page) op.root op.post ready state (work_keeps v w k.later k.work)
      (λ owed early h. record { owes = quiet owed v w k.later k.answer.1 (rw state at h.owes); early_is = k.work.apart.flags.early ∙ (rw state at h.early_is) })
      (copies_here k.later k.work)
      (part.Roomy, k, refl, refl)
      (λ t. falls_by v w _ _ k.later k.answer.0
      (omega (arith, copies_same v w c.copies c.copied, descent_keeps v w page k.later halving.1.named, two_full (v.full page) (k.answer.3 (rw (← k.later.tells_full) t)))))

  owes_child : (key child : ℕ) (post : Post) (owed : ℕ → Bool) → posting.Begun post 1 key child → Later v w → w.owes ≡ owing child v.owes
      → OwesOnly owed (λ p. false) v → OwesOnly owed (posting.pending post) w
  owes_child key child post owed b l e h f p o = rw (b.child_is, b.waiting_is)
      (owe_more (v.owes p) (p == child) (owed p) (h (excused_before v w l f) p) (subst (λ (g : ℕ → Bool). IsTrue (g p)) e o))

  pub halves : (key child : ℕ) (post : Post) → posting.Begun post 1 key child → PartsPage v w page (part.Parted key child)
      → Turned op v turn.More (record { leaf = op.leaf; state = Posting page; root = op.root; post = Some post }) w
  halves key child post b k =
      let a = k.answer in
      let h = copies_here k.later k.work in
      goes_on op v w (Halving page) (Posting page) op.root (Some post) ready state (work_keeps v w k.later k.work)
      (λ owed early h. record { owes = owes_child key child post owed b k.later a.1 (rw state at h.owes); early_is = k.work.apart.flags.early ∙ (rw state at h.early_is) })
      (h.0, h.1, begun_ready post 1 key child w b (record { named = a.2; level_is = omega (arith, a.3, halving.2); low_is = a.4; later_key = omega (arith, a.5) }) (omega arith))
      (part.Parted key child, k, (refl, post, refl, b), refl)
      (λ _. inl (budget_uses v w k.later halving.3 a.0))

some_root : (w : View) (r : Option ℕ) (root : ℕ) → IfSome r (IsRoot w) → IsRoot w root → IsRoot w (unwrap_or r root)
some_root w None root h d = d
some_root w (Some p) root h d = h

-- a post inside
module _ (op : SplitOp) (v w : View) (page : ℕ) (p q : Post) (ready : Ready op v) (state : op.state ≡ Posting page) (under : op.post ≡ Some p) where
  inside : MayCopy op.root v × Stands v page 0 (next_copy v) × PostIsReady op.post v
  inside = subst (λ s. StateIsReady s op.root op.post v) state ready.state

  stays : (l : Later v w) (u : SameWork v w) → Stands w page 0 (next_copy w)
  stays l u = to_key w page (next_copy v) (next_copy w) (next_stays v w u.apart.split.copies u.apart.split.copied) (stands_keeps v w page 0 (next_copy v) l inside.1)

  pub posts_on : posting.Turned p v More q w → Turned op v turn.More (record { leaf = op.leaf; state = Posting page; root = op.root; post = Some q }) w
  posts_on t = goes_on op v w (Posting page) (Posting page) op.root (Some q) ready state (work_keeps v w t.later t.work)
      (λ owed early h. record { owes = t.owes owed (rw (state, under) at h.owes); early_is = t.work.apart.flags.early ∙ (rw state at h.early_is) })
      (may_copy_stays v w op.root t.later t.work.leaf (work_gathered v w t.work) t.work.apart.split.copied inside.0, stays t.later t.work, t.outcome.0)
      (p, q, More, under, t, (refl, refl, refl))
      (λ f. rw under (combine (t.outcome.1 f)))
    where
      combine : Falls v (posting.left p v) w (posting.left q w)
          → Falls v (undo_most + 2 + copies_left v + 3 * descent v page + 5 + posting.left p v) w (undo_most + 2 + copies_left w + 3 * descent w page + 5 + posting.left q w)
      combine (inl h) = inl h
      combine (inr h) = inr (h.0, omega (arith, h.1, copies_same v w t.work.apart.split.copies t.work.apart.split.copied, descent_keeps v w page t.later inside.1.named))

  over : (post : Option Post) → Later v w → SameWork v w → IfSome q.root (IsRoot w) → budget w ≤ budget v
      → ((owed : ℕ → Bool) → OwesOnly owed (posting.pending p) v → OwesOnly owed (λ x. false) w)
      → Makes (Posting page) op v (record { leaf = op.leaf; state = Copying page; root = unwrap_or q.root op.root; post = post }) w
      → Turned op v turn.More (record { leaf = op.leaf; state = Copying page; root = unwrap_or q.root op.root; post = post }) w
  over post l u r b owes makes =
      let c = u.apart.split in
      let m = may_copy_stays v w op.root l u.leaf (work_gathered v w u) c.copied inside.0 in
      goes_on op v w (Posting page) (Copying page) (unwrap_or q.root op.root) post ready state (work_keeps v w l u)
      (λ owed early h. record { owes = owes owed (rw (state, under) at h.owes); early_is = u.apart.flags.early ∙ (rw state at h.early_is) })
      (record { whole = m.whole; more = m.more; few = m.few; root_is = some_root w q.root op.root r m.root_is }, stays l u)
      makes
      (λ _. inr (b, omega (arith, copies_same v w c.copies c.copied, descent_keeps v w page l inside.1.named)))

  pub posted : (post : Option Post) → posting.Turned p v Done q w → Turned op v turn.More (record { leaf = op.leaf; state = Copying page; root = unwrap_or q.root op.root; post = post }) w
  posted post t = over post t.later t.work t.root_is t.outcome.1 t.owes (p, q, Done, under, t, (refl, refl))

  pub posted_left : (limit : ℕ) (post : Option Post) → posting.Turned p v (Left limit) q w → Turned op v turn.More (record { leaf = op.leaf; state = Copying page; root = unwrap_or q.root op.root; post = post }) w
  posted_left limit post t = over post t.later t.work t.root_is t.outcome.5 t.owes (p, q, Left limit, under, t, (refl, refl))

  pub posted_memory : (post : Option Post) → posting.Turned p v PostMemory q w → Turned op v turn.More (record { leaf = op.leaf; state = Copying page; root = unwrap_or q.root op.root; post = post }) w
  posted_memory post t = over post t.later t.work t.root_is t.outcome.2 t.owes (p, q, PostMemory, under, t, (refl, refl))

pub on_answer : (op new back : SplitOp) (v w : View) (answer : SplitTurn) → answer ≡ turn.More → new ≡ back → Turned op v turn.More back w → Turned op v answer new w
on_answer op new back v w answer e f t = subst (λ a. Turned op v a new w) (sym e) (subst (λ n. Turned op v turn.More n w) (sym f) t)

-- the split is published, or it isn't
module _ (op : SplitOp) (v w : View) (ready : Ready op v) (state : op.state ≡ Publishing) where
  publishing : IsGathered v × (v.copied ≡ length v.copies) × (length v.copies ≤ MAX_UPDATES) × IsRoot v op.root
  publishing = subst (λ s. StateIsReady s op.root op.post v) state ready.state

  pub publishes : (position : Position) → Publishes v w (Ok position) → Turned op v (turn.Published position) (moved op Published) w
  publishes position k = record {
    later = k.later;
    update = k.update;
    sweep = k.sweep;
    actors = k.actors;
    pin = k.pin;
    leaf = refl;
    makes = subst (λ x. Makes x op v (moved op Published) w) (sym state) (Ok position, k, refl, refl);
    since = λ owed early h. record { owes = quiet owed v w k.later k.owes (rw state at h.owes); early_is = k.flags.early ∙ (rw state at h.early_is) };
    outcome = (refl, k, copied_is v publishing.0.splitting ∙ publishing.1 ∙ sym (gathered_is v publishing.0.splitting), budget_stays v w k.later k.fresh);
  }

  pub publishes_not : (none : NoMemory) → Publishes v w (Err none) → Turned op v turn.More (moved op (undo_next Memory op.root w)) w
  publishes_not none k =
      let s : w.splitting ≡ true = k.answer.1.splitting ∙ publishing.0.splitting in
      let few : w.copied ≤ MAX_UPDATES = rw k.answer.1.copied (omega (arith, publishing.1, publishing.2)) in
      back_by op v w Publishing Memory ready state (record { later = k.later; update = k.update; sweep = k.sweep; actors = k.actors; pin = k.pin; leaf = k.answer.0.leaf })
      s few (root_keeps v w op.root k.later publishing.3) tt
      (λ owed early h. quiet owed v w k.later k.owes (rw state at h.owes)) (λ owed early h. tt)
      (λ more. omega (arith, undo_small w op.root more few)) (omega arith) (budget_stays v w k.later k.fresh) (nat_lt 0 (copied_in w)) refl (Err none, k, refl, refl)

early_keeps : (why : Reason) (v w : View) (early : Bool) → IsWhy why v → w.early ≡ (v.early || not v.told) → EarlyUnless why early v → EarlyUnless why early w
early_keeps (NoPages limit) v w early is e h = let t = is.1 in e ∙ (grind (arith, t, h))
early_keeps Memory v w early is e h = tt

early_same : (why : Reason) (v w : View) (early : Bool) → w.early ≡ v.early → EarlyUnless why early v → EarlyUnless why early w
early_same (NoPages limit) v w early e h = e ∙ h
early_same Memory v w early e h = tt

pub why_keeps : (why : Reason) (v w : View) → Later v w → IsWhy why v → IsWhy why w
why_keeps (NoPages limit) v w l h = (h.0 ∙ ap (λ c. c.pages) (sym l.settings), l.told h.1)
why_keeps Memory v w l h = tt

-- a copy is taken back
module _ (op : SplitOp) (v w : View) (page : ℕ) (why : Reason) (ready : Ready op v) (state : op.state ≡ Undoing page why) where
  undoing : MayUndo v × Stands v page 0 (last_copy v) × IsWhy why v × IsRoot v op.root
  undoing = subst (λ s. StateIsReady s op.root op.post v) state ready.state

  flag_raised : w.early ≡ (v.early || not v.told) → (owed : ℕ → Bool) (early : Bool) → Since owed early op v → EarlyUnless why early w
  flag_raised e owed early h = early_keeps why v w early undoing.2 e (rw state at h.early_is)

  flag_kept : w.early ≡ v.early → (owed : ℕ → Bool) (early : Bool) → Since owed early op v → EarlyUnless why early w
  flag_kept e owed early h = early_same why v w early e (rw state at h.early_is)

  last_stays : w.copies ≡ v.copies → w.copied ≡ v.copied → last_copy w ≡ last_copy v
  last_stays e f = rw (e, f) refl

  may_undo : SameGathered v w → w.copied ≡ v.copied → MayUndo w
  may_undo g e = record { splitting = g.splitting ∙ undoing.0.splitting; some = rw e undoing.0.some; few = rw e undoing.0.few }

  pub undoes_down : (q : ℕ) → Uncopies v w page (put.Down q) → Turned op v turn.More (moved op (Undoing q why)) w
  undoes_down q k = goes_on op v w (Undoing page why) (Undoing q why) op.root op.post ready state (uncopy_keeps v w page _ k)
      (λ owed early h. record { owes = quiet owed v w k.later k.owes (rw state at h.owes); early_is = flag_kept k.answer.2.early owed early h }) (
        may_undo k.gathered k.answer.0,
        to_key w q (last_copy v) (last_copy w) (last_stays k.gathered.copies k.answer.0) (stands_down v w page q 0 (last_copy v) undoing.1.small k.answer.1),
        why_keeps why v w k.later undoing.2,
        root_keeps v w op.root k.later undoing.3,
      )
      (put.Down q, k, refl, refl)
      (λ _. falls_by v w _ _ k.later k.fresh (omega (arith, ap (λ n. (n - 1) * per_undo) k.answer.0, down_less v w page q 0 (last_copy v) undoing.1.small k.answer.1)))

  pub undoes_right : (q : ℕ) → Uncopies v w page (put.Right q) → Turned op v turn.More (moved op (Undoing q why)) w
  undoes_right q k = goes_on op v w (Undoing page why) (Undoing q why) op.root op.post ready state (uncopy_keeps v w page _ k)
      (λ owed early h. record { owes = quiet owed v w k.later k.owes (rw state at h.owes); early_is = flag_kept k.answer.2.early owed early h }) (
        may_undo k.gathered k.answer.0,
        to_key w q (last_copy v) (last_copy w) (last_stays k.gathered.copies k.answer.0) (stands_right v w page q 0 (last_copy v) undoing.1.small k.answer.1),
        why_keeps why v w k.later undoing.2,
        root_keeps v w op.root k.later undoing.3,
      )
      (put.Right q, k, refl, refl)
      (λ _. falls_by v w _ _ k.later k.fresh (omega (arith, ap (λ n. (n - 1) * per_undo) k.answer.0, right_less v w page q 0 (last_copy v) k.answer.1)))

  pub undoes_one : Uncopies v w page put.Done → Turned op v turn.More (moved op (undo_next why op.root w)) w
  undoes_one k =
      let less : w.copied + 1 ≡ v.copied = k.answer.0 in
      let is : v.copied - 1 ≡ w.copied = omega (arith, less) in
      back_by op v w (Undoing page why) why ready state (uncopy_keeps v w page _ k) (k.gathered.splitting ∙ undoing.0.splitting) (omega (arith, undoing.0.few, less))
      (root_keeps v w op.root k.later undoing.3) (why_keeps why v w k.later undoing.2)
      (λ owed early h. quiet owed v w k.later k.owes (rw state at h.owes)) (flag_raised k.answer.3)
      (λ more. rw is (omega (arith, times w.copied (w.copied - 1) per_undo (omega (arith, more)), undo_fits w op.root))) (omega arith) (budget_stays v w k.later k.fresh)
      (nat_lt 0 (copied_in w)) refl (put.Done, k, refl, refl)

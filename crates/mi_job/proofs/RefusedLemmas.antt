-- An insert ends for want of pages exactly where the page that was wanted for a full leaf page was refused.
use Rattle.std.proofs.Common.{◌≡◌, ℕ, Bool, true, false, cond, Option, Some, None, Result, Ok, Err, is_some, refl, sym, ap, ◌∙◌, subst, rules, inl, inr}
use Rattle.std.specs.Prelude.{◌⊎◌}
use Rattle.mi_base.specs.declared.records.Op.{Op}
use Rattle.mi_base.specs.declared.records.Op.TheVariants as op
use Rattle.mi_base.specs.declared.records.Position.{Position}
use Rattle.mi_base.specs.declared.records.Reply.{Reply}
use Rattle.mi_base.specs.declared.records.Reply.TheVariants as reply
use Rattle.mi_base.specs.declared.refusals.NoMemory.{NoMemory}
use Rattle.mi_tree.specs.declared.answers.AllotRefusal.{AllotRefusal}
use Rattle.mi_tree.specs.declared.answers.AllotRefusal.TheVariants as allot
use Rattle.mi_world.specs.declared.answers.Parted.{Parted}
use Rattle.mi_world.specs.declared.answers.Parted.TheVariants as part
use Rattle.mi_world.specs.declared.answers.Put.{Put}
use Rattle.mi_world.specs.declared.answers.Put.TheVariants as put
use Rattle.mi_world.specs.declared.answers.Visit.{Visit}
use Rattle.mi_world.specs.declared.answers.Visit.TheVariants as visit
use Rattle.mi_world.specs.Boards.{Allots}
use Rattle.mi_world.specs.View.{View}
use Rattle.mi_blink.specs.declared.post.Post.{Post}
use Rattle.mi_blink.specs.declared.post.PostTurn.{PostTurn}
use Rattle.mi_blink.specs.declared.post.PostTurn.TheVariants as post_turn
use Rattle.mi_blink.specs.declared.turns.Turn.{Turn}
use Rattle.mi_blink.specs.declared.turns.Turn.TheVariants as turn
use Rattle.mi_blink.specs.declared.turns.Why.{Why as Reason}
use Rattle.mi_blink.specs.declared.turns.Why.TheVariants.{NoPages, Memory}
use Rattle.mi_split.specs.declared.split.SplitOp.{SplitOp}
use Rattle.mi_split.specs.declared.split.SplitState.{SplitState}
use Rattle.mi_split.specs.declared.split.SplitState.TheVariants as at
use Rattle.mi_split.specs.declared.split.SplitTurn.{SplitTurn}
use Rattle.mi_split.specs.declared.split.SplitTurn.TheVariants as divided
use Rattle.mi_split.specs.Splitting as splitting
use Rattle.mi_split.specs.Splitting.{AfterHalf, AfterPost, after_copy, after_gather, for_pages}
use Rattle.mi_update.specs.declared.endings.Ending.{Ending}
use Rattle.mi_update.specs.declared.endings.Ending.TheVariants as ending
use Rattle.mi_update.specs.declared.insert.InsertOp.{InsertOp}
use Rattle.mi_update.specs.declared.insert.InsertState.{InsertState}
use Rattle.mi_update.specs.declared.insert.InsertState.TheVariants.{Begin, Looking, Reserving, Claiming, Committing, Splitting, Allotting, Halving, Posting, Unclaiming, Releasing, Over}
use Rattle.mi_update.specs.Endings.{IsRight, reply_of}
use Rattle.mi_update.specs.Inserting as inserting
use Rattle.mi_update.specs.Inserting.{Follows, refusal_of}
use Rattle.mi_job.specs.declared.inserts.InsertJob.{InsertJob}
use Rattle.mi_job.specs.declared.job.Operation.{Operation}
use Rattle.mi_job.specs.declared.job.Operation.TheVariants.{Insert, Delete, Range, Nearest}
use Rattle.mi_job.specs.declared.turns.JobTurn.{JobTurn}
use Rattle.mi_job.specs.declared.turns.JobTurn.TheVariants.{More, Done}
use Rattle.mi_job.specs.Inserts as inserts
use Rattle.mi_job.specs.Jobs as jobs
use Rattle.mi_job.specs.Wanting.{IsRefused, ends_for_pages, insert_lacks, insert_wants, is_no_pages, lacks, next_lacks, next_wants, split_lacks, split_wants, wants}

-- a page that was wanted is refused
record Refused (wanted : Option ℕ) (w : View) : Type 0 where
  page : ℕ
  is : wanted ≡ Some page
  none : is_some w.fresh ≡ false
  all : w.allotted ≡ w.settings.pages

-- it was so already, or it is so by this section
abbrev Since : Bool → Option ℕ → View → Type 0
Since lacked wanted w = (lacked ≡ true) ⊎ Refused wanted w

module _ (root : ℕ) (w : View) where
  unclaimed : (n : ℕ) (s₀ : InsertState) → Follows s₀ (Unclaiming (ending.NoPages n)) root w → n ≡ w.settings.pages → Since (insert_lacks s₀) (insert_wants s₀) w
  unclaimed n (Allotting p) f e = inr (record { page = p; is = refl; none = f.0; all = f.1 ∙ e })
  unclaimed n Begin f e = absurd f
  unclaimed n Looking f e = absurd f
  unclaimed n Reserving f e = absurd f
  unclaimed n Claiming f e = absurd f
  unclaimed n (Committing p) f e = absurd f
  unclaimed n Splitting f e = absurd f
  unclaimed n (Halving p) f e = absurd f
  unclaimed n (Posting p) f e = absurd f
  unclaimed n (Unclaiming d) f e = absurd f
  unclaimed n (Releasing d) f e = absurd f
  unclaimed n (Over d) f e = absurd f

  released : (n : ℕ) (s₀ : InsertState) → Follows s₀ (Releasing (ending.NoPages n)) root w → insert_lacks s₀ ≡ true
  released n (Unclaiming d) f = rw (← f) refl
  released n Begin f = absurd f
  released n Looking f = absurd f
  released n Reserving f = absurd f
  released n Claiming f = absurd f
  released n (Committing p) f = absurd f
  released n Splitting f = absurd f
  released n (Allotting p) f = absurd f
  released n (Halving p) f = absurd f
  released n (Posting p) f = absurd f
  released n (Releasing d) f = absurd f
  released n (Over d) f = absurd f

  -- the end is that of the ending before
  ends_as : (e : Ending) (s₀ : InsertState) → Follows s₀ (Over e) root w → insert_lacks s₀ ≡ ends_for_pages e
  ends_as e (Releasing d) f = ap ends_for_pages (sym f)
  ends_as e Begin f = absurd f
  ends_as e Looking f = absurd f
  ends_as e Reserving f = absurd f
  ends_as e Claiming f = absurd f
  ends_as e (Committing p) f = absurd f
  ends_as e Splitting f = absurd f
  ends_as e (Allotting p) f = absurd f
  ends_as e (Halving p) f = absurd f
  ends_as e (Posting p) f = absurd f
  ends_as e (Unclaiming d) f = absurd f
  ends_as e (Over d) f = absurd f

  follows_lacks : (s₀ s : InsertState) → Follows s₀ s root w → insert_lacks s ≡ true → ((n : ℕ) → s ≡ Unclaiming (ending.NoPages n) → n ≡ w.settings.pages) → Since (insert_lacks s₀) (insert_wants s₀) w
  follows_lacks s₀ (Unclaiming (ending.NoPages n)) f h limit = unclaimed n s₀ f (limit n refl)
  follows_lacks s₀ (Unclaiming (ending.Stored n)) f h limit = absurd (search rules)
  follows_lacks s₀ (Unclaiming (ending.Removed n)) f h limit = absurd (search rules)
  follows_lacks s₀ (Unclaiming (ending.Present p)) f h limit = absurd (search rules)
  follows_lacks s₀ (Unclaiming (ending.Absent p)) f h limit = absurd (search rules)
  follows_lacks s₀ (Unclaiming (ending.Full n)) f h limit = absurd (search rules)
  follows_lacks s₀ (Unclaiming ending.Memory) f h limit = absurd (search rules)
  follows_lacks s₀ (Releasing (ending.NoPages n)) f h limit = inl (released n s₀ f)
  follows_lacks s₀ (Releasing (ending.Stored n)) f h limit = absurd (search rules)
  follows_lacks s₀ (Releasing (ending.Removed n)) f h limit = absurd (search rules)
  follows_lacks s₀ (Releasing (ending.Present p)) f h limit = absurd (search rules)
  follows_lacks s₀ (Releasing (ending.Absent p)) f h limit = absurd (search rules)
  follows_lacks s₀ (Releasing (ending.Full n)) f h limit = absurd (search rules)
  follows_lacks s₀ (Releasing ending.Memory) f h limit = absurd (search rules)
  follows_lacks s₀ (Over e) f h limit = inl (ends_as e s₀ f ∙ h)
  follows_lacks s₀ Begin f h limit = absurd (search rules)
  follows_lacks s₀ Looking f h limit = absurd (search rules)
  follows_lacks s₀ Reserving f h limit = absurd (search rules)
  follows_lacks s₀ Claiming f h limit = absurd (search rules)
  follows_lacks s₀ (Committing p) f h limit = absurd (search rules)
  follows_lacks s₀ Splitting f h limit = absurd (search rules)
  follows_lacks s₀ (Allotting p) f h limit = absurd (search rules)
  follows_lacks s₀ (Halving p) f h limit = absurd (search rules)
  follows_lacks s₀ (Posting p) f h limit = absurd (search rules)

-- a state that lacks none
none_lacked : {X : Type 0} (P : Type 0) (x y : X) (f : X → Bool) → x ≡ y → f y ≡ false → f x ≡ true → P
none_lacked P x y f e n h = let k : true ≡ false = sym h ∙ ap f e ∙ n in absurd (search rules)

copy_none : (b : Bool) (root : ℕ) → split_lacks (cond b (at.Copying root) at.Publishing) ≡ false
copy_none true root = refl
copy_none false root = refl

undo_as : (b : Bool) (root : ℕ) (why : Reason) → split_lacks (cond b (at.Undoing root why) (at.GivingUp why)) ≡ for_pages why
undo_as true root why = refl
undo_as false root why = refl

hand_none : (b : Bool) (p : ℕ) → split_lacks (cond b (at.Halving p) (at.Allotting p)) ≡ false
hand_none true p = refl
hand_none false p = refl

module _ (s s' : SplitOp) (v w : View) (lacked : split_lacks s'.state ≡ true) where
  not_so : (P : Type 0) (x : SplitState) → s'.state ≡ x → split_lacks x ≡ false → P
  not_so P x e n = none_lacked P s'.state x split_lacks e n lacked

  as_before : (b : Bool) (x : SplitState) → s'.state ≡ x → split_lacks x ≡ b → b ≡ true
  as_before b x e n = sym n ∙ sym (ap split_lacks e) ∙ lacked

  copied : (P : Type 0) (answer : Put) (p root : ℕ) → s'.state ≡ after_copy answer p root w → P
  copied P (put.Down q) p root e = not_so P (at.Copying q) e refl
  copied P (put.Right q) p root e = not_so P (at.Copying q) e refl
  copied P put.PageFull p root e = not_so P _ e (hand_none _ p)
  copied P put.Done p root e = not_so P _ e (copy_none _ root)

  gathered : (P : Type 0) (answer : Result Visit NoMemory) (root : ℕ) → s'.state ≡ after_gather answer root w → P
  gathered P (Ok (visit.Down q)) root e = not_so P (at.Gathering q) e refl
  gathered P (Ok (visit.Right q)) root e = not_so P (at.Gathering q) e refl
  gathered P (Ok (visit.Read (Some q))) root e = not_so P (at.Gathering q) e refl
  gathered P (Ok (visit.Read None)) root e = not_so P _ e (copy_none _ root)
  gathered P (Err x) root e = not_so P (at.GivingUp Memory) e refl

  allotted : (answer : Result (Unit {0}) AllotRefusal) (p root : ℕ) → is_some v.fresh ≡ false → Allots v w answer → s'.state ≡ splitting.after_allot answer p root w → Since false (Some p) w
  allotted (Ok x) p root none k e = not_so _ (at.Halving p) e refl
  allotted (Err (allot.PagesFull limit)) p root none k e = inr (record { page = p; is = refl; none = ap is_some k.answer.0 ∙ none; all = k.answer.2 ∙ k.answer.1 })
  allotted (Err allot.Memory) p root none k e = not_so _ _ e (undo_as _ root Memory)

  halved : (P : Type 0) (answer : Parted) (p : ℕ) → AfterHalf answer p s' → P
  halved P (part.Parted key child) p h = not_so P (at.Posting p) h.0 refl
  halved P part.Roomy p h = not_so P (at.Copying p) h refl

  posted : (P : Type 0) (answer : PostTurn) (p : ℕ) (post : Post) → AfterPost answer p post s s' → P
  posted P post_turn.More p post h = not_so P (at.Posting p) h.0 refl
  posted P post_turn.Done p post h = not_so P (at.Copying p) h.0 refl
  posted P (post_turn.Left limit) p post h = not_so P (at.Copying p) h.0 refl
  posted P post_turn.Memory p post h = not_so P (at.Copying p) h.0 refl

  published : (P : Type 0) (answer : Result Position NoMemory) (root : ℕ) → s'.state ≡ splitting.after_publish answer root w → P
  published P (Ok p) root e = not_so P at.Published e refl
  published P (Err x) root e = not_so P _ e (undo_as _ root Memory)

  uncopied : (answer : Put) (why : Reason) (root : ℕ) → s'.state ≡ splitting.after_uncopy answer why root w → for_pages why ≡ true
  uncopied (put.Down q) why root e = as_before (for_pages why) (at.Undoing q why) e refl
  uncopied (put.Right q) why root e = as_before (for_pages why) (at.Undoing q why) e refl
  uncopied put.PageFull why root e = as_before (for_pages why) (at.GivingUp why) e refl
  uncopied put.Done why root e = as_before (for_pages why) _ e (undo_as _ root why)

  split_since : (x : SplitState) → splitting.Makes x s v s' w → splitting.StateIsReady x s.root s.post v → Since (split_lacks x) (split_wants x) w
  split_since at.Looking m r = not_so _ (at.Gathering m.0.root) m.2 refl
  split_since (at.Gathering p) m r = gathered _ m.0 s.root m.2
  split_since (at.Copying p) m r = copied _ m.0 p s.root m.2
  split_since (at.Allotting p) m r = allotted m.0 p s.root r.3 m.1 m.2
  split_since (at.Halving p) m r = halved _ m.0 p m.2
  split_since (at.Posting p) m r = posted _ m.2 p m.1 m.5
  split_since at.Publishing m r = published _ m.0 s.root m.2
  split_since (at.Undoing p why) m r = inl (uncopied m.0 why s.root m.2)
  split_since (at.GivingUp why) m r = inl (as_before (for_pages why) (at.GivenUp why) m.1 refl)
  split_since at.Published m r = absurd m
  split_since (at.GivenUp why) m r = absurd m

refusal_lacks : (why : Reason) → ends_for_pages (refusal_of why) ≡ for_pages why
refusal_lacks (NoPages n) = refl
refusal_lacks Memory = refl

reply_as : (e : Ending) → is_no_pages (reply_of e) ≡ ends_for_pages e
reply_as (ending.Stored n) = refl
reply_as (ending.Removed n) = refl
reply_as (ending.Present p) = refl
reply_as (ending.Absent p) = refl
reply_as (ending.Full n) = refl
reply_as (ending.NoPages n) = refl
reply_as ending.Memory = refl

module _ (v w : View) where
  -- the limit of an insert that is ready to end so is that of the settings
  limit_is : (j : InsertOp) (n : ℕ) → inserting.Ready j w → j.state ≡ Unclaiming (ending.NoPages n) → n ≡ w.settings.pages
  limit_is j n r e = let u = subst (λ s. inserting.StateIsReady s j w) e r.state in (u.2.right w.settings.pages (λ t. refl)).0

  led : (told : Turn) (i : InsertOp) (j : InsertJob) → inserting.Turned i v told j.insert w → (answer : JobTurn) → inserts.Leads told answer j.split → next_lacks j.insert j.split ≡ true
      → Since (insert_lacks i.state) (insert_wants i.state) w
  led turn.More i j t answer l h =
      follows_lacks j.insert.root w i.state j.insert.state t.follows (subst (λ x. next_lacks j.insert x ≡ true) l.1 h) (λ n. limit_is j.insert n t.outcome.0)
  led turn.Held i j t answer l h =
      follows_lacks j.insert.root w i.state j.insert.state t.follows (subst (λ x. next_lacks j.insert x ≡ true) l.1 h) (λ n. limit_is j.insert n t.outcome.ready)
  led (turn.Crowded leaf) i j t answer l h = none_lacked _ l.1.state at.Looking split_lacks l.3.state_is refl (subst (λ x. next_lacks j.insert x ≡ true) l.2 h)
  led (turn.Done y) i j t answer l h =
      follows_lacks j.insert.root w i.state j.insert.state t.follows (subst (λ x. next_lacks j.insert x ≡ true) l.1 h)
      (λ n e. none_lacked _ (j.insert.state) (Over t.outcome.2) is_unclaiming t.outcome.4 refl (rw e refl))
    where
      is_unclaiming : InsertState → Bool
      is_unclaiming (Unclaiming d) = true
      is_unclaiming Begin = false
      is_unclaiming Looking = false
      is_unclaiming Reserving = false
      is_unclaiming Claiming = false
      is_unclaiming (Committing p) = false
      is_unclaiming Splitting = false
      is_unclaiming (Allotting p) = false
      is_unclaiming (Halving p) = false
      is_unclaiming (Posting p) = false
      is_unclaiming (Releasing d) = false
      is_unclaiming (Over d) = false

  heard : (told : SplitTurn) (i : InsertOp) (s s' : SplitOp) (j : InsertJob) → splitting.Turned s v told s' w → splitting.Ready s v → inserts.Hears told s' i j → next_lacks j.insert j.split ≡ true
      → Since (split_lacks s.state) (split_wants s.state) w
  heard divided.More i s s' j t r e h = split_since s s' v w (subst (λ (x : InsertJob). next_lacks x.insert x.split ≡ true) e h) s.state t.makes r.state
  heard (divided.Published p) i s s' j t r e h = none_lacked _ j _ (λ (x : InsertJob). next_lacks x.insert x.split) e refl h
  heard (divided.GivenUp why) i s s' j t r e h =
      let k : ends_for_pages (refusal_of why) ≡ true = subst (λ (x : InsertJob). next_lacks x.insert x.split ≡ true) e h in
      split_since s s' v w (ap split_lacks t.outcome.0 ∙ sym (refusal_lacks why) ∙ k) s.state t.makes r.state

  insert_since : (i : InsertOp) (s : Option SplitOp) (j : InsertJob) (answer : JobTurn) → inserts.NextIsReady i s v → inserts.Makes i s v answer j w → next_lacks j.insert j.split ≡ true
      → Since (next_lacks i s) (next_wants i s) w
  insert_since i None j answer r m h = led m.0 i j m.1 answer m.2 h
  insert_since i (Some s) j answer r m h = heard m.0 i s m.1 j m.2 r.ready m.4 h

  of_operation : (x : Operation) → Since (lacks x) (wants x) w → (lacks x ≡ true) ⊎ IsRefused x w
  of_operation x (inl h) = inl h
  of_operation x (inr h) = inr (record { page = h.page; wanted = h.is; none = h.none; all = h.all })

  pub refused_then : (x y : Operation) (b : Bool) (answer : JobTurn) → jobs.OperationIsReady x b v → jobs.Makes x v answer y w → lacks y ≡ true → (lacks x ≡ true) ⊎ IsRefused x w
  refused_then (Insert i) (Insert j) b answer r m h = of_operation (Insert i) (insert_since i.insert i.split j answer r.next m.makes h)
  refused_then (Delete d) (Insert j) b answer r m h = absurd m
  refused_then (Range q k) (Insert j) b answer r m h = absurd m
  refused_then (Nearest q k) (Insert j) b answer r m h = absurd m
  refused_then x (Delete d) b answer r m h = absurd (search rules)
  refused_then x (Range q k) b answer r m h = absurd (search rules)
  refused_then x (Nearest q k) b answer r m h = absurd (search rules)

  some_reply : (y z : Reply) → Done y ≡ Done z → y ≡ z
  some_reply y z e = cc

  told_by : (told : Turn) (i : InsertOp) (j : InsertJob) (y : Reply) → inserting.Turned i v told j.insert w → inserts.Leads told (Done y) j.split → is_no_pages y ≡ insert_lacks i.state
  told_by turn.More i j y t l = absurd (search rules)
  told_by turn.Held i j y t l = absurd (search rules)
  told_by (turn.Crowded leaf) i j y t l = absurd (search rules)
  told_by (turn.Done z) i j y t l =
      let f = subst (λ x. Follows i.state x j.insert.root w) t.outcome.4 t.follows in
      ap is_no_pages (some_reply y z l.0 ∙ t.outcome.3) ∙ reply_as t.outcome.2 ∙ sym (ends_as j.insert.root w t.outcome.2 i.state f)

  told_insert : (i : InsertOp) (s : Option SplitOp) (j : InsertJob) (y : Reply) → inserts.Makes i s v (Done y) j w → is_no_pages y ≡ next_lacks i s
  told_insert i None j y m = told_by m.0 i j y m.1 m.2
  told_insert i (Some s) j y m = let k : Done y ≡ More = m.3 in absurd (search rules)

  none_right : (o : Op) (n number : ℕ) → jobs.is_query o ≡ true → IsRight o number w (reply.NoPages n) → ⊥
  none_right (op.Range radius query) n number q h = h w.settings.pages (λ t. refl)
  none_right (op.Nearest count query) n number q h = h w.settings.pages (λ t. refl)
  none_right (op.Insert id vector) n number q h = absurd (search rules)
  none_right (op.Delete id) n number q h = absurd (search rules)

  -- a delete and a query are never answered so
  told_other : (o : Op) (number : ℕ) (y : Reply) → IsRight o number w y → ((n : ℕ) → IsRight o number w (reply.NoPages n) → ⊥) → is_no_pages y ≡ false
  told_other o number (reply.NoPages n) h none = absurd (none n h)
  told_other o number (reply.Stored n) h none = refl
  told_other o number (reply.Removed n) h none = refl
  told_other o number (reply.Present p) h none = refl
  told_other o number (reply.Absent p) h none = refl
  told_other o number (reply.Full n) h none = refl
  told_other o number reply.Memory h none = refl
  told_other o number (reply.Range p rows cells distances) h none = refl
  told_other o number (reply.Nearest p rows cells) h none = refl

  pub told_then : (x y : Operation) (answer : Reply) → jobs.Makes x v (Done answer) y w → IsRight (jobs.asked_by x) (jobs.numbered x) w answer → is_no_pages answer ≡ lacks x
  told_then (Insert i) (Insert j) answer m h = told_insert i.insert i.split j answer m.makes
  told_then (Insert i) (Delete d) answer m h = absurd m
  told_then (Insert i) (Range q k) answer m h = absurd m
  told_then (Insert i) (Nearest q k) answer m h = absurd m
  told_then (Delete d) y answer m h = told_other (op.Delete d.id) d.op answer h (λ n r. r w.settings.pages (λ t. refl))
  told_then (Range q k) y answer m h = told_other (op.Range q.radius q.query) k answer h (λ n r. r w.settings.pages (λ t. refl))
  told_then (Nearest q k) y answer m h = told_other (op.Nearest q.count q.query) k answer h (λ n r. r w.settings.pages (λ t. refl))

-- A page is wanted where a leaf page was found full, and an insert ends for want of pages where that was refused.
use Rattle.std.proofs.Common.{◌≡◌, ℕ, Bool, true, false, cond, Option, Some, None, Result, Ok, Err, is_some, refl, sym, ap, ◌∙◌, subst}
use Rattle.mi_base.specs.declared.records.Position.{Position}
use Rattle.mi_base.specs.declared.refusals.NoMemory.{NoMemory}
use Rattle.mi_tree.specs.declared.answers.AllotRefusal.{AllotRefusal}
use Rattle.mi_tree.specs.declared.answers.AllotRefusal.TheVariants as allot
use Rattle.mi_world.specs.declared.answers.Parted.{Parted}
use Rattle.mi_world.specs.declared.answers.Parted.TheVariants as part
use Rattle.mi_world.specs.declared.answers.Put.{Put}
use Rattle.mi_world.specs.declared.answers.Put.TheVariants as put
use Rattle.mi_world.specs.declared.answers.Visit.{Visit}
use Rattle.mi_world.specs.declared.answers.Visit.TheVariants as visit
use Rattle.mi_world.specs.Splits.{CopiesIn}
use Rattle.mi_world.specs.View.{View}
use Rattle.mi_blink.specs.declared.post.Post.{Post}
use Rattle.mi_blink.specs.declared.post.PostTurn.{PostTurn}
use Rattle.mi_blink.specs.declared.post.PostTurn.TheVariants as post_turn
use Rattle.mi_blink.specs.declared.turns.Turn.{Turn}
use Rattle.mi_blink.specs.declared.turns.Turn.TheVariants as turn
use Rattle.mi_blink.specs.declared.turns.Why.{Why as Reason}
use Rattle.mi_blink.specs.declared.turns.Why.TheVariants.{NoPages, Memory}
use Rattle.mi_split.specs.declared.split.SplitOp.{SplitOp}
use Rattle.mi_split.specs.declared.split.SplitState.{SplitState}
use Rattle.mi_split.specs.declared.split.SplitState.TheVariants as at
use Rattle.mi_split.specs.declared.split.SplitTurn.{SplitTurn}
use Rattle.mi_split.specs.declared.split.SplitTurn.TheVariants as divided
use Rattle.mi_split.specs.Splitting as splitting
use Rattle.mi_split.specs.Splitting.{AfterHalf, AfterPost, after_copy, after_gather, for_pages}
use Rattle.mi_update.specs.declared.insert.InsertOp.{InsertOp}
use Rattle.mi_update.specs.declared.insert.InsertState.{InsertState}
use Rattle.mi_update.specs.declared.insert.InsertState.TheVariants.{Begin, Looking, Reserving, Claiming, Committing, Splitting, Allotting, Halving, Posting, Unclaiming, Releasing, Over}
use Rattle.mi_update.specs.Inserting as inserting
use Rattle.mi_update.specs.Inserting.{Follows}
use Rattle.mi_job.specs.declared.inserts.InsertJob.{InsertJob}
use Rattle.mi_job.specs.declared.job.Operation.{Operation}
use Rattle.mi_job.specs.declared.job.Operation.TheVariants.{Insert, Delete, Range, Nearest}
use Rattle.mi_job.specs.declared.turns.JobTurn.{JobTurn}
use Rattle.mi_job.specs.Inserts as inserts
use Rattle.mi_job.specs.Jobs as jobs
use Rattle.mi_job.specs.Wanting.{LacksRoom, insert_wants, next_wants, split_wants, wants}

-- a state that wants none
none_wanted : {X : Type 0} (w : View) (page : ℕ) (x y : X) (f : X → Option ℕ) → x ≡ y → f y ≡ None → f x ≡ Some page → LacksRoom w page
none_wanted w page x y f e n h = let k : Some page ≡ None = sym h ∙ ap f e ∙ n in cc

copy_none : (b : Bool) (root : ℕ) → split_wants (cond b (at.Copying root) at.Publishing) ≡ None
copy_none true root = refl
copy_none false root = refl

undo_none : (b : Bool) (root : ℕ) (why : Reason) → split_wants (cond b (at.Undoing root why) (at.GivingUp why)) ≡ None
undo_none true root why = refl
undo_none false root why = refl

module _ (root : ℕ) (w : View) (page : ℕ) where
  from_commit : (s₀ : InsertState) (p : ℕ) → Follows s₀ (Allotting p) root w → p ≡ page → LacksRoom w page
  from_commit (Committing q) p f e = let same : q ≡ page = sym f.0 ∙ e in record { full = subst (inserting.FindsFull w) same f.1; none = f.2 }
  from_commit Begin p f e = absurd f
  from_commit Looking p f e = absurd f
  from_commit Reserving p f e = absurd f
  from_commit Claiming p f e = absurd f
  from_commit Splitting p f e = absurd f
  from_commit (Allotting q) p f e = absurd f
  from_commit (Halving q) p f e = absurd f
  from_commit (Posting q) p f e = absurd f
  from_commit (Unclaiming d) p f e = absurd f
  from_commit (Releasing d) p f e = absurd f
  from_commit (Over d) p f e = absurd f

  follows_full : (s₀ s : InsertState) → Follows s₀ s root w → insert_wants s ≡ Some page → LacksRoom w page
  follows_full s₀ (Allotting p) f h = from_commit s₀ p f (some_number p page h)
    where
      some_number : (n m : ℕ) → Some n ≡ Some m → n ≡ m
      some_number n m e = cc
  follows_full s₀ Begin f h = cc
  follows_full s₀ Looking f h = cc
  follows_full s₀ Reserving f h = cc
  follows_full s₀ Claiming f h = cc
  follows_full s₀ (Committing p) f h = cc
  follows_full s₀ Splitting f h = cc
  follows_full s₀ (Halving p) f h = cc
  follows_full s₀ (Posting p) f h = cc
  follows_full s₀ (Unclaiming e) f h = cc
  follows_full s₀ (Releasing e) f h = cc
  follows_full s₀ (Over e) f h = cc

module _ (s s' : SplitOp) (v w : View) (page : ℕ) (wanted : split_wants s'.state ≡ Some page) where
  no_state : (x : SplitState) → s'.state ≡ x → split_wants x ≡ None → LacksRoom w page
  no_state x e n = none_wanted w page s'.state x split_wants e n wanted

  full_hand : (b : Bool) (p : ℕ) → is_some w.fresh ≡ b → w.page ≡ p → w.items ≡ 32 → s'.state ≡ cond b (at.Halving p) (at.Allotting p) → LacksRoom w page
  full_hand true p fresh page_is items e = no_state (at.Halving p) e refl
  full_hand false p fresh page_is items e =
      let k : Some page ≡ Some p = sym wanted ∙ ap split_wants e in
      let same : p ≡ page = cc in
      record { full = record { page_is = page_is ∙ same; items = items }; none = fresh }

  full_copy : (answer : Put) (p root : ℕ) → CopiesIn v w p answer → s'.state ≡ after_copy answer p root w → LacksRoom w page
  full_copy (put.Down q) p root k e = no_state (at.Copying q) e refl
  full_copy (put.Right q) p root k e = no_state (at.Copying q) e refl
  full_copy put.PageFull p root k e = full_hand (is_some w.fresh) p refl k.page_is k.answer.2.many e
  full_copy put.Done p root k e = no_state _ e (copy_none _ root)

  full_gather : (answer : Result Visit NoMemory) (root : ℕ) → s'.state ≡ after_gather answer root w → LacksRoom w page
  full_gather (Ok (visit.Down q)) root e = no_state (at.Gathering q) e refl
  full_gather (Ok (visit.Right q)) root e = no_state (at.Gathering q) e refl
  full_gather (Ok (visit.Read (Some q))) root e = no_state (at.Gathering q) e refl
  full_gather (Ok (visit.Read None)) root e = no_state _ e (copy_none _ root)
  full_gather (Err x) root e = no_state (at.GivingUp Memory) e refl

  full_allot : (answer : Result (Unit {0}) AllotRefusal) (p root : ℕ) → s'.state ≡ splitting.after_allot answer p root w → LacksRoom w page
  full_allot (Ok x) p root e = no_state (at.Halving p) e refl
  full_allot (Err (allot.PagesFull limit)) p root e = no_state _ e (undo_none _ root (NoPages limit))
  full_allot (Err allot.Memory) p root e = no_state _ e (undo_none _ root Memory)

  full_half : (answer : Parted) (p : ℕ) → AfterHalf answer p s' → LacksRoom w page
  full_half (part.Parted key child) p h = no_state (at.Posting p) h.0 refl
  full_half part.Roomy p h = no_state (at.Copying p) h refl

  full_post : (answer : PostTurn) (p : ℕ) (post : Post) → AfterPost answer p post s s' → LacksRoom w page
  full_post post_turn.More p post h = no_state (at.Posting p) h.0 refl
  full_post post_turn.Done p post h = no_state (at.Copying p) h.0 refl
  full_post (post_turn.Left limit) p post h = no_state (at.Copying p) h.0 refl
  full_post post_turn.Memory p post h = no_state (at.Copying p) h.0 refl

  full_publish : (answer : Result Position NoMemory) (root : ℕ) → s'.state ≡ splitting.after_publish answer root w → LacksRoom w page
  full_publish (Ok p) root e = no_state at.Published e refl
  full_publish (Err x) root e = no_state _ e (undo_none _ root Memory)

  full_uncopy : (answer : Put) (why : Reason) (root : ℕ) → s'.state ≡ splitting.after_uncopy answer why root w → LacksRoom w page
  full_uncopy (put.Down q) why root e = no_state (at.Undoing q why) e refl
  full_uncopy (put.Right q) why root e = no_state (at.Undoing q why) e refl
  full_uncopy put.PageFull why root e = no_state (at.GivingUp why) e refl
  full_uncopy put.Done why root e = no_state _ e (undo_none _ root why)

  full_split : (x : SplitState) → splitting.Makes x s v s' w → LacksRoom w page
  full_split at.Looking m = no_state (at.Gathering m.0.root) m.2 refl
  full_split (at.Gathering p) m = full_gather m.0 s.root m.2
  full_split (at.Copying p) m = full_copy m.0 p s.root m.1 m.2
  full_split (at.Allotting p) m = full_allot m.0 p s.root m.2
  full_split (at.Halving p) m = full_half m.0 p m.2
  full_split (at.Posting p) m = full_post m.2 p m.1 m.5
  full_split at.Publishing m = full_publish m.0 s.root m.2
  full_split (at.Undoing p why) m = full_uncopy m.0 why s.root m.2
  full_split (at.GivingUp why) m = no_state (at.GivenUp why) m.1 refl
  full_split at.Published m = absurd m
  full_split (at.GivenUp why) m = absurd m

module _ (v w : View) (answer : JobTurn) (page : ℕ) where
  full_lead : (told : Turn) (i : InsertOp) (j : InsertJob) → inserting.Turned i v told j.insert w → inserts.Leads told answer j.split → next_wants j.insert j.split ≡ Some page → LacksRoom w page
  full_lead turn.More i j t l h = follows_full j.insert.root w page i.state j.insert.state t.follows (subst (λ x. next_wants j.insert x ≡ Some page) l.1 h)
  full_lead turn.Held i j t l h = follows_full j.insert.root w page i.state j.insert.state t.follows (subst (λ x. next_wants j.insert x ≡ Some page) l.1 h)
  full_lead (turn.Crowded leaf) i j t l h =
      none_wanted w page l.1.state at.Looking split_wants l.3.state_is refl (subst (λ x. next_wants j.insert x ≡ Some page) l.2 h)
  full_lead (turn.Done y) i j t l h = follows_full j.insert.root w page i.state j.insert.state t.follows (subst (λ x. next_wants j.insert x ≡ Some page) l.1 h)

  full_hears : (told : SplitTurn) (i : InsertOp) (s s' : SplitOp) (j : InsertJob) → splitting.Turned s v told s' w → inserts.Hears told s' i j → next_wants j.insert j.split ≡ Some page → LacksRoom w page
  full_hears divided.More i s s' j t e h = full_split s s' v w page (subst (λ (x : InsertJob). next_wants x.insert x.split ≡ Some page) e h) s.state t.makes
  full_hears (divided.Published p) i s s' j t e h = none_wanted w page j _ (λ (x : InsertJob). next_wants x.insert x.split) e refl h
  full_hears (divided.GivenUp why) i s s' j t e h = none_wanted w page j _ (λ (x : InsertJob). next_wants x.insert x.split) e refl h

  full_insert : (i : InsertOp) (s : Option SplitOp) (j : InsertJob) → inserts.Makes i s v answer j w → next_wants j.insert j.split ≡ Some page → LacksRoom w page
  full_insert i None j m h = full_lead m.0 i j m.1 m.2 h
  full_insert i (Some s) j m h = full_hears m.0 i s m.1 j m.2 m.4 h

  pub full_found : (x y : Operation) → jobs.Makes x v answer y w → wants y ≡ Some page → LacksRoom w page
  full_found (Insert i) (Insert j) m h = full_insert i.insert i.split j m.makes h
  full_found (Delete d) (Insert j) m h = absurd m
  full_found (Range r k) (Insert j) m h = absurd m
  full_found (Nearest r k) (Insert j) m h = absurd m
  full_found x (Delete d) m h = cc
  full_found x (Range r k) m h = cc
  full_found x (Nearest r k) m h = cc

-- The other sections of a post.
use Rattle.std.proofs.Common.{◌≡◌, ℕ, ◌+◌, ◌*◌, ◌<◌, ◌≤◌, List, [], ◌∷◌, ◌++◌, length, Bool, true, false, ◌||◌, ◌&&◌, ◌==◌, not, IsTrue, cond, refl, sym, ◌∙◌, subst, arith, inl, inr, length-append, nat_lt, ap, eq-eqb}
use Rattle.std.specs.Prelude.{is_some, IfSome, ◌⊎◌}
use Rattle.std.proofs.lemmas.Bool.Decides.{nat_tests}
use Rattle.std.proofs.Math.Nat.{mul-le-mul_right}
use Rattle.mi_world.specs.View.{View, Later, SameWork}
use Rattle.mi_world.specs.Boards.{Allots, Grew, paying}
use Rattle.mi_world.specs.Pages.{IsReached, Posts, PartsPage}
use Rattle.mi_tree.specs.declared.answers.AllotRefusal.TheVariants as allot
use Rattle.mi_world.specs.declared.answers.Put.TheVariants as put
use Rattle.mi_world.specs.declared.answers.Parted.TheVariants as part
use Rattle.mi_blink.specs.declared.post.Post.{Post}
use Rattle.mi_blink.specs.declared.post.PostState.{PostState}
use Rattle.mi_blink.specs.declared.post.PostState.TheVariants.{Looking, Posting, Allotting, Halving, Widening, Growing, Over}
use Rattle.mi_blink.specs.declared.post.PostTurn.{PostTurn}
use Rattle.mi_blink.specs.declared.post.PostTurn.TheVariants.{More, Done, Left, Memory}
use Rattle.mi_blink.specs.declared.post.Waiting.{Waiting}
use Rattle.mi_blink.specs.Descents.{longest, budget, Stands, Reached, post_most}
use Rattle.mi_blink.specs.Posting.{Ready, EachWaits, WaitFits, Turned, OwesOnly, Leads, Makes, wants_page, Resumes, Ends, Pops, Waits, first_child, left, left_in, left_waiting, pending, is_waiting, posted, root_after}
use Rattle.mi_world.proofs.ViewLemmas.{child_keeps}
use Rattle.mi_blink.proofs.DescentLemmas.{reached_keeps, some_root_keeps, descent_keeps, descent_longest, budget_stays, budget_allots, budget_uses, falls_by, stands_at, stands_down, stands_right, down_less, right_less}
use Rattle.mi_blink.proofs.PostLemmas.{first_more, goes_on, on, waits_keep, waiting_keeps, waits_front, waits_last, waits_more, waiting_more, is_waiting_last, excused_before}

and_none : (b : Bool) → (b && false) ≡ false
and_none true = refl
and_none false = refl

pay : (a b s t : Bool) → (IsTrue a → IsTrue (s || (b || t))) → IsTrue (a && not b) → IsTrue (s || t)
pay false b s t h o = cc
pay true true s t h o = cc
pay true false s t h o = h refl

-- the route that was put is owed no more
not_itself : (n : ℕ) → not (n == n) ≡ false
not_itself n = ap not (eq-eqb n n refl)

paid_off : (child : ℕ) (before after : ℕ → Bool) → after ≡ paying child before → after child ≡ false
paid_off child before after e = ap (λ (g : ℕ → Bool). g child) e ∙ (ap (λ b. before child && b) (not_itself child) ∙ and_none (before child))

-- what is left of the debts once the route under way has ended
abbrev pub Rest : Post → View → View → Type 0
Rest op v w = (start : ℕ → Bool) → OwesOnly start (pending op) v → OwesOnly start (λ p. is_waiting p op.waiting.items) w

pub rest_paid : (op : Post) (v w : View) → Later v w → w.owes ≡ paying op.child v.owes → (start : ℕ → Bool) → OwesOnly start (pending op) v → OwesOnly start (λ p. is_waiting p op.waiting.items) w
rest_paid op v w l e start h f p o =
    pay (v.owes p) (p == op.child) (start p) (is_waiting p op.waiting.items) (h (excused_before v w l f) p) (subst (λ (g : ℕ → Bool). IsTrue (g p)) e o)

pub rest_told : (op : Post) (v w : View) → IsTrue w.told → (start : ℕ → Bool) → OwesOnly start (pending op) v → OwesOnly start (λ p. is_waiting p op.waiting.items) w
rest_told op v w t start h f p o = absurd (grind arith)

pub rest_lacked : (op : Post) (v w : View) → IsTrue w.lacked → (start : ℕ → Bool) → OwesOnly start (pending op) v → OwesOnly start (λ p. is_waiting p op.waiting.items) w
rest_lacked op v w t start h f p o = absurd (grind arith)

not_empty : (ws : List Waiting) (x : Waiting) → [] ≡ ws ++ x ∷ [] → ⊥
not_empty [] x e = cc
not_empty (y ∷ ws) x e = cc

leads_wanting : (s : PostState) (op new : Post) (w : View) → Resumes op new → wants_page s ≡ true → Leads s op new w
leads_wanting Looking op new w r e = absurd cc
leads_wanting (Posting p) op new w r e = tt
leads_wanting (Allotting p) op new w r e = λ none. absurd (not_empty r.waiting r.below (sym none ∙ r.waited))
leads_wanting (Halving p) op new w r e = tt
leads_wanting Widening op new w r e = λ none. absurd (not_empty r.waiting r.below (sym none ∙ r.waited))
leads_wanting Growing op new w r e = tt
leads_wanting Over op new w r e = absurd cc

module _ (op new : Post) (v w : View) (ready : Ready op v) (l : Later v w) (k : SameWork v w) (less : budget w ≤ budget v)
    (rest : (start : ℕ → Bool) → OwesOnly start (pending op) v → OwesOnly start (λ p. is_waiting p op.waiting.items) w) (unchanged : root_after op.state op.root w ≡ op.root) where
  pub resumes : (r : Resumes op new) → Leads op.state op new w → Makes op.state op v More new w → Turned op v More new w
  resumes r leads makes =
      let waits : EachWaits w 0 (r.waiting ++ r.below ∷ []) = rw (← r.waited) (waits_keep v w 0 op.waiting.items l ready.waits) in
      let last : WaitFits w (0 + length r.waiting) r.below = waits_last w 0 r.waiting r.below waits in
      let same : left_waiting w (r.waiting ++ r.below ∷ []) ≡ left_waiting v op.waiting.items = rw (← r.waited) (waiting_keeps v w 0 op.waiting.items l ready.waits) in
      record {
        later = l;
        work = k;
        makes = makes;
        posted_is = rw (r.child_is, r.waiting_is, r.waited) (sym (first_more r.waiting r.below op.child));
        owes = λ start h f p o. rw (r.child_is, r.waiting_is)
            (let g : IsTrue (start p || is_waiting p (r.waiting ++ r.below ∷ [])) = rw (← r.waited) (rest start h f p o) in
            let e = is_waiting_last p r.waiting r.below in grind (arith, e, g));
        root_is = rw r.root_is (some_root_keeps v w op.root l ready.root_is);
        latest = r.root_is ∙ sym unchanged;
        cause = rw r.state_is tt;
        outcome = (
          record {
            route = rw (r.level_is, r.key_is, r.child_is) last.route;
            low = rw (r.waiting_is, r.level_is) (omega (arith, last.low));
            high = rw r.level_is (omega (arith, last.page.level_is, last.page.small));
            waits = rw r.waiting_is (waits_front w 0 r.waiting r.below waits);
            root_is = rw r.root_is (some_root_keeps v w op.root l ready.root_is);
            state = rw (r.state_is, r.level_is, r.key_is) (stands_at w r.below.page r.below.level r.below.key last.page);
          },
          λ _. inr (less, rw (r.state_is, r.waiting_is) (omega (arith, same, waiting_more w r.waiting r.below))),
          leads,
        );
      }

  none_left : Ends op new → (start : ℕ → Bool) → OwesOnly start (pending op) v → OwesOnly start (λ p. false) w
  none_left e start h f p o = rw e.waited at (rest start h f p o)

  -- the post was for the route under way
  same_posted : Ends op new → posted new ≡ posted op
  same_posted e = rw (e.waiting_is, e.waited) e.child_is

  pub ends_done : Ends op new → wants_page op.state ≡ false → w.owes op.child ≡ false → Makes op.state op v Done new w → Turned op v Done new w
  ends_done e wants paid makes = record {
    later = l;
    work = k;
    makes = makes;
    posted_is = same_posted e;
    owes = none_left e;
    root_is = rw e.root_is (some_root_keeps v w op.root l ready.root_is);
    latest = e.root_is ∙ sym unchanged;
    cause = rw e.state_is tt;
    outcome = (e.state_is, less, wants, rw (e.waiting_is, e.child_is) paid);
  }

  pub ends_left : (limit : ℕ) → Ends op new → wants_page op.state ≡ true → (limit ≡ w.settings.pages) × (w.allotted ≡ limit) × (is_some w.fresh ≡ false) × IsTrue w.told
      → Makes op.state op v (Left limit) new w → Turned op v (Left limit) new w
  ends_left limit e wants h makes = record {
    later = l;
    work = k;
    makes = makes;
    posted_is = same_posted e;
    owes = none_left e;
    root_is = rw e.root_is (some_root_keeps v w op.root l ready.root_is);
    latest = e.root_is ∙ sym unchanged;
    cause = rw e.state_is tt;
    outcome = (e.state_is, h.0, h.1, h.2, h.3, less, record { wanted = wants; waiting_is = e.waited; fresh = h.2 });
  }

  pub ends_memory : Ends op new → wants_page op.state ≡ true → IsTrue w.lacked × (is_some w.fresh ≡ false) → Makes op.state op v Memory new w → Turned op v Memory new w
  ends_memory e wants h makes = record {
    later = l;
    work = k;
    makes = makes;
    posted_is = same_posted e;
    owes = none_left e;
    root_is = rw e.root_is (some_root_keeps v w op.root l ready.root_is);
    latest = e.root_is ∙ sym unchanged;
    cause = rw e.state_is tt;
    outcome = (e.state_is, h.0, less, record { wanted = wants; waiting_is = e.waited; fresh = h.1 });
  }

  -- what waited goes on whether or not a page was refused
  leads_on : wants_page op.state ≡ true → Resumes op new → Leads op.state op new w
  leads_on wants r = leads_wanting op.state op new w r wants

  makes_at : (result turn : PostTurn) → result ≡ turn → Makes op.state op v result new w → Makes op.state op v turn new w
  makes_at result turn e m = subst (λ t. Makes op.state op v t new w) e m

  pub pops_done : (result : PostTurn) → (Resumes op new → Leads op.state op new w) → wants_page op.state ≡ false → w.owes op.child ≡ false → Makes op.state op v result new w → Pops op Done result new → Turned op v result new w
  pops_done result leads wants paid makes (inl r) = subst (λ t. Turned op v t new w) (sym r.1) (resumes r.0 (leads r.0) (makes_at result More r.1 makes))
  pops_done result leads wants paid makes (inr e) = subst (λ t. Turned op v t new w) (sym e.1) (ends_done e.0 wants paid (makes_at result Done e.1 makes))

  pub pops_left : (limit : ℕ) (result : PostTurn) → wants_page op.state ≡ true → (limit ≡ w.settings.pages) × (w.allotted ≡ limit) × (is_some w.fresh ≡ false) × IsTrue w.told
      → Makes op.state op v result new w → Pops op (Left limit) result new → Turned op v result new w
  pops_left limit result wants h makes (inl r) = subst (λ t. Turned op v t new w) (sym r.1) (resumes r.0 (leads_on wants r.0) (makes_at result More r.1 makes))
  pops_left limit result wants h makes (inr e) = subst (λ t. Turned op v t new w) (sym e.1) (ends_left limit e.0 wants h (makes_at result (Left limit) e.1 makes))

  pub pops_memory : (result : PostTurn) → wants_page op.state ≡ true → IsTrue w.lacked × (is_some w.fresh ≡ false) → Makes op.state op v result new w → Pops op Memory result new → Turned op v result new w
  pops_memory result wants h makes (inl r) = subst (λ t. Turned op v t new w) (sym r.1) (resumes r.0 (leads_on wants r.0) (makes_at result More r.1 makes))
  pops_memory result wants h makes (inr e) = subst (λ t. Turned op v t new w) (sym e.1) (ends_memory e.0 wants h (makes_at result Memory e.1 makes))

full_none : (b : Bool) → IsTrue b → cond b 0 2 ≤ 0
full_none true h = omega arith
full_none false h = cc

-- a section at a page
module _ (op : Post) (v w : View) (page : ℕ) (ready : Ready op v) (state : op.state ≡ Posting page) where
  stands : Stands v page op.level op.key
  stands = rw state at ready.state

  still : Later v w → IsReached v w page op.level op.key → Reached w page op.level op.key
  still l r = record {
    named = l.named page stands.named;
    level_is = l.level page stands.named ∙ r.reached;
    small = rw (l.level page stands.named) stands.small;
    low_is = rw (l.low page stands.named) stands.low_is;
  }

  pub posts_down : (q : ℕ) → Posts v w page op.level op.key op.child (put.Down q) → Turned op v More (record { level = op.level; key = op.key; child = op.child; state = Posting q; waiting = op.waiting; root = op.root }) w
  posts_down q k = goes_on op v w (Posting page) (Posting q) op.root ready state k.later k.work k.answer.0 (some_root_keeps v w op.root k.later ready.root_is) refl
      (stands_down v w page q op.level op.key stands.small k.answer.1) tt
      (λ _. falls_by v w _ _ k.later k.fresh (omega (arith, down_less v w page q op.level op.key stands.small k.answer.1)))
      tt (put.Down q, k, on op (Posting q) (Posting q) op.root refl)

  pub posts_right : (q : ℕ) → Posts v w page op.level op.key op.child (put.Right q) → Turned op v More (record { level = op.level; key = op.key; child = op.child; state = Posting q; waiting = op.waiting; root = op.root }) w
  posts_right q k = goes_on op v w (Posting page) (Posting q) op.root ready state k.later k.work k.answer.0 (some_root_keeps v w op.root k.later ready.root_is) refl
      (stands_right v w page q op.level op.key stands.small k.answer.1) tt
      (λ _. falls_by v w _ _ k.later k.fresh (omega (arith, right_less v w page q op.level op.key k.answer.1)))
      tt (put.Right q, k, on op (Posting q) (Posting q) op.root refl)

  pub posts_full : Posts v w page op.level op.key op.child put.PageFull → is_some w.fresh ≡ true
      → Turned op v More (record { level = op.level; key = op.key; child = op.child; state = Halving page; waiting = op.waiting; root = op.root }) w
  posts_full k f = goes_on op v w (Posting page) (Halving page) op.root ready state k.later k.work k.answer.0 (some_root_keeps v w op.root k.later ready.root_is) refl
      (still k.later k.answer.1, f) tt
      (λ t. falls_by v w _ _ k.later k.fresh (omega (arith, descent_keeps v w page k.later stands.named, full_none (w.full page) (k.answer.2.told_full t))))
      tt (put.PageFull, k, on op (Halving page) (cond (is_some w.fresh) (Halving page) (Allotting page)) op.root (ap (λ b. cond b (Halving page) (Allotting page)) (sym f)))

  pub posts_wanting : Posts v w page op.level op.key op.child put.PageFull → is_some w.fresh ≡ false
      → Turned op v More (record { level = op.level; key = op.key; child = op.child; state = Allotting page; waiting = op.waiting; root = op.root }) w
  posts_wanting k f = goes_on op v w (Posting page) (Allotting page) op.root ready state k.later k.work k.answer.0 (some_root_keeps v w op.root k.later ready.root_is) refl
      (still k.later k.answer.1, f) (k.page_is, k.answer.2.many, f)
      (λ t. falls_by v w _ _ k.later k.fresh (omega (arith, descent_keeps v w page k.later stands.named)))
      tt (put.PageFull, k, on op (Allotting page) (cond (is_some w.fresh) (Halving page) (Allotting page)) op.root (ap (λ b. cond b (Halving page) (Allotting page)) (sym f)))

  pub posts_done : (new : Post) (result : PostTurn) → Posts v w page op.level op.key op.child put.Done → Pops op Done result new → Turned op v result new w
  posts_done new result k p = pops_done op new v w ready k.later k.work (budget_stays v w k.later k.fresh) (rest_paid op v w k.later k.answer.0) (rw state refl)
      result (λ r. rw state tt) (rw state refl) (paid_off op.child v.owes w.owes k.answer.0) (subst (λ x. Makes x op v result new w) (sym state) (put.Done, k, p)) p

-- a page is allotted
module _ (op : Post) (v w : View) (page : ℕ) (ready : Ready op v) (state : op.state ≡ Allotting page) where
  wanting : Reached v page op.level op.key × (is_some v.fresh ≡ false)
  wanting = rw state at ready.state

  pub allots : (u : Unit {0}) → Allots v w (Rattle.std.specs.Prelude.Ok u) → Turned op v More (record { level = op.level; key = op.key; child = op.child; state = Halving page; waiting = op.waiting; root = op.root }) w
  allots u k = goes_on op v w (Allotting page) (Halving page) op.root ready state k.later k.work k.owes (some_root_keeps v w op.root k.later ready.root_is) refl
      (reached_keeps v w page op.level op.key k.later wanting.0, k.answer.0) tt
      (λ _. inl (budget_allots v w k.later wanting.1 k.answer.0 k.answer.1 k.board.few))
      (λ none. k.answer.0) (Rattle.std.specs.Prelude.Ok u, k, on op (Halving page) (Halving page) op.root refl)

  pub allots_none : (new : Post) (result : PostTurn) (limit : ℕ) → Allots v w (Rattle.std.specs.Prelude.Err (allot.PagesFull limit)) → Pops op (Left limit) result new → Turned op v result new w
  allots_none new result limit k p = pops_left op new v w ready k.later k.work (budget_stays v w k.later k.answer.0) (rest_told op v w k.answer.3) (rw state refl)
      limit result (rw state refl) (k.answer.1, k.answer.2, ap is_some k.answer.0 ∙ wanting.1, k.answer.3) (subst (λ x. Makes x op v result new w) (sym state) (Rattle.std.specs.Prelude.Err (allot.PagesFull limit), k, p)) p

  pub allots_memory : (new : Post) (result : PostTurn) → Allots v w (Rattle.std.specs.Prelude.Err allot.Memory) → Pops op Memory result new → Turned op v result new w
  allots_memory new result k p = pops_memory op new v w ready k.later k.work (budget_stays v w k.later k.answer.0) (rest_lacked op v w k.answer.1) (rw state refl) result (rw state refl) (k.answer.1, ap is_some k.answer.0 ∙ wanting.1)
      (subst (λ x. Makes x op v result new w) (sym state) (Rattle.std.specs.Prelude.Err allot.Memory, k, p)) p

-- a page is allotted for a new root
module _ (op : Post) (v w : View) (ready : Ready op v) (state : op.state ≡ Widening) where
  bare : is_some v.fresh ≡ false
  bare = rw state at ready.state

  pub widens : (u : Unit {0}) → Allots v w (Rattle.std.specs.Prelude.Ok u) → Turned op v More (record { level = op.level; key = op.key; child = op.child; state = Growing; waiting = op.waiting; root = op.root }) w
  widens u k = goes_on op v w Widening Growing op.root ready state k.later k.work k.owes (some_root_keeps v w op.root k.later ready.root_is) refl k.answer.0 tt
      (λ _. inl (budget_allots v w k.later bare k.answer.0 k.answer.1 k.board.few))
      (λ none. k.answer.0) (Rattle.std.specs.Prelude.Ok u, k, on op Growing Growing op.root refl)

  pub widens_none : (new : Post) (result : PostTurn) (limit : ℕ) → Allots v w (Rattle.std.specs.Prelude.Err (allot.PagesFull limit)) → Pops op (Left limit) result new → Turned op v result new w
  widens_none new result limit k p = pops_left op new v w ready k.later k.work (budget_stays v w k.later k.answer.0) (rest_told op v w k.answer.3) (rw state refl)
      limit result (rw state refl) (k.answer.1, k.answer.2, ap is_some k.answer.0 ∙ bare, k.answer.3) (subst (λ x. Makes x op v result new w) (sym state) (Rattle.std.specs.Prelude.Err (allot.PagesFull limit), k, p)) p

  pub widens_memory : (new : Post) (result : PostTurn) → Allots v w (Rattle.std.specs.Prelude.Err allot.Memory) → Pops op Memory result new → Turned op v result new w
  widens_memory new result k p = pops_memory op new v w ready k.later k.work (budget_stays v w k.later k.answer.0) (rest_lacked op v w k.answer.1) (rw state refl) result (rw state refl) (k.answer.1, ap is_some k.answer.0 ∙ bare)
      (subst (λ x. Makes x op v result new w) (sym state) (Rattle.std.specs.Prelude.Err allot.Memory, k, p)) p

two : (b : Bool) → b ≡ false → cond b 4 2 ≤ 2
two true e = cc
two false e = omega arith

-- a new root
module _ (op : Post) (v w : View) (ready : Ready op v) (state : op.state ≡ Growing) where
  held : is_some v.fresh ≡ true
  held = rw state at ready.state

  pub grows : (new : Post) (result : PostTurn) → Grew v w op.level op.child true → Pops op Done result new → Turned op v result new w
  grows new result k p =
      let less : budget w < budget v = budget_uses v w k.later held k.answer.2 in
      pops_done op new v w ready k.later k.work (omega arith) (rest_paid op v w k.later k.answer.3) (rw state refl) result (λ r. rw state tt) (rw state refl)
      (paid_off op.child v.owes w.owes k.answer.3) (subst (λ x. Makes x op v result new w) (sym state) (true, k, p)) p

  pub grows_not : Grew v w op.level op.child false → Turned op v More (record { level = op.level; key = op.key; child = op.child; state = Looking; waiting = op.waiting; root = op.root }) w
  grows_not k =
      let high : nat_lt w.least op.level ≡ false = let h = k.answer.3 in grind (arith, nat_tests) in
      goes_on op v w Growing Looking op.root ready state k.later k.work k.answer.2 (some_root_keeps v w op.root k.later ready.root_is) refl tt tt
      (λ _. falls_by v w _ _ k.later k.answer.1 (omega (arith, two (nat_lt w.least op.level) high)))
      tt (false, k, on op Looking Looking op.root refl)

owe : (a b s t u : Bool) → (IsTrue a → IsTrue (s || (t || u))) → IsTrue (a || b) → IsTrue (s || (b || (u || t)))
owe a true true t u h o = refl
owe a true false t u h o = refl
owe true false true t u h o = refl
owe true false false true true h o = refl
owe true false false true false h o = refl
owe true false false false true h o = refl
owe true false false false false h o = h refl
owe false false s t u h o = cc

two_full : (b : Bool) → b ≡ false → 2 ≤ cond b 0 2
two_full true e = cc
two_full false e = omega arith

-- a page is halved
module _ (op : Post) (v w : View) (page : ℕ) (ready : Ready op v) (state : op.state ≡ Halving page) where
  full_page : Reached v page op.level op.key × (is_some v.fresh ≡ true)
  full_page = rw state at ready.state

  pub halves_not : PartsPage v w page part.Roomy → Turned op v More (record { level = op.level; key = op.key; child = op.child; state = Posting page; waiting = op.waiting; root = op.root }) w
  halves_not k = goes_on op v w (Halving page) (Posting page) op.root ready state k.later k.work k.answer.1 (some_root_keeps v w op.root k.later ready.root_is) refl
      (stands_at w page op.level op.key (reached_keeps v w page op.level op.key k.later full_page.0)) tt
      (λ t. falls_by v w _ _ k.later k.answer.0
      (omega (arith, descent_keeps v w page k.later full_page.0.named, two_full (v.full page) (k.answer.3 (rw (← k.later.tells_full) t)))))
      tt (part.Roomy, k, on op (Posting page) (Posting page) op.root refl)

  pub halves : (new : Post) (key child : ℕ) → PartsPage v w page (part.Parted key child) → Waits op page key child new → Turned op v More new w
  halves new key child k r =
      let a = k.answer in
      let x : Waiting = record { level = op.level; key = op.key; child = op.child; page = page } in
      let reached : Reached w page op.level op.key = reached_keeps v w page op.level op.key k.later full_page.0 in
      let fits : WaitFits w (0 + length op.waiting.items) x = record { route = child_keeps v w op.level op.key op.child k.later ready.route; low = omega (arith, ready.low); page = reached } in
      record {
        later = k.later;
        work = k.work;
        makes = subst (λ x. Makes x op v More new w) (sym state) (part.Parted key child, k, (r, refl));
        posted_is = rw (r.child_is, r.waiting_is) (first_more op.waiting.items x child);
        owes = λ start h f p o. rw (r.child_is, r.waiting_is, is_waiting_last p op.waiting.items x)
            (owe (v.owes p) (p == child) (start p) (p == op.child) (is_waiting p op.waiting.items) (h (excused_before v w k.later f) p) (subst (λ (g : ℕ → Bool). IsTrue (g p)) a.1 o));
        root_is = rw r.root_is (some_root_keeps v w op.root k.later ready.root_is);
        latest = rw state r.root_is;
        cause = rw r.state_is tt;
        outcome = (
          record {
            route = rw (r.level_is, r.key_is, r.child_is) (record { named = a.2; level_is = omega (arith, a.3, full_page.0.level_is); low_is = a.4; later_key = omega (arith, a.5) });
            low = rw (r.waiting_is, r.level_is) (omega (arith, ready.low, length-append op.waiting.items (x ∷ [])));
            high = rw r.level_is (omega (arith, full_page.0.level_is, full_page.0.small));
            waits = rw r.waiting_is (waits_more w 0 op.waiting.items x (waits_keep v w 0 op.waiting.items k.later ready.waits) fits);
            root_is = rw r.root_is (some_root_keeps v w op.root k.later ready.root_is);
            state = rw (r.state_is) tt;
          },
          λ _. inl (budget_uses v w k.later full_page.1 a.0),
          rw state tt,
        );
      }

-- a post has a bound
left_waiting_most : (v : View) (ws : List Waiting) → left_waiting v ws ≤ length ws * (3 * longest + 2)
left_waiting_most v [] = omega arith
left_waiting_most v (x ∷ ws) =
    let a = descent_longest v x.page in
    let b = left_waiting_most v ws in
    omega (arith, a, b)

four : (b : Bool) → cond b 4 2 ≤ 4
four true = omega arith
four false = omega arith

two_most : (b : Bool) → cond b 0 2 ≤ 2
two_most true = omega arith
two_most false = omega arith

left_in_most : (s : PostState) (level : ℕ) (v : View) → left_in s level v ≤ 3 * longest + 4
left_in_most Looking level v = omega (arith, four (nat_lt v.least level))
left_in_most (Posting p) level v = omega (arith, descent_longest v p)
left_in_most (Allotting p) level v = omega (arith, descent_longest v p)
left_in_most (Halving p) level v = omega (arith, descent_longest v p, two_most (v.full p))
left_in_most Widening level v = omega arith
left_in_most Growing level v = omega arith
left_in_most Over level v = omega arith

pub left_most : (op : Post) (v : View) → Ready op v → left op v < post_most
unfolding post_most
left_most op v r =
    let a = left_in_most op.state op.level v in
    let b = left_waiting_most v op.waiting.items in
    let c : length op.waiting.items ≤ 5 = omega (arith, r.low, r.high) in
    let d : length op.waiting.items * (3 * longest + 2) ≤ 5 * (3 * longest + 2) = mul-le-mul_right (3 * longest + 2) c in
    omega (arith, a, b, d)

-- A post from section to section.
use Rattle.std.proofs.Common.{◌≡◌, ℕ, ◌+◌, ◌*◌, List, [], ◌∷◌, ◌++◌, length, Bool, false, ◌||◌, ◌==◌, IsTrue, Option, refl, sym, subst, arith}
use Rattle.std.specs.Prelude.{IfSome}
use Rattle.mi_world.specs.View.{View, Later, SameWork}
use Rattle.mi_blink.specs.declared.post.Post.{Post}
use Rattle.mi_blink.specs.declared.post.PostState.{PostState}
use Rattle.mi_blink.specs.declared.post.PostTurn.TheVariants.{More}
use Rattle.mi_blink.specs.declared.post.Waiting.{Waiting}
use Rattle.mi_blink.specs.Descents.{descent, Falls, IsRoot}
use Rattle.mi_blink.specs.Posting.{Ready, StateIsReady, EachWaits, WaitFits, Turned, OwesOnly, Cause, GoesOn, Leads, Makes, first_child, left_in, left_waiting, pending, is_waiting, posted, root_after}
use Rattle.mi_world.proofs.ViewLemmas.{child_keeps}
use Rattle.mi_blink.proofs.DescentLemmas.{reached_keeps, descent_keeps, falls_beside}

-- the routes that wait
pub waits_keep : (v w : View) (n : ℕ) (ws : List Waiting) → Later v w → EachWaits v n ws → EachWaits w n ws
waits_keep v w n [] l h = tt
waits_keep v w n (x ∷ ws) l h = (
  record { route = child_keeps v w x.level x.key x.child l h.0.route; low = h.0.low; page = reached_keeps v w x.page x.level x.key l h.0.page },
  waits_keep v w (n + 1) ws l h.1,
)

pub waiting_keeps : (v w : View) (n : ℕ) (ws : List Waiting) → Later v w → EachWaits v n ws → left_waiting w ws ≡ left_waiting v ws
waiting_keeps v w n [] l h = refl
waiting_keeps v w n (x ∷ ws) l h =
    let a : descent w x.page ≡ descent v x.page = descent_keeps v w x.page l h.0.page.named in
    let b : left_waiting w ws ≡ left_waiting v ws = waiting_keeps v w (n + 1) ws l h.1 in
    rw (a, b) refl

pub waits_more : (v : View) (n : ℕ) (ws : List Waiting) (x : Waiting) → EachWaits v n ws → WaitFits v (n + length ws) x → EachWaits v n (ws ++ x ∷ [])
waits_more v n [] x h f = (record { route = f.route; low = omega (arith, f.low); page = f.page }, tt)
waits_more v n (y ∷ ws) x h f = (h.0, waits_more v (n + 1) ws x h.1 (record { route = f.route; low = omega (arith, f.low); page = f.page }))

pub waits_front : (v : View) (n : ℕ) (ws : List Waiting) (x : Waiting) → EachWaits v n (ws ++ x ∷ []) → EachWaits v n ws
waits_front v n [] x h = tt
waits_front v n (y ∷ ws) x h = (h.0, waits_front v (n + 1) ws x h.1)

pub waits_last : (v : View) (n : ℕ) (ws : List Waiting) (x : Waiting) → EachWaits v n (ws ++ x ∷ []) → WaitFits v (n + length ws) x
waits_last v n [] x h = record { route = h.0.route; low = omega (arith, h.0.low); page = h.0.page }
waits_last v n (y ∷ ws) x h =
    let f : WaitFits v (n + 1 + length ws) x = waits_last v (n + 1) ws x h.1 in
    record { route = f.route; low = omega (arith, f.low); page = f.page }

pub waiting_more : (v : View) (ws : List Waiting) (x : Waiting) → left_waiting v (ws ++ x ∷ []) ≡ left_waiting v ws + (3 * descent v x.page + 2)
waiting_more v [] x = omega arith
waiting_more v (y ∷ ws) x = omega (arith, waiting_more v ws x)

-- at most seven routes wait
pub is_waiting_last : (p : ℕ) (ws : List Waiting) (x : Waiting) → is_waiting p (ws ++ x ∷ []) ≡ (is_waiting p ws || (p == x.child))
is_waiting_last p [] x = grind arith
is_waiting_last p (y ∷ ws) x = let e = is_waiting_last p ws x in grind arith

pub excused_before : (v w : View) → Later v w → (w.told || w.lacked) ≡ false → (v.told || v.lacked) ≡ false
excused_before v w l h =
    let a : IsTrue v.told → IsTrue w.told = l.told in
    let b : IsTrue v.lacked → IsTrue w.lacked = l.lacked in
    grind arith

pub owes_only_stays : (start more : ℕ → Bool) (v w : View) → Later v w → w.owes ≡ v.owes → OwesOnly start more v → OwesOnly start more w
owes_only_stays start more v w l e h f p o = h (excused_before v w l f) p (subst (λ (g : ℕ → Bool). IsTrue (g p)) e o)

-- the route that was put last waits before the one under way
pub first_more : (ws : List Waiting) (x : Waiting) (child : ℕ) → first_child (ws ++ x ∷ []) child ≡ first_child ws x.child
first_more [] x child = refl
first_more (y ∷ ws) x child = refl

-- the route under way goes on in this state
pub on : (op : Post) (s t : PostState) (r : Option ℕ) → s ≡ t → GoesOn op t More (record { level = op.level; key = op.key; child = op.child; state = s; waiting = op.waiting; root = r })
on op s t r e = record { turn_is = refl; level_is = refl; key_is = refl; child_is = refl; waiting_is = refl; state_is = e }

-- a section that keeps the route under way
pub goes_on : (op : Post) (v w : View) (s₀ s : PostState) (r : Option ℕ) → Ready op v → op.state ≡ s₀ → Later v w → SameWork v w → w.owes ≡ v.owes → IfSome r (IsRoot w) → r ≡ root_after s₀ op.root w
    → StateIsReady s op.level op.key w → Cause s op.level w → (IsTrue w.tells_full → Falls v (left_in s₀ op.level v) w (left_in s op.level w))
    → Leads s₀ op (record { level = op.level; key = op.key; child = op.child; state = s; waiting = op.waiting; root = r }) w
    → Makes s₀ op v More (record { level = op.level; key = op.key; child = op.child; state = s; waiting = op.waiting; root = r }) w
    → Turned op v More (record { level = op.level; key = op.key; child = op.child; state = s; waiting = op.waiting; root = r }) w
goes_on op v w s₀ s r ready e l k owes root latest state cause falls leads makes = record {
  later = l;
  work = k;
  makes = subst (λ x. Makes x op v More (record { level = op.level; key = op.key; child = op.child; state = s; waiting = op.waiting; root = r }) w) (sym e) makes;
  posted_is = refl;
  owes = λ start h. owes_only_stays start (pending op) v w l owes h;
  root_is = root;
  latest = rw e latest;
  cause = cause;
  outcome = (
    record {
      route = child_keeps v w op.level op.key op.child l ready.route;
      low = ready.low;
      high = ready.high;
      waits = waits_keep v w 0 op.waiting.items l ready.waits;
      root_is = root;
      state = state;
    },
    λ t. rw e (falls_beside v w (left_in s₀ op.level v) (left_in s op.level w) (left_waiting v op.waiting.items) (left_waiting w op.waiting.items)
        (omega (arith, waiting_keeps v w 0 op.waiting.items l ready.waits)) (falls t)),
    subst (λ x. Leads x op (record { level = op.level; key = op.key; child = op.child; state = s; waiting = op.waiting; root = r }) w) (sym e) leads,
  );
}

-- Walks and posts while others act.
use Rattle.std.proofs.Common.{◌≡◌, ℕ, ◌≤◌, ◌∙◌, refl, arith, is_some, ap}
use Rattle.mi_world.specs.View.{View, Others}
use Rattle.mi_blink.specs.declared.post.Post.{Post}
use Rattle.mi_blink.specs.declared.post.PostState.{PostState}
use Rattle.mi_blink.specs.declared.post.PostState.TheVariants.{Looking, Posting, Allotting, Halving, Widening, Growing, Over}
use Rattle.mi_blink.specs.declared.walk.Walk.{Walk}
use Rattle.mi_blink.specs.Posting.{Begun, Ready, StateIsReady, posted}
use Rattle.mi_blink.specs.Walking.{Ready as WalkIsReady, so_far, whole}
use Rattle.mi_world.specs.Pages.{IsChildAt}
use Rattle.mi_world.proofs.ViewLemmas.{child_keeps, in_leaf_stays}
use Rattle.mi_blink.proofs.DescentLemmas.{reached_keeps, stands_keeps, some_root_keeps}
use Rattle.mi_blink.proofs.PostLemmas.{waits_keep}

state_stays : (s : PostState) (level key : ℕ) (v w : View) → Others v w → StateIsReady s level key v → StateIsReady s level key w
state_stays Looking level key v w o h = tt
state_stays (Posting p) level key v w o h = stands_keeps v w p level key o.later h
state_stays (Allotting p) level key v w o h = (reached_keeps v w p level key o.later h.0, ap is_some o.same.fresh ∙ h.1)
state_stays (Halving p) level key v w o h = (reached_keeps v w p level key o.later h.0, ap is_some o.same.fresh ∙ h.1)
state_stays Widening level key v w o h = ap is_some o.same.fresh ∙ h
state_stays Growing level key v w o h = ap is_some o.same.fresh ∙ h
state_stays Over level key v w o h = h

pub ready_stays : (op : Post) (v w : View) → Others v w → Ready op v → Ready op w
ready_stays op v w o h = record {
  route = child_keeps v w op.level op.key op.child o.later h.route;
  low = h.low;
  high = h.high;
  waits = waits_keep v w 0 op.waiting.items o.later h.waits;
  root_is = some_root_keeps v w op.root o.later h.root_is;
  state = state_stays op.state op.level op.key v w o h.state;
}

pub begun_ready : (op : Post) (level key child : ℕ) (v : View) → Begun op level key child → IsChildAt v level key child → level ≤ 6 → Ready op v
begun_ready op level key child v b h le = record {
  route = rw (b.level_is, b.key_is, b.child_is) h;
  low = rw (b.waiting_is, b.level_is) (omega (arith, h.level_is));
  high = rw b.level_is le;
  waits = rw b.waiting_is tt;
  root_is = rw b.root_is tt;
  state = rw b.state_is tt;
}

pub begun_posted : (op : Post) (level key child : ℕ) → Begun op level key child → posted op ≡ child
begun_posted op level key child b = rw b.waiting_is b.child_is

pub walk_stays : (walk : Walk) (v w : View) → Others v w → WalkIsReady walk v → WalkIsReady walk w
walk_stays walk v w o h = record {
  pin = rw o.same.work.apart.pin h.pin;
  named = o.later.named walk.descent.page h.named;
  small = rw (o.later.level walk.descent.page h.named) h.small;
  low = rw (o.later.level walk.descent.page h.named, o.later.low walk.descent.page h.named) h.low;
  inside = in_leaf_stays v w walk.range o h.inside;
}

pub so_far_stays : (walk : Walk) (v w : View) → Others v w → WalkIsReady walk v → so_far walk w ≡ so_far walk v
so_far_stays walk v w o h = rw (o.later.low walk.descent.page h.named, o.later.settings, o.same.work.apart.pin) refl

pub whole_stays : (walk : Walk) (v w : View) → Others v w → whole walk w ≡ whole walk v
whole_stays walk v w o = rw (o.later.settings, o.same.work.apart.pin) refl

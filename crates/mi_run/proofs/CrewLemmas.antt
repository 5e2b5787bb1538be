-- A crew as its workers are added one after another.
use Rattle.std.proofs.Common.{◌≡◌, ℕ, suc, ◌+◌, ◌<◌, List, [], ◌∷◌, ◌++◌, map, reverse, length, Bool, true, false, ◌||◌, Some, refl, sym, ap, ◌∙◌, subst, arith, inl, inr}
use Rattle.std.specs.Prelude.{◌==◌, slice_get, slice_index_or, take}
use Rattle.std.specs.List.{AllByRecursion, AllZip}
use Rattle.std.proofs.lemmas.Bool.{false≢true}
use Rattle.std.proofs.lemmas.Grind.{reverse_onto}
use Rattle.std.proofs.lemmas.Bool.Decides.{eqb_tells}
use Rattle.atomic_table.specs.Seated.{TableId}
use Rattle.mi_base.specs.declared.records.Op.{Op}
use Rattle.mi_base.specs.Configuration.{Configuration}
use Rattle.mi_base.specs.Prefixes.{has}
use Rattle.mi_hall.specs.Passes.{PassState, place_view}
use Rattle.mi_session.proofs.SessionLemmas.{fork_child, fork_leaves}
use Rattle.mi_tree.proofs.SumLemmas.{taken_more}
use Rattle.mi_world.specs.Families.{Forked}
use Rattle.mi_world.specs.View.{View}
use Rattle.mi_run.specs.declared.workers.Worker.{Worker}
use Rattle.mi_run.specs.Crews.{AreToServe, Ascends, HasMade, IsCrew, IsNew, Starts, ToTend, number_at, numbers}
use Rattle.mi_run.specs.Workers.{ToServe}

pub numbers_more : {R : Type 0} → (ws : List (Worker R)) (w : Worker R) → numbers (ws ++ w ∷ []) ≡ numbers ws ++ number_at w.place ∷ []
numbers_more [] w = refl
numbers_more (x ∷ ws) w = ap (λ ns. number_at x.place ∷ ns) (numbers_more ws w)

ascends_more : (k : ℕ) (ns : List ℕ) (n : ℕ) → Ascends k ns → k < n → ((a : ℕ) → has a ns ≡ true → a < n) → Ascends k (ns ++ n ∷ [])
ascends_more k [] n up lt all = (lt, tt)
ascends_more k (m ∷ ns) n up lt all = (
  up.0,
  ascends_more m ns n up.1 (all m (here m ns)) (λ a h. all a (later a m ns h)),
)
  where
    here : (m : ℕ) (ns : List ℕ) → has m (m ∷ ns) ≡ true
    here m ns = elim (eqb_tells m m) [
      | inl e ↦ ap (λ b. b || has m ns) e.0
      | inr e ↦ absurd (e.1 refl)
    ]

    later : (a m : ℕ) (ns : List ℕ) → has a ns ≡ true → has a (m ∷ ns) ≡ true
    later a m ns h = elim (eqb_tells m a) [
      | inl e ↦ ap (λ b. b || has a ns) e.0
      | inr e ↦ ap (λ b. b || has a ns) e.0 ∙ h
    ]

pub all_more : {X : Type 0} (P : X → Type 0) (xs : List X) (x : X) → AllByRecursion P xs → P x → AllByRecursion P (xs ++ x ∷ [])
all_more P [] x all one = (one, tt)
all_more P (y ∷ xs) x all one = (all.0, all_more P xs x all.1 one)

pub zip_more : {X Y : Type 0} (R : X → Y → Type 0) (xs : List X) (ys : List Y) (x : X) (y : Y) → AllZip R xs ys → R x y → AllZip R (xs ++ x ∷ []) (ys ++ y ∷ [])
zip_more R [] [] x y all one = (one, tt)
zip_more R (a ∷ xs) (b ∷ ys) x y all one = (all.0, zip_more R xs ys x y all.1 one)
zip_more R [] (b ∷ ys) x y all one = absurd all
zip_more R (a ∷ xs) [] x y all one = absurd all

pub zip_reverse : {X Y : Type 0} (R : X → Y → Type 0) (xs : List X) (ys : List Y) → AllZip R xs ys → AllZip R (reverse xs) (reverse ys)
zip_reverse R [] [] all = tt
zip_reverse R (x ∷ xs) (y ∷ ys) all = rw (reverse_onto xs x [], reverse_onto ys y []) (zip_more R (reverse xs) (reverse ys) x y (zip_reverse R xs ys all.1) all.0)
zip_reverse R [] (y ∷ ys) all = absurd all
zip_reverse R (x ∷ xs) [] all = absurd all

pub made_none : {R : Type 0} → (p : PassState) → IsNew (place_view p).settings (place_view p) → (place_view p).actor ≡ 0 → HasMade {R = R} (place_view p).settings p.table p []
made_none p new zero = record {
  table = refl;
  settings = refl;
  zero = zero;
  claims = new.claims;
  own = new.own;
  absorbed = new.absorbed;
  forked = new.forked;
  ascends = tt;
  starts = tt;
}

-- one more was made, which is to have this worker
pub made_more : {R : Type 0} → (c : Configuration) (t : TableId) (p q child : PassState) (ws : List (Worker R)) (w : Worker R) → HasMade c t p ws → Forked (place_view p) (place_view q) (place_view child)
    → q.table ≡ p.table → q.table ≡ child.table → w.place ≡ Some child → HasMade c t q (ws ++ w ∷ [])
made_more c t p q child ws w h f same kin at =
    let number : number_at w.place ≡ (place_view child).actor = ap number_at at in
    let grown : numbers (ws ++ w ∷ []) ≡ numbers ws ++ (place_view child).actor ∷ [] = numbers_more ws w ∙ ap (λ n. numbers ws ++ n ∷ []) number in
    record {
      table = same ∙ h.table;
      settings = f.later.settings ∙ h.settings;
      zero = f.later.actor ∙ h.zero;
      claims = fork_leaves (place_view p) (place_view q) (place_view child) f h.claims;
      own = f.update.own ∙ h.own;
      absorbed = f.absorbed ∙ h.absorbed;
      forked = f.forked ∙ ap (λ ns. ns ++ (place_view child).actor ∷ []) h.forked ∙ sym grown;
      ascends = subst (Ascends 0) (sym grown)
          (ascends_more 0 (numbers ws) (place_view child).actor h.ascends (omega (arith, f.newer, h.zero)) (λ a in_list. f.later_fork a (ap (has a) h.forked ∙ in_list)));
      starts = all_more (Starts c t) ws w h.starts (record {
        at = child;
        place = at;
        table = sym kin ∙ same ∙ h.table;
        new = record {
          settings = f.child_is.settings ∙ f.later.settings ∙ h.settings;
          claims = fork_child (place_view p) (place_view q) (place_view child) f;
          own = f.child_is.own;
          absorbed = f.child_is.absorbed;
          forked = f.child_is.forked;
        };
      });
    }

-- a worker for each of the scripts so far, and one more
pub serve_more : {R : Type 0} → (scripts : List (List Op)) (i : ℕ) (s : List Op) (ws : List (Worker R)) (w : Worker R) → slice_get scripts i ≡ Some s → AreToServe (take i scripts) ws → ToServe s w.task
    → AreToServe (take (i + 1) scripts) (ws ++ w ∷ [])
serve_more scripts i s ws w at to one = subst (λ ss. AreToServe ss (ws ++ w ∷ [])) (sym (taken_more scripts i s at)) (zip_more (λ s w. ToServe s w.task) (take i scripts) ws s w to one)

-- the crew is whole
pub crew_of : {R : Type 0} → (c : Configuration) (t : TableId) (script : List Op) (others : List (List Op)) (p : PassState) (client tender : Worker R) (ws workers : List (Worker R))
    → HasMade c t p (ws ++ tender ∷ []) → client.place ≡ Some p → ToServe script client.task → AreToServe others ws → ToTend tender.task
    → workers ≡ client ∷ (ws ++ tender ∷ []) → IsCrew c t (script ∷ others) workers
crew_of c t script others p client tender ws workers made at to serve tends all = record {
  first = p;
  client = client;
  others = ws;
  tender = tender;
  all = all;
  place = at;
  made = made;
  serve = (to, serve);
  tends = tends;
}

-- two lists that are as long, place by place
pub zip_from : {X : Type 0} (R : X → X → Type 0) (xs ys : List X) → length ys ≡ length xs → ((i : ℕ) (d : X) → i < length xs → R (slice_index_or xs i d) (slice_index_or ys i d)) → AllZip R xs ys
zip_from R [] [] same each = tt
zip_from R (x ∷ xs) (y ∷ ys) same each = (each 0 x (omega arith), zip_from R xs ys (omega (arith, same)) (λ i d lt. each (suc i) d (omega (arith, lt))))
zip_from R [] (y ∷ ys) same each = absurd (omega (arith, same))
zip_from R (x ∷ xs) [] same each = absurd (omega (arith, same))

pub zip_length : {X Y : Type 0} (R : X → Y → Type 0) (xs : List X) (ys : List Y) → AllZip R xs ys → length ys ≡ length xs
zip_length R [] [] h = refl
zip_length R (x ∷ xs) (y ∷ ys) h = omega (arith, zip_length R xs ys h.1)
zip_length R [] (y ∷ ys) h = absurd h
zip_length R (x ∷ xs) [] h = absurd h

-- What is read of an outcome while actors come to their turns.
use Rattle.std.proofs.Common.{◌≡◌, ℕ, zero, suc, ◌+◌, ◌<◌, List, [], ◌∷◌, length, Bool, true, false, ◌||◌, Some, refl, sym, ap, ◌∙◌, subst, arith}
use Rattle.std.specs.Prelude.{slice_get, slice_index_or, slice_set}
use Rattle.std.specs.List.{list_any}
use Rattle.std.proofs.lemmas.List.{get_or-set_other, get_or-set_same, length-set}
use Rattle.std.proofs.lemmas.Option.{none-some, same_Some, slice_get_within}
use Rattle.mi_core.specs.Effects.{saw}
use Rattle.mi_core.specs.Events.{first_actor}
use Rattle.mi_core.specs.Events.Event.{see}
use Rattle.mi_core.specs.State.{State}
use Rattle.mi_entries.specs.Actors.{Actor}
use Rattle.mi_solo.specs.Solos.{MayTurn}
use Rattle.mi_solo.specs.States.{Does, actor_in}
use Rattle.mi_replay.specs.Outcomes.{SameButSeen, lacks_page}
use Rattle.mi_replay.proofs.TableBlocks.{by_number}
use Rattle.mi_replay.proofs.TableLemmas.{is_there}
use Rattle.mi_replay.proofs.TableRounds.{actor_of, any_false_from}

pub seen_none : (s : State) → SameButSeen s s
seen_none s = record { board = refl; pages = refl; actors = refl; ended = λ a. refl; lacked = λ a. refl }

seen_on : (s m t : State) → SameButSeen s m → SameButSeen m t → SameButSeen s t
seen_on s m t h k = record {
  board = k.board ∙ h.board;
  pages = k.pages ∙ h.pages;
  actors = k.actors ∙ h.actors;
  ended = λ a. k.ended a ∙ h.ended a;
  lacked = λ a. k.lacked a ∙ h.lacked a;
}

-- an actor that sees is the same in what it sees nothing of
same_at : (f : Actor → Bool) (s : State) (a : ℕ) (x : Actor) → a < length s.actors → f x ≡ f (actor_in s a) → (b : ℕ) → f (slice_index_or (slice_set s.actors a x) b first_actor) ≡ f (actor_in s b)
same_at f s a x lt same b = by_number (f (slice_index_or (slice_set s.actors a x) b first_actor) ≡ f (actor_in s b)) b a
    (λ e. ap (λ n. f (slice_index_or (slice_set s.actors a x) n first_actor)) e ∙ ap f (get_or-set_same s.actors a x first_actor lt) ∙ same ∙ ap (λ n. f (actor_in s n)) (sym e))
    (λ apart. ap f (get_or-set_other s.actors a b x first_actor apart))

pub seen_more : (s m t : State) (a : ℕ) → SameButSeen s m → MayTurn m a → Does m a see t → SameButSeen s t
seen_more s m t a h may does = seen_on s m t h (subst (SameButSeen m) (sym does.is) (record {
  board = refl;
  pages = refl;
  actors = length-set m.actors a (saw m.board (actor_in m a));
  ended = same_at (λ (r : Actor). r.ended) m a (saw m.board (actor_in m a)) may.made refl;
  lacked = same_at (λ (r : Actor). r.lacked) m a (saw m.board (actor_in m a)) may.made refl;
}))

pub may_seen : (s t : State) (a : ℕ) → SameButSeen s t → a < length s.actors → (actor_in s a).ended ≡ false → MayTurn t a
may_seen s t a h lt going = record { made = omega (arith, lt, h.actors); going = h.ended a ∙ going }

-- one actor more
pub none_more : (s : State) (n : ℕ) → ((a : ℕ) → a < n → (actor_in s a).lacked ≡ false) → (actor_in s n).lacked ≡ false → (a : ℕ) → a < n + 1 → (actor_in s a).lacked ≡ false
none_more s n h one a lt = by_number ((actor_in s a).lacked ≡ false) a n (λ e. ap (λ m. (actor_in s m).lacked) e ∙ one) (λ apart. h a (omega (arith, lt, apart)))

or_true : (x y : Bool) → y ≡ true → (x || y) ≡ true
or_true true y e = refl
or_true false y e = e

any_true_at : (f : Actor → Bool) (xs : List Actor) (i : ℕ) (r : Actor) → slice_get xs i ≡ Some r → f r ≡ true → list_any f xs ≡ true
any_true_at f [] i r at h = absurd (none-some r at)
any_true_at f (x ∷ xs) zero r at h = ap (λ b. b || list_any f xs) (ap f (same_Some x r at) ∙ h)
any_true_at f (x ∷ xs) (suc i) r at h = or_true (f x) (list_any f xs) (any_true_at f xs i r at h)

pub lacks_some : (s : State) (a : ℕ) → a < length s.actors → (actor_in s a).lacked ≡ true → lacks_page s ≡ true
lacks_some s a lt h = any_true_at (λ (r : Actor). r.lacked) s.actors a (actor_in s a) (is_there s a lt) h

pub lacks_none : (s : State) → ((a : ℕ) → a < length s.actors → (actor_in s a).lacked ≡ false) → lacks_page s ≡ false
lacks_none s h = any_false_from (λ (r : Actor). r.lacked) s.actors (λ i r at. ap (λ (x : Actor). x.lacked) (actor_of s i r at) ∙ h i (slice_get_within s.actors i r at))

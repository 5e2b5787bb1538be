-- What a change of one actor's state leaves of the claims and the reservations.
use Rattle.std.proofs.Common.{◌≡◌, ℕ, suc, zero, ◌+◌, ◌<◌, ◌≤◌, List, [], ◌∷◌, ◌++◌, length, get_or, Bool, true, false, cond, refl, sym, ap, ◌∙◌, subst, arith, Option, Some, None}
use Rattle.std.specs.Prelude.{slice_set, count_by}
use Rattle.std.proofs.lemmas.Bool.{false≢true, or_parts}
use Rattle.std.proofs.lemmas.List.Folds.{list_any-append}
use Rattle.std.proofs.lemmas.List.Sums.{sum_by-cons}
use Rattle.mi_board.specs.declared.actors.ActorState.{ActorState}
use Rattle.mi_board.specs.Actors.{actor_at, change, idle, with_claim, without_claim, with_reserved, is_claim, is_claimed}
use Rattle.mi_board.specs.Kept.{ClaimStands, ClaimsStand}
use Rattle.mi_tree.specs.declared.outcomes.Leaf.{Leaf}
use Rattle.mi_tree.specs.Cells.{same_cell}
use Rattle.mi_tree.specs.Counting.{has_leaf}
use Rattle.mi_tree.proofs.LeafLemmas.{same_cell_is, same_self}

-- a write at an actor's place is a change
pub change_is : (f : ActorState → ActorState) (states : List ActorState) (i : ℕ) (old new : ActorState) → i < length states → old ≡ get_or states i old → new ≡ f old → slice_set states i new ≡ change f i states
change_is f [] i old new lt at is = absurd (omega arith)
change_is f (a ∷ states) zero old new lt at is = ap (λ (x : ActorState). x ∷ states) (is ∙ ap f at)
change_is f (a ∷ states) (suc i) old new lt at is = ap (λ xs. a ∷ xs) (change_is f states i old new (omega arith) at is)

pub length-change : (f : ActorState → ActorState) (i : ℕ) (states : List ActorState) → length (change f i states) ≡ length states
length-change f i [] = refl
length-change f zero (a ∷ states) = refl
length-change f (suc i) (a ∷ states) = omega (arith, length-change f i states)

-- the actor that stands at a place
pub actor_is : (states : List ActorState) (i : ℕ) (x : ActorState) → i < length states → x ≡ get_or states i x → actor_at states i ≡ x
actor_is [] i x lt at = absurd (omega arith)
actor_is (a ∷ states) zero x lt at = sym at
actor_is (a ∷ states) (suc i) x lt at = actor_is states i x (omega arith) at

abbrev pub reserved : List ActorState → ℕ
reserved states = count_by (λ a. a.reserved) states

abbrev pub one_if : Bool → ℕ
one_if b = cond b 1 0

pub reserved-cons : (a : ActorState) (states : List ActorState) → reserved (a ∷ states) ≡ one_if a.reserved + reserved states
reserved-cons a states = sum_by-cons (λ (x : ActorState). one_if x.reserved) a states

-- one actor more has reserved, at most
pub reserve_one : (i : ℕ) (states : List ActorState) → reserved (change (with_reserved true) i states) ≤ reserved states + 1
reserve_one i [] = omega arith
reserve_one zero (a ∷ states) = omega (arith, reserved-cons a states, reserved-cons (with_reserved true a) states)
reserve_one (suc i) (a ∷ states) = omega (arith, reserved-cons a states, reserved-cons a (change (with_reserved true) i states), reserve_one i states)

-- one actor less, exactly
pub commit_one : (i : ℕ) (states : List ActorState) → (actor_at states i).reserved ≡ true → reserved (change (with_reserved false) i states) + 1 ≡ reserved states
commit_one i [] h = absurd (false≢true h)
commit_one zero (a ∷ states) h =
    let one : one_if a.reserved ≡ 1 = rw h refl in
    omega (arith, reserved-cons a states, reserved-cons (with_reserved false a) states, one)
commit_one (suc i) (a ∷ states) h = omega (arith, reserved-cons a states, reserved-cons a (change (with_reserved false) i states), commit_one i states h)

-- a claim changes no reservation
pub claim_count : (f : ActorState → ActorState) → ((a : ActorState) → (f a).reserved ≡ a.reserved) → (i : ℕ) (states : List ActorState) → reserved (change f i states) ≡ reserved states
claim_count f keep i [] = refl
claim_count f keep zero (a ∷ states) = omega (arith, reserved-cons a states, reserved-cons (f a) states, ap one_if (keep a))
claim_count f keep (suc i) (a ∷ states) = omega (arith, reserved-cons a states, reserved-cons a (change f i states), claim_count f keep i states)

-- a prefix is another's whichever is named first
pub same_cell-symmetric : (p q : List ℕ) → same_cell p q ≡ false → same_cell q p ≡ false
same_cell-symmetric p q h =
    let P : Bool → Type 0 = λ b. same_cell q p ≡ b → same_cell q p ≡ false in
    (elim (same_cell q p) as P [
      | true ↦ λ e. absurd (false≢true (sym h ∙ subst (λ (x : List ℕ). same_cell x q ≡ true) (same_cell_is q p e) (same_self q)))
      | false ↦ λ e. e
    ]) refl

-- a change that takes no claim leaves each prefix states free states it was
free_after : (f : ActorState → ActorState) (p : List ℕ) → ((a : ActorState) → is_claim p a.claim ≡ false → is_claim p (f a).claim ≡ false) → (i : ℕ) (states : List ActorState) → is_claimed p states ≡ false → is_claimed p (change f i states) ≡ false
free_after f p keep i [] h = refl
free_after f p keep zero (a ∷ states) h = let parts = or_parts (is_claim p a.claim) (is_claimed p states) h in rw (keep a parts.0, parts.1) refl
free_after f p keep (suc i) (a ∷ states) h = let parts = or_parts (is_claim p a.claim) (is_claimed p states) h in rw (parts.0, free_after f p keep i states parts.1) refl

-- a claim that stands beside fewer claims
stands_after : (f : ActorState → ActorState) → ((q : List ℕ) (a : ActorState) → is_claim q a.claim ≡ false → is_claim q (f a).claim ≡ false) → (ls : List Leaf) (i : ℕ) (states : List ActorState) (o : Option (List ℕ)) → ClaimStands ls states o → ClaimStands ls (change f i states) o
stands_after f keep ls i states None h = tt
stands_after f keep ls i states (Some p) h = (h.0, free_after f p (keep p) i states h.1)

-- what changes no claim keeps the claims
pub claims_beside : (f : ActorState → ActorState) → ((a : ActorState) → (f a).claim ≡ a.claim) → (ls : List Leaf) (i : ℕ) (states : List ActorState) → ClaimsStand ls states → ClaimsStand ls (change f i states)
claims_beside f same ls i [] h = tt
claims_beside f same ls zero (a ∷ states) h = (subst (ClaimStands ls states) (sym (same a)) h.0, h.1)
claims_beside f same ls (suc i) (a ∷ states) h = (stands_after f (λ q x k. ap (is_claim q) (same x) ∙ k) ls i states a.claim h.0, claims_beside f same ls i states h.1)

-- an actor that was just made claims nothing
stands_more : (ls : List Leaf) (states : List ActorState) (o : Option (List ℕ)) → ClaimStands ls states o → ClaimStands ls (states ++ idle ∷ []) o
stands_more ls states None h = tt
stands_more ls states (Some p) h = (h.0, list_any-append (λ (a : ActorState). is_claim p a.claim) states (idle ∷ []) ∙ rw h.1 refl)

pub claims_more : (ls : List Leaf) (states : List ActorState) → ClaimsStand ls states → ClaimsStand ls (states ++ idle ∷ [])
claims_more ls [] h = (tt, tt)
claims_more ls (a ∷ states) h = (stands_more ls states a.claim h.0, claims_more ls states h.1)

-- and has reserved nothing
pub reserved_more : (states : List ActorState) → reserved (states ++ idle ∷ []) ≡ reserved states
reserved_more [] = refl
reserved_more (a ∷ states) = omega (arith, reserved-cons a states, reserved-cons a (states ++ idle ∷ []), reserved_more states)

-- a release keeps the others
pub claims_released : (ls : List Leaf) (i : ℕ) (states : List ActorState) → ClaimsStand ls states → ClaimsStand ls (change without_claim i states)
claims_released ls i [] h = tt
claims_released ls zero (a ∷ states) h = (tt, h.1)
claims_released ls (suc i) (a ∷ states) h = (stands_after without_claim (λ q x k. refl) ls i states a.claim h.0, claims_released ls i states h.1)

-- a claim of another leaf leaves a prefix free
claimed_beside : (p q : List ℕ) → same_cell q p ≡ false → (i : ℕ) (states : List ActorState) → is_claimed q states ≡ false → is_claimed q (change (with_claim p) i states) ≡ false
claimed_beside p q other i [] h = refl
claimed_beside p q other zero (a ∷ states) h = rw (other, (or_parts (is_claim q a.claim) (is_claimed q states) h).1) refl
claimed_beside p q other (suc i) (a ∷ states) h = let parts = or_parts (is_claim q a.claim) (is_claimed q states) h in rw (parts.0, claimed_beside p q other i states parts.1) refl

claim_stands_beside : (p : List ℕ) (ls : List Leaf) (i : ℕ) (states : List ActorState) (o : Option (List ℕ)) → is_claim p o ≡ false → ClaimStands ls states o → ClaimStands ls (change (with_claim p) i states) o
claim_stands_beside p ls i states None other h = tt
claim_stands_beside p ls i states (Some q) other h = (h.0, claimed_beside p q (same_cell-symmetric p q other) i states h.1)

-- a claim of a free leaf stands beside the others
pub claims_claiming : (p : List ℕ) (ls : List Leaf) → has_leaf p ls ≡ true → (i : ℕ) (states : List ActorState) → is_claimed p states ≡ false → ClaimsStand ls states → ClaimsStand ls (change (with_claim p) i states)
claims_claiming p ls leaf i [] free h = tt
claims_claiming p ls leaf zero (a ∷ states) free h = ((leaf, (or_parts (is_claim p a.claim) (is_claimed p states) free).1), h.1)
claims_claiming p ls leaf (suc i) (a ∷ states) free h =
    let parts = or_parts (is_claim p a.claim) (is_claimed p states) free in
    (claim_stands_beside p ls i states a.claim parts.0 h.0, claims_claiming p ls leaf i states parts.1 h.1)

-- the claims stand over other leaves, where each claimed one is still there
stands_over : (p : List ℕ) (ls ms : List Leaf) → ((q : List ℕ) → has_leaf q ls ≡ true → same_cell p q ≡ false → has_leaf q ms ≡ true) → (states : List ActorState) (o : Option (List ℕ)) → is_claim p o ≡ false → ClaimStands ls states o → ClaimStands ms states o
stands_over p ls ms keep states None other h = tt
stands_over p ls ms keep states (Some q) other h = (keep q h.0 other, h.1)

claims_over : (p : List ℕ) (ls ms : List Leaf) → ((q : List ℕ) → has_leaf q ls ≡ true → same_cell p q ≡ false → has_leaf q ms ≡ true) → (states : List ActorState) → is_claimed p states ≡ false → ClaimsStand ls states → ClaimsStand ms states
claims_over p ls ms keep [] free h = tt
claims_over p ls ms keep (a ∷ states) free h =
    let parts = or_parts (is_claim p a.claim) (is_claimed p states) free in
    (stands_over p ls ms keep states a.claim parts.0 h.0, claims_over p ls ms keep states parts.1 h.1)

kept_over : (ls ms : List Leaf) → ((q : List ℕ) → has_leaf q ls ≡ true → has_leaf q ms ≡ true) → (states : List ActorState) (o : Option (List ℕ)) → ClaimStands ls states o → ClaimStands ms states o
kept_over ls ms keep states None h = tt
kept_over ls ms keep states (Some q) h = (keep q h.0, h.1)

-- the claims stand where no leaf is lost
pub claims_kept : (ls ms : List Leaf) → ((q : List ℕ) → has_leaf q ls ≡ true → has_leaf q ms ≡ true) → (states : List ActorState) → ClaimsStand ls states → ClaimsStand ms states
claims_kept ls ms keep [] h = tt
claims_kept ls ms keep (a ∷ states) h = (kept_over ls ms keep states a.claim h.0, claims_kept ls ms keep states h.1)

-- the claim of an actor is none before it
claimed_later : (p q : List ℕ) (i : ℕ) (states : List ActorState) → (actor_at states i).claim ≡ Some p → is_claimed q states ≡ false → same_cell q p ≡ false
claimed_later p q i [] at h = cc
claimed_later p q zero (a ∷ states) at h = sym (ap (is_claim q) at) ∙ (or_parts (is_claim q a.claim) (is_claimed q states) h).0
claimed_later p q (suc i) (a ∷ states) at h = claimed_later p q i states at (or_parts (is_claim q a.claim) (is_claimed q states) h).1

split_stands : (p : List ℕ) (ls ms : List Leaf) → ((q : List ℕ) → has_leaf q ls ≡ true → same_cell p q ≡ false → has_leaf q ms ≡ true) → (i : ℕ) (states : List ActorState) → (actor_at states i).claim ≡ Some p → (o : Option (List ℕ)) → ClaimStands ls states o → ClaimStands ms (change without_claim i states) o
split_stands p ls ms keep i states at None h = tt
split_stands p ls ms keep i states at (Some q) h = (keep q h.0 (same_cell-symmetric q p (claimed_later p q i states at h.1)), free_after without_claim q (λ a k. refl) i states h.1)

-- the claims stand after a split of the leaf that an actor claimed
pub claims_split : (p : List ℕ) (ls ms : List Leaf) → ((q : List ℕ) → has_leaf q ls ≡ true → same_cell p q ≡ false → has_leaf q ms ≡ true) → (i : ℕ) (states : List ActorState) → (actor_at states i).claim ≡ Some p → ClaimsStand ls states → ClaimsStand ms (change without_claim i states)
claims_split p ls ms keep i [] at h = tt
claims_split p ls ms keep zero (a ∷ states) at h =
    let mine : ClaimStands ls states (Some p) = subst (ClaimStands ls states) at h.0 in
    (tt, claims_over p ls ms keep states mine.1 h.1)
claims_split p ls ms keep (suc i) (a ∷ states) at h = (split_stands p ls ms keep i states at a.claim h.0, claims_split p ls ms keep i states at h.1)

-- a leaf that is claimed is there
pub claimed_leaf : (ls : List Leaf) (i : ℕ) (states : List ActorState) (p : List ℕ) → (actor_at states i).claim ≡ Some p → ClaimsStand ls states → has_leaf p ls ≡ true
claimed_leaf ls i [] p at h = cc
claimed_leaf ls zero (a ∷ states) p at h = (subst (ClaimStands ls states) at h.0).0
claimed_leaf ls (suc i) (a ∷ states) p at h = claimed_leaf ls i states p at h.1

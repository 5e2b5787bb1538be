-- No identifier stands twice in a shard.
use Rattle.std.proofs.Common.{◌≡◌, ◌≢◌, ℕ, suc, zero, ◌==◌, List, [], ◌∷◌, ◌++◌, Bool, true, false, cond, not, set, Some, None, refl, sym, ◌∙◌, subst, eq-eqb}
use Rattle.std.specs.List.{AllByRecursion, filter, find}
use Rattle.std.proofs.lemmas.Bool.{false≢true}
use Rattle.mi_base.specs.Configuration.{Configuration}
use Rattle.mi_core.specs.Events.{Can, Event, after, opened}
use Rattle.mi_core.specs.Events.Event.{see, look, meet, refuse, refuse_at, visit, start, trim, miss_shard, claim_shard, release_shard, reserve, pin, unpin, claim_leaf, release_leaf, insert, delete, allot, lack, grow, split_page, post, gather, copy_in, uncopy, publish, give_up, take_sweep, take_split, no_work, sweep, fork, absorb, depart}
use Rattle.mi_core.specs.Noted.{AreSingle, Single}
use Rattle.mi_entries.specs.Records.{Rows, Shard, ShardRecord, no_shard, shard_at}
use Rattle.mi_entries.specs.Actors.{Actor}
use Rattle.mi_core.specs.State.{State}
use Rattle.mi_core.proofs.KeptLemmas.{all_snoc}
use Rattle.mi_core.proofs.OpeningLemmas.{or_copy}
use Rattle.mi_base.proofs.SortingLemmas.{filter_keeps}

put_at : (xs : List Shard) (k : ℕ) (x : Shard) → Single x.rows.records → AreSingle xs → AreSingle (set xs k x)
put_at [] k x p h j = h j
put_at (y ∷ xs) zero x p h zero = p
put_at (y ∷ xs) zero x p h (suc j) = h (suc j)
put_at (y ∷ xs) (suc k) x p h zero = h 0
put_at (y ∷ xs) (suc k) x p h (suc j) = put_at xs k x p (λ i. h (suc i)) j

-- who isn't found is another
others : (id : ℕ) (xs : List ShardRecord) → find (λ x. x.id == id) xs ≡ None → AllByRecursion (λ (x : ShardRecord). id ≢ x.id) xs
others id [] h = tt
others id (x ∷ xs) h =
    let P : Bool → Type 0 = λ b. (x.id == id) ≡ b → cond b (Some x) (find (λ y. y.id == id) xs) ≡ None → (id ≢ x.id) × AllByRecursion (λ (y : ShardRecord). id ≢ y.id) xs in
    (elim (x.id == id) as P [ true ↦ λ e n. absurd (cc) | false ↦ λ e n. ((λ same. false≢true (sym e ∙ eq-eqb x.id id (sym same))), others id xs n) ]) refl h

single_more : (xs : List ShardRecord) (y : ShardRecord) → Single xs → AllByRecursion (λ (x : ShardRecord). y.id ≢ x.id) xs → Single (xs ++ y ∷ [])
single_more [] y h o = (tt, tt)
single_more (x ∷ xs) y h o = (all_snoc (λ (z : ShardRecord). z.id ≢ x.id) xs y h.0 o.0, single_more xs y h.1 o.1)

single_filter : (t : ShardRecord → Bool) (xs : List ShardRecord) → Single xs → Single (filter t xs)
single_filter t [] h = tt
single_filter t (x ∷ xs) h =
    let P : Bool → Type 0 = λ b. Single (cond b (x ∷ filter t xs) (filter t xs)) in
    elim (t x) as P [ true ↦ (filter_keeps (λ (z : ShardRecord). z.id ≢ x.id) t xs h.0, single_filter t xs h.1) | false ↦ single_filter t xs h.1 ]

its : (shards : List Shard) (k : ℕ) (kept : Rows) → (shard_at shards k).rows ≡ kept → AreSingle shards → Single kept.records
its shards k kept e h = subst (λ (x : Rows). Single x.records) e (h k)

abbrev pub KeepsSingle : Event → Type 0
KeepsSingle e = (s : State) → AreSingle s.shards → (a : ℕ) (r : Actor) → Can s a r e → AreSingle (after s a r e).shards

pub event_keeps_single : (e : Event) → KeepsSingle e
event_keeps_single see = λ s h a r can. h
event_keeps_single look = λ s h a r can. h
event_keeps_single no_work = λ s h a r can. h
event_keeps_single (meet page) = λ s h a r can. h
event_keeps_single (refuse why) = λ s h a r can. h
event_keeps_single (refuse_at page why) = λ s h a r can. h
event_keeps_single (visit page) = λ s h a r can. h
event_keeps_single (start page) = λ s h a r can. h
event_keeps_single (trim page node) = λ s h a r can. h
event_keeps_single (miss_shard n) = λ s h a r can. h
event_keeps_single pin = λ s h a r can. h
event_keeps_single unpin = λ s h a r can. h
event_keeps_single (claim_leaf p) = λ s h a r can. h
event_keeps_single release_leaf = λ s h a r can. h
event_keeps_single allot = λ s h a r can. h
event_keeps_single lack = λ s h a r can. h
event_keeps_single (grow level key child) = λ s h a r can. h
event_keeps_single (split_page page node) = λ s h a r can. h
event_keeps_single (post page node key child) = λ s h a r can. h
event_keeps_single (gather page node) = λ s h a r can. h
event_keeps_single (copy_in page node e) = λ s h a r can. h
event_keeps_single (uncopy page node e told) = λ s h a r can. h
event_keeps_single publish = λ s h a r can. h
event_keeps_single (give_up pages) = λ s h a r can. h
event_keeps_single (take_sweep p) = λ s h a r can. h
event_keeps_single (take_split p) = λ s h a r can. h
event_keeps_single (sweep page node) = λ s h a r can. h
event_keeps_single fork = λ s h a r can. h
event_keeps_single (absorb b t) = λ s h a r can. h
event_keeps_single depart = λ s h a r can. h
event_keeps_single (claim_shard n kept) = λ s h a r can. put_at s.shards n _ (its s.shards n kept can.2 h) h
event_keeps_single (release_shard n kept) = λ s h a r can. put_at s.shards n _ (its s.shards n kept can.1 h) h
event_keeps_single (reserve n kept room) = λ s h a r can. put_at s.shards n _ (its s.shards n kept can.1 h) h
event_keeps_single (insert op id page node kept e) = λ s h a r can. put_at s.shards _ _ (single_more kept.records _ (its s.shards _ kept can.may.kept_is h) (others id kept.records can.absent)) h
event_keeps_single (delete op id page node kept key) = λ s h a r can. put_at s.shards _ _ (single_filter (λ y. not (y.id == id)) kept.records (its s.shards _ kept can.may.kept_is h)) h

pub opened_single : (c : Configuration) (count more : ℕ) → AreSingle (opened c count more).shards
opened_single c count more k = subst (λ (x : Shard). Single x.rows.records) (sym (or_copy 16 k no_shard)) tt

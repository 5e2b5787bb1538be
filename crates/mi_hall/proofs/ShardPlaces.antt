-- What sections of a shard make of a seat's view.
use Rattle.std.proofs.Common.{◌≡◌, ℕ, ◌==◌, [], Bool, true, false, cond, refl, sym, ap, ◌∙◌, Option, Some, None}
use Rattle.std.specs.Prelude.{slice_get}
use Rattle.std.specs.List.{find}
use Rattle.std.proofs.lemmas.Option.{none-some, same_Some}
use Rattle.mi_core.specs.Events.{Can, Event, after}
use Rattle.mi_core.specs.Events.Event.{claim_shard, miss_shard, release_shard}
use Rattle.mi_core.specs.State.{State}
use Rattle.mi_core.proofs.ActorLemmas.{set_there}
use Rattle.mi_entries.specs.Actors.{Actor}
use Rattle.mi_entries.specs.Records.{Rows, home, shard_at}
use Rattle.mi_latch.specs.Views.{Sight}
use Rattle.mi_latch.specs.Wanting as latch
use Rattle.mi_solo.specs.Onward.{Makes}
use Rattle.mi_solo.specs.Viewing.{another, pinned_log, record_shown, shown_to}
use Rattle.mi_solo.proofs.ClaimEvents.{claims_shard, misses_shard, releases_shard}
use Rattle.mi_solo.proofs.OwnLemmas.{later_own}
use Rattle.mi_world.specs.declared.answers.ShardClaim.TheVariants.{Held, Taken}
use Rattle.mi_world.specs.Claims.{ClaimsShard, ReleasesShard}
use Rattle.mi_world.specs.View.{View}
use Rattle.mi_hall.specs.Knowledge.{Knowledge, Knows, trying, view_by}
use Rattle.mi_hall.specs.Places.{ShardMakes, gives_shard}
use Rattle.mi_hall.specs.Seats.{knowledge, seat_view}
use Rattle.mi_hall.proofs.ClaimRelations.{claims_shard_by, releases_shard_by}
use Rattle.mi_hall.proofs.KnowledgeLemmas.{knows_reading}
use Rattle.mi_hall.proofs.PlaceLemmas.{carries}
use Rattle.mi_hall.proofs.SeatLemmas.{pinned_seen, seat_is, seat_knows, seat_shows}

-- the record that the event gives its actor; the board stays, and its claim and its pin
abbrev GivesShard : Event → Type 0
GivesShard e = (s : State) (a : ℕ) (r : Actor) → slice_get s.actors a ≡ Some r → Can s a r e
    → (q : Actor) × (slice_get (after s a r e).actors a ≡ Some q) × (q.pin ≡ r.pin) × (q.claim ≡ r.claim) × ((after s a r e).board ≡ s.board)

shard_lifts : (e : Event) (relation lifted : State → View → View → Type 0) → Makes e relation → GivesShard e
    → ((s : State) (a : ℕ) (r q : Actor) → slice_get (after s a r e).actors a ≡ Some q → slice_get s.actors a ≡ Some r → Can s a r e → (n : Knowledge) → n.found ≡ r.found → Knows (shown_to s a r) n → Knows (shown_to (after s a r e) a q) (trying q.found n)
    → relation s (shown_to s a r) (shown_to (after s a r e) a q) → lifted s (view_by n (shown_to s a r)) (view_by (trying q.found n) (shown_to (after s a r e) a q)))
    → ShardMakes e lifted
shard_lifts e relation lifted makes gives lift c v b can q now out rows =
    let x = gives c v.actor v.mine.part b.fits.part can in
    let same : x.0 ≡ q = same_Some x.0 q (sym x.1 ∙ now) in
    let t : State = after c v.actor v.mine.part e in
    let n : Knowledge = knowledge v in
    let before : View = shown_to c v.actor v.mine.part in
    let then : View = shown_to t v.actor q in
    let w : Sight = gives_shard v q out in
    let k = b.fits.knows in
    let pin = ap (λ (z : Actor). z.pin) (sym same) ∙ x.2 in
    let claim = ap (λ (z : Actor). z.claim) (sym same) ∙ x.3 in
    let board = x.4 in
    let note = sym k.note.settings ∙ ap (λ z. z.settings) (sym board) in
    let pins = ap (pinned_log v.mine.log) pin ∙ pinned_seen v.mine.part.seen c.board.log v.mine.log v.mine.part.pin k.log k.pin
    ∙ ap (λ z. pinned_log z.log v.mine.part.pin) (sym board) ∙ ap (pinned_log t.board.log) (sym pin) in
    let wants = k.wanted ∙ ap (λ z. latch.leaf_wanted z.settings z.log v.mine.part.claim) (sym board) ∙ ap (latch.leaf_wanted t.board.settings t.board.log) (sym claim) in
    let knows = seat_knows c b.kept v b.fits in
    let knows_then = knows_reading before then n knows (later_own c b.kept v.actor v.mine.part b.fits.part b.going e can q now) [] tt in
    carries (lifted c) (seat_view v) (seat_view w) (view_by n before) (view_by (trying q.found n) then) (seat_is c v b.fits b.rows) (seat_shows t w note pins rows wants)
    (lift c v.actor v.mine.part q now b.fits.part can n refl knows (record {
      seen = knows_then.seen;
      few = knows_then.few;
      told = knows_then.told;
      pages = knows_then.pages;
      first = knows_then.first;
      least = knows_then.least;
      allotted = knows_then.allotted;
      given = knows_then.given;
    }) (makes c b.kept v.actor v.mine.part q b.fits.part b.going can now))

-- a holder that is another one's
other_is : (a : ℕ) (o : Option ℕ) (by : ℕ) → another a o ≡ Some by → o ≡ another a o
other_is a None by e = refl
other_is a (Some b) by e =
    let P : Bool → Type 0 = λ z. cond z None (Some b) ≡ Some by → Some b ≡ cond z None (Some b) in
    (elim (b == a) as P [ true ↦ λ h. absurd (none-some by h) | false ↦ λ h. refl ]) e

pub claims_shard_seated : (id : ℕ) (kept : Rows) → ShardMakes (claim_shard (home id) kept) (λ c v w. ClaimsShard v w id (Taken (record_shown (find (λ x. x.id == id) kept.records))))
claims_shard_seated id kept = shard_lifts (claim_shard (home id) kept) (λ c v w. ClaimsShard v w id (Taken (record_shown (find (λ x. x.id == id) kept.records)))) (λ c v w. ClaimsShard v w id (Taken (record_shown (find (λ x. x.id == id) kept.records))))
    (claims_shard id kept) (λ s a r there can. (_, set_there s.actors a _ r there, refl, refl, refl))
    (λ s a r q now there can n was k i x.
    let found : q.found ≡ None = ap (λ (z : Actor). z.found) (same_Some q _ (sym now ∙ set_there s.actors a _ r there)) in
    claims_shard_by (shown_to s a r) (shown_to (after s a r (claim_shard (home id) kept)) a q) n k q.found i id (Taken (record_shown (find (λ x. x.id == id) kept.records))) (found ∙ sym x.answer.0) x)

pub misses_shard_seated : (id : ℕ) → ShardMakes (miss_shard (home id)) (λ c v w. ClaimsShard v w id Held)
misses_shard_seated id = shard_lifts (miss_shard (home id)) (λ c v w. ClaimsShard v w id Held) (λ c v w. ClaimsShard v w id Held) (misses_shard id)
    (λ s a r there can. (_, set_there s.actors a _ r there, refl, refl, refl))
    (λ s a r q now there can n was k i x.
    let is : q ≡ record r { tried = home id; found = (shard_at s.shards (home id)).holder } = same_Some q _ (sym now ∙ set_there s.actors a _ r there) in
    let other = x.answer.0 in
    let found = ap (λ (z : Actor). another a (shard_at s.shards z.tried).holder) is in
    claims_shard_by (shown_to s a r) (shown_to (after s a r (miss_shard (home id))) a q) n k q.found i id Held
    (ap (λ (z : Actor). z.found) is ∙ other_is a (shard_at s.shards (home id)).holder other.by (sym found ∙ other.is) ∙ sym found) x)

pub releases_shard_seated : (m : ℕ) (kept : Rows) → ShardMakes (release_shard m kept) (λ c v w. ReleasesShard v w)
releases_shard_seated m kept = shard_lifts (release_shard m kept) (λ c v w. ReleasesShard v w) (λ c v w. ReleasesShard v w) (releases_shard m kept)
    (λ s a r there can. (_, set_there s.actors a _ r there, refl, refl, refl))
    (λ s a r q now there can n was k i x.
    let found : q.found ≡ r.found = ap (λ (z : Actor). z.found) (same_Some q _ (sym now ∙ set_there s.actors a _ r there)) in
    releases_shard_by (shown_to s a r) (shown_to (after s a r (release_shard m kept)) a q) n k q.found i (found ∙ sym was) x)

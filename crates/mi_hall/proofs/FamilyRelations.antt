-- Actors that are made and absorbed, as those have them who know a part of what all share.
use Rattle.std.proofs.Common.{◌≡◌, ℕ, ◌<◌, List, [], ◌∷◌, ◌++◌, length, Bool, true, false, cond, ◌||◌, IsTrue, set, refl, sym, ap, ◌∙◌, subst, arith, Some, inl, inr, ◌⊎◌}
use Rattle.std.specs.Prelude.{slice_get}
use Rattle.std.specs.List.{AllByRecursion}
use Rattle.mi_base.specs.declared.records.LogEvent.{LogEvent}
use Rattle.mi_base.specs.History.{updates_of}
use Rattle.mi_base.specs.Prefixes.{has}
use Rattle.mi_core.specs.Effects.{saw}
use Rattle.mi_core.specs.Events.{Can, after, ended, made_actor, more_seen}
use Rattle.mi_core.specs.Events.Event.{absorb, fork, see}
use Rattle.mi_core.specs.Kept.{Kept}
use Rattle.mi_core.specs.Named.{Named}
use Rattle.mi_core.specs.State.{State}
use Rattle.mi_core.proofs.ActorLemmas.{set_else, set_there}
use Rattle.mi_entries.specs.Actors.{Actor}
use Rattle.mi_entries.proofs.EntryLemmas.{get_more}
use Rattle.mi_tree.specs.Growing.{Grows}
use Rattle.mi_world.specs.Families.{Absorbs, Forked, NotForked}
use Rattle.mi_world.specs.View.{Later, SeesBoard, View}
use Rattle.mi_solo.specs.Viewing.{shown_to}
use Rattle.mi_solo.proofs.OwnLemmas.{later_own, sees_own}
use Rattle.mi_solo.proofs.SectionLemmas.{page_by}
use Rattle.mi_hall.specs.Knowledge.{IsShown, Knowledge, Knows, Learns, blended, forking, newborn, seeing, view_by}
use Rattle.mi_hall.proofs.KnowledgeLemmas.{all_named, first_named, known, later_by, learns_seeing, more_named, still_named}
use Rattle.mi_hall.proofs.BoardRelations.{knows_more}
use Rattle.mi_hall.proofs.PartLemmas.{sees_by}

module _ (s : State) (k : Kept s) (a : ℕ) (r : Actor) (there : slice_get s.actors a ≡ Some r) (going : r.ended ≡ false) where
  abbrev v : View
  v = shown_to s a r

  abbrev q : Actor
  q = saw s.board r

  -- the actor is made: it is the last of all
  module _ (can : Can s a r fork) (child : ℕ) (n : Knowledge) (known_by : Knows v n) where
    abbrev w : View
    w = shown_to (after s a r fork) a (saw s.board r)

    abbrev u : View
    u = shown_to (after s a r fork) child (made_actor s.board r.floor)

    abbrev m : Knowledge
    m = forking w child n

    now : slice_get (after s a r fork).actors a ≡ Some (saw s.board r)
    now = get_more (set s.actors a q) (made_actor s.board r.floor ∷ []) a q (set_there s.actors a q r there)

    later : Later v w
    later = later_own s k a r there going fork can q now

    sees : SeesBoard w
    sees = sees_own s k a r there going fork can q now

    knows : Knows w (forking w child n)
    knows =
        let x = knows_more v w n known_by [] tt later sees in
        record { seen = x.seen; few = x.few; told = x.told; pages = x.pages; first = x.first; least = x.least; allotted = x.allotted; given = x.given }

    learns : Learns n (forking w child n)
    learns =
        let x = learns_seeing v w n known_by later [] tt n.told (λ e. e) in
        record { seen = x.seen; told = x.told; pages = x.pages; least = x.least; allotted = x.allotted; given = x.given }

    pub forked_by : ((i : ℕ) → has i n.forked ≡ true → i < child) → a < child
        → Forked (view_by n v) (view_by (forking w child n) w) (view_by (newborn (forking w child n)) u)
    forked_by fewer less =
        let p = page_by s (after s a r fork) a r q refl refl in
        record {
          later = later_by v w n m known_by knows learns later;
          lacked = refl;
          told = refl;
          update = record { own = refl; shard = refl; records = refl; reserved = refl };
          leaf = record { leaf = refl; wanted = refl };
          sweep = record { sweep = refl; swept = refl };
          split = record { splitting = refl; mark = refl; whole = refl; copies = refl; copied = refl };
          flags = record { undone = refl; early = refl };
          pin = refl;
          floor = refl;
          fresh = refl;
          owes = refl;
          board = sees_by w (record n { forked = n.forked ++ child ∷ []; least = w.least }) knows sees;
          page = record { page = refl; high = refl; items = λ e. refl };
          tries = record { tried = refl; found = refl };
          absorbed = refl;
          forked = refl;
          child_is = record {
            settings = refl;
            tells_full = refl;
            seen = refl;
            floor = refl;
            own = refl;
            idle = record { shard = refl; leaf = refl; sweep = refl; pin = refl };
            unsplit = refl;
            reserved = refl;
            fresh = refl;
            owes = λ i. refl;
            undone = refl;
            early = refl;
            lacked = refl;
            told = λ e. e;
            absorbed = refl;
            forked = refl;
            pages = record { named = λ i e. e; level = λ i e. refl; low = λ i e. refl; least = omega arith };
          };
          newer = less;
          later_fork = fewer;
        }

  -- memory was wanted for an actor
  pub not_forked_by : (n : Knowledge) → Knows v n → NotForked (view_by n v) (view_by (seeing (shown_to (after s a r see) a (saw s.board r)) n.told [] n) (shown_to (after s a r see) a (saw s.board r)))
  not_forked_by n x =
      let w : View = shown_to (after s a r see) a (saw s.board r) in
      let now : slice_get (after s a r see).actors a ≡ Some (saw s.board r) = set_there s.actors a (saw s.board r) r there in
      let l : Later v w = later_own s k a r there going see tt (saw s.board r) now in
      let b : SeesBoard w = sees_own s k a r there going see tt (saw s.board r) now in
      record {
        later = later_by v w n (seeing w n.told [] n) x (knows_more v w n x [] tt l b) (learns_seeing v w n x l [] tt n.told (λ e. e)) l;
        lacked = refl;
        told = refl;
        same = record {
          work = record {
            update = record { own = refl; shard = refl; records = refl; reserved = refl };
            leaf = record { leaf = refl; wanted = refl };
            apart = record {
              sweep = record { sweep = refl; swept = refl };
              split = record { splitting = refl; mark = refl; whole = refl; copies = refl; copied = refl };
              flags = record { undone = refl; early = refl };
              actors = record { absorbed = refl; forked = refl };
              pin = refl;
            };
          };
          fresh = refl;
          owes = refl;
        };
        floor = refl;
        page = record { page = refl; high = refl; items = λ e. refl };
        tries = record { tried = refl; found = refl };
      }

  -- another actor is absorbed
  module _ (b : ℕ) (t : Actor) (can : Can s a r (absorb b t)) (n o : Knowledge) (mine : Knows v n) (its : Knows (shown_to s b t) o) where
    abbrev y : View
    y = shown_to s b t

    abbrev z : View
    z = shown_to (after s a r (absorb b t)) a (more_seen t r)

    now_both : slice_get (after s a r (absorb b t)).actors a ≡ Some (more_seen t r)
    now_both = set_else (set s.actors a (more_seen t r)) b a (ended t) (λ e. can.0 (sym e)) ∙ set_there s.actors a (more_seen t r) r there

    later_both : Later v z
    later_both = later_own s k a r there going (absorb b t) can (more_seen t r) now_both

    either : (x y : Bool) → cond x true y ≡ (x || y)
    either true y = refl
    either false y = refl

    -- the longer one of two logs that were seen
    module _ (seen : List LogEvent) (mine_is : Grows n.seen seen) (its_is : Grows o.seen seen) (one : (seen ≡ n.seen) ⊎ (seen ≡ o.seen)) where
      abbrev both : Knowledge
      both = blended seen b t.own n o

      told_both : IsTrue (cond n.told true o.told) → IsTrue z.told
      told_both e =
          let P : Bool → Type 0 = λ x. n.told ≡ x → IsTrue (cond x true o.told) → IsTrue z.told in
          (elim n.told as P [ true ↦ λ is _. later_both.told (mine.told is) | false ↦ λ _ e. its.told e ]) refl e

      more_told : IsTrue n.told → IsTrue (cond n.told true o.told)
      more_told e = ap (λ x. cond x true o.told) e

      knows_both : Knows z (blended seen b t.own n o)
      knows_both = record {
        seen = elim one [ inl e ↦ subst (λ l. Grows l z.seen) (sym e) mine.seen | inr e ↦ subst (λ l. Grows l z.seen) (sym e) its.seen ];
        few = elim one [
          | inl e ↦ omega (arith, ap (λ l. length (updates_of l)) e, mine.few)
          | inr e ↦ omega (arith, ap (λ l. length (updates_of l)) e, its.few)
        ];
        told = told_both;
        pages = all_named z o.pages n.pages (same_shown o.pages its.pages) (still_named v z later_both n.pages mine.pages);
        first = more_named o.pages n.pages 0 mine.first;
        least = omega (arith, mine.least, its.least);
        allotted = mine.allotted;
        given = mine.given;
      }
        where
          same_shown : (names : List Named) → AllByRecursion (IsShown y) names → AllByRecursion (IsShown z) names
          same_shown [] h = tt
          same_shown (x ∷ names) h = (record { named = h.0.named; level = h.0.level; low = h.0.low }, same_shown names h.1)

      learns_both : Learns n (blended seen b t.own n o)
      learns_both = record {
        seen = mine_is;
        told = more_told;
        pages = more_named o.pages n.pages;
        least = omega arith;
        allotted = omega arith;
        given = omega arith;
      }

      pub absorbs_by : Absorbs (view_by n v) (view_by o y) (view_by (blended seen b t.own n o) z)
      absorbs_by = record {
        later = later_by v z n both mine knows_both learns_both later_both;
        others_log = its_is;
        seen = one;
        update = record { own = refl; shard = refl; records = refl; reserved = refl };
        leaf = record { leaf = refl; wanted = refl };
        sweep = record { sweep = refl; swept = refl };
        split = record { splitting = refl; mark = refl; whole = refl; copies = refl; copied = refl };
        pin = refl;
        floor = refl;
        fresh = refl;
        owes = refl;
        undone = either r.undone t.undone;
        early = either r.early t.early;
        told = either n.told o.told;
        lacked = either r.lacked t.lacked;
        pages = record {
          named = λ p e. first_named o.pages n.pages p e;
          level = λ p e. sym (known z (o.pages ++ n.pages) knows_both.pages p (first_named o.pages n.pages p e)).1 ∙ (known y o.pages its.pages p e).1;
          low = λ p e. sym (known z (o.pages ++ n.pages) knows_both.pages p (first_named o.pages n.pages p e)).2 ∙ (known y o.pages its.pages p e).2;
          least = omega arith;
        };
        note = record { allotted = refl; holder = refl; pins = refl; given = refl; retired = refl; passed = refl; root = refl; height = refl };
        page = record { page = refl; high = refl; items = λ e. refl };
        tries = record { tried = refl; found = refl };
        absorbed = refl;
        forked = refl;
      }

-- The parts of a view that sections leave as they were, as one has them who knows a part of what all share.
use Rattle.std.proofs.Common.{◌≡◌, List, Bool, refl, sym, ◌∙◌}
use Rattle.mi_world.specs.View.{SameActors, SameApart, SameBoard, SameFlags, SameLeaf, SameOwn, SamePage, SameSplit, SameSweep, SameTry, SameUpdate, SameWork, SeesBoard, View}
use Rattle.mi_core.specs.Named.{Named}
use Rattle.mi_hall.specs.Knowledge.{Knowledge, Knows, noting, reading, seeing, view_by}
use Rattle.mi_hall.proofs.KnowledgeLemmas.{known}

-- what is the actor's own
module _ (v w : View) (n m : Knowledge) where
  pub update_by : SameUpdate v w → SameUpdate (view_by n v) (view_by m w)
  update_by x = record { own = x.own; shard = x.shard; records = x.records; reserved = x.reserved }

  pub leaf_by : SameLeaf v w → SameLeaf (view_by n v) (view_by m w)
  leaf_by x = record { leaf = x.leaf; wanted = x.wanted }

  pub sweep_by : SameSweep v w → SameSweep (view_by n v) (view_by m w)
  sweep_by x = record { sweep = x.sweep; swept = x.swept }

  pub split_by : SameSplit v w → SameSplit (view_by n v) (view_by m w)
  split_by x = record { splitting = x.splitting; mark = x.mark; whole = x.whole; copies = x.copies; copied = x.copied }

  pub flags_by : SameFlags v w → SameFlags (view_by n v) (view_by m w)
  flags_by x = record { undone = x.undone; early = x.early }

-- no actor is absorbed or made, no page noted, no shard tried
pub record Quiet (n m : Knowledge) : Type 0 where
  pub absorbed : m.absorbed ≡ n.absorbed
  pub forked : m.forked ≡ n.forked
  pub found : m.found ≡ n.found

module _ (v w : View) (n m : Knowledge) (q : Quiet n m) where
  pub actors_by : SameActors (view_by n v) (view_by m w)
  actors_by = record { absorbed = q.absorbed; forked = q.forked }

  pub apart_by : SameApart v w → SameApart (view_by n v) (view_by m w)
  apart_by x = record { sweep = sweep_by v w n m x.sweep; split = split_by v w n m x.split; flags = flags_by v w n m x.flags; actors = actors_by; pin = x.pin }

  pub work_by : SameWork v w → SameWork (view_by n v) (view_by m w)
  work_by x = record { update = update_by v w n m x.update; leaf = leaf_by v w n m x.leaf; apart = apart_by x.apart }

  pub own_by : SameOwn v w → SameOwn (view_by n v) (view_by m w)
  own_by x = record { work = work_by x.work; fresh = x.fresh; owes = x.owes }

  pub tries_by : SameTry v w → SameTry (view_by n v) (view_by m w)
  tries_by x = record { tried = x.tried; found = q.found }

-- a section of the board: it is seen, and no page is noted
module _ (v w : View) (n : Knowledge) (told : Bool) (names : List Named) where
  pub quiet_seeing : Quiet n (seeing w told names n)
  quiet_seeing = record { absorbed = refl; forked = refl; found = refl }

  pub page_seeing : SamePage v w → SamePage (view_by n v) (view_by (seeing w told names n) w)
  page_seeing x = record { page = x.page; high = refl; items = λ e. refl }

-- a section of a page: the board is as it was known
module _ (v w : View) (n : Knowledge) (names : List Named) where
  pub quiet_reading : Quiet n (reading w names n)
  quiet_reading = record { absorbed = refl; forked = refl; found = refl }

  pub board_reading : SameBoard v w → SameBoard (view_by n v) (view_by (reading w names n) w)
  board_reading x = record {
    seen = refl;
    lacked = x.lacked;
    told = refl;
    note = record { allotted = refl; holder = refl; pins = refl; given = refl; retired = refl; passed = refl; root = refl; height = refl };
  }

-- who has noted the board as it is sees it
pub sees_by : (w : View) (n : Knowledge) → Knows w (noting w n) → SeesBoard w → SeesBoard (view_by (noting w n) w)
sees_by w n k b =
    let f = known w n.pages k.pages 0 k.first in
    record {
      limits = b.limits;
      legal = b.legal;
      guards = b.guards;
      few = b.few;
      all = λ e. b.all (k.told e);
      passed = b.passed;
      holds = b.holds;
      alone = b.alone;
      pin = b.pin;
      there = b.there;
      wanted = b.wanted;
      read = b.read;
      given = b.given;
      retired = b.retired;
      first = record { named = k.first; level_is = sym f.1 ∙ b.first.level_is; low_is = sym f.2 ∙ b.first.low_is };
    }

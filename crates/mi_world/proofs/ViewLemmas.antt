-- Views from section to section.
use Rattle.std.proofs.Common.{◌≡◌, ℕ, ◌≤◌, List, Option, length, refl, ap, ◌∙◌, arith, length-append}
use Rattle.std.specs.Prelude.{ℤ}
use Rattle.mi_base.specs.Configuration.{Configuration}
use Rattle.mi_base.specs.History.{updates_of}
use Rattle.mi_base.specs.Permutations.{key_distance}
use Rattle.mi_base.proofs.HistoryLemmas.{updates_of-append}
use Rattle.mi_key.specs.Keys.{key_of}
use Rattle.mi_world.specs.LeafKeys.{key_under}
use Rattle.mi_tree.proofs.GrowingLemmas.{grows_none, grows_on}
use Rattle.mi_key.specs.declared.ranges.Interval.{Interval}
use Rattle.mi_world.specs.declared.answers.Record.{Record}
use Rattle.mi_world.specs.View.{View, Later, Others, SameApart, SameSplit, SameUpdate, SameWork, prefix_or}
use Rattle.mi_world.specs.Pages.{IsChildAt, IsInLeaf, MayDelete, MayInsert, MaySeek, insert_key, next_number}
use Rattle.mi_world.specs.Splits.{IsGathered}

-- what was learned stays true, whatever sections come
pub later_none : (v : View) → Later v v
later_none v = record {
  settings = refl;
  actor = refl;
  grows = grows_none v.seen;
  few = λ h. h;
  lacked = λ h. h;
  told = λ h. h;
  named = λ p h. h;
  level = λ p h. refl;
  low = λ p h. refl;
  least = omega arith;
  tells_full = refl;
  allotted = omega arith;
  given = omega arith;
}

pub later_later : (u v w : View) → Later u v → Later v w → Later u w
later_later u v w a b = record {
  settings = b.settings ∙ a.settings;
  actor = b.actor ∙ a.actor;
  grows = grows_on u.seen v.seen w.seen a.grows b.grows;
  few = λ h. b.few (a.few h);
  lacked = λ h. b.lacked (a.lacked h);
  told = λ h. b.told (a.told h);
  named = λ p h. b.named p (a.named p h);
  level = λ p h. b.level p (a.named p h) ∙ a.level p h;
  low = λ p h. b.low p (a.named p h) ∙ a.low p h;
  least = omega (arith, a.least, b.least);
  tells_full = b.tells_full ∙ a.tells_full;
  allotted = omega (arith, a.allotted, b.allotted);
  given = omega (arith, a.given, b.given);
}

-- others' sections one after another
pub others_none : (v : View) → Others v v
others_none v = record {
  later = later_none v;
  same = record {
    work = record {
      update = record { own = refl; shard = refl; records = refl; reserved = refl };
      leaf = record { leaf = refl; wanted = refl };
      apart = record {
        sweep = record { sweep = refl; swept = refl };
        split = record { splitting = refl; mark = refl; whole = refl; copies = refl; copied = refl };
        flags = record { undone = refl; early = refl };
        actors = record { absorbed = refl; forked = refl };
        pin = refl;
      };
    };
    fresh = refl;
    owes = refl;
  };
  floor = refl;
}

update_on : (u v w : View) → SameUpdate u v → SameUpdate v w → SameUpdate u w
update_on u v w a b = record { own = b.own ∙ a.own; shard = b.shard ∙ a.shard; records = b.records ∙ a.records; reserved = b.reserved ∙ a.reserved }

split_on : (u v w : View) → SameSplit u v → SameSplit v w → SameSplit u w
split_on u v w a b = record {
  splitting = b.splitting ∙ a.splitting;
  mark = b.mark ∙ a.mark;
  whole = b.whole ∙ a.whole;
  copies = b.copies ∙ a.copies;
  copied = b.copied ∙ a.copied;
}

apart_on : (u v w : View) → SameApart u v → SameApart v w → SameApart u w
apart_on u v w a b = record {
  sweep = record { sweep = b.sweep.sweep ∙ a.sweep.sweep; swept = b.sweep.swept ∙ a.sweep.swept };
  split = split_on u v w a.split b.split;
  flags = record { undone = b.flags.undone ∙ a.flags.undone; early = b.flags.early ∙ a.flags.early };
  actors = record { absorbed = b.actors.absorbed ∙ a.actors.absorbed; forked = b.actors.forked ∙ a.actors.forked };
  pin = b.pin ∙ a.pin;
}

pub work_on : (u v w : View) → SameWork u v → SameWork v w → SameWork u w
work_on u v w a b = record {
  update = update_on u v w a.update b.update;
  leaf = record { leaf = b.leaf.leaf ∙ a.leaf.leaf; wanted = b.leaf.wanted ∙ a.leaf.wanted };
  apart = apart_on u v w a.apart b.apart;
}

pub others_on : (u v w : View) → Others u v → Others v w → Others u w
others_on u v w a b = record {
  later = later_later u v w a.later b.later;
  same = record { work = work_on u v w a.same.work b.same.work; fresh = b.same.fresh ∙ a.same.fresh; owes = b.same.owes ∙ a.same.owes };
  floor = b.floor ∙ a.floor;
}

pub updates_grow : (v w : View) → Later v w → length (updates_of v.seen) ≤ length (updates_of w.seen)
updates_grow v w l = rw (l.grows.is, updates_of-append v.seen l.grows.by) (omega (arith, length-append (updates_of v.seen) (updates_of l.grows.by)))

-- a later birth is a greater key
pub key_rises : (c : Configuration) (p : List ℕ) (d i m n : ℕ) → m ≤ n → key_under c p d i m ≤ key_under c p d i n
unfolding key_of
key_rises c p d i m n h = omega (arith, h)

-- where an insert may seek it may still
pub may_seek_keeps : (v w : View) (page : ℕ) (dists : List ℕ) (id : ℕ) → Later v w → w.leaf ≡ v.leaf → MaySeek v page dists id → MaySeek w page dists id
may_seek_keeps v w page dists id l e h = record {
  named = l.named page h.named;
  above = λ a. rw (l.low page h.named, l.settings, e) (h.above (rw (l.level page h.named) at a));
  at_leaf = λ a.
      let k : v.low page ≤ insert_key v dists id (next_number v) = h.at_leaf (rw (l.level page h.named) at a) in
      let more : next_number v ≤ next_number w = omega (arith, updates_grow v w l) in
      rw (l.low page h.named, l.settings, e) (omega (arith, k, key_rises v.settings (prefix_or v.leaf) (key_distance dists) id (next_number v) (next_number w) more));
}

-- what others leave as it is of what the calls need

pub may_insert_stays : (v w : View) (id : ℕ) (vector : List ℤ) (dists : List ℕ) → Others v w → MayInsert v id vector dists → MayInsert w id vector dists
may_insert_stays v w id vector dists o h = record {
  shard = o.same.work.update.shard ∙ h.shard;
  absent = ap (λ (f : ℕ → Option Record). f id) o.same.work.update.records ∙ h.absent;
  reserved = o.same.work.update.reserved ∙ h.reserved;
  leaf = rw o.same.work.leaf.leaf h.leaf;
  unsplit = o.same.work.apart.split.splitting ∙ h.unsplit;
  fits = rw o.later.settings h.fits;
  measured = rw o.later.settings h.measured;
}

pub may_delete_stays : (v w : View) (id : ℕ) → Others v w → MayDelete v id → MayDelete w id
may_delete_stays v w id o h = record {
  shard = o.same.work.update.shard ∙ h.shard;
  kept = h.kept;
  is = ap (λ (f : ℕ → Option Record). f id) o.same.work.update.records ∙ h.is;
  reserved = o.same.work.update.reserved ∙ h.reserved;
  leaf = rw o.same.work.leaf.leaf h.leaf;
  unsplit = o.same.work.apart.split.splitting ∙ h.unsplit;
}

pub child_keeps : (v w : View) (level key child : ℕ) → Later v w → IsChildAt v level key child → IsChildAt w level key child
child_keeps v w level key child l h = record {
  named = l.named child h.named;
  level_is = rw (l.level child h.named) h.level_is;
  low_is = l.low child h.named ∙ h.low_is;
  later_key = h.later_key;
}

pub in_leaf_stays : (v w : View) (range : Interval) → Others v w → IsInLeaf v range → IsInLeaf w range
in_leaf_stays v w range o h = record {
  prefix = h.prefix;
  is_leaf = rw (o.later.settings, o.same.work.apart.pin) h.is_leaf;
  inside = rw o.later.settings h.inside;
}

pub is_gathered_stays : (v w : View) → Others v w → IsGathered v → IsGathered w
is_gathered_stays v w o h = record {
  leaf = h.leaf;
  leaf_is = o.same.work.leaf.leaf ∙ h.leaf_is;
  wanted = o.same.work.leaf.wanted ∙ h.wanted;
  splitting = o.same.work.apart.split.splitting ∙ h.splitting;
  whole = o.same.work.apart.split.whole ∙ h.whole;
}

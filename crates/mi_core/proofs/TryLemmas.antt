-- A first insert and a delete of it: what calls need can be met.
use Rattle.std.proofs.Common.{ℤ, pos, List, [], ◌∷◌, None, refl, arith}
use Rattle.std.specs.Prelude.{slice_index_or}
use Rattle.mi_base.specs.Configuration.{Configuration}
use Rattle.mi_key.specs.declared.entries.Entry.{Entry}
use Rattle.mi_core.specs.Effects.{put_entry}
use Rattle.mi_core.specs.Law.{Here, Reaches, Step, small_settings}
use Rattle.mi_page.specs.Nodes.{fresh_node}
use Rattle.mi_entries.specs.Entries.{key_in, grid}
use Rattle.mi_core.specs.Events.{Can, after, first_actor, opened}
use Rattle.mi_core.specs.Events.Event.{claim_shard, reserve, claim_leaf, insert, delete}
use Rattle.mi_entries.specs.Actors.{Actor}
use Rattle.mi_entries.specs.Records.{Rows, shard_at, no_shard}
use Rattle.mi_core.specs.State.{State}

abbrev c : Configuration
c = small_settings

abbrev me : State → Actor
me s = slice_index_or s.actors 0 first_actor

abbrev s0 : State
s0 = opened c 1 3

abbrev s1 : State
s1 = after s0 0 first_actor (claim_shard 7 no_shard.rows)

can_claim : Can s0 0 first_actor (claim_shard 7 no_shard.rows)
can_claim = (omega arith, refl, refl, refl)

abbrev held : Rows
held = record { records = []; room = 0 }

can_reserve : Can s1 0 (me s1) (reserve 7 held 1)
can_reserve = (refl, refl, omega arith, omega arith)

abbrev s2 : State
s2 = after s1 0 (me s1) (reserve 7 held 1)

can_leaf : Can s2 0 (me s2) (claim_leaf [])
can_leaf = record { free = record { claim = refl; sweep = refl }; leaf = refl; unclaimed = refl }

abbrev s3 : State
s3 = after s2 0 (me s2) (claim_leaf [])

abbrev its : List ℤ
its = pos 0 ∷ pos 0 ∷ []

abbrev e : Entry
e = record { key = key_in (grid c) [] (record { id = 7; vector = its; birth = 1 }); vector = its; dists = record { items = [] }; birth = 1; death = None }

abbrev room : Rows
room = record { records = []; room = 1 }

can_insert : Can s3 0 (me s3) (insert 1 7 0 fresh_node room e)
can_insert = record {
  leaf = [];
  may = record {
    shard = refl;
    here = refl;
    kept_is = refl;
    whole = refl;
    claim = refl;
    under = refl;
    few = omega arith;
    page_is = record { there = refl; level = refl };
    inside = record { from_low = omega arith; below_high = refl };
  };
  new = record { small = omega arith; fits = refl; birth = refl; dists = refl; death = refl; key = refl };
  absent = refl;
  calm = refl;
  space = omega arith;
}

abbrev s4 : State
s4 = after s3 0 (me s3) (insert 1 7 0 fresh_node room e)

-- to delete it, its actor reserves again
abbrev full : Rows
full = (shard_at s4.shards 7).rows

can_again : Can s4 0 (me s4) (reserve 7 full 2)
can_again = (refl, refl, omega arith, omega arith)

abbrev s5 : State
s5 = after s4 0 (me s4) (reserve 7 full 2)

can_delete : Can s5 0 (me s5) (delete 2 7 0 (put_entry 0 e fresh_node) (shard_at s5.shards 7).rows e.key)
can_delete = record {
  leaf = [];
  has = record { id = 7; birth = 1; dists = [] };
  found = refl;
  may = record {
    shard = refl;
    here = refl;
    kept_is = refl;
    whole = refl;
    claim = refl;
    under = refl;
    few = omega arith;
    page_is = record { there = refl; level = refl };
    inside = record { from_low = omega arith; below_high = refl };
  };
  key_is = refl;
}

abbrev pub s6 : State
s6 = after s5 0 (me s5) (delete 2 7 0 (put_entry 0 e fresh_node) (shard_at s5.shards 7).rows e.key)

-- all of these events, one after another
pub came_and_went : Reaches s0 s6
came_and_went =
    Step s5 s6 0 (Step s4 s5 0 (Step s3 s4 0 (Step s2 s3 0 (Step s1 s2 0 (Step s0 s1 0 Here
    (record { actor = first_actor; there = refl; going = refl; event = claim_shard 7 no_shard.rows; can = can_claim; is = refl }))
    (record { actor = me s1; there = refl; going = refl; event = reserve 7 held 1; can = can_reserve; is = refl }))
    (record { actor = me s2; there = refl; going = refl; event = claim_leaf []; can = can_leaf; is = refl }))
    (record { actor = me s3; there = refl; going = refl; event = insert 1 7 0 fresh_node room e; can = can_insert; is = refl }))
    (record { actor = me s4; there = refl; going = refl; event = reserve 7 full 2; can = can_again; is = refl }))
    (record { actor = me s5; there = refl; going = refl; event = delete 2 7 0 (put_entry 0 e fresh_node) (shard_at s5.shards 7).rows e.key; can = can_delete; is = refl })

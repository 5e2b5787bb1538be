use Rattle.std.proofs.Common.{◌≡◌, ◌≤◌, ◌+◌, ◌∙◌, ap, sym, subst, arith, rules, filter, hash_map_len, length, is_some, List, Option}
use Rattle.std.specs.HashMap.{spare}
use Rattle.std.proofs.lemmas.Fn.{filter_same}
use Rattle.mi_entries.specs.Records.{ShardRecord}
use Rattle.mi_shard.specs.Places.{present}
use Rattle.mi_shard.proofs.PlaceLemmas.{AreSingle, closed, closed_length}
use Rattle.mi_shard.proofs.rows.close_gaps.Goals as goal

pub find_places-requires-clause-single : goal.find_places-requires-clause-single
find_places-requires-clause-single c =
    let kept : c.retain.new.self.items ≡ filter is_some c.args.rows.now.items = filter_same _ (λ (r : Option ShardRecord). is_some r) _ (λ x b f' k. search rules) c.args.rows.now.items c.retain.new.self.items c.retain.ensures.filtered in
    subst AreSingle (sym (ap present (c.deref.ensures.value ∙ kept) ∙ closed c.args.rows.now.items)) c.requires.single

pub find_places-requires-clause-room : goal.find_places-requires-clause-room
find_places-requires-clause-room c =
    let kept : c.retain.new.self.items ≡ filter is_some c.args.rows.now.items = filter_same _ (λ (r : Option ShardRecord). is_some r) _ (λ x b f' k. search rules) c.args.rows.now.items c.retain.new.self.items c.retain.ensures.filtered in
    subst (λ (xs : List ShardRecord). length xs ≤ hash_map_len c.args.places.now + spare c.args.places.now) (sym (ap present (c.deref.ensures.value ∙ kept) ∙ closed c.args.rows.now.items)) c.requires.room

pub returns-clause-records : goal.returns-clause-records
returns-clause-records c =
    let kept : c.retain.new.self.items ≡ filter is_some c.args.rows.now.items = filter_same _ (λ (r : Option ShardRecord). is_some r) _ (λ x b f' k. search rules) c.args.rows.now.items c.retain.new.self.items c.retain.ensures.filtered in
    ap present kept ∙ closed c.args.rows.now.items

pub returns-clause-closed : goal.returns-clause-closed
returns-clause-closed c =
    let kept : c.retain.new.self.items ≡ filter is_some c.args.rows.now.items = filter_same _ (λ (r : Option ShardRecord). is_some r) _ (λ x b f' k. search rules) c.args.rows.now.items c.retain.new.self.items c.retain.ensures.filtered in
    let long : length c.retain.new.self.items ≡ length (present c.args.rows.now.items) = ap length kept ∙ closed_length c.args.rows.now.items in
    omega arith

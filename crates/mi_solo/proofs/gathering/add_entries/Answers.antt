use Rattle.std.proofs.Common.{◌≡◌, ◌≤◌, ◌+◌, ◌-◌, ◌++◌, [], ◌∷◌, ◌∙◌, cond, length, take, true, false, ap, sym, subst, arith, length-append, Vec, Global, append_assoc, append-nil}
use Rattle.std.specs.List.{filter}
use Rattle.std.specs.Vec.{vec_capacity}
use Rattle.mi_key.specs.declared.entries.Entry.{Entry}
use Rattle.mi_page.specs.Nodes.{item_count}
use Rattle.mi_solo.specs.WorkRows.{is_gathered}
use Rattle.mi_solo.proofs.GatherSections.{filter_one, one_more}
use Rattle.mi_solo.proofs.gathering.add_entries.Goals as goal
use Rattle.mi_solo.proofs.gathering.add_entries.Goals.{then-is_gathered, else-is_gathered}

pub loop-place-preserved : goal.loop-place-preserved
loop-place-preserved c =
    let t = is_gathered c.args.keys.now c.args.mark in
    let entries = c.args.page.now.entries in
    let old = c.args.gathered.now.items in
    let i = c.loop-place.place in
    let e = c.entry-entry.result.now in
    let step : filter t (take (i + 1) entries) ≡ filter t (take i entries) ++ cond (t e) (e ∷ []) [] = ap (filter t) (one_more entries i e c.entry-entry.ensures) ∙ filter_one t (take i entries) e in
    elim c.if-is_gathered.branch [
      | then-is_gathered w ↦
          let passes : t e ≡ true = sym c.is_gathered.ensures ∙ w.if-is_gathered.true in
          let items : w.push_reserved.new.self.items ≡ c.loop-place.gathered.items ++ e ∷ [] = w.push_reserved.ensures.items ∙ ap (λ x. c.loop-place.gathered.items ++ x ∷ []) w.copy_entry.ensures in
          record {
            kept = ap (λ v. v.items) w.gathered-is ∙ items ∙ ap (λ xs. xs ++ e ∷ []) c.loop-place.invariant.kept ∙ append_assoc old (filter t (take i entries)) (e ∷ [])
                ∙ ap (λ b. old ++ (filter t (take i entries) ++ cond b (e ∷ []) [])) (sym passes) ∙ ap (λ xs. old ++ xs) (sym step);
            room = subst (λ (v : Vec Entry Global). length v.items + (item_count c.args.page.now - (i + 1)) ≤ vec_capacity v) (sym w.gathered-is)
                (let size : length w.push_reserved.new.self.items ≡ length c.loop-place.gathered.items + 1 = ap length items ∙ length-append c.loop-place.gathered.items (e ∷ []) in
                let room = c.loop-place.invariant.room in let few = c.loop-place-test.true in let end = c.len-place-end.ensures.count in let same = w.push_reserved.ensures.capacity in omega arith);
          }
      | else-is_gathered w ↦
          let passes : t e ≡ false = sym c.is_gathered.ensures ∙ w.if-is_gathered.false in
          record {
            kept = ap (λ v. v.items) w.gathered-is ∙ c.loop-place.invariant.kept ∙ ap (λ xs. old ++ xs) (sym (append-nil (filter t (take i entries))))
                ∙ ap (λ b. old ++ (filter t (take i entries) ++ cond b (e ∷ []) [])) (sym passes) ∙ ap (λ xs. old ++ xs) (sym step);
            room = subst (λ (v : Vec Entry Global). length v.items + (item_count c.args.page.now - (i + 1)) ≤ vec_capacity v) (sym w.gathered-is) (let room = c.loop-place.invariant.room in omega arith);
          }
    ]

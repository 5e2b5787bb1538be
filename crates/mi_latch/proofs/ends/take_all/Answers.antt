use Rattle.std.proofs.Common.{◌≡◌, ◌≢◌, ℕ, ◌<◌, Bool, false, List, [], ◌∷◌, ◌++◌, length, get_or, set, ap, subst, arith, ◌∙◌, length-append, get_or-set_same, get_or-set_other}
use mathlib.Core.Logic.{dite}
use mathlib.Core.Option.{some}
use native.Mathlib.Decide.{ℕ_discrete}
use lib.ListN.{get_elem?}
use Rattle.std.specs.Mem.Slots.{slots_counts, slots_filled, slots_items, slots_len}
use Rattle.mi_latch.specs.declared.slots.Slot.{Slot}
use Rattle.mi_latch.proofs.Parting.{take_more}
use Rattle.mi_latch.proofs.ends.take_all.Goals as goal

pub loop-slot-preserved : goal.loop-slot-preserved
loop-slot-preserved c =
    let row = c.loop-slot.closed.slots in
    let slot : ℕ = c.loop-slot.slot in
    let i = c.loop-slot.invariant in
    let o = c.take.ensures.others in
    let value : Slot = c.take.result in
    let near : slot < slots_len row = (let t = c.loop-slot-test.true in omega (arith, t, c.slot_count.ensures)) in
    let wide : slot < length (slots_filled row) = (let n = (slots_counts row).1 in omega (arith, n, near)) in
    let apart : (k : ℕ) → k ≢ slot → get_or (slots_filled c.take.new.self.slots) k false ≡ get_or (slots_filled row) k false = λ k ne. ap (λ (fs : List Bool). get_or fs k false) o.1 ∙ get_or-set_other (slots_filled row) slot k false false ne in
    let items : c.push_reserved.new.self.items ≡ c.loop-slot.values.items ++ value ∷ [] = c.push_reserved.ensures.items in
    let here : get_elem? (slots_items c.args.closed.slots) slot ≡ some value = subst (λ (xs : List Slot). get_elem? xs slot ≡ some value) i.same c.take.ensures.value in
    record {
      full = λ k low high. apart k (λ e. absurd (omega (arith, e, low))) ∙ i.full k (omega (arith, low)) (omega (arith, high, o.2));
      taken = λ k h. dite (ℕ_discrete k slot)
          (λ e. ap (λ (fs : List Bool). get_or fs k false) o.1 ∙ ap (λ (m : ℕ). get_or (set (slots_filled row) slot false) m false) e ∙ get_or-set_same (slots_filled row) slot false false wide)
          (λ ne. apart k ne ∙ i.taken k (omega (arith, h, ne)));
      items = items ∙ ap (λ (l : List Slot). l ++ value ∷ []) i.items ∙ take_more (slots_items c.args.closed.slots) slot value here;
      count = (let n = ap length items in let m = length-append c.loop-slot.values.items (value ∷ []) in let z = i.count in omega (arith, n, m, z));
      same = o.0 ∙ i.same;
      long = o.2 ∙ i.long;
      room = c.push_reserved.ensures.capacity ∙ i.room;
      within = omega (arith, near, o.2);
    }

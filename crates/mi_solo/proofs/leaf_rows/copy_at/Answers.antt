use Rattle.std.proofs.Common.{◌≡◌, ◌<◌, ◌∙◌, List, length, ap, arith, refl, subst, sym}
use Rattle.std.specs.Prelude.{is_some, slice_index_or}
use Rattle.std.specs.List.{AllByRecursion}
use Rattle.std.proofs.lemmas.Bool.{false≢true, lt-ltb}
use Rattle.std.proofs.lemmas.List.Elements.{All-from_recursion, All-get_or}
use Rattle.std.proofs.lemmas.Option.{none-some, same_Some, slice_get_read}
use Rattle.mi_key.specs.declared.entries.Entry.{Entry}
use Rattle.mi_solo.specs.declared.rows.SplitRow.{SplitRow}
use Rattle.mi_solo.specs.Seeking.{IsCopied}
use Rattle.mi_solo.specs.States.{split_of}
use Rattle.mi_solo.specs.WorkRows.{work_of}
use Rattle.mi_solo.specs.LeafRows.{gathered_of}
use Rattle.mi_solo.proofs.leaf_rows.copy_at.Goals as goal

pub unreachable-requires : goal.unreachable-requires
unreachable-requires c = let h = c.requires.splitting in none-some h.work (sym c.in_default.is ∙ h.is)

pub unreachable-requires-in_default-get : goal.unreachable-requires-in_default-get
unreachable-requires-in_default-get c =
    let place = c.requires.place in
    let low : c.args.place < length c.as_slice.result.now = omega (arith, place, ap (λ o. length (gathered_of (split_of o))) c.in-Some.is, ap length c.as_slice.ensures.value) in
    false≢true (sym (ap is_some c.in_default-get.is) ∙ c.get.ensures.lookup.0 ∙ lt-ltb c.args.place (length c.as_slice.result.now) low)

pub copy_in_child-requires-clause-above : goal.copy_in_child-requires-clause-above
copy_in_child-requires-clause-above c =
    let h = c.requires.splitting in
    subst (λ (w : SplitRow). length w.leaf < c.args.settings.now.levels) (same_Some h.work c.in-Some.work (sym h.is ∙ c.in-Some.is)) h.above

pub copy_in_child-requires-clause-copied : goal.copy_in_child-requires-clause-copied
copy_in_child-requires-clause-copied c =
    let h = c.requires.splitting in
    let place = c.requires.place in
    let e = c.in-Some-get.entry.now in
    let items = c.in-Some.work.gathered.items in
    let P : Entry → Type 0 = IsCopied c.args.settings.now c.in-Some.work.leaf in
    let all = subst (λ (w : SplitRow). AllByRecursion (IsCopied c.args.settings.now w.leaf) w.gathered.items) (same_Some h.work c.in-Some.work (sym h.is ∙ c.in-Some.is)) h.each in
    let low : c.args.place < length items = omega (arith, place, ap (λ o. length (gathered_of (split_of o))) c.in-Some.is) in
    let read : e ≡ slice_index_or items c.args.place e = c.in-Some-get.ensures.lookup.1 ∙ ap (λ (l : List Entry). slice_index_or l c.args.place e) c.as_slice.ensures.value in
    subst P (sym read) (All-get_or P items c.args.place e low (All-from_recursion P items all))

pub returns : goal.returns
returns c =
    let place = c.requires.place in
    let e = c.in-Some-get.entry.now in
    let items = c.in-Some.work.gathered.items in
    let low : c.args.place < length items = omega (arith, place, ap (λ o. length (gathered_of (split_of o))) c.in-Some.is) in
    let read : e ≡ slice_index_or items c.args.place e = c.in-Some-get.ensures.lookup.1 ∙ ap (λ (l : List Entry). slice_index_or l c.args.place e) c.as_slice.ensures.value in
    record {
      work = work_of c.in-Some.work;
      split = ap split_of c.in-Some.is;
      old = e;
      there = slice_get_read items (length items) c.args.place e refl low read;
      is = c.copy_in_child.ensures;
    }

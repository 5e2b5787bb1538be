-- Copies and a publish keep what is shown.
use Rattle.std.proofs.Common.{◌≡◌, ◌≢◌, ℕ, ℤ, ◌+◌, ◌<◌, ◌≤◌, List, [], ◌∷◌, ◌++◌, map, length, take, Bool, true, false, not, ◌&&◌, nat_le, refl, sym, ap, ◌∙◌, subst, arith}
use Rattle.std.specs.List.{AllByRecursion, filter}
use Rattle.std.proofs.lemmas.Bool.{and_parts, lt-ltb}
use Rattle.mi_base.specs.declared.records.LogEvent.{LogEvent}
use Rattle.mi_base.specs.declared.records.LogEvent.TheVariants.{Split}
use Rattle.mi_base.specs.History.{updates_of}
use Rattle.mi_base.specs.Permutations.{begins}
use Rattle.mi_base.specs.Sorting.{put, SameElements}
use Rattle.mi_base.proofs.SortingLemmas.{same_sym, same_trans, same_map, same_filter, filter_keeps}
use Rattle.mi_key.specs.declared.entries.Entry.{Entry}
use Rattle.mi_page.specs.Entries.{entry_cmp, is_shown, outlives}
use Rattle.mi_tree.specs.Cells.{Grid, AllMaySplit, depth}
use Rattle.mi_tree.proofs.LegalLemmas.{updates_of_split}
use Rattle.mi_tree.specs.Births.{Born, born}
use Rattle.mi_entries.specs.Entries.{Shows, born_in, counts, is_ahead, is_down, is_placed, is_under, key_down}
use Rattle.mi_entries.proofs.FilterLemmas.{same_is, same_append, same_parts, all_passes, put_out, and_no}
use Rattle.std.proofs.lemmas.List.{map-append}
use Rattle.mi_tree.proofs.ListLemmas.{filter_same, filter_twice, filter_all, all_weaker, all_any, all_map, filter_map, map_same, map_twice}
use Rattle.mi_entries.proofs.DepthLemmas.{IsKeyed, depth_take, not_down, depth_not_under, depth_under}
use Rattle.mi_entries.proofs.ChildLemmas.{child_entry}

abbrev pub shown : Grid → List LogEvent → List Entry → List Entry
shown g log entries = filter (counts g log) entries

swap : (a b : Bool) → ((a && b) && true) ≡ ((b && true) && a)
swap true true = refl
swap true false = refl
swap false true = refl
swap false false = refl

both_no : (a b c : Bool) → (a && false) ≡ ((b && false) && c)
both_no a b c = and_no a false refl ∙ sym (rw (and_no b false refl) refl)

-- a copy counts at no position
pub copy_shows : (g : Grid) → IsKeyed g → (log : List LogEvent) → AllMaySplit g log → (entries : List Entry) (e : Entry) → depth g log (g.perm e.vector) < g.levels → born_in (child_entry g log e) ≡ born_in e
    → (k : ℕ) → Shows g (take k log) entries → Shows g (take k log) (put entry_cmp (child_entry g log e) entries)
copy_shows g ok log legal entries e above same k s =
    let perm = g.perm e.vector in
    let c = child_entry g log e in
    let le : depth g (take k log) perm ≤ depth g log perm = depth_take g log k perm in
    let apart : depth g log perm + 1 ≢ depth g (take k log) perm = omega arith in
    let out : counts g (take k log) c ≡ false =
    and_no _ _ (not_down g ok c (depth g log perm + 1) (depth g (take k log) perm) (ap (key_down g (depth g log perm + 1)) (sym same)) (omega arith) (omega arith) apart) in
    record { same = same_trans (same_map born_in _ _ (put_out entry_cmp (counts g (take k log)) c entries out)) s.same }

module _ (g : Grid) (log : List LogEvent) (p : List ℕ) (entries gathered : List Entry)
    (above : length p < g.levels)
    (leaf : (v : List ℤ) → begins p (g.perm v) ≡ true → depth g log (g.perm v) ≡ length p)
    (shows : Shows g log entries)
    (whole : gathered ≡ filter (is_under g p) (shown g log entries))
    (copies : SameElements (filter (λ e. is_ahead g log e && is_under g p e) entries) (map (child_entry g log) gathered))
    (same_born : AllByRecursion (λ e. born_in (child_entry g log e) ≡ born_in e) gathered) where
  pub same_updates : updates_of (log ++ Split p ∷ []) ≡ updates_of log
  same_updates = updates_of_split log p

  abbrev inside : Born → Bool
  inside o = begins p (g.perm o.vector)

  -- an entry under the leaf counts after the split where it is a copy that is shown
  test_in : (e : Entry) → (counts g (log ++ Split p ∷ []) e && is_under g p e) ≡ ((is_ahead g log e && is_under g p e) && is_shown (length (updates_of log)) e)
  test_in e =
      let P : Bool → Type 0 = λ b. is_under g p e ≡ b → (counts g (log ++ Split p ∷ []) e && b) ≡ ((is_ahead g log e && b) && is_shown (length (updates_of log)) e) in
      (elim (is_under g p e) as P [
        | true ↦ λ h. rw (same_updates, depth_under g log p (g.perm e.vector) h (leaf e.vector h), lt-ltb (depth g log (g.perm e.vector)) g.levels (let d = leaf e.vector h in omega arith)) (swap (is_shown (length (updates_of log)) e) (is_down g (depth g log (g.perm e.vector) + 1) e))
        | false ↦ λ h. both_no (counts g (log ++ Split p ∷ []) e) (is_ahead g log e) (is_shown (length (updates_of log)) e)
      ]) refl

  -- and any other where it counted before
  test_out : (e : Entry) → (counts g (log ++ Split p ∷ []) e && not (is_under g p e)) ≡ (counts g log e && not (is_under g p e))
  test_out e =
      let P : Bool → Type 0 = λ b. is_under g p e ≡ b → (counts g (log ++ Split p ∷ []) e && not b) ≡ (counts g log e && not b) in
      (elim (is_under g p e) as P [
        | true ↦ λ h. and_no (counts g (log ++ Split p ∷ []) e) false refl ∙ sym (and_no (counts g log e) false refl)
        | false ↦ λ h. rw (same_updates, depth_not_under g log p (g.perm e.vector) h) refl
      ]) refl

  alone : (e : Entry) → counts g log e ≡ true → is_shown (length (updates_of log)) (child_entry g log e) ≡ true
  alone e t = rw (and_parts (nat_le e.birth (length (updates_of log))) (outlives e.death (length (updates_of log))) (and_parts (is_shown (length (updates_of log)) e) (is_placed g log e) t).0).0 refl

  all_shown : AllByRecursion (λ e. is_shown (length (updates_of log)) e ≡ true) (map (child_entry g log) gathered)
  all_shown =
      let Q : Entry → Type 0 = λ e. is_shown (length (updates_of log)) (child_entry g log e) ≡ true in
      all_map (child_entry g log) (λ e. is_shown (length (updates_of log)) e ≡ true) gathered
      (subst (AllByRecursion Q) (sym whole)
      (filter_keeps Q (is_under g p) (shown g log entries)
      (all_weaker (λ e. counts g log e ≡ true) Q (λ e t. alone e t) (shown g log entries) (all_passes (counts g log) entries))))

  shown_in : SameElements (filter (is_under g p) (shown g (log ++ Split p ∷ []) entries)) (map (child_entry g log) gathered)
  shown_in = same_trans (same_is _ _ (filter_twice (is_under g p) (counts g (log ++ Split p ∷ [])) entries
      ∙ filter_same _ _ entries (all_any _ test_in entries)
      ∙ sym (filter_twice (is_shown (length (updates_of log))) (λ e. is_ahead g log e && is_under g p e) entries)))
      (same_trans (same_filter (is_shown (length (updates_of log))) _ _ copies) (same_is _ _ (filter_all _ _ all_shown)))

  shown_out : filter (λ e. not (is_under g p e)) (shown g (log ++ Split p ∷ []) entries) ≡ filter (λ e. not (is_under g p e)) (shown g log entries)
  shown_out = filter_twice (λ e. not (is_under g p e)) (counts g (log ++ Split p ∷ [])) entries
      ∙ filter_same _ _ entries (all_any _ test_out entries)
      ∙ sym (filter_twice (λ e. not (is_under g p e)) (counts g log) entries)

  born_in_part : SameElements (map born_in (filter (is_under g p) (shown g (log ++ Split p ∷ []) entries))) (filter inside (born (updates_of log)))
  born_in_part = same_trans (same_map born_in _ _ shown_in)
      (same_trans (same_is _ _ (map_twice born_in (child_entry g log) gathered ∙ map_same _ born_in gathered same_born ∙ ap (map born_in) whole ∙ filter_map born_in inside (shown g log entries)))
      (same_filter inside _ _ shows.same))

  born_out_part : SameElements (map born_in (filter (λ e. not (is_under g p e)) (shown g (log ++ Split p ∷ []) entries))) (filter (λ o. not (inside o)) (born (updates_of log)))
  born_out_part = same_trans (same_is _ _ (ap (map born_in) shown_out ∙ filter_map born_in (λ o. not (inside o)) (shown g log entries)))
      (same_filter (λ o. not (inside o)) _ _ shows.same)

  -- the split of a leaf whose live entries were all copied keeps what is shown
  pub publish_shows : Shows g (log ++ Split p ∷ []) entries
  publish_shows = record {
    same = rw same_updates
        (same_trans (same_map born_in _ _ (same_sym (same_parts (is_under g p) (shown g (log ++ Split p ∷ []) entries))))
        (same_trans (same_is _ _ (map-append born_in _ _))
        (same_trans (same_append born_in_part born_out_part) (same_parts inside (born (updates_of log))))));
  }

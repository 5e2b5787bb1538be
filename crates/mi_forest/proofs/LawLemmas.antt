-- What is in a page is in all pages, for keys of its range.
use Rattle.std.proofs.Common.{◌≡◌, ℕ, List, [], ◌∷◌, true, ◌&&◌, ◌||◌, nat_eq, refl, sym, ap, ◌∙◌, subst}
use Rattle.std.specs.Prelude.{is_none}
use Rattle.std.proofs.lemmas.Bool.{eqb-true, and_parts}
use Rattle.std.specs.List.{list_any}
use Rattle.mi_base.specs.Prefixes.{has}
use Rattle.mi_key.specs.declared.entries.Entry.{Entry}
use Rattle.mi_page.specs.Keys.{IsInside}
use Rattle.mi_page.specs.Entries.{has_entry, has_living}
use Rattle.mi_forest.specs.Forests.{Forest, IsForest, IsLinked, all_entries}
use Rattle.mi_forest.proofs.EventLemmas.{there_or_not}
use Rattle.mi_forest.proofs.PathLemmas.{same_page}

-- a key is among the keys of a list where an entry of it has the key
has_any : (key : ℕ) (es : List Entry) → has_entry key es ≡ list_any (λ e. nat_eq e.key key) es
has_any key [] = refl
has_any key (e ∷ es) = ap (λ b. nat_eq e.key key || b) (has_any key es)

pub has_here : (f : Forest) → IsForest f → (n : ℕ) → IsLinked f n → (f.node n).level ≡ 0 → (key : ℕ) → IsInside (f.node n).low (f.node n).high key → has_entry key (all_entries f) ≡ has_entry key (f.node n).entries
has_here f h n l leaf key i = has_any key (all_entries f) ∙ there_or_not f f h n l leaf key i (λ e. nat_eq e.key key) (λ e t. eqb-true e.key key t) ∙ sym (has_any key (f.node n).entries)

pub lives_here : (f : Forest) → IsForest f → (n : ℕ) → IsLinked f n → (f.node n).level ≡ 0 → (key : ℕ) → IsInside (f.node n).low (f.node n).high key → has_living key (all_entries f) ≡ has_living key (f.node n).entries
lives_here f h n l leaf key i = there_or_not f f h n l leaf key i (λ e. nat_eq e.key key && is_none e.death) (λ e t. eqb-true e.key key (and_parts (nat_eq e.key key) (is_none e.death) t).0)

-- two pages of a level that have a key in their ranges are one
pub one_page : (f : Forest) → IsForest f → (m n key : ℕ) → IsLinked f m → IsLinked f n → (f.node m).level ≡ (f.node n).level
    → IsInside (f.node m).low (f.node m).high key → IsInside (f.node n).low (f.node n).high key → m ≡ n
one_page f h m n key l k e i j =
    same_page f.node (f.node n).level (f.chain (f.node n).level) (h.chains (f.node n).level) m n key (subst (λ (v : ℕ). has m (f.chain v) ≡ true) e l) k i j

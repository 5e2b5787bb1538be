-- What the commit of an insert owes to the board, the page and the shard, and what it makes of the state.
use Rattle.std.proofs.Common.{◌≡◌, ◌≢◌, ℕ, ℤ, ◌<◌, ◌≤◌, ◌==◌, List, [], ◌∷◌, ◌++◌, length, Bool, false, cond, refl, sym, ap, ◌∙◌, subst, arith, Err, append-nil, eq-eqb}
use Rattle.std.proofs.lemmas.Bool.{false≢true, ne_eqb}
use Rattle.std.proofs.lemmas.List.{length-map}
use Rattle.std.proofs.lemmas.List.Elements.{filter-append}
use Rattle.std.specs.List.{filter}
use Rattle.mi_base.specs.declared.records.LogEvent.{LogEvent}
use Rattle.mi_base.specs.declared.records.LogEvent.TheVariants.{Update as Made}
use Rattle.mi_base.specs.declared.records.Update.{Update}
use Rattle.mi_base.specs.Configuration.{Configuration, space_of}
use Rattle.mi_base.specs.History.{Entered, entered}
use Rattle.mi_base.specs.Permutations.{distances, permutation_of}
use Rattle.mi_base.proofs.HistoryLemmas.{entered-append}
use Rattle.mi_board.proofs.CrowdLemmas.{crowded_one}
use Rattle.mi_board.specs.Boards.{BoardState, Commits, HasRoom, cells_in, crowded_at}
use Rattle.mi_core.specs.Actors.{made_by}
use Rattle.mi_core.specs.Effects.{trim_leaf, trim_node}
use Rattle.mi_entries.specs.Entries.{grid}
use Rattle.mi_page.specs.Entries.{entry_keys}
use Rattle.mi_page.specs.Nodes.{IsNode, Node, item_count}
use Rattle.mi_tree.specs.declared.answers.CommitRefusal.{CommitRefusal}
use Rattle.mi_tree.specs.declared.answers.CommitRefusal.TheVariants.{Full, Crowded}
use Rattle.mi_tree.specs.declared.outcomes.Leaf.{Leaf}
use Rattle.mi_tree.specs.Catalog.{CatalogState}
use Rattle.mi_tree.specs.Counting.{is_crowded, leaves_beginning}

-- whether the leaf of a vector is crowded is what its leaf says
pub crowd_is : (b : BoardState) (vector : List ℤ) (dists perm : List ℕ) → perm ≡ permutation_of dists → dists ≡ distances (space_of b.settings) vector → (k : CatalogState) → k ≡ cells_in b.settings b.log
    → (leaf : Leaf) → leaves_beginning perm k.leaves ≡ leaf ∷ [] → (x : Configuration) → x ≡ b.settings → (r : Bool) → r ≡ is_crowded x.levels x.cell leaf → crowded_at b ((grid b.settings).perm vector) ≡ r
crowd_is b vector dists perm is measured k cells leaf one x same r told =
    ap (crowded_at b) (sym (is ∙ ap permutation_of measured))
    ∙ crowded_one perm b.settings.levels b.settings.cell (cells_in b.settings b.log).leaves leaf (subst (λ (k : CatalogState). leaves_beginning perm k.leaves ≡ leaf ∷ []) cells one)
    ∙ ap (λ (x : Configuration). is_crowded x.levels x.cell leaf) (sym same) ∙ sym told

-- a commit that may not be refused isn't
pub commits_well : (b : BoardState) (a op : ℕ) (u : Update) (crowded : Bool) (why : CommitRefusal) (new : BoardState) → Commits b a op u crowded (Err why) new → HasRoom b → crowded ≡ false → ⊥
commits_well b a op u crowded (Full limit) new told room calm = (let e = told.0.0 in let f = told.0.1 in absurd (omega arith))
commits_well b a op u crowded Crowded new told room calm = false≢true (sym calm ∙ told.1.0)

-- a leaf page with other than 32 items has fewer entries
pub few_entries : (n : Node) → IsNode n → n.level ≡ 0 → item_count n ≢ 32 → length n.entries < 32
few_entries n h leaf other =
    let none : length n.routes ≡ 0 = ap length (h.leaf leaf) in
    let count : length (entry_keys n.entries) ≡ length n.entries = simp length-map in
    let few : length (entry_keys n.entries) ≤ 32 = h.entries.few in
    omega arith

pub trims_leaf : (floor : ℕ) (n : Node) → n.level ≡ 0 → trim_leaf floor n ≡ trim_node floor n
trims_leaf floor n leaf = ap (λ l. cond (l == 0) (trim_node floor n) n) leaf

-- an update more in the log is its maker's, and no other's
pub made_more : (log : List LogEvent) (a op : ℕ) (u : Update) (t : ℕ) → made_by t (log ++ Made a op u ∷ []) ≡ made_by t log ++ cond (a == t) (record { session = a; op = op; update = u } ∷ []) []
made_more log a op u t = ap (filter (λ (m : Entered). m.session == t)) (entered-append log (Made a op u ∷ [])) ∙ filter-append (λ (m : Entered). m.session == t) (entered log) (record { session = a; op = op; update = u } ∷ [])

pub made_mine : (log : List LogEvent) (a op : ℕ) (u : Update) → made_by a (log ++ Made a op u ∷ []) ≡ made_by a log ++ record { session = a; op = op; update = u } ∷ []
made_mine log a op u = made_more log a op u a ∙ ap (λ b. made_by a log ++ cond b (record { session = a; op = op; update = u } ∷ []) []) (eq-eqb a a refl)

pub made_others : (log : List LogEvent) (a op : ℕ) (u : Update) (m : ℕ) → m ≢ a → made_by m (log ++ Made a op u ∷ []) ≡ made_by m log
made_others log a op u m apart = made_more log a op u m ∙ ap (λ z. made_by m log ++ cond z (record { session = a; op = op; update = u } ∷ []) []) (ne_eqb a m (λ one. apart (sym one))) ∙ append-nil (made_by m log)

-- What an insert may rely on of what is in hand.
use Rattle.std.proofs.Common.{◌≡◌, ℕ, ℤ, ◌<◌, ◌≤◌, ◌^◌, List, length, true, false, sym, ap, ◌∙◌, subst, Option, Some}
use Rattle.mi_base.specs.Configuration.{space_of}
use Rattle.mi_base.specs.Permutations.{distances, key_distance, permutation_of}
use Rattle.mi_base.specs.Prefixes.{all_below}
use Rattle.mi_board.specs.Boards as board
use Rattle.mi_board.specs.Boards.{BoardState, HasRoom, MayCommit, crowded_at}
use Rattle.mi_core.specs.Effects.{trim_leaf}
use Rattle.mi_core.specs.Events.{CanInsert}
use Rattle.mi_core.specs.Pages.{node_or_fresh}
use Rattle.mi_core.specs.State.{State}
use Rattle.mi_entries.specs.Actors.{Actor}
use Rattle.mi_entries.specs.Entries.{grid}
use Rattle.mi_entries.specs.Records.{Rows, home}
use Rattle.mi_key.specs.declared.entries.Entry.{Entry}
use Rattle.mi_page.specs.Entries.{has_entry, without_dead}
use Rattle.mi_page.specs.Nodes.{Node, item_count}
use Rattle.mi_solo.specs.declared.rows.ActorRow.{ActorRow}
use Rattle.mi_solo.specs.Seeking.{EndsAfter, HasSibling}
use Rattle.mi_solo.specs.Viewing.{shown_to}
use Rattle.mi_solo.proofs.CanLemmas.{can_insert, insert_absent, insert_board, insert_commits}
use Rattle.mi_solo.proofs.DescentLemmas.{has_sibling}
use Rattle.mi_solo.proofs.KeyLemmas.{claim_fits, insert_fits}
use Rattle.mi_solo.proofs.RouteLaws.{full_kept}
use Rattle.mi_world.specs.LeafKeys.{key_under}
use Rattle.mi_world.specs.Pages.{MayInsert, insert_key, next_number}
use Rattle.mi_world.specs.View.{View, prefix_or}
use Rattle.mi_solo.specs.CommitRows.{IsMade, MayEnter, key_in_row, next_birth}

module _ (a page id : ℕ) (vector : List ℤ) (dists : List ℕ) (b : BoardState) (n : Node) (rows : Rows) (row : ActorRow) (m : MayEnter a page id vector dists b n rows row) where
  abbrev s : State
  s = m.hand.state

  abbrev r : Actor
  r = m.hand.part

  abbrev v : View
  v = shown_to m.hand.state a m.hand.part

  -- what the state's board has, the board in hand has
  on : (P : BoardState → Type 0) → P m.hand.state.board → P b
  on P h = subst P m.hand.board_is h

  claim_is : m.hand.part.claim ≡ row.claim
  claim_is = ap (λ (z : Actor). z.claim) m.hand.row_is

  floor_is : row.floor.updates ≡ m.hand.part.floor.updates
  floor_is = ap (λ (z : Actor). z.floor.updates) (sym m.hand.row_is)

  pub enter_commits : MayCommit b a (permutation_of dists)
  enter_commits = on (λ z. MayCommit z a (permutation_of dists)) (insert_commits s m.hand.kept a r m.hand.there id vector dists m.may)

  pub enter_object : board.MayInsert b id vector (permutation_of dists) (key_distance dists)
  enter_object = on (λ z. board.MayInsert z id vector (permutation_of dists) (key_distance dists)) (insert_board s m.hand.kept a r m.hand.there id vector dists m.may)

  pub enter_measured : dists ≡ distances (space_of b.settings) vector
  enter_measured = on (λ z. dists ≡ distances (space_of z.settings) vector) m.may.measured

  pub enter_room : length rows.records < rows.room
  enter_room = subst (λ (x : Rows). length x.records < x.room) m.hand.rows_are (((m.hand.kept.sound.each a r m.hand.there).holds.room (home id) m.may.shard m.may.reserved).1)

  pub enter_sibling : HasSibling n
  enter_sibling = has_sibling s m.hand.kept page n m.hand.page_is

  pub enter_fits : (p : List ℕ) → row.claim ≡ Some p → (length p ≤ b.settings.levels) × (all_below (length b.settings.pivots) p ≡ true)
  enter_fits p e = on (λ z. (length p ≤ z.settings.levels) × (all_below (length z.settings.pivots) p ≡ true)) (claim_fits s m.hand.kept a r m.hand.there p (claim_is ∙ e))

  pub enter_small : (key_distance dists < 2 ^ 27) × (next_birth b < 2 ^ 30)
  enter_small = on (λ z. (key_distance dists < 2 ^ 27) × (next_birth z < 2 ^ 30)) (insert_fits s m.hand.kept a r m.hand.there id vector dists m.may)

  pub enter_whole : item_count (trim_leaf row.floor.updates n) ≡ 32 → trim_leaf row.floor.updates n ≡ n
  enter_whole = full_kept s m.hand.kept page n m.hand.page_is row.floor.updates

  -- the key under the claimed leaf, as the view of the state has it
  key_shown : (ds : List ℕ) (birth : ℕ) → insert_key (shown_to m.hand.state a m.hand.part) ds id birth ≡ key_in_row b.settings row ds id birth
  key_shown ds birth = ap (λ (z : BoardState). key_under z.settings (prefix_or r.claim) (key_distance ds) id birth) m.hand.board_is
      ∙ ap (λ (o : Option (List ℕ)). key_under b.settings (prefix_or o) (key_distance ds) id birth) claim_is

  next_is : next_number (shown_to m.hand.state a m.hand.part) ≡ next_birth b
  next_is = ap next_birth m.hand.board_is

  module _ (key : ℕ) (is_key : key ≡ key_in_row b.settings row dists id (next_birth b)) (e : Entry) (made : IsMade key (next_birth b) vector dists e) (ends : EndsAfter n 0 key)
      (room : HasRoom b) (calm : crowded_at b ((grid b.settings).perm vector) ≡ false) (space : length (without_dead row.floor.updates n.entries) < 32) where
    same_key : insert_key (shown_to m.hand.state a m.hand.part) e.dists.items id (next_number (shown_to m.hand.state a m.hand.part)) ≡ key
    same_key = ap (λ ds. insert_key v ds id (next_number v)) made.dists_are ∙ key_shown dists (next_number v) ∙ ap (key_in_row b.settings row dists id) next_is ∙ sym is_key

    birth_is : e.birth ≡ next_number (shown_to m.hand.state a m.hand.part)
    birth_is = made.birth_is ∙ sym next_is

    its_may : MayInsert (shown_to m.hand.state a m.hand.part) id e.vector e.dists.items
    its_may = subst (λ x. MayInsert v id x e.dists.items) (sym made.vector_is) (subst (MayInsert v id vector) (sym made.dists_are) m.may)

    low : v.low page ≤ key
    low = subst (λ (o : Option Node). (node_or_fresh o).low ≤ key) (sym m.hand.page_is) (subst (λ k. n.low ≤ k) (sym is_key) m.low)

    pub may_enter : CanInsert m.hand.state m.hand.part id page n rows e
    may_enter = subst (λ (x : Rows). CanInsert s r id page n x e) m.hand.rows_are (can_insert s m.hand.kept a r m.hand.there page n m.hand.page_is id e its_may m.small birth_is made.death_is
        (made.key_is ∙ sym same_key ∙ ap (insert_key v e.dists.items id) (sym birth_is))
        (subst (λ k. v.low page ≤ k) (sym same_key) low)
        (subst (EndsAfter n 0) (sym same_key) ends)
        (subst HasRoom (sym m.hand.board_is) room)
        (subst (λ (z : BoardState). crowded_at z ((grid z.settings).perm e.vector) ≡ false) (sym m.hand.board_is) (subst (λ x. crowded_at b ((grid b.settings).perm x) ≡ false) (sym made.vector_is) calm))
        (subst (λ f. length (without_dead f n.entries) < 32) floor_is space))

    pub none_there : has_entry e.key (without_dead row.floor.updates n.entries) ≡ false
    none_there = insert_absent s m.hand.kept a r m.hand.there page n m.hand.page_is id rows e may_enter row.floor.updates

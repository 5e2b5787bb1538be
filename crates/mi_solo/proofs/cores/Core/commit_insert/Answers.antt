use Rattle.std.proofs.Common.{◌≡◌, ◌∙◌, ◌<◌, ◌≤◌, ◌%◌, IsTrue, Some, ap, arith, get_or, length, refl, set, subst, sym}
use Rattle.std.specs.Prelude.{IsSome}
use Rattle.mi_base.specs.Configuration.{Configuration}
use Rattle.mi_base.specs.Permutations.{permutation_of}
use Rattle.mi_base.specs.Prefixes.{all_below}
use Rattle.mi_entries.specs.Actors.{Actor}
use Rattle.mi_entries.specs.Records.{Rows, Shard, held_by, home, no_shard, shard_at}
use Rattle.mi_page.specs.Routes.{IsChild}
use Rattle.mi_world.specs.Pages.{insert_key, next_number}
use Rattle.mi_solo.specs.CommitRows.{InsertsRow, key_in_row, next_birth}
use Rattle.mi_solo.specs.PageRows.{OnlyNotes}
use Rattle.mi_solo.specs.Seeking.{PointsDown}
use Rattle.mi_solo.specs.States.{actor_in, actor_of, state_of, view_in}
use Rattle.mi_solo.specs.Viewing.{shown_to}
use Rattle.mi_solo.proofs.CommitEvents.{held_leaf}
use Rattle.mi_solo.proofs.CoreLemmas.{comes_to, read_is, row_is, suits, there}
use Rattle.mi_solo.proofs.DescentLemmas.{shows_page}
use Rattle.mi_solo.proofs.InsertTurns.{commits_at, inserts_stay}
use Rattle.mi_solo.proofs.KeyLemmas.{claim_fits, insert_fits}
use Rattle.mi_solo.proofs.PageLemmas.{page_here}
use Rattle.mi_solo.proofs.PageTurns.{on_page}
use Rattle.mi_solo.proofs.cores.Core.commit_insert.Goals as goal

pub key_of_row-key-requires-clause-claim : goal.key_of_row-key-requires-clause-claim
key_of_row-key-requires-clause-claim c =
    let s = c.args.self.now in
    let a = c.args.actor in
    let r = actor_in (state_of s) a in
    let row = c.index_mut-me.result.now in
    let its = row_is s a c.requires.going.known row c.index_mut-me.ensures.value in
    let held = held_leaf (permutation_of c.args.dists.now.items) r.claim c.requires.ready.leaf in
    subst IsSome (sym (sym (ap (λ (z : Actor). z.claim) its) ∙ held.1)) refl

pub key_of_row-key-requires-clause-depth : goal.key_of_row-key-requires-clause-depth
key_of_row-key-requires-clause-depth c p h =
    let s = c.args.self.now in
    let a = c.args.actor in
    let r = actor_in (state_of s) a in
    let row = c.index_mut-me.result.now in
    let its = row_is s a c.requires.going.known row c.index_mut-me.ensures.value in
    subst (λ (x : Configuration). length p ≤ x.levels) (sym c.settings.ensures) (claim_fits (state_of s) c.requires.kept a r (there s a c.requires.going.known) p (ap (λ (z : Actor). z.claim) its ∙ h)).0

pub key_of_row-key-requires-clause-pivots : goal.key_of_row-key-requires-clause-pivots
key_of_row-key-requires-clause-pivots c p h =
    let s = c.args.self.now in
    let a = c.args.actor in
    let r = actor_in (state_of s) a in
    let row = c.index_mut-me.result.now in
    let its = row_is s a c.requires.going.known row c.index_mut-me.ensures.value in
    subst (λ (x : Configuration). IsTrue (all_below (length x.pivots) p)) (sym c.settings.ensures) (claim_fits (state_of s) c.requires.kept a r (there s a c.requires.going.known) p (ap (λ (z : Actor). z.claim) its ∙ h)).1

pub key_of_row-key-requires-clause-distance : goal.key_of_row-key-requires-clause-distance
key_of_row-key-requires-clause-distance c =
    let s = c.args.self.now in
    (insert_fits (state_of s) c.requires.kept c.args.actor (actor_in (state_of s) c.args.actor) (there s c.args.actor c.requires.going.known) c.args.id c.args.vector.now c.args.dists.now.items c.requires.ready).0

pub child-requires-clause-from_low : goal.child-requires-clause-from_low
child-requires-clause-from_low c =
    let s = c.args.self.now in
    let a = c.args.actor in
    let r = actor_in (state_of s) a in
    let row = c.index_mut-me.result.now in
    let its = row_is s a c.requires.going.known row c.index_mut-me.ensures.value in
    let shows = shows_page (state_of s) a r c.args.page c.in-Some.node (page_here s c.args.page c.requires.seeks.named c.index_mut.result.now c.index_mut.ensures.value c.in-Some.node c.in-Some.is) in
    let low = c.requires.seeks.above (omega (arith, shows.level, c.level.ensures, c.if-level-gt0.true)) in
    let key : c.key_of_row-key.result ≡ insert_key (view_in (state_of s) a) c.args.dists.now.items c.args.id 0 =
    c.key_of_row-key.ensures ∙ ap (λ (x : Configuration). key_in_row x row c.args.dists.now.items c.args.id 0) c.settings.ensures
    ∙ ap (λ (q : Actor). insert_key (shown_to (state_of s) a q) c.args.dists.now.items c.args.id 0) (sym its) in
    omega (arith, low, key, shows.low)

pub returns-then-level-gt0 : goal.returns-then-level-gt0
returns-then-level-gt0 c =
    let s = c.args.self.now in
    let row = c.index_mut-me.result.now in
    let key : c.key_of_row-key.result ≡ key_in_row s.board.settings row c.args.dists.now.items c.args.id 0 =
    c.key_of_row-key.ensures ∙ ap (λ (x : Configuration). key_in_row x row c.args.dists.now.items c.args.id 0) c.settings.ensures in
    on_page s c.args.actor c.requires.going.known row c.index_mut-me.ensures.value c.args.page c.requires.seeks.named c.index_mut.result.now c.index_mut.ensures.value c.in-Some.node c.in-Some.is
    (λ n q new made. PointsDown n 0 (key_in_row s.board.settings q c.args.dists.now.items c.args.id 0) c.child.result × OnlyNotes c.args.page n q new made) c.in-Some.node c.note.new.self (
      record { above = omega (arith, c.level.ensures, c.if-level-gt0.true); route = subst (λ k. IsChild k c.in-Some.node.routes c.child.result) key c.child.ensures },
      record { same = refl; row_is = c.note.ensures },
    )

pub insert_row-requires : goal.insert_row-requires
insert_row-requires c =
    let s = c.args.self.now in
    let a = c.args.actor in
    let r = actor_in (state_of s) a in
    let row = c.index_mut-me.result.now in
    let its = row_is s a c.requires.going.known row c.index_mut-me.ensures.value in
    let n : c.get.result % 16 ≡ home c.args.id = ap home c.get.ensures.same in
    let low_shard : home c.args.id < length s.shards.items = let many = c.requires.kept.sound.sixteen in omega (arith, many, ((suits s a c.requires.going.known c.requires.kept).holds.shard (home c.args.id) c.requires.ready.shard).0) in
    let it : c.index_mut-shard.result.now ≡ shard_at s.shards.items (home c.args.id) =
    read_is s.shards.items (home c.args.id) no_shard c.index_mut-shard.result.now low_shard (subst (λ m. c.index_mut-shard.result.now ≡ get_or s.shards.items m c.index_mut-shard.result.now) n c.index_mut-shard.ensures.value) in
    let mine = c.shard.view_is ∙ it in
    let here = page_here s c.args.page c.requires.seeks.named c.index_mut.result.now c.index_mut.ensures.value c.in-Some.node c.in-Some.is in
    let shows = shows_page (state_of s) a r c.args.page c.in-Some.node here in
    let leaf : c.in-Some.node.level ≡ 0 = omega (arith, c.level.ensures, c.if-level-gt0.false) in
    let low = c.requires.seeks.at_leaf (shows.level ∙ leaf) in
    let key : insert_key (view_in (state_of s) a) c.args.dists.now.items c.args.id (next_number (view_in (state_of s) a)) ≡ key_in_row s.board.settings row c.args.dists.now.items c.args.id (next_birth s.board) =
    ap (λ (q : Actor). insert_key (shown_to (state_of s) a q) c.args.dists.now.items c.args.id (next_number (shown_to (state_of s) a q))) its in
    record {
      hand = record {
        state = state_of s;
        kept = c.requires.kept;
        part = r;
        there = there s a c.requires.going.known;
        row_is = its;
        board_is = refl;
        page_is = here;
        rows_are = sym (ap (λ (x : Shard). x.rows) mine);
      };
      small = omega (arith, c.get.ensures.small, c.get.ensures.same);
      may = c.requires.ready;
      leaf = leaf;
      low = omega (arith, low, key, shows.low);
    }

pub returns : goal.returns
returns c =
    let s = c.args.self.now in
    let a = c.args.actor in
    let r = actor_in (state_of s) a in
    let row = c.index_mut-me.result.now in
    let its = row_is s a c.requires.going.known row c.index_mut-me.ensures.value in
    let n : c.get.result % 16 ≡ home c.args.id = ap home c.get.ensures.same in
    let low_shard : home c.args.id < length s.shards.items = let many = c.requires.kept.sound.sixteen in omega (arith, many, ((suits s a c.requires.going.known c.requires.kept).holds.shard (home c.args.id) c.requires.ready.shard).0) in
    let it : c.index_mut-shard.result.now ≡ shard_at s.shards.items (home c.args.id) =
    read_is s.shards.items (home c.args.id) no_shard c.index_mut-shard.result.now low_shard (subst (λ m. c.index_mut-shard.result.now ≡ get_or s.shards.items m c.index_mut-shard.result.now) n c.index_mut-shard.ensures.value) in
    let mine = c.shard.view_is ∙ it in
    let op = c.args.op in
    let id = c.args.id in
    let vector = c.args.vector.now in
    let dists = c.args.dists.now.items in
    let page = c.args.page in
    let b = c.insert_row.new.board in
    let kept = c.insert_row.new.rows in
    let key = key_in_row s.board.settings row dists id (next_birth s.board) in
    let does = subst (λ (x : Rows). InsertsRow a page op id key vector dists c.insert_row.result s.board c.in-Some.node x row b c.insert_row.new.node kept c.insert_row.new.row) (ap (λ (x : Shard). x.rows) mine) c.insert_row.ensures in
    let stays = inserts_stay a page op id key vector dists s.board c.in-Some.node c.shard.inside.rows row b c.insert_row.new.node kept c.insert_row.new.row c.insert_row.result c.insert_row.ensures in
    commits_at (state_of s) a page op id vector dists c.insert_row.result _ (record {
      was = c.in-Some.node;
      row = row;
      board = b;
      new = c.insert_row.new.node;
      kept = kept;
      made = c.insert_row.new.row;
      there = page_here s c.args.page c.requires.seeks.named c.index_mut.result.now c.index_mut.ensures.value c.in-Some.node c.in-Some.is;
      row_is = there s a c.requires.going.known ∙ ap Some its;
      does = does;
      is = comes_to s a c.requires.going.known row c.index_mut-me.ensures.value b b refl stays.0 stays.1
          (set s.shards.items (c.get.result % 16) (record { holder = c.shard.inside.holder; rows = kept })) (set s.shards.items (home id) (held_by (shard_at s.shards.items (home id)).holder kept))
          (ap (λ m. let z : Shard = record { holder = c.shard.inside.holder; rows = kept } in set s.shards.items m z) n ∙ ap (λ (x : Shard). set s.shards.items (home id) (held_by x.holder kept)) mine)
          (set s.pages.items page (Some c.insert_row.new.node)) (set s.pages.items page (Some c.insert_row.new.node)) refl
          c.insert_row.new.row (λ (q : Actor). actor_of b.settings b.log a c.insert_row.new.row) refl;
    })

-- What a section of pages leaves of its actor's view.
use Rattle.std.proofs.Common.{◌≡◌, ℕ, List, Option, refl, ap, ◌∙◌}
use Rattle.mi_page.specs.Nodes.{Node}
use Rattle.mi_entries.specs.Actors.{Actor, Owed}
use Rattle.mi_entries.specs.Records.{shard_at}
use Rattle.mi_core.specs.State.{State}
use Rattle.mi_world.specs.View.{SameApart, SameBoard, SameLeaf, SameOwn, SameTry, SameUpdate, SameWork}
use Rattle.mi_solo.specs.Viewing.{another, given_in, leaf_wanted, records_in, shown_to}
use Rattle.mi_solo.proofs.SectionLemmas.{apart_by}

module _ (s t : State) (a : ℕ) (r q : Actor) where
  pub update_by : t.shards ≡ s.shards → q.own ≡ r.own → q.shard ≡ r.shard → q.reserved_here ≡ r.reserved_here → SameUpdate (shown_to s a r) (shown_to t a q)
  update_by shards own shard reserved = record {
    own = own;
    shard = shard;
    records = ap (λ l. records_in l q.shard) shards ∙ ap (records_in s.shards) shard;
    reserved = reserved;
  }

  pub leaf_by : t.board ≡ s.board → q.claim ≡ r.claim → SameLeaf (shown_to s a r) (shown_to t a q)
  leaf_by board claim = record { leaf = claim; wanted = ap (λ b. leaf_wanted b.settings b.log q.claim) board ∙ ap (leaf_wanted s.board.settings s.board.log) claim }

  pub board_by : t.board ≡ s.board → q.lacked ≡ r.lacked → SameBoard (shown_to s a r) (shown_to t a q)
  board_by board lacked = record {
    seen = ap (λ b. b.log) board;
    lacked = lacked;
    told = ap (λ b. (shown_to (record t { board = b }) a q).told) board;
    note = record {
      allotted = ap (λ b. b.allotted) board;
      holder = ap (λ b. (shown_to (record t { board = b }) a q).holder) board;
      pins = ap (λ b. (shown_to (record t { board = b }) a q).pins) board;
      given = ap given_in board;
      retired = ap (λ b. b.retired) board;
      passed = ap (λ b. (shown_to (record t { board = b }) a q).passed) board;
      root = ap (λ b. b.root) board;
      height = ap (λ b. b.height) board;
    };
  }

  pub tries_by : t.shards ≡ s.shards → q.tried ≡ r.tried → SameTry (shown_to s a r) (shown_to t a q)
  tries_by shards tried = record { tried = tried; found = ap (λ l. another a (shard_at l q.tried).holder) shards ∙ ap (λ n. another a (shard_at s.shards n).holder) tried }

-- other pages, and a record that differs in the page noted, the page in hand and the owed routes
module _ (s : State) (pages : List (Option Node)) (actors : List Actor) (a : ℕ) (r : Actor) (seen page : ℕ) (fresh : Option ℕ) (owed : List Owed) where
  abbrev t : State
  t = record { board = s.board; shards = s.shards; pages = pages; actors = actors }

  abbrev q : Actor
  q = record r { seen = seen; page = page; fresh = fresh; owed = owed }

  pub same_update : SameUpdate (shown_to s a r) (shown_to t a q)
  same_update = update_by s t a r q refl refl refl refl

  pub same_leaf : SameLeaf (shown_to s a r) (shown_to t a q)
  same_leaf = leaf_by s t a r q refl refl

  pub same_apart : SameApart (shown_to s a r) (shown_to t a q)
  same_apart = apart_by s t a r q refl refl refl refl refl refl

  pub same_work : SameWork (shown_to s a r) (shown_to t a q)
  same_work = record { update = same_update; leaf = same_leaf; apart = same_apart }

  pub same_board : SameBoard (shown_to s a r) (shown_to t a q)
  same_board = board_by s t a r q refl refl

  pub same_tries : SameTry (shown_to s a r) (shown_to t a q)
  same_tries = tries_by s t a r q refl refl

-- no other page in hand, and no other debt
pub same_own : (s : State) (pages : List (Option Node)) (actors : List Actor) (a : ℕ) (r : Actor) (page : ℕ)
    → SameOwn (shown_to s a r) (shown_to (record { board = s.board; shards = s.shards; pages = pages; actors = actors }) a (record r { page = page }))
same_own s pages actors a r page = record { work = same_work s pages actors a r r.seen page r.fresh r.owed; fresh = refl; owes = refl }

-- What the commit of an insert makes of a state, by its answer.
use Rattle.std.specs.Prelude.{ℕ, ℤ, List}
use Rattle.mi_core.specs.State.{State}
use Rattle.mi_entries.specs.Records.{home}
use Rattle.mi_world.specs.declared.answers.Commit.{Commit}
use Rattle.mi_world.specs.declared.answers.Commit.TheVariants as commit
use Rattle.mi_solo.specs.CommitRows.{InsertsRow, key_in_row, next_birth}
use Rattle.mi_solo.specs.OnHelds.{OnHeld}
use Rattle.mi_solo.specs.OnPages.{OnPage}
use Rattle.mi_solo.specs.PageRows.{OnlyNotes}
use Rattle.mi_solo.specs.Seeking.{PointsDown}

-- the way of the key goes on below; else the page is a leaf page, and the board decides
abbrev pub CommitsInsert : State → ℕ → ℕ → ℕ → ℕ → List ℤ → List ℕ → Commit → State → Type 0
CommitsInsert s a page op id vector dists (commit.Down p) t =
    OnPage s a page (λ n row new made. PointsDown n 0 (key_in_row s.board.settings row dists id 0) p × OnlyNotes page n row new made) t
CommitsInsert s a page op id vector dists answer t =
    OnHeld s a page (home id) (λ b n rows row board new kept made. InsertsRow a page op id (key_in_row b.settings row dists id (next_birth b)) vector dists answer b n rows row board new kept made) t

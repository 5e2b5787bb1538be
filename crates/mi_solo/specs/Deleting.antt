-- What the commit of a delete does, told by cases on what it answers.
use Rattle.std.specs.Prelude.{◌≡◌, ℕ}
use Rattle.mi_core.specs.Events.Event.{delete, refuse_at, visit}
use Rattle.mi_core.specs.Refusals.Refusal.{full}
use Rattle.mi_core.specs.State.{State}
use Rattle.mi_entries.specs.Records.{home}
use Rattle.mi_world.specs.declared.answers.Commit.{Commit}
use Rattle.mi_world.specs.declared.answers.Commit.TheVariants.{Down, Right, Full, Done}
use Rattle.mi_world.specs.Pages.{delete_key, next_number}
use Rattle.mi_solo.specs.Sections.{rows_at}
use Rattle.mi_solo.specs.Seeking.{EndsAfter, PointsDown, PointsRight}
use Rattle.mi_solo.specs.States.{Does, node_in, view_in}

-- what comes where the key lies in the page
abbrev pub EntersDelete : State → ℕ → ℕ → ℕ → ℕ → Commit → State → Type 0
EntersDelete s a page op id (Full limit) t = Does s a (refuse_at page full) t × (limit ≡ s.board.settings.updates)
EntersDelete s a page op id (Done number) t = Does s a (delete op id page (node_in s page) (rows_at s (home id)) (delete_key (view_in s a) id)) t × (number ≡ next_number (view_in s a))
EntersDelete s a page op id _ t = ⊥

-- Down, Right, Full, Done: each comes where none before it does
abbrev pub CommitsDelete : State → ℕ → ℕ → ℕ → ℕ → Commit → State → Type 0
CommitsDelete s a page op id (Down p) t = Does s a (visit page) t × PointsDown (node_in s page) 0 (delete_key (view_in s a) id) p
CommitsDelete s a page op id (Right p) t = Does s a (visit page) t × PointsRight (node_in s page) 0 (delete_key (view_in s a) id) p
CommitsDelete s a page op id answer t = EndsAfter (node_in s page) 0 (delete_key (view_in s a) id) × EntersDelete s a page op id answer t

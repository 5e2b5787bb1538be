-- When replies and a log are a legal outcome of scripts.
use Rattle.std.specs.Prelude.{◌≡◌, ℕ, zero, suc, ◌+◌, ◌<◌, ◌≤◌, ◌==◌, List, [], ◌∷◌, ◌++◌, length, Option, Some, None, MatchOption}
use Rattle.std.specs.List.{filter, AllByRecursion}
use Rattle.mi_base.specs.declared.records.Update.TheVariants as update
use Rattle.mi_base.specs.declared.records.LogEvent.{LogEvent}
use Rattle.mi_base.specs.declared.records.LogEvent.TheVariants as event
use Rattle.mi_base.specs.declared.records.Op.{Op}
use Rattle.mi_base.specs.declared.records.Op.TheVariants.{Insert, Delete, Range as OpRange, Nearest as OpNearest}
use Rattle.mi_base.specs.declared.records.Reply.{Reply}
use Rattle.mi_base.specs.declared.records.Reply.TheVariants.{Stored, Removed, Present, Absent, Full, NoPages, Memory, Range, Nearest}
use Rattle.mi_base.specs.Configuration.{Configuration}
use Rattle.mi_base.specs.History.{Entered, entered, events_at}
use Rattle.mi_tree.specs.Legal.{LegalLog}
use Rattle.mi_legal.specs.Right.{Right}

-- each operation has one reply, and it is right; op is the number of the first, and so many pages are allotted at the end
abbrev pub EachRight : Configuration → List LogEvent → ℕ → ℕ → ℕ → List Op → List Reply → Type 0
EachRight c log allotted session op [] [] = Unit {0}
EachRight c log allotted session op (o ∷ os) (y ∷ ys) = Right c log allotted session op o y × EachRight c log allotted session (op + 1) os ys
EachRight c log allotted session op [] (y ∷ ys) = ⊥
EachRight c log allotted session op (o ∷ os) [] = ⊥

-- the same for each script, from this session on
abbrev pub AllRight : Configuration → List LogEvent → ℕ → ℕ → List (List Op) → List (List Reply) → Type 0
AllRight c log allotted session [] [] = Unit {0}
AllRight c log allotted session (os ∷ scripts) (ys ∷ replies) = EachRight c log allotted session 1 os ys × AllRight c log allotted (session + 1) scripts replies
AllRight c log allotted session [] (ys ∷ replies) = ⊥
AllRight c log allotted session (os ∷ scripts) [] = ⊥

-- The update that an operation enters into the log where it is accepted. Each reply of an update stands here by name, so that one that is
-- added later can't enter an update unseen.
abbrev pub accepted_update : ℕ → ℕ → Op → Reply → List Entered
accepted_update session op (Insert id vector) (Stored n) = record { session = session; op = op; update = update.Insert id vector } ∷ []
accepted_update session op (Insert id vector) (Removed n) = []
accepted_update session op (Insert id vector) (Present p) = []
accepted_update session op (Insert id vector) (Absent p) = []
accepted_update session op (Insert id vector) (Full limit) = []
accepted_update session op (Insert id vector) (NoPages limit) = []
accepted_update session op (Insert id vector) Memory = []
accepted_update session op (Insert id vector) (Range p rows cells distances) = []
accepted_update session op (Insert id vector) (Nearest p rows cells) = []
accepted_update session op (Delete id) (Stored n) = []
accepted_update session op (Delete id) (Removed n) = record { session = session; op = op; update = update.Delete id } ∷ []
accepted_update session op (Delete id) (Present p) = []
accepted_update session op (Delete id) (Absent p) = []
accepted_update session op (Delete id) (Full limit) = []
accepted_update session op (Delete id) (NoPages limit) = []
accepted_update session op (Delete id) Memory = []
accepted_update session op (Delete id) (Range p rows cells distances) = []
accepted_update session op (Delete id) (Nearest p rows cells) = []
accepted_update session op (OpRange radius query) y = []
accepted_update session op (OpNearest count query) y = []

-- the accepted updates of a script in order, each once
abbrev pub accepted_in : ℕ → ℕ → List Op → List Reply → List Entered
accepted_in session op (o ∷ os) (y ∷ ys) = accepted_update session op o y ++ accepted_in session (op + 1) os ys
accepted_in session op os ys = []

-- the updates of the log that name a session, in order, are the accepted updates of its script
abbrev pub AllEntered : List LogEvent → ℕ → List (List Op) → List (List Reply) → Type 0
AllEntered log session [] replies = Unit {0}
AllEntered log session (os ∷ scripts) [] = ⊥
AllEntered log session (os ∷ scripts) (ys ∷ replies) =
    (filter (λ e. e.session == session) (entered log) ≡ accepted_in session 1 os ys) × AllEntered log (session + 1) scripts replies

-- how many events the log has up to update number n
abbrev pub events_to : ℕ → List LogEvent → ℕ
events_to zero log = 0
events_to (suc n) [] = 0
events_to (suc n) (event.Update session op u ∷ log) = 1 + events_to n log
events_to (suc n) (event.Split prefix ∷ log) = 1 + events_to (suc n) log

-- How many events the prefix of a reply's position has, where the reply has a position. Each reply stands here by name, since one that is left
-- out could fall behind earlier ones.
abbrev pub reach : List LogEvent → Reply → Option ℕ
reach log (Stored n) = Some (events_to n log)
reach log (Removed n) = Some (events_to n log)
reach log (Present p) = Some (events_at p)
reach log (Absent p) = Some (events_at p)
reach log (Full limit) = None
reach log (NoPages limit) = None
reach log Memory = None
reach log (Range p rows cells distances) = Some (events_at p)
reach log (Nearest p rows cells) = Some (events_at p)

-- no position falls behind an earlier one, nor behind so many events
abbrev pub NeverFalls : List LogEvent → ℕ → List Reply → Type 0
NeverFalls log from [] = Unit {0}
NeverFalls log from (y ∷ ys) = MatchOption (reach log y) (NeverFalls log from ys) (λ n. (from ≤ n) × NeverFalls log n ys)

-- Replies and a log that scripts may have, where so many pages are allotted at the end.
pub record Legal (c : Configuration) (scripts : List (List Op)) (replies : List (List Reply)) (log : List LogEvent) (allotted : ℕ) : Type 0 where
  -- the log is legal
  pub log_is : LegalLog c log
  -- each operation of each script has one reply, and it is right
  pub right : AllRight c log allotted 0 scripts replies
  -- the log's updates are a merge of the scripts' accepted ones
  pub entered_are : AllEntered log 0 scripts replies
  pub named : AllByRecursion (λ e. e.session < length scripts) (entered log)
  -- what a session has seen it sees from then on
  pub forward : AllByRecursion (NeverFalls log 0) replies

-- Two operations of a run: what the one has of the other.
use Rattle.std.proofs.Common.{◌≡◌, ℕ, zero, suc, ◌+◌, ◌<◌, ◌≤◌, List, [], ◌∷◌, ◌++◌, length, true, Option, Some, refl, sym, ap, ◌∙◌, subst, arith, rules, length-append}
use Rattle.std.specs.Prelude.{slice_get, MatchOption}
use Rattle.std.proofs.lemmas.Option.{slice_get_within}
use Rattle.mi_base.specs.declared.records.LogEvent.{LogEvent}
use Rattle.mi_base.specs.declared.records.LogEvent.TheVariants.{Update as Made, Split}
use Rattle.mi_base.specs.declared.records.Op.{Op}
use Rattle.mi_base.specs.declared.records.Op.TheVariants.{Insert, Delete}
use Rattle.mi_base.specs.declared.records.Reply.{Reply}
use Rattle.mi_base.specs.declared.records.Reply.TheVariants as reply
use Rattle.mi_base.specs.declared.records.Update.TheVariants as update
use Rattle.mi_base.specs.Configuration.{Configuration}
use Rattle.mi_base.specs.History.{updates_of}
use Rattle.mi_base.proofs.HistoryLemmas.{updates_of-append}
use Rattle.mi_core.specs.Events.{after}
use Rattle.mi_core.specs.Kept.{Kept}
use Rattle.mi_core.specs.State.{State}
use Rattle.mi_job.specs.Jobs.{is_query}
use Rattle.mi_legal.specs.Legal.{events_to, reach}
use Rattle.mi_legal.specs.Right.{Right}
use Rattle.mi_legal.proofs.GainedLemmas.{events_gained}
use Rattle.mi_legal.proofs.ReplyLemmas.{number_within, reach_grows}
use Rattle.mi_tree.specs.Growing.{Grows}
use Rattle.mi_tree.proofs.GrowingLemmas.{grows_length}
use Rattle.mi_update.specs.Stepping.{number_told}
use Rattle.mi_settle.specs.Turns.{Chained, Turn}
use Rattle.mi_settle.proofs.LaterLemmas.{Later, later_all, later_head, later_none, later_on}
use Rattle.mi_replay.specs.Operations.{EntersBetween, Operation, entry}

pub some_turn : (u v : Turn) → Some u ≡ Some v → u ≡ v
some_turn u v e = cc

module _ (t : State) where
  -- from the first state to a turn of the run, and from there to the last state
  pub later_before : (s : State) (turns : List Turn) (i : ℕ) (u : Turn) → Kept s → Chained s turns t → slice_get turns i ≡ Some u → Later s u.before
  later_before s [] i u k h at = absurd (omega (arith, slice_get_within ([]) i u at))
  later_before s (v ∷ us) zero u k h at = subst (λ (x : Turn). Later s x.before) (some_turn v u at) (subst (Later s) (sym h.0) (later_none s k))
  later_before s (v ∷ us) (suc i) u k h at =
      let l = later_head s v us t k h in
      later_on s v.after u.before l (later_before v.after us i u l.kept h.2 at)

  pub later_after : (s : State) (turns : List Turn) (i : ℕ) (u : Turn) → Kept s → Chained s turns t → slice_get turns i ≡ Some u → Later u.after t
  later_after s [] i u k h at = absurd (omega (arith, slice_get_within ([]) i u at))
  later_after s (v ∷ us) zero u k h at = subst (λ (x : Turn). Later x.after t) (some_turn v u at) (later_all v.after us t (later_head s v us t k h).kept h.2)
  later_after s (v ∷ us) (suc i) u k h at = later_after v.after us i u (later_head s v us t k h).kept h.2 at

  -- from a turn to a later one
  pub later_between : (s : State) (turns : List Turn) (i j : ℕ) (u v : Turn) → Kept s → Chained s turns t → slice_get turns i ≡ Some u → slice_get turns j ≡ Some v → i < j → Later u.after v.before
  later_between s [] i j u v k h at_u at_v lt = absurd (omega (arith, slice_get_within ([]) i u at_u))
  later_between s (w ∷ us) zero zero u v k h at_u at_v lt = absurd (omega (arith, lt))
  later_between s (w ∷ us) zero (suc j) u v k h at_u at_v lt =
      subst (λ (x : Turn). Later x.after v.before) (some_turn w u at_u) (later_before w.after us j v (later_head s w us t k h).kept h.2 at_v)
  later_between s (w ∷ us) (suc i) zero u v k h at_u at_v lt = absurd (omega (arith, lt))
  later_between s (w ∷ us) (suc i) (suc j) u v k h at_u at_v lt = later_between w.after us i j u v (later_head s w us t k h).kept h.2 at_u at_v (omega (arith, lt))

updates_grow : (old new : List LogEvent) → Grows old new → length (updates_of old) ≤ length (updates_of new)
updates_grow old new g = omega (arith, ap (λ l. length (updates_of l)) g.is, ap length (updates_of-append old g.by), length-append (updates_of old) (updates_of g.by))

some_number : (n m : ℕ) → Some n ≡ Some m → n ≡ m
some_number n m e = cc

number_of_right : (c : Configuration) (log : List LogEvent) (allotted k j : ℕ) (o : Op) (y : Reply) (n : ℕ) → Right c log allotted k j o y → number_told y ≡ Some n → n ≤ length (updates_of log)
number_of_right c log allotted k j (Insert id v) (reply.Stored m) n h is = omega (arith, some_number m n is, number_within log m _ h.0)
number_of_right c log allotted k j (Delete id) (reply.Removed m) n h is = omega (arith, some_number m n is, number_within log m _ h.0)
number_of_right c log allotted k j o (reply.Stored m) n h is = absurd h
number_of_right c log allotted k j o (reply.Removed m) n h is = absurd h
number_of_right c log allotted k j o y n h is = cc

-- an update's event is the one after the log that it found
entry_gains : (c : Configuration) (log : List LogEvent) (allotted k j : ℕ) (o : Op) (y : Reply) (n : ℕ) (old : List LogEvent) → Right c log allotted k j o y → number_told y ≡ Some n
    → n ≡ length (updates_of old) + 1 → (events_to n (old ++ entry k j o) ≡ length old + 1) × (n ≤ length (updates_of (old ++ entry k j o)))
entry_gains c log allotted k j (Insert id v) (reply.Stored m) n old h is e =
    (events_gained old n k j (update.Insert id v) e, omega (arith, e, ap length (updates_of-append old (entry k j (Insert id v))), length-append (updates_of old) (updates_of (entry k j (Insert id v)))))
entry_gains c log allotted k j (Delete id) (reply.Removed m) n old h is e =
    (events_gained old n k j (update.Delete id) e, omega (arith, e, ap length (updates_of-append old (entry k j (Delete id))), length-append (updates_of old) (updates_of (entry k j (Delete id)))))
entry_gains c log allotted k j o (reply.Stored m) n old h is e = absurd h
entry_gains c log allotted k j o (reply.Removed m) n old h is e = absurd h
entry_gains c log allotted k j o y n old h is e = cc

events_to_grows : (log more : List LogEvent) (n : ℕ) → n ≤ length (updates_of log) → events_to n (log ++ more) ≡ events_to n log
events_to_grows [] more zero h = refl
events_to_grows (e ∷ log) more zero h = refl
events_to_grows [] more (suc n) h = absurd (omega arith)
events_to_grows (Made session op u ∷ log) more (suc n) h = ap (λ m. 1 + m) (events_to_grows log more n (omega (arith, h)))
events_to_grows (Split p ∷ log) more (suc n) h = ap (λ m. 1 + m) (events_to_grows log more (suc n) h)

-- in the last log the event of an update is the one after the log that its turn found
events_of_entry : (c : Configuration) (log : List LogEvent) (allotted k j : ℕ) (o : Op) (y : Reply) (n : ℕ) (old new last : List LogEvent) → Right c log allotted k j o y → number_told y ≡ Some n
    → n ≡ length (updates_of old) + 1 → new ≡ old ++ entry k j o → Grows new last → events_to n last ≡ length old + 1
events_of_entry c log allotted k j o y n old new last h is e new_is g =
    let gained = entry_gains c log allotted k j o y n old h is e in
    let within : n ≤ length (updates_of new) = omega (arith, gained.1, ap (λ l. length (updates_of l)) new_is) in
    ap (events_to n) g.is ∙ events_to_grows new g.by n within ∙ ap (events_to n) new_is ∙ gained.0

module _ (c : Configuration) (s t : State) (turns : List Turn) (kept : Kept s) (chained : Chained s turns t) (k j l i : ℕ) (o p : Op) (y z : Reply) (n m : ℕ) (x : Operation c turns k j o y)
    (w : Operation c turns l i p z) where
  entered_as : number_told z ≡ Some m → EntersBetween turns l i p w.first w.last m
  entered_as at_m = subst (λ (r : Option ℕ). MatchOption r (Unit {0}) (λ q. EntersBetween turns l i p w.first w.last q)) at_m w.enters

  -- what the last log has of a reply is what the log after its last turn has
  same_reach : (q : ℕ) → reach t.board.log y ≡ Some q → reach x.end.turn.after.board.log y ≡ Some q
  same_reach q at =
      let g = (later_after t s turns x.last x.end.turn kept chained x.end.at).grows in
      sym (ap (λ log. reach log y) g.is ∙ reach_grows c x.end.turn.after.board.log g.by x.end.turn.after.board.allotted k j o y x.right) ∙ at

  pub smaller_number : x.last < w.first → number_told y ≡ Some n → number_told z ≡ Some m → n < m
  smaller_number lt at_n at_m =
      let e = entered_as at_m in
      let g = (later_between t s turns x.last e.place x.end.turn e.at.of.turn kept chained x.end.at e.at.of.at (omega (arith, lt, e.from))).grows in
      let a = x.end.turn.after.board in
      omega (arith, number_of_right c a.log a.allotted k j o y n x.right at_n, updates_grow a.log e.at.of.turn.before.board.log g, e.at.number)

  -- an update whose operation began after a query began isn't in what the query tells
  pub query_without_later : is_query o ≡ true → x.first < w.first → reach t.board.log y ≡ Some n → number_told z ≡ Some m → n < events_to m t.board.log
  query_without_later q lt at_n at_m =
      let e = entered_as at_m in
      let v = e.at.of.turn in
      let g = (later_between t s turns x.first e.place x.begin.turn v kept chained x.begin.at e.at.of.at (omega (arith, lt, e.from))).grows in
      let f = (later_after t s turns e.place v kept chained e.at.of.at).grows in
      let here = subst (λ (r : Option ℕ). MatchOption r (Unit {0}) (λ b. b ≡ length x.begin.turn.after.board.log)) (same_reach n at_n) (x.pinned q) in
      let a = w.end.turn.after.board in
      let gained = events_of_entry c a.log a.allotted l i p z m v.before.board.log v.after.board.log t.board.log w.right at_m e.at.number e.at.is f in
      omega (arith, here, grows_length x.begin.turn.after.board.log v.before.board.log g, gained)

module _ (c : Configuration) (s t : State) (turns : List Turn) (kept : Kept s) (chained : Chained s turns t) (k j l i : ℕ) (o p : Op) (y z : Reply) (n m : ℕ) (x : Operation c turns k j o y)
    (w : Operation c turns l i p z) where
  -- an update that ended before an operation began is in what that tells
  pub tells_earlier : x.last < w.first → number_told y ≡ Some n → reach t.board.log z ≡ Some m → events_to n t.board.log ≤ m
  tells_earlier lt at_n at_m =
      let e = entered_as c s t turns kept chained l i k j p o z y m n w x at_n in
      let v = e.at.of.turn in
      let f = (later_after t s turns e.place v kept chained e.at.of.at).grows in
      let b = (later_between t s turns e.place w.first v w.begin.turn kept chained e.at.of.at w.begin.at (omega (arith, lt, e.to))).grows in
      let a = x.end.turn.after.board in
      let gained = events_of_entry c a.log a.allotted k j o y n v.before.board.log v.after.board.log t.board.log x.right at_n e.at.number e.at.is f in
      let here = subst (λ (r : Option ℕ). MatchOption r (Unit {0}) (λ q. (length w.begin.turn.before.board.log ≤ q) × (q ≤ length w.end.turn.after.board.log)))
      (same_reach c s t turns kept chained l i k j p o z y m n w x m at_m) w.tells in
      let longer : length v.before.board.log + 1 ≤ length v.after.board.log = entry_longer o y n v.before.board.log v.after.board.log a.log a.allotted x.right at_n e.at.is in
      omega (arith, here.0, grows_length v.after.board.log w.begin.turn.before.board.log b, gained, longer)
    where
      entry_longer : (o : Op) (y : Reply) (n : ℕ) (old new log : List LogEvent) (allotted : ℕ) → Right c log allotted k j o y → number_told y ≡ Some n → new ≡ old ++ entry k j o → length old + 1 ≤ length new
      entry_longer (Insert id v) y n old new log allotted h is e = omega (arith, ap length e, length-append old (entry k j (Insert id v)))
      entry_longer (Delete id) y n old new log allotted h is e = omega (arith, ap length e, length-append old (entry k j (Delete id)))
      entry_longer o (reply.Stored m) n old new log allotted h is e = absurd h
      entry_longer o (reply.Removed m) n old new log allotted h is e = absurd h
      entry_longer o y n old new log allotted h is e = absurd (search rules)

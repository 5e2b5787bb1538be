-- How sends of texts, one after another, are the send of the texts joined.
use Rattle.std.proofs.Common.{◌≡◌, ℕ, ◌<◌, ◌≤◌, List, ◌++◌, length, take, [], Option, None, Some, Result, Ok, Err, refl, sym, ◌∙◌, ap, subst, arith, append-nil, append_assoc}
use Rattle.std.specs.Prelude.{IfSome}
use Rattle.std.specs.Result.{IsErrAnd}
use Rattle.mi_outside.specs.declared.writing.SinkFailed.{SinkFailed}
use Rattle.mi_outside.specs.Outside.{Rose, Adds, AddsFront, Writes, Fails, Sends, SendsWhole}
use Rattle.mi_outside.specs.States.{SinkState}

-- a rise after a count that didn't fall is a rise of the whole
pub Rose-later : (c d e : ℕ) → c ≤ d → Rose d e → Rose c e
Rose-later c d e grows rose = omega arith

-- the same at an equal text
pub sends_as : {a b : SinkState} {r : Result (Unit {0}) SinkFailed} (s t : List ℕ) → s ≡ t → Sends a b s r → Sends a b t r
sends_as {a = a} {b = b} {r = r} s t e sends = subst (λ (text : List ℕ). Sends a b text r) e sends

-- what went out in all where both were told
added_both : (b m a : Option (List ℕ)) (s t : List ℕ) → IfSome b (λ x. m ≡ Some (x ++ s)) → IfSome m (λ x. a ≡ Some (x ++ t)) → IfSome b (λ x. a ≡ Some (x ++ (s ++ t)))
added_both None m a s t first next = tt
added_both (Some x) m a s t first next =
    let there : a ≡ Some ((x ++ s) ++ t) = subst (λ (v : Option (List ℕ)). IfSome v (λ y. a ≡ Some (y ++ t))) first next in
    there ∙ ap Some (append_assoc x s t)

-- two texts that went out whole, one after the other
adds_both : (a b c : SinkState) (s t : List ℕ) → Adds a b s → Adds b c t → Adds a c (s ++ t)
adds_both a b c s t first next = added_both a.written b.written c.written s t first next

-- a front of some text, told of what went out before and after
abbrev Front : Option (List ℕ) → Option (List ℕ) → List ℕ → Type 0
Front b a text = IfSome b (λ x. (front : List ℕ) × (rest : List ℕ) × (front ++ rest ≡ text) × (a ≡ Some (x ++ front)))

front_after : (b m a : Option (List ℕ)) (s t : List ℕ) → IfSome b (λ x. m ≡ Some (x ++ s)) → Front m a t → Front b a (s ++ t)
front_after None m a s t first next = tt
front_after (Some x) m a s t first next =
    let there : Front (Some (x ++ s)) a t = subst (λ (v : Option (List ℕ)). Front v a t) first next in
    (s ++ there.0, there.1, append_assoc s there.0 there.1 ∙ ap (λ (v : List ℕ). s ++ v) there.2, there.3 ∙ ap Some (append_assoc x s there.0))

-- a front of a text is a front of a longer one
front_longer : (b a : Option (List ℕ)) (s t : List ℕ) → Front b a s → Front b a (s ++ t)
front_longer None a s t front = tt
front_longer (Some x) a s t front =
    (front.0, front.1 ++ t, sym (append_assoc front.0 front.1 t) ∙ ap (λ (v : List ℕ). v ++ t) front.2, front.3)

-- a text that went out whole is a front of a longer one
front_whole : (b a : Option (List ℕ)) (s t : List ℕ) → IfSome b (λ x. a ≡ Some (x ++ s)) → Front b a (s ++ t)
front_whole None a s t wrote = tt
front_whole (Some x) a s t wrote = (s, t, refl, wrote)

front_failed : (b m a : Option (List ℕ)) (s t : List ℕ) → IfSome b (λ x. m ≡ Some (x ++ s)) → IfSome m (λ x. a ≡ Some x) → Front b a (s ++ t)
front_failed None m a s t first same = tt
front_failed (Some x) m a s t first same =
    (s, t, refl, subst (λ (v : Option (List ℕ)). IfSome v (λ y. a ≡ Some y)) first same)

added_none : (b a : Option (List ℕ)) (s : List ℕ) → s ≡ [] → IfSome b (λ x. a ≡ Some (x ++ s)) → IfSome b (λ x. a ≡ Some x)
added_none None a s none added = tt
added_none (Some x) a s none added = added ∙ ap (λ (v : List ℕ). Some (x ++ v)) none ∙ ap Some (append-nil x)

-- a text that went out whole and then the next, whole or a front of it
pub sends_then : {a b c : SinkState} {u : Unit {0}} {r : Result (Unit {0}) SinkFailed} (s t : List ℕ) → Sends a b s (Ok u) → Sends b c t r → Sends a c (s ++ t) r
sends_then {a = a} {b = b} {c = c} {u = u} {r = Ok w} s t first next =
    record { grows = omega (arith, first.grows, next.grows); ok = (adds_both a b c s t first.ok.0 next.ok.0, next.ok.1 ∙ first.ok.1); err = tt }
sends_then {a = a} {b = b} {c = c} {u = u} {r = Err f} s t first next =
    record {
      grows = omega (arith, first.grows, next.grows);
      ok = tt;
      err = (front_after a.written b.written c.written s t first.ok.0 next.err.0, Rose-later a.faults b.faults c.faults first.grows next.err.1);
    }

-- the same at a text that is the two joined
pub sends_then_is : {a b c : SinkState} {u : Unit {0}} {r : Result (Unit {0}) SinkFailed} (s t text : List ℕ) → text ≡ s ++ t → Sends a b s (Ok u) → Sends b c t r → Sends a c text r
sends_then_is s t text is first next = sends_as (s ++ t) text (sym is) (sends_then s t first next)

-- where the first text failed, the whole has failed, whatever would have followed
pub sends_stopped : {a b : SinkState} {f : SinkFailed} (s t : List ℕ) → Sends a b s (Err f) → Sends a b (s ++ t) (Err f)
sends_stopped {a = a} {b = b} {f = f} s t stopped =
    record { grows = stopped.grows; ok = tt; err = (front_longer a.written b.written s t stopped.err.0, stopped.err.1) }

-- the same at a text that begins with the one that failed
pub sends_stopped_is : {a b : SinkState} {f : SinkFailed} (s t text : List ℕ) → text ≡ s ++ t → Sends a b s (Err f) → Sends a b text (Err f)
sends_stopped_is s t text is stopped = sends_as (s ++ t) text (sym is) (sends_stopped s t stopped)

-- the same where the failure is handed on by a `?`
pub sends_ended : {a b : SinkState} {f : SinkFailed} (P : SinkFailed → Type 0) (r : Result (Unit {0}) SinkFailed) (s t text : List ℕ) → IsErrAnd r P → text ≡ s ++ t → Sends a b s (Err f) → Sends a b text r
sends_ended {a = a} {b = b} {f = f} P (Ok u) s t text ended is stopped = absurd ended
sends_ended {a = a} {b = b} {f = f} P (Err e) s t text ended is stopped =
    let there : Sends a b text (Err f) = sends_stopped_is s t text is stopped in
    record { grows = there.grows; ok = tt; err = there.err }

-- what one write took goes out after what went out before it
pub sends_write : {a b c : SinkState} {u : Unit {0}} {n : ℕ} (s piece : List ℕ) → Sends a b s (Ok u) → Writes b c n piece → 0 < n → Sends a c (s ++ take n piece) (Ok u)
sends_write {a = a} {b = b} {c = c} {u = u} {n = n} s piece first next some =
    let stands : c.faults ≡ b.faults = next.some some in
    record { grows = omega (arith, first.grows, stands); ok = (adds_both a b c s (take n piece) first.ok.0 next.front, stands ∙ first.ok.1); err = tt }

-- what went out before a write that failed is a front of any text that it begins
pub sends_failed : {a b c : SinkState} {u : Unit {0}} (f : SinkFailed) (s t : List ℕ) → Sends a b s (Ok u) → Fails b c → b.faults ≤ c.faults → Sends a c (s ++ t) (Err f)
sends_failed {a = a} {b = b} {c = c} {u = u} f s t first fails grows =
    record {
      grows = omega (arith, first.grows, grows);
      ok = tt;
      err = (front_failed a.written b.written c.written s t first.ok.0 fails.same, Rose-later a.faults b.faults c.faults first.grows fails.counted);
    }

-- a write that took none of a piece that isn't empty failed
pub fails_by_none : (a b : SinkState) (n : ℕ) (piece : List ℕ) → Writes a b n piece → n ≡ 0 → 0 < length piece → Fails a b
fails_by_none a b n piece wrote none some = record {
  counted = wrote.nothing none some;
  same = added_none a.written b.written (take n piece) (ap (λ k. take k piece) none) wrote.front;
}

-- The intervals of the calls of the first events, with one event more.
use Rattle.std.proofs.Common.{◌≡◌, ℕ, zero, suc, ◌+◌, ◌<◌, Bool, true, false, eqb, cond, List, [], ◌∷◌, ◌++◌, length, map, take, drop, get_or, Option, Some, None, refl, sym, ◌∙◌, ap, subst, arith, add-one, add-zero, take-suc, drop-cons, length-append, length-take-le}
use Rattle.std.proofs.Math.ListN.{set, length-set}
use Rattle.std.proofs.lemmas.List.{map-append}
use Rattle.std.proofs.Common.{append-nil}
use Rattle.std.proofs.Math.Dec.{eqb-suc-suc, eqb-suc-zero, eqb-zero-suc}
use Rattle.std.proofs.lemmas.Bool.{eqb-true}
use Rattle.std.specs.Option.{option_map, option_and_then, is_some}
use Rattle.std.specs.List.{slice_get}
use Rattle.dep_index.specs.declared.table.calls.Call.{Call}
use Rattle.dep_index.specs.declared.table.calls.Reply.{Reply}
use Rattle.step_core.specs.declared.steps.Step.{Step}
use Rattle.step_core.specs.declared.steps.Step.TheVariants.{Invoke, Go}
use Rattle.step_core.specs.declared.steps.Event.{Event}
use Rattle.step_core.specs.declared.steps.Event.TheVariants.{Nothing, Invoked, Moved, Point as Takes, Returned}
use Rattle.step_core.specs.Run.{invoked_call}
use Rattle.linear_points.specs.declared.intervals.Interval.{Interval}
use Rattle.linear_points.specs.declared.intervals.End.{End}
use Rattle.linear_points.specs.Linearization.{first_index, first_step, last_step, returned_reply, reply_in, is_invoked, is_returned}
use Rattle.linear_points.specs.Interval.{AreIntervals}
use Rattle.linear_points.specs.Noted.{calls_made, AreNumberedFrom, NumbersCall, invoked_after, with_end, noted, no_interval, ReturnsBelow}

-- the intervals of the calls that the first i steps make, and what comes behind them
pub record HasIntervals (steps : List Step) (es : List Event) (i : ℕ) (found : List Interval) : Type 0 where
  pub calls : map (λ (x : Interval). x.call) found ≡ calls_made (take i steps) (take i es)
  pub intervals : AreIntervals (take i es) found
  pub rest : AreNumberedFrom (length found) (drop i steps) (drop i es)

-- the first, or else the second
abbrev otherwise : {A : Type 0} → Option A → Option A → Option A
otherwise None later = later
otherwise (Some x) later = Some x

otherwise-none : {A : Type 0} → (o : Option A) → otherwise o None ≡ o
otherwise-none None = refl
otherwise-none (Some x) = refl

first_index-append : (test : Event → Bool) (i : ℕ) (es : List Event) (e : Event)
    → first_index test i (es ++ e ∷ []) ≡ otherwise (first_index test i es) (cond (test e) (Some (i + length es)) None)
first_index-append test i [] e = ap (λ (n : ℕ). cond (test e) (Some n) None) (sym (add-zero i))
first_index-append test i (x ∷ es) e = at (test x) (first_index-append test (i + 1) es e) where
  at : (b : Bool) → first_index test (i + 1) (es ++ e ∷ []) ≡ otherwise (first_index test (i + 1) es) (cond (test e) (Some (i + 1 + length es)) None)
      → cond b (Some i) (first_index test (i + 1) (es ++ e ∷ [])) ≡ otherwise (cond b (Some i) (first_index test (i + 1) es)) (cond (test e) (Some (i + suc (length es))) None)
  at true rest = refl
  at false rest = rest ∙ ap (λ (n : ℕ). otherwise (first_index test (i + 1) es) (cond (test e) (Some n) None)) (omega arith)

returned_reply-append : (es : List Event) (e : Event) (n : ℕ) → returned_reply (es ++ e ∷ []) n ≡ otherwise (returned_reply es n) (reply_in n e None)
returned_reply-append [] e n = refl
returned_reply-append (Nothing ∷ es) e n = returned_reply-append es e n
returned_reply-append (Moved ∷ es) e n = returned_reply-append es e n
returned_reply-append (Invoked k ∷ es) e n = returned_reply-append es e n
returned_reply-append (Takes k r ∷ es) e n = returned_reply-append es e n
returned_reply-append (Returned k r ∷ es) e n = at (eqb k n) (returned_reply-append es e n) where
  at : (b : Bool) → returned_reply (es ++ e ∷ []) n ≡ otherwise (returned_reply es n) (reply_in n e None)
      → cond b (Some r) (returned_reply (es ++ e ∷ []) n) ≡ otherwise (cond b (Some r) (returned_reply es n)) (reply_in n e None)
  at true rest = refl
  at false rest = rest

slice_get-append : {A : Type 0} → (xs : List A) (y : A) (n : ℕ) → slice_get (xs ++ y ∷ []) n ≡ otherwise (slice_get xs n) (cond (eqb (length xs) n) (Some y) None)
slice_get-append [] y zero = refl
slice_get-append [] y (suc n) = ap (λ (b : Bool). cond b (Some y) None) (sym (eqb-zero-suc n))
slice_get-append (x ∷ xs) y zero = refl
slice_get-append (x ∷ xs) y (suc n) = slice_get-append xs y n ∙ ap (λ (b : Bool). otherwise (slice_get xs n) (cond b (Some y) None)) (sym (eqb-suc-suc (length xs) n))

slice_get-set : {A : Type 0} → (xs : List A) (k : ℕ) (y : A) (n : ℕ) → k < length xs → slice_get (set xs k y) n ≡ cond (eqb k n) (Some y) (slice_get xs n)
slice_get-set [] k y n h = absurd (omega arith)
slice_get-set (x ∷ xs) zero y zero h = refl
slice_get-set (x ∷ xs) zero y (suc n) h = ap (λ (b : Bool). cond b (Some y) (slice_get xs n)) (sym (eqb-zero-suc n))
slice_get-set (x ∷ xs) (suc k) y zero h = ap (λ (b : Bool). cond b (Some y) (Some x)) (sym (eqb-suc-zero k))
slice_get-set (x ∷ xs) (suc k) y (suc n) h = slice_get-set xs k y n (omega arith) ∙ ap (λ (b : Bool). cond b (Some y) (slice_get xs n)) (sym (eqb-suc-suc k n))

slice_get-get_or : {A : Type 0} → (xs : List A) (k : ℕ) (d : A) → k < length xs → slice_get xs k ≡ Some (get_or xs k d)
slice_get-get_or [] k d h = absurd (omega arith)
slice_get-get_or (x ∷ xs) zero d h = refl
slice_get-get_or (x ∷ xs) (suc k) d h = slice_get-get_or xs k d (omega arith)

calls_made-append : (steps : List Step) (es : List Event) (s : Step) (e : Event) → length steps ≡ length es
    → calls_made (steps ++ s ∷ []) (es ++ e ∷ []) ≡ calls_made steps es ++ invoked_call s e []
calls_made-append [] [] s e same = refl
calls_made-append [] (y ∷ es) s e same = absurd (omega (arith, same))
calls_made-append (x ∷ steps) [] s e same = absurd (omega (arith, same))
calls_made-append (Go t ∷ steps) (y ∷ es) s e same = calls_made-append steps es s e (omega (arith, same))
calls_made-append (Invoke t call ∷ steps) (Nothing ∷ es) s e same = calls_made-append steps es s e (omega (arith, same))
calls_made-append (Invoke t call ∷ steps) (Moved ∷ es) s e same = calls_made-append steps es s e (omega (arith, same))
calls_made-append (Invoke t call ∷ steps) (Invoked k ∷ es) s e same = ap (λ (cs : List Call). call ∷ cs) (calls_made-append steps es s e (omega (arith, same)))
calls_made-append (Invoke t call ∷ steps) (Takes k r ∷ es) s e same = calls_made-append steps es s e (omega (arith, same))
calls_made-append (Invoke t call ∷ steps) (Returned k r ∷ es) s e same = calls_made-append steps es s e (omega (arith, same))

-- an event that neither invokes a call nor returns one
abbrev IsBetween : Event → Type 0
IsBetween Nothing = Unit {0}
IsBetween Moved = Unit {0}
IsBetween (Takes k r) = Unit {0}
IsBetween (Invoked k) = ⊥
IsBetween (Returned k r) = ⊥

between_intervals : (es : List Event) (found : List Interval) (e : Event) → AreIntervals es found → IsBetween e → AreIntervals (es ++ e ∷ []) found
between_intervals es found e has between = record {
  first = λ n. first_index-append (is_invoked n) 0 es e ∙ quiet e between n ∙ has.first n;
  last = λ n. first_index-append (is_returned n) 0 es e ∙ still e between n ∙ has.last n;
  reply = λ n. returned_reply-append es e n ∙ silent e between n ∙ has.reply n;
} where
  quiet : (e : Event) → IsBetween e → (n : ℕ) → otherwise (first_step es n) (cond (is_invoked n e) (Some (0 + length es)) None) ≡ first_step es n
  quiet Nothing h n = otherwise-none (first_step es n)
  quiet Moved h n = otherwise-none (first_step es n)
  quiet (Takes k r) h n = otherwise-none (first_step es n)
  quiet (Invoked k) h n = absurd h
  quiet (Returned k r) h n = absurd h

  still : (e : Event) → IsBetween e → (n : ℕ) → otherwise (last_step es n) (cond (is_returned n e) (Some (0 + length es)) None) ≡ last_step es n
  still Nothing h n = otherwise-none (last_step es n)
  still Moved h n = otherwise-none (last_step es n)
  still (Takes k r) h n = otherwise-none (last_step es n)
  still (Invoked k) h n = absurd h
  still (Returned k r) h n = absurd h

  silent : (e : Event) → IsBetween e → (n : ℕ) → otherwise (returned_reply es n) (reply_in n e None) ≡ returned_reply es n
  silent Nothing h n = otherwise-none (returned_reply es n)
  silent Moved h n = otherwise-none (returned_reply es n)
  silent (Takes k r) h n = otherwise-none (returned_reply es n)
  silent (Invoked k) h n = absurd h
  silent (Returned k r) h n = absurd h

invoked_intervals : (es : List Event) (found : List Interval) (k i : ℕ) (call : Call) → AreIntervals es found → k ≡ length found → i ≡ length es
    → AreIntervals (es ++ Invoked k ∷ []) (found ++ record { call = call; first = i; end = None } ∷ [])
invoked_intervals es found k i call has number at_end = record {
  first = λ n. first_index-append (is_invoked n) 0 es (Invoked k)
      ∙ ap (λ (o : Option ℕ). otherwise o (cond (eqb k n) (Some (0 + length es)) None)) (has.first n)
      ∙ ap (λ (x : ℕ). otherwise (option_map (λ (y : Interval). y.first) (slice_get found n)) (cond (eqb x n) (Some (0 + length es)) None)) number
      ∙ begins (slice_get found n) (eqb (length found) n)
      ∙ sym (ap (option_map (λ (y : Interval). y.first)) (slice_get-append found fresh n));
  last = λ n. first_index-append (is_returned n) 0 es (Invoked k) ∙ otherwise-none (last_step es n) ∙ has.last n
      ∙ ap (option_map (λ (e : End). e.index)) (sym (no_end (slice_get found n) (eqb (length found) n)) ∙ sym (ap (option_and_then (λ (y : Interval). y.end)) (slice_get-append found fresh n)));
  reply = λ n. returned_reply-append es (Invoked k) n ∙ otherwise-none (returned_reply es n) ∙ has.reply n
      ∙ ap (option_map (λ (e : End). e.reply)) (sym (no_end (slice_get found n) (eqb (length found) n)) ∙ sym (ap (option_and_then (λ (y : Interval). y.end)) (slice_get-append found fresh n)));
} where
  fresh : Interval
  fresh = record { call = call; first = i; end = None }

  begins : (o : Option Interval) (b : Bool)
      → otherwise (option_map (λ (y : Interval). y.first) o) (cond b (Some (0 + length es)) None) ≡ option_map (λ (y : Interval). y.first) (otherwise o (cond b (Some (record { call = call; first = i; end = None })) None))
  begins (Some x) b = refl
  begins None true = ap (λ (m : ℕ). Some m) (omega (arith, at_end))
  begins None false = refl

  no_end : (o : Option Interval) (b : Bool)
      → option_and_then (λ (y : Interval). y.end) (otherwise o (cond b (Some (record { call = call; first = i; end = None })) None)) ≡ option_and_then (λ (y : Interval). y.end) o
  no_end (Some x) b = refl
  no_end None true = refl
  no_end None false = refl

-- what an interval that is ended shows
with_end-index : (o : Option End) (z : End) → option_map (λ (e : End). e.index) (cond (is_some o) o (Some z)) ≡ otherwise (option_map (λ (e : End). e.index) o) (Some z.index)
with_end-index None z = refl
with_end-index (Some e) z = refl

with_end-reply : (o : Option End) (z : End) → option_map (λ (e : End). e.reply) (cond (is_some o) o (Some z)) ≡ otherwise (option_map (λ (e : End). e.reply) o) (Some z.reply)
with_end-reply None z = refl
with_end-reply (Some e) z = refl

returned_intervals : (es : List Event) (found : List Interval) (k i : ℕ) (r : Reply) (d : Interval) → AreIntervals es found → k < length found → i ≡ length es
    → AreIntervals (es ++ Returned k r ∷ []) (set found k (with_end (get_or found k d) i r))
returned_intervals es found k i r d has below at_end = record {
  first = λ n. first_index-append (is_invoked n) 0 es (Returned k r) ∙ otherwise-none (first_step es n) ∙ has.first n
      ∙ first_kept n (eqb k n) refl ∙ sym (ap (option_map (λ (y : Interval). y.first)) (slice_get-set found k (with_end (get_or found k d) i r) n below));
  last = λ n. first_index-append (is_returned n) 0 es (Returned k r) ∙ ap (λ (m : ℕ). otherwise (last_step es n) (cond (eqb k n) (Some m) None)) (omega (arith, at_end))
      ∙ ap (λ (o : Option ℕ). otherwise o (cond (eqb k n) (Some i) None)) (has.last n)
      ∙ last_set n (eqb k n) refl ∙ sym (ap (λ (o : Option Interval). option_map (λ (e : End). e.index) (option_and_then (λ (y : Interval). y.end) o)) (slice_get-set found k (with_end (get_or found k d) i r) n below));
  reply = λ n. returned_reply-append es (Returned k r) n
      ∙ ap (λ (o : Option Reply). otherwise o (cond (eqb k n) (Some r) None)) (has.reply n)
      ∙ reply_set n (eqb k n) refl ∙ sym (ap (λ (o : Option Interval). option_map (λ (e : End). e.reply) (option_and_then (λ (y : Interval). y.end) o)) (slice_get-set found k (with_end (get_or found k d) i r) n below));
} where
  here : (n : ℕ) → eqb k n ≡ true → slice_get found n ≡ Some (get_or found k d)
  here n e = ap (slice_get found) (sym (eqb-true k n e)) ∙ slice_get-get_or found k d below

  first_kept : (n : ℕ) (b : Bool) → eqb k n ≡ b → option_map (λ (y : Interval). y.first) (slice_get found n) ≡ option_map (λ (y : Interval). y.first) (cond b (Some (with_end (get_or found k d) i r)) (slice_get found n))
  first_kept n true e = ap (option_map (λ (y : Interval). y.first)) (here n e)
  first_kept n false e = refl

  last_set : (n : ℕ) (b : Bool) → eqb k n ≡ b
      → otherwise (option_map (λ (e : End). e.index) (option_and_then (λ (y : Interval). y.end) (slice_get found n))) (cond b (Some i) None)
      ≡ option_map (λ (e : End). e.index) (option_and_then (λ (y : Interval). y.end) (cond b (Some (with_end (get_or found k d) i r)) (slice_get found n)))
  last_set n true e = ap (λ (o : Option Interval). otherwise (option_map (λ (e : End). e.index) (option_and_then (λ (y : Interval). y.end) o)) (Some i)) (here n e)
      ∙ sym (with_end-index (get_or found k d).end (record { index = i; reply = r }))
  last_set n false e = otherwise-none (option_map (λ (e : End). e.index) (option_and_then (λ (y : Interval). y.end) (slice_get found n)))

  reply_set : (n : ℕ) (b : Bool) → eqb k n ≡ b
      → otherwise (option_map (λ (e : End). e.reply) (option_and_then (λ (y : Interval). y.end) (slice_get found n))) (cond b (Some r) None)
      ≡ option_map (λ (e : End). e.reply) (option_and_then (λ (y : Interval). y.end) (cond b (Some (with_end (get_or found k d) i r)) (slice_get found n)))
  reply_set n true e = ap (λ (o : Option Interval). otherwise (option_map (λ (e : End). e.reply) (option_and_then (λ (y : Interval). y.end) o)) (Some r)) (here n e)
      ∙ sym (with_end-reply (get_or found k d).end (record { index = i; reply = r }))
  reply_set n false e = otherwise-none (option_map (λ (e : End). e.reply) (option_and_then (λ (y : Interval). y.end) (slice_get found n)))

calls-with_end : (found : List Interval) (k i : ℕ) (r : Reply) → k < length found
    → map (λ (x : Interval). x.call) (set found k (with_end (get_or found k no_interval) i r)) ≡ map (λ (x : Interval). x.call) found
calls-with_end [] k i r h = absurd (omega arith)
calls-with_end (x ∷ found) zero i r h = refl
calls-with_end (x ∷ found) (suc k) i r h = ap (λ (cs : List Call). x.call ∷ cs) (calls-with_end found k i r (omega arith))

-- if each call has its interval so far, so it has with one event more
noted_intervals : (es : List Event) (found : List Interval) (i : ℕ) (s : Step) (e : Event) → AreIntervals es found → i ≡ length es → NumbersCall (length found) s e
    → AreIntervals (es ++ e ∷ []) (noted found i s e)
noted_intervals es found i s Nothing has at_end numbers = between_intervals es found Nothing has tt
noted_intervals es found i s Moved has at_end numbers = between_intervals es found Moved has tt
noted_intervals es found i s (Takes k r) has at_end numbers = between_intervals es found (Takes k r) has tt
noted_intervals es found i s (Returned k r) has at_end numbers = returned_intervals es found k i r no_interval has numbers at_end
noted_intervals es found i (Invoke t call) (Invoked k) has at_end numbers = invoked_intervals es found k i call has numbers.0 at_end
noted_intervals es found i (Go t) (Invoked k) has at_end numbers = absurd numbers.1

noted_calls : (found : List Interval) (i : ℕ) (s : Step) (e : Event) → NumbersCall (length found) s e
    → map (λ (x : Interval). x.call) (noted found i s e) ≡ map (λ (x : Interval). x.call) found ++ invoked_call s e []
noted_calls found i (Go t) Nothing numbers = sym (append-nil (map (λ (x : Interval). x.call) found))
noted_calls found i (Go t) Moved numbers = sym (append-nil (map (λ (x : Interval). x.call) found))
noted_calls found i (Go t) (Takes k r) numbers = sym (append-nil (map (λ (x : Interval). x.call) found))
noted_calls found i (Go t) (Invoked k) numbers = absurd numbers.1
noted_calls found i (Go t) (Returned k r) numbers = calls-with_end found k i r numbers ∙ sym (append-nil (map (λ (x : Interval). x.call) found))
noted_calls found i (Invoke t call) Nothing numbers = sym (append-nil (map (λ (x : Interval). x.call) found))
noted_calls found i (Invoke t call) Moved numbers = sym (append-nil (map (λ (x : Interval). x.call) found))
noted_calls found i (Invoke t call) (Takes k r) numbers = sym (append-nil (map (λ (x : Interval). x.call) found))
noted_calls found i (Invoke t call) (Invoked k) numbers = map-append (λ (x : Interval). x.call) found (record { call = call; first = i; end = None } ∷ [])
noted_calls found i (Invoke t call) (Returned k r) numbers = calls-with_end found k i r numbers ∙ sym (append-nil (map (λ (x : Interval). x.call) found))

noted_length : (found : List Interval) (i : ℕ) (s : Step) (e : Event) → NumbersCall (length found) s e → length (noted found i s e) ≡ invoked_after (length found) e
noted_length found i s Nothing numbers = refl
noted_length found i s Moved numbers = refl
noted_length found i s (Takes k r) numbers = refl
noted_length found i s (Returned k r) numbers = length-set found k (with_end (get_or found k no_interval) i r)
noted_length found i (Invoke t call) (Invoked k) numbers = length-append found (record { call = call; first = i; end = None } ∷ [])
noted_length found i (Go t) (Invoked k) numbers = absurd numbers.1

-- what comes next is numbered next
pub next_numbers : (steps : List Step) (es : List Event) (i : ℕ) (found : List Interval) (d : Step) (b : Event) → HasIntervals steps es i found → length steps ≡ length es → i < length es
    → NumbersCall (length found) (get_or steps i d) (get_or es i b)
    × AreNumberedFrom (invoked_after (length found) (get_or es i b)) (drop (i + 1) steps) (drop (i + 1) es)
next_numbers steps es i found d b has same below =
    subst (λ (n : ℕ). NumbersCall (length found) (get_or steps i d) (get_or es i b) × AreNumberedFrom (invoked_after (length found) (get_or es i b)) (drop n steps) (drop n es)) (sym (add-one i))
    (subst (λ (ys : List Event). AreNumberedFrom (length found) (get_or steps i d ∷ drop (suc i) steps) ys) (drop-cons es i b below)
    (subst (λ (xs : List Step). AreNumberedFrom (length found) xs (drop i es)) (drop-cons steps i d (omega (arith, below, same))) has.rest))

-- one step more
pub more_intervals : (steps : List Step) (es : List Event) (i : ℕ) (found more : List Interval) (d : Step) (b : Event) → HasIntervals steps es i found → length steps ≡ length es → i < length es
    → more ≡ noted found i (get_or steps i d) (get_or es i b) → HasIntervals steps es (i + 1) more
more_intervals steps es i found more d b has same below is = record {
  calls = ap (map (λ (x : Interval). x.call)) is ∙ noted_calls found i (get_or steps i d) (get_or es i b) next.0
      ∙ ap (λ (cs : List Call). cs ++ invoked_call (get_or steps i d) (get_or es i b) []) has.calls
      ∙ sym (calls_made-append (take i steps) (take i es) (get_or steps i d) (get_or es i b) taken)
      ∙ ap (λ (xs : List Step). calls_made xs (take i es ++ get_or es i b ∷ [])) (sym more_steps) ∙ ap (calls_made (take (i + 1) steps)) (sym more_events);
  intervals = subst (λ (xs : List Interval). AreIntervals (take (i + 1) es) xs) (sym is)
      (subst (λ (ys : List Event). AreIntervals ys (noted found i (get_or steps i d) (get_or es i b))) (sym more_events)
      (noted_intervals (take i es) found i (get_or steps i d) (get_or es i b) has.intervals (sym (length-take-le i es (omega arith))) next.0));
  rest = subst (λ (n : ℕ). AreNumberedFrom n (drop (i + 1) steps) (drop (i + 1) es)) (sym (ap length is ∙ noted_length found i (get_or steps i d) (get_or es i b) next.0)) next.1;
} where
  next : NumbersCall (length found) (get_or steps i d) (get_or es i b) × AreNumberedFrom (invoked_after (length found) (get_or es i b)) (drop (i + 1) steps) (drop (i + 1) es)
  next = next_numbers steps es i found d b has same below

  more_steps : take (i + 1) steps ≡ take i steps ++ get_or steps i d ∷ []
  more_steps = ap (λ (n : ℕ). take n steps) (add-one i) ∙ take-suc steps i d (omega (arith, below, same))

  more_events : take (i + 1) es ≡ take i es ++ get_or es i b ∷ []
  more_events = ap (λ (n : ℕ). take n es) (add-one i) ∙ take-suc es i b below

  taken : length (take i steps) ≡ length (take i es)
  taken = length-take-le i steps (omega (arith, below, same)) ∙ sym (length-take-le i es (omega arith))

pub returns_below : (n : ℕ) (s : Step) (e : Event) → NumbersCall n s e → ReturnsBelow n e
returns_below n s Nothing numbers = tt
returns_below n s Moved numbers = tt
returns_below n s (Takes k r) numbers = tt
returns_below n s (Invoked k) numbers = tt
returns_below n s (Returned k r) numbers = numbers

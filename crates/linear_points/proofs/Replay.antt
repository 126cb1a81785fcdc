-- The points of a run replay: the shown table goes from point to point as the one-thread table goes from call to call.
use Rattle.std.proofs.Common.{◌≡◌, ℕ, zero, suc, ◌+◌, ◌<◌, Bool, true, false, ◌⊎◌, eqb, ltb, List, [], ◌∷◌, ◌++◌, length, get_or, Option, Some, None, refl, sym, ◌∙◌, ap, subst, arith, inl, inr, get_or-set_same, get_or-set_other, append_assoc, length-append, map}
use Rattle.std.proofs.Math.ListN.{set}
use Rattle.std.proofs.lemmas.Bool.{cases_eq, ltb-true}
use Rattle.std.specs.Option.{is_some, IsSomeAnd}
use Rattle.dep_index.specs.declared.table.calls.Call.{Call}
use Rattle.dep_index.specs.declared.table.calls.Call.TheVariants.{InUse as Query}
use Rattle.dep_index.specs.declared.table.calls.Reply.{Reply}
use Rattle.dep_index.specs.Table.{Module, Table}
use Rattle.dep_index.specs.Calls.{opening, replies, reply, next}
use Rattle.dep_index.specs.Words.{closed, word_step}
use Rattle.dep_index.specs.declared.words.Outcome.{Outcome}
use Rattle.dep_index.specs.declared.words.Outcome.TheVariants.{Effect, GoesOn}
use Rattle.dep_index.specs.Calls.{slot_of}
use Rattle.step_core.specs.declared.steps.Step.{Step}
use Rattle.step_core.specs.declared.steps.Step.TheVariants.{Invoke, Go}
use Rattle.step_core.specs.declared.steps.Event.{Event}
use Rattle.step_core.specs.declared.steps.Event.TheVariants.{Nothing, Invoked, Moved, Point as Takes, Returned}
use Rattle.step_core.specs.declared.steps.Line.{Line}
use Rattle.step_core.specs.declared.steps.Line.TheVariants.{Lock, Word, Exchange, Write, Return}
use Rattle.step_core.specs.declared.steps.Activity.{Activity}
use Rattle.step_core.specs.Machine.{State, start, step, step_refusal, go, line, locked, stepped, exchanged, invoke, holder, lock_of, unless}
use Rattle.step_core.specs.Shown.{shown}
use Rattle.step_core.specs.Run.{IsAccepted, events, invoked_call, calls_of, call_numbered}
use Rattle.step_core.specs.StepLaw.{StepLaw, TakesEffect}
use Rattle.step_core.specs.declared.steps.StepError.{StepError}
use Rattle.step_core.specs.declared.steps.StepError.TheVariants.{Thread}
use Rattle.step_core.specs.Sound.{IsSound}
use Rattle.step_core.proofs.Shown.{active_in_range}
use Rattle.step_core.proofs.WholeSteps.{steps_are_right, starts_sound}
use Rattle.dep_index.proofs.RunLaws.{replicated}
use Rattle.linear_points.specs.declared.point.Point.{Point}
use Rattle.linear_points.specs.Run.{IsRun, point_at, points_from, run_calls, run_points}

-- a thread's activity, by the list of the calls that were invoked so far
abbrev pub IsNumbered : List Call → State → Type 0
IsNumbered done s = (t : ℕ) (a : Activity) → get_or s.threads t None ≡ Some a → call_numbered done a.number ≡ a.call

-- the activity was there before the step, at another line perhaps
abbrev pub WasThere : State → ℕ → Activity → Type 0
WasThere s u b = (c : Activity) × (get_or s.threads u None ≡ Some c) × (b.number ≡ c.number) × (b.call ≡ c.call)

-- a thread that goes on at some line
went_on : (s : State) (t : ℕ) (a : Activity) (l : Line) → get_or s.threads t None ≡ Some a → (u : ℕ) (b : Activity)
    → get_or (set s.threads t (Some (record a { line = l }))) u None ≡ Some b → WasThere s u b
went_on s t a l here u b there = at (cases_eq u t) where
  at : (u ≡ t) ⊎ (u ≡ t → ⊥) → WasThere s u b
  at (inl e) =
      let there' : get_or (set s.threads t (Some (record a { line = l }))) t None ≡ Some b = subst (λ (i : ℕ). get_or (set s.threads t (Some (record a { line = l }))) i None ≡ Some b) e there in
      let is : Some (record a { line = l }) ≡ Some b = sym (get_or-set_same s.threads t (Some (record a { line = l })) None (active_in_range s.threads t a here)) ∙ there' in
      (a, subst (λ (i : ℕ). get_or s.threads i None ≡ Some a) (sym e) here, sym (number_of _ b is), sym (call_of _ b is)) where
        number_of : (x y : Activity) → Some x ≡ Some y → x.number ≡ y.number
        number_of x y q = ap (λ (o : Option Activity). number_in o) q where
          number_in : Option Activity → ℕ
          number_in None = 0
          number_in (Some z) = z.number

        call_of : (x y : Activity) → Some x ≡ Some y → x.call ≡ y.call
        call_of x y q = ap (λ (o : Option Activity). call_in o) q where
          call_in : Option Activity → Call
          call_in None = Query 0
          call_in (Some z) = z.call
  at (inr ne) = (b, sym (get_or-set_other s.threads t u (Some (record a { line = l })) None ne) ∙ there, refl, refl)

-- a thread that returned
went_idle : (s : State) (t : ℕ) (a : Activity) → get_or s.threads t None ≡ Some a → (u : ℕ) (b : Activity)
    → get_or (set s.threads t None) u None ≡ Some b → WasThere s u b
went_idle s t a here u b there = at (cases_eq u t) where
  at : (u ≡ t) ⊎ (u ≡ t → ⊥) → WasThere s u b
  at (inl e) =
      let there' : get_or (set s.threads t None) t None ≡ Some b = subst (λ (i : ℕ). get_or (set s.threads t None) i None ≡ Some b) e there in
      let bad : None ≡ Some b = sym (get_or-set_same s.threads t None None (active_in_range s.threads t a here)) ∙ there' in
      absurd (apart bad) where
        apart : None ≡ Some b → ⊥
        apart q = cc
  at (inr ne) = (b, sym (get_or-set_other s.threads t u None None ne) ∙ there, refl, refl)

-- what a step of a thread leaves of the activities
abbrev pub KeepsCalls : State → State → Type 0
KeepsCalls old new = (new.invoked ≡ old.invoked) × ((u : ℕ) (b : Activity) → get_or new.threads u None ≡ Some b → WasThere old u b)

line_keeps : (catalogue : List Module) (s : State) (t : ℕ) (a : Activity) (l : Line) → get_or s.threads t None ≡ Some a → KeepsCalls s (line catalogue s t a l).1
line_keeps catalogue s t a Lock here = at (is_some (holder s.locks (lock_of a.call))) where
  at : (b : Bool) → KeepsCalls s (locked s t a b).1
  at true = (refl, λ u b there. (b, there, refl, refl))
  at false = (refl, went_on s t a Word here)
line_keeps catalogue s t a Word here = at (word_step catalogue s.written a.call (get_or s.words (slot_of a.call) 0)).word (word_step catalogue s.written a.call (get_or s.words (slot_of a.call) 0)).outcome where
  at : (v : ℕ) (o : Outcome) → KeepsCalls s (stepped s t a v o).1
  at v (Effect r) = (refl, went_on s t a _ here)
  at v (GoesOn x) = (refl, went_on s t a _ here)
line_keeps catalogue s t a (Exchange x) here = at (eqb (get_or s.words (slot_of a.call) 0) x) where
  at : (b : Bool) → KeepsCalls s (exchanged s t a x b).1
  at true = (refl, went_on s t a Write here)
  at false = (refl, went_on s t a Word here)
line_keeps catalogue s t a Write here = (refl, went_on s t a _ here)
line_keeps catalogue s t a (Return r) here = (refl, went_idle s t a here)

pub go_keeps : (catalogue : List Module) (s : State) (t : ℕ) → KeepsCalls s (step catalogue s (Go t)).1
go_keeps catalogue s t = at (get_or s.threads t None) refl where
  at : (o : Option Activity) → get_or s.threads t None ≡ o → KeepsCalls s (go catalogue s t o).1
  at None e = (refl, λ u b there. (b, there, refl, refl))
  at (Some a) e = line_keeps catalogue s t a a.line e

still_numbered : (done : List Call) (old new : State) → KeepsCalls old new → IsNumbered done old → IsNumbered done new
still_numbered done old new keeps known u b there =
    let was : WasThere old u b = keeps.1 u b there in
    ap (call_numbered done) was.2 ∙ known u was.0 was.1 ∙ sym was.3

-- a point's call is the one that its number names
point_replays : (catalogue : List Module) (workers : ℕ) (calls : List Call) (old new : State) (t i : ℕ) (e : Event) (later : List Point)
    → StepLaw catalogue old (Go t) e new
    → ((a : Activity) → get_or old.threads t None ≡ Some a → call_numbered calls a.number ≡ a.call)
    → replies catalogue (shown new) (map (λ p. call_numbered calls p.call) later) ≡ map (λ p. p.reply) later
    → replies catalogue (shown old) (map (λ p. call_numbered calls p.call) (point_at i e later)) ≡ map (λ p. p.reply) (point_at i e later)
point_replays catalogue workers calls old new t i Nothing later same known rest = ap (λ (x : Table). replies catalogue x (map (λ p. call_numbered calls p.call) later)) (sym same) ∙ rest
point_replays catalogue workers calls old new t i (Invoked n) later same known rest = ap (λ (x : Table). replies catalogue x (map (λ p. call_numbered calls p.call) later)) (sym same) ∙ rest
point_replays catalogue workers calls old new t i Moved later same known rest = ap (λ (x : Table). replies catalogue x (map (λ p. call_numbered calls p.call) later)) (sym same) ∙ rest
point_replays catalogue workers calls old new t i (Returned n r) later same known rest = ap (λ (x : Table). replies catalogue x (map (λ p. call_numbered calls p.call) later)) (sym same) ∙ rest
point_replays catalogue workers calls old new t i (Takes n r) later takes known rest = at (get_or old.threads t None) refl takes where
  at : (o : Option Activity) → get_or old.threads t None ≡ o → IsSomeAnd o (TakesEffect catalogue old new n r)
      → replies catalogue (shown old) (call_numbered calls n ∷ map (λ p. call_numbered calls p.call) later) ≡ r ∷ map (λ p. p.reply) later
  at None e f = absurd f
  at (Some a) e f =
      let is : call_numbered calls n ≡ a.call = ap (call_numbered calls) (sym f.0) ∙ known a e in
      ap (λ (c : Call). reply catalogue (shown old) c ∷ replies catalogue (next catalogue (shown old) c) (map (λ p. call_numbered calls p.call) later)) is
      ∙ ap (λ (x : Table). reply catalogue (shown old) a.call ∷ replies catalogue x (map (λ p. call_numbered calls p.call) later)) (sym f.2)
      ∙ ap (λ (rs : List Reply). reply catalogue (shown old) a.call ∷ rs) rest
      ∙ ap (λ (x : Reply). x ∷ map (λ p. p.reply) later) (sym f.1)

-- a call that was invoked keeps its number
numbered-append : (done later : List Call) (n : ℕ) → n < length done → call_numbered (done ++ later) n ≡ call_numbered done n
numbered-append [] later n h = absurd (omega arith)
numbered-append (c ∷ done) later zero h = refl
numbered-append (c ∷ done) later (suc n) h = numbered-append done later n (omega arith)

numbered-last : (done : List Call) (call : Call) → call_numbered (done ++ call ∷ []) (length done) ≡ call
numbered-last [] call = refl
numbered-last (c ∷ done) call = numbered-last done call

abbrev Replays : List Module → State → List Step → ℕ → List Call → Type 0
Replays catalogue s steps i done =
    replies catalogue (shown s) (map (λ p. call_numbered (done ++ calls_of catalogue s steps) p.call) (points_from i (events catalogue s steps)))
    ≡ map (λ p. p.reply) (points_from i (events catalogue s steps))

-- what the rest of a run is known to do, from every state
abbrev Later : List Module → ℕ → List Step → Type 0
Later catalogue workers steps =
    (s : State) (done : List Call) (i : ℕ) → IsSound catalogue workers s → length done ≡ s.invoked → IsNumbered done s → IsAccepted catalogue s steps → Replays catalogue s steps i done

-- a call that begins
begun_numbered : (done : List Call) (s : State) (t : ℕ) (call : Call) (b : Activity) → length done ≡ s.invoked
    → b.number ≡ s.invoked → b.call ≡ call → t < length s.threads
    → ((u : ℕ) (a : Activity) → get_or s.threads u None ≡ Some a → a.number < s.invoked)
    → IsNumbered done s
    → (u : ℕ) (a : Activity) → get_or (set s.threads t (Some b)) u None ≡ Some a → call_numbered (done ++ call ∷ []) a.number ≡ a.call
begun_numbered done s t call b len number is room below known u a there = at (cases_eq u t) where
  at : (u ≡ t) ⊎ (u ≡ t → ⊥) → call_numbered (done ++ call ∷ []) a.number ≡ a.call
  at (inl e) =
      let there' : get_or (set s.threads t (Some b)) t None ≡ Some a = subst (λ (i : ℕ). get_or (set s.threads t (Some b)) i None ≡ Some a) e there in
      let same : b ≡ a = some_same b a (sym (get_or-set_same s.threads t (Some b) None room) ∙ there') in
      let own : call_numbered (done ++ call ∷ []) b.number ≡ b.call = ap (call_numbered (done ++ call ∷ [])) (number ∙ sym len) ∙ numbered-last done call ∙ sym is in
      subst (λ (x : Activity). call_numbered (done ++ call ∷ []) x.number ≡ x.call) same own where
        some_same : (x y : Activity) → Some x ≡ Some y → x ≡ y
        some_same x y q = cc
  at (inr ne) =
      let before : get_or s.threads u None ≡ Some a = sym (get_or-set_other s.threads t u (Some b) None ne) ∙ there in
      numbered-append done (call ∷ []) a.number (omega (arith, len, below u a before)) ∙ known u a before

replay_invoke : (catalogue : List Module) (workers : ℕ) (s : State) (t : ℕ) (call : Call) (steps : List Step) (i : ℕ) (done : List Call) → Later catalogue workers steps
    → IsSound catalogue workers s → length done ≡ s.invoked → IsNumbered done s → t < length s.threads
    → (o : Option Activity) → get_or s.threads t None ≡ o
    → IsSound catalogue workers (invoke s t call o).1 → StepLaw catalogue s (Invoke t call) (invoke s t call o).0 (invoke s t call o).1
    → IsAccepted catalogue (invoke s t call o).1 steps
    → replies catalogue (shown s) (map (λ p. call_numbered (done ++ invoked_call (Invoke t call) (invoke s t call o).0 (calls_of catalogue (invoke s t call o).1 steps)) p.call) (point_at i (invoke s t call o).0 (points_from (i + 1) (events catalogue (invoke s t call o).1 steps))))
    ≡ map (λ p. p.reply) (point_at i (invoke s t call o).0 (points_from (i + 1) (events catalogue (invoke s t call o).1 steps)))
replay_invoke catalogue workers s t call steps i done later sound len known room (Some a) here sound' keeps accepted = later s done (i + 1) sound len known accepted
replay_invoke catalogue workers s t call steps i done later sound len known room None here sound' keeps accepted =
    let all : (done ++ call ∷ []) ++ calls_of catalogue (invoke s t call None).1 steps ≡ done ++ call ∷ calls_of catalogue (invoke s t call None).1 steps = append_assoc done (call ∷ []) (calls_of catalogue (invoke s t call None).1 steps) in
    ap (λ (x : Table). replies catalogue x (map (λ p. call_numbered (done ++ call ∷ calls_of catalogue (invoke s t call None).1 steps) p.call) (points_from (i + 1) (events catalogue (invoke s t call None).1 steps)))) (sym keeps)
    ∙ subst (λ (calls : List Call). replies catalogue (shown (invoke s t call None).1) (map (λ p. call_numbered calls p.call) (points_from (i + 1) (events catalogue (invoke s t call None).1 steps))) ≡ map (λ p. p.reply) (points_from (i + 1) (events catalogue (invoke s t call None).1 steps))) all
    (later (invoke s t call None).1 (done ++ call ∷ []) (i + 1) sound' (length-append done (call ∷ []) ∙ omega (arith, len))
    (begun_numbered done s t call _ len refl refl room (λ u a there. (sound.placed u a there).number) known) accepted)

passes_thread : (b : Bool) (later : Option StepError) → unless b Thread later ≡ None → b ≡ true
passes_thread true later e = refl
passes_thread false later e = cc

pub thread_in_range : (catalogue : List Module) (s : State) (t : ℕ) (call : Call) → step_refusal catalogue s (Invoke t call) ≡ None → t < length s.threads
thread_in_range catalogue s t call e = ltb-true _ _ (passes_thread (ltb t (length s.threads)) _ e)

pub replay_from : (catalogue : List Module) (workers : ℕ) (steps : List Step) → Later catalogue workers steps
replay_from catalogue workers [] s done i sound len known accepted = refl
replay_from catalogue workers (Go t ∷ steps) s done i sound len known accepted =
    let right : IsSound catalogue workers (step catalogue s (Go t)).1 × StepLaw catalogue s (Go t) (step catalogue s (Go t)).0 (step catalogue s (Go t)).1 = steps_are_right catalogue workers s (Go t) sound accepted.0 in
    let keeps : KeepsCalls s (step catalogue s (Go t)).1 = go_keeps catalogue s t in
    point_replays catalogue workers (done ++ calls_of catalogue (step catalogue s (Go t)).1 steps) s (step catalogue s (Go t)).1 t i (step catalogue s (Go t)).0
    (points_from (i + 1) (events catalogue (step catalogue s (Go t)).1 steps)) right.1
    (λ a there. numbered-append done (calls_of catalogue (step catalogue s (Go t)).1 steps) a.number (omega (arith, len, (sound.placed t a there).number)) ∙ known t a there)
    (replay_from catalogue workers steps (step catalogue s (Go t)).1 done (i + 1) right.0 (len ∙ sym keeps.0) (still_numbered done s (step catalogue s (Go t)).1 keeps known) accepted.1)
replay_from catalogue workers (Invoke t call ∷ steps) s done i sound len known accepted =
    let right : IsSound catalogue workers (step catalogue s (Invoke t call)).1 × StepLaw catalogue s (Invoke t call) (step catalogue s (Invoke t call)).0 (step catalogue s (Invoke t call)).1 = steps_are_right catalogue workers s (Invoke t call) sound accepted.0 in
    replay_invoke catalogue workers s t call steps i done (replay_from catalogue workers steps) sound len known (thread_in_range catalogue s t call accepted.0) (get_or s.threads t None) refl right.0 right.1 accepted.1

-- the points of a run answer, in their order, what the one-thread table answers
pub runs_replay : (catalogue : List Module) (workers threads : ℕ) (steps : List Step) → workers < closed → IsRun catalogue workers threads steps
    → replies catalogue (opening catalogue workers) (map (λ p. call_numbered (run_calls catalogue workers threads steps) p.call) (run_points catalogue workers threads steps))
    ≡ map (λ p. p.reply) (run_points catalogue workers threads steps)
runs_replay catalogue workers threads steps few accepted =
    let opens : IsSound catalogue workers (start catalogue workers threads (length steps)) × (shown (start catalogue workers threads (length steps)) ≡ opening catalogue workers) = starts_sound catalogue workers threads (length steps) few in
    subst (λ (x : Table). replies catalogue x (map (λ p. call_numbered (calls_of catalogue (start catalogue workers threads (length steps)) steps) p.call) (points_from 0 (events catalogue (start catalogue workers threads (length steps)) steps))) ≡ map (λ p. p.reply) (points_from 0 (events catalogue (start catalogue workers threads (length steps)) steps)))
    opens.1
    (replay_from catalogue workers steps (start catalogue workers threads (length steps)) [] 0 opens.0 refl
    (λ t a there. absurd (nobody t a there)) accepted) where
      nobody : (t : ℕ) (a : Activity) → get_or (start catalogue workers threads (length steps)).threads t None ≡ Some a → ⊥
      nobody t a there = apart (sym (replicated threads t None) ∙ there) where
        apart : None ≡ Some a → ⊥
        apart q = cc

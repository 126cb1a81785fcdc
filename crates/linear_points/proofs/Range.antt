-- The calls of an accepted run are in range.
use Rattle.std.proofs.Common.{◌≡◌, ◌<◌, ℕ, Bool, true, false, List, [], ◌∷◌, cond, length, ltb, ltb-true, refl, arith}
use Rattle.std.specs.Prelude.{Option, Some, None, is_some}
use Rattle.dep_index.specs.declared.table.calls.Call.{Call}
use Rattle.dep_index.specs.Table.{Module}
use Rattle.dep_index.specs.Calls.{IsInRange, IsWorkerInRange, slot_of, worker_of}
use Rattle.dep_index.specs.Laws.{AllInRange}
use Rattle.step_core.specs.declared.steps.Step.{Step}
use Rattle.step_core.specs.declared.steps.Step.TheVariants.{Invoke, Go}
use Rattle.step_core.specs.declared.steps.Activity.{Activity}
use Rattle.step_core.specs.declared.steps.StepError.{StepError}
use Rattle.step_core.specs.declared.steps.StepError.TheVariants.{Worker, Slot, Calls}
use Rattle.step_core.specs.Machine.{State, step, step_refusal, activity, invoke, unless, worker_exists}
use Rattle.step_core.specs.Run.{IsAccepted, calls_of, invoked_call}
use Rattle.step_core.specs.StepLaw.{StepLaw}
use Rattle.step_core.specs.Sound.{IsSound}
use Rattle.step_core.proofs.WholeSteps.{steps_are_right}

passes : (b : Bool) (e : StepError) (later : Option StepError) → unless b e later ≡ None → (b ≡ true) × (later ≡ None)
passes true e later h = (refl, h)
passes false e later h = cc

in_range_from : (s : State) (workers : ℕ) (o : Option ℕ) → length s.written.rows ≡ workers → worker_exists s o ≡ true → IsWorkerInRange workers o
in_range_from s workers None rows e = tt
in_range_from s workers (Some w) rows e = let h : w < length s.written.rows = ltb-true _ _ e in omega (arith, h, rows)

invoked_range : (catalogue : List Module) (workers : ℕ) (s : State) (t : ℕ) (call : Call) → IsSound catalogue workers s → step_refusal catalogue s (Invoke t call) ≡ None → IsInRange (length catalogue) workers call
invoked_range catalogue workers s t call sound allowed =
    let one : (ltb t (length s.threads) ≡ true) × (unless (worker_exists s (worker_of call)) Worker (unless (ltb (slot_of call) (length catalogue)) Slot (cond (is_some (activity s t)) None (unless (ltb s.invoked s.calls) Calls None))) ≡ None) = passes _ _ _ allowed in
    let two : (worker_exists s (worker_of call) ≡ true) × (unless (ltb (slot_of call) (length catalogue)) Slot (cond (is_some (activity s t)) None (unless (ltb s.invoked s.calls) Calls None)) ≡ None) = passes _ _ _ one.1 in
    let three : (ltb (slot_of call) (length catalogue) ≡ true) × (cond (is_some (activity s t)) None (unless (ltb s.invoked s.calls) Calls None) ≡ None) = passes _ _ _ two.1 in
    (ltb-true _ _ three.0, in_range_from s workers (worker_of call) sound.shape.rows two.0)

begun : (catalogue : List Module) (workers : ℕ) (s : State) (t : ℕ) (call : Call) (o : Option Activity) (later : List Call) → IsInRange (length catalogue) workers call → AllInRange catalogue workers later
    → AllInRange catalogue workers (invoked_call (Invoke t call) (invoke s t call o).0 later)
begun catalogue workers s t call None later range rest = (range, rest)
begun catalogue workers s t call (Some a) later range rest = rest

pub calls_in_range : (catalogue : List Module) (workers : ℕ) (steps : List Step) (s : State) → IsSound catalogue workers s → IsAccepted catalogue s steps → AllInRange catalogue workers (calls_of catalogue s steps)
calls_in_range catalogue workers [] s sound accepted = tt
calls_in_range catalogue workers (Go t ∷ steps) s sound accepted =
    let right : IsSound catalogue workers (step catalogue s (Go t)).1 × StepLaw catalogue s (Go t) (step catalogue s (Go t)).0 (step catalogue s (Go t)).1 = steps_are_right catalogue workers s (Go t) sound accepted.0 in
    calls_in_range catalogue workers steps (step catalogue s (Go t)).1 right.0 accepted.1
calls_in_range catalogue workers (Invoke t call ∷ steps) s sound accepted =
    let right : IsSound catalogue workers (step catalogue s (Invoke t call)).1 × StepLaw catalogue s (Invoke t call) (step catalogue s (Invoke t call)).0 (step catalogue s (Invoke t call)).1 = steps_are_right catalogue workers s (Invoke t call) sound accepted.0 in
    begun catalogue workers s t call (activity s t) _ (invoked_range catalogue workers s t call sound accepted.0)
    (calls_in_range catalogue workers steps (step catalogue s (Invoke t call)).1 right.0 accepted.1)

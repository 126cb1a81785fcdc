-- There are as many calls as steps, so no step is refused for want of calls.
use Rattle.std.proofs.Common.{◌≡◌, ◌≢◌, ℕ, ◌+◌, ◌≤◌, Bool, true, false, eqb, ltb, cond, List, [], ◌∷◌, length, take, get_or, Option, Some, None, refl, ◌∙◌, ap, subst, arith}
use Rattle.std.proofs.lemmas.Bool.{ltb-false}
use Rattle.std.proofs.lemmas.List.{length-take-le}
use Rattle.std.specs.Prelude.{Result, Ok, Err, IfErr}
use Rattle.std.specs.Option.{is_some}
use Rattle.dep_index.specs.declared.words.Outcome.{Outcome}
use Rattle.dep_index.specs.declared.words.Outcome.TheVariants.{Effect, GoesOn}
use Rattle.dep_index.specs.Table.{Module}
use Rattle.dep_index.specs.Calls.{slot_of, worker_of}
use Rattle.dep_index.specs.Words.{word_step}
use Rattle.step_core.specs.declared.steps.Step.{Step}
use Rattle.step_core.specs.declared.steps.Step.TheVariants.{Invoke, Go}
use Rattle.step_core.specs.declared.steps.Line.{Line}
use Rattle.step_core.specs.declared.steps.Line.TheVariants.{Lock, Word, Exchange, Write, Return}
use Rattle.step_core.specs.declared.steps.Activity.{Activity}
use Rattle.step_core.specs.declared.steps.StepError.{StepError}
use Rattle.step_core.specs.declared.steps.StepError.TheVariants.{Thread, Worker, Slot, Calls}
use Rattle.step_core.specs.Machine.{State, Running, activity, line, locked, stepped, exchanged, go, invoke, step, step_refusal, holder, lock_of, unless, worker_exists}
use Rattle.step_core.specs.Run.{state_after}
use Rattle.linear_points.specs.declared.point.PointsError.{PointsError}
use Rattle.linear_points.specs.declared.point.PointsError.TheVariants as fault
use Rattle.linear_points.specs.Run.{run_start, IsRefusedFrom, IsRefusedAt}
use Rattle.linear_points.specs.Refused.{IsStepRefused, IsRefusal}

-- one call more is invoked at most, and as many may be
abbrev SpendsOne : State → State → Type 0
SpendsOne old new = (new.invoked ≤ old.invoked + 1) × (new.calls ≡ old.calls)

line_spends : (catalogue : List Module) (s : State) (t : ℕ) (a : Activity) (l : Line) → SpendsOne s (line catalogue s t a l).1
line_spends catalogue s t a Lock = at (is_some (holder s.locks (lock_of a.call))) where
  at : (b : Bool) → SpendsOne s (locked s t a b).1
  at true = (omega arith, refl)
  at false = (omega arith, refl)
line_spends catalogue s t a Word = at (word_step catalogue s.written a.call (get_or s.words (slot_of a.call) 0)).word (word_step catalogue s.written a.call (get_or s.words (slot_of a.call) 0)).outcome where
  at : (v : ℕ) (o : Outcome) → SpendsOne s (stepped s t a v o).1
  at v (Effect r) = (omega arith, refl)
  at v (GoesOn x) = (omega arith, refl)
line_spends catalogue s t a (Exchange x) = at (eqb (get_or s.words (slot_of a.call) 0) x) where
  at : (b : Bool) → SpendsOne s (exchanged s t a x b).1
  at true = (omega arith, refl)
  at false = (omega arith, refl)
line_spends catalogue s t a Write = (omega arith, refl)
line_spends catalogue s t a (Return r) = (omega arith, refl)

step_spends : (catalogue : List Module) (s : State) (x : Step) → SpendsOne s (step catalogue s x).1
step_spends catalogue s (Go t) = at (activity s t) where
  at : (o : Option Activity) → SpendsOne s (go catalogue s t o).1
  at None = (omega arith, refl)
  at (Some a) = line_spends catalogue s t a a.line
step_spends catalogue s (Invoke t call) = at (activity s t) where
  at : (o : Option Activity) → SpendsOne s (invoke s t call o).1
  at None = (omega arith, refl)
  at (Some a) = (omega arith, refl)

-- a run has invoked no more calls than it made steps
spent : (catalogue : List Module) (steps : List Step) (s : State)
    → ((state_after catalogue s steps).invoked ≤ s.invoked + length steps) × ((state_after catalogue s steps).calls ≡ s.calls)
spent catalogue [] s = (omega arith, refl)
spent catalogue (x ∷ steps) s =
    let one : SpendsOne s (step catalogue s x).1 = step_spends catalogue s x in
    let rest : ((state_after catalogue (step catalogue s x).1 steps).invoked ≤ (step catalogue s x).1.invoked + length steps) × ((state_after catalogue (step catalogue s x).1 steps).calls ≡ (step catalogue s x).1.calls) = spent catalogue steps (step catalogue s x).1 in
    (omega (arith, one.0, rest.0), rest.1 ∙ one.1)

-- another cause comes first, or else what follows is the cause
passed_on : (b : Bool) (e : StepError) (later : Option StepError) → (e ≡ Calls → ⊥) → unless b e later ≡ Some Calls → later ≡ Some Calls
passed_on true e later other h = h
passed_on false e later other h = absurd (other (same e h)) where
  same : (x : StepError) → Some x ≡ Some Calls → x ≡ Calls
  same x q = cc

none_left : (s : State) (busy : Bool) → cond busy None (unless (ltb s.invoked s.calls) Calls None) ≡ Some Calls → s.calls ≤ s.invoked
none_left s true h = absurd (apart h) where
  apart : None ≡ Some Calls → ⊥
  apart q = cc
none_left s false h = at (ltb s.invoked s.calls) refl h where
  at : (b : Bool) → ltb s.invoked s.calls ≡ b → unless b Calls None ≡ Some Calls → s.calls ≤ s.invoked
  at true e q = absurd (apart q) where
    apart : None ≡ Some Calls → ⊥
    apart f = cc
  at false e q = ltb-false s.invoked s.calls e

calls_spent : (catalogue : List Module) (s : State) (x : Step) → step_refusal catalogue s x ≡ Some Calls → s.calls ≤ s.invoked
calls_spent catalogue s (Go t) h = absurd (apart (passed_on (ltb t (length s.threads)) Thread None no_thread h)) where
  no_thread : Thread ≡ Calls → ⊥
  no_thread q = cc

  apart : None ≡ Some Calls → ⊥
  apart q = cc
calls_spent catalogue s (Invoke t call) h =
    none_left s (is_some (activity s t))
    (passed_on (ltb (slot_of call) (length catalogue)) Slot _ no_slot
    (passed_on (worker_exists s (worker_of call)) Worker _ no_worker (passed_on (ltb t (length s.threads)) Thread _ no_thread h))) where
      no_thread : Thread ≡ Calls → ⊥
      no_thread q = cc

      no_worker : Worker ≡ Calls → ⊥
      no_worker q = cc

      no_slot : Slot ≡ Calls → ⊥
      no_slot q = cc

pub never_calls : (catalogue : List Module) (workers threads : ℕ) (steps : List Step) (i : ℕ) (cause : StepError) → IsRefusedAt catalogue workers threads steps i cause → cause ≢ Calls
never_calls catalogue workers threads steps i cause refused is =
    let few : ((state_after catalogue (run_start catalogue workers threads steps) (take i steps)).invoked ≤ 0 + length (take i steps)) × ((state_after catalogue (run_start catalogue workers threads steps) (take i steps)).calls ≡ length steps) = spent catalogue (take i steps) (run_start catalogue workers threads steps) in
    let none : (state_after catalogue (run_start catalogue workers threads steps) (take i steps)).calls ≤ (state_after catalogue (run_start catalogue workers threads steps) (take i steps)).invoked =
    calls_spent catalogue (state_after catalogue (run_start catalogue workers threads steps) (take i steps)) _ (refused.2 ∙ ap (λ (e : StepError). Some e) is) in
    omega (arith, few.0, few.1, none, refused.0, length-take-le i steps (omega (arith, refused.0)))

-- what a machine in the opening state refuses
pub refusal : (catalogue : List Module) (workers threads : ℕ) (steps : List Step) (machine : Running) (error : PointsError) → machine.catalogue ≡ catalogue → machine.state ≡ run_start catalogue workers threads steps
    → IsStepRefused machine.catalogue machine.state steps error → IsRefusal catalogue workers threads steps error
refusal catalogue workers threads steps machine (fault.Step i cause) over state refused =
    let here : IsRefusedAt catalogue workers threads steps i cause =
    subst (λ (s : State). IsRefusedFrom catalogue s steps i cause) state (subst (λ (c : List Module). IsRefusedFrom c machine.state steps i cause) over refused) in
    (here, never_calls catalogue workers threads steps i cause here)
refusal catalogue workers threads steps machine fault.Memory over state refused = tt

pub refusals : {T : Type 0} → (catalogue : List Module) (workers threads : ℕ) (steps : List Step) (machine : Running) (outcome : Result T PointsError) → machine.catalogue ≡ catalogue
    → machine.state ≡ run_start catalogue workers threads steps → IfErr outcome (IsStepRefused machine.catalogue machine.state steps) → IfErr outcome (IsRefusal catalogue workers threads steps)
refusals catalogue workers threads steps machine (Ok x) over state refused = tt
refusals catalogue workers threads steps machine (Err e) over state refused = refusal catalogue workers threads steps machine e over state refused

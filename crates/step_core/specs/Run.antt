-- Runs of the machine.
use Rattle.std.specs.Prelude.{◌≡◌, ℕ, List, [], ◌∷◌, slice_index_or, None}
use Rattle.dep_index.specs.declared.table.calls.Call.{Call}
use Rattle.dep_index.specs.declared.table.calls.Call.TheVariants.{InUse as Query}
use Rattle.dep_index.specs.Table.{Module}
use Rattle.step_core.specs.declared.steps.Step.{Step}
use Rattle.step_core.specs.declared.steps.Step.TheVariants.{Invoke}
use Rattle.step_core.specs.declared.steps.Event.{Event}
use Rattle.step_core.specs.declared.steps.Event.TheVariants.{Invoked}
use Rattle.step_core.specs.Machine.{State, step, step_refusal}

-- no step is refused
abbrev pub IsAccepted : List Module → State → List Step → Type 0
IsAccepted catalogue state [] = Unit {0}
IsAccepted catalogue state (s ∷ steps) =
    (step_refusal catalogue state s ≡ None) × IsAccepted catalogue (step catalogue state s).1 steps

-- what the steps come to, one event a step
abbrev pub events : List Module → State → List Step → List Event
events catalogue state [] = []
events catalogue state (s ∷ steps) =
    (step catalogue state s).0 ∷ events catalogue (step catalogue state s).1 steps

abbrev pub state_after : List Module → State → List Step → State
state_after catalogue state [] = state
state_after catalogue state (s ∷ steps) = state_after catalogue (step catalogue state s).1 steps

-- the calls of a run in the order in which they were invoked: a call's number is its place
abbrev pub invoked_call : Step → Event → List Call → List Call
invoked_call (Invoke t call) (Invoked n) later = call ∷ later
invoked_call s e later = later

abbrev pub calls_of : List Module → State → List Step → List Call
calls_of catalogue state [] = []
calls_of catalogue state (s ∷ steps) =
    invoked_call s (step catalogue state s).0 (calls_of catalogue (step catalogue state s).1 steps)

abbrev pub call_numbered : List Call → ℕ → Call
call_numbered calls n = slice_index_or calls n (Query 0)

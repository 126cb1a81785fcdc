-- Which schedule an input is.
use Rattle.std.specs.Prelude.{ℕ, ◌+◌, nat_le, if◌then◌else◌, List, [], ◌∷◌, ◌++◌, length, replicate, codes, Option, Some, None, Result, Ok, Err}
use Rattle.text_parts.specs.Text.{normal_form}
use Rattle.dep_index.specs.Catalogue.{Description, slot_named}
use Rattle.step_core.specs.declared.steps.Step.{Step}
use Rattle.step_core.specs.declared.steps.Step.TheVariants.{Invoke, Go}
use Rattle.workload_drive.specs.declared.fault.LineCode.TheVariants.{H2, H3}
use Rattle.workload_drive.specs.declared.fault.LineFault.{LineFault}
use Rattle.call_words.specs.declared.verb.Verb.{Verb}
use Rattle.call_words.specs.Calls.{call_on}
use Rattle.workload_drive.specs.Faults.{◌>>=◌, fault_at, bad_line}
use Rattle.workload_drive.specs.Statements.{Statement, Parts, parts_of, setting, marked}
use Rattle.workload_drive.specs.Schedule.Orders.{Order, go, make, order_of}

-- the steps of threads over a catalogue, and how many workers and threads there are
pub record Schedule : Type 0 where
  pub catalogue : List Description
  pub workers : ℕ
  pub threads : ℕ
  pub steps : List Step

-- a name outside the catalogue comes before too many steps
abbrev pub invoked : ℕ → ℕ → Verb → Option ℕ → Result (List Step) LineFault
invoked line t verb None = Err (fault_at H2 line)
invoked line t verb (Some slot) = Ok (Invoke t (call_on verb slot) ∷ [])

-- the steps of an order to a thread, at this line
abbrev pub ordered : List Description → ℕ → ℕ → Order → Result (List Step) LineFault
ordered modules line t (go n) = Ok (replicate n (Go t))
ordered modules line t (make verb name) = invoked line t verb (slot_named modules (normal_form name))

-- at most 1,000,000 steps
abbrev pub behind_steps : List Step → ℕ → Result (List Step) LineFault → Result (List Step) LineFault
behind_steps steps line (Err e) = Err e
behind_steps steps line (Ok more) =
    if nat_le (length steps + length more) 1000000 then Ok (steps ++ more) else Err (fault_at H3 line)

abbrev pub by_order : List Description → List Step → ℕ → Option ℕ → Option Order → Result (List Step) LineFault
by_order modules steps line (Some t) (Some order) = behind_steps steps line (ordered modules line t order)
by_order modules steps line _ _ = Err (bad_line line)

-- a statement is a thread, as `t0`, and an order
abbrev pub by_words : List Description → List Step → ℕ → List (List ℕ) → Result (List Step) LineFault
by_words modules steps line [] = Err (bad_line line)
by_words modules steps line (thread ∷ words) = by_order modules steps line (marked 116 thread) (order_of words)

-- the steps of statements, after earlier steps
abbrev pub steps_of : List Description → List Step → List Statement → Result (List Step) LineFault
steps_of modules steps [] = Ok steps
steps_of modules steps (said ∷ later) = by_words modules steps said.number said.words >>= λ more. steps_of modules more later

abbrev pub made_schedule : List Description → ℕ → ℕ → List Step → Schedule
made_schedule modules workers threads steps =
    record { catalogue = modules; workers = workers; threads = threads; steps = steps }

abbrev pub with_threads : List Description → ℕ → ℕ × List Statement → Result Schedule LineFault
with_threads modules workers found =
    steps_of modules [] found.1 >>= λ steps. Ok (made_schedule modules workers found.0 steps)

abbrev pub with_workers : List Description → ℕ → ℕ × List Statement → Result Schedule LineFault
with_workers modules end found = setting (codes "threads") end found.1 >>= with_threads modules found.0

-- the schedule of the parts of an input
abbrev pub schedule_by : Parts → Result Schedule LineFault
schedule_by p = setting (codes "workers") p.end p.statements >>= with_workers p.catalogue p.end

-- the schedule of an input, or its first faulty line
unfoldable pub schedule_of : List ℕ → Result Schedule LineFault
schedule_of input = parts_of (codes "%schedule") input >>= schedule_by

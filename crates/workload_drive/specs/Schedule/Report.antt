-- The report of a schedule: a line for each call of its run.
use Rattle.std.specs.Prelude.{◌≡◌, ◌≢◌, ℕ, ◌+◌, ◌==◌, List, [], ◌∷◌, ◌++◌}
use Rattle.std.specs.Prelude.{codes, decimal, find, slice_index_or, unwrap_or, Option, Some, None, Err, IsOkAnd}
use Rattle.dep_index.specs.declared.table.calls.Call.{Call}
use Rattle.dep_index.specs.Calls.{slot_of}
use Rattle.dep_index.specs.Catalogue.{Description, description_at, modules_of}
use Rattle.call_words.specs.Replies.{reply_in, reply_text}
use Rattle.call_words.specs.Calls as calls
use Rattle.call_words.specs.Calls.{verb_in}
use Rattle.step_core.specs.declared.steps.Step.{Step}
use Rattle.step_core.specs.declared.steps.Step.TheVariants.{Invoke, Go}
use Rattle.step_core.specs.declared.steps.Event.{Event}
use Rattle.step_core.specs.declared.steps.StepError.TheVariants.{Calls}
use Rattle.linear_points.specs.declared.point.Point.{Point}
use Rattle.linear_points.specs.Run.{IsRun, IsRefusedAt, run_events, run_calls, run_points}
use Rattle.linear_points.specs.Linearization.{first_step, last_step}
use Rattle.workload_drive.specs.declared.fault.ScheduleFault.{ScheduleFault}
use Rattle.workload_drive.specs.declared.fault.ScheduleFault.TheVariants as fault
use Rattle.workload_drive.specs.Schedule.Steps.{Schedule, schedule_of}

abbrev pub name_at : List Description → ℕ → List ℕ
name_at modules slot = (description_at modules slot).name

-- a call as a schedule has it, its module's name in normal form
abbrev pub call_text : List Description → Call → List ℕ
call_text modules made = calls.call_text (verb_in made) (name_at modules (slot_of made))

-- the thread that makes a step
abbrev pub thread_of : Step → ℕ
thread_of (Invoke t call) = t
thread_of (Go t) = t

-- a number, or `-`
abbrev pub number_text : Option ℕ → List ℕ
number_text None = codes "-"
number_text (Some n) = decimal n

-- the point of the call of this number
abbrev pub point_of : List Point → ℕ → Option Point
point_of points n = find (λ (p : Point). p.call == n) points

-- where a call takes effect and what it answers there
abbrev pub point_text : Option Point → List ℕ
point_text None = codes "- reply -"
point_text (Some p) = decimal p.index ++ (codes " reply " ++ reply_text (reply_in p.reply))

-- a call with its number and its thread
abbrev pub call_head : List Description → ℕ → ℕ → Call → List ℕ
call_head modules n t made =
    codes "call " ++ (decimal n ++ (codes " t" ++ (decimal t ++ (codes " " ++ call_text modules made))))

-- the indices of a call's first and last step
abbrev pub steps_text : ℕ → Option ℕ → List ℕ
steps_text first last = codes " first " ++ (decimal first ++ (codes " last " ++ number_text last))

-- the line of a call
abbrev pub call_line : List Description → ℕ → ℕ → Call → ℕ → Option ℕ → Option Point → List ℕ
call_line modules n t made first last point =
    call_head modules n t made ++ (steps_text first last ++ (codes " point " ++ (point_text point ++ codes "\n")))

-- the step at which a call is invoked
abbrev pub first_of : List Event → ℕ → ℕ
first_of es n = unwrap_or (first_step es n) 0

-- the line of the call of this number in a run of these events and points
abbrev pub line_of : Schedule → List Event → List Point → ℕ → Call → List ℕ
line_of s es points n made =
    call_line s.catalogue n (thread_of (slice_index_or s.steps (first_of es n) (Go 0))) made (first_of es n) (last_step es n) (point_of points n)

-- the lines of calls, of which the first has the number n
abbrev pub lines_from : Schedule → List Event → List Point → ℕ → List Call → List ℕ
lines_from s es points n [] = []
lines_from s es points n (made ∷ calls) = line_of s es points n made ++ lines_from s es points (n + 1) calls

-- the report of a schedule: the calls of its run, with their steps and their points
abbrev pub report_of : Schedule → List ℕ
report_of s =
    lines_from s
    (run_events (modules_of s.catalogue) s.workers s.threads s.steps)
    (run_points (modules_of s.catalogue) s.workers s.threads s.steps)
    0
    (run_calls (modules_of s.catalogue) s.workers s.threads s.steps)

-- the machine accepts all steps of the schedule, and the text is its report
abbrev pub IsReport : List ℕ → Schedule → Type 0
IsReport text s = IsRun (modules_of s.catalogue) s.workers s.threads s.steps × (text ≡ report_of s)

-- the input is a schedule of which this is the report
abbrev pub Reports : List ℕ → List ℕ → Type 0
Reports input text = IsOkAnd (schedule_of input) (IsReport text)

-- why an input has no report: a line is the first faulty one; or no line is faulty, and the machine accepts all steps
-- before this one and refuses it. Out of memory says nothing of the input
abbrev pub Refuses : List ℕ → ScheduleFault → Type 0
Refuses input (fault.Line f) = schedule_of input ≡ Err f
Refuses input (fault.Step index cause) =
    IsOkAnd (schedule_of input) (λ s.
    IsRefusedAt (modules_of s.catalogue) s.workers s.threads s.steps index cause × (cause ≢ Calls))
Refuses input fault.Memory = Unit {0}

-- What the events of a run say of the next step, and of points. It serves proofs alone.
use Rattle.std.specs.Prelude.{◌≡◌, ℕ, ◌+◌, ◌<◌, List, [], ◌∷◌, ◌++◌, map, slice_set, slice_index_or, Some, None, is_some, if◌then◌else◌}
use Rattle.dep_index.specs.declared.table.calls.Call.{Call}
use Rattle.dep_index.specs.declared.table.calls.Call.TheVariants.{InUse as Query}
use Rattle.dep_index.specs.declared.table.calls.Reply.{Reply}
use Rattle.step_core.specs.declared.steps.Step.{Step}
use Rattle.step_core.specs.declared.steps.Step.TheVariants.{Invoke, Go}
use Rattle.step_core.specs.declared.steps.Event.{Event}
use Rattle.step_core.specs.declared.steps.Event.TheVariants.{Invoked, Returned}
use Rattle.step_core.specs.Run.{invoked_call, call_numbered}
use Rattle.linear_points.specs.declared.point.Point.{Point}
use Rattle.linear_points.specs.declared.intervals.Interval.{Interval}

-- the calls that steps with these events make
abbrev pub calls_made : List Step → List Event → List Call
calls_made (s ∷ steps) (e ∷ es) = invoked_call s e (calls_made steps es)
calls_made steps es = []

abbrev pub IsInvoke : Step → Type 0
IsInvoke (Invoke t call) = Unit {0}
IsInvoke (Go t) = ⊥

-- if n calls were invoked before, the event numbers a new call n, and only one of the n returns
abbrev pub NumbersCall : ℕ → Step → Event → Type 0
NumbersCall n s (Invoked k) = (k ≡ n) × IsInvoke s
NumbersCall n s (Returned k r) = k < n
NumbersCall n s e = Unit {0}

abbrev pub invoked_after : ℕ → Event → ℕ
invoked_after n (Invoked k) = n + 1
invoked_after n e = n

-- these are events of these steps, one event a step, if n calls were invoked before
abbrev pub AreNumberedFrom : ℕ → List Step → List Event → Type 0
AreNumberedFrom n [] [] = Unit {0}
AreNumberedFrom n (s ∷ steps) (e ∷ es) = NumbersCall n s e × AreNumberedFrom (invoked_after n e) steps es
AreNumberedFrom n steps es = ⊥

-- the call returns at this step, if it did not before
abbrev pub with_end : Interval → ℕ → Reply → Interval
with_end interval index reply =
    record interval { end = if is_some interval.end then interval.end else Some (record { index = index; reply = reply }) }

abbrev pub no_interval : Interval
no_interval = record { call = Query 0; first = 0; end = None }

abbrev pub noted_call : List Interval → ℕ → Step → List Interval
noted_call intervals index (Invoke t call) = intervals ++ record { call = call; first = index; end = None } ∷ []
noted_call intervals index (Go t) = intervals

-- the intervals with one event more: a call that is invoked gets one, and a call that returns ends its own
abbrev pub noted : List Interval → ℕ → Step → Event → List Interval
noted intervals index s (Invoked k) = noted_call intervals index s
noted intervals index s (Returned k r) = slice_set intervals k (with_end (slice_index_or intervals k no_interval) index r)
noted intervals index s e = intervals

abbrev pub ReturnsBelow : ℕ → Event → Type 0
ReturnsBelow n (Returned k r) = k < n
ReturnsBelow n e = Unit {0}

-- the calls of points
abbrev pub calls_at : List Call → List Point → List Call
calls_at calls points = map (λ (p : Point). call_numbered calls p.call) points

-- How the program ends.
use Rattle.std.specs.Prelude.{◌≡◌, ◌≢◌, ℕ, nat_lt, ◌==◌, Bool, true, false, not, ◌&&◌, ◌||◌, List, Option, Some, if◌then◌else◌, Result, Ok, Err}
use Rattle.modprobe.specs.declared.fault.ServeFault.{ServeFault}
use Rattle.modprobe.specs.declared.fault.ServeFault.TheVariants as serve_fault
use Rattle.modprobe.specs.declared.fault.SetupCode.{SetupCode}
use Rattle.modprobe.specs.declared.fault.SetupCode.TheVariants.{Read, Memory, Turns, LongLine}
use Rattle.modprobe.specs.Lines.{IfTold}
use Rattle.modprobe.specs.Serve.{AnswersInput, CountsErrors, ServeStands}
use Rattle.program_frame.specs.Ends.{number_of}
use Rattle.program_frame.specs.declared.status.Status.{Status}
use Rattle.program_frame.specs.declared.status.Status.TheVariants.{Done, ErrorReply, Refused, Fault}

-- the code of a fault; the others say what is wrong with a text
abbrev pub is_fault : SetupCode → Bool
is_fault Read = true
is_fault Memory = true
is_fault Turns = true
is_fault LongLine = true
is_fault _ = false

-- a text that is wrong is refused
abbrev pub setup_status : SetupCode → Status
setup_status code = if is_fault code then Fault else Refused

-- the status after a fault of a session
abbrev pub status_of : ServeFault → Status
status_of (serve_fault.Setup fault) = setup_status fault.code
status_of (serve_fault.Run fault) = Fault
status_of serve_fault.Memory = Fault

-- the status after a lint that told so many notes
abbrev pub status_of_lint : ℕ → Status
status_of_lint notes = if notes == 0 then Done else ErrorReply

-- the status after a session with so many error replies: these count if that is asked for, and so does an input without a session
abbrev pub status_after : Result ℕ ServeFault → Bool → Bool → Status
status_after (Ok errors) fail has_session = if fail && (nat_lt 0 errors || not has_session) then ErrorReply else Done
status_after (Err fault) fail has_session = status_of fault

-- a session of so many workers over an input stopped at a fault that has this status
abbrev pub StopsAs : ℕ → List ℕ → Option (List ℕ) → Option (List ℕ) → Status → Type 0
StopsAs workers input held written status =
    (fault : ServeFault) × (ungiven : Option (List ℕ)) × (status ≡ status_of fault) × ServeStands workers fault (Some input) ungiven held written

-- How a run over an input ends with each status: all of it was answered, and with 0 no error counts; or it stopped at a
-- fault. What people are told, and whether they asked for more, is no part of it.
abbrev pub Ends : ℕ → Bool → List ℕ → Option (List ℕ) → Option (List ℕ) → Status → Type 0
Ends workers fail input held written Done =
    AnswersInput workers input held written × (fail ≡ true → CountsErrors workers input 0)
Ends workers fail input held written ErrorReply = AnswersInput workers input held written × (fail ≡ true)
Ends workers fail input held written Refused = StopsAs workers input held written Refused
Ends workers fail input held written Fault = StopsAs workers input held written Fault

-- the same of a program without arguments, which has one worker and for which no error counts
abbrev pub EndsPlainly : Option (List ℕ) → Option (List ℕ) → Option (List ℕ) → ℕ → Type 0
EndsPlainly told held written number =
    (status : Status) × (number ≡ number_of status) × (status ≢ ErrorReply) × IfTold told (λ input. Ends 1 false input held written status)

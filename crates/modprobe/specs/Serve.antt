-- What a whole session answers.
use Rattle.std.specs.Prelude.{◌≡◌, ℕ, ◌-◌, ◌^◌, min, Bool, false, List, Option, Some, Result, Ok, Err}
use Rattle.std.specs.Io.KnownBytes.{Appends, Keeps}
use Rattle.text_parts.specs.Text.{Line, cut_lines}
use Rattle.dep_index.specs.Table.{Table}
use Rattle.dep_index.specs.Catalogue.{modules_of}
use Rattle.dep_index.specs.Calls.{opening}
use Rattle.modprobe.specs.declared.fault.ServeFault.{ServeFault}
use Rattle.modprobe.specs.declared.fault.ServeFault.TheVariants as serve_fault
use Rattle.modprobe.specs.declared.fault.RunFault.{RunFault}
use Rattle.modprobe.specs.Lines.{IfTold, AtHand, texts}
use Rattle.modprobe.specs.Setup.{Setup}
use Rattle.modprobe.specs.Session.{answer, error_count}
use Rattle.modprobe.specs.SetupInput.{setup_of, Refuses, SetupStops}
use Rattle.modprobe.specs.Run.{AllShort, StandsAfter, is_read, is_write, is_turns}
use Rattle.modprobe.specs.ForProofs.{is_read_code, is_turns_code}

-- the opening table of a setup: every module is absent, and nothing is held
abbrev pub opening_of : Setup → ℕ → Table
opening_of s workers = opening (modules_of s.catalogue) workers

-- the input has a setup, all lines of its session are short, and what was written grew by the answer to them
abbrev pub AnswersInput : ℕ → List ℕ → Option (List ℕ) → Option (List ℕ) → Type 0
AnswersInput workers input held written =
    (s : Setup) × (session : List Line) × (setup_of input ≡ Ok (s, session)) × AllShort (texts session)
    × Appends held written (answer s (opening_of s workers) (texts session)).0

-- the input has a setup, and of the replies to its session so many are errors, where 2^64 - 1 stand for all that are more
abbrev pub CountsErrors : ℕ → List ℕ → ℕ → Type 0
CountsErrors workers input errors =
    (s : Setup) × (session : List Line) × (setup_of input ≡ Ok (s, session))
    × (errors ≡ min (error_count s (opening_of s workers) (texts session)) (2 ^ 64 - 1))

-- the input has a setup, and its session stopped as a run does
abbrev pub StopsInSession : ℕ → RunFault → List ℕ → Option (List ℕ) → Option (List ℕ) → Option (List ℕ) → Type 0
StopsInSession workers fault input ungiven held written =
    (s : Setup) × (session : List ℕ) × (setup_of input ≡ Ok (s, cut_lines session))
    × ((hand : AtHand) × (table : Table) × (hand.ungiven ≡ ungiven)
    × StandsAfter fault s (opening_of s workers) (Some session) hand held written table)

-- what stands after each fault: if the session has not begun, nothing was written
abbrev pub ServeStands : ℕ → ServeFault → Option (List ℕ) → Option (List ℕ) → Option (List ℕ) → Option (List ℕ) → Type 0
ServeStands workers (serve_fault.Setup fault) told ungiven held written =
    Keeps held written × IfTold told (λ input. Refuses fault (setup_of input))
    × ((line : List ℕ) × SetupStops fault.code told ungiven line)
ServeStands workers (serve_fault.Run fault) told ungiven held written =
    IfTold told (λ input. StopsInSession workers fault input ungiven held written)
ServeStands workers serve_fault.Memory told ungiven held written = Keeps held written

abbrev pub is_read_end : ServeFault → Bool
is_read_end (serve_fault.Setup fault) = is_read_code fault.code
is_read_end (serve_fault.Run fault) = is_read {X = Unit {0}} (Err fault)
is_read_end serve_fault.Memory = false

abbrev pub is_write_end : ServeFault → Bool
is_write_end (serve_fault.Setup fault) = false
is_write_end (serve_fault.Run fault) = is_write {X = Unit {0}} (Err fault)
is_write_end serve_fault.Memory = false

-- the answer is that the source failed, or the sink
abbrev pub failed_reading : {X : Type 0} → Result X ServeFault → Bool
failed_reading (Ok x) = false
failed_reading (Err fault) = is_read_end fault

abbrev pub failed_writing : {X : Type 0} → Result X ServeFault → Bool
failed_writing (Ok x) = false
failed_writing (Err fault) = is_write_end fault

abbrev pub is_turns_end : ServeFault → Bool
is_turns_end (serve_fault.Setup fault) = is_turns_code fault.code
is_turns_end (serve_fault.Run fault) = is_turns fault
is_turns_end serve_fault.Memory = false

-- the answer is that the source was read too often
abbrev pub ran_out_of_turns : {X : Type 0} → Result X ServeFault → Bool
ran_out_of_turns (Ok x) = false
ran_out_of_turns (Err fault) = is_turns_end fault

-- What a session writes, and which calls its table has had.
use Rattle.std.specs.Prelude.{◌≡◌, ℕ, List, [], ◌++◌, Result, Ok, Err, Option, Some, None}
use Rattle.std.specs.Io.KnownBytes.{Appends}
use Rattle.dep_index.specs.declared.table.calls.Call.{Call}
use Rattle.dep_index.specs.Table.{Table}
use Rattle.dep_index.specs.Catalogue.{modules_of}
use Rattle.dep_index.specs.Calls.{after}
use Rattle.dep_index.specs.Laws.{AllInRange, IsLawful}
use Rattle.text_parts.specs.Text.{Line}
use Rattle.modprobe.specs.Lines.{texts}
use Rattle.modprobe.specs.Setup.{Setup}
use Rattle.modprobe.specs.Session.{answer}
use Rattle.modprobe.specs.Serve.{opening_of}
use Rattle.modprobe.specs.SetupInput.{SetupRefusal, setup_of}

abbrev pub output_of : ℕ → Result (Setup × List Line) SetupRefusal → Option (List ℕ)
output_of workers (Ok p) = Some (answer p.0 (opening_of p.0 workers) (texts p.1)).0
output_of workers (Err e) = None

-- what a session writes, a function of its input and the number of workers; None, if the input has no setup
abbrev pub output : ℕ → List ℕ → Option (List ℕ)
output workers input = output_of workers (setup_of input)

-- the bytes are a beginning of the output; if there is none, there are no bytes
abbrev pub IsBeginning : List ℕ → Option (List ℕ) → Type 0
IsBeginning bytes None = bytes ≡ []
IsBeginning bytes (Some whole) = (rest : List ℕ) × (whole ≡ bytes ++ rest)

-- what was written is a beginning of the output that belongs to the input
abbrev pub WritesBeginning : ℕ → List ℕ → Option (List ℕ) → Option (List ℕ) → Type 0
WritesBeginning workers input held written =
    (bytes : List ℕ) × Appends held written bytes × IsBeginning bytes (output workers input)

-- the table was reached from the opening one by calls in range
pub record IsReached (s : Setup) (workers : ℕ) (t : Table) : Type 0 where
  pub calls : List Call
  pub range : AllInRange (modules_of s.catalogue) workers calls
  pub reached : t ≡ after (modules_of s.catalogue) (opening_of s workers) calls

-- the table after a session of whatever lines is reached by calls in range
abbrev pub SessionsMakeCalls : Type 0
SessionsMakeCalls =
    (s : Setup) (workers : ℕ) (lines : List (List ℕ)) → IsReached s workers (answer s (opening_of s workers) lines).1

-- and so the laws of the one-thread table hold of it
abbrev pub SessionsAreLawful : Type 0
SessionsAreLawful =
    (s : Setup) (workers : ℕ) (lines : List (List ℕ))
    → IsLawful (modules_of s.catalogue) (answer s (opening_of s workers) lines).1

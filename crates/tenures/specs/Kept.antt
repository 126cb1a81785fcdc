-- What a file has to stand for after tenures, whatever was cut off when.
use Rattle.std.specs.Prelude.{◌≡◌, ℕ, false, List, [], ◌∷◌, ◌++◌}
use Rattle.dep_index.specs.Table.{state_of, is_held, takes_references}
use Rattle.line_journal.specs.Device.{History}
use Rattle.modprobe.specs.Setup.{Setup}
use Rattle.held_table.specs.Held.{Held}
use Rattle.held_lines.specs.Outcomes.{after}
use Rattle.durable_table.specs.Tables.{opening_of}
use Rattle.durable_table.specs.Durable.{FileStands}
use Rattle.durable_table.specs.Groups.{KeepsHeldAlong}
use Rattle.tenures.specs.Tenures.{Tenure, IsOneList}

-- this list is one list of commands for the tenures, and leads from an empty table to this one
pub record LeadsTo (s : Setup) (tenures : List Tenure) (commands : List (List ℕ)) (h : Held) : Type 0 where
  pub one : IsOneList s (opening_of s) tenures commands
  pub held : KeepsHeldAlong s (opening_of s) commands
  pub leads : h ≡ after s (opening_of s) commands

-- The file keeps what tenures did: it stands for the table after one list of their commands.
pub record Keeps (s : Setup) (tenures : List Tenure) (file : List ℕ) : Type 0 where
  pub commands : List (List ℕ)
  pub table : Held
  pub leads : LeadsTo s tenures commands table
  pub stands : FileStands s table file

-- each file that a crash now may leave keeps what tenures did
abbrev pub IsKept : Setup → List Tenure → History → Type 0
IsKept s tenures history = (file : List ℕ) → history.leaves file → Keeps s tenures file

-- each file that a crash from that moment on may have left keeps what tenures did
abbrev pub IsKeptSince : Setup → List Tenure → History → ℕ → Type 0
IsKeptSince s tenures history moment = (file : List ℕ) → history.left_since moment file → Keeps s tenures file

-- in a list of commands, one that takes a module away found no holder of it
abbrev pub RemovesUnheld : Setup → Held → List (List ℕ) → Type 0
RemovesUnheld s h commands =
    (before later : List (List ℕ)) (command : List ℕ) (m : ℕ) → commands ≡ before ++ command ∷ later
    → takes_references (state_of (after s h (before ++ command ∷ [])).table.book m) ≡ false
    → is_held (after s h before).table m ≡ false

abbrev pub RemovalsFindNoHolder : Type 0
RemovalsFindNoHolder = (s : Setup) (h : Held) (commands : List (List ℕ)) → KeepsHeldAlong s h commands → RemovesUnheld s h commands

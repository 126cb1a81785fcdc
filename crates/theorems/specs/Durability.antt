-- What a file stands for after tenures: durable linearizability (Izraelevitz, Mendes, Scott, Linearizability of persistent memory objects
-- under a full-system-crash failure model, DISC 2016).
use Rattle.std.specs.Prelude.{ℕ, List}
use Rattle.modprobe.specs.Setup.{Setup}
use Rattle.held_lines.specs.Outcomes.{after}
use Rattle.durable_table.specs.Tables.{opening_of}
use Rattle.durable_table.specs.Durable.{FileStands}
use Rattle.tenures.specs.Tenures.{Tenure, IsOneList}
use Rattle.tenures.specs.Kept.{RemovesUnheld}

-- The file stands for the table after one list of the tenures' commands: each whose reply was begun once, in the order of the replies, which are
-- those of the table there; and of the others only commands of one group of a tenure. What takes a module away found no holder of it.
pub record IsDurablyLinearized (s : Setup) (tenures : List Tenure) (file : List ℕ) : Type 0 where
  pub commands : List (List ℕ)
  pub one : IsOneList s (opening_of s) tenures commands
  pub stands : FileStands s (after s (opening_of s) commands) file
  pub unheld : RemovesUnheld s (opening_of s) commands

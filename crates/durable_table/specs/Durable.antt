-- A table and its journal.
use Rattle.std.specs.Prelude.{◌≡◌, ◌⊎◌, ℕ, true, List, Some}
use Rattle.line_journal.specs.Device.{History}
use Rattle.line_journal.specs.Lines.{lines_of}
use Rattle.line_journal.specs.Journal.{IsReady}
use Rattle.line_journal.specs.Renewed.{IsRead, Continues}
use Rattle.modprobe.specs.Setup.{Setup}
use Rattle.held_table.specs.Held.{Held}
use Rattle.held_lines.specs.Outcomes.{held_line_outcome}
use Rattle.durable_table.specs.declared.chained.Chained.{Chained}
use Rattle.durable_table.specs.Seals.{are_sealed}
use Rattle.durable_table.specs.Commands.{link_behind}
use Rattle.durable_table.specs.Tables.{table_of}

-- The journal is at rest on the disk, and stands for this table.
pub record Stands {D : Type 0} (content : D → List ℕ) (history : D → History) (s : Setup) (h : Held) (journal : Chained D) : Type 0 where
  pub ready : IsReady content history journal.lines
  pub same : table_of s (content journal.lines.device) ≡ Some h
  pub link : journal.link.items ≡ link_behind (lines_of (content journal.lines.device))

-- The journal reads as one at rest, and stands for this table. It may not be on the disk yet.
pub record Reads {D : Type 0} (content : D → List ℕ) (s : Setup) (h : Held) (journal : Chained D) : Type 0 where
  pub read : IsRead content journal.lines
  pub same : table_of s (content journal.lines.device) ≡ Some h
  pub link : journal.link.items ≡ link_behind (lines_of (content journal.lines.device))

-- a file reads as a journal at rest, and has lines more than the old one, or none, which continue its chain
abbrev pub ContinuesSealed : List ℕ → List ℕ → Type 0
ContinuesSealed old new = (added : List (List ℕ)) × Continues old new added × (are_sealed (link_behind (lines_of old)) added ≡ true)

-- a file stands for this table
abbrev pub FileStands : Setup → Held → List ℕ → Type 0
FileStands s h file = table_of s file ≡ Some h

-- a file stands for the table before a line, or for the one after it
abbrev pub BeforeOrAfter : Setup → Held → List ℕ → List ℕ → Type 0
BeforeOrAfter s h line file = FileStands s h file ⊎ FileStands s (held_line_outcome s h line).1 file

-- A journal that is rewritten for another setup.
use Rattle.std.specs.Prelude.{◌≡◌, ◌⊎◌, ℕ, true, List}
use Rattle.line_journal.specs.Lines.{lines_of, AreLines}
use Rattle.modprobe.specs.Setup.{Setup}
use Rattle.held_table.specs.Held.{Held}
use Rattle.held_lines.specs.Outcomes.{after}
use Rattle.held_lines.specs.Snapshots.{snapshot_of}
use Rattle.durable_table.specs.Commands.{is_of}
use Rattle.durable_table.specs.Tables.{opening_of}
use Rattle.durable_table.specs.Durable.{FileStands}
use Rattle.durable_table.specs.Compacting.{compacted}

-- The two tables are the same by the names of their modules and holders: which modules are there, in which state and order, and
-- who holds which of them how often. A snapshot has all this, and nothing else.
abbrev pub AreSameByNames : Setup → Held → Setup → Held → Type 0
AreSameByNames s h next g = snapshot_of next g ≡ snapshot_of s h

-- the table of another setup that the lines make which make this one
abbrev pub renewed : Setup → Held → Setup → Held
renewed s h next = after next (opening_of next) (snapshot_of s h)

-- The lines of a table's snapshot make a table of another setup that is the same by names, and they are lines.
pub record CanBeRenewed (name : List ℕ) (s : Setup) (h : Held) (next : Setup) : Type 0 where
  pub are_lines : AreLines (compacted name s h)
  pub same : AreSameByNames s h next (renewed s h next)

-- a file of the other setup, which has this name, stands for the table that is the same by names
pub record IsRenewal (name : List ℕ) (s : Setup) (h : Held) (next : Setup) (file : List ℕ) : Type 0 where
  pub of : is_of name (lines_of file) ≡ true
  pub stands : FileStands next (renewed s h next) file
  pub same : AreSameByNames s h next (renewed s h next)

-- a file stands for the table, by its setup, or is of the other one
abbrev pub OldOrRenewal : List ℕ → Setup → Held → Setup → List ℕ → Type 0
OldOrRenewal name s h next file = FileStands s h file ⊎ IsRenewal name s h next file

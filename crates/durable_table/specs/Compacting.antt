-- A journal that is rewritten as the lines that make its table.
use Rattle.std.specs.Prelude.{◌≡◌, ℕ, List, ◌∷◌}
use Rattle.line_journal.specs.Lines.{AreLines}
use Rattle.modprobe.specs.Setup.{Setup}
use Rattle.held_table.specs.Held.{Held}
use Rattle.held_lines.specs.Outcomes.{after}
use Rattle.held_lines.specs.Snapshots.{snapshot_of}
use Rattle.durable_table.specs.Seals.{chain}
use Rattle.durable_table.specs.Commands.{head}
use Rattle.durable_table.specs.Tables.{opening_of}

-- the lines of a journal of these commands, of the setup of this name
abbrev pub journal_of : List ℕ → List (List ℕ) → List (List ℕ)
journal_of name commands = head name ∷ chain (head name) commands

-- the lines that `compact` writes of a table
abbrev pub compacted : List ℕ → Setup → Held → List (List ℕ)
compacted name s h = journal_of name (snapshot_of s h)

-- The lines of a table's snapshot make the table, and they are lines.
pub record IsRemade (name : List ℕ) (s : Setup) (h : Held) (lines : List (List ℕ)) : Type 0 where
  pub is : lines ≡ compacted name s h
  pub are_lines : AreLines lines
  pub makes : after s (opening_of s) (snapshot_of s h) ≡ h

-- the lines of the table's snapshot make it, and they are lines
abbrev pub CanBeRemade : List ℕ → Setup → Held → Type 0
CanBeRemade name s h = IsRemade name s h (compacted name s h)

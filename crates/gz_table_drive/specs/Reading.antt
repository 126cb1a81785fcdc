-- Lines that ask change nothing.
use Rattle.std.specs.Prelude.{◌≡◌, ℕ, true, List}
use Rattle.modprobe.specs.Setup.{Setup}
use Rattle.held_table.specs.Held.{Held}
use Rattle.held_lines.specs.Outcomes.{held_line_outcome}
use Rattle.held_lines.specs.Reading.{is_reading}

-- Such a line leaves the table and its holders as they are.
abbrev pub ReadsOnly : Type 0
ReadsOnly = (s : Setup) (h : Held) (line : List ℕ) → is_reading line ≡ true → (held_line_outcome s h line).1 ≡ h

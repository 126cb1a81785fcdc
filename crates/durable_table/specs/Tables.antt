-- The table that a journal stands for.
use Rattle.std.specs.Prelude.{ℕ, List, [], Option, option_map}
use Rattle.dep_index.specs.Catalogue.{modules_of}
use Rattle.dep_index.specs.Calls.{opening}
use Rattle.modprobe.specs.Setup.{Setup}
use Rattle.line_journal.specs.Lines.{lines_of}
use Rattle.held_table.specs.Held.{Held}
use Rattle.held_lines.specs.Held.{holding}
use Rattle.held_lines.specs.Outcomes.{after}
use Rattle.durable_table.specs.Commands.{commands_of}

-- the table in which every module is absent, and no holder is there
abbrev pub opening_of : Setup → Held
opening_of s = holding (opening (modules_of s.catalogue) 0) []

-- the table that a journal's lines stand for: the one after its commands; none if these are no lines of a journal
abbrev pub table_in : Setup → List (List ℕ) → Option Held
table_in s lines = option_map (after s (opening_of s)) (commands_of lines)

-- the table that a journal's file stands for, whatever bytes it has
abbrev pub table_of : Setup → List ℕ → Option Held
table_of s file = table_in s (lines_of file)

-- A file in memory.
use Rattle.std.specs.Prelude.{ℕ, List, length}
use Rattle.line_journal.specs.Device.{History}
use Rattle.line_journal.specs.Past.{kill_history}
use Rattle.line_journal.specs.declared.kill_only.KillOnly.{KillOnly}

-- the bytes that it holds
abbrev pub held_by : KillOnly → List ℕ
held_by file = file.bytes.items

-- how often it was written to
abbrev pub writes_of : KillOnly → ℕ
writes_of file = length file.past.items

-- what crashes may leave of it
abbrev pub history_of : KillOnly → History
history_of file = kill_history file.past.items file.bytes.items

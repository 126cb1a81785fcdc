use Rattle.std.proofs.Common.{◌≡◌, length, take}
use Rattle.line_journal.specs.Lines.{bytes_of}
use Rattle.durable_table.proofs.renewal.are_same.Given as goal

-- the lines so far are the same
abbrev pub invariant-loop-place : goal.invariant-loop-place
invariant-loop-place l = (bytes_of (take l.place l.lines) ≡ bytes_of (take l.place l.others)) × (length l.lines ≡ length l.others)

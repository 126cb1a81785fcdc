use Rattle.std.proofs.Common.{◌≡◌, take}
use Rattle.line_journal.specs.Lines.{bytes_of}
use Rattle.durable_table.specs.Compacting.{journal_of}
use Rattle.durable_table.proofs.compaction.journal_of.Given as goal

abbrev pub invariant-loop-command : goal.invariant-loop-command
invariant-loop-command l = bytes_of l.lines.items ≡ journal_of l.name (bytes_of (take l.command-index l.commands))

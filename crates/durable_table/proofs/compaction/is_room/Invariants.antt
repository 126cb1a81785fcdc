use Rattle.std.proofs.Common.{◌≡◌, [], length, drop}
use Rattle.std.specs.Prelude.{nat_lt}
use Rattle.line_journal.specs.Lines.{bytes_of, open_text}
use Rattle.durable_table.specs.Seals.{chain}
use Rattle.durable_table.proofs.compaction.is_room.Given as goal

abbrev pub invariant-loop-command : goal.invariant-loop-command
invariant-loop-command l =
    nat_lt (length (open_text (chain [] (bytes_of (drop l.command-index l.commands))))) l.left
    ≡ nat_lt (length (open_text (chain [] (bytes_of l.commands)))) l.room

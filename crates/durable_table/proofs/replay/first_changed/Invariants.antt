use Rattle.std.proofs.Common.{◌≡◌, ◌+◌, drop}
use Rattle.line_journal.specs.Lines.{bytes_of}
use Rattle.durable_table.specs.Seals.{are_sealed}
use Rattle.durable_table.specs.Commands.{first_unsealed}
use Rattle.durable_table.proofs.replay.first_changed.Given as goal

abbrev pub invariant-loop-place : goal.invariant-loop-place
invariant-loop-place l =
    (are_sealed l.link (bytes_of (drop l.place l.lines)) ≡ are_sealed l.initial.link (bytes_of l.lines))
    × (first_unsealed (l.place + 2) l.link (bytes_of (drop l.place l.lines)) ≡ first_unsealed 2 l.initial.link (bytes_of l.lines))

use Rattle.std.proofs.Common.{◌≡◌, map, drop}
use Rattle.line_journal.specs.Lines.{bytes_of}
use Rattle.held_lines.specs.Outcomes.{after}
use Rattle.durable_table.proofs.replay.replay.Given as goal

abbrev pub invariant-loop-line : goal.invariant-loop-line
invariant-loop-line l =
    (after l.session.setup.now l.session.holders.held (map (drop 17) (bytes_of (drop l.line-index l.lines)))
    ≡ after l.initial.session.setup.now l.initial.session.holders.held (map (drop 17) (bytes_of l.lines)))
    × (l.session.setup ≡ l.initial.session.setup)

use Rattle.std.proofs.Common.{◌≡◌, ◌+◌, ◌≤◌, drop}
use Rattle.line_journal.specs.Lines.{gates_after, open_gates}
use Rattle.line_journal.proofs.reading.count_open_gates.Given as goal

abbrev pub invariant-loop-byte : goal.invariant-loop-byte
invariant-loop-byte l = record {
  counted : l.count + gates_after l.before (drop l.byte-index l.bytes) ≡ open_gates l.bytes;
  within : l.count ≤ l.byte-index;
}

use Rattle.std.proofs.Common.{◌≡◌, ◌≤◌, ◌<◌, ◌^◌, ◌++◌, length, take, drop}
use Rattle.line_journal.specs.Device.{AlwaysLeaves}
use Rattle.line_journal.specs.Lines.{lines_of, open_text, bytes_of, with_waiting}
use Rattle.line_journal.proofs.GroupLemmas.{IsGated}
use Rattle.line_journal.proofs.gates.open_gates.Given as goal

abbrev pub invariant-loop-line : goal.invariant-loop-line
invariant-loop-line g l =
    let lines = lines_of (g.D.Device.content l.fn.device) in
    let group = bytes_of l.lines in
    record {
      content : g.D.Device.content l.device ≡ with_waiting (lines ++ take l.line-index group) (drop l.line-index group);
      gate : l.gate ≡ length (open_text (lines ++ take l.line-index group));
      fits : length (g.D.Device.content l.device) < 2 ^ 64;
      moments : AlwaysLeaves (g.D.Device.history l.fn.device) (g.D.Device.history l.device) (IsGated lines group);
      faults : g.D.Device.faults l.fn.device ≤ g.D.Device.faults l.device;
    }

use Rattle.std.proofs.Common.{length, ◌-◌, ◌≡◌, ◌≤◌, false, take}
use Rattle.std.specs.Io.KnownBytes.{Appends}
use Rattle.modprobe.proofs.runs.write_all.Given as goal

-- the bytes up to here were written
abbrev pub invariant-loop-written : goal.invariant-loop-written
invariant-loop-written g l = record {
  works : g.W.Sink.has_failed l.writer ≡ false;
  within : l.written ≤ length l.bytes;
  wrote : Appends (g.W.Sink.contents l.fn.writer) (g.W.Sink.contents l.writer) (take l.written l.bytes);
}

abbrev pub decreases-loop-written : goal.decreases-loop-written
decreases-loop-written g l = length l.bytes - l.written

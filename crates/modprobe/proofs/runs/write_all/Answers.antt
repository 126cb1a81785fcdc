use Rattle.std.proofs.Common.{arith, ◌-◌, take, drop, length}
use Rattle.std.proofs.lemmas.List.{length-take}
use Rattle.modprobe.specs.declared.device.Failed.{Failed}
use Rattle.modprobe.proofs.RunLemmas.{appends_more, not_failed}
use Rattle.modprobe.proofs.runs.write_all.Goals as goal

pub loop-written-preserved : goal.loop-written-preserved
loop-written-preserved g c =
    let rest = drop c.loop-written.written c.args.bytes.now in
    let n = length c.args.bytes.now - c.loop-written.written in
    record {
      works = rw c.in_ok-count.ensures.failed (not_failed Failed c.in_ok-count.count (take n rest) c.if-count-eq0.false);
      within = omega (arith, c.in_ok-count.ensures.bound, length-take n rest);
      wrote = appends_more (g.W.Sink.contents c.args.writer.now) (g.W.Sink.contents c.loop-written.writer) (g.W.Sink.contents c.write.new.self) c.args.bytes.now c.loop-written.written c.in_ok-count.count
          c.loop-written.invariant.wrote c.in_ok-count.ensures.bytes;
    }

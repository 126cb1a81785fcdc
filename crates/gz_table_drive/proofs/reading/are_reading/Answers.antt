use Rattle.std.proofs.Common.{arith, rules}
use Rattle.gz_table_drive.proofs.AskLemmas.{Asks, asks_more, asks_all}
use Rattle.gz_table_drive.proofs.reading.are_reading.Goals as goal

pub loop-line-preserved : goal.loop-line-preserved
loop-line-preserved c =
    let line = c.line-item.result in
    let asks : Asks c.deref.result.now = search rules in
    asks_more c.args.lines.now c.loop-line.line-index line c.deref.result.now c.loop-line-test.true c.line-item.is c.deref.ensures.value asks c.loop-line.invariant

pub returns : goal.returns
returns c = λ all. asks_all c.args.lines.now c.loop-line.line-index (omega (arith, c.loop-line-test.false)) c.loop-line.invariant

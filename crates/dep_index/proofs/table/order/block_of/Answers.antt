use Rattle.std.proofs.Common.{◌≡◌, ◌+◌, ◌*◌, ◌∙◌, get_or, arith}
use Rattle.dep_index.proofs.OrderLemmas.{block_passed}
use Rattle.dep_index.proofs.table.order.block_of.Goals as goal

pub loop-block-preserved : goal.loop-block-preserved
loop-block-preserved c =
    let passed = block_passed c.args.entries.now (c.loop-block.block * 256) c.loop-block.older (get_or c.args.counts.now c.loop-block.block 0) (c.requires.counted c.loop-block.block) c.loop-block-test.true c.loop-block.invariant.within in
    let next : (c.loop-block.block + 1) * 256 ≡ c.loop-block.block * 256 + 256 = omega arith in
    rw next (record { within = passed.0; slot = passed.1 ∙ c.loop-block.invariant.slot })

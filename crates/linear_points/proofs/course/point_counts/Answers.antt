use Rattle.std.proofs.Common.{arith, ◌∙◌}
use Rattle.std.proofs.Math.ListN.{length-set}
use Rattle.linear_points.proofs.Counts.{count_is, more_counts}
use Rattle.linear_points.proofs.course.point_counts.Goals as goal

pub overflow_add-index_mut : goal.overflow_add-index_mut
overflow_add-index_mut c =
    omega (
      arith,
      count_is c.args.calls c.loop-point.point-index c.index_mut.result.now c.loop-point.counts.items c.args.points.now _
          c.loop-point.invariant.len c.loop-point-test.true (c.requires c.loop-point.point-index _ c.loop-point-test.true) c.loop-point.invariant.counts c.index_mut.ensures.value,
    )

pub loop-point-preserved : goal.loop-point-preserved
loop-point-preserved c = record {
  len = length-set c.loop-point.counts.items _ _ ∙ c.loop-point.invariant.len;
  counts = more_counts c.args.calls c.loop-point.point-index c.index_mut.result.now c.loop-point.counts.items c.args.points.now _
      c.loop-point.invariant.len c.loop-point-test.true (c.requires c.loop-point.point-index _ c.loop-point-test.true) c.loop-point.invariant.counts c.index_mut.ensures.value;
}

use Rattle.std.proofs.Common.{length}
use Rattle.linear_points.proofs.Replaying.{call_in_range}
use Rattle.linear_points.proofs.course.Course.answers_as.Goals as goal

pub perform-answered-requires-clause-range : goal.perform-answered-requires-clause-range
perform-answered-requires-clause-range c =
    call_in_range c.args.table.now.catalogue (length c.args.table.now.table.rows) c.args.self.now.intervals.items _ c.index-interval.result.now c.requires.range c.index-interval.ensures c.requires.call

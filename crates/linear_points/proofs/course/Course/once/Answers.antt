use Rattle.std.proofs.Common.{ap, arith, length, below_more}
use Rattle.linear_points.proofs.Counts.{calls_below, count_told, allowed, must_be_allowed, all_points}
use Rattle.linear_points.proofs.course.Course.once.Goals as goal

pub point_counts-requires : goal.point_counts-requires
point_counts-requires c k d h =
    omega (arith, calls_below c.args.self.now.events.items c.args.self.now.intervals.items c.args.points.now c.requires.intervals c.requires.within k d h, c.len.ensures)

pub returns-then-not-may_have : goal.returns-then-not-may_have
returns-then-not-may_have c = (
  λ h. cc,
  λ all. let yes = c.may_have.ensures.1 (must_be_allowed c.args.self.now.events.items c.args.self.now.intervals.items c.deref-interval-items.result.now c.args.points.now c.loop-n.n c.index.result.now _
      c.requires.intervals c.deref-interval-items.ensures.value c.loop-n-test.true
      (count_told c.len.result c.in_ok-counts.counts.items c.args.points.now c.loop-n.n c.index.result.now c.in_ok-counts.ensures.len c.in_ok-counts.ensures.counts
      (omega (arith, c.loop-n-test.true, c.len.ensures, ap length c.deref-interval-items.ensures.value)) c.index.ensures)
      (all c.loop-n.n)) in cc,
)

pub loop-n-preserved : goal.loop-n-preserved
loop-n-preserved c = below_more _ _ c.loop-n.invariant
    (allowed c.args.self.now.events.items c.args.self.now.intervals.items c.deref-interval-items.result.now c.args.points.now c.loop-n.n c.index.result.now _
    c.requires.intervals c.deref-interval-items.ensures.value c.loop-n-test.true
    (count_told c.len.result c.in_ok-counts.counts.items c.args.points.now c.loop-n.n c.index.result.now c.in_ok-counts.ensures.len c.in_ok-counts.ensures.counts
    (omega (arith, c.loop-n-test.true, c.len.ensures, ap length c.deref-interval-items.ensures.value)) c.index.ensures)
    (c.may_have.ensures.0 c.if-not-may_have.false))

pub returns : goal.returns
returns c = (
  λ h. all_points c.args.self.now.events.items c.args.self.now.intervals.items c.args.points.now c.loop-n.n c.requires.intervals
      (calls_below c.args.self.now.events.items c.args.self.now.intervals.items c.args.points.now c.requires.intervals c.requires.within)
      (omega (arith, c.loop-n-test.false, ap length c.deref-interval-items.ensures.value)) c.loop-n.invariant,
  λ all. cc,
)

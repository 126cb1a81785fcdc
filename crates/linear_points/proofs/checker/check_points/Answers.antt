use Rattle.std.proofs.Common.{arith, ◌<◌}
use Rattle.dep_index.specs.Catalogue.{modules_of}
use Rattle.dep_index.specs.Words.{closed}
use Rattle.linear_points.proofs.Counts.{calls_below}
use Rattle.linear_points.proofs.Replaying.{interval_calls}
use Rattle.linear_points.proofs.Judged.{table_calls_in_range, replay_decides, linear_once}
use Rattle.linear_points.proofs.checker.check_points.Goals as goal

pub returns-then-not-branch-clause-linear : goal.returns-then-not-branch-clause-linear
returns-then-not-branch-clause-linear c = (
  λ h. cc,
  λ linear. let yes = c.in_ok-once.ensures.1 (linear_once (modules_of c.args.catalogue.now) c.args.workers c.args.threads c.args.steps.now c.args.points.now c.in_ok-course.course.events.items
      c.in_ok-course.ensures.told linear) in cc,
)

pub replays-requires-clause-calls : goal.replays-requires-clause-calls
replays-requires-clause-calls c =
    calls_below c.in_ok-course.course.events.items c.in_ok-course.course.intervals.items c.args.points.now c.in_ok-course.ensures.intervals (c.within.ensures.0 c.if-not-within.false)

pub replays-requires-clause-range : goal.replays-requires-clause-range
replays-requires-clause-range c =
    let few : c.args.workers < closed = omega (arith, c.requires) in
    table_calls_in_range (modules_of c.args.catalogue.now) c.args.workers c.args.threads c.args.steps.now c.in_ok-table.table.catalogue c.in_ok-table.table.table
    (interval_calls c.in_ok-course.course.intervals.items) few c.in_ok-course.ensures.run c.in_ok-table.ensures.over c.in_ok-table.ensures.opens c.in_ok-course.ensures.calls

pub returns-clause-linear : goal.returns-clause-linear
returns-clause-linear c =
    let few : c.args.workers < closed = omega (arith, c.requires) in
    replay_decides (modules_of c.args.catalogue.now) c.args.workers c.args.threads c.args.steps.now c.args.points.now c.in_ok-course.course.events.items c.in_ok-table.table.catalogue c.in_ok-table.table.table
    (interval_calls c.in_ok-course.course.intervals.items) c.replays.result few c.in_ok-course.ensures.run c.in_ok-course.ensures.told c.in_ok-course.ensures.calls
    c.in_ok-table.ensures.over c.in_ok-table.ensures.opens (c.rising.ensures.0 c.if-not-rising.false) (c.within.ensures.0 c.if-not-within.false) (c.answers.ensures.0 c.if-not-answers.false)
    (c.in_ok-once.ensures.0 c.if-not-branch.false) c.replays.ensures

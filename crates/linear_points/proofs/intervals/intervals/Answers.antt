use Rattle.step_core.specs.declared.steps.Step.TheVariants.{Go}
use Rattle.linear_points.proofs.MoreEvents.{next_numbers, more_intervals, returns_below}
use Rattle.linear_points.proofs.intervals.intervals.Goals as goal

pub note-requires : goal.note-requires
note-requires c =
    returns_below _ _ _ (next_numbers c.args.steps.now c.args.events.now c.loop-index.index c.loop-index.found.items (Go 0) _ c.loop-index.invariant c.requires.same c.loop-index-test.true).0

pub loop-index-preserved : goal.loop-index-preserved
loop-index-preserved c =
    more_intervals c.args.steps.now c.args.events.now c.loop-index.index c.loop-index.found.items c.note.new.found.items _ _ c.loop-index.invariant c.requires.same c.loop-index-test.true
    c.in_ok-note.ensures

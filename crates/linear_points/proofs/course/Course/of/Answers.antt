use Rattle.std.proofs.Common.{sym, ◌∙◌, ap, subst, ◌≡◌, length}
use Rattle.dep_index.specs.Catalogue.{modules_of}
use Rattle.linear_points.specs.Noted.{AreNumberedFrom, calls_made}
use Rattle.linear_points.specs.Run.{run_events}
use Rattle.linear_points.proofs.Kept.{run_numbered, one_event_each, run_calls_made}
use Rattle.linear_points.proofs.course.Course.of.Goals as goal

pub intervals-requires-clause-numbered : goal.intervals-requires-clause-numbered
intervals-requires-clause-numbered c =
    let told : c.deref.result.now ≡ run_events (modules_of c.args.catalogue.now) c.args.workers c.args.threads c.args.steps.now = c.deref.ensures.value ∙ c.in_ok-events.ensures.told in
    subst (AreNumberedFrom 0 c.args.steps.now) (sym told)
    (run_numbered (modules_of c.args.catalogue.now) c.args.workers c.args.threads c.args.steps.now c.requires c.in_ok-events.ensures.run)

pub intervals-requires-clause-same : goal.intervals-requires-clause-same
intervals-requires-clause-same c =
    one_event_each (modules_of c.args.catalogue.now) c.args.workers c.args.threads c.args.steps.now ∙ ap length (sym c.in_ok-events.ensures.told) ∙ ap length (sym c.deref.ensures.value)

pub returns-clause-calls : goal.returns-clause-calls
returns-clause-calls c =
    c.in_ok-intervals.ensures.calls ∙ ap (calls_made c.args.steps.now) (c.deref.ensures.value ∙ c.in_ok-events.ensures.told)
    ∙ sym (run_calls_made (modules_of c.args.catalogue.now) c.args.workers c.args.threads c.args.steps.now)

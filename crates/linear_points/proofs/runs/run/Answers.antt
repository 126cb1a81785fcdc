use Rattle.dep_index.specs.Catalogue.{modules_of}
use Rattle.linear_points.proofs.Room.{refusals}
use Rattle.linear_points.proofs.runs.run.Goals as goal

pub returns-clause-refused : goal.returns-clause-refused
returns-clause-refused c =
    refusals (modules_of c.args.catalogue.now) c.args.workers c.args.threads c.args.steps.now c.in_ok-machine.machine c.events.result
    c.in_ok-machine.ensures.over c.in_ok-machine.ensures.state c.events.ensures.refused

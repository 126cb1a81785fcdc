use Rattle.std.proofs.Common.{ap}
use Rattle.root_row.specs.Views.{worker_of}
use Rattle.theorems.proofs.meetings.leaves_that_meet_have_seen_one_list.Goals as goal

pub returns-clause-workers : goal.returns-clause-workers
returns-clause-workers c = let met = c.meet.ensures.met in (ap worker_of met.1, ap worker_of met.2)

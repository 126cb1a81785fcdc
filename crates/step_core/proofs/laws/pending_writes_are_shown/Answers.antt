use Rattle.step_core.proofs.RunLaws.{pending_writes_are_shown}
use Rattle.step_core.proofs.laws.pending_writes_are_shown.Goals as goal

pub returns : goal.returns
returns c = pending_writes_are_shown

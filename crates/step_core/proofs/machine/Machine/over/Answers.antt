use Rattle.step_core.proofs.Premises.{sound_at_start, shown_at_start}
use Rattle.step_core.proofs.machine.Machine.over.Goals as goal

pub invariant_of-result : goal.invariant_of-result
invariant_of-result c = sound_at_start c.args.slots c.args.workers c.args.threads c.args.calls _ c.requires c.in_ok-state.ensures

pub returns-clause-shows : goal.returns-clause-shows
returns-clause-shows c = shown_at_start c.args.slots c.args.workers c.args.threads c.args.calls _ c.requires c.in_ok-state.ensures

use Rattle.std.proofs.Common.{subst, sym}
use Rattle.file_journal.specs.declared.belief.Belief.{Belief}
use Rattle.file_journal.specs.Belief.{IsOpened}
use Rattle.file_journal.proofs.CallLemmas.{opened}
use Rattle.file_journal.proofs.device.FileDevice.open.Goals as goal

pub returns-in-Ok-clause-believed : goal.returns-in-Ok-clause-believed
returns-in-Ok-clause-believed g c =
    let first = c.new-belief.ensures in
    subst (λ (b : Belief). IsOpened b) (sym c.new.ensures.belief) (opened first.bytes first.calls c.in-Ok.ensures.believed)

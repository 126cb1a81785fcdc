use Rattle.std.proofs.Common.{refl}
use Rattle.line_journal.specs.Past.{kill_history}
use Rattle.line_journal.proofs.KillLemmas.{stays}
use Rattle.line_journal.proofs.kill_only.KillOnlyDevice.sync.Goals as goal

pub returns-clause-crash : goal.returns-clause-crash
returns-clause-crash c = stays (kill_history c.args.self.now.past.items c.args.self.now.bytes.items) (λ file is. refl)

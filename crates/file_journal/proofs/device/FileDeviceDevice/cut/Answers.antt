use Rattle.std.proofs.Common.{subst, sym}
use Rattle.line_journal.specs.Device.{Goes, Shortened}
use Rattle.file_journal.specs.declared.belief.Belief.{Belief}
use Rattle.file_journal.specs.Belief.{history_of}
use Rattle.file_journal.proofs.CallLemmas.{stays, shortened_not}
use Rattle.file_journal.proofs.device.FileDeviceDevice.cut.Goals as goal

pub returns-in-Err-clause-crash : goal.returns-in-Err-clause-crash
returns-in-Err-clause-crash g c =
    let size = c.args.size in
    let old = history_of c.args.self.now.belief in
    subst (λ (b : Belief). Goes (Shortened size) old (history_of b)) (sym c.report.ensures.belief) (stays old (shortened_not size))

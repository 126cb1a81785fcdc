use Rattle.std.proofs.Common.{Result, Ok, Err, ap, subst, sym}
use Rattle.line_journal.specs.declared.device.DeviceError.{DeviceError}
use Rattle.line_journal.specs.declared.device.DeviceError.TheVariants.{Failed}
use Rattle.file_journal.specs.declared.belief.Belief.{Belief}
use Rattle.file_journal.specs.Belief.{IsWrittenAgain}
use Rattle.file_journal.proofs.device.FileDeviceDevice.sync.Goals as goal

abbrev error_of : {T : Type 0} → Result T DeviceError → DeviceError
error_of (Ok done) = Failed
error_of (Err error) = error

pub returns-in-Err-settle-clause-again : goal.returns-in-Err-settle-clause-again
returns-in-Err-settle-clause-again g c = λ failed may.
    let again = c.in-Err-settle.ensures.again (c.report-in-Err-settle.ensures.memory (ap error_of failed)) in
    subst (λ (b : Belief). IsWrittenAgain c.args.self.now.belief b) (sym c.report-in-Err-settle.ensures.belief) again

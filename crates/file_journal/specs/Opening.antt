-- Why a file was not opened.
use Rattle.file_journal.specs.declared.device.OpenError.{OpenError}
use Rattle.file_journal.specs.declared.device.OpenError.TheVariants as open_error
use Rattle.file_journal.specs.declared.fault.Cause.{Cause}
use Rattle.file_journal.specs.declared.fault.Cause.TheVariants.{OutOfMemory}
use Rattle.file_journal.specs.declared.fault.FileFault.{FileFault}

abbrev pub error_by_cause : FileFault → Cause → OpenError
error_by_cause fault OutOfMemory = open_error.OutOfMemory
error_by_cause fault cause = open_error.Failed fault

-- a file for which there was no memory did not fail
abbrev pub open_error_of : FileFault → OpenError
open_error_of fault = error_by_cause fault fault.cause

-- What an error of the system tells.
use Rattle.std.specs.Prelude.{ℤ, Option}
use Rattle.std.specs.declared.io.ErrorKind.{ErrorKind}
use Rattle.std.specs.declared.io.ErrorKind.TheVariants.{NotFound, AlreadyExists, PermissionDenied, ReadOnlyFilesystem, StorageFull, QuotaExceeded, IsADirectory, OutOfMemory as NoMemory}
use Rattle.file_journal.specs.declared.fault.Cause.{Cause}
use Rattle.file_journal.specs.declared.fault.Cause.TheVariants.{NotThere, AlreadyThere, NotAllowed, ReadOnly, Full, NoFile, OutOfMemory, Other}

-- the cause that an error of this kind tells, which has this number if the system gave it
abbrev pub cause_of : ErrorKind → Option ℤ → Cause
cause_of NotFound number = NotThere
cause_of AlreadyExists number = AlreadyThere
cause_of PermissionDenied number = NotAllowed
cause_of ReadOnlyFilesystem number = ReadOnly
cause_of StorageFull number = Full
cause_of QuotaExceeded number = Full
cause_of IsADirectory number = NoFile
cause_of NoMemory number = OutOfMemory
cause_of kind number = Other kind number

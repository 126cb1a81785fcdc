-- Which calls of a device fail.
use Rattle.std.specs.Prelude.{⊤, ◌≡◌, ◌≢◌, Option, None, Some, Result, IsErrOf}
use Rattle.line_journal.specs.declared.device.DeviceError.{DeviceError}
use Rattle.line_journal.specs.declared.device.DeviceError.TheVariants.{Failed}
use Rattle.file_journal.specs.declared.fault.FileFault.{FileFault}
use Rattle.file_journal.specs.declared.lock.FolderLock.{FolderLock}
use Rattle.file_journal.specs.declared.lock.LockKind.TheVariants.{Exclusive}

-- it may read: it has a lock, and no call has failed
abbrev pub MayRead : Option FolderLock → Option FileFault → Type 0
MayRead (Some lock) None = ⊤
MayRead lock fault = ⊥

-- it may write: nobody else has the lock
abbrev pub MayWrite : Option FolderLock → Option FileFault → Type 0
MayWrite (Some lock) None = lock.kind ≡ Exclusive
MayWrite lock fault = ⊥

-- A call that `Failed` leaves a fault, and the first one stays.
pub record KeepsFault {T : Type 0} (old new : Option FileFault) (result : Result T DeviceError) : Type 0 where
  pub first : old ≢ None → new ≡ old
  pub failed : IsErrOf result Failed → new ≢ None

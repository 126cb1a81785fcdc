-- What `open` makes of a device.
use Rattle.std.specs.Prelude.{◌≡◌, ℕ, List, Result, Ok, Err}
use Rattle.line_journal.specs.Device.{History}
use Rattle.line_journal.specs.Lines.{lines_of, behind, StandsFor}
use Rattle.line_journal.specs.Journal.{IsReady, IsFound, MayCut}
use Rattle.line_journal.specs.declared.device.DeviceError.{DeviceError}
use Rattle.line_journal.specs.declared.recovery.Repair.{Repair}
use Rattle.line_journal.specs.declared.recovery.Opened.{Opened}
use Rattle.line_journal.specs.declared.recovery.Opened.TheVariants.{Ready, Damaged}

-- a journal of the same lines that is ready, or the file as it was, because more would be cut off than may
abbrev pub IsOpened : {D : Type 0} → (D → List ℕ) → (D → History) → Repair → D → Opened D → Type 0
IsOpened content history repair old (Ready journal found) =
    IsFound (content old) found × IsReady content history journal × StandsFor (lines_of (content old)) (content journal.device) × MayCut repair (behind (content old))
IsOpened content history repair old (Damaged device found) =
    IsFound (content old) found × (content device ≡ content old) × (MayCut repair (behind (content old)) → ⊥)

-- the device that the answer holds
abbrev pub device_after : {D : Type 0} → Result (Opened D) (DeviceError × D) → D
device_after (Ok (Ready journal found)) = journal.device
device_after (Ok (Damaged device found)) = device
device_after (Err (error, device)) = device

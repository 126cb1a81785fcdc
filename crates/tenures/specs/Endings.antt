-- How processes end: by themselves, or because they stop before they have answered all their lines.
use Rattle.std.specs.Prelude.{◌≡◌, ◌⊎◌, ◌≤◌, ◌+◌, ℕ, List, [], ◌∷◌, length, Result, Ok, Err, None, OnOk, IsErrOf, All}
use Rattle.line_journal.specs.declared.device.DeviceError.TheVariants as device_error
use Rattle.line_journal.specs.declared.recovery.Repair.{Repair}
use Rattle.line_journal.specs.Lines.{behind}
use Rattle.line_journal.specs.Journal.{MayCut}
use Rattle.modprobe.specs.Setup.{Setup}
use Rattle.durable_table.specs.declared.durable.PerformError.{PerformError}
use Rattle.durable_table.specs.declared.durable.PerformError.TheVariants as perform_error
use Rattle.durable_table.specs.Tables.{table_of}
use Rattle.tenures.specs.declared.ending.Stopped.{Stopped}
use Rattle.tenures.specs.declared.ending.Stopped.TheVariants.{CutOff, OutOfMemory, Failed, NoTable}
use Rattle.tenures.specs.Tenures.{Tenure, one_by_one}

-- why a process stops whose table gave this error
abbrev pub stopped_by : PerformError → Stopped
stopped_by perform_error.OutOfMemory = OutOfMemory
stopped_by (perform_error.Device device_error.OutOfMemory) = OutOfMemory
stopped_by (perform_error.Device device_error.Failed) = Failed

-- 1 for a process that was cut off, else 0
abbrev pub cut_offs_of : Stopped → ℕ
cut_offs_of CutOff = 1
cut_offs_of other = 0

-- 1 for a process whose device failed, else 0
abbrev pub failures_of : Stopped → ℕ
failures_of Failed = 1
failures_of other = 0

abbrev pub cut_offs_in : Result (Unit {0}) Stopped → ℕ
cut_offs_in (Ok done) = 0
cut_offs_in (Err stopped) = cut_offs_of stopped

abbrev pub failures_in : Result (Unit {0}) Stopped → ℕ
failures_in (Ok done) = 0
failures_in (Err stopped) = failures_of stopped

-- how many of these tenures were cut off
abbrev pub cut_offs_among : List Tenure → ℕ
cut_offs_among [] = 0
cut_offs_among (tenure ∷ later) = cut_offs_in tenure.ended + cut_offs_among later

-- in how many of these tenures the device failed
abbrev pub failures_among : List Tenure → ℕ
failures_among [] = 0
failures_among (tenure ∷ later) = failures_in tenure.ended + failures_among later

-- the file stands for no table of the setup, or more stands behind its lines than may be cut off
abbrev pub HasNoTable : Setup → Repair → List ℕ → Type 0
HasNoTable s repair file = (table_of s file ≡ None) ⊎ (MayCut repair (behind file) → ⊥)

-- a tenure that ended by itself has begun all replies
abbrev pub IsWhole : Tenure → Type 0
IsWhole tenure = OnOk tenure.ended (length tenure.replies ≡ length (one_by_one tenure.asked))

-- a tenure that found no table found a file in which more stood behind the lines than may be cut off
abbrev pub HasFound : Repair → Tenure → Type 0
HasFound repair tenure = IsErrOf tenure.ended NoTable → MayCut repair (behind tenure.found) → ⊥

-- a tenure that ended by itself found a file in which no more stood there
abbrev pub MightCut : Repair → Tenure → Type 0
MightCut repair tenure = OnOk tenure.ended (MayCut repair (behind tenure.found))

-- Each of these tenures ended by itself, with all replies, but for those that were cut off, whose device failed, that found no
-- table, or for which there was no memory: as many were cut off as the world has cut off meanwhile, and no more failed than
-- calls of the device did.
pub record HaveEnded (repair : Repair) (cut_offs cut_offs_new faults faults_new : ℕ) (tenures : List Tenure) : Type 0 where
  pub whole : All IsWhole tenures
  pub cut_off : cut_offs_among tenures + cut_offs ≡ cut_offs_new
  pub failed : failures_among tenures + faults ≤ faults_new
  pub found : All (HasFound repair) tenures
  pub might_cut : All (MightCut repair) tenures

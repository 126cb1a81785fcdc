-- How a run ends that did not do what was asked.
use Rattle.std.specs.Prelude.{◌≡◌, ◌≢◌, ◌⊎◌, ℕ, true, List, codes, ⊤, Option, Some, None, IsUtf8}
use Rattle.std.specs.Str.{bytes_eq}
use Rattle.std.specs.Borrow.{Bor}
use Rattle.file_journal.specs.declared.fault.Cause.{Cause}
use Rattle.file_journal.specs.declared.fault.Cause.TheVariants.{OutOfMemory, NotThere}
use Rattle.file_journal.specs.declared.fault.FileFault.{FileFault}
use Rattle.file_journal.specs.declared.fault.Target.{Target}
use Rattle.file_journal.specs.declared.fault.Target.TheVariants.{Journal, Lock}
use Rattle.file_journal.specs.declared.device.OpenError.{OpenError}
use Rattle.file_journal.specs.declared.device.OpenError.TheVariants as open_error
use Rattle.file_journal.specs.declared.lock.LockError.{LockError}
use Rattle.file_journal.specs.declared.lock.LockError.TheVariants as lock_error
use Rattle.table_words.specs.declared.ending.Ending.{Ending}
use Rattle.table_words.specs.declared.ending.Ending.TheVariants.{Unasked, Fault, Locked, Exists}
use Rattle.table_folder.specs.declared.fault.TableFault.{TableFault}
use Rattle.table_folder.specs.declared.setup.SectionsFault.{SectionsFault}
use Rattle.table_folder.specs.declared.setup.SectionsFault.TheVariants.{Memory}
use Rattle.table_folder.specs.declared.fault.TableFault.TheVariants as fault

-- a lock that others hold is no failure of the disk
abbrev pub ending_of_lock : LockError → Ending
ending_of_lock lock_error.Held = Locked
ending_of_lock _ = Fault

-- what is asked of no table, or of one that was changed, is not asked rightly
abbrev pub ending_of_fault : TableFault → Ending
ending_of_fault fault.NoTable = Unasked
ending_of_fault fault.NoJournal = Unasked
ending_of_fault fault.CutSetup = Unasked
ending_of_fault fault.ChangedSetup = Unasked
ending_of_fault (fault.Sections why) = Unasked
ending_of_fault fault.Foreign = Unasked
ending_of_fault fault.Other = Unasked
ending_of_fault (fault.Changed line) = Unasked
ending_of_fault (fault.Damaged damage) = Unasked
ending_of_fault fault.ThereAlready = Exists
ending_of_fault fault.UsedJournal = Exists
ending_of_fault (fault.Lock error) = ending_of_lock error
ending_of_fault fault.Told = Unasked
ending_of_fault _ = Fault

-- a file for which there was no memory did not fail
abbrev pub fault_of_cause : FileFault → Cause → TableFault
fault_of_cause file OutOfMemory = fault.OutOfMemory
fault_of_cause file cause = fault.File file

-- why a run whose journal failed did not do what was asked, by the fault of its file, if that is known
abbrev pub fault_of_file : Option FileFault → TableFault
fault_of_file None = fault.Journal
fault_of_file (Some file) = fault_of_cause file file.cause

-- a file for which there was no memory was not refused by the disk
abbrev pub fault_of_write : Bor (List ℕ) → Cause → TableFault
fault_of_write name OutOfMemory = fault.OutOfMemory
fault_of_write name why = fault.Unwritten name why

-- the file of this name was not written, or there was no memory
abbrev pub IsUnwritten : List ℕ → TableFault → Type 0
IsUnwritten name fault.OutOfMemory = ⊤
IsUnwritten name (fault.Unwritten file why) = file.now ≡ name
IsUnwritten name _ = ⊥

-- the lock's file was not made, or there was no memory
abbrev pub IsUnlocked : TableFault → Type 0
IsUnlocked fault.OutOfMemory = ⊤
IsUnlocked (fault.Lock (lock_error.Failed why)) = why.target ≡ Lock
IsUnlocked _ = ⊥

-- the file of this name was not read, or there was no memory: a setup that is not there is no table, and a journal has a fault of its own
abbrev pub IsUnread : List ℕ → TableFault → Type 0
IsUnread name fault.OutOfMemory = ⊤
IsUnread name fault.NoTable = name ≡ codes "setup"
IsUnread name fault.NoJournal = name ≡ codes "journal"
IsUnread name (fault.Unread file why) = file.now ≡ name
IsUnread name _ = ⊥

-- sections for which there was no memory are not refused
abbrev pub fault_of_sections : SectionsFault → TableFault
fault_of_sections Memory = fault.OutOfMemory
fault_of_sections why = fault.Sections why

-- bytes are no setup: they were cut off or changed, or their sections are refused; or there was no memory
abbrev pub IsRefused : TableFault → Type 0
IsRefused fault.OutOfMemory = ⊤
IsRefused fault.CutSetup = ⊤
IsRefused fault.ChangedSetup = ⊤
IsRefused (fault.Sections why) = why ≢ Memory
IsRefused _ = ⊥

-- no setup was read: its file was not, or what stands in it is none
abbrev pub IsNoSetup : TableFault → Type 0
IsNoSetup fault = IsUnread (codes "setup") fault ⊎ IsRefused fault

-- the fault of what people were told already, or of no memory
abbrev pub IsTold : TableFault → Type 0
IsTold fault.OutOfMemory = ⊤
IsTold fault.Told = ⊤
IsTold _ = ⊥

-- a word names no listing: the input failed that it names, or a path is no UTF-8, which is told; or there was no memory
abbrev pub IsUnlisted : List ℕ → TableFault → Type 0
IsUnlisted word fault.OutOfMemory = ⊤
IsUnlisted word fault.Input = bytes_eq word (codes "-") ≡ true
IsUnlisted word fault.Told = ¬ IsUtf8 word
IsUnlisted word _ = ⊥

-- the folder was not made
abbrev pub IsNoFolder : TableFault → Type 0
IsNoFolder (fault.NoFolder why) = ⊤
IsNoFolder _ = ⊥

-- why a run that did not take the lock did not do what was asked
abbrev pub fault_of_lock : LockError → TableFault
fault_of_lock lock_error.OutOfMemory = fault.OutOfMemory
fault_of_lock error = fault.Lock error

-- a journal that is not there is no failure of the disk
abbrev pub fault_of_part : FileFault → Target → Cause → TableFault
fault_of_part file Journal NotThere = fault.NoJournal
fault_of_part file target cause = fault.File file

-- why a run that did not open the journal did not do what was asked
abbrev pub fault_of_open : OpenError → TableFault
fault_of_open open_error.OutOfMemory = fault.OutOfMemory
fault_of_open (open_error.Failed file) = fault_of_part file file.target file.cause

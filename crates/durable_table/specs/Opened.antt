-- What `open` makes of a device.
use Rattle.std.specs.Prelude.{◌≡◌, ◌⊎◌, ℕ, List, true, false, Some, None, Result, Ok, Err}
use Rattle.line_journal.specs.Device.{History}
use Rattle.line_journal.specs.Lines.{lines_of, behind}
use Rattle.line_journal.specs.Journal.{MayCut, IsFound}
use Rattle.line_journal.specs.Renewed.{ReadsAtRest}
use Rattle.line_journal.specs.declared.device.DeviceError.{DeviceError}
use Rattle.line_journal.specs.declared.recovery.Repair.{Repair}
use Rattle.modprobe.specs.Setup.{Setup}
use Rattle.durable_table.specs.Commands.{begins_with_head, link_behind, commands_of, changed_line, is_of}
use Rattle.durable_table.specs.Tables.{table_in, table_of}
use Rattle.durable_table.specs.Durable.{Stands, Reads}
use Rattle.durable_table.specs.declared.opening.OpenedTable.{OpenedTable}
use Rattle.durable_table.specs.declared.opening.Read.{Read}
use Rattle.durable_table.specs.declared.opening.Read.TheVariants as read_as
use Rattle.durable_table.specs.declared.opening.ReadTable.{ReadTable}
use Rattle.durable_table.specs.declared.opening.ReadTable.TheVariants as read_table_as
use Rattle.durable_table.specs.declared.opening.OpenedTable.TheVariants.{Ready, Foreign, Other, Changed, Damaged}

-- the table that the lines of a journal stand for, by the setup of this name, or why there is none
abbrev pub IsReadAs : Setup → List ℕ → List (List ℕ) → Read → Type 0
IsReadAs s name lines (read_as.Table session link) =
    (session.setup.now ≡ s) × (table_in s lines ≡ Some session.holders.held) × (link.items ≡ link_behind lines) × (is_of name lines ≡ true)
IsReadAs s name lines read_as.Foreign = begins_with_head lines ≡ false
IsReadAs s name lines read_as.Other = (begins_with_head lines ≡ true) × (is_of name lines ≡ false)
IsReadAs s name lines (read_as.Changed number) =
    (begins_with_head lines ≡ true) × (commands_of lines ≡ None) × (changed_line lines ≡ Some number)

-- the table that the journal stands for, and what stood behind its lines; or why there is none, and the file as it was
abbrev pub IsOpenedAs : {D : Type 0} → (D → List ℕ) → (D → History) → Setup → List ℕ → Repair → List ℕ → OpenedTable D → Type 0
IsOpenedAs content history s name repair file (Ready t found) =
    Stands content history s t.session.holders.held t.journal
    × (table_of s file ≡ Some t.session.holders.held)
    × (t.session.setup.now ≡ s) × IsFound file found × MayCut repair (behind file)
    × (is_of name (lines_of file) ≡ true) × (lines_of (content t.journal.lines.device) ≡ lines_of file)
IsOpenedAs content history s name repair file (Foreign device) = (content device ≡ file) × (begins_with_head (lines_of file) ≡ false)
IsOpenedAs content history s name repair file (Other device) =
    (content device ≡ file) × (begins_with_head (lines_of file) ≡ true) × (is_of name (lines_of file) ≡ false)
IsOpenedAs content history s name repair file (Changed device number) =
    (content device ≡ file) × (begins_with_head (lines_of file) ≡ true) × (commands_of (lines_of file) ≡ None)
    × (changed_line (lines_of file) ≡ Some number)
IsOpenedAs content history s name repair file (Damaged device found) =
    (content device ≡ file) × IsFound file found × (MayCut repair (behind file) → ⊥)

-- the device that the answer holds
abbrev pub device_after : {D : Type 0} → Result (OpenedTable D) (DeviceError × D) → D
device_after (Ok (Ready t found)) = t.journal.lines.device
device_after (Ok (Foreign device)) = device
device_after (Ok (Other device)) = device
device_after (Ok (Changed device number)) = device
device_after (Ok (Damaged device found)) = device
device_after (Err (error, device)) = device

-- the file does not read as one at rest, or its lines stand for no table, or are of another setup
abbrev pub IsUnread : Setup → List ℕ → List ℕ → Type 0
IsUnread s name file = ((end : ℕ) → ReadsAtRest file end → ⊥) ⊎ (table_of s file ≡ None) ⊎ (is_of name (lines_of file) ≡ false)

-- the table that the journal reads as; or the file as it was, if there is none
abbrev pub IsTableRead : {D : Type 0} → (D → List ℕ) → Setup → List ℕ → List ℕ → ReadTable D → Type 0
IsTableRead content s name file (read_table_as.Ready t) =
    Reads content s t.session.holders.held t.journal
    × (content t.journal.lines.device ≡ file) × (t.session.setup.now ≡ s) × (is_of name (lines_of file) ≡ true)
IsTableRead content s name file (read_table_as.Anew device) = (content device ≡ file) × IsUnread s name file

-- the device that the answer of `open_reading` holds
abbrev pub device_read : {D : Type 0} → Result (ReadTable D) (DeviceError × D) → D
device_read (Ok (read_table_as.Ready t)) = t.journal.lines.device
device_read (Ok (read_table_as.Anew device)) = device
device_read (Err (error, device)) = device

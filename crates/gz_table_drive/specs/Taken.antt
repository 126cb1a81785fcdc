-- What there is of a table that is kept, once it is taken.
use Rattle.std.specs.Prelude.{⊤, ◌≡◌, ℕ, ◌<◌, List, Option, IfSome}
use Rattle.table_folder.specs.declared.folder_setup.FolderSetup.{FolderSetup}
use Rattle.durable_table.specs.Durable.{Reads}
use Rattle.durable_table.specs.declared.durable.DurableTable.{DurableTable}
use Rattle.gz_table_drive.specs.declared.kept.Taken.{Taken}
use Rattle.gz_table_drive.specs.Log.{IsOf}
use Rattle.gz_table_drive.specs.declared.kept.Taken.TheVariants.{Table, Anew, Failed, Missing}

-- A table of the setup, which reads as its journal does now, and that is of the same setup: it was looked at since the table was kept.
-- Or none.
abbrev pub IsTaken : {D T : Type 0} → (D → List ℕ) → (D → ℕ) → FolderSetup → Option (DurableTable D) → Taken D T → Type 0
IsTaken content looks f kept (Table t) =
    (t.session.setup.now ≡ f.setup) × Reads content f.setup t.session.holders.held t.journal × IsOf f (content t.journal.lines.device)
    × IfSome kept (λ old. looks old.journal.lines.device < looks t.journal.lines.device)
IsTaken content looks f kept (Anew device) = ⊤
IsTaken content looks f kept (Failed device) = ⊤
IsTaken content looks f kept (Missing turn) = ⊤

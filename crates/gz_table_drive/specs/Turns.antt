-- The lock that lines want.
use Rattle.std.specs.Prelude.{◌≡◌, ℕ, List}
use Rattle.durable_table.specs.Groups.{AreAsking}
use Rattle.file_journal.specs.declared.lock.LockKind.TheVariants.{Exclusive}
use Rattle.gz_table_drive.specs.declared.tenure.Turn.{Turn}
use Rattle.gz_table_drive.specs.declared.tenure.Turn.TheVariants.{Asking, Changing}

-- it is shared if all of them ask, and nobody else has it otherwise
abbrev pub IsTurnFor : List (List ℕ) → Turn → Type 0
IsTurnFor lines (Asking lock) = AreAsking lines
IsTurnFor lines (Changing lock) = lock.kind ≡ Exclusive

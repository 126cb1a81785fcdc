-- A table over a catalogue.
use Rattle.std.specs.Prelude.{◌≤◌, List, length}
use Rattle.dep_index.specs.Table.{Module, Table as OneThread}
use Rattle.dep_index.specs.Laws.{IsShaped, IsLawful}

-- the catalogue that a table is over, and the table
pub record Over : Type 0 where
  pub catalogue : List Module
  pub table : OneThread

-- the table has its limits, its shape and its laws
pub record IsKept (catalogue : List Module) (table : OneThread) : Type 0 where
  pub slots : length catalogue ≤ 65535
  pub workers : length table.rows ≤ 64
  pub shape : IsShaped (length catalogue) (length table.rows) table
  pub lawful : IsLawful catalogue table

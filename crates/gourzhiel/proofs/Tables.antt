-- The seats of a new row are a table.
use Rattle.std.proofs.Common.{◌≡◌, ℕ, List, refl, sym, subst}
use Rattle.dep_index.specs.Table.{Module}
use Rattle.root_row.specs.Seats.{RowIs, Seated}
use Rattle.root_row.specs.Made.{AreNew, new_leaf, new_reader, new_book}
use Rattle.gourzhiel.specs.Making.{IsTable}

module _ (modules : List Module) (workers count : ℕ) (row : RowIs) (of_world : row.world ≡ record { catalogue = modules; workers = workers }) where
  pub table_of : (book : Seated) (leaves readers leaf_seats read_seats : List Seated) → book ≡ new_book row.id row.world → leaves ≡ leaf_seats → readers ≡ read_seats
      → AreNew (new_leaf row.id row.world) workers leaf_seats → AreNew (new_reader row.id row.world) count read_seats → IsTable modules workers count book leaves readers
  table_of book leaves readers leaf_seats read_seats is same_leaves same_readers new_leaves new_readers =
      subst (λ (b : Seated). IsTable modules workers count b leaves readers) (sym is) (record {
        world = of_world;
        new_book = refl;
        new_leaves = subst (AreNew (new_leaf row.id row.world) workers) (sym same_leaves) new_leaves;
        new_readers = subst (AreNew (new_reader row.id row.world) count) (sym same_readers) new_readers;
      })

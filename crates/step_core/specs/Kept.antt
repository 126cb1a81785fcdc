-- For proofs alone: what a write needs.
use Rattle.std.specs.Prelude.{ℕ, ◌≡◌, ◌<◌, [], length, slice_index_or}
use Rattle.dep_index.specs.declared.table.calls.Call.{Call}
use Rattle.dep_index.specs.declared.table.calls.Call.TheVariants.{Get, BeginLoad}
use Rattle.dep_index.specs.Table.{Table, count_of}
use Rattle.dep_index.specs.Calls.{IsInRange}

-- what a write needs: slot and worker are there, a count stays short, and the order has room
pub record CanWrite (written : Table) (call : Call) : Type 0 where
  pub range : IsInRange (length written.book.states) (length written.rows) call
  pub slots : (w : ℕ) → w < length written.rows
      → length (slice_index_or written.rows w []) ≡ length written.book.states
  pub count : (w m : ℕ) → call ≡ Get w m → count_of written w m < 65535
  pub order : (m : ℕ) → call ≡ BeginLoad m → length written.book.order < length written.book.states

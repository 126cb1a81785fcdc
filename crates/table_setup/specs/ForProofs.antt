-- What clauses within the crate see of its values.
use Rattle.table_setup.specs.Sums.{Sums}
use Rattle.table_setup.specs.declared.sums.Sums as kept

-- the two sums, as they are kept
abbrev pub sums_in : kept.Sums → Sums
sums_in sums = record { low = sums.low; high = sums.high }

-- What keeps a module in the table.
use Rattle.std.specs.Prelude.{ℕ, nat_lt, List, filter, length}
use Rattle.std.specs.List.{range_with_len}
use Rattle.dep_index.specs.Table.{Table, count_of}

-- the workers that hold the module in a slot, in their order
abbrev pub holders_of : Table → ℕ → List ℕ
holders_of table slot = filter (λ worker. nat_lt 0 (count_of table worker slot)) (range_with_len 0 (length table.rows))

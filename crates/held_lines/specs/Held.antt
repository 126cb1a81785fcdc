-- What a line makes of the table's holders, beside what the table does.
use Rattle.std.specs.Prelude.{ℕ, Bool, true, false, List, [], slice_index_or, slice_set}
use Rattle.dep_index.specs.Table.{Table}
use Rattle.held_table.specs.Held.{Held, settled, with_row}

abbrev pub holding : Table → List (List ℕ) → Held
holding table names = record { table = table; names = names }

-- the holder has given back all references to a module
abbrev pub given_back : ℕ → ℕ → Table → Table
given_back number slot t = with_row t number (slice_set (slice_index_or t.rows number []) slot 0)

-- a holder that came in anew goes again, if it holds nothing
abbrev pub let_out : Bool → ℕ → Held → Held
let_out true number h = settled h number
let_out false number h = h

-- Texts of a folder of modules.
use Rattle.std.specs.Prelude.{ℕ, ◌-◌, ◌==◌, ◌&&◌, nat_lt, not, Bool, List, length, slice_index}

-- a text that ends within a line
abbrev pub is_cut : List ℕ → Bool
is_cut text = nat_lt 0 (length text) && not (slice_index text (length text - 1) == 10)

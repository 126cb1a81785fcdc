-- The order of the names that are read of a machine only to explain an answer.
use Rattle.std.specs.Prelude.{ℕ}
use Rattle.std.specs.Cmp.Lexicographic.{slice_cmp}
use Rattle.std.specs.Global.{Vec}
use Rattle.std.specs.Ordering.{nat_cmp}
use Rattle.std.specs.declared.cmp.Ordering.{Ordering}

-- by their bytes; what ends first comes first
abbrev pub by_bytes : Vec ℕ → Vec ℕ → Ordering
by_bytes name other = slice_cmp nat_cmp name.items other.items

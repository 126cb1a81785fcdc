-- Which names of a folder are files of a configuration, and in which order they are read (modprobe.d(5)).
use Rattle.std.specs.Prelude.{ℕ, ◌-◌, Bool, not, ◌&&◌, nat_lt, List, length, drop, codes, nat_eq}
use Rattle.std.specs.Cmp.Lexicographic.{slice_cmp}
use Rattle.std.specs.Global.{Vec}
use Rattle.std.specs.List.{starts_with}
use Rattle.std.specs.Ordering.{nat_cmp}
use Rattle.std.specs.Str.{bytes_eq}
use Rattle.std.specs.declared.cmp.Ordering.{Ordering}

-- a name of a folder counts if it ends in `.conf`, has a byte before that, and begins with no dot
abbrev pub counts : List ℕ → Bool
counts name =
    not (starts_with nat_eq name (codes ".")) && nat_lt 5 (length name) && bytes_eq (drop (length name - 5) name) (codes ".conf")

abbrev pub is_counted : Vec ℕ → Bool
is_counted name = counts name.items

-- by their bytes; what ends first comes first
abbrev pub by_bytes : Vec ℕ → Vec ℕ → Ordering
by_bytes name other = slice_cmp nat_cmp name.items other.items

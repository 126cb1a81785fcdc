-- Who wrote a file of the configuration.
use Rattle.std.specs.Prelude.{ℕ, nat_eq, Bool, ◌||◌, List, codes}
use Rattle.std.specs.List.{starts_with}

-- packages fill these folders, and nobody else (modprobe.d(5))
abbrev pub is_of_package : List ℕ → Bool
is_of_package path = starts_with nat_eq path (codes "/usr/lib/modprobe.d/") || starts_with nat_eq path (codes "/lib/modprobe.d/")

-- Which files of a configuration are those of a folder of modules.
use Rattle.std.specs.Prelude.{ℕ, nat_eq, Bool, ◌&&◌, ◌||◌, List, codes, drop, length}
use Rattle.std.specs.List.{starts_with}
use Rattle.std.specs.Str.{bytes_eq}

abbrev pub is_dependency_file : List ℕ → Bool
is_dependency_file name = bytes_eq name (codes "/modules.softdep") || bytes_eq name (codes "/modules.weakdep")

-- depmod(8) writes modules.softdep, and modules.weakdep beside it, into the folder of modules
abbrev pub is_of_folder : List ℕ → List ℕ → Bool
is_of_folder directory path =
    starts_with nat_eq path directory && is_dependency_file (drop (length directory) path)

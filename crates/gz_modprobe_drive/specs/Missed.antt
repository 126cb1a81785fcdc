-- Which files of the configuration were read, by their names (modprobe.d(5)).
use Rattle.std.specs.Prelude.{ℕ, ◌-◌, Bool, not, ◌&&◌, ◌||◌, nat_eq, List, codes, drop, length, take, Vec}
use Rattle.std.specs.Global.{Global}
use Rattle.std.specs.List.{ends_with, list_all, list_any}
use Rattle.std.specs.Str.{bytes_eq}
use Rattle.kmod_version.specs.declared.kmod.Kmod.{Kmod}
use Rattle.modprobe_files.specs.Files.{is_read}
use Rattle.modprobe_files.specs.declared.texts.TextFile.{TextFile}

-- a path is that of a file of this name in some folder
abbrev pub has_name : List ℕ → List ℕ → Bool
has_name path name =
    ends_with nat_eq (take (length path - length name) path) (codes "/") && bytes_eq (drop (length path - length name) path) name

abbrev pub is_of_name : List ℕ → TextFile → Bool
is_of_name name file = has_name file.path.items name

-- a file of this name was read
abbrev pub has_file : List TextFile → List ℕ → Bool
has_file files name = list_any (is_of_name name) files

-- a name is not to be read, or a file of it was
abbrev pub was_read : Kmod → List TextFile → List ℕ → Bool
was_read kmod files name = not (is_read kmod name) || has_file files name

abbrev pub is_name_read : Kmod → List TextFile → Vec ℕ Global → Bool
is_name_read kmod files name = was_read kmod files name.items

-- all names of a folder that are to be read were
abbrev pub are_read : Kmod → List TextFile → List (Vec ℕ Global) → Bool
are_read kmod files names = list_all (is_name_read kmod files) names

-- In what kmod 30 and kmod 34 differ (kmod's NEWS, 31 to 34).
use Rattle.std.specs.Prelude.{ℕ, Bool, nat_le, nat_lt, if◌then◌else◌, List, codes, Option, Some, None}
use Rattle.std.specs.Str.{bytes_eq}
use Rattle.kmod_version.specs.declared.kmod.Kmod.{Kmod}
use Rattle.kmod_version.specs.declared.kmod.Kmod.TheVariants.{Version30, Version34}

-- the version of a number
abbrev pub kmod_of : List ℕ → Option Kmod
kmod_of number =
    if bytes_eq number (codes "30") then Some Version30 else (if bytes_eq number (codes "34") then Some Version34 else None)

abbrev pub number_of : Kmod → ℕ
number_of Version30 = 30
number_of Version34 = 34

-- since kmod 33 `weakdep` is the first word of a line, and modules.weakdep a file of the configuration
abbrev pub knows_weakdeps : Kmod → Bool
knows_weakdeps kmod = nat_le 33 (number_of kmod)

-- up to kmod 32 files whose names end in `.alias` are read
abbrev pub reads_alias_files : Kmod → Bool
reads_alias_files kmod = nat_lt (number_of kmod) 33

-- since kmod 32 the distribution has a folder of its own, which is /usr/lib/modprobe.d
abbrev pub reads_usr_lib : Kmod → Bool
reads_usr_lib kmod = nat_le 32 (number_of kmod)

-- up to kmod 33 a dangling link of a folder of the configuration counts as a file (symlink(7))
abbrev pub counts_dangling_links : Kmod → Bool
counts_dangling_links kmod = nat_le (number_of kmod) 33

-- up to kmod 33 the end of a text after a backslash is read as the byte 255
abbrev pub reads_end_as_byte : Kmod → Bool
reads_end_as_byte kmod = nat_lt (number_of kmod) 34

-- since kmod 31 a name may be the path of a module's file
abbrev pub takes_paths : Kmod → Bool
takes_paths kmod = nat_le 31 (number_of kmod)

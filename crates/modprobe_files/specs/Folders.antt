-- Where the configuration lies (modprobe.d(5)).
use Rattle.std.specs.Prelude.{ℕ, nat_lt, if◌then◌else◌, List, [], ◌∷◌, length, codes}
use Rattle.kmod_version.specs.declared.kmod.Kmod.{Kmod}
use Rattle.kmod_version.specs.Versions.{knows_weakdeps, reads_usr_lib}
use Rattle.modprobe_files.specs.Files.{Source, single_in}

-- The folders by their rank: of files of one name that of the first folder counts.
abbrev pub folders : Kmod → List (List ℕ)
folders kmod =
    codes "/etc/modprobe.d" ∷ codes "/run/modprobe.d" ∷ codes "/usr/local/lib/modprobe.d"
    ∷ (if reads_usr_lib kmod then codes "/usr/lib/modprobe.d" ∷ codes "/lib/modprobe.d" ∷ [] else codes "/lib/modprobe.d" ∷ [])

-- the paths of a configuration by their rank: those that a command line names, or the folders
abbrev pub paths_by_rank : Kmod → List (List ℕ) → List (List ℕ)
paths_by_rank kmod named = if nat_lt 0 (length named) then named else folders kmod

-- the files of the folder of modules that belong to the configuration
abbrev pub own_sources : Kmod → List ℕ → List Source
own_sources kmod directory =
    single_in directory (codes "modules.softdep")
    ∷ (if knows_weakdeps kmod then single_in directory (codes "modules.weakdep") ∷ [] else [])

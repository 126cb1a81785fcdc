-- What is taken of a machine: which printed path, which folder of modules, and which files are read.
use Rattle.std.specs.Prelude.{◌≡◌, ℕ, nat_lt, nat_eq, Bool, true, false, not, ◌||◌, List, [], ◌∷◌, ◌++◌, length, map, codes, Option, Some, unwrap_or}
use Rattle.std.specs.List.{starts_with}
use Rattle.kmod_version.specs.declared.kmod.Kmod.{Kmod}
use Rattle.modprobe_files.specs.Files.{File, Source, counted_files, path_of}
use Rattle.modprobe_files.specs.Folders.{own_sources, paths_by_rank}

-- a path that is printed as it stands: the empty one, and one that begins at the root
abbrev pub is_whole : List ℕ → Bool
is_whole path = not (nat_lt 0 (length path)) || starts_with nat_eq path (codes "/")

-- how a path is printed: as it stands, or else behind some folder and a slash; with a root that folder is `/`
pub record IsPrinted (is_rooted : Bool) (path printed : List ℕ) : Type 0 where
  pub whole : is_whole path ≡ true → printed ≡ path
  pub below : is_whole path ≡ false → (folder : List ℕ) × (printed ≡ folder ++ 47 ∷ path) × (is_rooted ≡ true → folder ≡ codes "/")

-- a folder of modules: below the directory that is asked for, of the release that is asked for, or else of some release
abbrev pub IsDirectory : Bool → Option (List ℕ) → Option (List ℕ) → List ℕ → Type 0
IsDirectory is_rooted directory release folder =
    (parent : List ℕ) × (own : List ℕ) × (folder ≡ parent ++ codes "/lib/modules/" ++ own)
    × IsPrinted is_rooted (unwrap_or directory []) parent
    × ((asked : List ℕ) → release ≡ Some asked → own ≡ asked)

-- some of a list, in their order: each is taken or left out, one behind another
pub data AreSomeOf : List (List ℕ) → List (List ℕ) → Type 0 where
  none : AreSomeOf [] []
  taken : (some all : List (List ℕ)) (one : List ℕ) → AreSomeOf some all → AreSomeOf (some ++ one ∷ []) (all ++ one ∷ [])
  left_out : (some all : List (List ℕ)) (one : List ℕ) → AreSomeOf some all → AreSomeOf some (all ++ one ∷ [])

-- the sources of a configuration: the files of the folder of modules, and what stands at some of the paths by their rank
abbrev pub AreSources : Kmod → List ℕ → List (List ℕ) → List Source → Type 0
AreSources kmod directory named sources =
    (found : List Source) × (sources ≡ own_sources kmod directory ++ found)
    × AreSomeOf (map path_of found) (paths_by_rank kmod named)

abbrev pub paths_of_files : List File → List (List ℕ)
paths_of_files files = map (λ file. file.path) files

-- the files that count of such sources
abbrev pub AreCounted : Kmod → List ℕ → List (List ℕ) → List File → Type 0
AreCounted kmod directory named files =
    (sources : List Source) × AreSources kmod directory named sources × (files ≡ counted_files kmod sources)

-- the paths of files that are read: some of those of the files that count, in their order
abbrev pub AreRead : Kmod → List ℕ → List (List ℕ) → List (List ℕ) → Type 0
AreRead kmod directory named paths = (files : List File) × AreCounted kmod directory named files × AreSomeOf paths (paths_of_files files)

-- Paths of modules' files that are given for names (modprobe(8), since kmod 31).
use Rattle.std.specs.Prelude.{ℕ, Bool, ◌&&◌, if◌then◌else◌, List, find, Option, Some, None, is_none, option_map}
use Rattle.std.specs.Str.{bytes_eq}
use Rattle.kmod_query.specs.declared.paths.AtPath.{AtPath}
use Rattle.kmod_query.specs.declared.paths.OwnFile.{OwnFile}
use Rattle.kmod_query.specs.declared.paths.PathWord.{PathWord}

-- what stands at a word, if it is one of these paths
abbrev pub at_path_of : List PathWord → List ℕ → Option AtPath
at_path_of paths word = option_map (λ own. own.at) (find (λ own. bytes_eq word own.word) paths)

-- a module and its file, by their bytes
abbrev pub own_of : Option OwnFile → Option (List ℕ × List ℕ)
own_of own = option_map (λ own. (own.name.now, own.file.now)) own

-- whether a name and the alias by which it came are a module that came by its own name
abbrev pub is_named : List ℕ → List ℕ → Option (List ℕ) → Bool
is_named own name alias = is_none alias && bytes_eq name own

-- the file that stands for a module's, if this is the module and it came by its own name
abbrev pub own_file : Option (List ℕ × List ℕ) → List ℕ → Option (List ℕ) → Option (List ℕ)
own_file None name alias = None
own_file (Some own) name alias = if is_named own.0 name alias then Some own.1 else None
